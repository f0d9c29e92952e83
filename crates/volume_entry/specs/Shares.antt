-- What a blob gets, as the code says it.
use Rattle.volume_entry.specs.Benchmark.{Due}
use Rattle.volume_entry.specs.declared.settling.Share.{Share}
use Rattle.volume_entry.specs.declared.settling.Share.TheVariants as shares

abbrev pub due_of : Share → Due
due_of shares.Mark = Due.Mark
due_of shares.Copy = Due.Copy
due_of shares.Nothing = Due.Left
