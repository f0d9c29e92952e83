use Rattle.std.proofs.Common.{◌≡◌, ◌++◌, take}
use Rattle.std.specs.List.{flat_map}
use Rattle.volume_entry.specs.Spelling.{grant_bytes, DoGrantsFit}
use Rattle.volume_entry.proofs.writing.add_grants.Given as goal

abbrev pub invariant-loop-grant : goal.invariant-loop-grant
invariant-loop-grant l = record {
  added : l.out.items ≡ l.fn.out.items ++ flat_map grant_bytes (take l.grant-index l.grants);
  fits : DoGrantsFit (take l.grant-index l.grants);
}
