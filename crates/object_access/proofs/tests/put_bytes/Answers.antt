use Rattle.std.proofs.Common.{◌≤◌, length, arith}
use Rattle.object_access.proofs.PieceLemmas.{bids_from_one}
use Rattle.object_access.proofs.tests.put_bytes.Goals as goal

pub put_object-requires-clause-numbers : goal.put_object-requires-clause-numbers
put_object-requires-clause-numbers c = bids_from_one (length c.args.bytes.now) (omega arith) (omega arith)
