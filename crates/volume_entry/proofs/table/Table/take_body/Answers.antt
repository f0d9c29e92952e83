use Rattle.std.proofs.lemmas.Result.{IfOk-weaker}
use Rattle.volume_entry.specs.RecordBytes.{record_of}
use Rattle.volume_entry.specs.Replaying.{TakesBody}
use Rattle.volume_entry.specs.TableParts.{part_of, shape_of, TakesLegal}
use Rattle.volume_entry.proofs.Replays.{takes_body}
use Rattle.volume_entry.proofs.table.Table.take_body.Goals as goal

pub returns-in-Some-clause-taken : goal.returns-in-Some-clause-taken
returns-in-Some-clause-taken c =
    let old = part_of c.args.self.now in
    let new = part_of c.take_legal.new.self in
    let item = record_of c.in-Some.item in
    IfOk-weaker c.take_legal.result (TakesLegal (shape_of c.args.shape) item old new) (TakesBody c.args.vid c.args.shape c.args.body.now old new)
    (takes_body c.args.vid c.args.shape item c.args.body.now old new (rw c.in-Some.is at c.in_ok-item.ensures)) c.take_legal.ensures.taken
