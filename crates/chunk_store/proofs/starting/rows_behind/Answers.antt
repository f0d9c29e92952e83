use Rattle.std.proofs.Common.{◌≡◌, IfSome, subst}
use Rattle.gate_log.specs.LogFile.{holds, contents_of, bodies_of}
use Rattle.chunk_store.proofs.ReadAll.{rows_say}
use Rattle.chunk_store.proofs.starting.rows_behind.Goals as goal

pub returns-clause-answer : goal.returns-clause-answer
returns-clause-answer g c =
    rows_say c.args.unit c.read_rows.new.cursor (g.E.Extent.seen c.args.log.now.file).content c.in_ok-rows.rows c.in_ok-rows.ensures.named c.in_ok-rows.ensures.rows
    (subst (λ o. IfSome o (λ file. contents_of file ≡ holds (bodies_of file))) c.read_rows.ensures.reads.same c.in_ok-finish_log.ensures.answer)
