use Rattle.std.proofs.Common.{sym, ◌∙◌, arith}
use Rattle.code_mode.specs.Mode.{data_count}
use Rattle.migrate_task.proofs.MergeLemmas.{due_mark, due_copy, due_left}
use Rattle.migrate_task.proofs.merging.due_of.Goals as goal

pub returns-then-is_marked : goal.returns-then-is_marked
returns-then-is_marked c = λ listings h. due_mark (data_count c.args.mode) listings c.args.heard.now c.args.bid h (sym c.is_marked.ensures ∙ c.if-is_marked.true)

pub returns-then-n-live_count : goal.returns-then-n-live_count
returns-then-n-live_count c = λ listings h.
    due_copy (data_count c.args.mode) listings c.args.heard.now c.args.bid h (sym c.is_marked.ensures ∙ c.if-is_marked.false) (omega (arith, c.n.ensures.value, c.live_count.ensures, c.if-n-live_count.true))

pub returns : goal.returns
returns c = λ listings h.
    due_left (data_count c.args.mode) listings c.args.heard.now c.args.bid h (sym c.is_marked.ensures ∙ c.if-is_marked.false) (omega (arith, c.n.ensures.value, c.live_count.ensures, c.if-n-live_count.false))
