use Rattle.std.proofs.Common.{sym, subst}
use Rattle.std.proofs.lemmas.Result.{on_ok_weaker}
use Rattle.unit_id.specs.Messages.{request_of, answer_of}
use Rattle.volume_entry.specs.ManagerStep.{hear}
use Rattle.volume_entry.specs.HeardMemory.{Remembers}
use Rattle.volume_entry.proofs.heard.Heard.hear.Goals as goal

pub returns-in-List-clause-heard : goal.returns-in-List-clause-heard
returns-in-List-clause-heard c =
    on_ok_weaker c.hear_list.result
    (λ heard total m homes lock told. subst (λ r. Remembers total c.hear_list.new.self (hear (request_of r) (answer_of c.args.answer.now) m)) (sym c.in-List.is) (heard 0 total m homes lock told))
    c.hear_list.ensures.heard

pub returns-in-Copy-clause-heard : goal.returns-in-Copy-clause-heard
returns-in-Copy-clause-heard c =
    on_ok_weaker c.hear_copy.result
    (λ heard total m homes lock told. subst (λ r. Remembers total c.hear_copy.new.self (hear (request_of r) (answer_of c.args.answer.now) m)) (sym c.in-Copy.is) (heard 0 total m lock told))
    c.hear_copy.ensures.heard

pub returns-in-Mark-clause-heard : goal.returns-in-Mark-clause-heard
returns-in-Mark-clause-heard c =
    on_ok_weaker c.hear_mark.result
    (λ heard total m homes lock told. subst (λ r. Remembers total c.hear_mark.new.self (hear (request_of r) (answer_of c.args.answer.now) m)) (sym c.in-Mark.is) (heard 0 total m lock told))
    c.hear_mark.ensures.heard

pub returns-in-Fence-clause-heard : goal.returns-in-Fence-clause-heard
returns-in-Fence-clause-heard c total m homes lock told =
    subst (λ r. Remembers total c.hear_fenced.new.self (hear (request_of r) (answer_of c.args.answer.now) m)) (sym c.in-Fence.is) (c.hear_fenced.ensures 0 total m lock told)

pub returns-in-Release-clause-heard : goal.returns-in-Release-clause-heard
returns-in-Release-clause-heard c total m homes lock told =
    subst (λ r. Remembers total c.hear_released.new.self (hear (request_of r) (answer_of c.args.answer.now) m)) (sym c.in-Release.is) (c.hear_released.ensures total m lock told)
