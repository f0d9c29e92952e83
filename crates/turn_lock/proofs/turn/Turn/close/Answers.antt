use Rattle.std.proofs.Common.{◌∙◌, Some, length, ap, sym, subst}
use Rattle.turn_lock.specs.Known.{IsEachOnce}
use Rattle.turn_lock.proofs.Kept.{same_some}
use Rattle.turn_lock.proofs.Tokens.{ends}
use Rattle.turn_lock.proofs.turn.Turn.close.Goals as goal

pub unreachable-requires : goal.unreachable-requires
unreachable-requires g c =
    let is = c.token.view_is in
    let e = ends _ _ _ _ _ _ _ (ap (λ k. k.parts) is ∙ c.requires.whole) (ap (λ k. k.holds) is ∙ c.requires.idle) c.close_with-closed.ensures.values.2 c.take-value.ensures.value in
    absurd (cc (c.in-None.is, e.is))

pub returns-clause-origin : goal.returns-clause-origin
returns-clause-origin g c =
    let is = c.token.view_is in
    let e = ends _ _ _ _ _ _ _ (ap (λ k. k.parts) is ∙ c.requires.whole) (ap (λ k. k.holds) is ∙ c.requires.idle) c.close_with-closed.ensures.values.2 c.take-value.ensures.value in
    let same = same_some (sym e.is ∙ c.in-Some.is) in
    sym (ap (λ k. k.origin) is) ∙ e.origin_is ∙ ap (λ x. Some (g.T.Recorded.origin x)) same

pub returns-clause-past : goal.returns-clause-past
returns-clause-past g c =
    let is = c.token.view_is in
    let e = ends _ _ _ _ _ _ _ (ap (λ k. k.parts) is ∙ c.requires.whole) (ap (λ k. k.holds) is ∙ c.requires.idle) c.close_with-closed.ensures.values.2 c.take-value.ensures.value in
    let same = same_some (sym e.is ∙ c.in-Some.is) in
    sym (ap (λ x. g.T.Recorded.past x) same) ∙ e.past_is ∙ ap (λ k. k.seen) is

pub returns-clause-places : goal.returns-clause-places
returns-clause-places g c =
    let is = c.token.view_is in
    let e = ends _ _ _ _ _ _ _ (ap (λ k. k.parts) is ∙ c.requires.whole) (ap (λ k. k.holds) is ∙ c.requires.idle) c.close_with-closed.ensures.values.2 c.take-value.ensures.value in
    subst (λ k. IsEachOnce (length k.seen) k.places) is e.places
