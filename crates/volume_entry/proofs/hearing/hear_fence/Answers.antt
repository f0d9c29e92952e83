use Rattle.std.proofs.Common.{◌≡◌, ◌∙◌, sym, ap, true, ◌&&◌, option_copied}
use Rattle.unit_id.proofs.Bools.{and_both}
use Rattle.unit_id.specs.Messages.{place_at}
use Rattle.unit_id.specs.UnitName.{Name}
use Rattle.volume_entry.specs.Manager.{has_number, is_old, transfers_of}
use Rattle.volume_entry.proofs.HeardAnswers.{fence_tells}
use Rattle.volume_entry.proofs.hearing.hear_fence.Goals as goal

pub returns : goal.returns
returns c =
    let held = option_copied c.args.lock in
    let place = place_at c.args.unit 0 in
    let number : has_number held c.args.number ≡ true = sym c.if-not-has_number.ensures in
    let old : is_old (transfers_of held) place ≡ true = ap (λ ts. is_old ts place) (sym c.transfers_of.ensures) ∙ sym c.if-not-is_old.ensures in
    fence_tells (transfers_of held) c.args.moves.now c.fence.new.moves place c.unit.inside.index (ap (λ (n : Name). n.index) c.unit.view_is)
    (has_number held c.args.number && is_old (transfers_of held) place) (and_both (has_number held c.args.number) (is_old (transfers_of held) place) number old) old c.fence.ensures
