use Rattle.std.proofs.Common.{◌∙◌, sym, ap, subst}
use Rattle.std.specs.Prelude.{◌==◌}
use Rattle.std.specs.List.{list_any}
use Rattle.rs_code.specs.Differences.{IsApartFrom}
use Rattle.rs_code.proofs.Differences.{apart_when_none}
use Rattle.rs_code.proofs.known_places.KnownPlaces.weights.Goals as goal

pub weights_apart-requires-clause-apart : goal.weights_apart-requires-clause-apart
weights_apart-requires-clause-apart c = subst (IsApartFrom c.args.r) (sym c.deref-then-not-contains.ensures.value) (apart_when_none c.self.inside.places.items c.args.r
    (ap (list_any (λ z. z == c.args.r)) (sym c.deref.ensures.value) ∙ sym c.contains.ensures.value ∙ c.if-not-contains.true))
