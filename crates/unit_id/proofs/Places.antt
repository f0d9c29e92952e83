-- Places are the same where their numbers are.
use Rattle.std.proofs.Common.{◌≡◌, true, refl}
use Rattle.std.specs.Prelude.{◌&&◌, ◌==◌}
use Rattle.std.proofs.lemmas.Bool.{eqb-true}
use Rattle.unit_id.specs.Place.{Place, is_place}
use Rattle.unit_id.proofs.Bools.{and_left, and_right, and_both, equal_test}

pub same_place : (p q : Place) → p.index ≡ q.index → p.epoch ≡ q.epoch → p.disk ≡ q.disk → p ≡ q
same_place p q e f g = λ k. record { index = e k; epoch = f k; disk = g k }

pub is_place_gives : (p q : Place) → is_place p q ≡ true → p ≡ q
is_place_gives p q h =
    let a = and_left (p.index == q.index) ((p.epoch == q.epoch) && (p.disk == q.disk)) h in
    let b = and_right (p.index == q.index) ((p.epoch == q.epoch) && (p.disk == q.disk)) h in
    same_place p q (eqb-true p.index q.index a) (eqb-true p.epoch q.epoch (and_left (p.epoch == q.epoch) (p.disk == q.disk) b)) (eqb-true p.disk q.disk (and_right (p.epoch == q.epoch) (p.disk == q.disk) b))

pub is_place_self : (p : Place) → is_place p p ≡ true
is_place_self p = and_both (p.index == p.index) ((p.epoch == p.epoch) && (p.disk == p.disk)) (equal_test p.index p.index refl)
    (and_both (p.epoch == p.epoch) (p.disk == p.disk) (equal_test p.epoch p.epoch refl) (equal_test p.disk p.disk refl))
