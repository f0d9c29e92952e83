-- The volume that stands in for a whole one is a way.
use Rattle.std.specs.Prelude.{◌≡◌, ℕ, zero, suc, ◌+◌, ◌<◌, ◌≤◌, false, List, length}
use Rattle.std.specs.List.{range_with_len}
use Rattle.std.proofs.Common.{inl, inr, refl, sym, ◌∙◌, ap, subst, lit≤, arith}
use Rattle.unit_id.specs.Lists.{IsIn}
use Rattle.unit_id.specs.Place.{Location}
use Rattle.volume_entry.specs.Manager.{IsDisk, home_at}
use Rattle.volume_world.specs.declared.trace.Trace.{Trace}
use Rattle.volume_world.specs.Way.{IsWay, IsFirst, shape_of}
use Rattle.volume_calls.specs.StandIn.{stand_view, stand_homes, stand_origin}

home_is : (i : ℕ) → i < 6 → home_at stand_homes i ≡ record { epoch = 1; disk = i + 1 }
home_is zero h = refl
home_is (suc zero) h = refl
home_is (suc (suc zero)) h = refl
home_is (suc (suc (suc zero))) h = refl
home_is (suc (suc (suc (suc zero)))) h = refl
home_is (suc (suc (suc (suc (suc zero))))) h = refl
home_is (suc (suc (suc (suc (suc (suc i)))))) h = absurd (omega arith)

stand_first : IsFirst (shape_of stand_origin) stand_origin.start
stand_first = record {
  homes = stand_homes;
  is_made = λ place. false;
  legal = record {
    count = refl;
    epochs = λ i h. subst (λ (x : Location). (1 ≤ x.epoch) × (x.epoch ≤ 16777215)) (sym (home_is i h)) (lit≤ tt, lit≤ tt);
    disks = λ i h. subst (λ (x : Location). IsDisk (shape_of stand_origin) x.disk) (sym (home_is i h)) (record { first = omega arith; last = omega arith });
    apart = λ i j h k e. let same : i + 1 ≡ j + 1 = sym (ap (λ (x : Location). x.disk) (home_is i h)) ∙ e ∙ ap (λ (x : Location). x.disk) (home_is j k) in omega arith;
  };
  made = λ p e. absurd (cc);
  state = refl;
}

below : (n from count : ℕ) → IsIn n (range_with_len from count) → n < from + count
below n from zero h = absurd h
below n from (suc count) (inl e) = omega arith
below n from (suc count) (inr h) = let less = below n (from + 1) count h in omega arith

pub stand_way : (entries : List Trace) → IsWay (stand_view entries)
stand_way entries = record {
  first = stand_first;
  somewhere = λ e. absurd (cc);
  led = λ e w at. absurd at;
  own = record { below = λ n i. let less = below n 0 (length entries) i in omega arith };
  alone = λ e. refl;
}
