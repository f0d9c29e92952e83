-- What a slot says of its place.
use Rattle.std.proofs.Common.{◌≡◌, ◌↔◌, true, false, Option, Some, None, is_some, IsTrue, IfSome, refl}
use Rattle.disk_base.specs.Places.{Place, Unknown, Absent, Away, Kept, is_there, Keeps, IfKept, place_of}

module _ {T : Type 0} where
  pub keeps : (old new : Place T) → new ≡ old → Keeps old new
  keeps Unknown new is = tt
  keeps Absent new is = is
  keeps Away new is = is
  keeps (Kept x) new is = is

  pub slot_there : (slot : Option (Option T)) → is_some slot ≡ true → is_there (place_of slot) ≡ Some true
  slot_there None there = cc there
  slot_there (Some None) there = refl
  slot_there (Some (Some x)) there = refl

  -- a fact that holds exactly where there is a slot
  pub there_at : (slot : Option (Option T)) (P : Type 0) → (P ↔ (is_some slot ≡ true)) → IfSome (is_there (place_of slot)) (λ there. P ↔ IsTrue there)
  there_at None P iff = iff
  there_at (Some None) P iff = iff
  there_at (Some (Some x)) P iff = iff

  -- a fact that holds exactly where there is none
  pub absent_at : (slot : Option (Option T)) (P : Type 0) → (P ↔ (slot ≡ None)) → IfSome (is_there (place_of slot)) (λ there. P ↔ (there ≡ false))
  absent_at None P iff = (λ p. refl, λ h. iff.1 refl)
  absent_at (Some None) P iff = (λ p. absurd (cc (iff.0 p)), λ h. absurd (cc h))
  absent_at (Some (Some x)) P iff = (λ p. absurd (cc (iff.0 p)), λ h. absurd (cc h))

  -- a slot that isn't out and isn't absent has something
  pub if_kept : (slot : Option (Option T)) (P : T → Type 0) → IfSome slot (λ was. IfSome was P) → IfKept (place_of slot) P
  if_kept None P is = tt
  if_kept (Some None) P is = tt
  if_kept (Some (Some x)) P is = is

  pub there_slot : (slot : Option (Option T)) → is_there (place_of slot) ≡ Some true → is_some slot ≡ true
  there_slot None there = cc there
  there_slot (Some None) there = refl
  there_slot (Some (Some x)) there = refl
