-- Old units are fenced, released or broken.
-- Why every move keeps it: only a swap makes units old, and it asks that each is fenced or broken; only an unlock ends a swapped lock, and
-- it asks that each old unit is released or broken.
use Rattle.std.specs.Prelude.{ℕ, ◌≡◌, ◌<◌, ◌⊎◌, Bool, true, List, Option, Some, is_some}
use Rattle.unit_id.specs.Lists.{IsIn}
use Rattle.unit_id.specs.Place.{Location, Place}
use Rattle.unit_id.specs.Request.{Request}
use Rattle.volume_entry.specs.Manager.{Lock, home_at, transfers_of, is_swapped, has_number, is_old}

-- it is a fence of the present lock's old unit, or the unit is below the current one
abbrev pub IsFenceOf : Option Lock → List Location → Place → ℕ → Type 0
IsFenceOf lock homes p number =
    ((is_old (transfers_of lock) p ≡ true) × (has_number lock number ≡ true)) ⊎ (p.epoch < (home_at homes p.index).epoch)

-- old units are fenced, released or broken
pub record Fencing (homes : List Location) (lock : Option Lock) (broken : ℕ → Bool) (is_made : Place → Bool) (fence : Place → Option ℕ) (is_released : Place → Bool) (issued : List Request) : Type 0 where
  pub below_is_cut_off : (p : Place) → is_made p ≡ true → p.epoch < (home_at homes p.index).epoch
      → (broken p.disk ≡ true) ⊎ ((is_released p ≡ true) ⊎ (is_some (fence p) ≡ true))
  pub below_is_given_up : (p : Place) → is_made p ≡ true → p.epoch < (home_at homes p.index).epoch
      → (broken p.disk ≡ true) ⊎ ((is_released p ≡ true) ⊎ ((is_swapped lock ≡ true) × (is_old (transfers_of lock) p ≡ true)))
  pub fenced : (p : Place) (number : ℕ) → fence p ≡ Some number → IsFenceOf lock homes p number
  pub fence_issued : (p : Place) (number : ℕ) → IsIn (Request.Fence p number) issued → IsFenceOf lock homes p number
