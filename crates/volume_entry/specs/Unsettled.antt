-- The least blob that passes a test, found in parts of the blobs.
use Rattle.std.specs.Prelude.{ℕ, ◌≡◌, ◌<◌, Bool, true, false, List, [], ◌++◌, Option, None, Some, IfSome}
use Rattle.unit_id.specs.Lists.{is_in}
use Rattle.unit_id.specs.Shown.{Shown}

-- the blob is less than what was found, if anything was
abbrev pub IsBefore : Option ℕ → ℕ → Type 0
IsBefore None bid = Unit {0}
IsBefore (Some found) bid = bid < found

-- what was found passes the test
abbrev pub Passes : (ℕ → Bool) → Option ℕ → Type 0
Passes test found = IfSome found (λ bid. test bid ≡ true)

-- these blobs were tried as well: of them and of what was found before, the least that passes is found
pub record Lowers (test : ℕ → Bool) (bids : List ℕ) (old new : Option ℕ) : Type 0 where
  pub passes : Passes test old → Passes test new
  pub less : (bid : ℕ) → IsBefore new bid → IsBefore old bid
  pub tried : (bid : ℕ) → is_in bid bids ≡ true → IsBefore new bid → test bid ≡ false

-- of all blobs the least that passes, if any does
pub record IsLeast (test : ℕ → Bool) (found : Option ℕ) : Type 0 where
  pub passes : Passes test found
  pub least : (bid : ℕ) → IsBefore found bid → test bid ≡ false

-- the blobs that a listing shows
abbrev pub blobs_of : Option Shown → List ℕ
blobs_of None = []
blobs_of (Some shown) = shown.live ++ shown.marked
