-- What is known under a name: the files of a shelf, the shelves of a farm.
use Rattle.std.specs.Prelude.{◌≡◌, Bool, true, false, Option, Some, None}

-- Nothing is known; there is nothing; there is something, of which no more is told here; or this is there, at rest.
pub data Place (T : Type 0) : Type 0 where
  Unknown : Place T
  Absent : Place T
  Away : Place T
  Kept : T → Place T

-- whether there is something, where that is known
abbrev pub is_there : {T : Type 0} → Place T → Option Bool
is_there Unknown = None
is_there Absent = Some false
is_there Away = Some true
is_there (Kept x) = Some true

-- there is nothing, or what there is is known
abbrev pub IsTold : {T : Type 0} → Place T → Type 0
IsTold Absent = Unit {0}
IsTold (Kept x) = Unit {0}
IsTold _ = ⊥

-- what was known stays
abbrev pub Keeps : {T : Type 0} → Place T → Place T → Type 0
Keeps Unknown new = Unit {0}
Keeps old new = new ≡ old

-- a fact on what is kept there
abbrev pub IfKept : {T : Type 0} → Place T → (T → Type 0) → Type 0
IfKept (Kept x) P = P x
IfKept _ P = Unit {0}

-- The place that a slot stands for: there is no slot, its content is out, or it is there.
abbrev pub place_of : {T : Type 0} → Option (Option T) → Place T
place_of None = Absent
place_of (Some None) = Away
place_of (Some (Some x)) = Kept x

-- there is a slot, and its content is out
abbrev pub is_lent : {T : Type 0} → Option (Option T) → Bool
is_lent (Some None) = true
is_lent _ = false
