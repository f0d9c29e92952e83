-- What a token knows of its turn, and what each call makes of it.
use Rattle.std.specs.Prelude.{◌≡◌, ℕ, ◌+◌, ◌-◌, ◌==◌, List, [], ◌++◌, length, Bool, false, true, cond, nat_lt, Option, Some}
use Rattle.std.specs.List.{count_by, range_with_len}
use Rattle.atomic_table.specs.Seated.{TableId}

-- O is what an origin is, and E what an entry of the past is
pub record Known (O E : Type 0) : Type 0 where
  -- the turn that the token is of
  pub turn : TableId
  -- that of the turn's value; each token has one
  pub origin : Option O
  -- the past, as far as the token has seen it
  pub seen : List E
  -- the places of the past that the token's own gives added
  pub places : List ℕ
  pub parts : ℕ
  -- it has the value
  pub holds : Bool

-- the parts of all tokens of a turn together
abbrev pub all_parts : ℕ
all_parts = 65536

-- how often the number stands in the list
abbrev pub times : ℕ → List ℕ → ℕ
times x xs = count_by (λ y. y == x) xs

abbrev pub once_below : ℕ → ℕ → ℕ
once_below x n = cond (nat_lt x n) 1 0

-- each number below n stands in the list exactly once, and no other number does
abbrev pub IsEachOnce : ℕ → List ℕ → Type 0
IsEachOnce n places = (x : ℕ) → times x places ≡ once_below x n

module _ {E : Type 0} where
  -- the places of the past from one length up to another
  abbrev pub added : List E → List E → List ℕ
  added seen past = range_with_len (length seen) (length past - length seen)

  -- of two lists the one that isn't shorter, and the other
  abbrev pub longer : List E → List E → List E
  longer xs ys = cond (nat_lt (length xs) (length ys)) ys xs

  abbrev pub shorter : List E → List E → List E
  shorter xs ys = cond (nat_lt (length xs) (length ys)) xs ys

module _ {O E : Type 0} where
  -- with all parts, the token's places are those of the past, each once
  abbrev pub OwnsPast : Known O E → Type 0
  OwnsPast k = k.parts ≡ all_parts → IsEachOnce (length k.seen) k.places

  -- the one token of a new turn
  abbrev pub whole : TableId → O → List E → Known O E
  whole turn origin past = record { turn = turn; origin = Some origin; seen = past; places = range_with_len 0 (length past); parts = all_parts; holds = false }

  -- a token without the one part that was cut off
  abbrev pub cut : Known O E → Known O E
  cut k = record k { parts = k.parts - 1 }

  -- the token that has the part
  abbrev pub cut_off : Known O E → Known O E
  cut_off k = record k { parts = 1; places = [] }

  -- a token that took a value with this past
  abbrev pub taken : Known O E → List E → Known O E
  taken k past = record k { seen = past; holds = true }

  -- a token that gave a value with this past
  abbrev pub given : Known O E → List E → Known O E
  given k past = record k { seen = past; places = k.places ++ added k.seen past; holds = false }

  -- a token that took in another
  abbrev pub joined : Known O E → Known O E → Known O E
  joined k m = record k { seen = longer k.seen m.seen; places = k.places ++ m.places; parts = k.parts + m.parts }
