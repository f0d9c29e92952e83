-- Of a table of which no test holds, each test fails.
use Rattle.std.proofs.Common.{◌≡◌, Bool, true, false, List, [], ◌∷◌, Some, None, refl, cond}
use Rattle.unit_id.specs.Lists.{first_that_holds}

-- no row of a table holds: the first doesn't, nor do the others
pub first_fails : {A : Type 0} (test : Bool) (a : A) (rows : List (Bool × A)) → first_that_holds ((test, a) ∷ rows) ≡ None → (test ≡ false) × (first_that_holds rows ≡ None)
first_fails true a rows h = cc
first_fails false a rows h = (refl, h)

-- no row of a table holds
abbrev pub AllFail : {A : Type 0} → List (Bool × A) → Type 0
AllFail [] = Unit {0}
AllFail (row ∷ rows) = (row.0 ≡ false) × AllFail rows

pub all_fail : {A : Type 0} (rows : List (Bool × A)) → first_that_holds rows ≡ None → AllFail rows
all_fail [] h = tt
all_fail (row ∷ rows) h = go row.0 refl h (all_fail rows) where
  go : (test : Bool) → row.0 ≡ test → cond test (Some row.1) (first_that_holds rows) ≡ None → (first_that_holds rows ≡ None → AllFail rows) → (row.0 ≡ false) × AllFail rows
  go true e h rest = cc
  go false e h rest = (e, rest h)
