-- How placers pick among options.
use Rattle.std.specs.Prelude.{◌≡◌, ℕ, ◌+◌, ◌%◌, ◌++◌, if◌then◌else◌, nat_lt, List, [], ◌∷◌, length}
use Rattle.cluster_admin.specs.declared.placer.Place.{Place}

-- Which option a placer takes of the last list, after it was shown those before: its picks now and later.
abbrev pub Plan : Type 0
Plan = List (List Place) → ℕ

-- A placer picks now as the old one would once it was shown these lists.
abbrev pub IsAfter : Plan → List (List Place) → Plan → Type 0
IsAfter old shown new = (list : List Place) (later : List (List Place)) → new (list ∷ later) ≡ old (shown ++ list ∷ later)

-- the first option, always
abbrev pub first_plan : Plan
first_plan lists = 0

-- of the option at `least` with that many units and those from `place` on, the place of the first with the fewest
abbrev pub least_from : ℕ → ℕ → ℕ → List Place → ℕ
least_from least units place [] = least
least_from least units place (option ∷ options) =
    if nat_lt option.units units then least_from place option.units (place + 1) options else least_from least units (place + 1) options

-- the place of the first option with the fewest units
abbrev pub least_place : List Place → ℕ
least_place [] = 0
least_place (option ∷ options) = least_from 0 option.units 1 options

-- the first option with the fewest units, whatever was shown before
abbrev pub least_plan : Plan
least_plan [] = 0
least_plan (list ∷ []) = least_place list
least_plan (list ∷ next ∷ lists) = least_plan (next ∷ lists)

-- how many turns there are before they begin anew
abbrev pub turns : ℕ
turns = 64

-- the option of the turn, which each list moves on
abbrev pub turn_plan : ℕ → Plan
turn_plan turn [] = 0
turn_plan turn (list ∷ []) = turn % length list
turn_plan turn (list ∷ next ∷ lists) = turn_plan ((turn + 1) % turns) (next ∷ lists)
