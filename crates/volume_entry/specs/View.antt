-- What a look at a volume shows, and how homes and moves of a lock are shown in code.
use Rattle.std.specs.Prelude.{ℕ, suc, Bool, cond, List, [], ◌∷◌, Option}
use Rattle.unit_id.specs.Place.{Location}
use Rattle.unit_id.specs.declared.homes.Home.{Home}
use Rattle.unit_id.specs.declared.moves.Move.{Move}
use Rattle.volume_entry.specs.Manager.{Transfer, Lock}

-- the clock, the manager's numbers, the lock, and by index the home of the unit and whether the disk there is broken
pub record View : Type 0 where
  pub time : ℕ
  pub version : ℕ
  pub lease_end : ℕ
  pub held : Option Lock
  pub homes : List Location
  pub broken : List Bool

-- whether the disk of each home is broken
abbrev pub flags_of : (ℕ → Bool) → List Location → List Bool
flags_of broken [] = []
flags_of broken (home ∷ homes) = broken home.disk ∷ flags_of broken homes

-- homes from an index on, as code shows those of this volume
abbrev pub homes_shown : ℕ → ℕ → (ℕ → Bool) → List Location → List Home
homes_shown vid index broken [] = []
homes_shown vid index broken (home ∷ homes) =
    record { unit = record { vid = vid; index = index; epoch = home.epoch }; disk = home.disk; broken = broken home.disk } ∷ homes_shown vid (suc index) broken homes

-- the moves of a lock, as code shows them: before the swap by their destinations, and after it by their old units
abbrev pub moves_shown : ℕ → (ℕ → Bool) → Bool → List Transfer → List Move
moves_shown vid broken swapped [] = []
moves_shown vid broken swapped (t ∷ ts) =
    record { index = t.index; unit = record { vid = vid; index = t.index; epoch = (cond swapped t.old t.dest).epoch }; disk = (cond swapped t.old t.dest).disk; dest_broken = broken t.dest.disk }
    ∷ moves_shown vid broken swapped ts
