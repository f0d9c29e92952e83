-- The fields of records by their kind.
use Rattle.std.proofs.Common.{◌≡◌, ◌∙◌, sym, ap, subst, refl, ℕ, ◌+◌, ◌*◌, ◌≤◌, List, [], ◌∷◌, length, take, get_or, arith}
use Rattle.std.specs.List.{flat_map}
use Rattle.std.specs.Int.{w32, to_be_bytes}
use Rattle.code_mode.specs.declared.mode.Mode.{Mode}
use Rattle.unit_id.specs.Place.{Location}
use Rattle.volume_entry.specs.Manager.{Grant, ManagerRecord}
use Rattle.volume_entry.specs.Spelling.{home_bytes, grant_bytes, kind_of, fields_of, mode_number}
use Rattle.volume_entry.specs.RecordBytes.{HasFields}

pub homes-length : (homes : List Location) → length (flat_map home_bytes homes) ≡ 8 * length homes
homes-length [] = refl
homes-length (home ∷ homes) = omega (arith, homes-length homes)

pub grants-length : (grants : List Grant) → length (flat_map grant_bytes grants) ≡ 9 * length grants
grants-length [] = refl
grants-length (grant ∷ grants) = omega (arith, grants-length grants)

module _ (vid : ℕ) (mode : Mode) where
  leased-length : (item : ManagerRecord) → kind_of item ≡ 2 → length (fields_of vid mode item) ≡ 8
  unfolding fields_of
  leased-length (ManagerRecord.Leased end) e = refl
  leased-length item e = absurd (omega arith)

  retargeted-length : (item : ManagerRecord) → kind_of item ≡ 4 → length (fields_of vid mode item) ≡ 9
  unfolding fields_of
  retargeted-length (ManagerRecord.Retargeted grant) e = refl
  retargeted-length item e = absurd (omega arith)

  swapped-length : (item : ManagerRecord) → kind_of item ≡ 5 → length (fields_of vid mode item) ≡ 0
  unfolding fields_of
  swapped-length ManagerRecord.Swapped e = refl
  swapped-length item e = absurd (omega arith)

  unlocked-length : (item : ManagerRecord) → kind_of item ≡ 6 → length (fields_of vid mode item) ≡ 0
  unfolding fields_of
  unlocked-length ManagerRecord.Unlocked e = refl
  unlocked-length item e = absurd (omega arith)

  asked-length : (item : ManagerRecord) → kind_of item ≡ 7 → length (fields_of vid mode item) ≡ 8
  unfolding fields_of
  asked-length (ManagerRecord.Asked bid) e = refl
  asked-length item e = absurd (omega arith)

  committed-length : (item : ManagerRecord) → kind_of item ≡ 8 → length (fields_of vid mode item) ≡ 8
  unfolding fields_of
  committed-length (ManagerRecord.Committed bid) e = refl
  committed-length item e = absurd (omega arith)

  -- the record of a making says its volume, its mode and how many homes it has
  pub record MadeSays (fields : List ℕ) : Type 0 where
    pub inside : 6 ≤ length fields
    pub vid_is : take 4 fields ≡ to_be_bytes w32 vid
    pub mode_is : get_or fields 4 0 ≡ mode_number mode
    pub whole : length fields ≡ 6 + 8 * get_or fields 5 0

  made_says : (item : ManagerRecord) → kind_of item ≡ 1 → MadeSays (fields_of vid mode item)
  unfolding fields_of
  made_says (ManagerRecord.Made homes) e = record { inside = omega arith; vid_is = refl; mode_is = refl; whole = omega (arith, homes-length homes) }
  made_says item e = absurd (omega arith)

  -- .. and that of a lock how many grants
  pub record LockSays (fields : List ℕ) : Type 0 where
    pub inside : 17 ≤ length fields
    pub whole : length fields ≡ 17 + 9 * get_or fields 16 0

  lock_says : (item : ManagerRecord) → kind_of item ≡ 3 → LockSays (fields_of vid mode item)
  unfolding fields_of
  lock_says (ManagerRecord.Locked task number grants) e = record { inside = omega arith; whole = omega (arith, grants-length grants) }
  lock_says item e = absurd (omega arith)

  kinds : (item : ManagerRecord) → (1 ≤ kind_of item) × (kind_of item ≤ 8)
  kinds (ManagerRecord.Made homes) = (omega arith, omega arith)
  kinds (ManagerRecord.Leased end) = (omega arith, omega arith)
  kinds (ManagerRecord.Locked task number grants) = (omega arith, omega arith)
  kinds (ManagerRecord.Retargeted grant) = (omega arith, omega arith)
  kinds ManagerRecord.Swapped = (omega arith, omega arith)
  kinds ManagerRecord.Unlocked = (omega arith, omega arith)
  kinds (ManagerRecord.Asked bid) = (omega arith, omega arith)
  kinds (ManagerRecord.Committed bid) = (omega arith, omega arith)

  pub leased_has : (fields : List ℕ) (item : ManagerRecord) → HasFields vid mode 2 fields item → length fields ≡ 8
  leased_has fields item h = ap length (sym h.fields_are) ∙ leased-length item h.kind_is

  pub retargeted_has : (fields : List ℕ) (item : ManagerRecord) → HasFields vid mode 4 fields item → length fields ≡ 9
  retargeted_has fields item h = ap length (sym h.fields_are) ∙ retargeted-length item h.kind_is

  pub swapped_has : (fields : List ℕ) (item : ManagerRecord) → HasFields vid mode 5 fields item → length fields ≡ 0
  swapped_has fields item h = ap length (sym h.fields_are) ∙ swapped-length item h.kind_is

  pub unlocked_has : (fields : List ℕ) (item : ManagerRecord) → HasFields vid mode 6 fields item → length fields ≡ 0
  unlocked_has fields item h = ap length (sym h.fields_are) ∙ unlocked-length item h.kind_is

  pub asked_has : (fields : List ℕ) (item : ManagerRecord) → HasFields vid mode 7 fields item → length fields ≡ 8
  asked_has fields item h = ap length (sym h.fields_are) ∙ asked-length item h.kind_is

  pub committed_has : (fields : List ℕ) (item : ManagerRecord) → HasFields vid mode 8 fields item → length fields ≡ 8
  committed_has fields item h = ap length (sym h.fields_are) ∙ committed-length item h.kind_is

  pub made_has : (fields : List ℕ) (item : ManagerRecord) → HasFields vid mode 1 fields item → MadeSays fields
  made_has fields item h = let P : List ℕ → Type 0 = MadeSays in subst P h.fields_are (made_says item h.kind_is)

  pub lock_has : (fields : List ℕ) (item : ManagerRecord) → HasFields vid mode 3 fields item → LockSays fields
  lock_has fields item h = let P : List ℕ → Type 0 = LockSays in subst P h.fields_are (lock_says item h.kind_is)

  pub kind_has : (kind : ℕ) (fields : List ℕ) (item : ManagerRecord) → HasFields vid mode kind fields item → (1 ≤ kind) × (kind ≤ 8)
  kind_has kind fields item h = let k = kinds item in (omega (arith, h.kind_is, k.0), omega (arith, h.kind_is, k.1))
