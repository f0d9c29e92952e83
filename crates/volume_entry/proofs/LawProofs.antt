-- A log says one thing, and epochs and lock numbers only grow.
use Rattle.std.proofs.Common.{◌≡◌, ℕ, zero, suc, ◌≤◌, inl, inr, Bool, true, false, List, [], ◌∷◌, length, refl, sym, ◌∙◌, ap, subst, arith}
use Rattle.std.specs.Prelude.{nat_lt}
use Rattle.std.proofs.lemmas.Bool.{ltb-true, ltb-false}
use Rattle.unit_id.specs.Lists.{IsIn}
use Rattle.unit_id.specs.Place.{Location}
use Rattle.code_mode.specs.VolumeShape.{VolumeShape}
use Rattle.volume_entry.specs.Manager.{Grant, ManagerRecord, Manager, greatest_at, IsNextHome, IsLegal, written, raised, LeadsBy}
use Rattle.volume_entry.specs.Laws.{LogsSayOneThing, EpochsOnlyGrow}
use Rattle.volume_entry.proofs.Raised.{epoch_cases}

leads_to_one : (shape : VolumeShape) (items : List ManagerRecord) (k m n : Manager) → LeadsBy shape k items m → LeadsBy shape k items n → m ≡ n
leads_to_one shape [] k m n g h = g ∙ sym h
leads_to_one shape (item ∷ items) k m n g h = leads_to_one shape items (written item k) m n g.1 h.1

pub logs_say_one_thing : LogsSayOneThing
logs_say_one_thing shape [] m n g h = absurd g
logs_say_one_thing shape (ManagerRecord.Made homes ∷ items) m n g h = leads_to_one shape items _ m n g.1 h.1
logs_say_one_thing shape (item ∷ items) m n g h = absurd g

-- behind the end of the list there is no epoch
none_behind : (epochs : List ℕ) (i : ℕ) → length epochs ≤ i → greatest_at epochs i ≡ 0
none_behind [] i h = refl
none_behind (epoch ∷ epochs) zero h = absurd (omega arith)
none_behind (epoch ∷ epochs) (suc i) h = none_behind epochs i (omega arith)

-- grants of next epochs lower none
raised_grows : (shape : VolumeShape) (homes : List Location) (epochs : List ℕ) (grants : List Grant) (i : ℕ) → ((t : Grant) → IsIn t grants → IsNextHome shape homes epochs t)
    → greatest_at epochs i ≤ greatest_at (raised 0 grants epochs) i
raised_grows shape homes epochs grants i next = go (nat_lt i (length epochs)) refl where
  go : (test : Bool) → nat_lt i (length epochs) ≡ test → greatest_at epochs i ≤ greatest_at (raised 0 grants epochs) i
  go true e = elim (epoch_cases grants epochs i (ltb-true i (length epochs) e)) [
    | inl new ↦
        let step = (next new.0 new.1).epoch in
        let same = ap (greatest_at epochs) new.2 in
        let now = new.3 in
        omega (arith, step, same, now)
    | inr old ↦ let same = old.0 in omega (arith, same)
  ]
  go false e =
      let past = ltb-false i (length epochs) e in
      let before = none_behind epochs i past in
      omega (arith, before)

one_epoch_grows : (shape : VolumeShape) (m : Manager) (item : ManagerRecord) (i : ℕ) → IsLegal shape m item → greatest_at m.greatest i ≤ greatest_at (written item m).greatest i
one_epoch_grows shape m (ManagerRecord.Made homes) i h = absurd h
one_epoch_grows shape m (ManagerRecord.Leased end) i h = omega arith
one_epoch_grows shape m (ManagerRecord.Locked task number grants) i h = raised_grows shape m.homes m.greatest grants i h.homes
one_epoch_grows shape m (ManagerRecord.Retargeted grant) i h =
    raised_grows shape m.homes m.greatest (grant ∷ []) i (λ t k. elim k [ inl e ↦ subst (IsNextHome shape m.homes m.greatest) (sym e) h.home | inr x ↦ absurd x ])
one_epoch_grows shape m ManagerRecord.Swapped i h = omega arith
one_epoch_grows shape m ManagerRecord.Unlocked i h = omega arith
one_epoch_grows shape m (ManagerRecord.Asked bid) i h = omega arith
one_epoch_grows shape m (ManagerRecord.Committed bid) i h = omega arith

one_lock_grows : (shape : VolumeShape) (m : Manager) (item : ManagerRecord) → IsLegal shape m item → m.granted ≤ (written item m).granted
one_lock_grows shape m (ManagerRecord.Made homes) h = absurd h
one_lock_grows shape m (ManagerRecord.Leased end) h = omega arith
one_lock_grows shape m (ManagerRecord.Locked task number grants) h = let next = h.next in omega (arith, next)
one_lock_grows shape m (ManagerRecord.Retargeted grant) h = omega arith
one_lock_grows shape m ManagerRecord.Swapped h = omega arith
one_lock_grows shape m ManagerRecord.Unlocked h = omega arith
one_lock_grows shape m (ManagerRecord.Asked bid) h = omega arith
one_lock_grows shape m (ManagerRecord.Committed bid) h = omega arith

epochs_grow : (shape : VolumeShape) (m n : Manager) (items : List ManagerRecord) (i : ℕ) → LeadsBy shape m items n → greatest_at m.greatest i ≤ greatest_at n.greatest i
epochs_grow shape m n [] i h = let same = ap (λ (x : Manager). greatest_at x.greatest i) h in omega (arith, same)
epochs_grow shape m n (item ∷ items) i h =
    let here = one_epoch_grows shape m item i h.0 in
    let later = epochs_grow shape (written item m) n items i h.1 in
    omega (arith, here, later)

locks_grow : (shape : VolumeShape) (m n : Manager) (items : List ManagerRecord) → LeadsBy shape m items n → m.granted ≤ n.granted
locks_grow shape m n [] h = let same = ap (λ (x : Manager). x.granted) h in omega (arith, same)
locks_grow shape m n (item ∷ items) h =
    let here = one_lock_grows shape m item h.0 in
    let later = locks_grow shape (written item m) n items h.1 in
    omega (arith, here, later)

pub epochs_only_grow : EpochsOnlyGrow
epochs_only_grow = record { epochs = epochs_grow; locks = locks_grow }
