-- A disk that isn't broken has at most one unit of the volume.
use Rattle.std.proofs.Common.{◌≡◌, ℕ, ◌+◌, ◌≤◌, ◌⊎◌, inl, inr, Bool, true, false, List, [], ◌∷◌, length, Option, Some, None, refl, sym, ◌∙◌, ap, arith}
use Rattle.std.specs.Prelude.{nat_lt, is_some}
use Rattle.std.proofs.lemmas.Bool.{ltb-true, ltb-false}
use Rattle.unit_id.specs.Lists.{IsIn}
use Rattle.unit_id.specs.UnitName.{packed}
use Rattle.unit_id.specs.Place.{Place}
use Rattle.unit_id.specs.Messages.{place_at}
use Rattle.unit_id.proofs.Bools.{contrary, either}
use Rattle.unit_id.proofs.Places.{same_place}
use Rattle.code_mode.specs.VolumeShape.{VolumeShape}
use Rattle.blob_node.specs.Units.{UnitRecord}
use Rattle.blob_node.specs.Station.{AreInOrder}
use Rattle.blob_node.specs.declared.settled.Settled.{Settled}
use Rattle.volume_entry.specs.Manager.{Transfer, home_at, transfers_of, is_swapped}
use Rattle.volume_world.specs.State.{State}
use Rattle.volume_world.specs.OldDisks.{KeptApart}
use Rattle.volume_world.specs.Invariant.{Kept}
use Rattle.volume_world.specs.Laws.{IsStanding, IsDoubtful, IsOneADisk}
use Rattle.volume_world.proofs.Transfers.{destination_gives}
use Rattle.volume_world.proofs.Written.{old_gives}
use Rattle.volume_world.proofs.OtherMoves.{doubt_made, doubt_unreleased}

-- the epoch of the current unit
abbrev IsHere : State → Place → Type 0
IsHere s p = p.epoch ≡ (home_at s.manager.homes p.index).epoch

-- a destination before the swap
abbrev IsComing : State → Place → Type 0
IsComing s p = (is_swapped s.manager.lock ≡ false) × (t : Transfer) × IsIn t (transfers_of s.manager.lock) × (p.index ≡ t.index) × (p.epoch ≡ t.dest.epoch)

-- an old unit behind it
abbrev IsLeaving : State → Place → Type 0
IsLeaving s p = (is_swapped s.manager.lock ≡ true) × (t : Transfer) × IsIn t (transfers_of s.manager.lock) × (p.index ≡ t.index) × (p.epoch ≡ t.old.epoch)

abbrev Which : State → Place → Type 0
Which s p = IsHere s p ⊎ (IsComing s p ⊎ IsLeaving s p)

module _ (shape : VolumeShape) (s : State) (known : KeptApart shape s) where
  k : Kept shape s
  k = known.kept

  -- a destination that the swap has made current
  arrived : (p : Place) → is_swapped s.manager.lock ≡ true → (t : Transfer) → IsIn t (transfers_of s.manager.lock) → t.index ≡ p.index → t.dest.epoch ≡ p.epoch → IsHere s p
  arrived p swapped t i e f = sym f ∙ ap (λ x. x.epoch) (sym (k.succession.is_current swapped t i)) ∙ ap (λ n. (home_at s.manager.homes n).epoch) e

  -- a unit that stands is one of the three
  which : (p : Place) → IsStanding s p → Which s p
  which p stands = go (nat_lt p.epoch (home_at s.manager.homes p.index).epoch) (nat_lt (home_at s.manager.homes p.index).epoch p.epoch) refl refl where
    go : (below above : Bool) → nat_lt p.epoch (home_at s.manager.homes p.index).epoch ≡ below → nat_lt (home_at s.manager.homes p.index).epoch p.epoch ≡ above → Which s p
    go true above x y = elim (k.fencing.below_is_given_up p stands.made (ltb-true p.epoch (home_at s.manager.homes p.index).epoch x)) [
      | inl broken ↦ absurd (contrary (s.broken p.disk) broken stands.unbroken)
      | inr (inl released) ↦ absurd (contrary (s.units.is_released p) released stands.unreleased)
      | inr (inr old) ↦ let t = old_gives (transfers_of s.manager.lock) p old.1 in inr (inr (old.0, t.0, t.1, sym t.2, sym t.3))
    ]
    go false true x y = elim (k.placement.above_current p stands.made (ltb-true (home_at s.manager.homes p.index).epoch p.epoch y)) [
      | inl broken ↦ absurd (contrary (s.broken p.disk) broken stands.unbroken)
      | inr dest ↦ let t = destination_gives (transfers_of s.manager.lock) p dest in elim (either (is_swapped s.manager.lock)) [
        | inl swapped ↦ inl (arrived p swapped t.0 t.1 t.2 t.3)
        | inr unswapped ↦ inr (inl (unswapped, t.0, t.1, sym t.2, sym t.3))
      ]
    ]
    go false false x y =
        let a = ltb-false p.epoch (home_at s.manager.homes p.index).epoch x in
        let b = ltb-false (home_at s.manager.homes p.index).epoch p.epoch y in
        inl (omega (arith, a, b))

  -- their disks
  here_disk : (p : Place) → IsStanding s p → IsHere s p → p.disk ≡ (home_at s.manager.homes p.index).disk
  here_disk p stands e = k.placement.current_at_home p stands.made e

  coming_disk : (p : Place) → IsStanding s p → (c : IsComing s p) → p.disk ≡ c.1.dest.disk
  coming_disk p stands c = k.placement.destination_at_home p c.1 stands.made c.2 c.3 c.4

  leaving_disk : (p : Place) → IsStanding s p → (l : IsLeaving s p) → p.disk ≡ l.1.old.disk
  leaving_disk p stands l = k.placement.old_at_home p l.1 stands.made l.2 l.3 l.4

  -- a current unit's disk is no other one's
  here_alone : (p q : Place) → IsStanding s p → IsStanding s q → p.disk ≡ q.disk → IsHere s p → Which s q → p ≡ q
  here_alone p q sp sq d a (inl b) =
      let index : p.index ≡ q.index = k.placement.homes_apart p.index q.index (k.placement.made_index p sp.made) (k.placement.made_index q sq.made) (sym (here_disk p sp a) ∙ d ∙ here_disk q sq b) in
      same_place p q index (a ∙ ap (λ n. (home_at s.manager.homes n).epoch) index ∙ sym b) d
  here_alone p q sp sq d a (inr (inl b)) =
      absurd (k.placement.destinations_free b.0 b.1 b.2 p.index (k.placement.made_index p sp.made) (sym (here_disk p sp a) ∙ d ∙ coming_disk q sq b))
  here_alone p q sp sq d a (inr (inr b)) = absurd (known.old_disks.free b.0 b.1 b.2 p.index (k.placement.made_index p sp.made) (sym (here_disk p sp a) ∙ d ∙ leaving_disk q sq b))

  one : (p q : Place) → IsStanding s p → IsStanding s q → p.disk ≡ q.disk → Which s p → Which s q → p ≡ q
  one p q sp sq d (inl a) b = here_alone p q sp sq d a b
  one p q sp sq d a (inl b) = sym (here_alone q p sq sp (sym d) b a)
  one p q sp sq d (inr (inl a)) (inr (inl b)) =
      let index : a.1.index ≡ b.1.index = k.placement.destinations_apart a.0 a.1 b.1 a.2 b.2 (sym (coming_disk p sp a) ∙ d ∙ coming_disk q sq b) in
      same_place p q (a.3 ∙ index ∙ sym b.3) (a.4 ∙ ap (λ (t : Transfer). t.dest.epoch) (k.form.lock.one_by_index a.1 b.1 a.2 b.2 index) ∙ sym b.4) d
  one p q sp sq d (inr (inr a)) (inr (inr b)) =
      let index : a.1.index ≡ b.1.index = known.old_disks.apart a.0 a.1 b.1 a.2 b.2 (sym (leaving_disk p sp a) ∙ d ∙ leaving_disk q sq b) in
      same_place p q (a.3 ∙ index ∙ sym b.3) (a.4 ∙ ap (λ (t : Transfer). t.old.epoch) (k.form.lock.one_by_index a.1 b.1 a.2 b.2 index) ∙ sym b.4) d
  one p q sp sq d (inr (inl a)) (inr (inr b)) = absurd (contrary (is_swapped s.manager.lock) b.0 a.0)
  one p q sp sq d (inr (inr a)) (inr (inl b)) = absurd (contrary (is_swapped s.manager.lock) a.0 b.0)

  pub one_stands : IsOneADisk (IsStanding s)
  one_stands p q sp sq d = one p q sp sq d (which p sp) (which q sq)

  -- a unit with a record in doubt stands
  doubt_stands : (p : Place) → IsDoubtful s p → IsStanding s p
  doubt_stands p h = go (s.units.doubt p) refl h.doubtful where
    go : (d : Option UnitRecord) → s.units.doubt p ≡ d → is_some d ≡ true → IsStanding s p
    go None e x = cc
    go (Some item) e x = record { made = doubt_made shape s p item k e; unreleased = doubt_unreleased shape s p item k e; unbroken = h.unbroken }

  pub one_doubts : IsOneADisk (IsDoubtful s)
  one_doubts p q hp hq = one_stands p q (doubt_stands p hp) (doubt_stands q hq)

-- different names of one volume are those of different places
apart_places : (disk vid : ℕ) (a b : Settled) → a.unit.vid ≡ vid → b.unit.vid ≡ vid → packed a.unit + 1 ≤ packed b.unit → place_at a.unit disk ≡ place_at b.unit disk → ⊥
apart_places disk vid a b own other less same =
    let index = ap (λ (p : Place). p.index) same in let epoch = ap (λ (p : Place). p.epoch) same in omega (arith, own, other, less, index, epoch)

-- so of one disk's records in doubt a restart settles one at most
pub few_settled : (disk vid : ℕ) (s : State) (items : List Settled) → IsOneADisk (IsDoubtful s) → s.broken disk ≡ false → ((item : Settled) → IsIn item items → item.unit.vid ≡ vid) → AreInOrder items
    → ((item : Settled) → IsIn item items → is_some (s.units.doubt (place_at item.unit disk)) ≡ true) → length items ≤ 1
few_settled disk vid s [] one unbroken own order doubtful = omega arith
few_settled disk vid s (item ∷ []) one unbroken own order doubtful = omega arith
few_settled disk vid s (a ∷ b ∷ rest) one unbroken own order doubtful =
    absurd (apart_places disk vid a b (own a (inl refl)) (own b (inr (inl refl))) (order.0 b (inl refl))
    (one (place_at a.unit disk) (place_at b.unit disk) (record { doubtful = doubtful a (inl refl); unbroken = unbroken })
    (record { doubtful = doubtful b (inr (inl refl)); unbroken = unbroken }) refl))
