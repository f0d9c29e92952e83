-- Transfers with a new destination: which they are, where units may stand, and what was heard of them.
use Rattle.std.proofs.Common.{◌≡◌, ℕ, ◌<◌, ◌≤◌, ◌⊎◌, inl, inr, Bool, true, false, List, [], ◌∷◌, length, Option, Some, None, refl, sym, ◌∙◌, ap, cond, arith}
use Rattle.std.specs.Prelude.{◌&&◌, ◌||◌, ◌==◌, not}
use Rattle.std.proofs.lemmas.Bool.{eqb-true, eqb-false}
use Rattle.unit_id.specs.Lists.{IsIn}
use Rattle.unit_id.specs.Place.{Location, Place}
use Rattle.code_mode.specs.VolumeShape.{VolumeShape, last_epoch}
use Rattle.unit_id.specs.Request.{Request, Answer}
use Rattle.volume_entry.specs.Manager.{Transfer, Lock, HeardRow, Grant, home_at, greatest_at, transfers_of, is_destination, is_old, raised, redirected, redirected_lock, without_rows, IsLegalRetarget}
use Rattle.volume_entry.specs.Benchmark.{was_heard}
use Rattle.volume_world.specs.Blind.{listing_given}
use Rattle.volume_world.specs.Placement.{Placement}
use Rattle.volume_world.specs.Authority.{PlacementWith}
use Rattle.unit_id.proofs.Bools.{and_left, and_both, or_left, or_cases, contrary, equal_test}
use Rattle.unit_id.proofs.Membership.{gives_any}
use Rattle.volume_entry.proofs.Raised.{epoch_cases}
use Rattle.volume_world.proofs.Transfers.{destination_gives}

-- the transfer with the new destination
abbrev pub redirect : Grant → Transfer → Transfer
redirect grant t = record { index = t.index; old = t.old; dest = cond (t.index == grant.index) grant.dest t.dest }

pub redirect_gives : (grant : Grant) (ts : List Transfer) (t : Transfer) → IsIn t (redirected grant ts) → (u : Transfer) × IsIn u ts × (t ≡ redirect grant u)
redirect_gives grant [] t h = absurd h
redirect_gives grant (u ∷ us) t (inl e) = (u, inl refl, e)
redirect_gives grant (u ∷ us) t (inr h) = let r = redirect_gives grant us t h in (r.0, inr r.1, r.2)

pub gives_redirect : (grant : Grant) (ts : List Transfer) (t : Transfer) → IsIn t ts → IsIn (redirect grant t) (redirected grant ts)
gives_redirect grant [] t h = absurd h
gives_redirect grant (u ∷ us) t (inl e) = inl (ap (redirect grant) e)
gives_redirect grant (u ∷ us) t (inr h) = inr (gives_redirect grant us t h)

-- a transfer's destination is new, or as it was
pub dest_cases : (grant : Grant) (t : Transfer) → ((t.index ≡ grant.index) × ((redirect grant t).dest ≡ grant.dest)) ⊎ ((t.index ≡ grant.index → ⊥) × ((redirect grant t).dest ≡ t.dest))
dest_cases grant t = go (t.index == grant.index) refl where
  go : (test : Bool) → t.index == grant.index ≡ test → ((t.index ≡ grant.index) × (cond test grant.dest t.dest ≡ grant.dest)) ⊎ ((t.index ≡ grant.index → ⊥) × (cond test grant.dest t.dest ≡ t.dest))
  go true e = inl (eqb-true t.index grant.index e, refl)
  go false e = inr (eqb-false t.index grant.index e, refl)

pub same_old : (grant : Grant) (ts : List Transfer) (p : Place) → is_old (redirected grant ts) p ≡ is_old ts p
same_old grant [] p = refl
same_old grant (t ∷ ts) p = ap (λ rest. ((t.index == p.index) && (t.old.epoch == p.epoch)) || rest) (same_old grant ts p)

-- rows that are left were heard, at another index
pub row_left : (index : ℕ) (rows : List HeardRow) (i b : ℕ) → was_heard (without_rows index rows) i b ≡ true → (i ≡ index → ⊥) × (was_heard rows i b ≡ true)
row_left index [] i b h = cc
row_left index (r ∷ rs) i b h = go (r.index == index) refl h (row_left index rs i b) where
  more : (a : Bool) → was_heard rs i b ≡ true → a || was_heard rs i b ≡ true
  more true x = refl
  more false x = x

  go : (test : Bool) → r.index == index ≡ test → was_heard (cond (not test) (r ∷ without_rows index rs) (without_rows index rs)) i b ≡ true
      → (was_heard (without_rows index rs) i b ≡ true → (i ≡ index → ⊥) × (was_heard rs i b ≡ true)) → (i ≡ index → ⊥) × (was_heard (r ∷ rs) i b ≡ true)
  go true e x rest = let l = rest x in (l.0, more ((r.index == i) && (r.bid == b)) l.1)
  go false e x rest = elim (or_cases ((r.index == i) && (r.bid == b)) (was_heard (without_rows index rs) i b) x) [
    | inl here ↦ ((λ f. eqb-false r.index index e (eqb-true r.index i (and_left (r.index == i) (r.bid == b) here) ∙ f)), or_left ((r.index == i) && (r.bid == b)) (was_heard rs i b) here)
    | inr there ↦ let l = rest there in (l.0, more ((r.index == i) && (r.bid == b)) l.1)
  ]

-- placement once a legal retarget is written
module _ (shape : VolumeShape) (homes : List Location) (greatest : List ℕ) (l : Lock) (broken : ℕ → Bool) (is_made : Place → Bool) (grant : Grant)
    (homes_count : length homes ≡ shape.total) (greatest_count : length greatest ≡ shape.total)
    (legal : IsLegalRetarget shape homes greatest (Some l) grant) (gone : (t : Transfer) → IsIn t l.transfers → t.index ≡ grant.index → broken t.dest.disk ≡ true)
    (within : (t : Transfer) → IsIn t l.transfers → t.index < shape.total) where
  grant_epoch : greatest_at (raised 0 (grant ∷ []) greatest) grant.index ≡ grant.dest.epoch
  grant_epoch = elim (epoch_cases (grant ∷ []) greatest grant.index (let b = legal.home.index in omega (arith, b, greatest_count))) [
    | inl found ↦ elim found.1 [ inl e ↦ found.3 ∙ ap (λ (t : Grant). t.dest.epoch) e | inr e ↦ absurd e ]
    | inr left ↦ absurd (left.1 grant (inl refl) refl)
  ]

  rise : (i : ℕ) → i < shape.total → greatest_at greatest i ≤ greatest_at (raised 0 (grant ∷ []) greatest) i
  rise i below = elim (epoch_cases (grant ∷ []) greatest i (omega (arith, below, greatest_count))) [
    | inl found ↦ elim found.1 [
      | inl e ↦
          let n = legal.home.epoch in
          let f = found.3 in
          let g = ap (λ (t : Grant). t.dest.epoch) e in
          let j = ap (greatest_at greatest) (sym found.2 ∙ ap (λ (t : Grant). t.index) e) in
          omega (arith, n, f, g, j)
      | inr e ↦ absurd e
    ]
    | inr left ↦ let e = left.0 in omega (arith, e)
  ]

  pub retarget_within : ((i : ℕ) → i < shape.total → greatest_at greatest i ≤ last_epoch) → (i : ℕ) → i < shape.total → greatest_at (raised 0 (grant ∷ []) greatest) i ≤ last_epoch
  retarget_within w i below = elim (epoch_cases (grant ∷ []) greatest i (omega (arith, below, greatest_count))) [
    | inl found ↦ elim found.1 [
      | inl e ↦ let n = legal.home.last in let f = found.3 in let g = ap (λ (t : Grant). t.dest.epoch) e in omega (arith, n, f, g)
      | inr e ↦ absurd e
    ]
    | inr left ↦ let e = left.0 in let x = w i below in omega (arith, e, x)
  ]

  Redirected : Transfer → Type 0
  Redirected t = (u : Transfer) × IsIn u l.transfers × (t ≡ redirect grant u)

  pub placement_retargeted : Placement shape.total homes greatest (Some l) broken is_made → PlacementWith shape.total homes greatest (redirected_lock grant (Some l)) broken is_made (grant ∷ [])
  placement_retargeted k = record {
    made_index = k.made_index;
    one_disk = k.one_disk;
    current_at_home = k.current_at_home;
    destination_at_home = λ p t m i e f. at_dest p t m e f (redirect_gives grant l.transfers t i);
    old_at_home = λ p t m i e f.
        let r = redirect_gives grant l.transfers t i in
        k.old_at_home p r.0 m r.1 (e ∙ ap (λ (x : Transfer). x.index) r.2) (f ∙ ap (λ (x : Transfer). x.old.epoch) r.2) ∙ ap (λ (x : Transfer). x.old.disk) (sym r.2);
    homes_apart = k.homes_apart;
    destinations_free = λ w t i j below e. free t j below e (redirect_gives grant l.transfers t i);
    destinations_apart = λ w t u i j e. apart t u e (redirect_gives grant l.transfers t i) (redirect_gives grant l.transfers u j);
    made_given = λ p m. let a = k.made_given p m in let b = rise p.index (k.made_index p m) in omega (arith, a, b);
    current_given = λ i below. let a = k.current_given i below in let b = rise i below in omega (arith, a, b);
    destination_given = λ t i. given t (redirect_gives grant l.transfers t i);
    above_current = λ p m h. elim (k.above_current p m h) [
      | inl b ↦ inl b
      | inr d ↦ above p m (destination_gives l.transfers p d)
    ];
    old_disk_left = λ w. absurd (contrary l.is_swapped w legal.unswapped);
    old_disk_newest = λ w. absurd (contrary l.is_swapped w legal.unswapped);
  } where
    at_dest : (p : Place) (t : Transfer) → is_made p ≡ true → p.index ≡ t.index → p.epoch ≡ t.dest.epoch → (u : Transfer) × IsIn u l.transfers × (t ≡ redirect grant u) → p.disk ≡ t.dest.disk
    at_dest p t m e f r = elim (dest_cases grant r.0) [
      | inl new ↦
          let a = k.made_given p m in
          let n = legal.home.epoch in
          let x = ap (λ (y : Transfer). y.dest.epoch) r.2 in
          let y = ap (λ (h : Location). h.epoch) new.1 in
          let z = ap (greatest_at greatest) (e ∙ ap (λ (y : Transfer). y.index) r.2 ∙ new.0) in
          absurd (omega (arith, a, n, x, y, z, f))
      | inr old ↦
          k.destination_at_home p r.0 m r.1 (e ∙ ap (λ (y : Transfer). y.index) r.2) (f ∙ ap (λ (y : Transfer). y.dest.epoch) r.2 ∙ ap (λ (h : Location). h.epoch) old.1)
          ∙ ap (λ (h : Location). h.disk) (sym old.1) ∙ ap (λ (y : Transfer). y.dest.disk) (sym r.2)
    ]

    free : (t : Transfer) (j : ℕ) → j < shape.total → (home_at homes j).disk ≡ t.dest.disk → (u : Transfer) × IsIn u l.transfers × (t ≡ redirect grant u) → ⊥
    free t j below e r = elim (dest_cases grant r.0) [
      | inl new ↦ legal.home.free j (omega (arith, below, homes_count)) (e ∙ ap (λ (y : Transfer). y.dest.disk) r.2 ∙ ap (λ (h : Location). h.disk) new.1)
      | inr old ↦ k.destinations_free legal.unswapped r.0 r.1 j below (e ∙ ap (λ (y : Transfer). y.dest.disk) r.2 ∙ ap (λ (h : Location). h.disk) old.1)
    ]

    apart : (t u : Transfer) → t.dest.disk ≡ u.dest.disk → (v : Transfer) × IsIn v l.transfers × (t ≡ redirect grant v) → (v : Transfer) × IsIn v l.transfers × (u ≡ redirect grant v) → t.index ≡ u.index
    apart t u e x y = ap (λ (z : Transfer). z.index) x.2 ∙ go (dest_cases grant x.0) (dest_cases grant y.0) ∙ ap (λ (z : Transfer). z.index) (sym y.2) where
      f : (redirect grant x.0).dest.disk ≡ (redirect grant y.0).dest.disk
      f = ap (λ (z : Transfer). z.dest.disk) (sym x.2) ∙ e ∙ ap (λ (z : Transfer). z.dest.disk) y.2

      go : ((x.0.index ≡ grant.index) × ((redirect grant x.0).dest ≡ grant.dest)) ⊎ ((x.0.index ≡ grant.index → ⊥) × ((redirect grant x.0).dest ≡ x.0.dest))
          → ((y.0.index ≡ grant.index) × ((redirect grant y.0).dest ≡ grant.dest)) ⊎ ((y.0.index ≡ grant.index → ⊥) × ((redirect grant y.0).dest ≡ y.0.dest)) → x.0.index ≡ y.0.index
      go (inl a) (inl b) = a.0 ∙ sym b.0
      go (inl a) (inr b) = a.0 ∙ sym (legal.apart y.0 y.1 (ap (λ (h : Location). h.disk) (sym b.1) ∙ sym f ∙ ap (λ (h : Location). h.disk) a.1))
      go (inr a) (inl b) = legal.apart x.0 x.1 (ap (λ (h : Location). h.disk) (sym a.1) ∙ f ∙ ap (λ (h : Location). h.disk) b.1) ∙ sym b.0
      go (inr a) (inr b) = k.destinations_apart legal.unswapped x.0 y.0 x.1 y.1 (ap (λ (h : Location). h.disk) (sym a.1) ∙ f ∙ ap (λ (h : Location). h.disk) b.1)

    given : (t : Transfer) → (u : Transfer) × IsIn u l.transfers × (t ≡ redirect grant u) → t.dest.epoch ≤ greatest_at (raised 0 (grant ∷ []) greatest) t.index
    given t r =
        let x = ap (λ (y : Transfer). y.dest.epoch) r.2 in
        let z = ap (λ (y : Transfer). greatest_at (raised 0 (grant ∷ []) greatest) y.index) r.2 in
        elim (dest_cases grant r.0) [
          | inl new ↦
              let y = ap (λ (h : Location). h.epoch) new.1 in
              let w = ap (greatest_at (raised 0 (grant ∷ []) greatest)) new.0 in
              let g = grant_epoch in
              omega (arith, x, y, z, w, g)
          | inr old ↦
              let y = ap (λ (h : Location). h.epoch) old.1 in
              let g = k.destination_given r.0 r.1 in
              let b = rise r.0.index (within r.0 r.1) in
              omega (arith, x, y, z, g, b)
        ]

    above : (p : Place) → is_made p ≡ true → (t : Transfer) × IsIn t l.transfers × (t.index ≡ p.index) × (t.dest.epoch ≡ p.epoch) → (broken p.disk ≡ true) ⊎ (is_destination (redirected grant l.transfers) p ≡ true)
    above p m found = elim (dest_cases grant found.0) [
      | inl new ↦ inl (ap broken (k.destination_at_home p found.0 m found.1 (sym found.2) (sym found.3)) ∙ gone found.0 found.1 new.0)
      | inr old ↦ inr (gives_any (λ u. (u.index == p.index) && (u.dest.epoch == p.epoch)) (redirected grant l.transfers) (redirect grant found.0) (gives_redirect grant l.transfers found.0 found.1)
          (and_both (found.0.index == p.index) ((redirect grant found.0).dest.epoch == p.epoch) (equal_test found.0.index p.index found.2)
          (equal_test (redirect grant found.0).dest.epoch p.epoch (ap (λ (h : Location). h.epoch) old.1 ∙ found.3))))
    ]

-- the same number gives the same listings
pub listing_same : (l : Lock) (ts : List Transfer) (place : Place) (r : Request) (a : Answer) → listing_given (Some (record l { transfers = ts })) place r a ≡ listing_given (Some l) place r a
listing_same l ts place (Request.List to n) (Answer.Listing said shown) = refl
listing_same l ts place r a = refl

-- placement of a new destination, whatever the lock
pub placement_with : (shape : VolumeShape) (homes : List Location) (greatest : List ℕ) (lock : Option Lock) (broken : ℕ → Bool) (is_made : Place → Bool) (grant : Grant)
    → length homes ≡ shape.total → length greatest ≡ shape.total → IsLegalRetarget shape homes greatest lock grant
    → ((t : Transfer) → IsIn t (transfers_of lock) → t.index ≡ grant.index → broken t.dest.disk ≡ true) → ((t : Transfer) → IsIn t (transfers_of lock) → t.index < shape.total)
    → Placement shape.total homes greatest lock broken is_made → PlacementWith shape.total homes greatest (redirected_lock grant lock) broken is_made (grant ∷ [])
placement_with shape homes greatest None broken is_made grant a b legal gone within k = let e = legal.locked in cc
placement_with shape homes greatest (Some l) broken is_made grant a b legal gone within k = placement_retargeted shape homes greatest l broken is_made grant a b legal gone within k
