-- What the tests of the manager's steps say of their records.
use Rattle.std.proofs.Common.{◌≡◌, ℕ, ◌+◌, ◌≤◌, ◌⊎◌, inl, inr, Bool, true, false, List, [], Option, Some, None, refl, sym, ◌∙◌, ap, subst, arith}
use Rattle.std.specs.Prelude.{◌&&◌, ◌==◌, not, is_some}
use Rattle.std.proofs.lemmas.Bool.{eqb-true, eqb-false}
use Rattle.unit_id.specs.Lists.{IsIn, any, is_in}
use Rattle.unit_id.specs.Place.{Place, at_home}
use Rattle.code_mode.specs.VolumeShape.{VolumeShape, IsVolumeShape, lease_length, last_epoch}
use Rattle.unit_id.specs.Request.{Request, Answer}
use Rattle.blob_node.specs.Units.{RowState, has_row, is_deleted}
use Rattle.volume_entry.specs.Manager.{Transfer, HeardMark, Grant, ManagerRecord, home_at, greatest_at, current, is_current, transfers_of, is_swapped, IsNextHome, IsLegalLock, IsBid}
use Rattle.unit_id.specs.declared.targets.Target.{Target}
use Rattle.volume_entry.specs.ManagerStep.{first_held, grant_of, grants_of, is_spent, has_unheard, is_mark_heard, mark_count}
use Rattle.volume_world.specs.State.{State}
use Rattle.volume_world.specs.BlobStatus.{is_begun, is_bare, bare}
use Rattle.volume_entry.specs.ManagerStep.{AreTargets}
use Rattle.volume_world.specs.Provenance.{IsBorneOut}
use Rattle.volume_world.specs.Authority.{gives_mark, gives_release}
use Rattle.volume_world.specs.Invariant.{Kept}
use Rattle.unit_id.proofs.Bools.{and_left, and_right, not_true, contrary, equal_test}
use Rattle.unit_id.proofs.Counts.{count_apart}
use Rattle.unit_id.proofs.Membership.{any_gives, none_passes}
use Rattle.unit_id.proofs.Places.{same_place}
use Rattle.volume_entry.proofs.Locks.{no_lock}
use Rattle.volume_world.proofs.BeginEnd.{row_made, current_unreleased}
use Rattle.volume_world.proofs.Locked.{placement_locked}
use Rattle.volume_world.proofs.Doubt.{MayBeDoubted}
use Rattle.volume_entry.proofs.Grants.{holder_free, held_free, grants_length, grants_order, grant_gives, held_apart}

-- a lock may be left in doubt once its tests pass
pub lock_doubted : (shape : VolumeShape) (s : State) (task : ℕ) (targets : List Target) → Kept shape s → AreTargets shape targets → is_some s.manager.lock ≡ false → s.manager.lease_end ≤ s.time
    → first_held s.manager.homes [] targets ≡ None → any (λ w. is_spent s.manager.greatest w.index) targets ≡ false
    → MayBeDoubted shape s (ManagerRecord.Locked task (s.manager.granted + 1) (grants_of s.manager.greatest targets))
lock_doubted shape s task targets k are unlocked over free unspent = record {
  sound = (
    legal,
    over,
    placement_locked shape s.manager.homes s.manager.greatest s.manager.lease_end s.manager.granted s.manager.lock s.broken s.units.is_made task (s.manager.granted + 1) (grants_of s.manager.greatest targets)
        k.form.lists.homes_count k.form.lists.greatest_count legal k.placement,
  );
  bare = λ b e. cc;
  unlocked = λ b e. cc;
  acked = λ e. cc;
  committed = λ e. cc;
  term = λ end e. cc;
  begun = λ b e. cc;
} where
  next_home : (t : Grant) → (w : Target) × IsIn w targets × (t ≡ grant_of s.manager.greatest w) → IsNextHome shape s.manager.homes s.manager.greatest t
  next_home t found = subst (IsNextHome shape s.manager.homes s.manager.greatest) (sym found.2) (record {
    index = (are.each found.0 found.1).index;
    epoch = refl;
    last = let w = k.form.lists.greatest_within found.0.index (are.each found.0 found.1).index in
        let n = eqb-false (greatest_at s.manager.greatest found.0.index) last_epoch (none_passes (λ w. is_spent s.manager.greatest w.index) targets unspent found.0 found.1) in
        omega (arith, w, n);
    disk = (are.each found.0 found.1).disk;
    free = holder_free 0 s.manager.homes found.0.disk (held_free s.manager.homes [] targets free found.0 found.1);
  })

  legal : IsLegalLock shape s.manager.homes s.manager.greatest s.manager.lease_end s.manager.granted s.manager.lock (s.manager.granted + 1) (grants_of s.manager.greatest targets)
  legal = record {
    unlocked = no_lock s.manager.lock unlocked;
    in_time = let t = k.form.lists.time_within in omega (arith, t, over);
    next = refl;
    some = let l = grants_length s.manager.greatest targets in let a = are.some in omega (arith, l, a);
    most = let l = grants_length s.manager.greatest targets in let a = are.most in omega (arith, l, a);
    order = grants_order s.manager.greatest targets are.order;
    homes = λ t i. next_home t (grant_gives s.manager.greatest targets t i);
    apart = λ t u i j e.
        let x = grant_gives s.manager.greatest targets t i in
        let y = grant_gives s.manager.greatest targets u j in
        ap (λ (z : Grant). z.index) x.2
        ∙ held_apart s.manager.homes [] targets free x.0 y.0 x.1 y.1 (ap (λ (z : Grant). z.dest.disk) (sym x.2) ∙ e ∙ ap (λ (z : Grant). z.dest.disk) y.2)
        ∙ ap (λ (z : Grant). z.index) (sym y.2);
  }

-- a lease may, where there is no lock
pub lease_doubted : (shape : VolumeShape) (s : State) → Kept shape s → is_some s.manager.lock ≡ false → MayBeDoubted shape s (ManagerRecord.Leased (s.time + lease_length))
lease_doubted shape s k unlocked = record {
  sound = (no_lock s.manager.lock unlocked, (let t = k.form.lists.time_within in omega (arith, t)), k.support.leases.lease_within_term);
  bare = λ b e. cc;
  unlocked = λ b e. cc;
  acked = λ e. cc;
  committed = λ e. cc;
  term = λ end e. within end e;
  begun = λ b e. cc;
} where
  within : (end : ℕ) → Some (ManagerRecord.Leased (s.time + lease_length)) ≡ Some (ManagerRecord.Leased end) → end ≤ s.time + lease_length
  within end e = let f : s.time + lease_length ≡ end = cc in omega (arith, f)

-- an ask may, of a begun blob that isn't asked
pub ask_doubted : (shape : VolumeShape) (s : State) (bid : ℕ) → Kept shape s → IsBid bid → is_begun (s.puts.status bid) ≡ true → is_in bid s.manager.asked ≡ false → MayBeDoubted shape s (ManagerRecord.Asked bid)
ask_doubted shape s bid k good begun unasked = record {
  sound = (good, unasked);
  bare = λ b e. cc;
  unlocked = λ b e. cc;
  acked = λ e. cc;
  committed = λ e. cc;
  term = λ end e. cc;
  begun = λ b e. let f : bid ≡ b = cc in ap (λ c. is_begun (s.puts.status c)) (sym f) ∙ begun;
}

-- an old unit that was heard to be released is, unless its disk is broken
released_there : (shape : VolumeShape) (s : State) → Kept shape s → is_swapped s.manager.lock ≡ true → (t : Transfer) → IsIn t (transfers_of s.manager.lock) → is_in t.index s.manager.heard.released ≡ true
    → s.broken t.old.disk ≡ false → s.units.is_released (at_home t.index t.old) ≡ true
released_there shape s k swapped t i h unbroken = let was = k.authority.hearing.released_given t i h in go was.answer was.releases was.given where
  go : (a : Answer) → gives_release a ≡ true → IsIn (record { request = Request.Release (at_home t.index t.old); answer = a }) s.post.given → s.units.is_released (at_home t.index t.old) ≡ true
  go Answer.Done r g = k.provenance.answers (record { request = Request.Release (at_home t.index t.old); answer = Answer.Done }) g
  go (Answer.Stale have) r g = elim (k.support.post.stale_release_explained (at_home t.index t.old) have g) [
    | inl released ↦ released
    | inr later ↦
        let newest = k.placement.old_disk_newest swapped t i unbroken (record { index = t.index; epoch = later.0; disk = t.old.disk }) later.2 refl refl in
        let above = later.1 in absurd (omega (arith, newest, above))
  ]
  go a r g = cc

pub unlock_doubted : (shape : VolumeShape) (s : State) → Kept shape s → is_swapped s.manager.lock ≡ true → has_unheard s.broken (transfers_of s.manager.lock) s.manager.heard.released ≡ false → MayBeDoubted shape s ManagerRecord.Unlocked
unlock_doubted shape s k swapped heard = record {
  sound = (
    swapped,
    (λ t i. go t i (is_in t.index s.manager.heard.released) (s.broken t.old.disk) refl refl
        (none_passes (λ u. not (is_in u.index s.manager.heard.released) && not (s.broken u.old.disk)) (transfers_of s.manager.lock) heard t i)),
  );
  bare = λ b e. cc;
  unlocked = λ b e. cc;
  acked = λ e. cc;
  committed = λ e. cc;
  term = λ end e. cc;
  begun = λ b e. cc;
} where
  go : (t : Transfer) → IsIn t (transfers_of s.manager.lock) → (r u : Bool) → is_in t.index s.manager.heard.released ≡ r → s.broken t.old.disk ≡ u → not r && not u ≡ false
      → (s.broken t.old.disk ≡ true) ⊎ (s.units.is_released (at_home t.index t.old) ≡ true)
  go t i r true e f x = inl f
  go t i true false e f x = inr (released_there shape s k swapped t i e f)
  go t i false false e f x = cc

-- a unit of which a mark was heard isn't bare
mark_stands : (shape : VolumeShape) (s : State) (bid i : ℕ) → Kept shape s → is_mark_heard s.manager.homes s.manager.marks bid i ≡ true → is_deleted (s.units.row (current s.manager.homes i) bid) ≡ true
mark_stands shape s bid i k h =
    let test = λ (m : HeardMark). (m.bid == bid) && ((m.index == i) && (m.epoch == (home_at s.manager.homes i).epoch)) in
    let found = any_gives test s.manager.marks h in
    let m = found.0 in
    let blob : m.bid ≡ bid = eqb-true m.bid bid (and_left (m.bid == bid) ((m.index == i) && (m.epoch == (home_at s.manager.homes i).epoch)) found.2) in
    let rest = and_right (m.bid == bid) ((m.index == i) && (m.epoch == (home_at s.manager.homes i).epoch)) found.2 in
    let was = k.authority.hearing.mark_given m found.1 in
    let index : was.place.index ≡ i = was.index ∙ eqb-true m.index i (and_left (m.index == i) (m.epoch == (home_at s.manager.homes i).epoch) rest) in
    let epoch : was.place.epoch ≡ (home_at s.manager.homes i).epoch = was.epoch ∙ eqb-true m.epoch (home_at s.manager.homes i).epoch (and_right (m.index == i) (m.epoch == (home_at s.manager.homes i).epoch) rest) in
    let epoch_there : was.place.epoch ≡ (home_at s.manager.homes was.place.index).epoch = epoch ∙ ap (λ n. (home_at s.manager.homes n).epoch) (sym index) in
    let is_cur : is_current s.manager.homes was.place ≡ true = equal_test (home_at s.manager.homes was.place.index).epoch was.place.epoch (sym epoch_there) in
    let marked : is_deleted (s.units.row was.place m.bid) ≡ true =
    borne was.answer was.marks was.place m.bid (k.provenance.answers (record { request = Request.Mark was.place m.bid; answer = was.answer }) was.given) (current_unreleased shape s k was.place is_cur) in
    let made = row_made shape s k was.place m.bid (deleted_has_row (s.units.row was.place m.bid) marked) in
    let at : was.place ≡ current s.manager.homes i = same_place was.place (current s.manager.homes i) index epoch (k.placement.current_at_home was.place made epoch_there ∙ ap (λ n. (home_at s.manager.homes n).disk) index) in
    subst (λ p. is_deleted (s.units.row p bid) ≡ true) at (ap (λ b. is_deleted (s.units.row was.place b)) (sym blob) ∙ marked) where
      deleted_has_row : (row : Option RowState) → is_deleted row ≡ true → has_row row ≡ true
      deleted_has_row None h = h
      deleted_has_row (Some row) h = refl

      borne : (a : Answer) → gives_mark a ≡ true → (p : Place) (b : ℕ) → IsBorneOut s.puts.status s.manager.asked s.units (Request.Mark p b) a → s.units.is_released p ≡ false → is_deleted (s.units.row p b) ≡ true
      borne Answer.Done g p b h = h
      borne Answer.Already g p b h = h
      borne a g p b h = cc

pub commit_doubted : (shape : VolumeShape) (s : State) (bid : ℕ) → IsVolumeShape shape → Kept shape s → IsBid bid → is_in bid s.manager.asked ≡ true → is_in bid s.manager.committed ≡ false → is_some s.manager.lock ≡ false
    → shape.sight ≤ mark_count shape.total s.manager.homes s.manager.marks bid → MayBeDoubted shape s (ManagerRecord.Committed bid)
commit_doubted shape s bid good k is_bid asked uncommitted unlocked enough = record {
  sound = (is_bid, asked, uncommitted, no_lock s.manager.lock unlocked);
  bare = λ b e. let f : bid ≡ b = cc in subst (λ c. bare shape.total s.manager.homes s.broken s.units.row c + shape.data_count ≤ shape.quorum) f few;
  unlocked = λ b e. no_lock s.manager.lock unlocked;
  acked = λ e. cc;
  committed = λ e. cc;
  term = λ end e. cc;
  begun = λ b e. cc;
} where
  few : bare shape.total s.manager.homes s.broken s.units.row bid + shape.data_count ≤ shape.quorum
  few =
      let apart = count_apart shape.total (is_bare s.manager.homes s.broken s.units.row bid) (is_mark_heard s.manager.homes s.manager.marks bid) (λ i below bare_i heard.
      contrary (is_deleted (s.units.row (current s.manager.homes i) bid)) (mark_stands shape s bid i k heard)
      (not_true (is_deleted (s.units.row (current s.manager.homes i) bid)) (and_right (not (s.broken (home_at s.manager.homes i).disk)) (not (is_deleted (s.units.row (current s.manager.homes i) bid))) bare_i))) in
      let o = good.overlap in omega (arith, apart, enough, o)
