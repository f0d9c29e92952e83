-- A mark, a free, a read or a list that is handled keeps what is kept.
use Rattle.std.proofs.Common.{◌≡◌, ℕ, Bool, true, false, Option, Some, None, refl, sym, ◌∙◌, ap, cond}
use Rattle.std.specs.Prelude.{◌&&◌, ◌==◌, not}
use Rattle.std.proofs.lemmas.Bool.{eqb-true}
use Rattle.unit_id.specs.Lists.{IsIn, is_in}
use Rattle.unit_id.specs.Place.{Place}
use Rattle.code_mode.specs.VolumeShape.{VolumeShape}
use Rattle.unit_id.specs.Shown.{Shown}
use Rattle.unit_id.specs.Request.{Request, Answer, Given}
use Rattle.blob_node.specs.Units.{RowState, UnitRecord, has_row, is_deleted, is_live, with_at, with_row, after_mark, after_free}
use Rattle.blob_node.specs.UnitAnswer.{Effect, Answers, IsListing, view_at, started}
use Rattle.volume_entry.specs.Manager.{home_at, current, has_number}
use Rattle.volume_world.specs.State.{State}
use Rattle.volume_world.specs.BlobStatus.{is_begun}
use Rattle.volume_entry.specs.Benchmark.{shows_live, shows_marked}
use Rattle.volume_world.specs.Blind.{listing_given, lists_without}
use Rattle.volume_world.specs.Provenance.{HasCause}
use Rattle.volume_world.specs.Invariant.{Kept}
use Rattle.unit_id.proofs.Bools.{and_left, and_right}
use Rattle.unit_id.proofs.Places.{same_place}
use Rattle.volume_world.proofs.Rows.{mark_kept, free_kept}
use Rattle.volume_world.proofs.Given.{MayBeGiven, MayBeInDoubt, answer_kept}
use Rattle.blob_node.proofs.Lookups.{row_here}
use Rattle.volume_world.proofs.GivenByUnits.{handled, inert_given, other_given, after_start, started_kept, doubted_kept}

pub deleted_gone : (row : Option RowState) → row ≡ Some RowState.Gone → is_deleted row ≡ true
deleted_gone row e = ap is_deleted e

pub after_mark_deleted : (row : Option RowState) → is_deleted (after_mark row) ≡ true
after_mark_deleted None = refl
after_mark_deleted (Some RowState.Live) = refl
after_mark_deleted (Some RowState.Marked) = refl
after_mark_deleted (Some RowState.Gone) = refl

pub mark_handled : (shape : VolumeShape) (s : State) (p : Place) (b : ℕ) (a : Answer) (e : Effect) → Kept shape s → IsIn (Request.Mark p b) s.post.issued
    → Answers (view_at s.broken s.units p) (Request.Mark p b) a e → Kept shape (handled s (Request.Mark p b) a e)
mark_handled shape s p b Answer.Broken Effect.Nothing k i h = answer_kept shape s _ k (inert_given shape s (Request.Mark p b) Answer.Broken i refl)
mark_handled shape s p b (Answer.Stale have) Effect.Nothing k i h =
    answer_kept shape s _ k (other_given shape s (Request.Mark p b) (Answer.Stale have) i tt (λ c x. cc) (λ c. refl) (λ q n x. let r = ap (λ (g : Given). g.request) x in cc))
mark_handled shape s p b Answer.NoUnit Effect.Nothing k i h = answer_kept shape s _ k (inert_given shape s (Request.Mark p b) Answer.NoUnit i refl)
mark_handled shape s p b Answer.Fault Effect.Nothing k i h = answer_kept shape s _ k (inert_given shape s (Request.Mark p b) Answer.Fault i refl)
mark_handled shape s p b (Answer.Fenced n) Effect.Started k i h = answer_kept shape (after_start s p) _ (started_kept shape s p k) (inert_given shape (after_start s p) (Request.Mark p b) (Answer.Fenced n) i refl)
mark_handled shape s p b (Answer.Full n) Effect.Started k i h = answer_kept shape (after_start s p) _ (started_kept shape s p k) (inert_given shape (after_start s p) (Request.Mark p b) (Answer.Full n) i refl)
mark_handled shape s p b Answer.Already Effect.Started k i h =
    answer_kept shape (after_start s p) _ (started_kept shape s p k)
    (other_given shape (after_start s p) (Request.Mark p b) Answer.Already i (λ u. h.1.1.1) (λ c x. cc) (λ c. refl) (λ q n x. let r = ap (λ (g : Given). g.request) x in cc))
mark_handled shape s p b Answer.Fault Effect.Doubted k i h =
    let may : MayBeInDoubt s p (UnitRecord.Mark b) = record { issued = i; release_below = λ e. cc; unfenced = λ e. h.1.1.0; unreleased = h.0.unreleased; made = h.1.0.held } in
    let s1 = record s { units = record (s.units) { is_shut = with_at p true s.units.is_shut; doubt = with_at p (Some (UnitRecord.Mark b)) s.units.doubt } } in
    answer_kept shape s1 _ (doubted_kept shape s p (UnitRecord.Mark b) k may) (inert_given shape s1 (Request.Mark p b) Answer.Fault i refl)
mark_handled shape s p b Answer.Done Effect.Wrote k i h =
    let s2 = record s { units = record (started p s.units) { row = with_row p b (after_mark (s.units.row p b)) s.units.row } } in
    let k2 : Kept shape s2 = mark_kept shape (after_start s p) p b (started_kept shape s p k) (k.authority.requests.issued (Request.Mark p b) i) h.1.0.held h.0.unreleased in
    answer_kept shape s2 _ k2 (other_given shape s2 (Request.Mark p b) Answer.Done i
    (λ u. ap is_deleted (row_here p b (after_mark (s.units.row p b)) s.units.row) ∙ after_mark_deleted (s.units.row p b)) (λ c x. cc) (λ c. refl) (λ q n x. let r = ap (λ (g : Given). g.request) x in cc))
mark_handled shape s p b a e k i h = absurd h.1.1

pub free_handled : (shape : VolumeShape) (s : State) (p : Place) (b : ℕ) (a : Answer) (e : Effect) → Kept shape s → IsIn (Request.Free p b) s.post.issued
    → Answers (view_at s.broken s.units p) (Request.Free p b) a e → Kept shape (handled s (Request.Free p b) a e)
free_handled shape s p b Answer.Broken Effect.Nothing k i h = answer_kept shape s _ k (inert_given shape s (Request.Free p b) Answer.Broken i refl)
free_handled shape s p b (Answer.Stale have) Effect.Nothing k i h =
    answer_kept shape s _ k (other_given shape s (Request.Free p b) (Answer.Stale have) i tt (λ c x. cc) (λ c. refl) (λ q n x. let r = ap (λ (g : Given). g.request) x in cc))
free_handled shape s p b Answer.NoUnit Effect.Nothing k i h = answer_kept shape s _ k (inert_given shape s (Request.Free p b) Answer.NoUnit i refl)
free_handled shape s p b Answer.Fault Effect.Nothing k i h = answer_kept shape s _ k (inert_given shape s (Request.Free p b) Answer.Fault i refl)
free_handled shape s p b (Answer.Fenced n) Effect.Started k i h = answer_kept shape (after_start s p) _ (started_kept shape s p k) (inert_given shape (after_start s p) (Request.Free p b) (Answer.Fenced n) i refl)
free_handled shape s p b (Answer.Full n) Effect.Started k i h = answer_kept shape (after_start s p) _ (started_kept shape s p k) (inert_given shape (after_start s p) (Request.Free p b) (Answer.Full n) i refl)
free_handled shape s p b Answer.NotMarked Effect.Started k i h = answer_kept shape (after_start s p) _ (started_kept shape s p k) (inert_given shape (after_start s p) (Request.Free p b) Answer.NotMarked i refl)
free_handled shape s p b Answer.Already Effect.Started k i h =
    answer_kept shape (after_start s p) _ (started_kept shape s p k)
    (other_given shape (after_start s p) (Request.Free p b) Answer.Already i tt (λ c x. cc) (λ c. refl) (λ q n x. let r = ap (λ (g : Given). g.request) x in cc))
free_handled shape s p b Answer.Fault Effect.Doubted k i h =
    let may : MayBeInDoubt s p (UnitRecord.Free b) = record { issued = i; release_below = λ e. cc; unfenced = λ e. h.1.1.0; unreleased = h.0.unreleased; made = h.1.0.held } in
    let s1 = record s { units = record (s.units) { is_shut = with_at p true s.units.is_shut; doubt = with_at p (Some (UnitRecord.Free b)) s.units.doubt } } in
    answer_kept shape s1 _ (doubted_kept shape s p (UnitRecord.Free b) k may) (inert_given shape s1 (Request.Free p b) Answer.Fault i refl)
free_handled shape s p b Answer.Done Effect.Wrote k i h =
    let s2 = record s { units = record (started p s.units) { row = with_row p b (after_free (s.units.row p b)) s.units.row } } in
    let k2 : Kept shape s2 = free_kept shape (after_start s p) p b (started_kept shape s p k) (k.authority.requests.issued (Request.Free p b) i) h.1.0.held h.0.unreleased in
    answer_kept shape s2 _ k2 (other_given shape s2 (Request.Free p b) Answer.Done i tt (λ c x. cc) (λ c. refl) (λ q n x. let r = ap (λ (g : Given). g.request) x in cc))
free_handled shape s p b a e k i h = absurd h.1.1

pub read_handled : (shape : VolumeShape) (s : State) (p : Place) (b : ℕ) (a : Answer) (e : Effect) → Kept shape s → IsIn (Request.Read p b) s.post.issued
    → Answers (view_at s.broken s.units p) (Request.Read p b) a e → Kept shape (handled s (Request.Read p b) a e)
read_handled shape s p b Answer.Broken Effect.Nothing k i h = answer_kept shape s _ k (inert_given shape s (Request.Read p b) Answer.Broken i refl)
read_handled shape s p b (Answer.Stale have) Effect.Nothing k i h =
    answer_kept shape s _ k (other_given shape s (Request.Read p b) (Answer.Stale have) i tt (λ c x. cc) (λ c. refl) (λ q n x. let r = ap (λ (g : Given). g.request) x in cc))
read_handled shape s p b Answer.NoUnit Effect.Nothing k i h = answer_kept shape s _ k (inert_given shape s (Request.Read p b) Answer.NoUnit i refl)
read_handled shape s p b Answer.Fault Effect.Nothing k i h = answer_kept shape s _ k (inert_given shape s (Request.Read p b) Answer.Fault i refl)
read_handled shape s p b Answer.Live Effect.Started k i h = answer_kept shape (after_start s p) _ (started_kept shape s p k) (inert_given shape (after_start s p) (Request.Read p b) Answer.Live i refl)
read_handled shape s p b Answer.Marked Effect.Started k i h = answer_kept shape (after_start s p) _ (started_kept shape s p k) (inert_given shape (after_start s p) (Request.Read p b) Answer.Marked i refl)
read_handled shape s p b Answer.Gone Effect.Started k i h = answer_kept shape (after_start s p) _ (started_kept shape s p k) (inert_given shape (after_start s p) (Request.Read p b) Answer.Gone i refl)
read_handled shape s p b Answer.Absent Effect.Started k i h = answer_kept shape (after_start s p) _ (started_kept shape s p k) (inert_given shape (after_start s p) (Request.Read p b) Answer.Absent i refl)
read_handled shape s p b Answer.Fault Effect.Started k i h = answer_kept shape (after_start s p) _ (started_kept shape s p k) (inert_given shape (after_start s p) (Request.Read p b) Answer.Fault i refl)
read_handled shape s p b a e k i h = absurd h.1.1

-- a row that is live, or marked or gone, has its cause
pub live_begun : (begun asked committed : Bool) (row : Option RowState) → HasCause begun asked committed row → is_live row ≡ true → begun ≡ true
live_begun begun asked committed None c h = cc
live_begun begun asked committed (Some RowState.Live) c h = c
live_begun begun asked committed (Some RowState.Marked) c h = cc
live_begun begun asked committed (Some RowState.Gone) c h = cc

pub deleted_asked : (begun asked committed : Bool) (row : Option RowState) → (committed ≡ true → asked ≡ true) → HasCause begun asked committed row → is_deleted row ≡ true → asked ≡ true
deleted_asked begun asked committed None up c h = cc
deleted_asked begun asked committed (Some RowState.Live) up c h = cc
deleted_asked begun asked committed (Some RowState.Marked) up c h = c
deleted_asked begun asked committed (Some RowState.Gone) up c h = up c

pub live_has_row : (row : Option RowState) → is_live row ≡ true → has_row row ≡ true
live_has_row None h = h
live_has_row (Some row) h = refl

-- a listing of exactly the rows
pub listing_given_may : (shape : VolumeShape) (s : State) (p : Place) (n said : ℕ) (shown : Shown) → Kept shape s → IsIn (Request.List p n) s.post.issued → s.units.is_made p ≡ true → IsListing (s.units.row p) shown
    → MayBeGiven shape s (record { request = Request.List p n; answer = Answer.Listing said shown })
listing_given_may shape s p n said shown k i made lists = record {
  issued = i;
  borne_out = record {
    live_begun = λ b h. live_begun (is_begun (s.puts.status b)) (is_in b s.manager.asked) (is_in b s.manager.committed) (s.units.row p b) (k.provenance.rows p b) (sym (lists.live b) ∙ h);
    marked_begun = λ b h. k.support.asks.asked_is_begun b (asked b h);
    marked_asked = asked;
    live_stands = λ u b h. live_has_row (s.units.row p b) (sym (lists.live b) ∙ h);
    marked_stands = λ u b h. sym (lists.marked b) ∙ h;
  };
  taken = λ c o l e. cc;
  live = λ j b below h. hidden j (is_live (s.units.row (current s.manager.homes j) b)) (λ shown. shows_live shown b) (is_live (s.units.row p b)) (λ e. ap (λ q. is_live (s.units.row q b)) (sym e)) (lists.live b) h;
  marked = λ j b below h. hidden j (is_deleted (s.units.row (current s.manager.homes j) b)) (λ shown. shows_marked shown b) (is_deleted (s.units.row p b)) (λ e. ap (λ q. is_deleted (s.units.row q b)) (sym e)) (lists.marked b) h;
  stale = λ q m e. let r = ap (λ (g : Given). g.request) e in cc;
} where
  asked : (b : ℕ) → is_in b shown.marked ≡ true → is_in b s.manager.asked ≡ true
  asked b h = deleted_asked (is_begun (s.puts.status b)) (is_in b s.manager.asked) (is_in b s.manager.committed) (s.units.row p b) (k.authority.requests.committed_asked b) (k.provenance.rows p b) (sym (lists.marked b) ∙ h)

  -- the listing of the current unit of an index shows exactly its rows
  hidden : (j : ℕ) (here : Bool) (shows : Option Shown → Bool) (there : Bool) → (p ≡ current s.manager.homes j → here ≡ there) → shows (Some shown) ≡ there
      → lists_without (listing_given s.manager.lock (current s.manager.homes j) (Request.List p n) (Answer.Listing said shown)) (shows (listing_given s.manager.lock (current s.manager.homes j) (Request.List p n) (Answer.Listing said shown))) ≡ true
      → not here ≡ true
  hidden j here shows there at shown_there h = go (has_number s.manager.lock n && ((p.index == j) && (p.epoch == (home_at s.manager.homes j).epoch))) refl h where
    go : (test : Bool) → has_number s.manager.lock n && ((p.index == j) && (p.epoch == (home_at s.manager.homes j).epoch)) ≡ test
        → lists_without (cond test (Some shown) None) (shows (cond test (Some shown) None)) ≡ true → not here ≡ true
    go false e h = cc
    go true e h =
        let rest = and_right (has_number s.manager.lock n) ((p.index == j) && (p.epoch == (home_at s.manager.homes j).epoch)) e in
        let index = eqb-true p.index j (and_left (p.index == j) (p.epoch == (home_at s.manager.homes j).epoch) rest) in
        let epoch = eqb-true p.epoch (home_at s.manager.homes j).epoch (and_right (p.index == j) (p.epoch == (home_at s.manager.homes j).epoch) rest) in
        let disk = k.placement.current_at_home p made (epoch ∙ ap (λ m. (home_at s.manager.homes m).epoch) (sym index)) ∙ ap (λ m. (home_at s.manager.homes m).disk) index in
        ap not (at (same_place p (current s.manager.homes j) index epoch disk) ∙ sym shown_there) ∙ h

pub list_handled : (shape : VolumeShape) (s : State) (p : Place) (n : ℕ) (a : Answer) (e : Effect) → Kept shape s → IsIn (Request.List p n) s.post.issued
    → Answers (view_at s.broken s.units p) (Request.List p n) a e → Kept shape (handled s (Request.List p n) a e)
list_handled shape s p n Answer.Broken Effect.Nothing k i h = answer_kept shape s _ k (inert_given shape s (Request.List p n) Answer.Broken i refl)
list_handled shape s p n (Answer.Stale have) Effect.Nothing k i h =
    answer_kept shape s _ k (other_given shape s (Request.List p n) (Answer.Stale have) i tt (λ c x. cc) (λ c. refl) (λ q m x. let r = ap (λ (g : Given). g.request) x in cc))
list_handled shape s p n Answer.NoUnit Effect.Nothing k i h = answer_kept shape s _ k (inert_given shape s (Request.List p n) Answer.NoUnit i refl)
list_handled shape s p n Answer.Fault Effect.Nothing k i h = answer_kept shape s _ k (inert_given shape s (Request.List p n) Answer.Fault i refl)
list_handled shape s p n (Answer.Listing said shown) Effect.Started k i h =
    answer_kept shape (after_start s p) _ (started_kept shape s p k) (listing_given_may shape (after_start s p) p n said shown (started_kept shape s p k) i h.1.0.held h.1.1.1)
list_handled shape s p n a e k i h = absurd h.1.1
