-- Rows go on from none to live, marked and gone, and what is kept stays so.
use Rattle.std.proofs.Common.{◌≡◌, ℕ, ◌≤◌, Bool, true, false, List, Option, Some, None, refl, sym, ◌∙◌, ap, subst, arith}
use Rattle.std.specs.Prelude.{◌&&◌, ◌||◌, not}
use Rattle.unit_id.specs.Lists.{any, is_in}
use Rattle.unit_id.specs.Place.{Place, at_home}
use Rattle.code_mode.specs.VolumeShape.{VolumeShape}
use Rattle.unit_id.specs.Request.{Request, Answer}
use Rattle.blob_node.specs.Units.{RowState, Units, has_row, is_deleted, is_live, with_row, after_shard, after_mark, after_free}
use Rattle.volume_entry.specs.Manager.{home_at, current}
use Rattle.volume_world.specs.State.{Status, State}
use Rattle.volume_world.specs.BlobStatus.{is_begun, lacks, lacking, is_bare, bare}
use Rattle.volume_world.specs.Blind.{hides_live, hides_mark, is_blind_live, blind_live, is_blind_mark, blind_mark}
use Rattle.volume_world.specs.Provenance.{HasCause, IsBorneOut}
use Rattle.volume_world.specs.Invariant.{Kept}
use Rattle.unit_id.proofs.Bools.{or_left, or_right, not_true, contrary}
use Rattle.unit_id.proofs.Counts.{count_more}
use Rattle.blob_node.proofs.Lookups.{at_one_row}

-- what later rows owe earlier ones
pub record Advance (s : State) (row : Place → ℕ → Option RowState) : Type 0 where
  pub stands : (p : Place) (b : ℕ) → has_row (s.units.row p b) ≡ true → has_row (row p b) ≡ true
  pub marks : (p : Place) (b : ℕ) → is_deleted (s.units.row p b) ≡ true → is_deleted (row p b) ≡ true
  pub lives : (p : Place) (b : ℕ) → is_in b s.manager.asked ≡ false → is_live (s.units.row p b) ≡ true → is_live (row p b) ≡ true
  pub causes : (p : Place) (b : ℕ) → HasCause (is_begun (s.puts.status b)) (is_in b s.manager.asked) (is_in b s.manager.committed) (row p b)
  pub released : (p : Place) → s.units.is_released p ≡ true → (b : ℕ) → row p b ≡ None
  pub unmade : (p : Place) → s.units.is_made p ≡ false → (b : ℕ) → row p b ≡ None

-- a negated test falls where the test rises
pub not_falls : (a b : Bool) → (a ≡ true → b ≡ true) → not b ≡ true → not a ≡ true
not_falls true b h k = absurd (contrary b (h refl) (not_true b k))
not_falls false b h k = refl

pub and_more : (a b c : Bool) → (b ≡ true → c ≡ true) → a && b ≡ true → a && c ≡ true
and_more true b c h k = h k
and_more false b c h k = k

pub or_more : (a b c : Bool) → (a ≡ true → b ≡ true) → a || c ≡ true → b || c ≡ true
or_more true b c h k = or_left b c (h refl)
or_more false b c h k = or_right b c k

borne_out_advances : (status : ℕ → Status) (asked : List ℕ) (units : Units) (row : Place → ℕ → Option RowState) (r : Request) (a : Answer)
    → ((p : Place) (b : ℕ) → has_row (units.row p b) ≡ true → has_row (row p b) ≡ true)
    → ((p : Place) (b : ℕ) → is_deleted (units.row p b) ≡ true → is_deleted (row p b) ≡ true)
    → IsBorneOut status asked units r a → IsBorneOut status asked (record units { row = row }) r a
borne_out_advances status asked units row (Request.List p n) (Answer.Listing said shown) stands marks h = record {
  live_begun = h.live_begun;
  marked_begun = h.marked_begun;
  marked_asked = h.marked_asked;
  live_stands = λ u b i. stands p b (h.live_stands u b i);
  marked_stands = λ u b i. marks p b (h.marked_stands u b i);
}
borne_out_advances status asked units row (Request.Put p b) Answer.Done stands marks h = λ u. stands p b (h u)
borne_out_advances status asked units row (Request.Put p b) Answer.Already stands marks h = λ u. stands p b (h u)
borne_out_advances status asked units row (Request.Put p b) Answer.Deleted stands marks h = λ u. marks p b (h u)
borne_out_advances status asked units row (Request.Copy p b) Answer.Done stands marks h = λ u. stands p b (h u)
borne_out_advances status asked units row (Request.Copy p b) Answer.Already stands marks h = λ u. stands p b (h u)
borne_out_advances status asked units row (Request.Copy p b) Answer.Deleted stands marks h = λ u. marks p b (h u)
borne_out_advances status asked units row (Request.Mark p b) Answer.Done stands marks h = λ u. marks p b (h u)
borne_out_advances status asked units row (Request.Mark p b) Answer.Already stands marks h = λ u. marks p b (h u)
borne_out_advances status asked units row r a stands marks h = h

fewer_lack : (shape : VolumeShape) (s : State) (row : Place → ℕ → Option RowState) → Advance s row → (b : ℕ) → is_in b s.manager.asked ≡ false
    → lacking shape.total s.manager.homes s.broken row b ≤ lacking shape.total s.manager.homes s.broken s.units.row b
fewer_lack shape s row adv b unasked = count_more shape.total (lacks s.manager.homes s.broken row b) (lacks s.manager.homes s.broken s.units.row b)
    (λ i below. and_more (not (s.broken (home_at s.manager.homes i).disk)) (not (is_live (row (current s.manager.homes i) b))) (not (is_live (s.units.row (current s.manager.homes i) b)))
    (not_falls (is_live (s.units.row (current s.manager.homes i) b)) (is_live (row (current s.manager.homes i) b)) (adv.lives (current s.manager.homes i) b unasked)))

fewer_bare : (shape : VolumeShape) (s : State) (row : Place → ℕ → Option RowState) → Advance s row → (b : ℕ)
    → bare shape.total s.manager.homes s.broken row b ≤ bare shape.total s.manager.homes s.broken s.units.row b
fewer_bare shape s row adv b = count_more shape.total (is_bare s.manager.homes s.broken row b) (is_bare s.manager.homes s.broken s.units.row b)
    (λ i below. and_more (not (s.broken (home_at s.manager.homes i).disk)) (not (is_deleted (row (current s.manager.homes i) b))) (not (is_deleted (s.units.row (current s.manager.homes i) b)))
    (not_falls (is_deleted (s.units.row (current s.manager.homes i) b)) (is_deleted (row (current s.manager.homes i) b)) (adv.marks (current s.manager.homes i) b)))

fewer_blind_live : (shape : VolumeShape) (s : State) (row : Place → ℕ → Option RowState) → Advance s row → (b : ℕ) → is_in b s.manager.asked ≡ false
    → blind_live shape.total s.manager.lock s.manager.homes s.broken row s.post.given b ≤ blind_live shape.total s.manager.lock s.manager.homes s.broken s.units.row s.post.given b
fewer_blind_live shape s row adv b unasked =
    count_more shape.total (is_blind_live s.manager.lock s.manager.homes s.broken row s.post.given b) (is_blind_live s.manager.lock s.manager.homes s.broken s.units.row s.post.given b)
    (λ i below.
    let c = current s.manager.homes i in
    let hidden = any (hides_live s.manager.lock c b) s.post.given in
    and_more (not (s.broken (home_at s.manager.homes i).disk)) (not (is_live (row c b)) || hidden) (not (is_live (s.units.row c b)) || hidden)
    (or_more (not (is_live (row c b))) (not (is_live (s.units.row c b))) hidden (not_falls (is_live (s.units.row c b)) (is_live (row c b)) (adv.lives c b unasked))))

fewer_blind_mark : (shape : VolumeShape) (s : State) (row : Place → ℕ → Option RowState) → Advance s row → (b : ℕ)
    → blind_mark shape.total s.manager.lock s.manager.homes s.broken row s.post.given b ≤ blind_mark shape.total s.manager.lock s.manager.homes s.broken s.units.row s.post.given b
fewer_blind_mark shape s row adv b =
    count_more shape.total (is_blind_mark s.manager.lock s.manager.homes s.broken row s.post.given b) (is_blind_mark s.manager.lock s.manager.homes s.broken s.units.row s.post.given b)
    (λ i below.
    let c = current s.manager.homes i in
    let hidden = any (hides_mark s.manager.lock c b) s.post.given in
    and_more (not (s.broken (home_at s.manager.homes i).disk)) (not (is_deleted (row c b)) || hidden) (not (is_deleted (s.units.row c b)) || hidden)
    (or_more (not (is_deleted (row c b))) (not (is_deleted (s.units.row c b))) hidden (not_falls (is_deleted (s.units.row c b)) (is_deleted (row c b)) (adv.marks c b))))

-- later rows keep what is kept
pub rows_kept : (shape : VolumeShape) (s : State) (row : Place → ℕ → Option RowState) → Kept shape s → Advance s row → Kept shape (record s { units = record (s.units) { row = row } })
rows_kept shape s row k adv = record {
  placement = k.placement;
  provenance = record {
    rows = adv.causes;
    answers = λ g i. borne_out_advances s.puts.status s.manager.asked s.units row g.request g.answer adv.stands adv.marks (k.provenance.answers g i);
  };
  leases = k.leases;
  fencing = k.fencing;
  durability = λ b h. omega (arith, fewer_lack shape s row adv b h.unasked, k.durability b h);
  deletion = record {
    committed_bare = λ b h. omega (arith, fewer_bare shape s row adv b, k.deletion.committed_bare b h);
    doubtful_bare = λ b h. omega (arith, fewer_bare shape s row adv b, k.deletion.doubtful_bare b h);
    doubtful_unlocked = k.deletion.doubtful_unlocked;
  };
  sight = record {
    few_blind_live = λ l u b h. omega (arith, fewer_blind_live shape s row adv b h.unasked, k.sight.few_blind_live l u b h);
    few_blind_mark = λ l u b h. omega (arith, fewer_blind_mark shape s row adv b, k.sight.few_blind_mark l u b h);
    listings_given = k.sight.listings_given;
    live_rows_stand = λ u t b i h. adv.stands (at_home t.index t.dest) b (k.sight.live_rows_stand u t b i h);
    marked_rows_stand = λ u t b i h. adv.marks (at_home t.index t.dest) b (k.sight.marked_rows_stand u t b i h);
  };
  succession = record {
    holds_acked = λ e t i b h. adv.lives (at_home t.index t.dest) b h.unasked (k.succession.holds_acked e t i b h);
    holds_committed = λ e t i b h. adv.marks (at_home t.index t.dest) b (k.succession.holds_committed e t i b h);
    is_current = k.succession.is_current;
  };
  authority = record { requests = k.authority.requests; releases = k.authority.releases; hearing = k.authority.hearing; doubt_sound = k.authority.doubt_sound };
  support = record {
    locks = k.support.locks;
    leases = k.support.leases;
    asks = k.support.asks;
    post = k.support.post;
    units = record {
      fenced_units_have_no_row_doubt = k.support.units.fenced_units_have_no_row_doubt;
      released_units_have_no_rows = adv.released;
      released_units_have_no_fence = k.support.units.released_units_have_no_fence;
      released_units_have_no_doubt = k.support.units.released_units_have_no_doubt;
    };
  };
  form = record {
    lists = k.form.lists;
    log = k.form.log;
    lock = k.form.lock;
    units = record {
      unmade_has_no_rows = adv.unmade;
      unmade_has_no_fence = k.form.units.unmade_has_no_fence;
      unmade_is_unreleased = k.form.units.unmade_is_unreleased;
      unmade_has_no_doubt = k.form.units.unmade_has_no_doubt;
    };
  };
}

-- what a new row of one blob owes the row before it
pub record AdvanceAt (s : State) (place : Place) (bid : ℕ) (new : Option RowState) : Type 0 where
  pub stands : has_row (s.units.row place bid) ≡ true → has_row new ≡ true
  pub marks : is_deleted (s.units.row place bid) ≡ true → is_deleted new ≡ true
  pub lives : is_in bid s.manager.asked ≡ false → is_live (s.units.row place bid) ≡ true → is_live new ≡ true
  pub causes : HasCause (is_begun (s.puts.status bid)) (is_in bid s.manager.asked) (is_in bid s.manager.committed) new
  pub unreleased : s.units.is_released place ≡ false
  pub made : s.units.is_made place ≡ true

pub advance_one : (shape : VolumeShape) (s : State) (place : Place) (bid : ℕ) (new : Option RowState) → Kept shape s → AdvanceAt s place bid new → Advance s (with_row place bid new s.units.row)
advance_one shape s place bid new k adv = record {
  stands = λ p b. at_one_row place bid new s.units.row (λ p b row. has_row (s.units.row p b) ≡ true → has_row row ≡ true) adv.stands p b (λ h. h);
  marks = λ p b. at_one_row place bid new s.units.row (λ p b row. is_deleted (s.units.row p b) ≡ true → is_deleted row ≡ true) adv.marks p b (λ h. h);
  lives = λ p b. at_one_row place bid new s.units.row (λ p b row. is_in b s.manager.asked ≡ false → is_live (s.units.row p b) ≡ true → is_live row ≡ true) adv.lives p b (λ u h. h);
  causes = λ p b. at_one_row place bid new s.units.row (λ p b row. HasCause (is_begun (s.puts.status b)) (is_in b s.manager.asked) (is_in b s.manager.committed) row) adv.causes p b (k.provenance.rows p b);
  released = λ p h b. at_one_row place bid new s.units.row (λ p b row. s.units.is_released p ≡ true → row ≡ None) (λ r. absurd (contrary (s.units.is_released place) r adv.unreleased)) p b
      (λ r. k.support.units.released_units_have_no_rows p r b) h;
  unmade = λ p h b. at_one_row place bid new s.units.row (λ p b row. s.units.is_made p ≡ false → row ≡ None) (λ r. absurd (contrary (s.units.is_made place) adv.made r)) p b
      (λ r. k.form.units.unmade_has_no_rows p r b) h;
}

-- a shard, a mark and a free, at a unit that is made and not released
pub shard_kept : (shape : VolumeShape) (s : State) (place : Place) (bid : ℕ) → Kept shape s → is_begun (s.puts.status bid) ≡ true → s.units.is_made place ≡ true → s.units.is_released place ≡ false
    → Kept shape (record s { units = record (s.units) { row = with_row place bid (after_shard (s.units.row place bid)) s.units.row } })
shard_kept shape s place bid k begun made unreleased =
    rows_kept shape s (with_row place bid (after_shard (s.units.row place bid)) s.units.row) k (advance_one shape s place bid (after_shard (s.units.row place bid)) k (go (s.units.row place bid) refl)) where
      go : (row : Option RowState) → s.units.row place bid ≡ row → AdvanceAt s place bid (after_shard row)
      go None e = record { stands = λ h. refl; marks = λ h. cc (ap is_deleted e); lives = λ u h. refl; causes = begun; unreleased = unreleased; made = made }
      go (Some row) e = record {
        stands = λ h. refl;
        marks = λ h. ap is_deleted (sym e) ∙ h;
        lives = λ u h. ap is_live (sym e) ∙ h;
        causes = subst (HasCause (is_begun (s.puts.status bid)) (is_in bid s.manager.asked) (is_in bid s.manager.committed)) e (k.provenance.rows place bid);
        unreleased = unreleased;
        made = made;
      }

pub mark_kept : (shape : VolumeShape) (s : State) (place : Place) (bid : ℕ) → Kept shape s → is_in bid s.manager.asked ≡ true → s.units.is_made place ≡ true → s.units.is_released place ≡ false
    → Kept shape (record s { units = record (s.units) { row = with_row place bid (after_mark (s.units.row place bid)) s.units.row } })
mark_kept shape s place bid k asked made unreleased =
    rows_kept shape s (with_row place bid (after_mark (s.units.row place bid)) s.units.row) k (advance_one shape s place bid (after_mark (s.units.row place bid)) k (go (s.units.row place bid) (k.provenance.rows place bid))) where
      lost : {A : Type 0} → is_in bid s.manager.asked ≡ false → A
      lost u = absurd (contrary (is_in bid s.manager.asked) asked u)

      go : (row : Option RowState) → HasCause (is_begun (s.puts.status bid)) (is_in bid s.manager.asked) (is_in bid s.manager.committed) row → AdvanceAt s place bid (after_mark row)
      go None c = record { stands = λ h. refl; marks = λ h. refl; lives = λ u. lost u; causes = asked; unreleased = unreleased; made = made }
      go (Some RowState.Live) c = record { stands = λ h. refl; marks = λ h. refl; lives = λ u. lost u; causes = asked; unreleased = unreleased; made = made }
      go (Some RowState.Marked) c = record { stands = λ h. refl; marks = λ h. refl; lives = λ u. lost u; causes = c; unreleased = unreleased; made = made }
      go (Some RowState.Gone) c = record { stands = λ h. refl; marks = λ h. refl; lives = λ u. lost u; causes = c; unreleased = unreleased; made = made }

pub free_kept : (shape : VolumeShape) (s : State) (place : Place) (bid : ℕ) → Kept shape s → is_in bid s.manager.committed ≡ true → s.units.is_made place ≡ true → s.units.is_released place ≡ false
    → Kept shape (record s { units = record (s.units) { row = with_row place bid (after_free (s.units.row place bid)) s.units.row } })
free_kept shape s place bid k committed made unreleased =
    rows_kept shape s (with_row place bid (after_free (s.units.row place bid)) s.units.row) k (advance_one shape s place bid (after_free (s.units.row place bid)) k (go (s.units.row place bid) refl (k.provenance.rows place bid))) where
      go : (row : Option RowState) → s.units.row place bid ≡ row → HasCause (is_begun (s.puts.status bid)) (is_in bid s.manager.asked) (is_in bid s.manager.committed) row → AdvanceAt s place bid (after_free row)
      go None e c = record { stands = λ h. cc (ap has_row e); marks = λ h. cc (ap is_deleted e); lives = λ u h. cc (ap is_live e); causes = tt; unreleased = unreleased; made = made }
      go (Some RowState.Live) e c = record { stands = λ h. refl; marks = λ h. cc (ap is_deleted e); lives = λ u h. refl; causes = c; unreleased = unreleased; made = made }
      go (Some RowState.Marked) e c = record { stands = λ h. refl; marks = λ h. refl; lives = λ u h. cc; causes = committed; unreleased = unreleased; made = made }
      go (Some RowState.Gone) e c = record { stands = λ h. refl; marks = λ h. refl; lives = λ u h. cc (ap is_live e); causes = c; unreleased = unreleased; made = made }
