-- Begin and End keep what is kept.
use Rattle.std.proofs.Common.{◌≡◌, ℕ, ◌+◌, ◌<◌, ◌≤◌, Bool, true, false, List, [], ◌∷◌, Option, Some, None, refl, sym, ◌∙◌, ap, subst, cond, arith}
use Rattle.std.specs.Prelude.{◌==◌, not, is_some}
use Rattle.std.proofs.lemmas.Bool.{eqb-true}
use Rattle.unit_id.specs.Lists.{IsIn, is_in}
use Rattle.unit_id.specs.Place.{Location, Place}
use Rattle.code_mode.specs.VolumeShape.{VolumeShape}
use Rattle.unit_id.specs.Request.{Request, Answer, Given, place_of}
use Rattle.blob_node.specs.Units.{RowState, Units, has_row, is_live}
use Rattle.volume_entry.specs.Manager.{Lock, home_at, current, is_current}
use Rattle.volume_entry.specs.Reply.{Reply}
use Rattle.volume_entry.specs.ManagerStep.{task_of}
use Rattle.volume_world.specs.State.{Status, State}
use Rattle.volume_world.specs.BlobStatus.{is_begun, is_open, is_acked, lacks, lacking}
use Rattle.volume_world.specs.Move.{opened, ended, accepted_count, Begins, Ends}
use Rattle.volume_world.specs.Provenance.{HasCause, IsBorneOut}
use Rattle.volume_world.specs.Leases.{accepts_put, WasAccepted, Leases}
use Rattle.volume_world.specs.Durability.{IsHeld}
use Rattle.volume_world.specs.Authority.{IsLicensed}
use Rattle.volume_world.specs.Invariant.{Kept}
use Rattle.unit_id.proofs.Bools.{and_right, not_true, contrary}
use Rattle.unit_id.proofs.Counts.{count_apart}
use Rattle.unit_id.proofs.Places.{same_place}
use Rattle.volume_entry.proofs.Locks.{no_lock, no_transfers}
use Rattle.unit_id.proofs.Tables.{first_fails}
use Rattle.volume_world.proofs.Statuses.{StaysBegun, NoneIsNewlyHeld, held_parts, puts_kept}

pub same : (shape : VolumeShape) (s t : State) → Kept shape s → t ≡ s → Kept shape t
same shape s t k e = subst (Kept shape) (sym e) k

-- a status at one blob, and the others
status_begun : (test : Bool) (new old : Status) → is_begun new ≡ true → is_begun old ≡ true → is_begun (cond test new old) ≡ true
status_begun true new old h k = h
status_begun false new old h k = k

open_stays : (bid : ℕ) (new : Status) (old : ℕ → Status) → is_begun new ≡ true → StaysBegun old (λ blob. cond (blob == bid) new (old blob))
open_stays bid new old h b k = status_begun (b == bid) new (old b) h k

none_held : (bid : ℕ) (new : Status) (old : ℕ → Status) → is_acked new ≡ false → NoneIsNewlyHeld old (λ blob. cond (blob == bid) new (old blob))
none_held bid new old h b = go (b == bid) where
  go : (test : Bool) → is_acked (cond test new (old b)) ≡ true → is_acked (old b) ≡ true
  go true k = absurd (contrary (is_acked new) k h)
  go false k = k

-- an accepted put was issued for a begun blob
accepted_begun : (total : ℕ) (homes : List Location) (lock : Option Lock) (granted : ℕ) (asked committed : List ℕ) (status : ℕ → Status) (broken : ℕ → Bool) (is_made : Place → Bool) (bid : ℕ) (r : Request) (a : Answer)
    → accepts_put bid r a ≡ true → IsLicensed total homes lock granted asked committed status broken is_made r → is_begun (status bid) ≡ true
accepted_begun total homes lock granted asked committed status broken is_made bid (Request.Put p b) Answer.Done h k = ap (λ c. is_begun (status c)) (sym (eqb-true b bid h)) ∙ k.0
accepted_begun total homes lock granted asked committed status broken is_made bid (Request.Put p b) Answer.Already h k = ap (λ c. is_begun (status c)) (sym (eqb-true b bid h)) ∙ k.0
accepted_begun total homes lock granted asked committed status broken is_made bid r a h k = cc

begin_leases : (shape : VolumeShape) (s : State) (bid : ℕ) (payload : List ℕ) → Kept shape s → is_begun (s.puts.status bid) ≡ false
    → Leases s.manager.homes s.manager.lease_end s.manager.lock (opened bid payload s.manager.lease_end s.puts) s.post.given s.time
begin_leases shape s bid payload k fresh = record {
  seen_end = λ b. ends b (b == bid);
  locked_after = k.leases.locked_after;
  taken_by_current = λ b. taken b (b == bid) refl;
  acceptance_answered = λ b i. answered b i (b == bid);
} where
  ends : (b : ℕ) (test : Bool) → is_open (cond test Status.Open (s.puts.status b)) ≡ true → cond test s.manager.lease_end (s.puts.end b) ≤ s.manager.lease_end
  ends b true h = omega arith
  ends b false h = k.leases.seen_end b h

  taken : (b : ℕ) (test : Bool) → b == bid ≡ test → is_open (cond test Status.Open (s.puts.status b)) ≡ true → s.time < cond test s.manager.lease_end (s.puts.end b)
      → (g : Given) → IsIn g s.post.given → accepts_put b g.request g.answer ≡ true → is_current s.manager.homes (place_of g.request) ≡ true
  taken b true e h later g i a =
      let begun = accepted_begun shape.total s.manager.homes s.manager.lock s.manager.granted s.manager.asked s.manager.committed s.puts.status s.broken s.units.is_made b g.request g.answer a
      (k.authority.requests.issued g.request (k.support.post.given_were_issued g i)) in
      absurd (contrary (is_begun (s.puts.status bid)) (ap (λ c. is_begun (s.puts.status c)) (sym (eqb-true b bid e)) ∙ begun) fresh)
  taken b false e h later g i a = k.leases.taken_by_current b h later g i a

  answered : (b i : ℕ) (test : Bool) → is_open (cond test Status.Open (s.puts.status b)) ≡ true → s.time < cond test s.manager.lease_end (s.puts.end b)
      → cond test false (s.puts.accepted b i) ≡ true → WasAccepted s.post.given b i
  answered b i true h later a = cc
  answered b i false h later a = k.leases.acceptance_answered b i h later a

pub begin_kept : (shape : VolumeShape) (bid : ℕ) (payload : List ℕ) (s : State) (reply : Reply) (t : State) → Kept shape s → Begins bid payload s reply t → Kept shape t
begin_kept shape bid payload s (Reply.Begun end homes flags) t k h =
    let unlocked = first_fails (is_some s.manager.lock) (Reply.Locked (task_of s.manager.lock)) ((is_begun (s.puts.status bid), Reply.BeginTwice) ∷ []) h.0 in
    let fresh = first_fails (is_begun (s.puts.status bid)) Reply.BeginTwice [] unlocked.1 in
    let puts = opened bid payload s.manager.lease_end s.puts in
    subst (Kept shape) (sym h.4) (puts_kept shape s puts k (open_stays bid Status.Open s.puts.status refl) (begin_leases shape s bid payload k fresh.0)
    (held_parts shape s puts.status (none_held bid Status.Open s.puts.status refl) k))
begin_kept shape bid payload s reply t k h = same shape s t k h.1

-- a unit whose acceptance was given has a row
accepted_row : (status : ℕ → Status) (asked : List ℕ) (units : Units) (bid : ℕ) (r : Request) (a : Answer) → accepts_put bid r a ≡ true → IsBorneOut status asked units r a
    → units.is_released (place_of r) ≡ false → has_row (units.row (place_of r) bid) ≡ true
accepted_row status asked units bid (Request.Put p b) Answer.Done h k u = ap (λ c. has_row (units.row p c)) (sym (eqb-true b bid h)) ∙ k u
accepted_row status asked units bid (Request.Put p b) Answer.Already h k u = ap (λ c. has_row (units.row p c)) (sym (eqb-true b bid h)) ∙ k u
accepted_row status asked units bid r a h k u = cc

-- a row of a blob that isn't asked is live
pub row_lives : (begun asked committed : Bool) (row : Option RowState) → (committed ≡ true → asked ≡ true) → asked ≡ false → HasCause begun asked committed row → has_row row ≡ true → is_live row ≡ true
row_lives begun asked committed None up unasked cause h = h
row_lives begun asked committed (Some RowState.Live) up unasked cause h = refl
row_lives begun asked committed (Some RowState.Marked) up unasked cause h = absurd (contrary asked cause unasked)
row_lives begun asked committed (Some RowState.Gone) up unasked cause h = absurd (contrary asked (up cause) unasked)

-- a unit with a row was made
pub row_made : (shape : VolumeShape) (s : State) → Kept shape s → (p : Place) (b : ℕ) → has_row (s.units.row p b) ≡ true → s.units.is_made p ≡ true
row_made shape s k p b h = go (s.units.is_made p) refl where
  go : (test : Bool) → s.units.is_made p ≡ test → test ≡ true
  go true e = refl
  go false e = absurd (contrary (has_row (s.units.row p b)) h (ap has_row (k.form.units.unmade_has_no_rows p e b)))

-- a current unit isn't released
pub current_unreleased : (shape : VolumeShape) (s : State) → Kept shape s → (p : Place) → is_current s.manager.homes p ≡ true → s.units.is_released p ≡ false
current_unreleased shape s k p current = go (s.units.is_released p) refl where
  go : (test : Bool) → s.units.is_released p ≡ test → test ≡ false
  go true e =
      let below = k.authority.releases.released_below p e in
      let equal = eqb-true (home_at s.manager.homes p.index).epoch p.epoch current in
      absurd (omega (arith, below, equal))
  go false e = refl

-- the unit of an index that accepted an open put has a live row
accepted_lives : (shape : VolumeShape) (s : State) (bid i : ℕ) → Kept shape s → is_in bid s.manager.asked ≡ false → is_open (s.puts.status bid) ≡ true → s.time < s.puts.end bid
    → s.puts.accepted bid i ≡ true → is_live (s.units.row (current s.manager.homes i) bid) ≡ true
accepted_lives shape s bid i k unasked is_op later accepted =
    let was = k.leases.acceptance_answered bid i is_op later accepted in
    let p = place_of was.by.request in
    let current_p : is_current s.manager.homes p ≡ true = k.leases.taken_by_current bid is_op later was.by was.given was.accepts in
    let row_p : has_row (s.units.row p bid) ≡ true =
    accepted_row s.puts.status s.manager.asked s.units bid was.by.request was.by.answer was.accepts (k.provenance.answers was.by was.given) (current_unreleased shape s k p current_p) in
    let epoch_p : p.epoch ≡ (home_at s.manager.homes p.index).epoch = sym (eqb-true (home_at s.manager.homes p.index).epoch p.epoch current_p) in
    let disk_p : p.disk ≡ (home_at s.manager.homes p.index).disk = k.placement.current_at_home p (row_made shape s k p bid row_p) epoch_p in
    let here : p ≡ current s.manager.homes i = same_place p (current s.manager.homes p.index) refl epoch_p disk_p ∙ ap (current s.manager.homes) was.index in
    subst (λ q. is_live (s.units.row q bid) ≡ true) here
    (row_lives (is_begun (s.puts.status bid)) (is_in bid s.manager.asked) (is_in bid s.manager.committed) (s.units.row p bid) (k.authority.requests.committed_asked bid) unasked (k.provenance.rows p bid) row_p)

-- a quorum of acceptances leaves few units that lack the blob
quorum_lasts : (shape : VolumeShape) (s : State) (bid : ℕ) → Kept shape s → is_in bid s.manager.asked ≡ false → is_open (s.puts.status bid) ≡ true → s.time < s.puts.end bid
    → shape.quorum ≤ accepted_count shape.total s.puts bid → lacking shape.total s.manager.homes s.broken s.units.row bid + shape.quorum ≤ shape.total
quorum_lasts shape s bid k unasked is_op later enough =
    let apart = count_apart shape.total (lacks s.manager.homes s.broken s.units.row bid) (s.puts.accepted bid) (λ i below lack accepted.
    contrary (is_live (s.units.row (current s.manager.homes i) bid)) (accepted_lives shape s bid i k unasked is_op later accepted)
    (not_true (is_live (s.units.row (current s.manager.homes i) bid))
    (and_right (not (s.broken (home_at s.manager.homes i).disk)) (not (is_live (s.units.row (current s.manager.homes i) bid))) lack))) in
    omega (arith, apart, enough)

-- an open put's lease still runs, so there is no lock
pub no_lock_while_open : (shape : VolumeShape) (s : State) (bid : ℕ) → Kept shape s → is_open (s.puts.status bid) ≡ true → s.time < s.puts.end bid → s.manager.lock ≡ None
no_lock_while_open shape s bid k is_op later = no_lock s.manager.lock (go (is_some s.manager.lock) refl) where
  go : (test : Bool) → is_some s.manager.lock ≡ test → test ≡ false
  go true e = absurd (omega (arith, k.leases.locked_after e, k.leases.seen_end bid is_op, later))
  go false e = refl

end_leases : (shape : VolumeShape) (s : State) (bid : ℕ) (status : Status) → is_open status ≡ false → Kept shape s
    → Leases s.manager.homes s.manager.lease_end s.manager.lock (ended bid status s.puts) s.post.given s.time
end_leases shape s bid status closed k = record {
  seen_end = λ b h. k.leases.seen_end b (was_open b (b == bid) h);
  locked_after = k.leases.locked_after;
  taken_by_current = λ b h. k.leases.taken_by_current b (was_open b (b == bid) h);
  acceptance_answered = λ b i h. k.leases.acceptance_answered b i (was_open b (b == bid) h);
} where
  was_open : (b : ℕ) (test : Bool) → is_open (cond test status (s.puts.status b)) ≡ true → is_open (s.puts.status b) ≡ true
  was_open b true h = absurd (contrary (is_open status) h closed)
  was_open b false h = h

end_fails : (shape : VolumeShape) (s : State) (bid : ℕ) → Kept shape s → Kept shape (record s { puts = ended bid Status.Failed s.puts })
end_fails shape s bid k = puts_kept shape s (ended bid Status.Failed s.puts) k (open_stays bid Status.Failed s.puts.status refl) (end_leases shape s bid Status.Failed refl k)
    (held_parts shape s (ended bid Status.Failed s.puts).status (none_held bid Status.Failed s.puts.status refl) k)

end_acks : (shape : VolumeShape) (s : State) (bid : ℕ) → Kept shape s → is_open (s.puts.status bid) ≡ true → s.time < s.puts.end bid
    → shape.quorum ≤ accepted_count shape.total s.puts bid → Kept shape (record s { puts = ended bid Status.Acked s.puts })
end_acks shape s bid k is_op later enough =
    let unlocked = no_lock_while_open shape s bid k is_op later in
    puts_kept shape s (ended bid Status.Acked s.puts) k (open_stays bid Status.Acked s.puts.status refl) (end_leases shape s bid Status.Acked refl k) (record {
      durability = λ b. lasts b (b == bid) refl;
      sight = record {
        few_blind_live = λ l u b h. cc (l, unlocked);
        few_blind_mark = k.sight.few_blind_mark;
        listings_given = k.sight.listings_given;
        live_rows_stand = k.sight.live_rows_stand;
        marked_rows_stand = k.sight.marked_rows_stand;
      };
      succession = record {
        holds_acked = λ e t i. absurd (no_transfers s.manager.lock unlocked t i);
        holds_committed = k.succession.holds_committed;
        is_current = k.succession.is_current;
      };
    }) where
      lasts : (b : ℕ) (test : Bool) → b == bid ≡ test → IsHeld (ended bid Status.Acked s.puts).status s.manager.asked b
          → lacking shape.total s.manager.homes s.broken s.units.row b + shape.quorum ≤ shape.total
      lasts b true e h =
          let same_blob = eqb-true b bid e in
          subst (λ c. lacking shape.total s.manager.homes s.broken s.units.row c + shape.quorum ≤ shape.total) (sym same_blob)
          (quorum_lasts shape s bid k (ap (λ c. is_in c s.manager.asked) (sym same_blob) ∙ h.unasked) is_op later enough)
      lasts b false e h = k.durability b (record { acked = ap (λ test. is_acked (cond test Status.Acked (s.puts.status b))) (sym e) ∙ h.acked; unasked = h.unasked })

pub end_kept : (shape : VolumeShape) (bid : ℕ) (s : State) (reply : Reply) (t : State) → Kept shape s → Ends shape bid s reply t → Kept shape t
end_kept shape bid s Reply.NotOpen t k h = same shape s t k h.1
end_kept shape bid s (Reply.LeaseOver end time) t k h = subst (Kept shape) (sym h.4) (end_fails shape s bid k)
end_kept shape bid s (Reply.Quorum accepted) t k h = subst (Kept shape) (sym h.4) (end_fails shape s bid k)
end_kept shape bid s (Reply.Acked accepted) t k h = subst (Kept shape) (sym h.4) (end_acks shape s bid k h.0 h.1 (omega (arith, h.2, h.3)))
end_kept shape bid s reply t k h = absurd h
