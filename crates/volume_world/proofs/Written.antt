-- Leases, unlocks, asks and commits that are found written keep what is kept.
use Rattle.std.proofs.Common.{◌≡◌, ℕ, ◌+◌, ◌≤◌, inl, inr, true, List, ◌∷◌, Option, Some, None, refl, sym, ◌∙◌, ap, subst, arith}
use Rattle.std.specs.Prelude.{◌&&◌, ◌||◌, ◌==◌, is_some}
use Rattle.std.proofs.lemmas.Bool.{eqb-true}
use Rattle.unit_id.specs.Lists.{IsIn, is_in}
use Rattle.unit_id.specs.Place.{Location, Place, at_home}
use Rattle.code_mode.specs.VolumeShape.{VolumeShape}
use Rattle.unit_id.specs.Request.{Request, Answer}
use Rattle.blob_node.specs.Units.{RowState}
use Rattle.volume_entry.specs.Manager.{Transfer, ManagerRecord, home_at, current, transfers_of, is_swapped, is_old, is_destination_there, settled, written}
use Rattle.volume_world.specs.State.{State}
use Rattle.volume_world.specs.BlobStatus.{is_begun, bare}
use Rattle.volume_world.specs.Provenance.{HasCause, IsBorneOut}
use Rattle.volume_world.specs.Fencing.{IsFenceOf}
use Rattle.volume_world.specs.Durability.{IsHeld}
use Rattle.volume_world.specs.Authority.{IsLicensed}
use Rattle.volume_world.specs.Invariant.{Kept}
use Rattle.unit_id.proofs.Bools.{and_left, and_right, or_none, or_right, or_cases, contrary}
use Rattle.unit_id.proofs.Membership.{any_gives}
use Rattle.unit_id.proofs.Places.{same_place}
use Rattle.volume_entry.proofs.Locks.{no_transfers}
use Rattle.volume_world.proofs.Transfers.{destination_gives}
use Rattle.volume_world.proofs.Doubt.{doubting}

pub lease_written : (shape : VolumeShape) (s : State) (end : ℕ) → Kept shape (doubting s (ManagerRecord.Leased end)) → Kept shape (record s { manager = settled (written (ManagerRecord.Leased end) s.manager) })
lease_written shape s end k = record {
  placement = k.placement;
  provenance = k.provenance;
  leases = record {
    seen_end = λ b o. let a = k.leases.seen_end b o in let c = k.authority.doubt_sound.2 in omega (arith, a, c);
    locked_after = λ l. let e = ap is_some k.authority.doubt_sound.0 in absurd (contrary (is_some s.manager.lock) l e);
    taken_by_current = k.leases.taken_by_current;
    acceptance_answered = k.leases.acceptance_answered;
  };
  fencing = k.fencing;
  durability = k.durability;
  deletion = record { committed_bare = k.deletion.committed_bare; doubtful_bare = λ b e. cc; doubtful_unlocked = λ b e. cc };
  sight = k.sight;
  succession = record { holds_acked = k.succession.holds_acked; holds_committed = k.succession.holds_committed; is_current = k.succession.is_current };
  authority = record { requests = k.authority.requests; releases = k.authority.releases; hearing = k.authority.hearing; doubt_sound = tt };
  support = record {
    locks = k.support.locks;
    leases = record { lease_within_term = k.support.leases.doubtful_lease_within_term end refl; doubtful_lease_within_term = λ e f. cc };
    asks = record { asked_is_begun = k.support.asks.asked_is_begun; doubtful_ask_is_begun = λ b e. cc };
    post = k.support.post;
    units = k.support.units;
  };
  form = record { lists = k.form.lists; log = record { doubt_while_shut = λ e. refl }; lock = k.form.lock; units = k.form.units };
}

-- the transfer that makes a unit an old one
pub old_gives : (ts : List Transfer) (p : Place) → is_old ts p ≡ true → (t : Transfer) × IsIn t ts × (t.index ≡ p.index) × (t.old.epoch ≡ p.epoch)
old_gives ts p h =
    let found = any_gives (λ t. (t.index == p.index) && (t.old.epoch == p.epoch)) ts h in (
      found.0,
      found.1,
      eqb-true found.0.index p.index (and_left (found.0.index == p.index) (found.0.old.epoch == p.epoch) found.2),
      eqb-true found.0.old.epoch p.epoch (and_right (found.0.index == p.index) (found.0.old.epoch == p.epoch) found.2),
    )

-- .. and that makes it a destination there
pub destination_there_gives : (ts : List Transfer) (p : Place) → is_destination_there ts p ≡ true → (t : Transfer) × IsIn t ts × (p ≡ at_home t.index t.dest)
destination_there_gives ts p h =
    let found = any_gives (λ t. ((t.index == p.index) && (t.dest.epoch == p.epoch)) && (t.dest.disk == p.disk)) ts h in
    let t = found.0 in
    let a = and_left ((t.index == p.index) && (t.dest.epoch == p.epoch)) (t.dest.disk == p.disk) found.2 in (
      t,
      found.1,
      same_place p (at_home t.index t.dest) (sym (eqb-true t.index p.index (and_left (t.index == p.index) (t.dest.epoch == p.epoch) a)))
          (sym (eqb-true t.dest.epoch p.epoch (and_right (t.index == p.index) (t.dest.epoch == p.epoch) a)))
          (sym (eqb-true t.dest.disk p.disk (and_right ((t.index == p.index) && (t.dest.epoch == p.epoch)) (t.dest.disk == p.disk) found.2))),
    )

module _ (shape : VolumeShape) (s : State) (k : Kept shape (doubting s ManagerRecord.Unlocked)) where
  swapped : is_swapped s.manager.lock ≡ true
  swapped = k.authority.doubt_sound.0

  fence_below : (p : Place) (n : ℕ) → IsFenceOf s.manager.lock s.manager.homes p n → IsFenceOf None s.manager.homes p n
  fence_below p n (inl old) = inr (let found = old_gives (transfers_of s.manager.lock) p old.0 in
      let below = k.support.locks.old_units_below_current swapped found.0 found.1 in
      let e = ap (λ i. (home_at s.manager.homes i).epoch) found.2 in
      let f = found.3 in omega (arith, below, e, f))
  fence_below p n (inr below) = inr below

  license : (r : Request) → IsLicensed shape.total s.manager.homes s.manager.lock s.manager.granted s.manager.asked s.manager.committed s.puts.status s.broken s.units.is_made r
      → IsLicensed shape.total s.manager.homes None s.manager.granted s.manager.asked s.manager.committed s.puts.status s.broken s.units.is_made r
  license (Request.Create p) (inl broken) = inl broken
  license (Request.Create p) (inr (inl made)) = inr (inl made)
  license (Request.Create p) (inr (inr (inl here))) = inr (inr (inl here))
  license (Request.Create p) (inr (inr (inr dest))) =
      let found = destination_there_gives (transfers_of s.manager.lock) p dest in
      let e = ap (λ (q : Place). q.index) found.2 in
      let below = k.form.lock.transfer_index found.0 found.1 in
      let at : p ≡ current s.manager.homes p.index = found.2 ∙ (λ i. at_home (sym e i) (sym (k.succession.is_current swapped found.0 found.1) i)) ∙ ap (λ n. at_home p.index (home_at s.manager.homes n)) (sym e) in
      inr (inr (inl (omega (arith, e, below), at)))
  license (Request.List p n) h = h
  license (Request.Put p b) h = h
  license (Request.Release p) h = h
  license (Request.Fence p n) h = h
  license (Request.Read p b) h = h
  license (Request.Copy p b) h = h
  license (Request.Mark p b) h = h
  license (Request.Free p b) h = h

  pub unlock_written : Kept shape (record s { manager = settled (written ManagerRecord.Unlocked s.manager) })
  unlock_written = record {
    placement = record {
      made_index = k.placement.made_index;
      one_disk = k.placement.one_disk;
      current_at_home = k.placement.current_at_home;
      destination_at_home = λ p t m i. absurd i;
      old_at_home = λ p t m i. absurd i;
      homes_apart = k.placement.homes_apart;
      destinations_free = λ w t i. absurd i;
      destinations_apart = λ w t u i. absurd i;
      made_given = k.placement.made_given;
      current_given = k.placement.current_given;
      destination_given = λ t i. absurd i;
      above_current = λ p m h. elim (k.placement.above_current p m h) [
        | inl broken ↦ inl broken
        | inr dest ↦
            let found = destination_gives (transfers_of s.manager.lock) p dest in
            let e = ap (λ (x : Location). x.epoch) (k.succession.is_current swapped found.0 found.1) in
            let f = ap (λ i. (home_at s.manager.homes i).epoch) found.2 in
            let g = found.3 in absurd (omega (arith, e, f, g, h))
      ];
      old_disk_left = λ w. cc;
      old_disk_newest = λ w. cc;
    };
    provenance = k.provenance;
    leases = record { seen_end = k.leases.seen_end; locked_after = λ l. cc; taken_by_current = k.leases.taken_by_current; acceptance_answered = k.leases.acceptance_answered };
    fencing = record {
      below_is_cut_off = k.fencing.below_is_cut_off;
      below_is_given_up = λ p m h. elim (k.fencing.below_is_given_up p m h) [
        | inl broken ↦ inl broken
        | inr (inl released) ↦ inr (inl released)
        | inr (inr old) ↦
            let found = old_gives (transfers_of s.manager.lock) p old.1 in
            let disk : p.disk ≡ found.0.old.disk = k.placement.old_at_home p found.0 m found.1 (sym found.2) (sym found.3) in
            let at : p ≡ at_home found.0.index found.0.old = same_place p (at_home found.0.index found.0.old) (sym found.2) (sym found.3) disk in
            elim (k.authority.doubt_sound.1 found.0 found.1) [
              | inl broken ↦ inl (ap s.broken disk ∙ broken)
              | inr released ↦ inr (inl (ap s.units.is_released at ∙ released))
            ]
      ];
      fenced = λ p n h. fence_below p n (k.fencing.fenced p n h);
      fence_issued = λ p n h. fence_below p n (k.fencing.fence_issued p n h);
    };
    durability = k.durability;
    deletion = record { committed_bare = k.deletion.committed_bare; doubtful_bare = λ b e. cc; doubtful_unlocked = λ b e. cc };
    sight = record { few_blind_live = λ l. cc; few_blind_mark = λ l. cc; listings_given = λ l. cc; live_rows_stand = λ u t b i. absurd i; marked_rows_stand = λ u t b i. absurd i };
    succession = record { holds_acked = λ e. cc; holds_committed = λ e. cc; is_current = λ e. cc };
    authority = record {
      requests = record { committed_asked = k.authority.requests.committed_asked; issued = λ r i. license r (k.authority.requests.issued r i) };
      releases = k.authority.releases;
      hearing = record { mark_given = k.authority.hearing.mark_given; fenced_given = λ t i. absurd i; released_given = λ t i. absurd i };
      doubt_sound = tt;
    };
    support = record {
      locks = record { lock_number_granted = λ n e. cc; old_units_current = λ u t i. absurd i; destinations_above_current = λ u t i. absurd i; old_units_below_current = λ u t i. absurd i };
      leases = record { lease_within_term = k.support.leases.lease_within_term; doubtful_lease_within_term = λ end e. cc };
      asks = record { asked_is_begun = k.support.asks.asked_is_begun; doubtful_ask_is_begun = λ b e. cc };
      post = k.support.post;
      units = k.support.units;
    };
    form = record { lists = k.form.lists; log = record { doubt_while_shut = λ e. refl }; lock = record { transfer_index = λ t i. absurd i; one_by_index = λ t u i. absurd i }; units = k.form.units };
  }

module _ (shape : VolumeShape) (s : State) (bid : ℕ) (k : Kept shape (doubting s (ManagerRecord.Asked bid))) where
  still_held : (b : ℕ) → IsHeld s.puts.status (bid ∷ s.manager.asked) b → IsHeld s.puts.status s.manager.asked b
  still_held b h = record { acked = h.acked; unasked = (or_none (b == bid) (is_in b s.manager.asked) h.unasked).1 }

  cause : (b : ℕ) (row : Option RowState) → HasCause (is_begun (s.puts.status b)) (is_in b s.manager.asked) (is_in b s.manager.committed) row
      → HasCause (is_begun (s.puts.status b)) ((b == bid) || is_in b s.manager.asked) (is_in b s.manager.committed) row
  cause b None h = h
  cause b (Some RowState.Live) h = h
  cause b (Some RowState.Marked) h = or_right (b == bid) (is_in b s.manager.asked) h
  cause b (Some RowState.Gone) h = h

  borne : (r : Request) (a : Answer) → IsBorneOut s.puts.status s.manager.asked s.units r a → IsBorneOut s.puts.status (bid ∷ s.manager.asked) s.units r a
  borne (Request.List p n) (Answer.Listing said shown) h = record {
    live_begun = h.live_begun;
    marked_begun = h.marked_begun;
    marked_asked = λ b i. or_right (b == bid) (is_in b s.manager.asked) (h.marked_asked b i);
    live_stands = h.live_stands;
    marked_stands = h.marked_stands;
  }
  borne (Request.Put p b) Answer.Done h = h
  borne r a h = h

  license_asked : (r : Request) → IsLicensed shape.total s.manager.homes s.manager.lock s.manager.granted s.manager.asked s.manager.committed s.puts.status s.broken s.units.is_made r
      → IsLicensed shape.total s.manager.homes s.manager.lock s.manager.granted (bid ∷ s.manager.asked) s.manager.committed s.puts.status s.broken s.units.is_made r
  license_asked (Request.Mark p b) h = or_right (b == bid) (is_in b s.manager.asked) h
  license_asked r h = h

  pub ask_written : Kept shape (record s { manager = settled (written (ManagerRecord.Asked bid) s.manager) })
  ask_written = record {
    placement = k.placement;
    provenance = record { rows = λ p b. cause b (s.units.row p b) (k.provenance.rows p b); answers = λ g i. borne g.request g.answer (k.provenance.answers g i) };
    leases = k.leases;
    fencing = k.fencing;
    durability = λ b h. k.durability b (still_held b h);
    deletion = record { committed_bare = k.deletion.committed_bare; doubtful_bare = λ b e. cc; doubtful_unlocked = λ b e. cc };
    sight = record {
      few_blind_live = λ l u b h. k.sight.few_blind_live l u b (still_held b h);
      few_blind_mark = k.sight.few_blind_mark;
      listings_given = k.sight.listings_given;
      live_rows_stand = k.sight.live_rows_stand;
      marked_rows_stand = k.sight.marked_rows_stand;
    };
    succession = record {
      holds_acked = λ e t i b h. k.succession.holds_acked e t i b (still_held b h);
      holds_committed = k.succession.holds_committed;
      is_current = k.succession.is_current;
    };
    authority = record {
      requests = record {
        committed_asked = λ b h. or_right (b == bid) (is_in b s.manager.asked) (k.authority.requests.committed_asked b h);
        issued = λ r i. license_asked r (k.authority.requests.issued r i);
      };
      releases = k.authority.releases;
      hearing = k.authority.hearing;
      doubt_sound = tt;
    };
    support = record {
      locks = k.support.locks;
      leases = record { lease_within_term = k.support.leases.lease_within_term; doubtful_lease_within_term = λ end e. cc };
      asks = record {
        asked_is_begun = λ b h. elim (or_cases (b == bid) (is_in b s.manager.asked) h) [
          | inl e ↦ ap (λ c. is_begun (s.puts.status c)) (eqb-true b bid e) ∙ k.support.asks.doubtful_ask_is_begun bid refl
          | inr old ↦ k.support.asks.asked_is_begun b old
        ];
        doubtful_ask_is_begun = λ b e. cc;
      };
      post = k.support.post;
      units = k.support.units;
    };
    form = record { lists = k.form.lists; log = record { doubt_while_shut = λ e. refl }; lock = k.form.lock; units = k.form.units };
  }

module _ (shape : VolumeShape) (s : State) (bid : ℕ) (k : Kept shape (doubting s (ManagerRecord.Committed bid))) where
  is_unlocked : s.manager.lock ≡ None
  is_unlocked = k.deletion.doubtful_unlocked bid refl

  cause_committed : (b : ℕ) (row : Option RowState) → HasCause (is_begun (s.puts.status b)) (is_in b s.manager.asked) (is_in b s.manager.committed) row
      → HasCause (is_begun (s.puts.status b)) (is_in b s.manager.asked) ((b == bid) || is_in b s.manager.committed) row
  cause_committed b None h = h
  cause_committed b (Some RowState.Live) h = h
  cause_committed b (Some RowState.Marked) h = h
  cause_committed b (Some RowState.Gone) h = or_right (b == bid) (is_in b s.manager.committed) h

  license_committed : (r : Request) → IsLicensed shape.total s.manager.homes s.manager.lock s.manager.granted s.manager.asked s.manager.committed s.puts.status s.broken s.units.is_made r
      → IsLicensed shape.total s.manager.homes s.manager.lock s.manager.granted s.manager.asked (bid ∷ s.manager.committed) s.puts.status s.broken s.units.is_made r
  license_committed (Request.Free p b) h = or_right (b == bid) (is_in b s.manager.committed) h
  license_committed r h = h

  pub commit_written : Kept shape (record s { manager = settled (written (ManagerRecord.Committed bid) s.manager) })
  commit_written = record {
    placement = k.placement;
    provenance = record { rows = λ p b. cause_committed b (s.units.row p b) (k.provenance.rows p b); answers = k.provenance.answers };
    leases = k.leases;
    fencing = k.fencing;
    durability = k.durability;
    deletion = record {
      committed_bare = λ b h. elim (or_cases (b == bid) (is_in b s.manager.committed) h) [
        | inl e ↦ subst (λ c. bare shape.total s.manager.homes s.broken s.units.row c + shape.data_count ≤ shape.quorum) (sym (eqb-true b bid e)) (k.deletion.doubtful_bare bid refl)
        | inr old ↦ k.deletion.committed_bare b old
      ];
      doubtful_bare = λ b e. cc;
      doubtful_unlocked = λ b e. cc;
    };
    sight = record {
      few_blind_live = k.sight.few_blind_live;
      few_blind_mark = λ l. absurd (contrary (is_some s.manager.lock) l (ap is_some is_unlocked));
      listings_given = k.sight.listings_given;
      live_rows_stand = k.sight.live_rows_stand;
      marked_rows_stand = k.sight.marked_rows_stand;
    };
    succession = record {
      holds_acked = k.succession.holds_acked;
      holds_committed = λ e t i. absurd (no_transfers s.manager.lock is_unlocked t i);
      is_current = k.succession.is_current;
    };
    authority = record {
      requests = record {
        committed_asked = λ b h. elim (or_cases (b == bid) (is_in b s.manager.committed) h) [
          | inl e ↦ ap (λ c. is_in c s.manager.asked) (eqb-true b bid e) ∙ k.authority.doubt_sound.1
          | inr old ↦ k.authority.requests.committed_asked b old
        ];
        issued = λ r i. license_committed r (k.authority.requests.issued r i);
      };
      releases = k.authority.releases;
      hearing = k.authority.hearing;
      doubt_sound = tt;
    };
    support = record {
      locks = k.support.locks;
      leases = record { lease_within_term = k.support.leases.lease_within_term; doubtful_lease_within_term = λ end e. cc };
      asks = record { asked_is_begun = k.support.asks.asked_is_begun; doubtful_ask_is_begun = λ b e. cc };
      post = k.support.post;
      units = k.support.units;
    };
    form = record { lists = k.form.lists; log = record { doubt_while_shut = λ e. refl }; lock = k.form.lock; units = k.form.units };
  }
