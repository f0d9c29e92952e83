-- A disk that breaks keeps what is kept.
use Rattle.std.proofs.Common.{◌≡◌, ℕ, ◌≤◌, inl, inr, Bool, true, false, List, Option, Some, None, refl, sym, subst, arith}
use Rattle.std.specs.Prelude.{◌&&◌, ◌||◌, ◌==◌, not}
use Rattle.unit_id.specs.Lists.{any}
use Rattle.unit_id.specs.Place.{Location, Place}
use Rattle.code_mode.specs.VolumeShape.{VolumeShape}
use Rattle.unit_id.specs.Request.{Request}
use Rattle.blob_node.specs.Units.{is_deleted, is_live}
use Rattle.volume_entry.specs.Manager.{Lock, ManagerRecord, home_at, current}
use Rattle.volume_entry.specs.Reply.{Reply}
use Rattle.volume_world.specs.State.{Status, State}
use Rattle.volume_world.specs.BlobStatus.{lacks, is_bare, bare}
use Rattle.volume_world.specs.Blind.{hides_live, hides_mark, is_blind_live, is_blind_mark}
use Rattle.volume_world.specs.Move.{Breaks}
use Rattle.volume_world.specs.Placement.{Placement}
use Rattle.volume_world.specs.Authority.{IsLicensed, IsDoubtSound}
use Rattle.volume_world.specs.Invariant.{Kept}
use Rattle.unit_id.proofs.Bools.{not_so, contrary, or_right}
use Rattle.unit_id.proofs.Counts.{count_more}
use Rattle.volume_world.proofs.Rows.{not_falls}

-- broken disks stay broken
abbrev pub StaysBroken : (ℕ → Bool) → (ℕ → Bool) → Type 0
StaysBroken old new = (d : ℕ) → old d ≡ true → new d ≡ true

still_unbroken : (old new : ℕ → Bool) (d : ℕ) → StaysBroken old new → new d ≡ false → old d ≡ false
still_unbroken old new d stays h = not_so (old d) (λ b. contrary (new d) (stays d b) h)

and_less : (a b c : Bool) → (a ≡ true → b ≡ true) → a && c ≡ true → b && c ≡ true
and_less true b c h k = let e = h refl in cc
and_less false b c h k = cc

pub placement_breaks : (total : ℕ) (homes : List Location) (greatest : List ℕ) (lock : Option Lock) (old new : ℕ → Bool) (is_made : Place → Bool) → StaysBroken old new
    → Placement total homes greatest lock old is_made → Placement total homes greatest lock new is_made
placement_breaks total homes greatest lock old new is_made stays k = record {
  made_index = k.made_index;
  one_disk = k.one_disk;
  current_at_home = k.current_at_home;
  destination_at_home = k.destination_at_home;
  old_at_home = k.old_at_home;
  homes_apart = k.homes_apart;
  destinations_free = k.destinations_free;
  destinations_apart = k.destinations_apart;
  made_given = k.made_given;
  current_given = k.current_given;
  destination_given = k.destination_given;
  above_current = λ p m h. elim (k.above_current p m h) [ inl b ↦ inl (stays p.disk b) | inr d ↦ inr d ];
  old_disk_left = k.old_disk_left;
  old_disk_newest = λ w t i u. k.old_disk_newest w t i (still_unbroken old new t.old.disk stays u);
}

license_breaks : (total : ℕ) (homes : List Location) (lock : Option Lock) (granted : ℕ) (asked committed : List ℕ) (status : ℕ → Status) (old new : ℕ → Bool) (is_made : Place → Bool) (r : Request) → StaysBroken old new
    → IsLicensed total homes lock granted asked committed status old is_made r → IsLicensed total homes lock granted asked committed status new is_made r
license_breaks total homes lock granted asked committed status old new is_made (Request.Create p) stays h = elim h [ inl b ↦ inl (stays p.disk b) | inr o ↦ inr o ]
license_breaks total homes lock granted asked committed status old new is_made (Request.Put p b) stays h = h
license_breaks total homes lock granted asked committed status old new is_made r stays h = h

doubt_breaks : (shape : VolumeShape) (homes : List Location) (greatest : List ℕ) (lease_end granted : ℕ) (lock : Option Lock) (asked committed : List ℕ) (time : ℕ) (old new : ℕ → Bool)
    (is_made : Place → Bool) (fence : Place → Option ℕ) (is_released : Place → Bool) (doubt : Option ManagerRecord) → StaysBroken old new
    → IsDoubtSound shape homes greatest lease_end granted lock asked committed time old is_made fence is_released doubt
    → IsDoubtSound shape homes greatest lease_end granted lock asked committed time new is_made fence is_released doubt
doubt_breaks shape homes greatest lease_end granted lock asked committed time old new is_made fence is_released None stays h = h
doubt_breaks shape homes greatest lease_end granted lock asked committed time old new is_made fence is_released (Some (ManagerRecord.Made first)) stays h = h
doubt_breaks shape homes greatest lease_end granted lock asked committed time old new is_made fence is_released (Some (ManagerRecord.Leased end)) stays h = h
doubt_breaks shape homes greatest lease_end granted lock asked committed time old new is_made fence is_released (Some (ManagerRecord.Locked task number grants)) stays h =
    (h.0, h.1, placement_breaks _ _ _ _ old new is_made stays h.2)
doubt_breaks shape homes greatest lease_end granted lock asked committed time old new is_made fence is_released (Some (ManagerRecord.Retargeted grant)) stays h =
    (h.0, (λ t i e. stays t.dest.disk (h.1 t i e)), placement_breaks _ _ _ _ old new is_made stays h.2)
doubt_breaks shape homes greatest lease_end granted lock asked committed time old new is_made fence is_released (Some ManagerRecord.Swapped) stays h =
    (h.0, h.1, (λ t i. elim (h.2 t i) [ inl b ↦ inl (stays t.old.disk b) | inr f ↦ inr f ]))
doubt_breaks shape homes greatest lease_end granted lock asked committed time old new is_made fence is_released (Some ManagerRecord.Unlocked) stays h =
    (h.0, (λ t i. elim (h.1 t i) [ inl b ↦ inl (stays t.old.disk b) | inr r ↦ inr r ]))
doubt_breaks shape homes greatest lease_end granted lock asked committed time old new is_made fence is_released (Some (ManagerRecord.Asked b)) stays h = h
doubt_breaks shape homes greatest lease_end granted lock asked committed time old new is_made fence is_released (Some (ManagerRecord.Committed b)) stays h = h

pub broken_kept : (shape : VolumeShape) (s : State) (broken : ℕ → Bool) → Kept shape s → StaysBroken s.broken broken → Kept shape (record s { broken = broken })
broken_kept shape s broken k stays = record {
  placement = placement_breaks shape.total s.manager.homes s.manager.greatest s.manager.lock s.broken broken s.units.is_made stays k.placement;
  provenance = k.provenance;
  leases = k.leases;
  fencing = record {
    below_is_cut_off = λ p m h. elim (k.fencing.below_is_cut_off p m h) [ inl b ↦ inl (stays p.disk b) | inr o ↦ inr o ];
    below_is_given_up = λ p m h. elim (k.fencing.below_is_given_up p m h) [ inl b ↦ inl (stays p.disk b) | inr o ↦ inr o ];
    fenced = k.fencing.fenced;
    fence_issued = k.fencing.fence_issued;
  };
  durability = λ b h. omega (
    arith,
    count_more shape.total (lacks s.manager.homes broken s.units.row b) (lacks s.manager.homes s.broken s.units.row b)
        (λ i below. fewer i (not (is_live (s.units.row (current s.manager.homes i) b)))),
    k.durability b h,
  );
  deletion = record {
    committed_bare = λ b h. omega (arith, fewer_bare b, k.deletion.committed_bare b h);
    doubtful_bare = λ b h. omega (arith, fewer_bare b, k.deletion.doubtful_bare b h);
    doubtful_unlocked = k.deletion.doubtful_unlocked;
  };
  sight = record {
    few_blind_live = λ l u b h. omega (
      arith,
      count_more shape.total (is_blind_live s.manager.lock s.manager.homes broken s.units.row s.post.given b) (is_blind_live s.manager.lock s.manager.homes s.broken s.units.row s.post.given b)
          (λ i below. fewer i (not (is_live (s.units.row (current s.manager.homes i) b)) || any (hides_live s.manager.lock (current s.manager.homes i) b) s.post.given)),
      k.sight.few_blind_live l u b h,
    );
    few_blind_mark = λ l u b h. omega (
      arith,
      count_more shape.total (is_blind_mark s.manager.lock s.manager.homes broken s.units.row s.post.given b) (is_blind_mark s.manager.lock s.manager.homes s.broken s.units.row s.post.given b)
          (λ i below. fewer i (not (is_deleted (s.units.row (current s.manager.homes i) b)) || any (hides_mark s.manager.lock (current s.manager.homes i) b) s.post.given)),
      k.sight.few_blind_mark l u b h,
    );
    listings_given = k.sight.listings_given;
    live_rows_stand = k.sight.live_rows_stand;
    marked_rows_stand = k.sight.marked_rows_stand;
  };
  succession = k.succession;
  authority = record {
    requests = record {
      committed_asked = k.authority.requests.committed_asked;
      issued = λ r i. license_breaks shape.total s.manager.homes s.manager.lock s.manager.granted s.manager.asked s.manager.committed s.puts.status s.broken broken s.units.is_made r stays (k.authority.requests.issued r i);
    };
    releases = k.authority.releases;
    hearing = k.authority.hearing;
    doubt_sound = doubt_breaks shape s.manager.homes s.manager.greatest s.manager.lease_end s.manager.granted s.manager.lock s.manager.asked s.manager.committed s.time s.broken broken
        s.units.is_made s.units.fence s.units.is_released s.manager.doubt stays k.authority.doubt_sound;
  };
  support = k.support;
  form = k.form;
} where
  fewer : (i : ℕ) (rest : Bool) → not (broken (home_at s.manager.homes i).disk) && rest ≡ true → not (s.broken (home_at s.manager.homes i).disk) && rest ≡ true
  fewer i rest = and_less (not (broken (home_at s.manager.homes i).disk)) (not (s.broken (home_at s.manager.homes i).disk)) rest
      (not_falls (s.broken (home_at s.manager.homes i).disk) (broken (home_at s.manager.homes i).disk) (stays (home_at s.manager.homes i).disk))

  fewer_bare : (b : ℕ) → bare shape.total s.manager.homes broken s.units.row b ≤ bare shape.total s.manager.homes s.broken s.units.row b
  fewer_bare b = count_more shape.total (is_bare s.manager.homes broken s.units.row b) (is_bare s.manager.homes s.broken s.units.row b)
      (λ i below. fewer i (not (is_deleted (s.units.row (current s.manager.homes i) b))))

pub break_kept : (shape : VolumeShape) (disk : ℕ) (s : State) (reply : Reply) (t : State) → Kept shape s → Breaks disk s reply t → Kept shape t
break_kept shape disk s Reply.Done t k h = subst (Kept shape) (sym h) (broken_kept shape s (λ other. (other == disk) || s.broken other) k (λ d b. or_right (d == disk) (s.broken d) b))
break_kept shape disk s reply t k h = absurd h
