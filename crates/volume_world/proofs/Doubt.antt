-- A manager's record that is left in doubt, dropped, or written; and what was heard, forgotten.
use Rattle.std.proofs.Common.{◌≡◌, ℕ, ◌+◌, ◌≤◌, inl, inr, true, false, Some, None, refl, sym, ◌∙◌, subst}
use Rattle.std.specs.Prelude.{◌||◌}
use Rattle.unit_id.specs.Lists.{IsIn, is_in}
use Rattle.unit_id.specs.Place.{at_home}
use Rattle.code_mode.specs.VolumeShape.{VolumeShape, lease_length}
use Rattle.blob_node.specs.Units.{is_deleted, is_live}
use Rattle.volume_entry.specs.Manager.{Transfer, ManagerRecord, Manager, transfers_of, is_swapped, in_doubt, settled, forgetful, written}
use Rattle.volume_world.specs.State.{State}
use Rattle.volume_world.specs.BlobStatus.{is_begun, bare}
use Rattle.volume_world.specs.Authority.{IsDoubtSound}
use Rattle.volume_world.specs.Durability.{IsHeld}
use Rattle.volume_world.specs.Succession.{is_swap_in_doubt}
use Rattle.volume_world.specs.Invariant.{Kept}
use Rattle.unit_id.proofs.Bools.{or_left, or_cases}

-- what a record owes when it is left in doubt
pub record MayBeDoubted (shape : VolumeShape) (s : State) (item : ManagerRecord) : Type 0 where
  pub sound : IsDoubtSound shape s.manager.homes s.manager.greatest s.manager.lease_end s.manager.granted s.manager.lock s.manager.asked s.manager.committed s.time s.broken
      s.units.is_made s.units.fence s.units.is_released (Some item)
  pub bare : (b : ℕ) → Some item ≡ Some (ManagerRecord.Committed b) → bare shape.total s.manager.homes s.broken s.units.row b + shape.data_count ≤ shape.quorum
  pub unlocked : (b : ℕ) → Some item ≡ Some (ManagerRecord.Committed b) → s.manager.lock ≡ None
  pub acked : item ≡ ManagerRecord.Swapped → (t : Transfer) → IsIn t (transfers_of s.manager.lock) → (b : ℕ) → IsHeld s.puts.status s.manager.asked b → is_live (s.units.row (at_home t.index t.dest) b) ≡ true
  pub committed : item ≡ ManagerRecord.Swapped → (t : Transfer) → IsIn t (transfers_of s.manager.lock) → (b : ℕ) → is_in b s.manager.committed ≡ true → is_deleted (s.units.row (at_home t.index t.dest) b) ≡ true
  pub term : (end : ℕ) → Some item ≡ Some (ManagerRecord.Leased end) → end ≤ s.time + lease_length
  pub begun : (b : ℕ) → Some item ≡ Some (ManagerRecord.Asked b) → is_begun (s.puts.status b) ≡ true

-- the state with this record in doubt
abbrev pub doubting : State → ManagerRecord → State
doubting s item = record s { manager = in_doubt item s.manager }

swap_doubted : (item : ManagerRecord) → is_swap_in_doubt (Some item) ≡ true → item ≡ ManagerRecord.Swapped
swap_doubted ManagerRecord.Swapped h = refl
swap_doubted item h = cc

-- a step whose writing failed
pub doubting_kept : (shape : VolumeShape) (s : State) (item : ManagerRecord) → Kept shape s → MayBeDoubted shape s item → Kept shape (doubting s item)
doubting_kept shape s item k may = record {
  placement = k.placement;
  provenance = k.provenance;
  leases = k.leases;
  fencing = k.fencing;
  durability = k.durability;
  deletion = record { committed_bare = k.deletion.committed_bare; doubtful_bare = may.bare; doubtful_unlocked = may.unlocked };
  sight = k.sight;
  succession = record {
    holds_acked = λ e t i b h. elim (or_cases (is_swapped s.manager.lock) (is_swap_in_doubt (Some item)) e) [
      | inl w ↦ k.succession.holds_acked (or_left (is_swapped s.manager.lock) (is_swap_in_doubt s.manager.doubt) w) t i b h
      | inr d ↦ may.acked (swap_doubted item d) t i b h
    ];
    holds_committed = λ e t i b h. elim (or_cases (is_swapped s.manager.lock) (is_swap_in_doubt (Some item)) e) [
      | inl w ↦ k.succession.holds_committed (or_left (is_swapped s.manager.lock) (is_swap_in_doubt s.manager.doubt) w) t i b h
      | inr d ↦ may.committed (swap_doubted item d) t i b h
    ];
    is_current = k.succession.is_current;
  };
  authority = record { requests = k.authority.requests; releases = k.authority.releases; hearing = k.authority.hearing; doubt_sound = may.sound };
  support = record {
    locks = k.support.locks;
    leases = record { lease_within_term = k.support.leases.lease_within_term; doubtful_lease_within_term = may.term };
    asks = record { asked_is_begun = k.support.asks.asked_is_begun; doubtful_ask_is_begun = may.begun };
    post = k.support.post;
    units = k.support.units;
  };
  form = record { lists = k.form.lists; log = record { doubt_while_shut = λ e. cc }; lock = k.form.lock; units = k.form.units };
}

-- a log that is started, with nothing found behind the records that stood
pub dropped_kept : (shape : VolumeShape) (s : State) → Kept shape s → Kept shape (record s { manager = settled s.manager })
dropped_kept shape s k = record {
  placement = k.placement;
  provenance = k.provenance;
  leases = k.leases;
  fencing = k.fencing;
  durability = k.durability;
  deletion = record { committed_bare = k.deletion.committed_bare; doubtful_bare = λ b e. cc; doubtful_unlocked = λ b e. cc };
  sight = k.sight;
  succession = record {
    holds_acked = λ e. k.succession.holds_acked (weaker e);
    holds_committed = λ e. k.succession.holds_committed (weaker e);
    is_current = k.succession.is_current;
  };
  authority = record { requests = k.authority.requests; releases = k.authority.releases; hearing = k.authority.hearing; doubt_sound = tt };
  support = record {
    locks = k.support.locks;
    leases = record { lease_within_term = k.support.leases.lease_within_term; doubtful_lease_within_term = λ end e. cc };
    asks = record { asked_is_begun = k.support.asks.asked_is_begun; doubtful_ask_is_begun = λ b e. cc };
    post = k.support.post;
    units = k.support.units;
  };
  form = record { lists = k.form.lists; log = record { doubt_while_shut = λ e. refl }; lock = k.form.lock; units = k.form.units };
} where
  weaker : is_swapped s.manager.lock || false ≡ true → is_swapped s.manager.lock || is_swap_in_doubt s.manager.doubt ≡ true
  weaker e = elim (or_cases (is_swapped s.manager.lock) false e) [
    | inl w ↦ or_left (is_swapped s.manager.lock) (is_swap_in_doubt s.manager.doubt) w
    | inr f ↦ cc
  ]

-- what was heard is forgotten
pub forgetful_kept : (shape : VolumeShape) (s : State) → Kept shape s → Kept shape (record s { manager = forgetful s.manager })
forgetful_kept shape s k = record {
  placement = k.placement;
  provenance = k.provenance;
  leases = k.leases;
  fencing = k.fencing;
  durability = k.durability;
  deletion = k.deletion;
  sight = record {
    few_blind_live = k.sight.few_blind_live;
    few_blind_mark = k.sight.few_blind_mark;
    listings_given = λ l u i h. absurd h;
    live_rows_stand = λ u t b i h. cc;
    marked_rows_stand = λ u t b i h. cc;
  };
  succession = k.succession;
  authority = record {
    requests = k.authority.requests;
    releases = k.authority.releases;
    hearing = record { mark_given = λ m i. absurd i; fenced_given = λ t i h. cc; released_given = λ t i h. cc };
    doubt_sound = k.authority.doubt_sound;
  };
  support = k.support;
  form = k.form;
}

-- a log that is found shut
pub shut_kept : (shape : VolumeShape) (s : State) → Kept shape s → Kept shape (record s { manager = record (s.manager) { is_shut = true } })
shut_kept shape s k = record {
  placement = k.placement;
  provenance = k.provenance;
  leases = k.leases;
  fencing = k.fencing;
  durability = k.durability;
  deletion = k.deletion;
  sight = k.sight;
  succession = k.succession;
  authority = k.authority;
  support = k.support;
  form = record { lists = k.form.lists; log = record { doubt_while_shut = λ e. cc }; lock = k.form.lock; units = k.form.units };
}

-- where the log is started and nothing is in doubt, it stays so
pub at_once : (item : ManagerRecord) (m : Manager) → m.is_shut ≡ false → m.doubt ≡ None → settled (written item m) ≡ written item m
at_once (ManagerRecord.Made homes) m e f = λ i. record m { is_shut = sym e i; doubt = sym f i }
at_once (ManagerRecord.Leased end) m e f = λ i. record (written (ManagerRecord.Leased end) m) { is_shut = sym e i; doubt = sym f i }
at_once (ManagerRecord.Locked task number grants) m e f = λ i. record (written (ManagerRecord.Locked task number grants) m) { is_shut = sym e i; doubt = sym f i }
at_once (ManagerRecord.Retargeted grant) m e f = λ i. record (written (ManagerRecord.Retargeted grant) m) { is_shut = sym e i; doubt = sym f i }
at_once ManagerRecord.Swapped m e f = λ i. record (written ManagerRecord.Swapped m) { is_shut = sym e i; doubt = sym f i }
at_once ManagerRecord.Unlocked m e f = λ i. record (written ManagerRecord.Unlocked m) { is_shut = sym e i; doubt = sym f i }
at_once (ManagerRecord.Asked bid) m e f = λ i. record (written (ManagerRecord.Asked bid) m) { is_shut = sym e i; doubt = sym f i }
at_once (ManagerRecord.Committed bid) m e f = λ i. record (written (ManagerRecord.Committed bid) m) { is_shut = sym e i; doubt = sym f i }

-- a state with a record in doubt is one in which it was left so
pub was_doubted : (s : State) (item : ManagerRecord) → s.manager.is_shut ≡ true → s.manager.doubt ≡ Some item → s ≡ doubting s item
was_doubted s item e f = λ i. record s { manager = record (s.manager) { is_shut = e i; doubt = f i } }

-- a step of the manager that is done is one whose record was in doubt and is found written
pub done_kept : (shape : VolumeShape) (s t : State) (item : ManagerRecord) → Kept shape s → s.manager.is_shut ≡ false → MayBeDoubted shape s item
    → (Kept shape (doubting s item) → Kept shape (record s { manager = settled (written item s.manager) })) → t ≡ record s { manager = t.manager } → t.manager ≡ written item s.manager → Kept shape t
done_kept shape s t item k started may after only new =
    let there = after (doubting_kept shape s item k may) in
    let same_manager : settled (written item s.manager) ≡ t.manager = at_once item s.manager started (k.form.log.doubt_while_shut started) ∙ sym new in
    subst (Kept shape) (sym only) (subst (λ m. Kept shape (record s { manager = m })) same_manager there)

pub fault_kept : (shape : VolumeShape) (s t : State) (item : ManagerRecord) → Kept shape s → MayBeDoubted shape s item → t ≡ record s { manager = t.manager } → t.manager ≡ in_doubt item s.manager → Kept shape t
fault_kept shape s t item k may only new =
    subst (Kept shape) (sym only) (subst (λ m. Kept shape (record s { manager = m })) (sym new) (doubting_kept shape s item k may))

pub refused_kept : (shape : VolumeShape) (s t : State) → Kept shape s → t ≡ record s { manager = t.manager } → t.manager ≡ s.manager → Kept shape t
refused_kept shape s t k only new = subst (Kept shape) (sym only) (subst (λ m. Kept shape (record s { manager = m })) (sym new) k)

-- a record in doubt that is found written, or not
pub found_kept : (shape : VolumeShape) (s : State) (item : ManagerRecord) → Kept shape s → s.manager.is_shut ≡ true → s.manager.doubt ≡ Some item
    → (Kept shape (doubting s item) → Kept shape (record s { manager = settled (written item s.manager) })) → Kept shape (record s { manager = forgetful (settled (written item s.manager)) })
found_kept shape s item k shut doubt after =
    forgetful_kept shape (record s { manager = settled (written item s.manager) }) (after (subst (Kept shape) (was_doubted s item shut doubt) k))
