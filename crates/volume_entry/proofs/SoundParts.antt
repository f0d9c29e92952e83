-- What holds of every part that legal records leave.
use Rattle.std.proofs.Common.{◌≡◌, ◌∙◌, sym, ap, refl, subst, ℕ, zero, suc, ◌+◌, ◌<◌, ◌≤◌, Bool, true, false, cond, List, [], ◌∷◌, ◌++◌, length, Option, None, Some, Err, inl, inr, arith}
use Rattle.std.specs.Prelude.{◌==◌}
use Rattle.unit_id.specs.Lists.{IsIn}
use Rattle.code_mode.specs.Mode.{put_quorum, data_count, total_count}
use Rattle.code_mode.specs.VolumeShape.{VolumeShape, last_epoch}
use Rattle.code_mode.specs.declared.mode.Mode.{Mode}
use Rattle.code_mode.specs.declared.mode.Mode.TheVariants.{Ec3P3, Ec6P3, Ec6P6, Ec10P4, Ec12P4, Ec12P9, Ec16P4, Ec15P12}
use Rattle.volume_entry.specs.Manager.{Lock, Grant, ManagerRecord, Manager, greatest_at, transfers_of, raised_one, raised, redirected_lock, swapped_lock, fresh_manager, written, IsLegal, LeadsBy, IsLog}
use Rattle.volume_entry.specs.TableParts.{shape_of}
use Rattle.std.specs.List.{flat_map}
use Rattle.std.specs.Prelude.{IsSomeAnd, ◌*◌}
use Rattle.std.proofs.lemmas.List.{length-append}
use Rattle.volume_entry.specs.Spelling.{grant_bytes, fields_of}
use Rattle.volume_entry.specs.Book.{IsSoundPart, HasRoom, HasRoomFor, AppendEnds, item_size, end_unless}
use Rattle.volume_entry.specs.declared.fault.EntryFault.{EntryFault}
use Rattle.volume_entry.specs.declared.fault.EntryFault.TheVariants as faults
use Rattle.gate_log.specs.GateLog.{LogView}
use Rattle.volume_entry.specs.declared.shape.Shape.{Shape}
use Rattle.volume_entry.proofs.Moved.{moved_length}
use Rattle.volume_entry.proofs.PlacedUnits.{length-transfers, length-redirected, placed_after}
use Rattle.volume_entry.proofs.NamedUnits.{next_named, granted_named, lock_redirected_named, moved_named, swapped_named}

few : (mode : Mode) → put_quorum mode ≤ data_count mode + 9
few Ec3P3 = omega arith
few Ec6P3 = omega arith
few Ec6P6 = omega arith
few Ec10P4 = omega arith
few Ec12P4 = omega arith
few Ec12P9 = omega arith
few Ec16P4 = omega arith
few Ec15P12 = omega arith

total_few : (mode : Mode) → total_count mode ≤ 27
total_few Ec3P3 = omega arith
total_few Ec6P3 = omega arith
total_few Ec6P6 = omega arith
total_few Ec10P4 = omega arith
total_few Ec12P4 = omega arith
total_few Ec12P9 = omega arith
total_few Ec16P4 = omega arith
total_few Ec15P12 = omega arith

-- a volume has few units
pub few_units : (shape : Shape) → (shape_of shape).total ≤ 27
few_units shape = total_few shape.mode

-- a lock that is legal moves few of them
pub few_grants : (shape : Shape) (count : ℕ) → count + (shape_of shape).data_count ≤ (shape_of shape).quorum → count ≤ 9
few_grants shape count most = let h : put_quorum shape.mode ≤ data_count shape.mode + 9 = few shape.mode in let m : count + data_count shape.mode ≤ put_quorum shape.mode = most in omega (arith, h, m)

-- ---- epochs

raised_one_within : (ts : List Grant) (i epoch : ℕ) → ((t : Grant) → IsIn t ts → t.dest.epoch ≤ last_epoch) → epoch ≤ last_epoch → raised_one ts i epoch ≤ last_epoch
raised_one_within [] i epoch all h = h
raised_one_within (t ∷ ts) i epoch all h = go (t.index == i) (raised_one_within ts i epoch (λ u j. all u (inr j)) h) where
  go : (test : Bool) → raised_one ts i epoch ≤ last_epoch → cond test t.dest.epoch (raised_one ts i epoch) ≤ last_epoch
  go true rest = all t (inl refl)
  go false rest = rest

raised_within : (k : ℕ) (ts : List Grant) (epochs : List ℕ) (i : ℕ) → ((t : Grant) → IsIn t ts → t.dest.epoch ≤ last_epoch) → greatest_at epochs i ≤ last_epoch → greatest_at (raised k ts epochs) i ≤ last_epoch
raised_within k ts [] i all h = h
raised_within k ts (epoch ∷ epochs) zero all h = raised_one_within ts k epoch all h
raised_within k ts (epoch ∷ epochs) (suc i) all h = raised_within (suc k) ts epochs i all h

-- ---- counts

redirected_few : (grant : Grant) (lock : Option Lock) → length (transfers_of lock) ≤ 9 → length (transfers_of (redirected_lock grant lock)) ≤ 9
redirected_few grant None h = h
redirected_few grant (Some lock) h = let e = length-redirected grant lock.transfers in omega (arith, e, h)

swapped_few : (lock : Option Lock) → length (transfers_of lock) ≤ 9 → length (transfers_of (swapped_lock lock)) ≤ 9
swapped_few None h = h
swapped_few (Some lock) h = h

-- ---- one record more

module _ (shape : Shape) (place end : ℕ) (below : place < end) (m : Manager) (is : IsSoundPart (shape_of shape) (Some place) m) where
  later : (n : ℕ) → n ≤ place → n ≤ end
  later n h = omega (arith, h, below)

  pub sound_after : (item : ManagerRecord) → IsLegal (shape_of shape) m item → IsSoundPart (shape_of shape) (Some end) (written item m)
  sound_after (ManagerRecord.Made homes) legal = absurd legal
  sound_after (ManagerRecord.Leased time) legal = record { homes = is.homes; moves = is.moves; named = is.named; moves_named = is.moves_named; placed = placed_after shape m is.homes is.placed (ManagerRecord.Leased time) legal; greatest = is.greatest; version = later m.version is.version; granted = later m.granted is.granted }
  sound_after (ManagerRecord.Locked task number grants) legal = record {
    homes = is.homes;
    moves = let e = length-transfers grants m.homes in let f = few_grants shape (length grants) legal.most in omega (arith, e, f);
    named = is.named;
    moves_named = granted_named (shape_of shape) m.homes m.greatest is.homes is.named grants legal.homes;
    placed = placed_after shape m is.homes is.placed (ManagerRecord.Locked task number grants) legal;
    greatest = λ i below_. raised_within 0 grants m.greatest i (λ t h. (legal.homes t h).last) (is.greatest i below_);
    version = later m.version is.version;
    granted = let n = legal.next in let h = is.granted in omega (arith, n, h, below);
  }
  sound_after (ManagerRecord.Retargeted grant) legal = record {
    homes = is.homes;
    moves = redirected_few grant m.lock is.moves;
    named = is.named;
    moves_named = lock_redirected_named grant m.lock (next_named (shape_of shape) m.homes m.greatest grant legal.home) is.moves_named;
    placed = placed_after shape m is.homes is.placed (ManagerRecord.Retargeted grant) legal;
    greatest = λ i below_. raised_within 0 (grant ∷ []) m.greatest i (λ t h. elim h [ inl e ↦ subst (λ (g : Grant). g.dest.epoch ≤ last_epoch) (sym e) legal.home.last | inr none ↦ absurd none ]) (is.greatest i below_);
    version = later m.version is.version;
    granted = later m.granted is.granted;
  }
  sound_after ManagerRecord.Swapped legal = record {
    homes = moved_length (transfers_of m.lock) m.homes ∙ is.homes;
    moves = swapped_few m.lock is.moves;
    named = moved_named 0 (transfers_of m.lock) m.homes is.moves_named is.named;
    moves_named = swapped_named m.lock is.moves_named;
    placed = placed_after shape m is.homes is.placed ManagerRecord.Swapped legal;
    greatest = is.greatest;
    version = let h = is.version in omega (arith, h, below);
    granted = later m.granted is.granted;
  }
  sound_after ManagerRecord.Unlocked legal = record { homes = is.homes; moves = omega arith; named = is.named; moves_named = λ t i. absurd i; placed = placed_after shape m is.homes is.placed ManagerRecord.Unlocked legal; greatest = is.greatest; version = later m.version is.version; granted = later m.granted is.granted }
  sound_after (ManagerRecord.Asked bid) legal = record { homes = is.homes; moves = is.moves; named = is.named; moves_named = is.moves_named; placed = placed_after shape m is.homes is.placed (ManagerRecord.Asked bid) legal; greatest = is.greatest; version = later m.version is.version; granted = later m.granted is.granted }
  sound_after (ManagerRecord.Committed bid) legal = record { homes = is.homes; moves = is.moves; named = is.named; moves_named = is.moves_named; placed = placed_after shape m is.homes is.placed (ManagerRecord.Committed bid) legal; greatest = is.greatest; version = later m.version is.version; granted = later m.granted is.granted }

-- ---- logs of one record more

leads_more : (shape : VolumeShape) (m n : Manager) (items : List ManagerRecord) (item : ManagerRecord) → LeadsBy shape m items n → IsLegal shape n item → LeadsBy shape m (items ++ item ∷ []) (written item n)
leads_more shape m n [] item e legal = (subst (λ k. IsLegal shape k item) e legal, ap (written item) e)
leads_more shape m n (first ∷ items) item h legal = (h.0, leads_more shape (written first m) n items item h.1 legal)

pub log_more : (shape : VolumeShape) (items : List ManagerRecord) (m : Manager) (item : ManagerRecord) → IsLog shape items m → IsLegal shape m item → IsLog shape (items ++ item ∷ []) (written item m)
log_more shape [] m item h legal = absurd h
log_more shape (ManagerRecord.Made homes ∷ items) m item h legal = (h.0, leads_more shape (fresh_manager homes) m items item h.1 legal)
log_more shape (_ ∷ items) m item h legal = absurd h

-- ---- what is legal is short

length-grants : (grants : List Grant) → length (flat_map grant_bytes grants) ≡ 9 * length grants
length-grants [] = refl
length-grants (t ∷ ts) = let h = length-grants ts in let e = length-append (grant_bytes t) (flat_map grant_bytes ts) in omega (arith, h, e)

pub small_item : (shape : Shape) (vid : ℕ) (m : Manager) (item : ManagerRecord) → IsLegal (shape_of shape) m item → item_size vid shape.mode item ≤ 122
unfolding fields_of
small_item shape vid m (ManagerRecord.Made homes) legal = absurd legal
small_item shape vid m (ManagerRecord.Leased end) legal = omega arith
small_item shape vid m (ManagerRecord.Locked task number grants) legal = let h = length-grants grants in let f = few_grants shape (length grants) legal.most in omega (arith, h, f)
small_item shape vid m (ManagerRecord.Retargeted grant) legal = omega arith
small_item shape vid m ManagerRecord.Swapped legal = omega arith
small_item shape vid m ManagerRecord.Unlocked legal = omega arith
small_item shape vid m (ManagerRecord.Asked bid) legal = omega arith
small_item shape vid m (ManagerRecord.Committed bid) legal = omega arith

pub room_of : (shape : Shape) (vid : ℕ) (is_shut : Bool) (end : Option ℕ) (m : Manager) (item : ManagerRecord) → IsLegal (shape_of shape) m item → HasRoom (end_unless is_shut end) → HasRoomFor (item_size vid shape.mode item) end
room_of shape vid true end m item legal room = absurd room
room_of shape vid false None m item legal room = absurd room
room_of shape vid false (Some place) m item legal room = let s = small_item shape vid m item legal in (omega (arith, s), omega (arith, s, room))

-- .. and leaves a sound part
pub sound_wrote : (shape : Shape) (is_shut : Bool) (end then_ : Option ℕ) (place : ℕ) (m n : Manager) (item : ManagerRecord) → HasRoom (end_unless is_shut end) → IsSoundPart (shape_of shape) (end_unless is_shut end) m
    → end ≡ Some place → IsSomeAnd then_ (λ e. place < e) → IsLegal (shape_of shape) m item → n ≡ written item m → IsSoundPart (shape_of shape) (end_unless is_shut then_) n
sound_wrote shape true end then_ place m n item room is at behind legal same = absurd room
sound_wrote shape false end None place m n item room is at behind legal same = absurd behind
sound_wrote shape false end (Some e) place m n item room is at behind legal same =
    subst (IsSoundPart (shape_of shape) (Some e)) (sym same) (sound_after shape place e behind m (subst (λ o. IsSoundPart (shape_of shape) o m) at is) item legal)

-- an append that was refused leaves a sound part too
pub sound_refused : (shape : Shape) (is_shut : Bool) (before after : LogView) (m n : Manager) (why : EntryFault) → AppendEnds before after (Err why) → IsSoundPart (shape_of shape) (end_unless is_shut before.end) m → n ≡ m
    → IsSoundPart (shape_of shape) (end_unless is_shut after.end) n
sound_refused shape is_shut before after m n why ends is same = subst (IsSoundPart (shape_of shape) (end_unless is_shut after.end)) (sym same) (go why ends) where
  no_end : (b : Bool) → end_unless b None ≡ None
  no_end true = refl
  no_end false = refl

  go : (why : EntryFault) → AppendEnds before after (Err why) → IsSoundPart (shape_of shape) (end_unless is_shut after.end) m
  go faults.Fault none = subst (λ o. IsSoundPart (shape_of shape) o m) (sym (ap (end_unless is_shut) none ∙ no_end is_shut))
      (record { homes = is.homes; moves = is.moves; named = is.named; moves_named = is.moves_named; placed = is.placed; greatest = is.greatest; version = tt; granted = tt })
  go faults.Memory stays = subst (λ e. IsSoundPart (shape_of shape) (end_unless is_shut e) m) (sym stays) is
  go faults.Shut none = absurd none
  go (faults.Spoiled place) none = absurd none
