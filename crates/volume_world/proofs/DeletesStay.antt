-- What is asked or committed stays so, and a delete is asked only by an ask.
use Rattle.std.proofs.Common.{◌≡◌, ℕ, ◌⊎◌, inl, inr, Bool, true, false, List, Option, Some, None, refl, sym, ◌∙◌, ap, subst}
use Rattle.std.specs.Prelude.{◌||◌, ◌==◌, is_some}
use Rattle.std.proofs.lemmas.Bool.{eqb-true}
use Rattle.unit_id.specs.Lists.{is_in}
use Rattle.unit_id.specs.Request.{Request, Answer}
use Rattle.unit_id.specs.declared.targets.Target.{Target}
use Rattle.unit_id.proofs.Bools.{contrary, or_right}
use Rattle.code_mode.specs.VolumeShape.{VolumeShape}
use Rattle.volume_entry.specs.Manager.{ManagerRecord, Manager, written, in_doubt, forgetful, settled}
use Rattle.volume_entry.specs.Reply.{Reply}
use Rattle.volume_entry.specs.ManagerStep.{GrantsLease, Locks, Retargets, Swaps, Unlocks, Asks, Commits, hear, retarget_record, lock_record}
use Rattle.volume_world.specs.Event.{Event}
use Rattle.volume_world.specs.State.{State}
use Rattle.volume_world.specs.Move.{Move, Moves, Begins, Ends, Ticks, Breaks, Restarts, RestartsManager, Looks, Happens, SettlesManager, SettlesUnit, found}
use Rattle.volume_world.proofs.EntryMoves.{IsLasting}
use Rattle.unit_id.specs.Place.{Place}
use Rattle.volume_world.specs.BlobStatus.{is_begun}

-- the record asks for the delete of a blob
abbrev pub is_ask : ManagerRecord → Bool
is_ask (ManagerRecord.Asked bid) = true
is_ask item = false

-- how a step leaves the manager: as it was, or with a record written or in doubt
abbrev pub Stepped : ManagerRecord → Manager → Manager → Type 0
Stepped item m n = (n ≡ written item m) ⊎ (n ≡ in_doubt item m)

abbrev pub Did : Manager → Manager → Type 0
Did m n = (n ≡ m) ⊎ ((item : ManagerRecord) × (is_ask item ≡ false) × Stepped item m n)

-- an ask is done or in doubt
abbrev pub DidAsk : ℕ → Manager → Reply → Manager → Type 0
DidAsk bid m reply n = (n ≡ m) ⊎ ((reply ≡ Reply.NotBegun → ⊥) × Stepped (ManagerRecord.Asked bid) m n)

leased : (time : ℕ) (m : Manager) (reply : Reply) (n : Manager) → GrantsLease time m reply n → Did m n
leased time m Reply.Fault n h = inr (ManagerRecord.Leased _, refl, inr h.1)
leased time m (Reply.LeaseTo end) n h = inr (ManagerRecord.Leased end, refl, inl h.2)
leased time m reply n h = inl h.1

locked : (broken : ℕ → Bool) (time task : ℕ) (targets : List Target) (m : Manager) (reply : Reply) (n : Manager) → Locks broken time task targets m reply n → Did m n
locked broken time task targets m Reply.Fault n h = inr (lock_record task targets m, refl, inr h.1)
locked broken time task targets m (Reply.Granted number transfers) n h = inr (lock_record task targets m, refl, inl h.3)
locked broken time task targets m reply n h = inl h.1

retargeted : (broken : ℕ → Bool) (task index disk : ℕ) (m : Manager) (reply : Reply) (n : Manager) → Retargets broken task index disk m reply n → Did m n
retargeted broken task index disk m Reply.Fault n h = inr (retarget_record index disk m, refl, inr h.1)
retargeted broken task index disk m (Reply.Granted number transfers) n h = inr (retarget_record index disk m, refl, inl h.3)
retargeted broken task index disk m reply n h = inl h.1

swapped : (shape : VolumeShape) (broken : ℕ → Bool) (task : ℕ) (m : Manager) (reply : Reply) (n : Manager) → Swaps shape broken task m reply n → Did m n
swapped shape broken task m Reply.Fault n h = inr (ManagerRecord.Swapped, refl, inr h.2)
swapped shape broken task m Reply.Done n h = inr (ManagerRecord.Swapped, refl, inl h.2)
swapped shape broken task m (Reply.NotCopied bid) n h = inl h.2
swapped shape broken task m reply n h = inl h.1

unlocked : (broken : ℕ → Bool) (task : ℕ) (m : Manager) (reply : Reply) (n : Manager) → Unlocks broken task m reply n → Did m n
unlocked broken task m Reply.Fault n h = inr (ManagerRecord.Unlocked, refl, inr h.1)
unlocked broken task m Reply.Done n h = inr (ManagerRecord.Unlocked, refl, inl h.1)
unlocked broken task m reply n h = inl h.1

asked : (begun : Bool) (bid : ℕ) (m : Manager) (reply : Reply) (n : Manager) → Asks begun bid m reply n → DidAsk bid m reply n
asked begun bid m Reply.Fault n h = inr ((λ e. cc), inr h.1)
asked begun bid m Reply.Done n h = inr ((λ e. cc), inl h.1)
asked begun bid m reply n h = inl h.1

committed : (shape : VolumeShape) (bid : ℕ) (m : Manager) (reply : Reply) (n : Manager) → Commits shape bid m reply n → Did m n
committed shape bid m Reply.Fault n h = inr (ManagerRecord.Committed bid, refl, inr h.1)
committed shape bid m Reply.Done n h = inr (ManagerRecord.Committed bid, refl, inl h.1)
committed shape bid m reply n h = inl h.1

-- .. or its log is shut or started
abbrev pub ManagerCases : State → Move → State → Type 0
ManagerCases s move t =
    Did s.manager t.manager
    ⊎ ((t.manager.asked ≡ s.manager.asked) × (t.manager.committed ≡ s.manager.committed) × ((t.manager.doubt ≡ s.manager.doubt) ⊎ (t.manager.doubt ≡ None)))
    ⊎ ((item : ManagerRecord) × (s.manager.doubt ≡ Some item) × (t.manager.asked ≡ (written item s.manager).asked) × (t.manager.committed ≡ (written item s.manager).committed) × (t.manager.doubt ≡ None))
    ⊎ ((bid : ℕ) × (reply : Reply) × (move ≡ Move.Happen (Event.Ask bid) reply) × DidAsk bid s.manager reply t.manager)

kept_manager : (s t : State) (move : Move) → t.manager ≡ s.manager → ManagerCases s move t
kept_manager s t move e = inl (inl e)

begin_manager : (bid : ℕ) (payload : List ℕ) (s : State) (reply : Reply) (t : State) → Begins bid payload s reply t → t.manager ≡ s.manager
begin_manager bid payload s (Reply.Begun end homes flags) t h = ap (λ (x : State). x.manager) h.4
begin_manager bid payload s reply t h = ap (λ (x : State). x.manager) h.1

end_manager : (shape : VolumeShape) (bid : ℕ) (s : State) (reply : Reply) (t : State) → Ends shape bid s reply t → t.manager ≡ s.manager
end_manager shape bid s Reply.NotOpen t h = ap (λ (x : State). x.manager) h.1
end_manager shape bid s (Reply.LeaseOver end time) t h = ap (λ (x : State). x.manager) h.4
end_manager shape bid s (Reply.Quorum n) t h = ap (λ (x : State). x.manager) h.4
end_manager shape bid s (Reply.Acked n) t h = ap (λ (x : State). x.manager) h.4
end_manager shape bid s reply t h = absurd h

tick_manager : (by : ℕ) (s : State) (reply : Reply) (t : State) → Ticks by s reply t → t.manager ≡ s.manager
tick_manager by s (Reply.Now time) t h = ap (λ (x : State). x.manager) h.1
tick_manager by s reply t h = absurd h

break_manager : (disk : ℕ) (s : State) (reply : Reply) (t : State) → Breaks disk s reply t → t.manager ≡ s.manager
break_manager disk s Reply.Done t h = ap (λ (x : State). x.manager) h
break_manager disk s reply t h = absurd h

restart_manager_same : (disk : ℕ) (s : State) (reply : Reply) (t : State) → Restarts disk s reply t → t.manager ≡ s.manager
restart_manager_same disk s Reply.Done t (inl h) = ap (λ (x : State). x.manager) h.1
restart_manager_same disk s Reply.Done t (inr h) = ap (λ (x : State). x.manager) h.2
restart_manager_same disk s Reply.Fault t h = ap (λ (x : State). x.manager) h.2
restart_manager_same disk s reply t h = absurd h

look_manager : (s : State) (reply : Reply) (t : State) → Looks s reply t → t.manager ≡ s.manager
look_manager s (Reply.Seen view) t h = ap (λ (x : State). x.manager) h.1
look_manager s reply t h = absurd h

restarts : (s : State) (reply : Reply) (t : State) (move : Move) → RestartsManager s reply t → ManagerCases s move t
restarts s Reply.Done t move h = inr (inl (ap (λ (x : State). x.manager.asked) h.1, ap (λ (x : State). x.manager.committed) h.1, inr (ap (λ (x : State). x.manager.doubt) h.1)))
restarts s Reply.Fault t move h = inr (inl (ap (λ (x : State). x.manager.asked) h, ap (λ (x : State). x.manager.committed) h, inl (ap (λ (x : State). x.manager.doubt) h)))
restarts s reply t move h = absurd h

happens : (shape : VolumeShape) (s : State) (event : Event) (reply : Reply) (t : State) → Happens shape s event reply t → ManagerCases s (Move.Happen event reply) t
happens shape s (Event.Tick by) reply t h = inl (inl (tick_manager by s reply t h))
happens shape s (Event.Plan disk fate count) reply t h = inl (inl (ap (λ (x : State). x.manager) h.1))
happens shape s (Event.Break disk) reply t h = inl (inl (break_manager disk s reply t h))
happens shape s (Event.Restart disk) reply t h = inl (inl (restart_manager_same disk s reply t h))
happens shape s Event.RestartManager reply t h = restarts s reply t (Move.Happen Event.RestartManager reply) h
happens shape s Event.Lease reply t h = inl (leased s.time s.manager reply t.manager h.1.0)
happens shape s (Event.Begin bid payload) reply t h = inl (inl (begin_manager bid payload s reply t h.1.1))
happens shape s (Event.End bid) reply t h = inl (inl (end_manager shape bid s reply t h.1))
happens shape s (Event.Lock task targets) reply t h = inl (locked s.broken s.time task targets s.manager reply t.manager h.1.1)
happens shape s (Event.Retarget task index disk) reply t h = inl (retargeted s.broken task index disk s.manager reply t.manager h.1.1)
happens shape s (Event.Swap task) reply t h = inl (swapped shape s.broken task s.manager reply t.manager h.1.0)
happens shape s (Event.Unlock task) reply t h = inl (unlocked s.broken task s.manager reply t.manager h.1.0)
happens shape s (Event.Ask bid) reply t h = inr (inr (inr (bid, reply, refl, asked (is_begun (s.puts.status bid)) bid s.manager reply t.manager h.1.1)))
happens shape s (Event.Commit bid) reply t h = inl (committed shape bid s.manager reply t.manager h.1.1)
happens shape s Event.Look reply t h = inl (inl (look_manager s reply t h.1))
happens shape s event reply t h = absurd h.1

-- hearing changes no deletes and no doubt
hears : (r : Request) (a : Answer) (m : Manager) → ((hear r a m).asked ≡ m.asked) × ((hear r a m).committed ≡ m.committed) × ((hear r a m).doubt ≡ m.doubt)
hears (Request.List p n) (Answer.Listing said shown) m = (refl, refl, refl)
hears (Request.Copy p b) Answer.Done m = (refl, refl, refl)
hears (Request.Copy p b) Answer.Already m = (refl, refl, refl)
hears (Request.Copy p b) Answer.Deleted m = (refl, refl, refl)
hears (Request.Mark p b) Answer.Done m = (refl, refl, refl)
hears (Request.Mark p b) Answer.Already m = (refl, refl, refl)
hears (Request.Fence p n) Answer.Done m = (refl, refl, refl)
hears (Request.Release p) Answer.Done m = (refl, refl, refl)
hears (Request.Release p) (Answer.Stale have) m = (refl, refl, refl)
hears r a m = (refl, refl, refl)

settles : (s : State) (is_found : Bool) (t : State) (move : Move) → SettlesManager s is_found t → ManagerCases s move t
settles s true t move h = go s.manager.doubt refl h.1 h.2 where
  go : (d : Option ManagerRecord) → s.manager.doubt ≡ d → is_some d ≡ true → t ≡ record s { manager = forgetful (settled (found d s.manager)) } → ManagerCases s move t
  go None e x y = cc
  go (Some item) e x y = inr (inr (inl (item, e, ap (λ (u : State). u.manager.asked) y, ap (λ (u : State). u.manager.committed) y, ap (λ (u : State). u.manager.doubt) y)))
settles s false t move h = inr (inl (ap (λ (u : State). u.manager.asked) h.1, ap (λ (u : State). u.manager.committed) h.1, inr (ap (λ (u : State). u.manager.doubt) h.1)))

settles_unit : (p : Place) (s : State) (is_found : Bool) (t : State) → SettlesUnit p s is_found t → t.manager ≡ s.manager
settles_unit p s true t h = ap (λ (x : State). x.manager) h.2
settles_unit p s false t h = ap (λ (x : State). x.manager) h.1

pub manager_cases : (shape : VolumeShape) (s : State) (move : Move) (t : State) → Moves shape s move t → ManagerCases s move t
manager_cases shape s (Move.Issue r) t h = inl (inl (ap (λ (x : State). x.manager) h.2))
manager_cases shape s (Move.Handle r a e) t h = inl (inl (ap (λ (x : State). x.manager) h.2))
manager_cases shape s (Move.Hear r a) t h =
    let same = hears r a s.manager in
    inr (inl (ap (λ (x : State). x.manager.asked) h.1 ∙ same.0, ap (λ (x : State). x.manager.committed) h.1 ∙ same.1, inl (ap (λ (x : State). x.manager.doubt) h.1 ∙ same.2)))
manager_cases shape s (Move.SettleManager is_found) t h = settles s is_found t (Move.SettleManager is_found) h
manager_cases shape s (Move.SettleUnit p is_found) t h = inl (inl (settles_unit p s is_found t h))
manager_cases shape s (Move.Happen event reply) t h = happens shape s event reply t h

-- records leave doubts, and drop no commit; only an ask asks
written_doubt : (item : ManagerRecord) (m : Manager) → (written item m).doubt ≡ m.doubt
written_doubt (ManagerRecord.Made homes) m = refl
written_doubt (ManagerRecord.Leased end) m = refl
written_doubt (ManagerRecord.Locked task number grants) m = refl
written_doubt (ManagerRecord.Retargeted grant) m = refl
written_doubt ManagerRecord.Swapped m = refl
written_doubt ManagerRecord.Unlocked m = refl
written_doubt (ManagerRecord.Asked bid) m = refl
written_doubt (ManagerRecord.Committed bid) m = refl

written_committed : (item : ManagerRecord) (m : Manager) (b : ℕ) → is_in b m.committed ≡ true → is_in b (written item m).committed ≡ true
written_committed (ManagerRecord.Committed bid) m b h = or_right (b == bid) (is_in b m.committed) h
written_committed (ManagerRecord.Made homes) m b h = h
written_committed (ManagerRecord.Leased end) m b h = h
written_committed (ManagerRecord.Locked task number grants) m b h = h
written_committed (ManagerRecord.Retargeted grant) m b h = h
written_committed ManagerRecord.Swapped m b h = h
written_committed ManagerRecord.Unlocked m b h = h
written_committed (ManagerRecord.Asked bid) m b h = h

written_unasked : (item : ManagerRecord) (m : Manager) (b : ℕ) → (item ≡ ManagerRecord.Asked b → ⊥) → is_in b m.asked ≡ false → is_in b (written item m).asked ≡ false
written_unasked (ManagerRecord.Asked bid) m b other h = go (b == bid) refl where
  go : (test : Bool) → b == bid ≡ test → test || is_in b m.asked ≡ false
  go true e = absurd (other (ap ManagerRecord.Asked (sym (eqb-true b bid e))))
  go false e = h
written_unasked (ManagerRecord.Made homes) m b other h = h
written_unasked (ManagerRecord.Leased end) m b other h = h
written_unasked (ManagerRecord.Locked task number grants) m b other h = h
written_unasked (ManagerRecord.Retargeted grant) m b other h = h
written_unasked ManagerRecord.Swapped m b other h = h
written_unasked ManagerRecord.Unlocked m b other h = h
written_unasked (ManagerRecord.Committed bid) m b other h = h

stepped_committed : (item : ManagerRecord) (m n : Manager) (b : ℕ) → Stepped item m n → is_in b m.committed ≡ true → is_in b n.committed ≡ true
stepped_committed item m n b (inl e) h = ap (λ (x : Manager). is_in b x.committed) e ∙ written_committed item m b h
stepped_committed item m n b (inr e) h = ap (λ (x : Manager). is_in b x.committed) e ∙ h

pub committed_lasts : (shape : VolumeShape) (b : ℕ) → IsLasting shape (λ s. is_in b s.manager.committed ≡ true)
committed_lasts shape b s move t h c = elim (manager_cases shape s move t h) [
  | inl (inl same) ↦ ap (λ (x : Manager). is_in b x.committed) same ∙ c
  | inl (inr did) ↦ stepped_committed did.0 s.manager t.manager b did.2 c
  | inr (inl log) ↦ ap (is_in b) log.1 ∙ c
  | inr (inr (inl found)) ↦ ap (is_in b) found.3 ∙ written_committed found.0 s.manager b c
  | inr (inr (inr (bid, reply, e, inl same))) ↦ ap (λ (x : Manager). is_in b x.committed) same ∙ c
  | inr (inr (inr (bid, reply, e, inr ask))) ↦ stepped_committed (ManagerRecord.Asked bid) s.manager t.manager b ask.1 c
]

-- nobody has asked, not even perhaps
pub record IsUnasked (b : ℕ) (m : Manager) : Type 0 where
  pub unasked : is_in b m.asked ≡ false
  pub undoubted : m.doubt ≡ Some (ManagerRecord.Asked b) → ⊥

unasked_same : (b : ℕ) (m n : Manager) → n ≡ m → IsUnasked b m → IsUnasked b n
unasked_same b m n e u = subst (IsUnasked b) (sym e) u

stepped_unasked : (item : ManagerRecord) (m n : Manager) (b : ℕ) → Stepped item m n → (item ≡ ManagerRecord.Asked b → ⊥) → IsUnasked b m → IsUnasked b n
stepped_unasked item m n b (inl e) other u = subst (IsUnasked b) (sym e) (record { unasked = written_unasked item m b other u.unasked; undoubted = λ x. u.undoubted (sym (written_doubt item m) ∙ x) })
stepped_unasked item m n b (inr e) other u = subst (IsUnasked b) (sym e) (record { unasked = u.unasked; undoubted = λ x. other cc })

-- a move that isn't an ask of the blob, or one that was refused as not begun
pub unasked_lasts : (shape : VolumeShape) (b : ℕ) (s : State) (move : Move) (t : State) → ((reply : Reply) → move ≡ Move.Happen (Event.Ask b) reply → reply ≡ Reply.NotBegun) → Moves shape s move t
    → IsUnasked b s.manager → IsUnasked b t.manager
unasked_lasts shape b s move t undeleted h u = elim (manager_cases shape s move t h) [
  | inl (inl same) ↦ unasked_same b s.manager t.manager same u
  | inl (inr did) ↦ stepped_unasked did.0 s.manager t.manager b did.2 (λ e. contrary (is_ask did.0) (ap is_ask e) did.1) u
  | inr (inl log) ↦ record { unasked = ap (is_in b) log.0 ∙ u.unasked; undoubted = λ x. elim log.2 [ inl same ↦ u.undoubted (sym same ∙ x) | inr none ↦ cc ] }
  | inr (inr (inl found)) ↦ record {
    unasked = ap (is_in b) found.2 ∙ written_unasked found.0 s.manager b (λ e. u.undoubted (found.1 ∙ ap (λ item. Some item) e)) u.unasked;
    undoubted = λ x. let none = found.4 in cc;
  }
  | inr (inr (inr (bid, reply, e, inl same))) ↦ unasked_same b s.manager t.manager same u
  | inr (inr (inr (bid, reply, e, inr ask))) ↦ stepped_unasked (ManagerRecord.Asked bid) s.manager t.manager b ask.1
      (λ same. ask.0 (undeleted reply (e ∙ ap (λ c. Move.Happen (Event.Ask c) reply) (same_bid bid b same)))) u
] where
  same_bid : (c d : ℕ) → ManagerRecord.Asked c ≡ ManagerRecord.Asked d → c ≡ d
  same_bid c d e = cc
