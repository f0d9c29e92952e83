-- What never goes back in a volume: deletes that are asked for, broken disks, and the version, without which no home changes.
use Rattle.std.proofs.Common.{◌≡◌, ℕ, ◌<◌, ◌⊎◌, inl, inr, Bool, true, false, List, [], ◌∷◌, Option, Some, None, refl, sym, ◌∙◌, ap, subst, arith}
use Rattle.std.specs.Prelude.{◌==◌}
use Rattle.unit_id.specs.Lists.{is_in}
use Rattle.unit_id.specs.Place.{Place}
use Rattle.unit_id.specs.Request.{Request, Answer}
use Rattle.unit_id.specs.declared.targets.Target.{Target}
use Rattle.unit_id.proofs.Bools.{or_right}
use Rattle.code_mode.specs.VolumeShape.{VolumeShape}
use Rattle.volume_entry.specs.Manager.{ManagerRecord, Manager, written, in_doubt, forgetful, settled}
use Rattle.volume_entry.specs.Reply.{Reply}
use Rattle.volume_entry.specs.ManagerStep.{GrantsLease, Locks, Retargets, Swaps, Unlocks, Asks, Commits, hear, lock_record, retarget_record}
use Rattle.volume_world.specs.Event.{Event}
use Rattle.volume_world.specs.State.{State}
use Rattle.volume_world.specs.Move.{Move, Moves, Begins, Ends, Ticks, Breaks, Restarts, RestartsManager, Looks, Happens, SettlesManager, SettlesUnit, OnlyManager, found}
use Rattle.volume_world.specs.Run.{World, Step, Leads}
use Rattle.volume_world.specs.Way.{Origin, shape_of}
use Rattle.volume_world.specs.Course.{Part, PartLeads, PartsLead}
use Rattle.volume_world.proofs.DeletesStay.{Stepped}
use Rattle.volume_world.proofs.EntryMoves.{entry_lasts}

pub record IsLaterManager (m n : Manager) : Type 0 where
  pub asked : (b : ℕ) → is_in b m.asked ≡ true → is_in b n.asked ≡ true
  pub homes : ((n.version ≡ m.version) × (n.homes ≡ m.homes)) ⊎ (m.version < n.version)

pub record IsLater (s t : State) : Type 0 where
  pub manager : IsLaterManager s.manager t.manager
  pub broken : (disk : ℕ) → s.broken disk ≡ true → t.broken disk ≡ true

-- ---- managers

manager_same : (m : Manager) → IsLaterManager m m
manager_same m = record { asked = λ b h. h; homes = inl (refl, refl) }

manager_on : (m n o : Manager) → IsLaterManager m n → IsLaterManager n o → IsLaterManager m o
manager_on m n o h k = record { asked = λ b x. k.asked b (h.asked b x); homes = go h.homes k.homes } where
  go : ((n.version ≡ m.version) × (n.homes ≡ m.homes)) ⊎ (m.version < n.version) → ((o.version ≡ n.version) × (o.homes ≡ n.homes)) ⊎ (n.version < o.version)
      → ((o.version ≡ m.version) × (o.homes ≡ m.homes)) ⊎ (m.version < o.version)
  go (inl x) (inl y) = inl (y.0 ∙ x.0, y.1 ∙ x.1)
  go (inl x) (inr y) = let e = x.0 in inr (omega arith)
  go (inr x) (inl y) = let e = y.0 in inr (omega arith)
  go (inr x) (inr y) = inr (omega arith)

manager_by : (m n o : Manager) → n ≡ o → IsLaterManager m o → IsLaterManager m n
manager_by m n o e h = subst (IsLaterManager m) (sym e) h

written_later : (item : ManagerRecord) (m : Manager) → IsLaterManager m (written item m)
written_later (ManagerRecord.Made homes) m = record { asked = λ b h. h; homes = inl (refl, refl) }
written_later (ManagerRecord.Leased end) m = record { asked = λ b h. h; homes = inl (refl, refl) }
written_later (ManagerRecord.Locked task number grants) m = record { asked = λ b h. h; homes = inl (refl, refl) }
written_later (ManagerRecord.Retargeted grant) m = record { asked = λ b h. h; homes = inl (refl, refl) }
written_later ManagerRecord.Swapped m = record { asked = λ b h. h; homes = inr (omega arith) }
written_later ManagerRecord.Unlocked m = record { asked = λ b h. h; homes = inl (refl, refl) }
written_later (ManagerRecord.Asked bid) m = record { asked = λ b h. or_right (b == bid) (is_in b m.asked) h; homes = inl (refl, refl) }
written_later (ManagerRecord.Committed bid) m = record { asked = λ b h. h; homes = inl (refl, refl) }

stepped_later : (item : ManagerRecord) (m n : Manager) → Stepped item m n → IsLaterManager m n
stepped_later item m n (inl e) = manager_by m n (written item m) e (written_later item m)
stepped_later item m n (inr e) = manager_by m n (in_doubt item m) e (record { asked = λ b h. h; homes = inl (refl, refl) })

lease_later : (time : ℕ) (m : Manager) (reply : Reply) (n : Manager) → GrantsLease time m reply n → IsLaterManager m n
lease_later time m Reply.Fault n h = stepped_later (ManagerRecord.Leased _) m n (inr h.1)
lease_later time m (Reply.LeaseTo end) n h = stepped_later (ManagerRecord.Leased end) m n (inl h.2)
lease_later time m reply n h = manager_by m n m h.1 (manager_same m)

lock_later : (broken : ℕ → Bool) (time task : ℕ) (targets : List Target) (m : Manager) (reply : Reply) (n : Manager) → Locks broken time task targets m reply n → IsLaterManager m n
lock_later broken time task targets m Reply.Fault n h = stepped_later (lock_record task targets m) m n (inr h.1)
lock_later broken time task targets m (Reply.Granted number transfers) n h = stepped_later (lock_record task targets m) m n (inl h.3)
lock_later broken time task targets m reply n h = manager_by m n m h.1 (manager_same m)

retarget_later : (broken : ℕ → Bool) (task index disk : ℕ) (m : Manager) (reply : Reply) (n : Manager) → Retargets broken task index disk m reply n → IsLaterManager m n
retarget_later broken task index disk m Reply.Fault n h = stepped_later (retarget_record index disk m) m n (inr h.1)
retarget_later broken task index disk m (Reply.Granted number transfers) n h = stepped_later (retarget_record index disk m) m n (inl h.3)
retarget_later broken task index disk m reply n h = manager_by m n m h.1 (manager_same m)

swap_later : (shape : VolumeShape) (broken : ℕ → Bool) (task : ℕ) (m : Manager) (reply : Reply) (n : Manager) → Swaps shape broken task m reply n → IsLaterManager m n
swap_later shape broken task m Reply.Fault n h = stepped_later ManagerRecord.Swapped m n (inr h.2)
swap_later shape broken task m Reply.Done n h = stepped_later ManagerRecord.Swapped m n (inl h.2)
swap_later shape broken task m (Reply.NotCopied bid) n h = manager_by m n m h.2 (manager_same m)
swap_later shape broken task m reply n h = manager_by m n m h.1 (manager_same m)

unlock_later : (broken : ℕ → Bool) (task : ℕ) (m : Manager) (reply : Reply) (n : Manager) → Unlocks broken task m reply n → IsLaterManager m n
unlock_later broken task m Reply.Fault n h = stepped_later ManagerRecord.Unlocked m n (inr h.1)
unlock_later broken task m Reply.Done n h = stepped_later ManagerRecord.Unlocked m n (inl h.1)
unlock_later broken task m reply n h = manager_by m n m h.1 (manager_same m)

ask_later : (begun : Bool) (bid : ℕ) (m : Manager) (reply : Reply) (n : Manager) → Asks begun bid m reply n → IsLaterManager m n
ask_later begun bid m Reply.Fault n h = stepped_later (ManagerRecord.Asked bid) m n (inr h.1)
ask_later begun bid m Reply.Done n h = stepped_later (ManagerRecord.Asked bid) m n (inl h.1)
ask_later begun bid m reply n h = manager_by m n m h.1 (manager_same m)

commit_later : (shape : VolumeShape) (bid : ℕ) (m : Manager) (reply : Reply) (n : Manager) → Commits shape bid m reply n → IsLaterManager m n
commit_later shape bid m Reply.Fault n h = stepped_later (ManagerRecord.Committed bid) m n (inr h.1)
commit_later shape bid m Reply.Done n h = stepped_later (ManagerRecord.Committed bid) m n (inl h.1)
commit_later shape bid m reply n h = manager_by m n m h.1 (manager_same m)

hear_later : (r : Request) (a : Answer) (m : Manager) → IsLaterManager m (hear r a m)
hear_later (Request.List p n) (Answer.Listing said shown) m = record { asked = λ b h. h; homes = inl (refl, refl) }
hear_later (Request.Copy p b) Answer.Done m = record { asked = λ b h. h; homes = inl (refl, refl) }
hear_later (Request.Copy p b) Answer.Already m = record { asked = λ b h. h; homes = inl (refl, refl) }
hear_later (Request.Copy p b) Answer.Deleted m = record { asked = λ b h. h; homes = inl (refl, refl) }
hear_later (Request.Mark p b) Answer.Done m = record { asked = λ b h. h; homes = inl (refl, refl) }
hear_later (Request.Mark p b) Answer.Already m = record { asked = λ b h. h; homes = inl (refl, refl) }
hear_later (Request.Fence p n) Answer.Done m = record { asked = λ b h. h; homes = inl (refl, refl) }
hear_later (Request.Release p) Answer.Done m = record { asked = λ b h. h; homes = inl (refl, refl) }
hear_later (Request.Release p) (Answer.Stale have) m = record { asked = λ b h. h; homes = inl (refl, refl) }
hear_later r a m = manager_same m

found_later : (item : Option ManagerRecord) (m : Manager) → IsLaterManager m (forgetful (settled (found item m)))
found_later None m = record { asked = λ b h. h; homes = inl (refl, refl) }
found_later (Some item) m = let later = written_later item m in record { asked = later.asked; homes = later.homes }

-- ---- states

pub later_same : (s : State) → IsLater s s
later_same s = record { manager = manager_same s.manager; broken = λ disk h. h }

pub later_on : (s u t : State) → IsLater s u → IsLater u t → IsLater s t
later_on s u t h k = record { manager = manager_on s.manager u.manager t.manager h.manager k.manager; broken = λ disk x. k.broken disk (h.broken disk x) }

later_by : (s t x : State) → t ≡ x → IsLater s x → IsLater s t
later_by s t x e h = subst (IsLater s) (sym e) h

-- where neither manager nor disks change
untouched : (s t x : State) → t ≡ x → x.manager ≡ s.manager → x.broken ≡ s.broken → IsLater s t
untouched s t x e m b = later_by s t x e (record { manager = manager_by s.manager x.manager s.manager m (manager_same s.manager); broken = λ disk h. ap (λ f. f disk) b ∙ h })

by_manager : (s t : State) → OnlyManager s t → IsLaterManager s.manager t.manager → IsLater s t
by_manager s t e h = record { manager = h; broken = λ disk x. ap (λ (y : State). y.broken disk) e ∙ x }

begin_later : (bid : ℕ) (payload : List ℕ) (s : State) (reply : Reply) (t : State) → Begins bid payload s reply t → IsLater s t
begin_later bid payload s (Reply.Begun end homes flags) t h = untouched s t _ h.4 refl refl
begin_later bid payload s reply t h = untouched s t s h.1 refl refl

end_later : (shape : VolumeShape) (bid : ℕ) (s : State) (reply : Reply) (t : State) → Ends shape bid s reply t → IsLater s t
end_later shape bid s Reply.NotOpen t h = untouched s t s h.1 refl refl
end_later shape bid s (Reply.LeaseOver end time) t h = untouched s t _ h.4 refl refl
end_later shape bid s (Reply.Quorum n) t h = untouched s t _ h.4 refl refl
end_later shape bid s (Reply.Acked n) t h = untouched s t _ h.4 refl refl
end_later shape bid s reply t h = absurd h

tick_later : (by : ℕ) (s : State) (reply : Reply) (t : State) → Ticks by s reply t → IsLater s t
tick_later by s (Reply.Now time) t h = untouched s t _ h.1 refl refl
tick_later by s reply t h = absurd h

break_later : (disk : ℕ) (s : State) (reply : Reply) (t : State) → Breaks disk s reply t → IsLater s t
break_later disk s Reply.Done t h = later_by s t _ h (record { manager = record { asked = λ b x. x; homes = inl (refl, refl) }; broken = λ other x. or_right (other == disk) (s.broken other) x })
break_later disk s reply t h = absurd h

restart_later : (disk : ℕ) (s : State) (reply : Reply) (t : State) → Restarts disk s reply t → IsLater s t
restart_later disk s Reply.Done t (inl h) = untouched s t s h.1 refl refl
restart_later disk s Reply.Done t (inr h) = untouched s t _ h.2 refl refl
restart_later disk s Reply.Fault t h = untouched s t _ h.2 refl refl
restart_later disk s reply t h = absurd h

restart_manager_later : (s : State) (reply : Reply) (t : State) → RestartsManager s reply t → IsLater s t
restart_manager_later s Reply.Done t h = later_by s t _ h.1 (record { manager = record { asked = λ b x. x; homes = inl (refl, refl) }; broken = λ disk x. x })
restart_manager_later s Reply.Fault t h = later_by s t _ h (record { manager = record { asked = λ b x. x; homes = inl (refl, refl) }; broken = λ disk x. x })
restart_manager_later s reply t h = absurd h

look_later : (s : State) (reply : Reply) (t : State) → Looks s reply t → IsLater s t
look_later s (Reply.Seen view) t h = untouched s t s h.1 refl refl
look_later s reply t h = absurd h

happen_later : (shape : VolumeShape) (s : State) (event : Event) (reply : Reply) (t : State) → Happens shape s event reply t → IsLater s t
happen_later shape s (Event.Tick by) reply t h = tick_later by s reply t h
happen_later shape s (Event.Plan disk fate count) reply t h = untouched s t s h.1 refl refl
happen_later shape s (Event.Break disk) reply t h = break_later disk s reply t h
happen_later shape s (Event.Restart disk) reply t h = restart_later disk s reply t h
happen_later shape s Event.RestartManager reply t h = restart_manager_later s reply t h
happen_later shape s Event.Lease reply t h = by_manager s t h.1.1 (lease_later s.time s.manager reply t.manager h.1.0)
happen_later shape s (Event.Begin bid payload) reply t h = begin_later bid payload s reply t h.1.1
happen_later shape s (Event.End bid) reply t h = end_later shape bid s reply t h.1
happen_later shape s (Event.Lock task targets) reply t h = by_manager s t h.1.2 (lock_later s.broken s.time task targets s.manager reply t.manager h.1.1)
happen_later shape s (Event.Retarget task index disk) reply t h = by_manager s t h.1.2 (retarget_later s.broken task index disk s.manager reply t.manager h.1.1)
happen_later shape s (Event.Swap task) reply t h = by_manager s t h.1.1 (swap_later shape s.broken task s.manager reply t.manager h.1.0)
happen_later shape s (Event.Unlock task) reply t h = by_manager s t h.1.1 (unlock_later s.broken task s.manager reply t.manager h.1.0)
happen_later shape s (Event.Ask bid) reply t h = by_manager s t h.1.2 (ask_later _ bid s.manager reply t.manager h.1.1)
happen_later shape s (Event.Commit bid) reply t h = by_manager s t h.1.2 (commit_later shape bid s.manager reply t.manager h.1.1)
happen_later shape s Event.Look reply t h = look_later s reply t h.1
happen_later shape s event reply t h = absurd h.1

settle_later : (s : State) (is_found : Bool) (t : State) → SettlesManager s is_found t → IsLater s t
settle_later s true t h = later_by s t _ h.2 (record { manager = found_later s.manager.doubt s.manager; broken = λ disk x. x })
settle_later s false t h = later_by s t _ h.1 (record { manager = record { asked = λ b x. x; homes = inl (refl, refl) }; broken = λ disk x. x })

settle_unit_later : (p : Place) (s : State) (is_found : Bool) (t : State) → SettlesUnit p s is_found t → IsLater s t
settle_unit_later p s true t h = untouched s t _ h.2 refl refl
settle_unit_later p s false t h = untouched s t _ h.1 refl refl

pub move_later : (shape : VolumeShape) (s : State) (move : Move) (t : State) → Moves shape s move t → IsLater s t
move_later shape s (Move.Issue r) t h = untouched s t _ h.2 refl refl
move_later shape s (Move.Handle r a e) t h = untouched s t _ h.2 refl refl
move_later shape s (Move.Hear r a) t h = later_by s t _ h.1 (record { manager = hear_later r a s.manager; broken = λ disk x. x })
move_later shape s (Move.SettleManager is_found) t h = settle_later s is_found t h
move_later shape s (Move.SettleUnit p is_found) t h = settle_unit_later p s is_found t h
move_later shape s (Move.Happen event reply) t h = happen_later shape s event reply t h

-- ---- runs

pub entry_later : (shape : VolumeShape) (w : World) (step : Step) (v : World) → Leads shape w step v → IsLater w.state v.state
entry_later shape w step v h = entry_lasts shape (IsLater w.state) (λ s move t moved before. later_on w.state s t before (move_later shape s move t moved)) w step v h (later_same w.state)

-- the step of a part
pub part_step : (origin : Origin) (w : World) (part : Part) (v : World) → PartLeads origin w part v → (step : Step) × Leads (shape_of origin) w step v
part_step origin w (Part.Beside trace) v h = (h.step, h.leads)
part_step origin w (Part.Settling trace) v h = (h.step, h.leads)
part_step origin w (Part.Asking event reply) v h = (h.step, h.leads)

pub parts_later : (origin : Origin) (w : World) (parts : List Part) (v : World) → PartsLead origin w parts v → IsLater w.state v.state
parts_later origin w [] v h = subst (λ (x : World). IsLater w.state x.state) (sym h) (later_same w.state)
parts_later origin w (part ∷ parts) v h =
    let one = part_step origin w part h.0 h.1 in
    later_on w.state h.0.state v.state (entry_later (shape_of origin) w one.0 h.0 one.1) (parts_later origin h.0 parts v h.2)

-- a state between two of one version has that version, and their homes
pub between : (m n o : Manager) → IsLaterManager m n → IsLaterManager n o → o.version ≡ m.version → (n.version ≡ m.version) × (n.homes ≡ m.homes)
between m n o h k e = go h.homes k.homes where
  go : ((n.version ≡ m.version) × (n.homes ≡ m.homes)) ⊎ (m.version < n.version) → ((o.version ≡ n.version) × (o.homes ≡ n.homes)) ⊎ (n.version < o.version) → (n.version ≡ m.version) × (n.homes ≡ m.homes)
  go (inl x) y = x
  go (inr x) (inl y) = let f = y.0 in absurd (omega arith)
  go (inr x) (inr y) = absurd (omega arith)
