-- The moves of a volume.
use Rattle.std.specs.Prelude.{ℕ, ◌≡◌, ◌+◌, ◌<◌, ◌≤◌, ◌⊎◌, min, Bool, true, false, cond, not, ◌&&◌, ◌||◌, ◌==◌, List, [], ◌∷◌, Option, Some, None, is_some}
use Rattle.unit_id.specs.Lists.{IsIn, is_in, count_below, first_that_holds}
use Rattle.unit_id.specs.Place.{Place}
use Rattle.code_mode.specs.VolumeShape.{VolumeShape, last_time}
use Rattle.unit_id.specs.Request.{Request, Answer, place_of}
use Rattle.blob_node.specs.Units.{Units}
use Rattle.blob_node.specs.UnitAnswer.{Effect, Answers, view_at, units_after, with_written, settled_at}
use Rattle.volume_entry.specs.Manager.{Lock, ManagerRecord, Manager, home_at, transfers_of, is_swapped, has_number, is_destination, is_destination_there, is_old, is_current, written, settled, forgetful, IsDisk, IsBid}
use Rattle.volume_entry.specs.View.{View, flags_of}
use Rattle.volume_entry.specs.Reply.{Reply}
use Rattle.volume_world.specs.Event.{Event}
use Rattle.volume_entry.specs.ManagerStep.{AreTargets, task_of, hear, GrantsLease, Locks, Retargets, Swaps, Unlocks, Asks, Commits}
use Rattle.volume_world.specs.State.{Status, Puts, State}
use Rattle.volume_world.specs.BlobStatus.{is_begun, is_open}

-- A handled request carries its answer and what that leaves, a settled log whether its record in doubt was found written.
pub data Move : Type 0 where
  Issue : Request → Move
  Handle : Request → Answer → Effect → Move
  Hear : Request → Answer → Move
  SettleManager : Bool → Move
  SettleUnit : Place → Bool → Move
  Happen : Event → Reply → Move

-- the unit is the current one of its index, or a destination of the lock
abbrev pub IsReached : ℕ → Manager → Place → Type 0
IsReached total m place = ((place.index < total) × (is_current m.homes place ≡ true)) ⊎ (is_destination (transfers_of m.lock) place ≡ true)

-- a request that may be sent
abbrev pub IsSendable : ℕ → (ℕ → Status) → Manager → Request → Type 0
IsSendable total status m (Request.Create place) = (is_destination_there (transfers_of m.lock) place ≡ true) × (is_swapped m.lock ≡ false)
IsSendable total status m (Request.Fence place number) = (is_old (transfers_of m.lock) place ≡ true) × (has_number m.lock number ≡ true)
IsSendable total status m (Request.Put place bid) = (is_begun (status bid) ≡ true) × (place.index < total) × (place.epoch ≤ (home_at m.homes place.index).epoch)
IsSendable total status m (Request.Read place bid) = Unit {0}
IsSendable total status m (Request.List place number) = has_number m.lock number ≡ true
IsSendable total status m (Request.Copy place bid) = (is_begun (status bid) ≡ true) × IsReached total m place
IsSendable total status m (Request.Mark place bid) = (is_in bid m.asked ≡ true) × IsReached total m place
IsSendable total status m (Request.Free place bid) = (is_in bid m.committed ≡ true) × IsReached total m place
IsSendable total status m (Request.Release place) = (place.index < total) × (place.epoch < (home_at m.homes place.index).epoch)

-- an index accepts a put that is open
abbrev pub accepts : Place → ℕ → Puts → Puts
accepts place bid puts = record puts {
  accepted = λ blob index. ((blob == bid) && ((index == place.index) && is_open (puts.status bid))) || puts.accepted blob index;
}

-- what a put hears by an answer
abbrev pub puts_hear : Request → Answer → Puts → Puts
puts_hear (Request.Put place bid) Answer.Done puts = accepts place bid puts
puts_hear (Request.Put place bid) Answer.Already puts = accepts place bid puts
puts_hear request answer puts = puts

-- a put that is open, with no index accepted
abbrev pub opened : ℕ → List ℕ → ℕ → Puts → Puts
opened bid payload end puts = record {
  status = λ blob. cond (blob == bid) Status.Open (puts.status blob);
  payload = λ blob. cond (blob == bid) payload (puts.payload blob);
  end = λ blob. cond (blob == bid) end (puts.end blob);
  accepted = λ blob index. cond (blob == bid) false (puts.accepted blob index);
}

-- a put that has ended so
abbrev pub ended : ℕ → Status → Puts → Puts
ended bid status puts = record puts { status = λ blob. cond (blob == bid) status (puts.status blob) }

-- how many indexes have accepted a put
abbrev pub accepted_count : ℕ → Puts → ℕ → ℕ
accepted_count total puts bid = count_below total (puts.accepted bid)

abbrev pub begin_refusal : Bool → Option Lock → Option Reply
begin_refusal begun lock = first_that_holds ((is_some lock, Reply.Locked (task_of lock)) ∷ (begun, Reply.BeginTwice) ∷ [])

-- a refusal changes nothing
abbrev pub Begins : ℕ → List ℕ → State → Reply → State → Type 0
Begins bid payload s (Reply.Begun end homes flags) t =
    (begin_refusal (is_begun (s.puts.status bid)) s.manager.lock ≡ None) × (end ≡ s.manager.lease_end) × (homes ≡ s.manager.homes) × (flags ≡ flags_of s.broken s.manager.homes)
    × (t ≡ record s { puts = opened bid payload s.manager.lease_end s.puts })
Begins bid payload s reply t = (begin_refusal (is_begun (s.puts.status bid)) s.manager.lock ≡ Some reply) × (t ≡ s)

abbrev pub Ends : VolumeShape → ℕ → State → Reply → State → Type 0
Ends shape bid s Reply.NotOpen t = (is_open (s.puts.status bid) ≡ false) × (t ≡ s)
Ends shape bid s (Reply.LeaseOver end time) t =
    (is_open (s.puts.status bid) ≡ true) × (end ≡ s.puts.end bid) × (time ≡ s.time) × (end ≤ time) × (t ≡ record s { puts = ended bid Status.Failed s.puts })
Ends shape bid s (Reply.Quorum accepted) t =
    (is_open (s.puts.status bid) ≡ true) × (s.time < s.puts.end bid) × (accepted ≡ accepted_count shape.total s.puts bid) × (accepted < shape.quorum)
    × (t ≡ record s { puts = ended bid Status.Failed s.puts })
Ends shape bid s (Reply.Acked accepted) t =
    (is_open (s.puts.status bid) ≡ true) × (s.time < s.puts.end bid) × (accepted ≡ accepted_count shape.total s.puts bid) × (shape.quorum ≤ accepted)
    × (t ≡ record s { puts = ended bid Status.Acked s.puts })
Ends shape bid s reply t = ⊥

abbrev pub Ticks : ℕ → State → Reply → State → Type 0
Ticks by s (Reply.Now time) t = (time ≡ min (s.time + by) last_time) × (t ≡ record s { time = time })
Ticks by s reply t = ⊥

abbrev pub Breaks : ℕ → State → Reply → State → Type 0
Breaks disk s Reply.Done t = t ≡ record s { broken = λ other. (other == disk) || s.broken other }
Breaks disk s reply t = ⊥

-- After a fault the chunks of this disk may be shut or started, and a record in doubt stays so in a shut chunk.
pub record IsStoppedAt (disk : ℕ) (old new : Units) : Type 0 where
  pub same : new ≡ record old { is_shut = new.is_shut }
  pub others : (place : Place) → place.disk == disk ≡ false → new.is_shut place ≡ old.is_shut place
  pub doubts : (place : Place) → is_some (old.doubt place) ≡ true → new.is_shut place ≡ true

-- the chunks of a disk start anew: one with a record in doubt is settled before
abbrev pub Restarts : ℕ → State → Reply → State → Type 0
Restarts disk s Reply.Done t =
    ((s.broken disk ≡ true) × (t ≡ s))
    ⊎ ((s.broken disk ≡ false) × ((place : Place) → place.disk ≡ disk → s.units.doubt place ≡ None)
    × (t ≡ record s { units = record (s.units) { is_shut = λ place. not (place.disk == disk) && s.units.is_shut place } }))
Restarts disk s Reply.Fault t = (s.broken disk ≡ false) × IsStoppedAt disk s.units t.units × (t ≡ record s { units = t.units })
Restarts disk s reply t = ⊥

-- the manager's log starts anew: a record in doubt is settled before; a fault leaves it shut
abbrev pub RestartsManager : State → Reply → State → Type 0
RestartsManager s Reply.Done t = (s.manager.doubt ≡ None) × (t ≡ record s { manager = forgetful (settled s.manager) })
RestartsManager s Reply.Fault t = t ≡ record s { manager = record (s.manager) { is_shut = true } }
RestartsManager s reply t = ⊥

-- what a look shows
abbrev pub view_of : State → View
view_of s = record { time = s.time; version = s.manager.version; lease_end = s.manager.lease_end; held = s.manager.lock; homes = s.manager.homes; broken = flags_of s.broken s.manager.homes }

abbrev pub Looks : State → Reply → State → Type 0
Looks s (Reply.Seen sight) t = (sight ≡ view_of s) × (t ≡ s)
Looks s reply t = ⊥

-- only the manager changes
abbrev pub OnlyManager : State → State → Type 0
OnlyManager s t = t ≡ record s { manager = t.manager }

-- the steps that need the manager's log
abbrev pub StepsByLog : VolumeShape → State → Event → Reply → State → Type 0
StepsByLog shape s Event.Lease reply t = GrantsLease s.time s.manager reply t.manager × OnlyManager s t
StepsByLog shape s (Event.Begin bid payload) reply t = IsBid bid × Begins bid payload s reply t
StepsByLog shape s (Event.End bid) reply t = Ends shape bid s reply t
StepsByLog shape s (Event.Lock task targets) reply t = AreTargets shape targets × Locks s.broken s.time task targets s.manager reply t.manager × OnlyManager s t
StepsByLog shape s (Event.Retarget task index disk) reply t = IsDisk shape disk × Retargets s.broken task index disk s.manager reply t.manager × OnlyManager s t
StepsByLog shape s (Event.Swap task) reply t = Swaps shape s.broken task s.manager reply t.manager × OnlyManager s t
StepsByLog shape s (Event.Unlock task) reply t = Unlocks s.broken task s.manager reply t.manager × OnlyManager s t
StepsByLog shape s (Event.Ask bid) reply t = IsBid bid × Asks (is_begun (s.puts.status bid)) bid s.manager reply t.manager × OnlyManager s t
StepsByLog shape s (Event.Commit bid) reply t = IsBid bid × Commits shape bid s.manager reply t.manager × OnlyManager s t
StepsByLog shape s Event.Look reply t = Looks s reply t
StepsByLog shape s event reply t = ⊥

-- an event with its reply; sends and late items are moves of their own kinds
abbrev pub Happens : VolumeShape → State → Event → Reply → State → Type 0
Happens shape s (Event.Tick by) reply t = Ticks by s reply t
Happens shape s (Event.Plan disk fate count) reply t = (reply ≡ Reply.Done) × (t ≡ s)
Happens shape s (Event.Break disk) reply t = Breaks disk s reply t
Happens shape s (Event.Restart disk) reply t = Restarts disk s reply t
Happens shape s Event.RestartManager reply t = RestartsManager s reply t
Happens shape s event reply t = (s.manager.is_shut ≡ false) × StepsByLog shape s event reply t

-- what was found of a record in doubt
abbrev pub found : Option ManagerRecord → Manager → Manager
found None m = m
found (Some item) m = written item m

abbrev pub SettlesManager : State → Bool → State → Type 0
SettlesManager s true t =
    (s.manager.is_shut ≡ true) × (is_some s.manager.doubt ≡ true) × (t ≡ record s { manager = forgetful (settled (found s.manager.doubt s.manager)) })
SettlesManager s false t = (s.manager.is_shut ≡ true) × (t ≡ record s { manager = forgetful (settled s.manager) })

-- a shut chunk is started, and its record in doubt is found written or not
abbrev pub SettlesUnit : Place → State → Bool → State → Type 0
SettlesUnit place s true t =
    (s.units.is_shut place ≡ true) × (is_some (s.units.doubt place) ≡ true)
    × (t ≡ record s { units = with_written place (s.units.doubt place) (settled_at place s.units) })
SettlesUnit place s false t = (s.units.is_shut place ≡ true) × (t ≡ record s { units = settled_at place s.units })

abbrev pub Issues : ℕ → State → Request → State → Type 0
Issues total s request t =
    (s.manager.is_shut ≡ false) × IsSendable total s.puts.status s.manager request
    × (t ≡ record s { post = record (s.post) { issued = request ∷ s.post.issued } })

-- any request ever issued may be handled
abbrev pub Handles : State → Request → Answer → Effect → State → Type 0
Handles s request answer effect t =
    IsIn request s.post.issued × Answers (view_at s.broken s.units (place_of request)) request answer effect
    × (t ≡ record s {
      units = units_after (place_of request) request effect s.units;
      post = record (s.post) { given = record { request = request; answer = answer } ∷ s.post.given };
    })

-- any answer ever given may be heard
abbrev pub Hears : State → Request → Answer → State → Type 0
Hears s request answer t =
    IsIn (record { request = request; answer = answer }) s.post.given
    × (t ≡ record s { manager = hear request answer s.manager; puts = puts_hear request answer s.puts })

abbrev pub Moves : VolumeShape → State → Move → State → Type 0
Moves shape s (Move.Issue request) t = Issues shape.total s request t
Moves shape s (Move.Handle request answer effect) t = Handles s request answer effect t
Moves shape s (Move.Hear request answer) t = Hears s request answer t
Moves shape s (Move.SettleManager is_found) t = SettlesManager s is_found t
Moves shape s (Move.SettleUnit place is_found) t = SettlesUnit place s is_found t
Moves shape s (Move.Happen event reply) t = Happens shape s event reply t

-- these moves in order lead from one state to the other
abbrev pub MovesAll : VolumeShape → State → List Move → State → Type 0
MovesAll shape s [] t = t ≡ s
MovesAll shape s (move ∷ moves) t = (u : State) × Moves shape s move u × MovesAll shape u moves t
