-- What a request that the stations handle is of the protocol: which record in doubt it settles, how it is answered, and what is heard of it.
use Rattle.std.specs.Prelude.{ℕ, ◌≡◌, ◌≤◌, Bool, true, false, List, [], ◌∷◌, length, Option, Some, None, Result, Ok, Err}
use Rattle.unit_id.specs.Lists.{IsIn}
use Rattle.unit_id.specs.Place.{Place}
use Rattle.unit_id.specs.Messages.{place_at, request_of, answer_of}
use Rattle.unit_id.specs.Request.{place_of}
use Rattle.unit_id.specs.declared.request.Request as sent
use Rattle.unit_id.specs.declared.answer.Answer as answered
use Rattle.unit_id.specs.declared.answer.Answer.TheVariants as answers
use Rattle.disk_base.specs.Faults.{Rose}
use Rattle.disk_base.specs.Disk.{FileView}
use Rattle.disk_base.specs.Shelves.{ShelfView}
use Rattle.blob_node.specs.Units.{with_at}
use Rattle.blob_node.specs.UnitAnswer.{Effect, units_after}
use Rattle.code_mode.specs.declared.mode.Mode.{Mode}
use Rattle.blob_node.specs.HeldUnit.{settled_by, written_by, disk_of}
use Rattle.blob_node.specs.Holding.{Written, item_of, written_after, ShowsBytes}
use Rattle.blob_node.specs.Station.{StationOver}
use Rattle.blob_node.specs.declared.settled.Settled.{Settled}
use Rattle.volume_entry.specs.HeardCalls.{is_listing}
use Rattle.volume_entry.specs.ManagerStep.{hear}
use Rattle.volume_world.specs.State.{State}
use Rattle.volume_world.specs.Move.{Handles, puts_hear}
use Rattle.volume_world.specs.Run.{World, IsSettledOn}
use Rattle.volume_world.specs.Stations.{AllStand, AllOutlast, is_broken_on, faults_of}
use Rattle.volume_world.specs.World.{WorldOver, Stands, CarriesBegun, AreAsBegun}
use Rattle.volume_world.specs.History.{AreNoted, settle_entry}
use Rattle.volume_world.specs.Course.{Part, GivesRight, PartsLead}
use Rattle.volume_world.specs.Origins.{origin_of}
use Rattle.volume_world.specs.declared.fault.StepFault.{StepFault}
use Rattle.volume_world.specs.declared.fault.StepFault.TheVariants.{HistoryFull, Memory}

-- what a start tells of a record in doubt; where none was in doubt it tells nothing
abbrev pub told_of : Bool → Option Bool → Option Bool
told_of true found = found
told_of false found = None

-- the state once the record in doubt of this unit was found or not, where that is told
abbrev pub once_settled : Place → Option Bool → State → State
once_settled place told s = record s { units = settled_by place told s.units }

-- .. as a stretch of the history
abbrev pub settles_of : ℕ → Option Bool → List Part
settles_of disk None = []
settles_of disk (Some kept) = Part.Settling (settle_entry disk kept) ∷ []

-- these records in doubt of a disk are settled in turn
abbrev pub SettlesEach : ℕ → State → List Settled → State → Type 0
SettlesEach disk s [] t = t ≡ s
SettlesEach disk s (item ∷ rest) t =
    IsSettledOn disk s item.found (once_settled (place_at item.unit disk) (Some item.found) s)
    × SettlesEach disk (once_settled (place_at item.unit disk) (Some item.found) s) rest t

-- the state after a request was handled so
abbrev pub once_handled : sent.Request → answered.Answer → Effect → State → State
once_handled request answer effect s = record s {
  units = units_after (place_of (request_of request)) (request_of request) effect s.units;
  post = record (s.post) { given = record { request = request_of request; answer = answer_of answer } ∷ s.post.given };
}

-- the state after the answer to a request was heard
abbrev pub once_heard : sent.Request → answered.Answer → State → State
once_heard request answer s = record s {
  manager = hear (request_of request) (answer_of answer) s.manager;
  puts = puts_hear (request_of request) (answer_of answer) s.puts;
}

-- a fault comes only where a call on a shelf or a file failed
abbrev pub CountsFault : ℕ → ℕ → Result answered.Answer StepFault → Type 0
CountsFault before now (Ok answers.Fault) = Rose before now
CountsFault before now _ = before ≤ now

module _ {H F : Type 0} (shelf_seen : H → ShelfView F) (seen : F → FileView) where
  -- A request is handled in this state, where the unit that it asks has these records, and the stations stand for the state behind it.
  pub record HandlesIn (s : State) (request : sent.Request) (written : Place → Written) (found : Option Bool) (answer : answered.Answer) (new : List (StationOver H F)) : Type 0 where
    pub effect : Effect
    pub handles : Handles s (request_of request) (answer_of answer) effect (once_handled request answer effect s)
    pub bytes : ShowsBytes request answer (written_by found (written (place_of (request_of request)))).items
    pub stand : AllStand shelf_seen seen new
        (with_at (place_of (request_of request)) (written_after effect (item_of request) (written_by found (written (place_of (request_of request))))) written)
        (once_handled request answer effect s).units

  -- An answer is heard, whatever the world stands for before; for want of memory nothing is.
  abbrev pub IsHeardBy : sent.Request → answered.Answer → WorldOver H F → WorldOver H F → Result (Unit {0}) StepFault → Type 0
  IsHeardBy request answer old new (Ok _) = (w : World) → Stands shelf_seen seen old w → Stands shelf_seen seen new (record w { state = once_heard request answer w.state })
  IsHeardBy request answer old new (Err Memory) = (w : World) → Stands shelf_seen seen old w → Stands shelf_seen seen new w
  IsHeardBy request answer old new (Err HistoryFull) = ⊥

  -- ---- a request

  -- a state that has these units and puts, in which the request was issued, and carries a begun blob's shard where it carries one
  pub record IsAsked (mode : Mode) (request : sent.Request) (u s : State) : Type 0 where
    pub units : s.units ≡ u.units
    pub puts : s.puts ≡ u.puts
    pub broken : (disk : ℕ) → s.broken disk ≡ u.broken disk
    pub issued : IsIn (request_of request) s.post.issued
    pub carries : CarriesBegun mode s.puts request

  -- The request is handled in this state, the stations stand for the state behind it, and the bytes that they keep and give are as begun.
  pub record AnswersIn (mode : Mode) (request : sent.Request) (answer : answered.Answer) (s : State) (new : List (StationOver H F)) : Type 0 where
    pub effect : Effect
    pub handles : Handles s (request_of request) (answer_of answer) effect (once_handled request answer effect s)
    pub written : Place → Written
    pub stand : AllStand shelf_seen seen new written (once_handled request answer effect s).units
    pub as_begun : AreAsBegun mode s.puts written
    pub right : GivesRight mode s.puts request answer

  -- It is handled in each such state, and a listing that isn't heard may as well not have been asked for. For want of memory it isn't handled.
  abbrev pub ServesBy : WorldOver H F → sent.Request → World → Result answered.Answer StepFault → WorldOver H F → Type 0
  ServesBy old request u (Ok answer) new =
      ((s : State) → IsAsked old.shape.mode request u.state s → AnswersIn old.shape.mode request answer s new.stations)
      × (is_listing (answer_of answer) ≡ true → Stands shelf_seen seen new u)
  ServesBy old request u (Err Memory) new = Stands shelf_seen seen new u
  ServesBy old request u (Err HistoryFull) new = ⊥

  -- from this state what is told of a start leads on, and behind it the request is handled
  pub record ServesIn (request : sent.Request) (told : Option Bool) (w : World) (result : Result answered.Answer StepFault) (old new : WorldOver H F) : Type 0 where
    pub then_ : World
    pub same : then_ ≡ record w { state = record (w.state) { units = then_.state.units } }
    pub leads : PartsLead (origin_of shelf_seen seen old) w (settles_of (disk_of request) told) then_
    pub serves : ServesBy old request then_ result new

  -- A request is served: what is told of a start stands in the history, and no disk breaks.
  pub record Serves (request : sent.Request) (result : Result answered.Answer StepFault) (old new : WorldOver H F) : Type 0 where
    pub told : Option Bool
    pub rest : new ≡ record old { stations = new.stations; history = new.history }
    pub noted : AreNoted (settles_of (disk_of request) told) old.history new.history
    pub lasts : AllOutlast shelf_seen seen old.stations new.stations
    pub count : length new.stations ≡ length old.stations
    pub broken : (disk : ℕ) → is_broken_on new.stations disk ≡ is_broken_on old.stations disk
    pub counts : CountsFault (faults_of shelf_seen seen old.stations) (faults_of shelf_seen seen new.stations) result
    pub serves : (w : World) → Stands shelf_seen seen old w → ServesIn request told w result old new
