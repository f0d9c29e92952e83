-- What an event does to a world: the stretch of history that it adds, and what always holds of a world.
use Rattle.std.specs.Prelude.{ℕ, ◌≡◌, ◌+◌, ◌*◌, ◌-◌, ◌^◌, ◌≤◌, min, Bool, true, List, [], ◌∷◌, ◌++◌, length, IfSome, IsSome, IsSomeAnd, Result, Ok, Err}
use Rattle.unit_id.specs.Lists.{IsIn}
use Rattle.disk_base.specs.Disk.{FileView}
use Rattle.disk_base.specs.Shelves.{ShelfView}
use Rattle.gate_log.specs.LogFile.{IsLogOf, end_place}
use Rattle.code_mode.specs.declared.mode.Mode.{Mode}
use Rattle.code_mode.specs.VolumeShape.{last_time}
use Rattle.blob_node.specs.Station.{StationOver}
use Rattle.blob_node.specs.Station as single
use Rattle.volume_entry.specs.BookStart.{last_start}
use Rattle.volume_entry.specs.Entry.{is_broken}
use Rattle.volume_world.specs.State.{Puts}
use Rattle.volume_entry.specs.TableParts.{shape_of}
use Rattle.volume_world.specs.OldDisks.{KeptApart}
use Rattle.volume_world.specs.Run.{World}
use Rattle.volume_world.specs.Asking.{FitsRequest, FitsEvent, CarriesRight}
use Rattle.volume_world.specs.Replying.{MayReply, ShowsMoves}
use Rattle.volume_world.specs.Course.{Part, traces_of, fault_count, PartsLead, AreSettling}
use Rattle.volume_world.specs.Stations.{AreStations, is_broken_on}
use Rattle.volume_world.specs.World.{WorldOver, Stands}
use Rattle.volume_world.specs.WorldSteps.{IsOneVolume}
use Rattle.volume_world.specs.Origins.{is_told, is_quiet, faults_of, origin_of}
use Rattle.volume_world.specs.declared.event.Event.{Event}
use Rattle.volume_world.specs.declared.event.Event.TheVariants as events
use Rattle.volume_world.specs.declared.reply.Reply.{Reply}
use Rattle.volume_world.specs.declared.late.LateItem.{LateItem}
use Rattle.volume_world.specs.declared.late.LateItem.TheVariants as items
use Rattle.volume_world.specs.declared.fault.StepFault.{StepFault}
use Rattle.volume_world.specs.declared.fault.StepFault.TheVariants.{HistoryFull, Memory}

-- Where the file tells a log, this has at most 384 bytes for the record of the making and 128 for each entry of the history.
abbrev pub IsShort : ℕ → FileView → Type 0
IsShort entries file = (bodies : List (List ℕ)) → IsSomeAnd file.content (λ bytes. IsLogOf bytes bodies) → end_place bodies ≤ 384 + 128 * entries

-- the shards that a stretch's events carry are the right ones
abbrev pub CarryRight : Mode → Puts → List Part → Type 0
CarryRight mode puts parts = (event : Event) (reply : Reply) → IsIn (Part.Asking event reply) parts → CarriesRight true mode puts event

module _ {H F : Type 0} (shelf_seen : H → ShelfView F) (seen : F → FileView) where
  -- ---- what always holds

  -- what comes late is a request that fits the volume, or the answer to one
  abbrev pub FitsLate : WorldOver H F → LateItem → Type 0
  FitsLate world (items.Request request) = FitsRequest (origin_of shelf_seen seen world) request
  FitsLate world (items.Answer request answer) = FitsRequest (origin_of shelf_seen seen world) request

  -- no call on a shelf that never fails, or on a file of one, fails
  abbrev pub AreStill : List (StationOver H F) → Type 0
  AreStill stations = (station : StationOver H F) → IsIn station stations → (shelf_seen station.shelf).is_quiet ≡ true → single.IsQuiet shelf_seen seen station

  -- The parts of a world are those of one volume with at most 64 disks, each with its station; manager and stations agree on which disks are
  -- broken; the clock and the log are within their limits.
  pub record IsSound (world : WorldOver H F) : Type 0 where
    pub one : IsOneVolume world
    pub disks : world.shape.disks ≤ 64
    pub stations : AreStations world.vid world.stations
    pub count : length world.stations ≡ world.shape.disks
    pub still : AreStill world.stations
    pub flags : length world.entry.broken ≡ 65
    pub broken : (disk : ℕ) → is_broken_on world.stations disk ≡ is_broken world.entry.broken disk
    pub time : world.time ≤ last_time
    pub end : IfSome world.entry.book.log.end (λ place. place ≤ last_start + 128 * length world.history.entries)
    pub late : (item : LateItem) → IsIn item world.late.items → FitsLate world item

  -- the volume is in this state
  pub record IsAt (world : WorldOver H F) (w : World) : Type 0 where
    pub stands : Stands shelf_seen seen world w
    pub short : IsShort (length world.history.entries) (seen world.entry.book.log.file)

  -- ---- what an event does

  -- From one world to the next the history went by this stretch, whose faults are some of the files', and in each state in which the volume was,
  -- of those that the protocol reaches, it led to one in which it is.
  pub record Passes (parts : List Part) (old new : WorldOver H F) : Type 0 where
    pub vid : new.vid ≡ old.vid
    pub shape : new.shape ≡ old.shape
    pub first : new.first ≡ old.first
    pub sound : IsSound new
    pub entries : new.history.entries ≡ old.history.entries ++ traces_of parts
    pub spare : old.history.spare ≤ new.history.spare + length parts
    pub told : is_told shelf_seen seen new ≡ is_told shelf_seen seen old
    pub quiet : is_quiet shelf_seen seen new ≡ is_quiet shelf_seen seen old
    pub count : faults_of shelf_seen seen old ≤ faults_of shelf_seen seen new
    pub faults : min (faults_of shelf_seen seen old + fault_count parts) (2 ^ 64 - 1) ≤ faults_of shelf_seen seen new
    pub leads : (w : World) → IsAt old w → KeptApart (shape_of old.shape) w.state → CarryRight old.shape.mode w.state.puts parts → (v : World) × PartsLead (origin_of shelf_seen seen old) w parts v × IsAt new v

  -- there is room for so many entries
  pub record HasRoom (count : ℕ) (world : WorldOver H F) : Type 0 where
    pub spare : count ≤ world.history.spare
    pub few : length world.history.entries + count ≤ 2 ^ 32

  -- the event was done, behind at most so many settles
  pub record Done (most : ℕ) (old new : WorldOver H F) (event : Event) (reply : Reply) : Type 0 where
    pub settles : List Part
    pub settling : AreSettling settles
    pub few : length settles ≤ most
    pub fits : MayReply (origin_of shelf_seen seen old) event reply
    pub moves : ShowsMoves (origin_of shelf_seen seen old) reply
    pub passes : Passes (settles ++ Part.Asking event reply ∷ []) old new

  -- there was no memory for it, and only the settles are done
  pub record NotDone (most : ℕ) (old new : WorldOver H F) : Type 0 where
    pub settles : List Part
    pub settling : AreSettling settles
    pub few : length settles ≤ most
    pub passes : Passes settles old new

  -- what an event does, by what it answers
  abbrev pub Takes : ℕ → WorldOver H F → WorldOver H F → Event → Result Reply StepFault → Type 0
  Takes most old new event (Ok reply) = Done most old new event reply
  Takes most old new event (Err Memory) = NotDone most old new
  Takes most old new event (Err HistoryFull) = ⊥

-- a tick, a disk that breaks, and a look at a volume whose log is started
abbrev pub NeedsNoMemory : {H F : Type 0} → WorldOver H F → Event → Type 0
NeedsNoMemory world (events.Tick by) = Unit {0}
NeedsNoMemory world (events.Break disk) = Unit {0}
NeedsNoMemory world events.Look = IsSome world.entry.book.log.end
NeedsNoMemory world event = ⊥
