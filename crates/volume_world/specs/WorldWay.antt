-- A world as a way to its own volume, by which nobody else steps; and what is true of every world.
use Rattle.std.specs.Prelude.{ℕ, ◌≡◌, ◌+◌, ◌^◌, ◌<◌, ◌≤◌, Bool, true, length, Result, Ok, Err, IsOk}
use Rattle.std.specs.List.{range_with_len}
use Rattle.disk_base.specs.Disk.{FileView}
use Rattle.disk_base.specs.Shelves.{ShelfView}
use Rattle.volume_entry.specs.Manager.{AreFirstHomes}
use Rattle.volume_entry.specs.TableParts.{shape_of}
use Rattle.volume_world.specs.Run.{World}
use Rattle.volume_world.specs.Told.{MayRun}
use Rattle.volume_world.specs.Way.{WayView, longest_history}
use Rattle.volume_world.specs.Course.{Part, StepsBy}
use Rattle.volume_world.specs.World.{WorldOver}
use Rattle.volume_world.specs.Origins.{is_told, faults_of, origin_of, made_with}
use Rattle.volume_world.specs.Stepping.{IsSound, IsAt, NeedsNoMemory}
use Rattle.volume_world.specs.declared.event.Event.{Event}
use Rattle.volume_world.specs.declared.reply.Reply.{Reply}
use Rattle.volume_world.specs.declared.fault.StepFault.{StepFault}
use Rattle.volume_world.specs.declared.fault.StepFault.TheVariants.{HistoryFull, Memory}

module _ {H F : Type 0} (shelf_seen : H → ShelfView F) (seen : F → FileView) where
  -- the volume is in this state, and the history leads to it
  pub record IsLedTo (world : WorldOver H F) (w : World) : Type 0 where
    pub at : IsAt shelf_seen seen world w
    pub run : MayRun world.vid (shape_of world.shape) (made_with (shape_of world.shape).total world.first) world.history.entries w

  abbrev pub way_of : WorldOver H F → WayView
  way_of world = record {
    origin = origin_of shelf_seen seen world;
    entries = world.history.entries;
    own = range_with_len 0 (length world.history.entries);
    faults = faults_of shelf_seen seen world;
    is_alone = true;
    is_at = IsLedTo world;
  }

  -- What is true of every world: its volume was made with legal homes, and where its files tell, it is in some state to which the history leads.
  pub record IsWorld (world : WorldOver H F) : Type 0 where
    pub sound : IsSound shelf_seen seen world
    pub homes : AreFirstHomes (shape_of world.shape) world.first
    pub few : length world.history.entries ≤ 2 ^ 32
    pub somewhere : is_told shelf_seen seen world ≡ true → (w : World) × IsLedTo world w

-- the same but for the room in the history
pub record IsSameWorld {H F : Type 0} (old new : WorldOver H F) : Type 0 where
  pub rest : new ≡ record old { history = new.history }
  pub entries : new.history.entries ≡ old.history.entries

-- room for so many entries is made, with two settles before the last of them, unless the history can't have so many
abbrev pub Reserves : {H F : Type 0} → ℕ → WorldOver H F → WorldOver H F → Result (Unit {0}) StepFault → Type 0
Reserves count old new (Ok _) = (length old.history.entries + count ≤ longest_history) × (count + 2 ≤ new.history.spare)
Reserves count old new (Err HistoryFull) = longest_history < length old.history.entries + count
Reserves count old new (Err Memory) = length old.history.entries + count ≤ longest_history

-- where the history isn't full and has room, an event that needs no memory is done
abbrev pub IsSure : {H F : Type 0} → WorldOver H F → Event → Result Reply StepFault → Type 0
IsSure world event result = length world.history.entries < longest_history → 3 ≤ world.history.spare → NeedsNoMemory world event → IsOk result
