-- What an event does to a world, by the entry of the history that it adds.
use Rattle.std.specs.Prelude.{◌≡◌, length, Result, Ok, Err}
use Rattle.disk_base.specs.Disk.{FileView}
use Rattle.disk_base.specs.Shelves.{ShelfView}
use Rattle.volume_entry.specs.TableParts.{shape_of}
use Rattle.volume_world.specs.Run.{World}
use Rattle.volume_world.specs.Trace.{trace_of}
use Rattle.volume_world.specs.Told.{MayBe}
use Rattle.volume_world.specs.World.{WorldOver, Stands}
use Rattle.volume_world.specs.declared.event.Event.{Event}
use Rattle.volume_world.specs.declared.reply.Reply.{Reply}
use Rattle.volume_world.specs.declared.fault.StepFault.{StepFault}
use Rattle.volume_world.specs.declared.fault.StepFault.TheVariants.{HistoryFull, Memory}
use Rattle.volume_world.specs.declared.trace.Trace.{Trace}

-- The manager's part is that of this volume, and each of the volume's disks has its plan.
pub record IsOneVolume {H F : Type 0} (world : WorldOver H F) : Type 0 where
  pub vid : world.entry.book.vid ≡ world.vid
  pub shape : world.entry.book.shape ≡ world.shape
  pub planned : length world.planned ≡ world.shape.disks

module _ {H F : Type 0} (shelf_seen : H → ShelfView F) (seen : F → FileView) where
  -- From this state an entry of the history leads to one for which the world stands then.
  pub record LeadsOn (old : WorldOver H F) (w : World) (trace : Trace) (new : WorldOver H F) : Type 0 where
    pub then_ : World
    pub may_be : MayBe old.vid (shape_of old.shape) w trace then_
    pub stands : Stands shelf_seen seen new then_

  -- What an event gives: the entry with its reply leads on, and for want of memory the world stands for what it did.
  abbrev pub Gives : WorldOver H F → World → Event → WorldOver H F → Result Reply StepFault → Type 0
  Gives old w event new (Ok reply) = LeadsOn old w (trace_of event reply) new
  Gives old w event new (Err Memory) = Stands shelf_seen seen new w
  Gives old w event new (Err HistoryFull) = ⊥
