-- States in which no log is shut.
use Rattle.std.specs.Prelude.{ℕ, ◌≡◌, false}
use Rattle.unit_id.specs.Place.{Place}
use Rattle.code_mode.specs.VolumeShape.{VolumeShape}
use Rattle.volume_world.specs.Run.{World}
use Rattle.volume_world.specs.Told.{MayBe}
use Rattle.volume_world.specs.Course.{IsSettle}
use Rattle.volume_world.specs.declared.trace.Trace.{Trace}

-- neither the manager's log is shut, nor that of a unit
pub record IsOpen (w : World) : Type 0 where
  pub manager : w.state.manager.is_shut ≡ false
  pub units : (place : Place) → w.state.units.is_shut place ≡ false

-- where no log is shut, no entry says that one was started
abbrev pub NothingSettles : Type 0
NothingSettles = (vid : ℕ) (shape : VolumeShape) (w v : World) (trace : Trace) → IsOpen w → IsSettle trace.event trace.reply → MayBe vid shape w trace v → ⊥
