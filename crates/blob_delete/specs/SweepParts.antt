-- The parts of a sweep: what each has asked, and what it makes of the sweep.
use Rattle.std.specs.Prelude.{ℕ, ◌≤◌, List, [], ◌∷◌, length, Result, Ok, Err}
use Rattle.unit_id.specs.declared.homes.Home.{Home}
use Rattle.volume_world.specs.declared.fault.StepFault.{StepFault}
use Rattle.volume_world.specs.declared.fault.StepFault.TheVariants as step_faults
use Rattle.volume_world.specs.Way.{Origin, WayView, longest_history}
use Rattle.volume_world.specs.Asking.{IsUnitOn}
use Rattle.volume_world.specs.Call.{Next}
use Rattle.volume_world.specs.Progress.{Proceeds}
use Rattle.blob_delete.specs.declared.sweeping.Swept.TheVariants as swept
use Rattle.blob_delete.specs.declared.sweeping.Decided.{Decided}
use Rattle.blob_delete.specs.declared.sweeping.Decided.TheVariants as decided
use Rattle.blob_delete.specs.declared.fault.DeleteFault.{DeleteFault}
use Rattle.blob_delete.specs.declared.fault.DeleteFault.TheVariants as faults
use Rattle.blob_delete.specs.SweepCall.{SweepNext, freeing, sweep_call}

-- a step that isn't done breaks the sweep off
abbrev pub broken_off : StepFault → DeleteFault
broken_off step_faults.HistoryFull = faults.HistoryFull
broken_off step_faults.Memory = faults.Memory

-- what an answer of a part makes of the sweep: it goes on, or is over
abbrev pub told : {T : Type 0} → Result T DeleteFault → (T → SweepNext) → SweepNext
told (Ok given) then = then given
told (Err fault) then = Next.Over (Err fault)

-- over a way, a sweep comes from one point to another
abbrev pub Proceeding : ℕ → WayView → WayView → SweepNext → SweepNext → Type 0
Proceeding bid old new from to = Proceeds (sweep_call bid) old new from to

-- a sweep that broke off there has no such answer
abbrev pub IsOpen : SweepNext → Type 0
IsOpen (Next.Over (Ok given)) = ⊥
IsOpen next = Unit {0}

-- the sweep has come somewhere, and not to its end
pub record ComesBy (bid : ℕ) (old new : WayView) (from : SweepNext) : Type 0 where
  pub to : SweepNext
  pub still : IsOpen to
  pub proceeds : Proceeding bid old new from to

-- .. and there the history takes no more entries
pub record IsCutOff (bid : ℕ) (old new : WayView) (from : SweepNext) : Type 0 where
  pub come : ComesBy bid old new from
  pub full : longest_history ≤ length new.entries

-- a part of a sweep, from this point on: it goes on as its answer says, or breaks off
abbrev pub SweepsOn : {T : Type 0} → ℕ → WayView → WayView → SweepNext → Result T DeleteFault → (T → SweepNext) → Type 0
SweepsOn bid old new from (Err faults.HistoryFull) then = IsCutOff bid old new from
SweepsOn bid old new from (Err faults.Memory) then = ComesBy bid old new from
SweepsOn bid old new from result then = Proceeding bid old new from (told result then)

-- what is left once the manager has decided on the commit: the marked units to free, or nothing
abbrev pub decided_on : ℕ → List Home → Decided → SweepNext
decided_on total marked decided.Committed = freeing total 0 marked
decided_on total marked (decided.Waits marks) = Next.Over (Ok (swept.Waits marks))

-- units of the volume, each on one of its disks
abbrev pub AreUnits : Origin → List Home → Type 0
AreUnits origin [] = Unit {0}
AreUnits origin (home ∷ homes) = IsUnitOn origin home.unit home.disk × AreUnits origin homes
