-- Worked examples of causes.
use Rattle.std.specs.Prelude.{ℕ, nat_lt, List, [], ◌∷◌, Err}
use Rattle.unit_id.specs.Lists.{is_in}
use Rattle.volume_entry.specs.ShownView.{view_shown}
use Rattle.volume_entry.specs.declared.view.View.{View}
use Rattle.code_mode.specs.declared.mode.Mode.TheVariants as modes
use Rattle.volume_world.specs.State.{State}
use Rattle.volume_world.specs.Examples.{small, nine_units}
use Rattle.volume_world.specs.Run.{World}
use Rattle.volume_world.specs.Way.{shape_of}
use Rattle.volume_world.specs.Possible.{IsPossible}
use Rattle.volume_world.specs.Course.{Part, PartsLead}
use Rattle.volume_world.specs.declared.event.Event.TheVariants as events
use Rattle.volume_world.specs.declared.reply.Reply.TheVariants as replies
use Rattle.blob_access.specs.declared.fault.GetFault.TheVariants as faults
use Rattle.blob_access.specs.GetCall.{GetsBy}
use Rattle.blob_access.specs.Causes.{AreFewBroken}
use Rattle.blob_access.specs.StandIn.{stand_origin}

-- nine units on disks 1 to 9, where the disks below this one are broken
abbrev pub broken_below : ℕ → State
broken_below disk = record nine_units { broken = λ other. nat_lt other disk }

-- of nine units with a quorum of eight, six of which give a blob, two may be on broken disks, and three may not; a disk without a unit counts for nothing
pub record TwoOfNineMayBreak : Type 0 where
  pub two : AreFewBroken small (broken_below 3)
  pub three : AreFewBroken small (broken_below 4) → ⊥
  pub spare : AreFewBroken small (record nine_units { broken = λ other. nat_lt 9 other })

-- six units, the disks of which all broke
abbrev pub all_broken : World
all_broken = record (stand_origin.start) { state = record (stand_origin.start.state) { broken = λ disk. is_in disk (1 ∷ 2 ∷ 3 ∷ 4 ∷ 5 ∷ 6 ∷ []) } }

abbrev pub broken_view : View
broken_view = view_shown 1 all_broken.state.broken 0 all_broken.state.manager

-- two looks, and nothing to read between them
abbrev pub two_looks : List Part
two_looks = Part.Asking events.Look (replies.Seen broken_view) ∷ Part.Asking events.Look (replies.Seen broken_view) ∷ []

-- a get is short over them, and its cause is that too many units are broken
pub record NothingIsRead : Type 0 where
  pub possible : IsPossible stand_origin all_broken
  pub short : GetsBy (record { mode = modes.Ec3P3; bid = 1; size = 5 }) two_looks (Err (faults.Short 0 0 6))
  pub leads : PartsLead stand_origin all_broken two_looks all_broken
  pub cause : AreFewBroken (shape_of stand_origin) all_broken.state → ⊥
