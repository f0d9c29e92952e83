-- What holds of the units of a disk does so after every list of moves, and along runs, ways and stretches.
use Rattle.std.proofs.Common.{◌≡◌, ℕ, true, List, [], ◌∷◌, sym, ap, subst}
use Rattle.code_mode.specs.VolumeShape.{VolumeShape, IsVolumeShape}
use Rattle.volume_world.specs.State.{State}
use Rattle.volume_world.specs.Move.{Move, MovesAll}
use Rattle.volume_world.specs.Run.{World, Step, Leads, IsLegalRun}
use Rattle.volume_world.specs.Told.{MayRun}
use Rattle.volume_world.specs.declared.trace.Trace.{Trace}
use Rattle.volume_world.specs.Way.{Origin, WayView, IsFirst, IsWay, shape_of}
use Rattle.volume_world.specs.Course.{Part, PartLeads, PartsLead}
use Rattle.volume_world.specs.OldDisks.{KeptApart}
use Rattle.volume_world.specs.Laws.{IsAsMade, DisksHoldOneUnit, DoubtsAreSingle}
use Rattle.volume_world.proofs.AllMoves.{move_kept}
use Rattle.volume_world.proofs.EntryMoves.{IsLasting, lasts, entry_lasts, run_lasts}
use Rattle.volume_world.proofs.LawProofs.{starts_kept}
use Rattle.volume_world.proofs.OldDisks.{old_disks_last}
use Rattle.volume_world.proofs.DoubtsShut.{doubts_shut_last}
use Rattle.volume_world.proofs.LoneUnits.{one_stands, one_doubts}

pub apart_lasts : (shape : VolumeShape) → IsVolumeShape shape → IsLasting shape (KeptApart shape)
apart_lasts shape good s move t moved h = record { kept = move_kept shape s move t good h.kept moved; old_disks = old_disks_last shape s move t h.kept moved h.old_disks; shut = doubts_shut_last shape s move t moved h.shut }

-- a volume as made
pub made_apart : (shape : VolumeShape) (s : State) → IsAsMade shape s → KeptApart shape s
made_apart shape s h = subst (KeptApart shape) (sym h.state) (record { kept = starts_kept shape h.homes h.is_made h.legal h.made; old_disks = record { free = λ w. cc; apart = λ w. cc }; shut = λ place doubtful. doubtful })

moves_apart : (shape : VolumeShape) (s t : State) (moves : List Move) → IsVolumeShape shape → IsAsMade shape s → MovesAll shape s moves t → KeptApart shape t
moves_apart shape s t moves good made h = lasts shape (KeptApart shape) (apart_lasts shape good) s moves t h (made_apart shape s made)

runs_apart : (shape : VolumeShape) (w v : World) (steps : List Step) → IsVolumeShape shape → IsAsMade shape w.state → IsLegalRun shape w steps v → KeptApart shape v.state
runs_apart shape w v steps good made h = run_lasts shape (KeptApart shape) (apart_lasts shape good) w steps v h (made_apart shape w.state made)

pub disks_hold_one_unit : DisksHoldOneUnit
disks_hold_one_unit = record {
  moves = λ shape s t moves good made h. one_stands shape t (moves_apart shape s t moves good made h);
  runs = λ shape w v steps good made h. one_stands shape v.state (runs_apart shape w v steps good made h);
}

pub doubts_are_single : DoubtsAreSingle
doubts_are_single = record {
  moves = λ shape s t moves good made h. one_doubts shape t (moves_apart shape s t moves good made h);
  runs = λ shape w v steps good made h. one_doubts shape v.state (runs_apart shape w v steps good made h);
}

-- ---- along ways and stretches

pub first_apart : (shape : VolumeShape) (start : World) → IsFirst shape start → KeptApart shape start.state
first_apart shape start first =
    made_apart shape start.state (record { homes = first.homes; is_made = first.is_made; legal = first.legal; made = first.made; state = ap (λ (x : World). x.state) first.state })

pub entry_apart : (shape : VolumeShape) (w : World) (step : Step) (v : World) → IsVolumeShape shape → Leads shape w step v → KeptApart shape w.state → KeptApart shape v.state
entry_apart shape w step v good leads h = entry_lasts shape (KeptApart shape) (apart_lasts shape good) w step v leads h

told_apart : (vid : ℕ) (shape : VolumeShape) (w : World) (traces : List Trace) (v : World) → IsVolumeShape shape → MayRun vid shape w traces v → KeptApart shape w.state → KeptApart shape v.state
told_apart vid shape w [] v good h p = subst (λ (x : World). KeptApart shape x.state) (sym h) p
told_apart vid shape w (trace ∷ traces) v good h p = told_apart vid shape h.0 traces v good h.2 (entry_apart shape w h.1.step h.0 good h.1.leads p)

pub way_apart : (way : WayView) (w : World) → IsVolumeShape (shape_of way.origin) → IsWay way → way.origin.is_told ≡ true → way.is_at w → KeptApart (shape_of way.origin) w.state
way_apart way w good its told at =
    told_apart way.origin.vid (shape_of way.origin) way.origin.start way.entries w good (its.led told w at) (first_apart (shape_of way.origin) way.origin.start its.first)

part_apart : (origin : Origin) (w : World) (part : Part) (v : World) → IsVolumeShape (shape_of origin) → PartLeads origin w part v → KeptApart (shape_of origin) w.state → KeptApart (shape_of origin) v.state
part_apart origin w (Part.Beside trace) v good h = entry_apart (shape_of origin) w h.step v good h.leads
part_apart origin w (Part.Settling trace) v good h = entry_apart (shape_of origin) w h.step v good h.leads
part_apart origin w (Part.Asking event reply) v good h = entry_apart (shape_of origin) w h.step v good h.leads

pub parts_apart : (origin : Origin) (w : World) (parts : List Part) (v : World) → IsVolumeShape (shape_of origin) → PartsLead origin w parts v → KeptApart (shape_of origin) w.state → KeptApart (shape_of origin) v.state
parts_apart origin w [] v good h p = subst (λ (x : World). KeptApart (shape_of origin) x.state) (sym h) p
parts_apart origin w (part ∷ parts) v good h p = parts_apart origin h.0 parts v good h.2 (part_apart origin w part h.0 good h.1 p)
