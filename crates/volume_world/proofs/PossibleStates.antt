-- In each state in which a volume may be, what is kept holds.
use Rattle.std.proofs.Common.{◌≡◌, [], false, true, refl, sym, subst}
use Rattle.code_mode.proofs.Numbers.{sound_shapes}
use Rattle.volume_world.specs.Run.{World}
use Rattle.volume_world.specs.Invariant.{Kept}
use Rattle.volume_world.specs.Told.{MayRun}
use Rattle.volume_world.specs.Way.{Origin, WayView, shape_of}
use Rattle.volume_world.specs.Possible.{IsPossible}
use Rattle.volume_world.proofs.Telling.{way_kept}

pub possible_kept : (origin : Origin) (w : World) → IsPossible origin w → Kept (shape_of origin) w.state
possible_kept origin w h =
    let way : WayView = record { origin = record origin { is_told = true }; entries = h.entries; own = []; faults = 0; is_alone = false; is_at = λ x. x ≡ w } in
    way_kept way w (sound_shapes origin.mode origin.disks) (record {
      first = h.first;
      somewhere = λ told. (w, refl);
      led = λ told x at. subst (MayRun origin.vid (shape_of origin) origin.start h.entries) (sym at) h.led;
      own = record { below = λ n i. absurd i };
      alone = λ e. cc;
    }) refl refl
