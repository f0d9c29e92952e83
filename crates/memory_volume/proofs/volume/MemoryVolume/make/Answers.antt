use Rattle.std.proofs.Common.{◌≡◌, ◌≤◌, ◌∙◌, ap, sym, subst, List, length, arith}
use Rattle.unit_id.specs.declared.homes.Home.{Home}
use Rattle.blob_access.specs.Coding.{coder_shape}
use Rattle.code_mode.specs.Mode.{total_count}
use Rattle.code_mode.specs.VolumeShape.{volume_shape}
use Rattle.volume_entry.specs.Manager.{AreFirstHomes}
use Rattle.volume_entry.specs.declared.shape.Shape.{Shape}
use Rattle.volume_world.specs.WorldMaking.{AreHomesOf, locations}
use Rattle.memory_volume.specs.Setting.{first_homes}
use Rattle.memory_volume.proofs.FirstUnits.{homes_fit, homes_own}
use Rattle.memory_volume.proofs.NewStations.{are_stations}
use Rattle.memory_volume.proofs.Ties.{untold_made}
use Rattle.memory_volume.proofs.volume.MemoryVolume.make.Goals as goal

pub make-requires : goal.make-requires
make-requires c =
    let items = c.in_ok-stations.stations.items in
    let first = c.args.setup.first_epoch in
    let can = c.in_ok-check.ensures in
    let count : length items ≡ c.args.disks = c.in_ok-stations.ensures.length_is in
    let enough : total_count c.args.mode ≤ length items = (let e = can.disks_are.enough in omega (arith, count, e)) in
    let homes : c.as_slice.result.now ≡ first_homes first (total_count c.args.mode) =
    c.as_slice.ensures ∙ c.homes-homes.ensures ∙ ap (first_homes first) c.total.ensures.value in
    record {
      are = are_stations c.args.disks items c.in_ok-stations.ensures can.disks_are.most;
      few = let most = can.disks_are.most in omega (arith, count, most);
      new = c.in_ok-stations.ensures.new;
      is_new = c.log_file-file.ensures.new;
      first = subst (λ (hs : List Home). AreFirstHomes (volume_shape c.args.mode (length items)) (locations hs)) (sym homes)
          (homes_fit (volume_shape c.args.mode (length items)) first enough can.epoch.first can.epoch.last);
      own = subst (λ (hs : List Home). AreHomesOf 1 0 hs) (sym homes) (homes_own first (total_count c.args.mode));
    }

pub invariant_of-result : goal.invariant_of-result
invariant_of-result c =
    let made = c.in-Ok.ensures in
    record {
      number = made.vid_is;
      disks_are = sym c.in_ok-stations.ensures.length_is ∙ sym (ap (λ (s : Shape). s.disks) made.shape);
      coder_is = c.in_ok-coder.ensures ∙ sym (ap (λ (s : Shape). coder_shape s.mode) made.shape);
      untold = λ untold. untold_made c.in-Ok.world (made.log.tells ∙ c.log_file-file.ensures.told untold);
    }
