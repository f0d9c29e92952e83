use Rattle.std.proofs.Common.{◌≡◌, ◌≤◌, ◌+◌, None, length, subst}
use Rattle.code_mode.specs.Mode.{total_count}
use Rattle.cluster_admin.specs.Disks.{free_count}
use Rattle.cluster_admin.specs.Placing.{Plan}
use Rattle.cluster_admin.specs.Drawing.{drawn, new_homes}
use Rattle.cluster_admin.specs.Inside.{state_of}
use Rattle.cluster_admin.specs.NewHomes.{AreApart}
use Rattle.cluster_admin.specs.Refusals.{new_volume_fault}
use Rattle.cluster_admin.proofs.NewHomes.{are_new}
use Rattle.cluster_admin.proofs.admin.Admin.new_volume.Goals as goal

pub returns-clause-legal : goal.returns-clause-legal
returns-clause-legal g c =
    let admin = c.args.self.now in
    let mode = c.args.mode in
    let vid = length c.as_slice-3.result.now + 1 in
    let plan : Plan = (goal.Placer-dyn g (admin.in_use.vtable, admin.in_use.value)).plan admin.in_use.value in
    let disks = c.draw-homes.result in
    let units = c.new_homes-units.result in
    let drawn_is : disks ≡ (drawn plan admin.disks admin.volumes (total_count mode)).homes = cc in
    let units_are : units ≡ new_homes vid 0 disks = cc in
    let allowed : new_volume_fault (state_of admin) mode ≡ None = cc in
    let apart : total_count mode ≤ free_count admin.disks → AreApart (length admin.disks) disks =
    subst (λ count. count ≤ free_count admin.disks → AreApart (length admin.disks) disks) c.total.ensures.value
    (subst (λ ds. c.total.result ≤ free_count ds → AreApart (length ds) disks) c.as_slice.ensures.items c.draw-homes.ensures.apart) in
    are_new plan (state_of admin) mode vid units disks drawn_is units_are allowed apart
