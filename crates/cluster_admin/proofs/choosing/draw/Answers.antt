use Rattle.std.proofs.Common.{arith, ◌+◌, ◌∙◌, ap, subst, ◌++◌, ◌∷◌, [], ◌≡◌, ◌<◌, length}
use Rattle.std.proofs.lemmas.List.{length_push}
use Rattle.cluster_admin.specs.Placing.{Plan, IsAfter}
use Rattle.cluster_admin.specs.Drawing.{choice, shown_after}
use Rattle.cluster_admin.specs.Choosing.{options_of}
use Rattle.cluster_admin.specs.NewHomes.{IsOffered}
use Rattle.cluster_admin.proofs.Draws.{draw_more}
use Rattle.cluster_admin.proofs.NewHomes.{draw_apart}
use Rattle.cluster_admin.proofs.choosing.draw.Goals as goal

pub loop-index-preserved : goal.loop-index-preserved
loop-index-preserved g c =
    let old : Plan = (goal.Placer-dyn g (c.args.placer.now.vtable, c.args.placer.now.value)).plan c.args.placer.now.value in
    let middle : Plan = (goal.Placer-dyn g (c.loop-index.placer.vtable, c.loop-index.placer.value)).plan c.loop-index.placer.value in
    let new : Plan = (goal.Placer-dyn g (c.choose-disk.new.placer.vtable, c.choose-disk.new.placer.value)).plan c.choose-disk.new.placer.value in
    let disks = c.args.disks.now in
    let volumes = c.args.volumes.now in
    let homes = c.loop-index.homes in
    let index = c.loop-index._index in
    let after = c.push.new.self in
    let disk = c.choose-disk.result in
    let held = c.loop-index.invariant in
    let is : c.as_slice-in-loop-index.result.now ≡ options_of disks volumes homes [] 0 = cc in
    let after_is : after ≡ homes ++ choice middle [] (options_of disks volumes homes [] 0) ∷ [] =
    c.push.ensures ∙ ap (λ d. homes ++ d ∷ []) (c.choose-disk.ensures.disk ∙ ap (choice middle []) is) in
    let moved = subst (λ options. IsAfter middle (shown_after [] options) new) is c.choose-disk.ensures.moved in
    let offered = subst (λ options. 0 < length options → IsOffered options disk) is c.choose-disk.ensures.offered in
    let drawn_is = draw_more old middle new disks volumes index homes after held.0 held.1 after_is moved in
    let length_is : length after ≡ index + 1 = omega (arith, ap length c.push.ensures, length_push homes disk, held.2) in
    (drawn_is.0, drawn_is.1, length_is, draw_apart disks volumes homes after index c.args.count disk held.3 held.2 c.loop-index-test.true c.push.ensures offered)
