use Rattle.std.proofs.Common.{◌≡◌, [], List, None, Ok, Err, Vec, Global, refl, sym, ◌∙◌, ap, subst, rules}
use Rattle.unit_id.specs.declared.homes.Home.{Home}
use Rattle.volume_world.specs.Way.{Origin}
use Rattle.volume_world.specs.Progress.{Proceeds}
use Rattle.volume_world.proofs.Comings.{proceeds_on}
use Rattle.migrate_task.specs.declared.work.Journey.{Journey}
use Rattle.migrate_task.specs.declared.listing.Listing.{Listing}
use Rattle.migrate_task.specs.Work.{unbroken, errands}
use Rattle.migrate_task.specs.Copies.{next_errand}
use Rattle.migrate_task.specs.AdvanceCall.{task_call, listing_dests, listing_units, copying}
use Rattle.migrate_task.specs.TaskParts.{AreJourneys, AreUnits, GoesOn, work_of}
use Rattle.migrate_task.proofs.CutLemmas.{end_done, dests_open}
use Rattle.migrate_task.proofs.TaskLemmas.{fails_on, breaks_off, part_on, goes_told}
use Rattle.migrate_task.proofs.WorkLemmas.{unbroken_are}
use Rattle.migrate_task.proofs.course.hear.Goals as goal

pub list_dests-requires : goal.list_dests-requires
list_dests-requires g c = subst (AreJourneys (g.P.Port.seen c.args.port.now).origin) (sym c.as_slice.ensures.value) c.requires.journeys

pub list_units-requires : goal.list_units-requires
list_units-requires g c =
    let is : c.as_slice-3.result.now ≡ unbroken c.args.work.now.homes.items = c.as_slice-3.ensures.value ∙ c.in_ok-homes.ensures ∙ ap unbroken c.as_slice-2.ensures.value in
    subst (λ (o : Origin). AreUnits o c.as_slice-3.result.now) (sym c.in_ok-dests.ensures.origin)
    (subst (AreUnits (g.P.Port.seen c.args.port.now).origin) (sym is) (unbroken_are _ 0 c.args.work.now.homes.items c.requires.homes.each))

pub returns-in_err-dests-clause-goes : goal.returns-in_err-dests-clause-goes
returns-in_err-dests-clause-goes g c = λ mode task.
    let w = work_of c.args.work.now in
    fails_on (task_call mode task) _ _ (listing_dests w [] w.journeys) c.in_err-dests.field-0.0 c.from_residual.result (λ (dests : Vec Listing Global). listing_dests w dests.items [])
    (λ heard. copying w (next_errand w None (errands w heard.dests.items heard.units.items))) (search rules)
    (subst (λ (js : List Journey). GoesOn (task_call mode task) (g.P.Port.seen c.args.port.now) (g.P.Port.seen c.list_dests.new.port) (listing_dests w [] js) (Err c.in_err-dests.field-0.0) (λ (dests : Vec Listing Global). listing_dests w dests.items []))
    c.as_slice.ensures.value (c.in_err-dests.ensures.goes mode task w refl))

pub returns-in_err-homes-clause-goes : goal.returns-in_err-homes-clause-goes
unfolding listing_dests
returns-in_err-homes-clause-goes g c = λ mode task.
    let w = work_of c.args.work.now in
    let dests = c.in_ok-dests.dests.items in
    let first : Proceeds (task_call mode task) (g.P.Port.seen c.args.port.now) (g.P.Port.seen c.list_dests.new.port) (listing_dests w [] w.journeys) (listing_dests w dests []) =
    subst (λ (js : List Journey). Proceeds (task_call mode task) (g.P.Port.seen c.args.port.now) (g.P.Port.seen c.list_dests.new.port) (listing_dests w [] js) (listing_dests w dests [])) c.as_slice.ensures.value
    (c.in_ok-dests.ensures.goes mode task w refl) in
    breaks_off (task_call mode task) _ _ (listing_dests w [] w.journeys) (listing_dests w dests []) c.from_residual-in_err-homes.result
    (λ heard. copying w (next_errand w None (errands w heard.dests.items heard.units.items))) (search rules) (end_done (listing_dests w dests []) (dests_open w dests [])) first

pub returns-in_err-units-clause-goes : goal.returns-in_err-units-clause-goes
unfolding listing_dests
returns-in_err-units-clause-goes g c = λ mode task.
    let w = work_of c.args.work.now in
    let dests = c.in_ok-dests.dests.items in
    let b = g.P.Port.seen c.list_dests.new.port in
    let d = g.P.Port.seen c.list_units.new.port in
    let first : Proceeds (task_call mode task) (g.P.Port.seen c.args.port.now) b (listing_dests w [] w.journeys) (listing_dests w dests []) =
    subst (λ (js : List Journey). Proceeds (task_call mode task) (g.P.Port.seen c.args.port.now) (g.P.Port.seen c.list_dests.new.port) (listing_dests w [] js) (listing_dests w dests [])) c.as_slice.ensures.value
    (c.in_ok-dests.ensures.goes mode task w refl) in
    let is : c.as_slice-3.result.now ≡ unbroken c.args.work.now.homes.items = c.as_slice-3.ensures.value ∙ c.in_ok-homes.ensures ∙ ap unbroken c.as_slice-2.ensures.value in
    fails_on (task_call mode task) _ _ (listing_dests w [] w.journeys) c.in_err-units.field-0.0 c.from_residual-in_err-units.result (λ (units : Vec Listing Global). listing_units w dests units.items [])
    (λ heard. copying w (next_errand w None (errands w heard.dests.items heard.units.items))) (search rules)
    (part_on (task_call mode task) _ b d (listing_dests w [] w.journeys) (listing_units w dests [] (unbroken w.homes)) (Err c.in_err-units.field-0.0) (λ (units : Vec Listing Global). listing_units w dests units.items [])
    first
    (subst (λ (homes : List Home). GoesOn (task_call mode task) b d (listing_units w dests [] homes) (Err c.in_err-units.field-0.0) (λ (units : Vec Listing Global). listing_units w dests units.items [])) is
    (c.in_err-units.ensures.goes mode task w dests refl)))

pub returns-in_err-see-clause-goes : goal.returns-in_err-see-clause-goes
unfolding listing_dests
returns-in_err-see-clause-goes g c = λ mode task.
    let w = work_of c.args.work.now in
    let dests = c.in_ok-dests.dests.items in
    let units = c.in_ok-units.units.items in
    let call = task_call mode task in
    let a = g.P.Port.seen c.args.port.now in
    let b = g.P.Port.seen c.list_dests.new.port in
    let d = g.P.Port.seen c.list_units.new.port in
    let first : Proceeds call a b (listing_dests w [] w.journeys) (listing_dests w dests []) =
    subst (λ (js : List Journey). Proceeds (task_call mode task) (g.P.Port.seen c.args.port.now) (g.P.Port.seen c.list_dests.new.port) (listing_dests w [] js) (listing_dests w dests [])) c.as_slice.ensures.value
    (c.in_ok-dests.ensures.goes mode task w refl) in
    let is : c.as_slice-3.result.now ≡ unbroken c.args.work.now.homes.items = c.as_slice-3.ensures.value ∙ c.in_ok-homes.ensures ∙ ap unbroken c.as_slice-2.ensures.value in
    let second : Proceeds call b d (listing_units w dests [] (unbroken w.homes)) (listing_units w dests units []) =
    subst (λ (homes : List Home). Proceeds (task_call mode task) (g.P.Port.seen c.list_dests.new.port) (g.P.Port.seen c.list_units.new.port) (listing_units w dests [] homes) (listing_units w dests units [])) is
    (c.in_ok-units.ensures.goes mode task w dests refl) in
    let before = proceeds_on call a b d (listing_dests w [] w.journeys) (listing_units w dests [] (unbroken w.homes)) (listing_units w dests units []) first second in
    fails_on {T = Unit {0}} call _ _ (listing_dests w [] w.journeys) c.in_err-see.field-0.0 c.from_residual-in_err-see.result (λ _. copying w (next_errand w None (errands w dests c.as_slice-4.result.now)))
    (λ heard. copying w (next_errand w None (errands w heard.dests.items heard.units.items))) (search rules)
    (goes_told {T = Unit {0}} call _ _ (listing_dests w [] w.journeys) (listing_units w dests units []) (Err c.in_err-see.field-0.0) (λ _. copying w (next_errand w None (errands w dests c.as_slice-4.result.now)))
    (c.in_err-see.ensures dests ∙ ap (λ (us : List Listing). listing_units w dests us []) c.as_slice-4.ensures.value) before)

pub returns-clause-goes : goal.returns-clause-goes
unfolding listing_dests
returns-clause-goes g c = λ mode task.
    let w = work_of c.args.work.now in
    let dests = c.in_ok-dests.dests.items in
    let units = c.in_ok-units.units.items in
    let call = task_call mode task in
    let a = g.P.Port.seen c.args.port.now in
    let b = g.P.Port.seen c.list_dests.new.port in
    let d = g.P.Port.seen c.list_units.new.port in
    let first : Proceeds call a b (listing_dests w [] w.journeys) (listing_dests w dests []) =
    subst (λ (js : List Journey). Proceeds (task_call mode task) (g.P.Port.seen c.args.port.now) (g.P.Port.seen c.list_dests.new.port) (listing_dests w [] js) (listing_dests w dests [])) c.as_slice.ensures.value
    (c.in_ok-dests.ensures.goes mode task w refl) in
    let is : c.as_slice-3.result.now ≡ unbroken c.args.work.now.homes.items = c.as_slice-3.ensures.value ∙ c.in_ok-homes.ensures ∙ ap unbroken c.as_slice-2.ensures.value in
    let second : Proceeds call b d (listing_units w dests [] (unbroken w.homes)) (listing_units w dests units []) =
    subst (λ (homes : List Home). Proceeds (task_call mode task) (g.P.Port.seen c.list_dests.new.port) (g.P.Port.seen c.list_units.new.port) (listing_units w dests [] homes) (listing_units w dests units [])) is
    (c.in_ok-units.ensures.goes mode task w dests refl) in
    let before = proceeds_on call a b d (listing_dests w [] w.journeys) (listing_units w dests [] (unbroken w.homes)) (listing_units w dests units []) first second in
    subst (λ (us : List Listing). Proceeds call a d (listing_dests w [] w.journeys) (copying w (next_errand w None (errands w dests us)))) c.as_slice-4.ensures.value
    (goes_told {T = Unit {0}} call _ _ (listing_dests w [] w.journeys) (listing_units w dests units []) (Ok c.in_ok-see.field-0) (λ _. copying w (next_errand w None (errands w dests c.as_slice-4.result.now)))
    (c.in_ok-see.ensures dests ∙ ap (λ (us : List Listing). listing_units w dests us []) c.as_slice-4.ensures.value) before)
