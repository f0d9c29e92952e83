use Rattle.std.proofs.Common.{◌<◌, ◌+◌, [], Option, sym, ◌∙◌, subst, rules}
use Rattle.volume_world.specs.Call.{Next}
use Rattle.volume_world.specs.Progress.{Proceeds}
use Rattle.migrate_task.specs.declared.usable.KnownSize.{KnownSize}
use Rattle.migrate_task.specs.Copies.{CopyStage}
use Rattle.migrate_task.specs.AdvanceCall.{TaskStage, TaskNext, task_call, copying}
use Rattle.migrate_task.specs.TaskParts.{work_of, other_heard}
use Rattle.migrate_task.specs.GatherParts.{known_after, visited, IsVisited, IsRightBy}
use Rattle.migrate_task.proofs.TaskLemmas.{fails_on}
use Rattle.migrate_task.proofs.GatherLemmas.{can_gather, visited_goes, visited_heard, visited_right, shards_later, some_task}
use Rattle.migrate_task.proofs.rebuilding.visit.Goals as goal

pub read_other-requires-clause-gathers : goal.read_other-requires-clause-gathers
read_other-requires-clause-gathers g c = can_gather c.args.work.now.mode c.args.known.now c.args.errand.now.bid c.args.home.now.unit.index c.args.gathered.now c.requires.within c.requires.heard

pub returns-in_err-found-clause-goes : goal.returns-in_err-found-clause-goes
returns-in_err-found-clause-goes g c = λ mode task left homes.
    let w = work_of c.args.work.now in
    let e = c.args.errand.now in
    let new = c.read_other.new.gathered in
    fails_on (task_call mode task) _ _ (Next.Go (TaskStage.Copying w (CopyStage.ReadingOther c.args.known.now e left c.args.gathered.now c.args.home.now homes))) c.in_err-found.field-0.0 c.from_residual.result
    (λ found. copying w (other_heard w c.args.known.now e left new homes found)) (visited w c.args.known.now e left new homes) (search rules) (c.in_err-found.ensures.goes mode task left homes)

pub returns-clause-goes : goal.returns-clause-goes
returns-clause-goes g c = λ mode task left homes.
    let a = g.P.Port.seen c.args.port.now in
    let b = g.P.Port.seen c.read_other.new.port in
    let w = work_of c.args.work.now in
    let e = c.args.errand.now in
    let new = c.read_other.new.gathered in
    let from = Next.Go (TaskStage.Copying w (CopyStage.ReadingOther c.args.known.now e left c.args.gathered.now c.args.home.now homes)) in
    subst (λ (next : TaskNext). Proceeds (task_call mode task) a b from next)
    (visited_goes w c.args.known.now e left new homes c.in_ok-found.found ∙ (λ i. visited w (sym c.settle.ensures.known i) e left new homes (sym c.settle.ensures.enough i))) (c.in_ok-found.ensures.goes mode task left homes)

pub returns-clause-heard : goal.returns-clause-heard
returns-clause-heard g c =
    let b = g.P.Port.seen c.read_other.new.port in
    let mode = c.args.work.now.mode in
    let bid = c.args.errand.now.bid in
    let index = c.args.home.now.unit.index in
    let new = c.read_other.new.gathered in
    let found = c.in_ok-found.found in
    subst (λ (known : Option KnownSize). IsVisited mode known bid (index + 1) new c.settle.result) (sym c.settle.ensures.known)
    (subst (IsVisited mode (known_after bid found c.args.known.now) bid (index + 1) new) (sym c.settle.ensures.enough)
    (visited_heard b mode c.args.known.now bid index c.args.gathered.now new found c.requires.heard c.requires.within c.in_ok-found.ensures.adds))

pub returns-clause-right : goal.returns-clause-right
returns-clause-right g c =
    let a = g.P.Port.seen c.args.port.now in
    let b = g.P.Port.seen c.read_other.new.port in
    let mode = c.args.work.now.mode in
    let bid = c.args.errand.now.bid in
    let index = c.args.home.now.unit.index in
    let old = c.args.gathered.now in
    let new = c.read_other.new.gathered in
    let found = c.in_ok-found.found in
    let step = c.in_ok-found.ensures.goes mode some_task [] [] in
    subst (IsRightBy b bid new.shards) (sym c.settle.ensures.enough)
    (visited_right b mode c.args.known.now bid index old new found (subst (λ n. index < n) (sym c.requires.heard.total) c.requires.within) (shards_later a b step.parts bid old.shards step.goes c.requires.right) c.in_ok-found.ensures.adds)
