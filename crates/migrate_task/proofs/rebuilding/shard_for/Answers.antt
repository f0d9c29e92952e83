use Rattle.std.proofs.Common.{Bool, cond, Err, sym, subst, rules}
use Rattle.volume_world.specs.Progress.{Proceeds}
use Rattle.migrate_task.specs.declared.old_shard.OldShard.{OldShard}
use Rattle.migrate_task.specs.declared.old_shard.Row.{Row}
use Rattle.migrate_task.specs.Copies.{CopyStage, CopyNext, nothing_gathered, one_unheard, others_than, reading, copy_begins}
use Rattle.migrate_task.specs.AdvanceCall.{task_call, copying}
use Rattle.migrate_task.specs.TaskParts.{GoesOn, old_heard, work_of}
use Rattle.migrate_task.specs.GatherParts.{IsOldRight, IsRowFor, writing}
use Rattle.migrate_task.proofs.TaskLemmas.{fails_on, part_on}
use Rattle.migrate_task.proofs.rebuilding.shard_for.Goals as goal

pub returns-then-errand-clause-goes : goal.returns-then-errand-clause-goes
returns-then-errand-clause-goes g c = λ mode task left.
    let w = work_of c.args.work.now in
    let e = c.args.errand.now in
    let rest = reading c.args.known e left (nothing_gathered w.mode) (others_than e.journey.index w.homes) in
    let old = CopyNext.Asks (CopyStage.ReadingOld c.args.known e left) in
    subst (λ (test : Bool). GoesOn {T = Row} (task_call mode task) (g.P.Port.seen c.args.port.now) (g.P.Port.seen c.gather.new.port) (copying w (cond test rest old)) c.gather.result (writing w e left)) (sym c.if-errand.true)
    (c.gather.ensures.goes mode task left)

pub returns-in_err-old-clause-goes : goal.returns-in_err-old-clause-goes
returns-in_err-old-clause-goes g c = λ mode task left.
    let w = work_of c.args.work.now in
    let e = c.args.errand.now in
    let rest = reading c.args.known e left (nothing_gathered w.mode) (others_than e.journey.index w.homes) in
    let old = CopyNext.Asks (CopyStage.ReadingOld c.args.known e left) in
    let halt = c.in_err-old.field-0.0 in
    let then = λ (found : OldShard). copying w (old_heard w c.args.known e left found) in
    fails_on {T = OldShard} {U = Row} (task_call mode task) _ _ (copying w (copy_begins w c.args.known e left)) halt c.from_residual.result then (writing w e left) (search rules)
    (subst (λ (test : Bool). GoesOn {T = OldShard} (task_call mode task) (g.P.Port.seen c.args.port.now) (g.P.Port.seen c.read_old.new.port) (copying w (cond test rest old)) (Err halt) then) (sym c.if-errand.false)
    (c.in_err-old.ensures.goes mode task left))

pub returns-in-Usable-clause-goes : goal.returns-in-Usable-clause-goes
returns-in-Usable-clause-goes g c = λ mode task left.
    let w = work_of c.args.work.now in
    let e = c.args.errand.now in
    let a = g.P.Port.seen c.args.port.now in
    let b = g.P.Port.seen c.read_old.new.port in
    let rest = reading c.args.known e left (nothing_gathered w.mode) (others_than e.journey.index w.homes) in
    let old = CopyNext.Asks (CopyStage.ReadingOld c.args.known e left) in
    subst (λ (found : OldShard). Proceeds (task_call mode task) a b (copying w (copy_begins w c.args.known e left)) (copying w (old_heard w c.args.known e left found))) c.in-Usable.is
    (subst (λ (test : Bool). Proceeds (task_call mode task) a b (copying w (cond test rest old)) (copying w (old_heard w c.args.known e left c.in_ok-old.old))) (sym c.if-errand.false) (c.in_ok-old.ensures.goes mode task left))

pub returns-in-Usable-clause-right : goal.returns-in-Usable-clause-right
returns-in-Usable-clause-right g c =
    let b = g.P.Port.seen c.read_old.new.port in
    let e = c.args.errand.now in
    subst (λ i. IsRowFor b c.args.work.now.mode e.bid i c.in-Usable.row) c.requires.errand.journey.old_index (subst (IsOldRight b c.args.work.now.mode e.bid e.journey.old.unit.index) c.in-Usable.is c.in_ok-old.ensures.right)

pub returns-in-Useless-clause-goes : goal.returns-in-Useless-clause-goes
returns-in-Useless-clause-goes g c = λ mode task left.
    let w = work_of c.args.work.now in
    let e = c.args.errand.now in
    let a = g.P.Port.seen c.args.port.now in
    let b = g.P.Port.seen c.read_old.new.port in
    let rest = reading c.args.known e left (nothing_gathered w.mode) (others_than e.journey.index w.homes) in
    let old = CopyNext.Asks (CopyStage.ReadingOld c.args.known e left) in
    part_on (task_call mode task) a b _ (copying w (copy_begins w c.args.known e left)) (copying w rest) c.gather-in-Useless.result (writing w e left)
    (subst (λ (found : OldShard). Proceeds (task_call mode task) a b (copying w (copy_begins w c.args.known e left)) (copying w (old_heard w c.args.known e left found))) c.in-Useless.is
    (subst (λ (test : Bool). Proceeds (task_call mode task) a b (copying w (cond test rest old)) (copying w (old_heard w c.args.known e left c.in_ok-old.old))) (sym c.if-errand.false) (c.in_ok-old.ensures.goes mode task left)))
    (c.gather-in-Useless.ensures.goes mode task left)

pub returns-in-Unheard-clause-goes : goal.returns-in-Unheard-clause-goes
returns-in-Unheard-clause-goes g c = λ mode task left.
    let w = work_of c.args.work.now in
    let e = c.args.errand.now in
    let a = g.P.Port.seen c.args.port.now in
    let b = g.P.Port.seen c.read_old.new.port in
    let rest = reading c.args.known e left (nothing_gathered w.mode) (others_than e.journey.index w.homes) in
    let old = CopyNext.Asks (CopyStage.ReadingOld c.args.known e left) in
    part_on (task_call mode task) a b _ (copying w (copy_begins w c.args.known e left)) (copying w (reading c.args.known e left (one_unheard (nothing_gathered w.mode)) (others_than e.journey.index w.homes))) c.gather-in-Unheard.result (writing w e left)
    (subst (λ (found : OldShard). Proceeds (task_call mode task) a b (copying w (copy_begins w c.args.known e left)) (copying w (old_heard w c.args.known e left found))) c.in-Unheard.is
    (subst (λ (test : Bool). Proceeds (task_call mode task) a b (copying w (cond test rest old)) (copying w (old_heard w c.args.known e left c.in_ok-old.old))) (sym c.if-errand.false) (c.in_ok-old.ensures.goes mode task left)))
    (c.gather-in-Unheard.ensures.goes mode task left)
