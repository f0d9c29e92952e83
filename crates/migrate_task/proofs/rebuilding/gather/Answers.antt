use Rattle.std.proofs.Common.{◌≡◌, ◌+◌, ◌<◌, ℕ, Err, refl, sym, ◌∙◌, ap, subst, arith, rules}
use Rattle.code_mode.specs.declared.mode.Mode.{Mode}
use Rattle.code_mode.specs.Mode.{data_count, total_count}
use Rattle.rs_code.specs.Shape.{Shape}
use Rattle.rs_code.specs.ShardValue.{rebuilt}
use Rattle.volume_world.specs.Way.{Origin, shape_of}
use Rattle.volume_world.specs.Progress.{Proceeds}
use Rattle.migrate_task.specs.declared.gathering.Gathered.{Gathered}
use Rattle.migrate_task.specs.Copies.{others_than, reading}
use Rattle.migrate_task.specs.AdvanceCall.{TaskNext, task_call, copying}
use Rattle.migrate_task.specs.TaskParts.{AreUnits, GoesOn, work_of}
use Rattle.migrate_task.specs.Rows.{AreShardsRight}
use Rattle.migrate_task.specs.GatherParts.{none_gathered, AreFrom, IsGathered, rebuilding, writing}
use Rattle.migrate_task.proofs.CutLemmas.{end_done, copying_open}
use Rattle.migrate_task.proofs.TaskLemmas.{proceeds_nowhere, fails_on, breaks_off}
use Rattle.migrate_task.proofs.GatherLemmas.{first_gathered, first_right, others_are, others_from, rebuilt_row, written_on}
use Rattle.migrate_task.proofs.rebuilding.gather.Goals as goal

pub returns-in_err-others-clause-goes : goal.returns-in_err-others-clause-goes
returns-in_err-others-clause-goes g c = λ mode task left.
    let w = work_of c.args.work.now in
    let e = c.args.errand.now in
    let from = copying w (reading c.args.known e left (none_gathered c.args.work.now.mode c.args.unheard) (others_than e.journey.index c.args.work.now.homes.items)) in
    breaks_off (task_call mode task) _ _ from from c.from_residual.result (writing w e left) (search rules) (end_done from (copying_open w (reading c.args.known e left (none_gathered c.args.work.now.mode c.args.unheard) (others_than e.journey.index c.args.work.now.homes.items)))) (proceeds_nowhere (task_call mode task) _ from)

pub read_others-requires-clause-units : goal.read_others-requires-clause-units
read_others-requires-clause-units g c =
    let o = (g.P.Port.seen c.args.port.now).origin in
    let is : c.as_slice-2.result.now ≡ others_than c.args.errand.now.journey.index c.args.work.now.homes.items = c.as_slice-2.ensures.value ∙ c.in_ok-others.ensures ∙ ap (others_than c.args.errand.now.journey.index) c.as_slice.ensures.value in
    subst (AreUnits o) (sym is) (others_are o c.args.errand.now.journey.index 0 c.args.work.now.homes.items c.requires.work.homes.each)

pub read_others-requires-clause-order : goal.read_others-requires-clause-order
read_others-requires-clause-order g c =
    let o = (g.P.Port.seen c.args.port.now).origin in
    let is : c.as_slice-2.result.now ≡ others_than c.args.errand.now.journey.index c.args.work.now.homes.items = c.as_slice-2.ensures.value ∙ c.in_ok-others.ensures ∙ ap (others_than c.args.errand.now.journey.index) c.as_slice.ensures.value in
    subst (AreFrom (total_count c.args.work.now.mode) 0) (sym is)
    (subst (λ (m : Mode). AreFrom (total_count m) 0 (others_than c.args.errand.now.journey.index c.args.work.now.homes.items)) (sym c.requires.work.mode)
    (others_from o c.args.errand.now.journey.index 0 c.args.work.now.homes.items c.requires.work.homes.each))

pub read_others-requires-clause-heard : goal.read_others-requires-clause-heard
read_others-requires-clause-heard g c =
    subst (IsGathered c.args.work.now.mode c.args.known c.args.errand.now.bid 0) (sym c.nothing-gathered.ensures) (first_gathered c.args.work.now.mode c.args.known c.args.errand.now.bid c.args.unheard c.requires.once)

pub read_others-requires-clause-right : goal.read_others-requires-clause-right
read_others-requires-clause-right g c =
    let a = g.P.Port.seen c.args.port.now in
    subst (λ (x : Gathered). AreShardsRight a c.args.errand.now.bid x.shards) (sym c.nothing-gathered.ensures) (first_right a c.args.work.now.mode c.args.errand.now.bid c.args.unheard)

pub returns-in_err-size-clause-goes : goal.returns-in_err-size-clause-goes
returns-in_err-size-clause-goes g c = λ mode task left.
    let w = work_of c.args.work.now in
    let e = c.args.errand.now in
    let is : c.as_slice-2.result.now ≡ others_than e.journey.index c.args.work.now.homes.items = c.as_slice-2.ensures.value ∙ c.in_ok-others.ensures ∙ ap (others_than e.journey.index) c.as_slice.ensures.value in
    let from = copying w (reading c.args.known e left (none_gathered c.args.work.now.mode c.args.unheard) (others_than e.journey.index c.args.work.now.homes.items)) in
    let same : copying w (reading c.args.known e left c.nothing-gathered.result c.as_slice-2.result.now) ≡ from = λ i. copying w (reading c.args.known e left (c.nothing-gathered.ensures i) (is i)) in
    let new = c.read_others.new.gathered in
    fails_on {T = ℕ} (task_call mode task) _ _ from c.in_err-size.field-0.0 c.from_residual-in_err-size.result (rebuilding w e left new) (writing w e left) (search rules)
    (subst (λ (next : TaskNext). GoesOn {T = ℕ} (task_call mode task) (g.P.Port.seen c.args.port.now) (g.P.Port.seen c.read_others.new.port) next (Err c.in_err-size.field-0.0) (rebuilding w e left new)) same
    (c.in_err-size.ensures.goes mode task left))

pub rebuild-requires-clause-total : goal.rebuild-requires-clause-total
rebuild-requires-clause-total g c =
    let d = ap (λ (s : Shape). s.data_shards) c.requires.coder in
    let p = ap (λ (s : Shape). s.parity_shards) c.requires.coder in
    c.in_ok-size.ensures.enough.total ∙ ap total_count c.requires.work.mode ∙ (λ i. sym d i + sym p i)

pub rebuild-requires-clause-below : goal.rebuild-requires-clause-below
rebuild-requires-clause-below g c =
    let o = (g.P.Port.seen c.args.port.now).origin in
    let index = c.args.errand.now.journey.index in
    let below = subst (λ n. n < (shape_of o).total) c.requires.errand.journey.old_index c.requires.errand.journey.old.index in
    subst (λ n. index < n) (sym (c.in_ok-size.ensures.enough.total ∙ ap total_count c.requires.work.mode)) below

pub rebuild-requires-clause-enough : goal.rebuild-requires-clause-enough
rebuild-requires-clause-enough g c =
    let d = ap (λ (s : Shape). s.data_shards) c.requires.coder in
    let e = c.in_ok-size.ensures.enough.enough in
    let m = ap data_count c.requires.work.mode in
    omega arith

pub returns-in_err-bytes-clause-goes : goal.returns-in_err-bytes-clause-goes
returns-in_err-bytes-clause-goes g c = λ mode task left.
    let w = work_of c.args.work.now in
    let e = c.args.errand.now in
    let is : c.as_slice-2.result.now ≡ others_than e.journey.index c.args.work.now.homes.items = c.as_slice-2.ensures.value ∙ c.in_ok-others.ensures ∙ ap (others_than e.journey.index) c.as_slice.ensures.value in
    let from = copying w (reading c.args.known e left (none_gathered c.args.work.now.mode c.args.unheard) (others_than e.journey.index c.args.work.now.homes.items)) in
    let same : copying w (reading c.args.known e left c.nothing-gathered.result c.as_slice-2.result.now) ≡ from = λ i. copying w (reading c.args.known e left (c.nothing-gathered.ensures i) (is i)) in
    let to = rebuilding w e left c.read_others.new.gathered c.in_ok-size.size in
    breaks_off (task_call mode task) _ _ from to c.from_residual-in_err-bytes.result (writing w e left) (search rules) refl
    (subst (λ (next : TaskNext). Proceeds (task_call mode task) (g.P.Port.seen c.args.port.now) (g.P.Port.seen c.read_others.new.port) next to) same (c.in_ok-size.ensures.goes mode task left))

pub returns-clause-goes : goal.returns-clause-goes
returns-clause-goes g c = λ mode task left.
    let w = work_of c.args.work.now in
    let e = c.args.errand.now in
    let a = g.P.Port.seen c.args.port.now in
    let b = g.P.Port.seen c.read_others.new.port in
    let is : c.as_slice-2.result.now ≡ others_than e.journey.index c.args.work.now.homes.items = c.as_slice-2.ensures.value ∙ c.in_ok-others.ensures ∙ ap (others_than e.journey.index) c.as_slice.ensures.value in
    let from = copying w (reading c.args.known e left (none_gathered c.args.work.now.mode c.args.unheard) (others_than e.journey.index c.args.work.now.homes.items)) in
    let same : copying w (reading c.args.known e left c.nothing-gathered.result c.as_slice-2.result.now) ≡ from = λ i. copying w (reading c.args.known e left (c.nothing-gathered.ensures i) (is i)) in
    let new = c.read_others.new.gathered in
    let to = rebuilding w e left new c.in_ok-size.size in
    let many : c.args.coder.now.data_shards ≡ data_count w.mode = ap (λ (s : Shape). s.data_shards) c.requires.coder ∙ ap data_count (sym c.requires.work.mode) in
    subst (λ (next : TaskNext). Proceeds (task_call mode task) a b from next) (written_on w e left new c.args.coder.now.data_shards c.in_ok-size.size c.in_ok-bytes.bytes many c.in_ok-bytes.ensures.rebuilt)
    (subst (λ (next : TaskNext). Proceeds (task_call mode task) a b next to) same (c.in_ok-size.ensures.goes mode task left))

pub returns-clause-right : goal.returns-clause-right
returns-clause-right g c =
    let o = (g.P.Port.seen c.args.port.now).origin in
    let b = g.P.Port.seen c.read_others.new.port in
    let e = c.args.errand.now in
    let w = work_of c.args.work.now in
    let new = c.read_others.new.gathered in
    let below = subst (λ n. n < (shape_of o).total) c.requires.errand.journey.old_index c.requires.errand.journey.old.index in
    let within = subst (λ (m : Mode). e.journey.index < total_count m) (sym c.requires.work.mode) below in
    let many : c.args.coder.now.data_shards ≡ data_count w.mode = ap (λ (s : Shape). s.data_shards) c.requires.coder ∙ ap data_count (sym c.requires.work.mode) in
    rebuilt_row b c.args.work.now.mode e.bid e.journey.index new (record { size = c.in_ok-size.size; bytes = c.in_ok-bytes.bytes }) (c.requires.work.mode ∙ ap (λ (x : Origin). x.mode) (sym c.in_ok-size.ensures.origin)) within
    c.in_ok-size.ensures.enough c.in_ok-size.ensures.right (c.in_ok-bytes.ensures.rebuilt ∙ ap (λ n. rebuilt n new.shards e.journey.index) many)
