use Rattle.std.proofs.Common.{◌≡◌, ◌∙◌, sym, ap, refl, subst, ◌+◌, ◌≤◌, Ok, Err, false, arith}
use Rattle.gate_log.specs.GateLog.{shown as shown_log}
use Rattle.shard_record.specs.Spelling.{unit_of}
use Rattle.chunk_store.specs.Kept.{KeptRows, kept_after}
use Rattle.chunk_store.specs.Chunk.{ChunkView, Adds, shown, IsOpen}
use Rattle.chunk_store.proofs.Added.{added_open, adds_ok, adds_err, refused_open}
use Rattle.chunk_store.proofs.chunk.Chunk.add.Goals as goal

pub invariant_of-self-in-Ok : goal.invariant_of-self-in-Ok
invariant_of-self-in-Ok g c = λ open_.
    let own : unit_of c.args.item.now ≡ c.self.inside.unit = c.requires.own ∙ ap (λ s. s.unit) (sym c.self.view_is) in
    let free : c.self.inside.index.kept.is_released ≡ false = ap (λ s. s.kept.is_released) c.self.view_is ∙ c.requires.unreleased in
    added_open c.self.inside.unit c.args.item.now own c.self.inside.index.kept free
    (shown_log g.E.Extent.seen c.self.inside.log) (shown_log g.E.Extent.seen c.append_record.new.log) (c.self.invariant open_)
    c.in-Ok.place c.note.new.self.kept c.in-Ok.ensures.ends.0 c.in-Ok.ensures.ends.1 c.in-Ok.ensures.call.lasts.tells c.in-Ok.ensures.appends
    (c.note.ensures.kept ∙ ap (λ (k : KeptRows). kept_after k c.in-Ok.place c.args.item.now) c.reserve.ensures.same)

pub invariant_of-self-in-Err : goal.invariant_of-self-in-Err
invariant_of-self-in-Err g c = λ not_fault.
    let old : ChunkView = record { unit = c.self.inside.unit; file = g.E.Extent.seen c.self.inside.log.file; end = c.self.inside.log.end; kept = c.self.inside.index.kept; is_shut = c.self.inside.is_shut; spare = c.self.inside.index.spare } in
    let new : ChunkView = record { unit = c.self.inside.unit; file = g.E.Extent.seen c.append_record.new.log.file; end = c.append_record.new.log.end; kept = c.reserve.new.self.kept; is_shut = c.is_fault-self-inside.result; spare = c.reserve.new.self.spare } in
    let own : unit_of c.args.item.now ≡ c.self.inside.unit = c.requires.own ∙ ap (λ s. s.unit) (sym c.self.view_is) in
    let free : c.self.inside.index.kept.is_released ≡ false = ap (λ s. s.kept.is_released) c.self.view_is ∙ c.requires.unreleased in
    let shut : c.self.inside.is_shut ≡ false = ap (λ s. s.is_shut) c.self.view_is ∙ c.requires.open in
    subst (λ (k : KeptRows). IsOpen c.self.inside.unit k (g.E.Extent.seen c.append_record.new.log.file) c.append_record.new.log.end) (sym c.reserve.ensures.same)
    (refused_open old new c.args.item.now own refl free (c.self.invariant shut) c.reserve.ensures.same shut c.in-Err.fault c.in-Err.ensures.ends (sym c.is_fault-self-inside.ensures ∙ not_fault))

pub returns-in-Ok : goal.returns-in-Ok
returns-in-Ok g c =
    let old : ChunkView = record { unit = c.self.inside.unit; file = g.E.Extent.seen c.self.inside.log.file; end = c.self.inside.log.end; kept = c.self.inside.index.kept; is_shut = c.self.inside.is_shut; spare = c.self.inside.index.spare } in
    let new : ChunkView = record { unit = c.self.inside.unit; file = g.E.Extent.seen c.append_record.new.log.file; end = c.append_record.new.log.end; kept = c.note.new.self.kept; is_shut = c.self.inside.is_shut; spare = c.note.new.self.spare } in
    let own : unit_of c.args.item.now ≡ c.self.inside.unit = c.requires.own ∙ ap (λ s. s.unit) (sym c.self.view_is) in
    let free : c.self.inside.index.kept.is_released ≡ false = ap (λ s. s.kept.is_released) c.self.view_is ∙ c.requires.unreleased in
    let shut : c.self.inside.is_shut ≡ false = ap (λ s. s.is_shut) c.self.view_is ∙ c.requires.open in
    let spare : c.self.inside.index.spare ≤ c.note.new.self.spare + 1 = omega (arith, c.reserve.ensures.spare, c.note.ensures.spare) in
    subst (λ s. Adds c.args.item.now c.args.answer (shown g.E.Extent.seen s) new (Ok c.args.answer)) c.self.view_is
    (adds_ok old new c.args.item.now own refl free (c.self.invariant shut) c.in-Ok.place c.args.answer
    c.in-Ok.ensures.ends c.in-Ok.ensures.full c.in-Ok.ensures.call c.in-Ok.ensures.appends
    (c.note.ensures.kept ∙ ap (λ (k : KeptRows). kept_after k c.in-Ok.place c.args.item.now) c.reserve.ensures.same) shut spare)

pub returns-in-Err : goal.returns-in-Err
returns-in-Err g c =
    let old : ChunkView = record { unit = c.self.inside.unit; file = g.E.Extent.seen c.self.inside.log.file; end = c.self.inside.log.end; kept = c.self.inside.index.kept; is_shut = c.self.inside.is_shut; spare = c.self.inside.index.spare } in
    let new : ChunkView = record { unit = c.self.inside.unit; file = g.E.Extent.seen c.append_record.new.log.file; end = c.append_record.new.log.end; kept = c.reserve.new.self.kept; is_shut = c.is_fault-self-inside.result; spare = c.reserve.new.self.spare } in
    let own : unit_of c.args.item.now ≡ c.self.inside.unit = c.requires.own ∙ ap (λ s. s.unit) (sym c.self.view_is) in
    let free : c.self.inside.index.kept.is_released ≡ false = ap (λ s. s.kept.is_released) c.self.view_is ∙ c.requires.unreleased in
    let shut : c.self.inside.is_shut ≡ false = ap (λ s. s.is_shut) c.self.view_is ∙ c.requires.open in
    let spare : c.self.inside.index.spare ≤ c.reserve.new.self.spare + 1 = omega (arith, c.reserve.ensures.spare) in
    subst (λ s. Adds c.args.item.now c.args.answer (shown g.E.Extent.seen s) new (Err c.in-Err.fault)) c.self.view_is
    (adds_err old new c.args.item.now own refl free (c.self.invariant shut) c.reserve.ensures.same shut g.row.T.Denot c.in-Err.fault c.args.answer
    c.in-Err.ensures.ends c.in-Err.ensures.full c.in-Err.ensures.call c.in-Err.ensures.appends c.is_fault-self-inside.ensures spare)
