use Rattle.std.proofs.Common.{◌∙◌, sym, refl, subst, List, Ok, Err, false, IsSomeAnd}
use Rattle.gate_log.specs.GateLog.{shown as shown_log}
use Rattle.shard_record.specs.declared.record.ShardRecord.{ShardRecord}
use Rattle.chunk_store.specs.Records.{IsChunkOf}
use Rattle.chunk_store.specs.Chunk.{ChunkView, StartsWith, shown}
use Rattle.chunk_store.proofs.Opened.{started_open, refused_sound, starts_ok, starts_err}
use Rattle.chunk_store.proofs.chunk.Chunk.start.Goals as goal

pub invariant_of-self : goal.invariant_of-self
invariant_of-self g c = λ open_.
    started_open c.self.inside.unit (g.E.Extent.seen c.self.inside.log.file) (g.E.Extent.seen c.start_rows.new.log.file) c.in-Ok.ensures.call.lasts.tells
    c.in-Ok.index c.start_rows.new.log.end c.in-Ok.ensures.answer c.in-Ok.ensures.settles c.in-Ok.ensures.ends

pub returns-in-Ok-clause-sound : goal.returns-in-Ok-clause-sound
returns-in-Ok-clause-sound g c = λ open_.
    started_open c.self.inside.unit (g.E.Extent.seen c.self.inside.log.file) (g.E.Extent.seen c.start_rows.new.log.file) c.in-Ok.ensures.call.lasts.tells
    c.in-Ok.index c.start_rows.new.log.end c.in-Ok.ensures.answer c.in-Ok.ensures.settles c.in-Ok.ensures.ends

pub returns-in-Ok-clause-records : goal.returns-in-Ok-clause-records
returns-in-Ok-clause-records g c =
    let new : ChunkView = record { unit = c.self.inside.unit; file = g.E.Extent.seen c.start_rows.new.log.file; end = c.start_rows.new.log.end; kept = c.in-Ok.index.kept; is_shut = false; spare = c.in-Ok.index.spare } in
    let old : ChunkView = record { unit = c.self.inside.unit; file = g.E.Extent.seen c.self.inside.log.file; end = c.self.inside.log.end; kept = c.self.inside.index.kept; is_shut = c.self.inside.is_shut; spare = c.self.inside.index.spare } in
    subst (λ s. (items : List ShardRecord) → IsSomeAnd (g.E.Extent.seen s.log.file).content (λ file. IsChunkOf file s.unit items) → StartsWith items (shown g.E.Extent.seen s) new (Ok tt)) c.self.view_is
    (λ items chunk. starts_ok c.self.inside.unit old new refl items chunk c.in-Ok.ensures.starts c.in-Ok.index c.in-Ok.ensures.settles)

pub invariant_of-self-in-Err : goal.invariant_of-self-in-Err
invariant_of-self-in-Err g c = λ open_.
    refused_sound c.self.inside.unit (g.E.Extent.seen c.self.inside.log.file) (g.E.Extent.seen c.start_rows.new.log.file) c.in-Err.ensures.call.lasts.tells
    (shown_log g.E.Extent.seen c.self.inside.log) (shown_log g.E.Extent.seen c.start_rows.new.log) c.in-Err.fault c.self.inside.is_shut c.self.inside.index.kept
    c.in-Err.ensures.settles c.in-Err.ensures.ends c.self.invariant (sym c.leaves_shut-self-inside.ensures ∙ open_)

pub returns-in-Err-clause-sound : goal.returns-in-Err-clause-sound
returns-in-Err-clause-sound g c = λ open_.
    refused_sound c.self.inside.unit (g.E.Extent.seen c.self.inside.log.file) (g.E.Extent.seen c.start_rows.new.log.file) c.in-Err.ensures.call.lasts.tells
    (shown_log g.E.Extent.seen c.self.inside.log) (shown_log g.E.Extent.seen c.start_rows.new.log) c.in-Err.fault c.self.inside.is_shut c.self.inside.index.kept
    c.in-Err.ensures.settles c.in-Err.ensures.ends c.self.invariant (sym c.leaves_shut-self-inside.ensures ∙ open_)

pub returns-in-Err-clause-records : goal.returns-in-Err-clause-records
returns-in-Err-clause-records g c =
    let new : ChunkView = record { unit = c.self.inside.unit; file = g.E.Extent.seen c.start_rows.new.log.file; end = c.start_rows.new.log.end; kept = c.self.inside.index.kept; is_shut = c.leaves_shut-self-inside.result; spare = c.self.inside.index.spare } in
    let old : ChunkView = record { unit = c.self.inside.unit; file = g.E.Extent.seen c.self.inside.log.file; end = c.self.inside.log.end; kept = c.self.inside.index.kept; is_shut = c.self.inside.is_shut; spare = c.self.inside.index.spare } in
    subst (λ s. (items : List ShardRecord) → IsSomeAnd (g.E.Extent.seen s.log.file).content (λ file. IsChunkOf file s.unit items) → StartsWith items (shown g.E.Extent.seen s) new (Err c.in-Err.fault)) c.self.view_is
    (λ items chunk. starts_err c.self.inside.unit old new refl items chunk c.in-Err.ensures.starts c.in-Err.fault c.in-Err.ensures.answer)
