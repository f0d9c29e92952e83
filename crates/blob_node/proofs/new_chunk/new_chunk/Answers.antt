-- A file whose chunk doesn't start goes back to the shelf.
use Rattle.std.proofs.Common.{◌∙◌, sym, subst, List, Some, IsSomeAnd, Ok, Err}
use Rattle.unit_id.specs.UnitName.{Name}
use Rattle.disk_base.specs.Shelves.{TakesBack}
use Rattle.gate_log.specs.GateLog.{LogOver}
use Rattle.shard_record.specs.declared.record.ShardRecord.{ShardRecord}
use Rattle.chunk_store.specs.Records.{IsChunkOf}
use Rattle.chunk_store.specs.Chunk.{shown, StartAnswers, StartsWith}
use Rattle.blob_node.specs.NewChunk.{Lends}
use Rattle.blob_node.proofs.NewFiles.{given_back}
use Rattle.blob_node.proofs.Tries.{Goes, goes_started, goes_back}
use Rattle.blob_node.proofs.new_chunk.new_chunk.Goals as goal

pub returns-in-Err-clause-starts : goal.returns-in-Err-clause-starts
returns-in-Err-clause-starts g c =
    let seen = g.H.File.Extent.seen in
    let old = g.H.Shelf.seen c.args.shelf.now in
    let mid = g.H.Shelf.seen c.lend.new.shelf in
    let new = g.H.Shelf.seen c.hold.new.self in
    let was = c.over-chunk.result in
    let now = c.start.new.self in
    given_back seen c.args.unit old mid new was now c.in-Err.fault (g.met.H.File.Extent.is_file now.log.file) (c.start.ensures.unit ∙ c.over-chunk.ensures.unit)
    (subst (λ (l : LogOver g.row.H-File.Denot). Lends seen c.args.unit old mid (Ok l.file)) (sym c.over-chunk.ensures.log) c.in-Ok.ensures.lends)
    c.in-Err.ensures.call
    (subst (λ (n : Name). StartAnswers n (seen was.log.file).content (Err c.in-Err.fault)) c.over-chunk.ensures.unit c.in-Err.ensures.answer)
    (subst (λ (n : Name). (items : List ShardRecord) → IsSomeAnd (seen was.log.file).content (λ file. IsChunkOf file n items) → StartsWith items (shown seen was) (shown seen now) (Err c.in-Err.fault)) c.over-chunk.ensures.unit c.in-Err.ensures.records)
    (subst (λ w. TakesBack seen w now.log.file mid new) c.pack.ensures.word (subst (λ f. TakesBack seen c.pack.result f mid new) c.into_file.ensures c.hold.ensures))

pub returns-in-Err-clause-moments : goal.returns-in-Err-clause-moments
returns-in-Err-clause-moments g c = λ out none told empty.
    let seen = g.H.File.Extent.seen in
    let old = g.H.Shelf.seen c.args.shelf.now in
    let mid = g.H.Shelf.seen c.lend.new.shelf in
    let new = g.H.Shelf.seen c.hold.new.self in
    let was = c.over-chunk.result in
    let now = c.start.new.self in
    goes_back g.H.Shelf.seen seen c.args.unit c.args.shelf.now out none c.lend.new.shelf was now (g.met.H.File.Extent.is_file now.log.file) told empty
    (subst (λ (l : LogOver g.row.H-File.Denot). Lends seen c.args.unit old mid (Ok l.file)) (sym c.over-chunk.ensures.log) c.in-Ok.ensures.lends)
    (c.start.ensures.unit ∙ c.over-chunk.ensures.unit) (Err c.in-Err.fault)
    (subst (λ (n : Name). (items : List ShardRecord) → IsSomeAnd (seen was.log.file).content (λ file. IsChunkOf file n items) → StartsWith items (shown seen was) (shown seen now) (Err c.in-Err.fault)) c.over-chunk.ensures.unit c.in-Err.ensures.records)
    (subst (λ (l : LogOver g.row.H-File.Denot). Goes g.H.Shelf.seen seen c.args.unit c.args.shelf.now out none c.lend.new.shelf (Some l.file)) (sym c.over-chunk.ensures.log) (c.in-Ok.ensures.moments out none told empty))
    c.hold.new.self
    (subst (λ w. TakesBack seen w now.log.file mid new) c.pack.ensures.word (subst (λ f. TakesBack seen c.pack.result f mid new) c.into_file.ensures c.hold.ensures))

pub returns-in-Ok-start-clause-moments : goal.returns-in-Ok-start-clause-moments
returns-in-Ok-start-clause-moments g c = λ out none told empty.
    let seen = g.H.File.Extent.seen in
    let was = c.over-chunk.result in
    let now = c.start.new.self in
    goes_started g.H.Shelf.seen seen c.args.unit c.args.shelf.now out none c.lend.new.shelf was now (g.met.H.File.Extent.is_file now.log.file) told empty
    (subst (λ (l : LogOver g.row.H-File.Denot). Lends seen c.args.unit (g.H.Shelf.seen c.args.shelf.now) (g.H.Shelf.seen c.lend.new.shelf) (Ok l.file)) (sym c.over-chunk.ensures.log) c.in-Ok.ensures.lends)
    (c.start.ensures.unit ∙ c.over-chunk.ensures.unit) c.start.result
    (subst (λ (n : Name). (items : List ShardRecord) → IsSomeAnd (seen was.log.file).content (λ file. IsChunkOf file n items) → StartsWith items (shown seen was) (shown seen now) c.start.result) c.over-chunk.ensures.unit c.start.ensures.records)
    (subst (λ (l : LogOver g.row.H-File.Denot). Goes g.H.Shelf.seen seen c.args.unit c.args.shelf.now out none c.lend.new.shelf (Some l.file)) (sym c.over-chunk.ensures.log) (c.in-Ok.ensures.moments out none told empty))
