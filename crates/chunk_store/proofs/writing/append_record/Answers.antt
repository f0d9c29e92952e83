use Rattle.std.proofs.Common.{◌≡◌, ◌∙◌, sym, ap, subst, rules, ℕ, Err, ◌+◌, List, Some, length}
use Rattle.disk_base.specs.Disk.{OnlyReads}
use Rattle.gate_log.specs.GateLog.{shown}
use Rattle.shard_record.specs.Spelling.{Spells}
use Rattle.shard_record.specs.declared.record.ShardRecord.{ShardRecord}
use Rattle.chunk_store.specs.Chunk.{ChunkCall, record_size}
use Rattle.chunk_store.specs.Writing.{AppendEnds, RefusesFull}
use Rattle.chunk_store.specs.declared.fault.ChunkFault.{ChunkFault}
use Rattle.chunk_store.proofs.AddRecord.{spelled_length, room_found, append_fault, append_ends, append_full, append_call}
use Rattle.chunk_store.proofs.writing.append_record.Goals as goal

-- how long a spelling is that was borrowed
size_of : (item : ShardRecord) (body bytes : List ℕ) → bytes ≡ body → Spells item body → length bytes ≡ record_size item
size_of item body bytes same spells = ap length same ∙ spelled_length item body spells

pub returns-in-Ok-clause-full : goal.returns-in-Ok-clause-full
returns-in-Ok-clause-full g c =
    let size = size_of c.args.item.now c.in_ok-body.body c.as_slice.result.now c.as_slice.ensures c.in_ok-body.ensures in
    room_found c.args.item.now (length c.as_slice.result.now) c.requires.sizes size
    (shown g.E.Extent.seen c.args.log.now) (shown g.E.Extent.seen c.append.new.self) c.requires.started
    c.in-Ok.place c.append.result (c.append.new.self ≡ c.args.log.now) c.in-Ok.is c.append.ensures.refused

pub fault_of-requires : goal.fault_of-requires
fault_of-requires g c =
    let size = size_of c.args.item.now c.in_ok-body.body c.as_slice.result.now c.as_slice.ensures c.in_ok-body.ensures in
    append_fault c.args.item.now (length c.as_slice.result.now) c.requires.sizes size
    (shown g.E.Extent.seen c.args.log.now) (shown g.E.Extent.seen c.append.new.self) c.requires.started c.in-Err.fault c.in-Err.ensures.answer

pub returns-clause-call : goal.returns-clause-call
returns-clause-call g c =
    let size = size_of c.args.item.now c.in_ok-body.body c.as_slice.result.now c.as_slice.ensures c.in_ok-body.ensures in
    subst (λ (f : ChunkFault). ChunkCall {T = ℕ} (g.E.Extent.seen c.args.log.now.file) (g.E.Extent.seen c.append.new.self.file) (Err f)) (sym c.fault_of.ensures)
    (append_call c.args.item.now (length c.as_slice.result.now) c.requires.sizes size
    (shown g.E.Extent.seen c.args.log.now) (shown g.E.Extent.seen c.append.new.self) c.requires.started c.in-Err.fault c.in-Err.ensures.answer c.in-Err.ensures.call)

pub returns-clause-ends : goal.returns-clause-ends
returns-clause-ends g c =
    let size = size_of c.args.item.now c.in_ok-body.body c.as_slice.result.now c.as_slice.ensures c.in_ok-body.ensures in
    let still : OnlyReads (g.E.Extent.seen c.args.log.now.file) (g.E.Extent.seen c.args.log.now.file) = search rules in
    subst (λ (f : ChunkFault). AppendEnds c.args.item.now (shown g.E.Extent.seen c.args.log.now) (shown g.E.Extent.seen c.append.new.self) (Err f)) (sym c.fault_of.ensures)
    (append_ends c.args.item.now (length c.as_slice.result.now) c.requires.sizes size
    (shown g.E.Extent.seen c.args.log.now) (shown g.E.Extent.seen c.append.new.self) c.requires.started
    c.in-Err.fault c.append.result (c.append.new.self ≡ c.args.log.now) c.in-Err.ensures.answer c.append.ensures.refused
    (λ same. (ap (λ l. l.end) same, subst (λ l. OnlyReads (g.E.Extent.seen c.args.log.now.file) (g.E.Extent.seen l.file)) (sym same) still)))

pub returns-clause-full : goal.returns-clause-full
returns-clause-full g c =
    let size = size_of c.args.item.now c.in_ok-body.body c.as_slice.result.now c.as_slice.ensures c.in_ok-body.ensures in
    subst (λ (f : ChunkFault). RefusesFull {T = ℕ} c.args.item.now c.args.log.now.end (Err f)) (sym c.fault_of.ensures)
    (append_full c.args.item.now (length c.as_slice.result.now) c.requires.sizes size
    (shown g.E.Extent.seen c.args.log.now) (shown g.E.Extent.seen c.append.new.self) c.requires.started
    c.in-Err.fault c.append.result (c.append.new.self ≡ c.args.log.now) c.in-Err.is c.in-Err.ensures.answer c.append.ensures.refused)

pub returns-in-Ok-clause-ends : goal.returns-in-Ok-clause-ends
returns-in-Ok-clause-ends g c =
    let size = size_of c.args.item.now c.in_ok-body.body c.as_slice.result.now c.as_slice.ensures c.in_ok-body.ensures in
    (c.in-Ok.ensures.answer.0, c.in-Ok.ensures.answer.1 ∙ ap (λ n. Some (c.in-Ok.place + 5 + n)) size)
