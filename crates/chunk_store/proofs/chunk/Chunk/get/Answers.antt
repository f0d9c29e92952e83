use Rattle.std.proofs.Common.{◌≡◌, ◌∙◌, sym, ap, subst, rules, ℕ, List, Option, Some, Ok, Err}
use Rattle.gate_log.specs.LogFile.{bodies_of}
use Rattle.shard_record.specs.Rows.{row_at}
use Rattle.shard_record.specs.declared.record.ShardRecord.TheVariants.{Shard}
use Rattle.chunk_store.specs.Records.{IsKept, StandsAt}
use Rattle.chunk_store.specs.Chunk.{shown, HasRecords, Gets}
use Rattle.chunk_store.specs.Reading.{FindsShard}
use Rattle.chunk_store.specs.declared.index.KeptRow.{KeptRow}
use Rattle.chunk_store.proofs.Finding.{at_started}
use Rattle.chunk_store.proofs.Opened.{reads_open, some_is}
use Rattle.chunk_store.proofs.Shown.{shows_row, shows_absent, shows_marked, shows_gone, shows_live, shows_fault}
use Rattle.chunk_store.proofs.chunk.Chunk.get.Goals as goal

pub invariant_of-self : goal.invariant_of-self
invariant_of-self g c = λ open_.
    reads_open c.self.inside.unit c.self.inside.index.kept (g.E.Extent.seen c.self.inside.log.file) (g.E.Extent.seen c.read_shard.new.log.file)
    c.self.inside.log.end c.read_shard.new.log.end (c.self.invariant open_) c.read_shard.ensures.reads c.read_shard.ensures.same

pub invariant_of-self-in-Some-Live : goal.invariant_of-self-in-Some-Live
invariant_of-self-in-Some-Live g c = λ open_.
    reads_open c.self.inside.unit c.self.inside.index.kept (g.E.Extent.seen c.self.inside.log.file) (g.E.Extent.seen c.read_shard.new.log.file)
    c.self.inside.log.end c.read_shard.new.log.end (c.self.invariant open_) c.read_shard.ensures.reads c.read_shard.ensures.same

pub returns-in-None-clause-told : goal.returns-in-None-clause-told
returns-in-None-clause-told g c = λ open_ items has.
    let row = shows_row c.self.inside.unit c.args.bid c.self.inside.index.kept (g.E.Extent.seen c.self.inside.log.file) c.self.inside.log.end items (c.self.invariant c.if-self.false)
    (subst (λ s. HasRecords (shown g.E.Extent.seen s) items) (sym c.self.view_is) has) in
    shows_absent c.self.inside.unit c.args.bid (bodies_of row.bytes) (row_at items c.args.bid)
    (subst (λ (k : Option KeptRow). IsKept c.self.inside.unit (bodies_of row.bytes) c.args.bid k (row_at items c.args.bid)) (sym c.row.ensures ∙ c.in-None.is) row.is)

pub returns-in-Some-Marked-clause-told : goal.returns-in-Some-Marked-clause-told
returns-in-Some-Marked-clause-told g c = λ open_ items has.
    let row = shows_row c.self.inside.unit c.args.bid c.self.inside.index.kept (g.E.Extent.seen c.self.inside.log.file) c.self.inside.log.end items (c.self.invariant c.if-self.false)
    (subst (λ s. HasRecords (shown g.E.Extent.seen s) items) (sym c.self.view_is) has) in
    shows_marked c.self.inside.unit c.args.bid (bodies_of row.bytes) (row_at items c.args.bid)
    (subst (λ (k : Option KeptRow). IsKept c.self.inside.unit (bodies_of row.bytes) c.args.bid k (row_at items c.args.bid)) (sym c.row.ensures ∙ c.in-Some-Marked.is ∙ ap Some c.in-Some-Marked.field-0-is) row.is)

pub returns-in-Some-Gone-clause-told : goal.returns-in-Some-Gone-clause-told
returns-in-Some-Gone-clause-told g c = λ open_ items has.
    let row = shows_row c.self.inside.unit c.args.bid c.self.inside.index.kept (g.E.Extent.seen c.self.inside.log.file) c.self.inside.log.end items (c.self.invariant c.if-self.false)
    (subst (λ s. HasRecords (shown g.E.Extent.seen s) items) (sym c.self.view_is) has) in
    shows_gone c.self.inside.unit c.args.bid (bodies_of row.bytes) (row_at items c.args.bid)
    (subst (λ (k : Option KeptRow). IsKept c.self.inside.unit (bodies_of row.bytes) c.args.bid k (row_at items c.args.bid)) (sym c.row.ensures ∙ c.in-Some-Gone.is ∙ ap Some c.in-Some-Gone.field-0-is) row.is)

pub returns-in_ok-bytes-in-Some-Live-clause-told : goal.returns-in_ok-bytes-in-Some-Live-clause-told
returns-in_ok-bytes-in-Some-Live-clause-told g c = λ open_ items has.
    let is_open = c.self.invariant c.if-self.false in
    let row = shows_row c.self.inside.unit c.args.bid c.self.inside.index.kept (g.E.Extent.seen c.self.inside.log.file) c.self.inside.log.end items is_open
    (subst (λ s. HasRecords (shown g.E.Extent.seen s) items) (sym c.self.view_is) has) in
    let end = some_is c.self.inside.log.end is_open.started in
    shows_live c.self.inside.unit c.args.bid (bodies_of row.bytes) c.in-Some-Live.place c.in-Some-Live.blob_size (row_at items c.args.bid) c.in_ok-bytes-in-Some-Live.bytes
    (subst (λ (k : Option KeptRow). IsKept c.self.inside.unit (bodies_of row.bytes) c.args.bid k (row_at items c.args.bid)) (sym c.row.ensures ∙ c.in-Some-Live.is ∙ ap Some c.in-Some-Live.field-0-is) row.is)
    (at_started c.self.inside.log.end (g.E.Extent.seen c.self.inside.log.file).content end.0 row.bytes
    (λ bodies. (bytes : List ℕ) → StandsAt bodies c.in-Some-Live.place (Shard c.args.bid c.self.inside.unit c.in-Some-Live.blob_size bytes) → FindsShard bytes (Ok c.in_ok-bytes-in-Some-Live.bytes))
    end.1 row.told c.in_ok-bytes-in-Some-Live.ensures.stands)

pub returns-in_err-bytes-in-Some-Live-clause-told : goal.returns-in_err-bytes-in-Some-Live-clause-told
returns-in_err-bytes-in-Some-Live-clause-told g c = λ open_ items has.
    let is_open = c.self.invariant c.if-self.false in
    let row = shows_row c.self.inside.unit c.args.bid c.self.inside.index.kept (g.E.Extent.seen c.self.inside.log.file) c.self.inside.log.end items is_open
    (subst (λ s. HasRecords (shown g.E.Extent.seen s) items) (sym c.self.view_is) has) in
    let end = some_is c.self.inside.log.end is_open.started in
    let e = c.in_err-bytes-in-Some-Live.field-0.0 in
    let is : c.from_residual.result ≡ Err e = search rules in
    subst (Gets (row_at items c.args.bid)) (sym is)
    (shows_fault c.self.inside.unit c.args.bid (bodies_of row.bytes) c.in-Some-Live.place c.in-Some-Live.blob_size (row_at items c.args.bid) e
    (subst (λ (k : Option KeptRow). IsKept c.self.inside.unit (bodies_of row.bytes) c.args.bid k (row_at items c.args.bid)) (sym c.row.ensures ∙ c.in-Some-Live.is ∙ ap Some c.in-Some-Live.field-0-is) row.is)
    (at_started c.self.inside.log.end (g.E.Extent.seen c.self.inside.log.file).content end.0 row.bytes
    (λ bodies. (bytes : List ℕ) → StandsAt bodies c.in-Some-Live.place (Shard c.args.bid c.self.inside.unit c.in-Some-Live.blob_size bytes) → FindsShard bytes (Err e))
    end.1 row.told c.in_err-bytes-in-Some-Live.ensures.stands))
