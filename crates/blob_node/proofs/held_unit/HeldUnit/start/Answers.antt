-- A start settles what was in doubt.
use Rattle.std.proofs.Common.{◌∙◌, ap, subst, refl, List, Err, None, IsSomeAnd}
use Rattle.std.specs.Prelude.{option_map}
use Rattle.shard_record.specs.declared.record.ShardRecord.{ShardRecord}
use Rattle.chunk_store.specs.Records.{IsChunkOf}
use Rattle.chunk_store.specs.Chunk.{shown, StartsWith, StartEnds}
use Rattle.blob_node.specs.HeldUnit.{UnitOver, is_released, is_found, record_of_doubt, written_settled}
use Rattle.blob_node.proofs.Settling.{says_it, starts_ok, starts_err, starts_through}
use Rattle.blob_node.proofs.held_unit.HeldUnit.start.Goals as goal

pub returns-in-Ok-clause-told : goal.returns-in-Ok-clause-told
returns-in-Ok-clause-told g c = λ written units place held.
    let old = c.args.self.now in
    let new : UnitOver g.row.E.Denot = record { chunk = c.start.new.self; doubt = None; was_released = c.is_released-self-inside.result } in
    let says = says_it (shown g.E.Extent.seen old.chunk) (option_map record_of_doubt old.doubt) (is_released old) written units place held in
    starts_ok g.E.Extent.seen old new written units place held (c.start.ensures.unit ∙ ap (λ (u : UnitOver g.row.E.Denot). u.chunk.unit) c.self.view_is) c.is_released-self-inside.ensures c.start.ensures.sound
    (subst (StartEnds (shown g.E.Extent.seen c.self.inside.chunk) (shown g.E.Extent.seen c.start.new.self)) c.in-Ok.is c.start.ensures.ends) refl says
    (subst (StartsWith (written_settled says.found written).items (shown g.E.Extent.seen old.chunk) (shown g.E.Extent.seen c.start.new.self)) c.in-Ok.is
    (subst (λ (u : UnitOver g.row.E.Denot). (items : List ShardRecord) → IsSomeAnd (g.E.Extent.seen u.chunk.log.file).content (λ file. IsChunkOf file u.chunk.unit items) → StartsWith items (shown g.E.Extent.seen u.chunk) (shown g.E.Extent.seen c.start.new.self) c.start.result) c.self.view_is c.start.ensures.records
    (written_settled says.found written).items says.says))
    c.is_found-found.result
    (c.is_found-found.ensures ∙ ap (λ (u : UnitOver g.row.E.Denot). is_found u.doubt c.start.new.self.kept) c.self.view_is)

pub returns-in-Err-clause-told : goal.returns-in-Err-clause-told
returns-in-Err-clause-told g c = λ written units place held.
    let old = c.args.self.now in
    let new : UnitOver g.row.E.Denot = record { chunk = c.start.new.self; doubt = c.self.inside.doubt; was_released = c.is_released-self-inside.result } in
    let says = says_it (shown g.E.Extent.seen old.chunk) (option_map record_of_doubt old.doubt) (is_released old) written units place held in
    starts_err g.E.Extent.seen old new written units place held (c.start.ensures.unit ∙ ap (λ (u : UnitOver g.row.E.Denot). u.chunk.unit) c.self.view_is) c.is_released-self-inside.ensures c.start.ensures.sound
    c.in-Err.fault
    (subst (λ (u : UnitOver g.row.E.Denot). StartEnds (shown g.E.Extent.seen u.chunk) (shown g.E.Extent.seen c.start.new.self) (Err c.in-Err.fault)) c.self.view_is
    (subst (StartEnds (shown g.E.Extent.seen c.self.inside.chunk) (shown g.E.Extent.seen c.start.new.self)) c.in-Err.is c.start.ensures.ends))
    (ap (λ (u : UnitOver g.row.E.Denot). u.doubt) c.self.view_is) says
    (subst (StartsWith (written_settled says.found written).items (shown g.E.Extent.seen old.chunk) (shown g.E.Extent.seen c.start.new.self)) c.in-Err.is
    (subst (λ (u : UnitOver g.row.E.Denot). (items : List ShardRecord) → IsSomeAnd (g.E.Extent.seen u.chunk.log.file).content (λ file. IsChunkOf file u.chunk.unit items) → StartsWith items (shown g.E.Extent.seen u.chunk) (shown g.E.Extent.seen c.start.new.self) c.start.result) c.self.view_is c.start.ensures.records
    (written_settled says.found written).items says.says))
    (g.met.E.Extent.is_file c.start.new.self.log.file)

pub returns-in-Ok-clause-moments : goal.returns-in-Ok-clause-moments
returns-in-Ok-clause-moments g c = λ written units place held.
    let old = c.args.self.now in
    let says = says_it (shown g.E.Extent.seen old.chunk) (option_map record_of_doubt old.doubt) (is_released old) written units place held in
    starts_through (shown g.E.Extent.seen old.chunk) (shown g.E.Extent.seen c.start.new.self) (option_map record_of_doubt old.doubt) (is_released old) written units place held says
    (c.start.ensures.unit ∙ ap (λ (u : UnitOver g.row.E.Denot). u.chunk.unit) c.self.view_is) c.start.result
    (subst (λ (u : UnitOver g.row.E.Denot). (items : List ShardRecord) → IsSomeAnd (g.E.Extent.seen u.chunk.log.file).content (λ file. IsChunkOf file u.chunk.unit items) → StartsWith items (shown g.E.Extent.seen u.chunk) (shown g.E.Extent.seen c.start.new.self) c.start.result) c.self.view_is c.start.ensures.records
    (written_settled says.found written).items says.says)

pub returns-in-Err-clause-moments : goal.returns-in-Err-clause-moments
returns-in-Err-clause-moments g c = λ written units place held.
    let old = c.args.self.now in
    let says = says_it (shown g.E.Extent.seen old.chunk) (option_map record_of_doubt old.doubt) (is_released old) written units place held in
    starts_through (shown g.E.Extent.seen old.chunk) (shown g.E.Extent.seen c.start.new.self) (option_map record_of_doubt old.doubt) (is_released old) written units place held says
    (c.start.ensures.unit ∙ ap (λ (u : UnitOver g.row.E.Denot). u.chunk.unit) c.self.view_is) c.start.result
    (subst (λ (u : UnitOver g.row.E.Denot). (items : List ShardRecord) → IsSomeAnd (g.E.Extent.seen u.chunk.log.file).content (λ file. IsChunkOf file u.chunk.unit items) → StartsWith items (shown g.E.Extent.seen u.chunk) (shown g.E.Extent.seen c.start.new.self) c.start.result) c.self.view_is c.start.ensures.records
    (written_settled says.found written).items says.says)
