-- A chunk that was shut is started, and then the unit goes on.
use Rattle.std.proofs.Common.{◌≡◌, ◌∙◌, sym, subst, Bool, false, Result}
use Rattle.std.specs.Prelude.{MatchResult}
use Rattle.chunk_store.specs.Kept.{shut_after}
use Rattle.chunk_store.specs.declared.fault.ChunkFault.{ChunkFault}
use Rattle.blob_node.specs.HeldUnit.{Restarted}
use Rattle.blob_node.proofs.Inside.{serves_started}
use Rattle.blob_node.proofs.held_unit.HeldUnit.serve.Goals as goal

pub returns-in-Ok-clause-told : goal.returns-in-Ok-clause-told
returns-in-Ok-clause-told g c =
    serves_started g.E.Extent.seen c.args.request.now c.args.have c.args.self.now c.start.new.self c.go_on.new.self c.in-Ok.found c.go_on.result
    (sym c.is_shut.ensures.shut ∙ c.if-not-is_shut.false)
    (subst (λ (r : Result Bool ChunkFault). MatchResult r (λ _. c.start.new.self.chunk.is_shut ≡ false) (λ fault. c.start.new.self.chunk.is_shut ≡ shut_after fault c.args.self.now.chunk.is_shut)) c.in-Ok.is c.start.ensures.ends)
    c.start.ensures.unit (subst (Restarted g.E.Extent.seen c.args.self.now c.start.new.self) c.in-Ok.is c.start.ensures.told) c.start.ensures.moments c.go_on.ensures.told
