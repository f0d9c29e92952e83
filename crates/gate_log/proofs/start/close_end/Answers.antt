use Rattle.std.proofs.Common.{◌≡◌, length, take, [], ◌∷◌, ◌∙◌, Ok, Err, sym, subst, rules}
use Rattle.gate_log.specs.LogFile.{mark}
use Rattle.gate_log.specs.GateLog.{EndsAt, IsThrough, WritesStart}
use Rattle.gate_log.specs.declared.fault.LogFault.TheVariants.{Fault}
use Rattle.gate_log.proofs.Fetch.{if_some, at_some}
use Rattle.gate_log.proofs.Begin.{close_writes, writes_in_part, writes_whole}
use Rattle.gate_log.proofs.start.close_end.Goals as goal

pub returns-in_err-write_through-clause-writes : goal.returns-in_err-write_through-clause-writes
returns-in_err-write_through-clause-writes g c = if_some (g.E.Extent.seen c.args.file.now).content _ (λ was told.
    let e = at_some (g.E.Extent.seen c.args.file.now).content was (λ w. (c.args.len ≡ length w) × (take 8 w ≡ mark) × EndsAt w c.args.len) told c.requires.ends in
    let is : c.from_residual-in_err-write_through.result ≡ Err Fault = search rules in
    subst (WritesStart was c.args.len (g.E.Extent.seen c.args.file.now) (g.E.Extent.seen c.write_through.new.file)) (sym is)
    (writes_in_part was c.args.len _ _ _ Fault (close_writes was c.args.len _ (g.E.Extent.seen c.args.file.now) (g.E.Extent.seen c.grow.new.self) (g.E.Extent.seen c.write_through.new.file) _ (Err _) c.requires.long e.0 e.1 e.2 c.grow.ensures.grows
    (at_some (g.E.Extent.seen c.grow.new.self).content was (λ w. IsThrough c.args.len (0 ∷ []) w (g.E.Extent.seen c.grow.new.self) (g.E.Extent.seen c.write_through.new.file) (Err _)) (c.grow.ensures.grows.same ∙ told) c.in_err-write_through.ensures.through))))

pub returns-clause-writes : goal.returns-clause-writes
returns-clause-writes g c = if_some (g.E.Extent.seen c.args.file.now).content _ (λ was told.
    let e = at_some (g.E.Extent.seen c.args.file.now).content was (λ w. (c.args.len ≡ length w) × (take 8 w ≡ mark) × EndsAt w c.args.len) told c.requires.ends in
    writes_whole was c.args.len _ _ _ _ (close_writes was c.args.len _ (g.E.Extent.seen c.args.file.now) (g.E.Extent.seen c.grow.new.self) (g.E.Extent.seen c.write_through.new.file) _ (Ok _) c.requires.long e.0 e.1 e.2 c.grow.ensures.grows
    (at_some (g.E.Extent.seen c.grow.new.self).content was (λ w. IsThrough c.args.len (0 ∷ []) w (g.E.Extent.seen c.grow.new.self) (g.E.Extent.seen c.write_through.new.file) (Ok _)) (c.grow.ensures.grows.same ∙ told) c.in_ok-write_through.ensures.through)))
