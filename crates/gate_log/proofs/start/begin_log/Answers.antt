use Rattle.std.proofs.Common.{◌≡◌, ◌≤◌, length, [], ◌∷◌, ◌++◌, ◌∙◌, Ok, Err, sym, subst, rules}
use Rattle.gate_log.specs.LogFile.{mark}
use Rattle.gate_log.specs.GateLog.{IsThrough, WritesStart}
use Rattle.gate_log.specs.declared.fault.LogFault.TheVariants.{Fault}
use Rattle.gate_log.proofs.Fetch.{if_some, at_some}
use Rattle.gate_log.proofs.Begin.{begin_writes, writes_in_part, writes_whole}
use Rattle.gate_log.proofs.start.begin_log.Goals as goal

pub returns-in_err-write_through-clause-writes : goal.returns-in_err-write_through-clause-writes
returns-in_err-write_through-clause-writes g c = if_some (g.E.Extent.seen c.args.file.now).content _ (λ was told.
    let short = at_some (g.E.Extent.seen c.args.file.now).content was (λ w. length w ≤ 9) told c.requires.short in
    let is : c.from_residual-in_err-write_through.result ≡ Err Fault = search rules in
    subst (WritesStart was 8 (g.E.Extent.seen c.args.file.now) (g.E.Extent.seen c.write_through.new.file)) (sym is)
    (writes_in_part was 8 _ _ _ Fault (begin_writes was _ (g.E.Extent.seen c.args.file.now) (g.E.Extent.seen c.grow.new.self) (g.E.Extent.seen c.write_through.new.file) _ (Err _) c.grow.ensures.grows short
    (at_some (g.E.Extent.seen c.grow.new.self).content was (λ w. IsThrough 0 (mark ++ 0 ∷ []) w (g.E.Extent.seen c.grow.new.self) (g.E.Extent.seen c.write_through.new.file) (Err _)) (c.grow.ensures.grows.same ∙ told) c.in_err-write_through.ensures.through))))

pub returns-clause-writes : goal.returns-clause-writes
returns-clause-writes g c = if_some (g.E.Extent.seen c.args.file.now).content _ (λ was told.
    let short = at_some (g.E.Extent.seen c.args.file.now).content was (λ w. length w ≤ 9) told c.requires.short in
    writes_whole was 8 _ _ _ _ (begin_writes was _ (g.E.Extent.seen c.args.file.now) (g.E.Extent.seen c.grow.new.self) (g.E.Extent.seen c.write_through.new.file) _ (Ok _) c.grow.ensures.grows short
    (at_some (g.E.Extent.seen c.grow.new.self).content was (λ w. IsThrough 0 (mark ++ 0 ∷ []) w (g.E.Extent.seen c.grow.new.self) (g.E.Extent.seen c.write_through.new.file) (Ok _)) (c.grow.ensures.grows.same ∙ told) c.in_ok-write_through.ensures.through)))
