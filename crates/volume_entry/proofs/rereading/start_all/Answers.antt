use Rattle.std.proofs.Common.{◌≡◌, sym, subst, rules, Err}
use Rattle.gate_log.specs.GateLog.{shown}
use Rattle.volume_entry.specs.BookStart.{IsStartOf}
use Rattle.volume_entry.specs.HeardMemory.{HeardMemory}
use Rattle.volume_entry.specs.declared.table.Table.{Table}
use Rattle.volume_entry.specs.TableParts.{part_of}
use Rattle.volume_entry.proofs.BookReads.{other_told}
use Rattle.volume_entry.proofs.rereading.start_all.Goals as goal

pub returns-in_err-table-clause-told : goal.returns-in_err-table-clause-told
returns-in_err-table-clause-told g c =
    let e = c.in_err-table.field-0.0 in
    let is : c.from_residual.result ≡ Err e = search rules in
    subst (IsStartOf (λ (found : Table × HeardMemory). part_of found.0) c.args.vid c.args.shape (shown g.E.Extent.seen c.args.log.now) (shown g.E.Extent.seen c.start_table.new.log)) (sym is)
    (λ bodies items part told spelled log. other_told part_of (λ (found : Table × HeardMemory). part_of found.0) bodies part (shown g.E.Extent.seen c.args.log.now) (shown g.E.Extent.seen c.start_table.new.log) e (c.in_err-table.ensures.told bodies items part told spelled log))
