use Rattle.std.proofs.Common.{◌≡◌, ◌≤◌, length, take, sym, ◌∙◌, arith}
use Rattle.std.specs.Prelude.{bytes_eq}
use Rattle.disk_base.specs.Disk.{LeavesExactly}
use Rattle.gate_log.specs.LogFile.{mark}
use Rattle.gate_log.proofs.Fetch.{if_some, at_some}
use Rattle.gate_log.proofs.Begin.{no_mark}
use Rattle.gate_log.proofs.start.open_file.Goals as goal

pub returns-then-not-branch-clause-answer : goal.returns-then-not-branch-clause-answer
returns-then-not-branch-clause-answer g c = if_some (g.E.Extent.seen c.args.file.now).content _ (λ was told.
    let now = c.settle.ensures.reads.only.same ∙ told in
    let s = at_some (g.E.Extent.seen c.args.file.now).content was (λ w. (c.in_ok-len.len ≡ length w) × LeavesExactly w (g.E.Extent.seen c.settle.new.file).images) told c.in_ok-len.ensures.answer.1 in
    let tests = at_some (g.E.Extent.seen c.settle.new.file).content was (λ w. 8 ≤ length w → c.in_ok-has_mark.field-0 ≡ bytes_eq (take 8 w) mark) now c.in_ok-has_mark.ensures.mark in
    no_mark was (omega (arith, s.0)) (sym (tests (omega (arith, s.0))) ∙ c.if-not-branch.true))
