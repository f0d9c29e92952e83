-- How many calls on the device were made.
use Rattle.std.proofs.Common.{◌≡◌, ℕ, Err, ap, ◌∙◌, arith}
use Rattle.disk_base.specs.Faults.{added, one_more}
use Rattle.disk_base.specs.Disk.{FileView, CallsUpTo}
use Rattle.gate_log.specs.declared.fault.LogFault.{LogFault}
use Rattle.gate_log.specs.declared.fault.LogFault.TheVariants.{Fault, BadHead, BadChain, Shut, BadLength, Full, Memory}
use Rattle.gate_log.specs.GateLog.{PieceAnswers}

-- none
pub no_call : (limit : ℕ) (file : FileView) → CallsUpTo limit file file
no_call limit file = (0, omega arith, omega arith)

twice : (a : ℕ) → one_more (one_more a) ≡ added a 2
twice a = omega arith

pub piece_refused : (at count : ℕ) (old mid new : FileView) (cause : LogFault) → mid.calls ≡ one_more old.calls → PieceAnswers at count mid new (Err cause) → CallsUpTo 2 old new
piece_refused at count old mid new Fault before a = (2, omega arith, a ∙ ap one_more before ∙ twice old.calls)
piece_refused at count old mid new Memory before a = (1, omega arith, a ∙ before)
piece_refused at count old mid new (BadChain p) before a = absurd a
piece_refused at count old mid new Shut before a = absurd a
piece_refused at count old mid new BadHead before a = absurd a
piece_refused at count old mid new (BadLength n) before a = absurd a
piece_refused at count old mid new (Full n) before a = absurd a

pub at_most_two : (old mid new : FileView) → mid.calls ≡ one_more old.calls → new.calls ≡ one_more mid.calls → CallsUpTo 2 old new
at_most_two old mid new first second = (2, omega arith, second ∙ ap one_more first ∙ twice old.calls)
