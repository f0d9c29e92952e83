-- By how much the end of a log moves on.
use Rattle.std.proofs.Common.{◌≡◌, sym, refl, subst, ℕ, ◌≤◌, ◌+◌, Bool, true, false, Option, None, Some, Result, Ok, Err, arith}
use Rattle.std.specs.Prelude.{IfSome}
use Rattle.disk_base.specs.Disk.{FileView}
use Rattle.gate_log.specs.GateLog.{LogView, AppendAnswers}
use Rattle.volume_entry.specs.Manager.{ManagerRecord}
use Rattle.volume_entry.specs.Book.{BookOver, AppendEnds, WriteEnds, GrowsUpTo, EndGrows, LeavesEnd, end_unless}
use Rattle.volume_entry.specs.declared.fault.EntryFault.{EntryFault}
use Rattle.volume_entry.specs.declared.fault.EntryFault.TheVariants as faults

pub grows_same : (most : ℕ) (end : Option ℕ) → GrowsUpTo most end end
grows_same most None = tt
grows_same most (Some place) = omega arith

-- after a refusal the log is shut, or ends where it did
pub grows_refused : (most : ℕ) (fault : EntryFault) (old new : LogView) → AppendEnds old new (Err fault) → GrowsUpTo most old.end new.end
grows_refused most faults.Fault old new ends = subst (GrowsUpTo most old.end) (sym ends) tt
grows_refused most faults.Memory old new ends = subst (GrowsUpTo most old.end) (sym ends) (grows_same most old.end)
grows_refused most _ old new ends = absurd ends

pub grows_appended : (count size place : ℕ) (old new : LogView) → count ≡ size → AppendAnswers count old new (Ok place) → GrowsUpTo (5 + size) old.end new.end
grows_appended count size place old new same answer =
    subst (λ o. GrowsUpTo (5 + size) o new.end) (sym answer.0) (subst (GrowsUpTo (5 + size) (Some place)) (sym answer.1) (omega (arith, same)))

-- the same of a book, which may be shut
pub grows_unless : (is_shut : Bool) (size : ℕ) (old new : Option ℕ) → size ≤ 122 → GrowsUpTo (5 + size) old new → EndGrows (end_unless is_shut old) (end_unless is_shut new)
grows_unless true size old new small grows = tt
grows_unless false size old None small grows = tt
grows_unless false size None (Some end) small grows = absurd grows
grows_unless false size (Some place) (Some end) small grows = omega (arith, small, grows)

-- ---- after an error

-- an end is where it is
pub leaves_same : (end : Option ℕ) → IfSome end (λ place. end ≡ Some place)
leaves_same None = tt
leaves_same (Some place) = refl

pub leaves_equal : (old new : Option ℕ) → new ≡ old → IfSome new (λ place. old ≡ Some place)
leaves_equal old new same = subst (λ end. IfSome end (λ place. old ≡ Some place)) (sym same) (leaves_same old)

-- a write that failed shuts the log, and one that wanted memory leaves it
pub write_leaves : {E : Type 0} (seen : E → FileView) (item : ManagerRecord) (old new : BookOver E) (result : Result (Unit {0}) EntryFault) → WriteEnds seen item old new result
    → LeavesEnd old.log.end new.log.end result
write_leaves seen item old new (Ok done) ends = tt
write_leaves seen item old new (Err faults.Fault) ends = subst (λ end. IfSome end (λ place. old.log.end ≡ Some place)) (sym ends.1) tt
write_leaves seen item old new (Err faults.Memory) ends = leaves_equal old.log.end new.log.end ends.1
write_leaves seen item old new (Err faults.Shut) ends = absurd ends
write_leaves seen item old new (Err (faults.Spoiled place)) ends = absurd ends
