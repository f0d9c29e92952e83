-- What a crash leaves of a log, at each moment of a call that was to write a record, or of a start.
use Rattle.std.proofs.Common.{◌⊎◌, ℕ, Bool, true, false, List, Option, None, Some, Result, Ok, IfSome, IsSomeAnd, inl, inr, ap, subst}
use Rattle.disk_base.specs.Disk.{FileView, IsFile, AtEachMoment, OnlyReads}
use Rattle.disk_base.specs.Moments.{at_start, joined, weaker}
use Rattle.gate_log.specs.LogFile.{bodies_in, IsBeforeOrAfter, IsLogOf, IsSameOrOpen}
use Rattle.gate_log.specs.LogLaws.{images_keep, of_bodies, start_keeps}
use Rattle.gate_log.specs.GateLog.{LogView, LogOver, HasBodies, StartsWith, Starts, AppendsTo, Appends, shown}
use Rattle.gate_log.specs.declared.fault.LogFault.{LogFault}
use Rattle.code_mode.specs.declared.mode.Mode.{Mode}
use Rattle.volume_entry.specs.Manager.{ManagerRecord}
use Rattle.volume_entry.specs.Spelling.{Spells}
use Rattle.volume_entry.specs.Book.{BookOver, CrashAppends, CrashKeeps, CrashLeaves, MayHaveRecord, end_unless}

module _ (vid : ℕ) (mode : Mode) (item : ManagerRecord) where
  -- nothing was written
  pub crash_unwritten : (log : LogView) → IsFile log.file → CrashAppends vid mode item log log.file
  crash_unwritten log is = λ bodies has. at_start (MayHaveRecord vid mode bodies item) log.file (λ c left. inl (images_keep log bodies has c (is.present_alone c left)))

  -- a spelling was to be appended
  pub crash_appended : (body : List ℕ) → Spells vid mode item body → (old new : LogView) (result : Result ℕ LogFault) → Appends body old new result → CrashAppends vid mode item old new.file
  crash_appended body spells old new result appends = λ bodies has.
      weaker (IsBeforeOrAfter bodies body) (MayHaveRecord vid mode bodies item) old.file new.file
      (of_bodies old bodies (λ bs. AppendsTo bs body old new result) has appends).any_moment
      (λ c either. elim either [ inl before ↦ inl before | inr after ↦ inr (body, spells, after) ])

  -- the same of a book's log, which may be shut
  pub crash_unless : {E : Type 0} (seen : E → FileView) (is_shut : Bool) (old new : LogOver E) → CrashAppends vid mode item (shown seen old) (seen new.file)
      → CrashAppends vid mode item (shown seen (record { file = old.file; end = end_unless is_shut old.end })) (seen new.file)
  crash_unless seen true old new crash = λ bodies has. absurd has
  crash_unless seen false old new crash = crash

-- a book to which nothing was written
pub crash_still : {E : Type 0} (seen : E → FileView) (item : ManagerRecord) (book : BookOver E) → IsFile (seen book.log.file) → CrashLeaves seen item book book
crash_still seen item book is = crash_unwritten book.vid book.shape.mode item (shown seen book.log) is

-- ---- a start

-- what a crash may leave where a file was a log of these bodies
abbrev OldOrLog : FileView → List (List ℕ) → List ℕ → Type 0
OldOrLog old bodies image = old.images image ⊎ IsLogOf image bodies

-- a start, whatever it came to
pub crash_started : (old new : LogView) (result : Result (Unit {0}) LogFault) → Starts old new result → CrashKeeps old.file new.file
crash_started old new result starts = λ bodies told. go bodies old.file.content told starts
  where
    go : (bodies : List (List ℕ)) (content : Option (List ℕ)) → IsSomeAnd content (λ file. IsLogOf file bodies) → IfSome content (λ file. StartsWith {T = Unit {0}} file old new result)
        → AtEachMoment old.file new.file (OldOrLog old.file bodies)
    go bodies None none is = absurd none
    go bodies (Some file) log is =
        weaker (λ image. old.file.images image ⊎ IsSameOrOpen file image) (OldOrLog old.file bodies) old.file new.file is.any_moment
        (λ image either. elim either [ inl past ↦ inl past | inr same ↦ inr (start_keeps file image bodies log same) ])

-- .. and calls behind it that only read
pub crash_read : (old mid : LogView) (new : FileView) → Starts {T = Unit {0}} old mid (Ok tt) → OnlyReads mid.file new → CrashKeeps old.file new
crash_read old mid new starts only = λ bodies told.
    joined (OldOrLog old.file bodies) old.file mid.file new (crash_started old mid (Ok tt) starts bodies told)
    (weaker mid.file.images (OldOrLog old.file bodies) mid.file new only.moments (λ image left. inr (images_keep mid bodies (has bodies old.file.content told starts) image left)))
  where
    has : (bodies : List (List ℕ)) (content : Option (List ℕ)) → IsSomeAnd content (λ file. IsLogOf file bodies) → IfSome content (λ file. StartsWith {T = Unit {0}} file old mid (Ok tt)) → HasBodies mid bodies
    has bodies None none is = absurd none
    has bodies (Some file) log is = subst (HasBodies mid) (ap bodies_in log.stands) is.started
