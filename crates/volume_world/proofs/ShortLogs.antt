-- The manager's log of a world is short: a step makes it longer by one record at most, a start leaves it, and so a start finds it short enough.
use Rattle.std.proofs.Common.{◌≡◌, ◌∙◌, sym, ap, refl, subst, ℕ, ◌+◌, ◌*◌, ◌<◌, ◌≤◌, inl, inr, Bool, false, List, [], ◌∷◌, ◌++◌, length, Option, None, Some, Err, IfSome, IsSomeAnd, arith}
use Rattle.std.specs.List.{flat_map}
use Rattle.std.proofs.lemmas.List.{length-append}
use Rattle.std.proofs.lemmas.List.Sums.{sum_by-append, sum_by-cons}
use Rattle.disk_base.specs.Disk.{FileView, IsFile}
use Rattle.gate_log.specs.LogFile.{IsLogOf, bodies_in, end_place, record_length}
use Rattle.gate_log.specs.GateLog.{LogView, HasBodies, shown}
use Rattle.code_mode.specs.declared.mode.Mode.{Mode}
use Rattle.volume_entry.specs.Manager.{Grant, Manager, ManagerRecord, IsLegal, IsLog, written}
use Rattle.volume_entry.specs.ManagerStep.{lock_record, retarget_record, grants_of}
use Rattle.volume_entry.specs.Spelling.{Spells, fields_of, grant_bytes}
use Rattle.volume_entry.specs.TableParts.{shape_of}
use Rattle.volume_entry.specs.Book.{AreSpelled, CrashAppends, CrashLeaves, KeepsBodies, MayHaveRecord, SaysRecords, item_size}
use Rattle.volume_entry.specs.BookStart.{IsSpoiledAtEnd, last_start}
use Rattle.volume_entry.specs.Entry.{EntryOver, FitsEvent, logged}
use Rattle.volume_entry.specs.Entry as entries
use Rattle.volume_entry.specs.declared.event.ManagerEvent.{ManagerEvent}
use Rattle.volume_entry.specs.declared.event.ManagerEvent.TheVariants as steps
use Rattle.volume_entry.specs.declared.fault.EntryFault.TheVariants as faults
use Rattle.volume_entry.specs.declared.shape.Shape.{Shape}
use Rattle.volume_entry.proofs.Grants.{grants_length}
use Rattle.volume_entry.proofs.LogEnds.{spelled_length}
use Rattle.volume_entry.proofs.BookEnds.{log_says, spelled_more}
use Rattle.volume_entry.proofs.SoundParts.{few_grants, log_more}
use Rattle.volume_world.specs.Stepping.{IsShort}

-- ---- the record of a step

-- what a step at this time is to write
abbrev pub item_of : ManagerEvent → ℕ → Manager → ManagerRecord
item_of steps.Lease time part = ManagerRecord.Leased (time + 10)
item_of (steps.Lock task targets) time part = lock_record task targets part
item_of (steps.Retarget task index disk) time part = retarget_record index disk part
item_of (steps.Swap task) time part = ManagerRecord.Swapped
item_of (steps.Unlock task) time part = ManagerRecord.Unlocked
item_of (steps.Ask bid) time part = ManagerRecord.Asked bid
item_of (steps.Commit bid) time part = ManagerRecord.Committed bid

grants_bytes : (grants : List Grant) → length (flat_map grant_bytes grants) ≡ 9 * length grants
grants_bytes [] = refl
grants_bytes (grant ∷ grants) = let rest = grants_bytes grants in let sum = length-append (grant_bytes grant) (flat_map grant_bytes grants) in omega (arith, rest, sum)

-- with the gate and the length before it, it has at most 128 bytes
pub step_small : (shape : Shape) (vid : ℕ) (event : ManagerEvent) (time : ℕ) (part : Manager) → FitsEvent (shape_of shape) event
    → item_size vid shape.mode (item_of event time part) ≤ 122
unfolding fields_of
step_small shape vid steps.Lease time part fits = omega arith
step_small shape vid (steps.Lock task targets) time part fits =
    let bytes = grants_bytes (grants_of part.greatest targets) in
    let count = grants_length part.greatest targets in
    let few = few_grants shape (length targets) fits.most in
    omega (arith, bytes, count, few)
step_small shape vid (steps.Retarget task index disk) time part fits = omega arith
step_small shape vid (steps.Swap task) time part fits = omega arith
step_small shape vid (steps.Unlock task) time part fits = omega arith
step_small shape vid (steps.Ask bid) time part fits = omega arith
step_small shape vid (steps.Commit bid) time part fits = omega arith

-- ---- one list of bodies

-- a file is the log of one list of bodies at most
pub one_log : (file : List ℕ) (one other : List (List ℕ)) → IsLogOf file one → IsLogOf file other → one ≡ other
one_log file one other is was = ap bodies_in (sym is.stands ∙ was.stands)

-- the bodies of a file that tells a log
told_ends : (most : ℕ) (bodies : List (List ℕ)) (content : Option (List ℕ)) → IsSomeAnd content (λ file. IsLogOf file bodies) → end_place bodies ≤ most
    → (other : List (List ℕ)) → IsSomeAnd content (λ file. IsLogOf file other) → end_place other ≤ most
told_ends most bodies None none below other log = absurd none
told_ends most bodies (Some file) is below other log = subst (λ bs. end_place bs ≤ most) (one_log file bodies other is log) below

-- where a log with one body more ends
one_more : (bodies : List (List ℕ)) (body : List ℕ) → end_place (bodies ++ body ∷ []) ≡ end_place bodies + 5 + length body
one_more bodies body = omega (arith, sum_by-append record_length bodies (body ∷ []), sum_by-cons record_length body [])

-- ---- a step

module _ (vid : ℕ) (mode : Mode) (item : ManagerRecord) (small : item_size vid mode item ≤ 122) (bodies : List (List ℕ)) where
  -- a file that is a log with the record or without it
  record_ends : (entries : ℕ) → end_place bodies ≤ 384 + 128 * entries → (content : Option (List ℕ)) → IfSome content (MayHaveRecord vid mode bodies item)
      → (other : List (List ℕ)) → IsSomeAnd content (λ file. IsLogOf file other) → end_place other ≤ 384 + 128 * (entries + 1)
  record_ends entries below None is other log = absurd log
  record_ends entries below (Some file) (inl before) other log = told_ends (384 + 128 * (entries + 1)) bodies (Some file) before (omega (arith, below)) other log
  record_ends entries below (Some file) (inr after) other log =
      let long : end_place (bodies ++ after.0 ∷ []) ≡ end_place bodies + 5 + length after.0 = one_more bodies after.0 in
      let size : length after.0 ≡ item_size vid mode item = spelled_length vid mode item after.0 after.1 in
      told_ends (384 + 128 * (entries + 1)) (bodies ++ after.0 ∷ []) (Some file) after.2 (omega (arith, below, long, size, small)) other log

  -- what a crash leaves at the last moment of a call is what the file then tells
  told_at_last : (old : LogView) (new : FileView) → IsFile new → HasBodies old bodies → CrashAppends vid mode item old new → IfSome new.content (MayHaveRecord vid mode bodies item)
  told_at_last old new is has crash = go new.content is.content_is_image where
    go : (content : Option (List ℕ)) → IfSome content new.images → IfSome content (MayHaveRecord vid mode bodies item)
    go None left = tt
    go (Some file) left = let moments = crash bodies has in moments.each file (is.present_counts old.file.clock file moments.never_falls left)

module _ {E : Type 0} (seen : E → FileView) where
  -- a log that isn't shut has at most one record more behind a step, whatever that answers
  pub short_step : (old new : EntryOver E) (m : Manager) (item : ManagerRecord) (count : ℕ) → IsFile (seen new.book.log.file) → entries.Stands seen old m → m.is_shut ≡ false
      → item_size old.book.vid old.book.shape.mode item ≤ 122 → CrashLeaves seen item old.book new.book
      → IsShort count (seen old.book.log.file) → IsShort (count + 1) (seen new.book.log.file)
  short_step old new m item count is stands open_ small crash short =
      let log = shown seen old.book.log in
      let bodies = stands.book.bodies in
      let has : HasBodies log bodies = (stands.book.open_ open_).has in
      record_ends old.book.vid old.book.shape.mode item small bodies count (short bodies (log_says log bodies has)) (seen new.book.log.file).content
      (told_at_last old.book.vid old.book.shape.mode item small bodies log (seen new.book.log.file) is has crash)

-- ---- a start

-- what a file tells is a log of legal records: those that were written, or these and the one in doubt
record IsOfRecords (vid : ℕ) (shape : Shape) (content : Option (List ℕ)) : Type 0 where
  bodies : List (List ℕ)
  items : List ManagerRecord
  part : Manager
  tells : IsSomeAnd content (λ file. IsLogOf file bodies)
  spelled : AreSpelled vid shape.mode items bodies
  legal : IsLog (shape_of shape) items part

module _ (vid : ℕ) (shape : Shape) (items : List ManagerRecord) (bodies : List (List ℕ)) (part : Manager) (legal : IsLog (shape_of shape) items part)
    (spelled : AreSpelled vid shape.mode items bodies) where
  as_written : (content : Option (List ℕ)) → IsSomeAnd content (λ file. IsLogOf file bodies) → IsOfRecords vid shape content
  as_written content tells = record { bodies = bodies; items = items; part = part; tells = tells; spelled = spelled; legal = legal }

  of_records : (doubt : Option ManagerRecord) (content : Option (List ℕ)) → IsSomeAnd content (SaysRecords vid shape.mode bodies doubt)
      → IfSome doubt (λ item. IsLegal (shape_of shape) part item) → IsOfRecords vid shape content
  of_records doubt None says may = absurd says
  of_records None (Some file) says may = as_written (Some file) says
  of_records (Some item) (Some file) (inl before) may = as_written (Some file) before
  of_records (Some item) (Some file) (inr after) may = record {
    bodies = bodies ++ after.0 ∷ [];
    items = items ++ item ∷ [];
    part = written item part;
    tells = after.2;
    spelled = spelled_more vid shape.mode items bodies item after.0 spelled after.1;
    legal = log_more (shape_of shape) items part item legal may;
  }

module _ {E : Type 0} (seen : E → FileView) (entry : EntryOver E) (m : Manager) (stands : entries.Stands seen entry m) where
  told_records : IsOfRecords entry.book.vid entry.book.shape (seen entry.book.log.file).content
  told_records =
      let kept = stands.book in
      of_records entry.book.vid entry.book.shape kept.items kept.bodies (logged m) kept.legal kept.spelled m.doubt (seen entry.book.log.file).content kept.says kept.doubtful

  -- no body comes or goes by a start
  pub short_start : (new : FileView) (count : ℕ) → KeepsBodies (seen entry.book.log.file) new → IsShort count (seen entry.book.log.file) → IsShort count new
  short_start new count keeps short other log =
      let told = told_records in
      told_ends (384 + 128 * count) told.bodies new.content (keeps told.bodies told.tells) (short told.bodies told.tells) other log

  -- and a log that is short enough isn't spoiled
  pub not_spoiled : (count place : ℕ) → 384 + 128 * count ≤ last_start → IsShort count (seen entry.book.log.file)
      → IsSpoiledAtEnd {T = Bool} entry.book.vid entry.book.shape (seen entry.book.log.file) (Err (faults.Spoiled place)) → ⊥
  not_spoiled count place few short spoiled =
      let told = told_records in
      let at = spoiled told.bodies told.items told.part told.tells told.spelled told.legal in
      let below = short told.bodies told.tells in
      omega (arith, few, below, at.0, at.1)
