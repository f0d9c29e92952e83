-- How the reading of a book's records goes on from one to the next.
use Rattle.std.proofs.Common.{◌≡◌, ◌∙◌, sym, ap, refl, subst, ℕ, zero, suc, ◌<◌, ◌≤◌, true, false, List, [], ◌∷◌, ◌++◌, append_assoc, map, Option, None, Some, Result, Ok, Err, IfSome, IsSomeAnd, arith}
use Rattle.std.proofs.lemmas.List.Sums.{sum_by-append, sum_by-cons}
use Rattle.std.proofs.lemmas.List.{append-nil}
use Rattle.disk_base.specs.Disk.{FileView}
use Rattle.gate_log.specs.LogFile.{Contents, holds, bad_head, bad_chain, contents_of, bodies_in, end_place, record_length, IsLogOf, IsSameOrOpen}
use Rattle.gate_log.specs.LogLaws.{start_keeps}
use Rattle.gate_log.specs.GateLog.{LogView, LogCall, HasBodies, StartEnds, StartsWith, Starts}
use Rattle.gate_log.specs.GateLog as starts
use Rattle.gate_log.specs.declared.fault.LogFault.{LogFault}
use Rattle.gate_log.specs.declared.fault.LogFault.TheVariants as logs
use Rattle.unit_id.specs.Place.{Location}
use Rattle.volume_entry.specs.Manager.{ManagerRecord, Manager, AreFirstHomes, LeadsBy, IsLog, fresh_manager, greatest_at, home_at, written}
use Rattle.volume_entry.specs.Spelling.{Spells}
use Rattle.volume_entry.specs.Replaying.{MakesTable, TakesBody}
use Rattle.volume_entry.specs.TableParts.{part_of, shape_of}
use Rattle.volume_entry.specs.Book.{AreSpelled, CountsFault, IsSoundPart}
use Rattle.volume_entry.specs.BookStart.{BodyAnswers, BodiesInOrder, IsReadTo, FirstAnswers, NextAnswers, AllAnswer, StartAnswers, IsStartFault, fault_by_start}
use Rattle.volume_entry.specs.declared.shape.Shape.{Shape}
use Rattle.volume_entry.specs.declared.table.Table.{Table}
use Rattle.volume_entry.specs.declared.fault.EntryFault.{EntryFault}
use Rattle.volume_entry.specs.declared.fault.EntryFault.TheVariants as faults
use Rattle.volume_entry.proofs.OneSpelling.{one_to_one}
use Rattle.volume_entry.proofs.NamedUnits.{named_first}
use Rattle.volume_entry.proofs.PlacedUnits.{placed_first}
use Rattle.volume_entry.proofs.SoundParts.{sound_after}
use Rattle.volume_entry.proofs.LogEnds.{reads_keep}
use Rattle.volume_entry.proofs.BookEnds.{log_says}

none_left : (bodies before after : List (List ℕ)) (place : ℕ) → bodies ≡ before ++ after → place ≡ end_place before → end_place bodies ≤ place → after ≡ []
none_left bodies before [] place are at past = refl
none_left bodies before (body ∷ rest) place are at past =
    absurd (omega (arith, ap end_place are, sum_by-append record_length before (body ∷ rest), sum_by-cons record_length body rest, at, past))

-- the places of a first table
greatest_first : (homes : List Location) (i : ℕ) → greatest_at (map (λ (home : Location). home.epoch) homes) i ≡ (home_at homes i).epoch
greatest_first [] i = refl
greatest_first (home ∷ homes) zero = refl
greatest_first (home ∷ homes) (suc i) = greatest_first homes i

pub sound_first : (shape : Shape) (place : ℕ) (homes : List Location) (m : Manager) → 1 ≤ place → AreFirstHomes (shape_of shape) homes → m ≡ fresh_manager homes → IsSoundPart (shape_of shape) (Some place) m
sound_first shape place homes m some first is = subst (IsSoundPart (shape_of shape) (Some place)) (sym is) (record {
  homes = first.count;
  moves = omega arith;
  named = named_first (shape_of shape) homes first;
  moves_named = λ t i. absurd i;
  placed = placed_first shape homes first;
  greatest = λ i below. let e = greatest_first homes i in let h = (first.epochs i below).1 in omega (arith, e, h);
  version = some;
  granted = omega arith;
})

pub sound_next : (shape : Shape) (vid place next : ℕ) (body : List ℕ) (old new : Manager) → place < next → IsSoundPart (shape_of shape) (Some place) old → TakesBody vid shape body old new true → IsSoundPart (shape_of shape) (Some next) new
sound_next shape vid place next body old new on is takes = subst (IsSoundPart (shape_of shape) (Some next)) (sym takes.3) (sound_after shape place next on old is takes.0 takes.2)

module _ (vid : ℕ) (shape : Shape) (bodies : List (List ℕ)) where
  -- ---- the first body

  pub first_made : (body : List ℕ) (next : ℕ) (table : Table) → ((before : List (List ℕ)) (b : List ℕ) (after : List (List ℕ)) → bodies ≡ before ++ b ∷ after → end_place [] ≡ end_place before → BodyAnswers b (end_place (before ++ b ∷ [])) (Ok (body, next)))
      → MakesTable vid shape body (Some table) → (items : List ManagerRecord) (part : Manager) → AreSpelled vid shape.mode items bodies → IsLog (shape_of shape) items part → IsReadTo vid shape bodies next (part_of table) part
  first_made body next table order makes items part spelled log = go bodies items refl spelled log
    where
      go : (bs : List (List ℕ)) (is : List ManagerRecord) → bodies ≡ bs → AreSpelled vid shape.mode is bs → IsLog (shape_of shape) is part → IsReadTo vid shape bodies next (part_of table) part
      go [] [] e s l = absurd l
      go [] (_ ∷ is) e s l = absurd s
      go (b ∷ bs) [] e s l = absurd s
      go (b ∷ bs) (ManagerRecord.Made homes ∷ is) e s l =
          let found = order [] b bs e refl in
          let same : ManagerRecord.Made makes.0 ≡ ManagerRecord.Made homes = one_to_one vid shape.mode (ManagerRecord.Made makes.0) (ManagerRecord.Made homes) b (subst (Spells vid shape.mode (ManagerRecord.Made makes.0)) found.0 makes.1) s.0 in
          let homes_same : makes.0 ≡ homes = cc in record {
            before = b ∷ [];
            after = bs;
            bodies_are = e;
            place_is = found.1;
            left = is;
            spelled = s.1;
            leads = subst (λ (m : Manager). LeadsBy (shape_of shape) m is part) (sym (makes.3 ∙ ap fresh_manager homes_same)) l.1;
          }
      go (b ∷ bs) (_ ∷ is) e s l = absurd l

  pub first_unmade : (body : List ℕ) (next : ℕ) → ((before : List (List ℕ)) (b : List ℕ) (after : List (List ℕ)) → bodies ≡ before ++ b ∷ after → end_place [] ≡ end_place before → BodyAnswers b (end_place (before ++ b ∷ [])) (Ok (body, next)))
      → MakesTable vid shape body None → (items : List ManagerRecord) (part : Manager) → AreSpelled vid shape.mode items bodies → IsLog (shape_of shape) items part → ⊥
  first_unmade body next order makes items part spelled log = go bodies items refl spelled log
    where
      go : (bs : List (List ℕ)) (is : List ManagerRecord) → bodies ≡ bs → AreSpelled vid shape.mode is bs → IsLog (shape_of shape) is part → ⊥
      go [] [] e s l = l
      go [] (_ ∷ is) e s l = s
      go (b ∷ bs) [] e s l = s
      go (b ∷ bs) (ManagerRecord.Made homes ∷ is) e s l =
          let found = order [] b bs e refl in
          makes homes (subst (Spells vid shape.mode (ManagerRecord.Made homes)) (sym found.0) s.0) l.0
      go (b ∷ bs) (_ ∷ is) e s l = l

  none_first : (why : EntryFault) → ((before : List (List ℕ)) (b : List ℕ) (after : List (List ℕ)) → bodies ≡ before ++ b ∷ after → end_place [] ≡ end_place before → BodyAnswers b (end_place (before ++ b ∷ [])) (Err why))
      → ((b : List ℕ) (next : ℕ) → BodyAnswers b next (Err why) → ⊥) → (items : List ManagerRecord) (part : Manager) → AreSpelled vid shape.mode items bodies → IsLog (shape_of shape) items part → ⊥
  none_first why order none items part spelled log = go bodies items refl spelled log
    where
      go : (bs : List (List ℕ)) (is : List ManagerRecord) → bodies ≡ bs → AreSpelled vid shape.mode is bs → IsLog (shape_of shape) is part → ⊥
      go [] [] e s l = l
      go [] (_ ∷ is) e s l = s
      go (b ∷ bs) [] e s l = s
      go (b ∷ bs) (_ ∷ is) e s l = none b (end_place (b ∷ [])) (order [] b bs e refl)

  -- where no body is had, the first place has none
  pub first_missing : (fault : EntryFault) → ((before : List (List ℕ)) (b : List ℕ) (after : List (List ℕ)) → bodies ≡ before ++ b ∷ after → end_place [] ≡ end_place before → BodyAnswers b (end_place (before ++ b ∷ [])) (Err fault))
      → FirstAnswers vid shape bodies (Err fault)
  first_missing faults.Fault order = tt
  first_missing faults.Memory order = tt
  first_missing (faults.Spoiled place) order = λ items part spelled log. none_first (faults.Spoiled place) order (λ b next h. h) items part spelled log
  first_missing faults.Shut order = λ items part spelled log. none_first faults.Shut order (λ b next h. h) items part spelled log

  -- ---- a further body

  module _ (place : ℕ) (now part : Manager) (read : IsReadTo vid shape bodies place now part) (below : place < end_place bodies) where
    pub next_taken : (body : List ℕ) (next : ℕ) (new : Manager) → BodiesInOrder bodies place (Ok (body, next)) → TakesBody vid shape body now new true → IsReadTo vid shape bodies next new part
    next_taken body next new order takes = go read.after read.left read.bodies_are read.spelled read.leads
      where
        go : (bs : List (List ℕ)) (is : List ManagerRecord) → bodies ≡ read.before ++ bs → AreSpelled vid shape.mode is bs → LeadsBy (shape_of shape) now is part → IsReadTo vid shape bodies next new part
        go [] is e s l = absurd (omega (arith, ap end_place (e ∙ append-nil read.before), read.place_is, below))
        go (b ∷ bs) [] e s l = absurd s
        go (b ∷ bs) (item ∷ is) e s l =
            let found = order read.before b bs e read.place_is in
            let same : takes.0 ≡ item = one_to_one vid shape.mode takes.0 item b (subst (Spells vid shape.mode takes.0) found.0 takes.1) s.0 in record {
              before = read.before ++ b ∷ [];
              after = bs;
              bodies_are = e ∙ sym (append_assoc read.before (b ∷ []) bs);
              place_is = found.1;
              left = is;
              spelled = s.1;
              leads = subst (λ (m : Manager). LeadsBy (shape_of shape) m is part) (sym (takes.3 ∙ ap (λ i. written i now) same)) l.1;
            }

    pub next_refused : (body : List ℕ) (next : ℕ) (new : Manager) → BodiesInOrder bodies place (Ok (body, next)) → TakesBody vid shape body now new false → ⊥
    next_refused body next new order takes = go read.after read.left read.bodies_are read.spelled read.leads
      where
        go : (bs : List (List ℕ)) (is : List ManagerRecord) → bodies ≡ read.before ++ bs → AreSpelled vid shape.mode is bs → LeadsBy (shape_of shape) now is part → ⊥
        go [] is e s l = omega (arith, ap end_place (e ∙ append-nil read.before), read.place_is, below)
        go (b ∷ bs) [] e s l = s
        go (b ∷ bs) (item ∷ is) e s l =
            let found = order read.before b bs e read.place_is in
            takes.0 item (subst (Spells vid shape.mode item) (sym found.0) s.0) l.0

    none_next : (why : EntryFault) → BodiesInOrder bodies place (Err why) → ((b : List ℕ) (next : ℕ) → BodyAnswers b next (Err why) → ⊥) → ⊥
    none_next why order none = go read.after read.left read.bodies_are read.spelled
      where
        go : (bs : List (List ℕ)) (is : List ManagerRecord) → bodies ≡ read.before ++ bs → AreSpelled vid shape.mode is bs → ⊥
        go [] is e s = omega (arith, ap end_place (e ∙ append-nil read.before), read.place_is, below)
        go (b ∷ bs) is e s = none b (end_place (read.before ++ b ∷ [])) (order read.before b bs e read.place_is)

  pub next_missing : (place : ℕ) (old new : Manager) (fault : EntryFault) → BodiesInOrder bodies place (Err fault) → NextAnswers vid shape bodies place old new (Err fault)
  next_missing place old new faults.Fault order = tt
  next_missing place old new faults.Memory order = tt
  next_missing place old new (faults.Spoiled at) order = λ part read below. none_next place old part read below (faults.Spoiled at) order (λ b next h. h)
  next_missing place old new faults.Shut order = λ part read below. none_next place old part read below faults.Shut order (λ b next h. h)

  -- ---- the end

  pub read_all : (place : ℕ) (now part : Manager) → IsReadTo vid shape bodies place now part → end_place bodies ≤ place → now ≡ part
  read_all place now part read past = go read.after read.left (none_left bodies read.before read.after place read.bodies_are read.place_is past) read.spelled read.leads
    where
      go : (bs : List (List ℕ)) (is : List ManagerRecord) → bs ≡ [] → AreSpelled vid shape.mode is bs → LeadsBy (shape_of shape) now is part → now ≡ part
      go [] [] e s l = sym l
      go [] (_ ∷ is) e s l = absurd s
      go (b ∷ bs) is e s l = cc

  pub all_refused : (place : ℕ) (now new part : Manager) (fault : EntryFault) → IsReadTo vid shape bodies place now part → place < end_place bodies → NextAnswers vid shape bodies place now new (Err fault) → AllAnswer part_of (end_place bodies) part (Err fault)
  all_refused place now new part faults.Fault read below is = tt
  all_refused place now new part faults.Memory read below is = tt
  all_refused place now new part (faults.Spoiled at) read below is = absurd (is part read below)
  all_refused place now new part faults.Shut read below is = absurd (is part read below)

  pub all_unmade : (items : List ManagerRecord) (part : Manager) (fault : EntryFault) → AreSpelled vid shape.mode items bodies → IsLog (shape_of shape) items part → FirstAnswers vid shape bodies (Err fault) → AllAnswer part_of (end_place bodies) part (Err fault)
  all_unmade items part faults.Fault spelled log is = tt
  all_unmade items part faults.Memory spelled log is = tt
  all_unmade items part (faults.Spoiled at) spelled log is = absurd (is items part spelled log)
  all_unmade items part faults.Shut spelled log is = absurd (is items part spelled log)

-- ---- options and ends

pub at_some : {A : Type 0} (o : Option A) (x : A) (P : A → Type 0) → o ≡ Some x → IfSome o P → P x
at_some o x P e h = subst (λ p. IfSome p P) e h

pub if_at : {A : Type 0} (o : Option A) (x : A) (P : A → Type 0) → o ≡ Some x → P x → IfSome o P
if_at o x P e h = subst (λ p. IfSome p P) (sym e) h

pub same_place : (end : Option ℕ) (a b : ℕ) → end ≡ Some a → end ≡ Some b → a ≡ b
same_place end a b e f = cc

-- ---- a whole start

module _ {T : Type 0} (part_in : T → Manager) (bodies : List (List ℕ)) (part : Manager) (old new : LogView) where
  pub started_told : (result : Result T EntryFault) → HasBodies new bodies → AllAnswer part_in (end_place bodies) part result → StartAnswers part_in bodies part old new result
  started_told (Ok found) has is = (is, has)
  started_told (Err faults.Fault) has is = log_says new bodies has
  started_told (Err faults.Memory) has is = (log_says new bodies has, λ _. has)
  started_told (Err (faults.Spoiled place)) has is = (is.0, is.1, log_says new bodies has)
  started_told (Err faults.Shut) has is = absurd is

  not_bad : (content : Option (List ℕ)) (bad : Contents) → (holds bodies ≡ bad → ⊥) → IsSomeAnd content (λ file. IsLogOf file bodies) → IfSome content (λ file. contents_of file ≡ bad) → ⊥
  not_bad None bad apart told is = absurd told
  not_bad (Some file) bad apart told is = apart (sym told.stands ∙ is)

  still_says : (before after : Option (List ℕ)) → after ≡ before → IsSomeAnd before (λ file. IsLogOf file bodies) → IsSomeAnd after (λ file. IsLogOf file bodies)
  still_says before after same told = subst (λ o. IsSomeAnd o (λ file. IsLogOf file bodies)) (sym same) told

  says_same : (before after : Option (List ℕ)) (fault : LogFault) → IsSomeAnd before (λ file. IsLogOf file bodies) → IfSome before (λ file. StartsWith {T = Unit {0}} file old new (Err fault)) → after ≡ new.file.content → IsSomeAnd after (λ file. IsLogOf file bodies)
  says_same None after why told starts same = absurd told
  says_same (Some file) after why told starts same = subst (λ o. IsSomeAnd o (λ image. IsLogOf image bodies)) (sym same) (go new.file.content starts.says)
    where
      go : (content : Option (List ℕ)) → IsSomeAnd content (IsSameOrOpen file) → IsSomeAnd content (λ image. IsLogOf image bodies)
      go None none = absurd none
      go (Some image) is = start_keeps file image bodies told is

  pub refused_told : (fault : LogFault) → starts.StartAnswers {T = Unit {0}} old.file.content (Err fault) → StartEnds old new (Err fault) → Starts {T = Unit {0}} old new (Err fault) → IsSomeAnd old.file.content (λ file. IsLogOf file bodies)
      → StartAnswers part_in bodies part old new (Err (fault_by_start fault))
  refused_told logs.Fault answer ends starts_ told = says_same old.file.content new.file.content logs.Fault told starts_ refl
  refused_told logs.Memory answer ends starts_ told = (still_says old.file.content new.file.content ends.1.same told, λ has. reads_keep old new bodies ends.0 ends.1 has)
  refused_told logs.BadHead answer ends starts_ told = absurd (not_bad old.file.content bad_head (λ e. cc) told answer)
  refused_told (logs.BadChain place) answer ends starts_ told = absurd (not_bad old.file.content (bad_chain place) (λ e. cc) told answer)
  refused_told logs.Shut answer ends starts_ told = absurd answer
  refused_told (logs.BadLength len) answer ends starts_ told = absurd answer
  refused_told (logs.Full end) answer ends starts_ told = absurd answer

  -- a start that was done has the bodies that the file stood for
  pub started_has : (content : Option (List ℕ)) → IsSomeAnd content (λ file. IsLogOf file bodies) → IfSome content (λ file. StartsWith {T = Unit {0}} file old new (Ok tt)) → HasBodies new bodies
  started_has None told starts_ = absurd told
  started_has (Some file) told starts_ = subst (HasBodies new) (ap bodies_in told.stands) starts_.started

pub start_cause : (content : Option (List ℕ)) (fault : LogFault) → starts.StartAnswers {T = Unit {0}} content (Err fault) → IsStartFault fault
start_cause content logs.Fault is = tt
start_cause content logs.Memory is = tt
start_cause content logs.BadHead is = tt
start_cause content (logs.BadChain place) is = tt
start_cause content logs.Shut is = absurd is
start_cause content (logs.BadLength len) is = absurd is
start_cause content (logs.Full end) is = absurd is

pub start_counts : (fault : LogFault) (old new : FileView) → IsStartFault fault → LogCall {T = Unit {0}} old new (Err fault) → CountsFault {T = Table} old.faults new.faults (Err (fault_by_start fault))
start_counts logs.Fault old new cause call = call.counts
start_counts logs.Memory old new cause call = call.counts
start_counts logs.BadHead old new cause call = call.counts
start_counts (logs.BadChain place) old new cause call = call.counts
start_counts logs.Shut old new cause call = absurd cause
start_counts (logs.BadLength len) old new cause call = absurd cause
start_counts (logs.Full end) old new cause call = absurd cause

module _ {T U : Type 0} (one : T → Manager) (other : U → Manager) (bodies : List (List ℕ)) (part : Manager) (old new : LogView) where
  -- what a refusal tells, whatever would be answered
  pub other_told : (why : EntryFault) → StartAnswers one bodies part old new (Err why) → StartAnswers other bodies part old new (Err why)
  other_told faults.Fault is = is
  other_told faults.Memory is = is
  other_told (faults.Spoiled place) is = is
  other_told faults.Shut is = is

  -- a start that was done, behind which memory runs out
  pub unheard_told : (found : T) → StartAnswers one bodies part old new (Ok found) → StartAnswers other bodies part old new (Err faults.Memory)
  unheard_told found is = (log_says new bodies is.1, λ _. is.1)
