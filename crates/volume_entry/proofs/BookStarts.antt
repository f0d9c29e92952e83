-- For which part a book stands after a start.
use Rattle.std.proofs.Common.{◌≡◌, ◌∙◌, sym, ap, refl, subst, ℕ, ◌<◌, ◌⊎◌, inl, inr, Bool, true, false, not, ◌==◌, nat_lt, List, [], ◌∷◌, ◌++◌, Option, None, Some, Result, Ok, Err, IfSome, IsSomeAnd, arith}
use Rattle.std.specs.Prelude.{is_some, is_none}
use Rattle.std.proofs.lemmas.Bool.Decides.{nat_tests}
use Rattle.std.proofs.lemmas.List.Sums.{sum_by-append, sum_by-cons}
use Rattle.disk_base.specs.Disk.{FileView}
use Rattle.gate_log.specs.LogFile.{IsLogOf, end_place, record_length}
use Rattle.gate_log.specs.GateLog.{LogOver, LogView, HasBodies, shown}
use Rattle.code_mode.specs.declared.mode.Mode.{Mode}
use Rattle.volume_entry.specs.HeardMemory.{HeardMemory}
use Rattle.volume_entry.specs.Manager.{ManagerRecord, Manager, IsLegal, IsLog, written}
use Rattle.volume_entry.specs.Spelling.{Spells}
use Rattle.volume_entry.specs.TableParts.{shape_of}
use Rattle.volume_entry.proofs.BookLasts.{leaves_same}
use Rattle.volume_entry.specs.Book.{BookOver, end_unless, AreSpelled, SaysRecords, MayHaveRecord, Keeps, CountsFault, IsSoundPart}
use Rattle.volume_entry.specs.BookStart.{StartAnswers, IsStartOf, IsStartCause, is_behind, ends_differ, shut_after, found_part, Started, StartsBook, IsForgetful, last_start}
use Rattle.volume_entry.specs.declared.shape.Shape.{Shape}
use Rattle.volume_entry.specs.declared.table.Table.{Table}
use Rattle.volume_entry.specs.declared.fault.EntryFault.{EntryFault}
use Rattle.volume_entry.specs.declared.fault.EntryFault.TheVariants as faults
use Rattle.volume_entry.proofs.LogEnds.{ends_behind}
use Rattle.volume_entry.proofs.BookEnds.{log_says, is_started, spelled_more}
use Rattle.volume_entry.proofs.SoundParts.{log_more}

true_false : (b : Bool) → b ≡ true → b ≡ false → ⊥
true_false true e f = cc
true_false false e f = cc

not_behind : (end doubt : Option ℕ) → is_some doubt ≡ false → is_behind end doubt ≡ false
not_behind None None e = refl
not_behind (Some end) None e = refl
not_behind end (Some place) e = cc

-- a place isn't behind itself, and a further record's end is
at_itself : (end doubt : Option ℕ) (place : ℕ) → end ≡ Some place → is_some doubt ≡ true → IfSome doubt (λ at. at ≡ place) → is_behind end doubt ≡ false
at_itself end None place e s h = cc
at_itself end (Some at) place e s h = ap (λ o. is_behind o (Some at)) e ∙ ap (λ n. nat_lt n place) h ∙ below_itself place
  where
    below_itself : (n : ℕ) → nat_lt n n ≡ false
    below_itself n = grind (arith, nat_tests)

at_further : (end doubt : Option ℕ) (place next : ℕ) → end ≡ Some next → place < next → is_some doubt ≡ true → IfSome doubt (λ at. at ≡ place) → is_behind end doubt ≡ true
at_further end None place next e below s h = cc
at_further end (Some at) place next e below s h = ap (λ o. is_behind o (Some at)) e ∙ ap (λ n. nat_lt n next) h ∙ grind (arith, nat_tests, below)

further : (bodies : List (List ℕ)) (body : List ℕ) → end_place bodies < end_place (bodies ++ body ∷ [])
further bodies body = omega (arith, sum_by-append record_length bodies (body ∷ []), sum_by-cons record_length body [])

same_ends : (one other : Option ℕ) (place : ℕ) → one ≡ Some place → other ≡ Some place → ends_differ one other ≡ false
same_ends one other place e f = ap (λ o. ends_differ o other) e ∙ ap (λ o. ends_differ (Some place) o) f ∙ itself place
  where
    itself : (n : ℕ) → not (n == n) ≡ false
    itself n = grind (arith, nat_tests)

says_cases : (vid : ℕ) (mode : Mode) (bodies : List (List ℕ)) (item : ManagerRecord) (content : Option (List ℕ)) → IsSomeAnd content (MayHaveRecord vid mode bodies item)
    → IsSomeAnd content (λ file. IsLogOf file bodies) ⊎ ((body : List ℕ) × Spells vid mode item body × IsSomeAnd content (λ file. IsLogOf file (bodies ++ body ∷ [])))
says_cases vid mode bodies item None none = absurd none
says_cases vid mode bodies item (Some file) (inl log) = inl log
says_cases vid mode bodies item (Some file) (inr more) = inr (more.0, more.1, more.2)

says_plain : (vid : ℕ) (mode : Mode) (bodies : List (List ℕ)) (doubt : Option ManagerRecord) (content : Option (List ℕ)) → IsSomeAnd content (λ file. IsLogOf file bodies) → IsSomeAnd content (SaysRecords vid mode bodies doubt)
says_plain vid mode bodies doubt None none = absurd none
says_plain vid mode bodies None (Some file) log = log
says_plain vid mode bodies (Some item) (Some file) log = inl log

says_more : (vid : ℕ) (mode : Mode) (bodies : List (List ℕ)) (item : ManagerRecord) (body : List ℕ) (content : Option (List ℕ)) → Spells vid mode item body → IsSomeAnd content (λ file. IsLogOf file (bodies ++ body ∷ []))
    → IsSomeAnd content (SaysRecords vid mode bodies (Some item))
says_more vid mode bodies item body None spells none = absurd none
says_more vid mode bodies item body (Some file) spells log = inr (body, spells, log)

-- whatever a start answers, the file says the same
answer_says : {T : Type 0} (part_in : T → Manager) (bodies : List (List ℕ)) (part : Manager) (old new : LogView) (why : EntryFault) → StartAnswers part_in bodies part old new (Err why) → IsSomeAnd new.file.content (λ file. IsLogOf file bodies)
answer_says part_in bodies part old new faults.Fault is = is
answer_says part_in bodies part old new faults.Memory is = is.0
answer_says part_in bodies part old new (faults.Spoiled place) is = is.2
answer_says part_in bodies part old new faults.Shut is = absurd is

module _ {E : Type 0} (seen : E → FileView) (vid : ℕ) (shape : Shape) (before after : LogOver E) (old new : Manager) (at : Option ℕ) (was_shut : Bool) where
  abbrev book : Bool → LogOver E → Manager → Option ℕ → BookOver E
  book is_shut log part in_doubt = record { vid = vid; shape = shape; log = record { file = log.file; end = end_unless is_shut log.end }; part = part; doubt = in_doubt }

  -- an open book of these records
  opened : (items : List ManagerRecord) (bodies : List (List ℕ)) (part now : Manager) (doubt : Option ℕ) → IsLog (shape_of shape) items part → AreSpelled vid shape.mode items bodies → HasBodies (shown seen after) bodies → now ≡ part
      → is_some doubt ≡ false → IfSome doubt (λ place. place ≡ end_place bodies) → Keeps seen (book false after now doubt) part false None
  opened items bodies part now doubt legal spelled has same known place = record {
    items = items;
    legal = legal;
    same = same;
    bodies = bodies;
    spelled = spelled;
    shut = is_started (shown seen after) bodies has;
    open_ = λ _. record { has = has; certain = refl };
    says = log_says (shown seen after) bodies has;
    known = known;
    place = place;
    doubtful = tt;
  }

  module _ (part : Manager) (is_shut : Bool) (doubt : Option ManagerRecord) (k : Keeps seen (book was_shut before old at) part is_shut doubt) where
    -- a shut one, whose file says the same
    shut_keeps : (flag : Bool) → flag ≡ true → IsSomeAnd (seen after.file).content (SaysRecords vid shape.mode k.bodies doubt) → Keeps seen (book flag after old at) part true doubt
    shut_keeps flag is says = subst (λ (b : Bool). Keeps seen (book b after old at) part true doubt) (sym is) (record {
      items = k.items;
      legal = k.legal;
      same = k.same;
      bodies = k.bodies;
      spelled = k.spelled;
      shut = refl;
      open_ = λ h. absurd (true_false true refl h);
      says = says;
      known = k.known;
      place = k.place;
      doubtful = k.doubtful;
    })

    module _ {T : Type 0} (part_in : T → Manager) where
      abbrev Told : Result T EntryFault → Type 0
      Told result = IsStartOf part_in vid shape (shown seen before) (shown seen after) result

      -- ---- a start that was done

      abbrev Done : T → Bool → Option ManagerRecord → Type 0
      Done found flag d = (flag ≡ true → is_some d ≡ true) × Keeps seen (book false after (part_in found) None) (found_part flag d part) false None

      as_before : (found : T) (flag : Bool) (d : Option ManagerRecord) → flag ≡ false → Told (Ok found) → IsSomeAnd (seen before.file).content (λ file. IsLogOf file k.bodies) → Done found flag d
      as_before found flag d unfound told says =
          let s = told k.bodies k.items part says k.spelled k.legal in (
            (λ t. absurd (true_false flag t unfound)),
            subst (λ (b : Bool). Keeps seen (book false after (part_in found) None) (found_part b d part) false None) (sym unfound)
                (opened k.items k.bodies part (part_in found) None k.legal k.spelled s.1 s.0 refl tt),
          )

      pub started_ok : (found : T) (flag : Bool) → flag ≡ is_behind after.end at → Told (Ok found) → Done found flag doubt
      started_ok found flag is told = go doubt k.known k.says k.doubtful
        where
          go : (d : Option ManagerRecord) → is_some at ≡ is_some d → IsSomeAnd (seen before.file).content (SaysRecords vid shape.mode k.bodies d) → IfSome d (λ item. IsLegal (shape_of shape) part item) → Done found flag d
          go None known says legal = as_before found flag None (is ∙ not_behind after.end at known) told says
          go (Some item) known says legal = elim (says_cases vid shape.mode k.bodies item (seen before.file).content says) [
            | inl log ↦
                (let s = told k.bodies k.items part log k.spelled k.legal in
                as_before found flag (Some item) (is ∙ at_itself after.end at (end_place k.bodies) (ends_behind (shown seen after) k.bodies s.1) known k.place) told log)
            | inr more ↦
                (let spelled = spelled_more vid shape.mode k.items k.bodies item more.0 k.spelled more.1 in
                let longer = log_more (shape_of shape) k.items part item k.legal legal in
                let s = told (k.bodies ++ more.0 ∷ []) (k.items ++ item ∷ []) (written item part) more.2 spelled longer in
                let yes : flag ≡ true = is ∙ at_further after.end at (end_place k.bodies) (end_place (k.bodies ++ more.0 ∷ [])) (ends_behind (shown seen after) (k.bodies ++ more.0 ∷ []) s.1) (further k.bodies more.0) known k.place in (
                  (λ _. refl),
                  subst (λ (b : Bool). Keeps seen (book false after (part_in found) None) (found_part b (Some item) part) false None) (sym yes)
                      (opened (k.items ++ item ∷ []) (k.bodies ++ more.0 ∷ []) (written item part) (part_in found) None longer spelled s.1 s.0 refl tt),
                ))
          ]

      -- ---- a start that was refused

      says_after : (why : EntryFault) → Told (Err why) → IsSomeAnd (seen after.file).content (SaysRecords vid shape.mode k.bodies doubt)
      says_after why told = go doubt k.says k.doubtful
        where
          go : (d : Option ManagerRecord) → IsSomeAnd (seen before.file).content (SaysRecords vid shape.mode k.bodies d) → IfSome d (λ item. IsLegal (shape_of shape) part item) → IsSomeAnd (seen after.file).content (SaysRecords vid shape.mode k.bodies d)
          go None says legal =
              answer_says part_in k.bodies part (shown seen before) (shown seen after) why (told k.bodies k.items part says k.spelled k.legal)
          go (Some item) says legal = elim (says_cases vid shape.mode k.bodies item (seen before.file).content says) [
            | inl log ↦ says_plain vid shape.mode k.bodies (Some item) (seen after.file).content
                (answer_says part_in k.bodies part (shown seen before) (shown seen after) why (told k.bodies k.items part log k.spelled k.legal))
            | inr more ↦
                (let spelled = spelled_more vid shape.mode k.items k.bodies item more.0 k.spelled more.1 in
                let longer = log_more (shape_of shape) k.items part item k.legal legal in
                says_more vid shape.mode k.bodies item more.0 (seen after.file).content more.1
                (answer_says part_in (k.bodies ++ more.0 ∷ []) (written item part) (shown seen before) (shown seen after) why
                (told (k.bodies ++ more.0 ∷ []) (k.items ++ item ∷ []) (written item part) more.2 spelled longer)))
          ]

      spoiled_end : (place : ℕ) → Told (Err (faults.Spoiled place)) → last_start < place
      spoiled_end place told = go doubt k.says k.doubtful
        where
          go : (d : Option ManagerRecord) → IsSomeAnd (seen before.file).content (SaysRecords vid shape.mode k.bodies d) → IfSome d (λ item. IsLegal (shape_of shape) part item) → last_start < place
          go None says legal = (told k.bodies k.items part says k.spelled k.legal).0
          go (Some item) says legal = elim (says_cases vid shape.mode k.bodies item (seen before.file).content says) [
            | inl log ↦ (told k.bodies k.items part log k.spelled k.legal).0
            | inr more ↦ (told (k.bodies ++ more.0 ∷ []) (k.items ++ item ∷ []) (written item part) more.2
                (spelled_more vid shape.mode k.items k.bodies item more.0 k.spelled more.1) (log_more (shape_of shape) k.items part item k.legal legal)).0
          ]

      -- want of memory leaves it as it was
      unmoved : (flag : Bool) → flag ≡ shut_after faults.Memory (end_unless was_shut before.end) after.end → Told (Err faults.Memory) → (shut : Bool) → is_shut ≡ shut → Keeps seen (book flag after old at) part is_shut doubt
      unmoved flag is told true shut =
          let none : end_unless was_shut before.end ≡ None = none_at (end_unless was_shut before.end) (sym k.shut ∙ shut) in
          subst (λ (b : Bool). Keeps seen (book flag after old at) part b doubt) (sym shut)
          (shut_keeps flag (is ∙ ap (λ o. ends_differ o after.end) none ∙ differs after.end) (says_after faults.Memory told))
        where
          none_at : (end : Option ℕ) → is_none end ≡ true → end ≡ None
          none_at None h = refl
          none_at (Some e) h = cc

          differs : (end : Option ℕ) → ends_differ None end ≡ true
          differs None = refl
          differs (Some e) = refl
      unmoved flag is told false shut =
          let open_ = k.open_ shut in
          let certain : doubt ≡ None = open_.certain in
          let says : IsSomeAnd (seen before.file).content (λ file. IsLogOf file k.bodies) = subst (λ d. IsSomeAnd (seen before.file).content (SaysRecords vid shape.mode k.bodies d)) certain k.says in
          let has : HasBodies (shown seen after) k.bodies = (told k.bodies k.items part says k.spelled k.legal).1 (real was_shut open_.has) in
          let stays : flag ≡ false = is ∙ same_ends (end_unless was_shut before.end) after.end (end_place k.bodies) (ends_behind (shown seen (book was_shut before old at).log) k.bodies open_.has) (ends_behind (shown seen after) k.bodies has) in
          subst (λ d. Keeps seen (book flag after old at) part is_shut d) (sym certain)
          (subst (λ (b : Bool). Keeps seen (book flag after old at) part b None) (sym shut)
          (subst (λ (b : Bool). Keeps seen (book b after old at) part false None) (sym stays)
          (opened k.items k.bodies part old at k.legal k.spelled has k.same (k.known ∙ ap is_some certain) k.place)))
        where
          real : (b : Bool) → HasBodies (shown seen (book b before old at).log) k.bodies → HasBodies (shown seen before) k.bodies
          real true h = absurd h
          real false h = h

      pub started_err : (why : EntryFault) (flag : Bool) → flag ≡ shut_after why (end_unless was_shut before.end) after.end → IsStartCause why → Told (Err why) → Started seen part is_shut doubt (book flag after old at) (Err why)
      started_err faults.Fault flag is cause told = shut_keeps flag is (says_after faults.Fault told)
      started_err faults.Memory flag is cause told = unmoved flag is told is_shut refl
      started_err (faults.Spoiled place) flag is cause told = (spoiled_end place told, shut_keeps flag is (says_after (faults.Spoiled place) told))
      started_err faults.Shut flag is cause told = absurd cause

-- ---- a whole start of a book

-- a log that isn't shut ends where it did
same_end : (why : EntryFault) (was end : Option ℕ) → false ≡ shut_after why was end → was ≡ end
same_end faults.Memory (Some a) (Some b) h = ap Some (one_place a b h)
  where
    one_place : (a b : ℕ) → false ≡ not (a == b) → a ≡ b
    one_place a b h = grind (arith, nat_tests, h)
same_end faults.Memory None end h = cc
same_end faults.Memory (Some a) None h = cc
same_end faults.Fault was end h = cc
same_end faults.Shut was end h = cc
same_end (faults.Spoiled place) was end h = cc

-- an end that stays leaves a sound part
pub sound_still : (shape : Shape) (was end : Option ℕ) (part : Manager) (why : EntryFault) (flag : Bool) → flag ≡ shut_after why was end → IsSoundPart (shape_of shape) was part → IsSoundPart (shape_of shape) (end_unless flag end) part
sound_still shape was end part why true is sound = record { homes = sound.homes; moves = sound.moves; named = sound.named; moves_named = sound.moves_named; placed = sound.placed; greatest = sound.greatest; version = tt; granted = tt }
sound_still shape was end part why false is sound = subst (λ o. IsSoundPart (shape_of shape) o part) (same_end why was end is) sound

left_end : (was end : Option ℕ) (why : EntryFault) (flag : Bool) → flag ≡ shut_after why was end → IfSome (end_unless flag end) (λ place. was ≡ Some place)
left_end was end why true is = tt
left_end was end why false is = subst (λ o. IfSome end (λ place. o ≡ Some place)) (sym (same_end why was end is)) (leaves_same end)

module _ {E : Type 0} (seen : E → FileView) (vid : ℕ) (shape : Shape) (before after : LogOver E) (old new : Manager) (at : Option ℕ) (was_shut : Bool) (part_in : Table × HeardMemory → Manager) where
  pub starts_ok : (found : Table × HeardMemory) (flag : Bool) → flag ≡ is_behind after.end at → (heard : HeardMemory)
      → CountsFault {T = Table × HeardMemory} (seen before.file).faults (seen after.file).faults (Ok found) → IsForgetful (shape_of shape) (part_in found) heard
      → IsStartOf part_in vid shape (shown seen before) (shown seen after) (Ok found)
      → StartsBook seen (book seen vid shape before after old new at was_shut was_shut before old at) (book seen vid shape before after old new at was_shut false after (part_in found) None) (Ok (flag, heard))
  starts_ok found flag is heard counts forgets told = record {
    vid = refl;
    shape = refl;
    counts = counts;
    end = tt;
    heard = forgets;
    told = λ part is_shut doubt k. started_ok seen vid shape before after old new at was_shut part is_shut doubt k part_in found flag is told;
  }

  counts_as : (why : EntryFault) (a b : ℕ) → CountsFault {T = Table × HeardMemory} a b (Err why) → CountsFault {T = Bool × HeardMemory} a b (Err why)
  counts_as faults.Fault a b h = h
  counts_as faults.Memory a b h = h
  counts_as faults.Shut a b h = h
  counts_as (faults.Spoiled place) a b h = h

  pub starts_err : (why : EntryFault) (flag : Bool) → flag ≡ shut_after why (end_unless was_shut before.end) after.end → IsStartCause why
      → CountsFault {T = Table × HeardMemory} (seen before.file).faults (seen after.file).faults (Err why)
      → IsStartOf part_in vid shape (shown seen before) (shown seen after) (Err why)
      → StartsBook seen (book seen vid shape before after old new at was_shut was_shut before old at) (book seen vid shape before after old new at was_shut flag after old at) (Err why)
  starts_err why flag is cause counts told = record {
    vid = refl;
    shape = refl;
    counts = counts_as why (seen before.file).faults (seen after.file).faults counts;
    end = left_end (end_unless was_shut before.end) after.end why flag is;
    heard = tt;
    told = λ part is_shut doubt k. started_err seen vid shape before after old new at was_shut part is_shut doubt k part_in why flag is cause told;
  }
