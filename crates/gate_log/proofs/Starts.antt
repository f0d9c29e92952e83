-- A start as a whole, by how far it came.
use Rattle.std.proofs.Common.{◌≡◌, ◌⊎◌, inl, inr, ◌<◌, ◌≤◌, ◌+◌, ◌-◌, ℕ, Bool, true, false, nat_le, nat_lt, if◌then◌else◌, List, [], length, take, refl, sym, ◌∙◌, ap, subst, Option, Some, Result, Ok, Err, IfSome, IsSomeAnd, IfOk, OnOk, arith}
use Rattle.std.specs.Prelude.{IfErr}
use Rattle.std.proofs.lemmas.Bool.Decides.{nat_tests}
use Rattle.disk_base.specs.Disk.{Images, FileView, IsFile, LeavesExactly, AtEachMoment, OnlyReads}
use Rattle.disk_base.specs.Faults.{added}
use Rattle.disk_base.specs.Moments.{added_twice, joined, weaker, reads_none, reads_on}
use Rattle.gate_log.specs.declared.fault.LogFault.{LogFault}
use Rattle.gate_log.specs.declared.fault.LogFault.TheVariants.{Fault, BadHead, BadChain, Shut, BadLength, Full, Memory}
use Rattle.gate_log.specs.declared.start.Cursor.{Cursor}
use Rattle.gate_log.specs.LogFile.{mark, Walks, Contents, holds, bad_chain, contents_of, bodies_in, bodies_of, chain_of, end_place, IsSameOrOpen, started_file, start_calls}
use Rattle.gate_log.specs.GateLog.{IsStarted, EndsAt, gates_read, WritesStart, IsStart, HasCome, IsUnder, calls_before, StartAnswers, FollowsTo, EndAnswers, StartWrites, UnlessFault, OpenAnswers, StartsOver, FinishesOver}
use Rattle.gate_log.proofs.Fetch.{if_some, at_some, some_and}
use Rattle.gate_log.proofs.Begin.{on_ok_map, started_as_it_is}
use Rattle.gate_log.proofs.Follow.{ends}
use Rattle.gate_log.proofs.Rest.{marked_file}
use Rattle.gate_log.proofs.Walk.{walk_says}
use Rattle.gate_log.proofs.Steps.{chain_bodies, ends_stands, ends_place, ends_inside}

pub says_itself : (file : List ℕ) → IsSameOrOpen file file
says_itself file = record { same = λ gate. (refl, gate); same_or_open = inl refl }

pub holds_itself : (contents : Contents) (bodies : List (List ℕ)) → contents ≡ holds bodies → contents ≡ holds (bodies_in contents)
holds_itself contents bodies e = e ∙ ap holds (sym (ap bodies_in e))

pub chain_holds : (file : List ℕ) (end : ℕ) → 9 < length file → (take 8 file ≡ mark) × EndsAt file end → contents_of file ≡ holds (bodies_of file)
chain_holds file end long a = holds_itself (contents_of file) (bodies_of file) (ends_stands file end long a.0 a.1)

pub chain_rests : (file : List ℕ) (images : Images) (end : ℕ) → 9 < length file → end < length file → LeavesExactly file images → (take 8 file ≡ mark) × EndsAt file end → IsStarted images end (bodies_of file) file
chain_rests file images end long inside exactly a = record { at_rest = ends_inside file end long a.0 a.1 inside; end_is = ends_place file end long a.0 a.1; exactly = exactly }

module _ (before : ℕ) (file : List ℕ) where
  -- it read and wrote nothing
  pub only_read : (old new : FileView) (result : Result ℕ LogFault) → old.content ≡ Some file → OnlyReads old new
      → IfOk result (λ end. IsStarted new.images end (bodies_of file) file) → OnOk result (started_file file ≡ file) → OnOk result (new.calls ≡ added old.calls (start_calls file - before)) → IsStart before file old new result
  only_read old new result told reads started as_it_is counted =
      let now : new.content ≡ Some file = reads.same ∙ told in
      record {
        started = go result now started;
        written = on_ok_map result _ _ (λ is. now ∙ ap Some (sym is)) as_it_is;
        counted = counted;
        says = some_and new.content file (IsSameOrOpen file) now (says_itself file);
        moments = weaker old.images (λ image. old.images image ⊎ IsSameOrOpen file image) old new reads.moments (λ c left. inl left);
      }
    where
      go : (r : Result ℕ LogFault) → new.content ≡ Some file → IfOk r (λ end. IsStarted new.images end (bodies_of file) file) → IfOk r (λ end. IsSomeAnd new.content (IsStarted new.images end (bodies_of file)))
      go (Ok end) now s = some_and new.content file (IsStarted new.images end (bodies_of file)) now s
      go (Err e) now s = tt

  wrote_when : (old new : FileView) → AtEachMoment old new (IsSameOrOpen file) → AtEachMoment old new (λ image. old.images image ⊎ IsSameOrOpen file image)
  wrote_when old new m = weaker (IsSameOrOpen file) (λ image. old.images image ⊎ IsSameOrOpen file image) old new m (λ c is. inr is)

  -- it wrote
  pub wrote : {T E : Type 0} (end : ℕ) (old new : FileView) (x : T) → LeavesExactly file old.images → new.calls ≡ added old.calls (start_calls file - before) → WritesStart {T = T} {E = E} file end old new (Ok x) → IsStart before file old new (Ok end)
  wrote end old new x exactly counted w = record { started = w.started; written = w.written; counted = counted; says = w.says; moments = wrote_when old new (w.moments exactly) }

  -- it failed to write
  pub wrote_in_part : {T E : Type 0} (end : ℕ) (old new : FileView) (e : E) (cause : LogFault) → LeavesExactly file old.images → WritesStart {T = T} {E = E} file end old new (Err e) → IsStart before file old new (Err cause)
  wrote_in_part end old new e cause exactly w = record { started = tt; written = tt; counted = tt; says = w.says; moments = wrote_when old new (w.moments exactly) }

-- it read before, by so many calls
pub read_first : (before more : ℕ) (file : List ℕ) (old mid new : FileView) (result : Result ℕ LogFault) → OnlyReads old mid → OnOk result (mid.calls ≡ added old.calls more) → OnOk result (before + more ≤ start_calls file)
    → IsStart (before + more) file mid new result → IsStart before file old new result
read_first before more file old mid new result reads first room s =
    let P : Images = λ image. old.images image ⊎ IsSameOrOpen file image in
    record {
      started = s.started;
      written = s.written;
      counted = go result first room s.counted;
      says = s.says;
      moments = joined P old mid new (weaker old.images P old mid reads.moments (λ c left. inl left))
          (weaker (λ image. mid.images image ⊎ IsSameOrOpen file image) P mid new s.moments (λ c is. elim is [ inl left ↦ inl (reads.within c left) | inr says ↦ inr says ]));
    }
  where
    go : (r : Result ℕ LogFault) → OnOk r (mid.calls ≡ added old.calls more) → OnOk r (before + more ≤ start_calls file) → OnOk r (new.calls ≡ added mid.calls (start_calls file - (before + more)))
        → OnOk r (new.calls ≡ added old.calls (start_calls file - before))
    go (Ok end) a b d =
        let all : more + (start_calls file - (before + more)) ≡ start_calls file - before = omega (arith, b) in
        d ∙ ap (λ n. added n (start_calls file - (before + more))) a ∙ added_twice old.calls more (start_calls file - (before + more)) ∙ ap (added old.calls) all
    go (Err e) a b d = tt

-- ---- how many calls

pub short_calls : (file : List ℕ) → length file ≤ 9 → start_calls file ≡ 4
short_calls file short = let t : nat_le (length file) 9 ≡ true = grind (arith, nat_tests) in rw t

pub four_at_least : (file : List ℕ) → 4 ≤ start_calls file
four_at_least file = go (nat_le (length file) 9) (nat_lt (end_place (bodies_of file)) (length file))
  where
    go : (x y : Bool) → 4 ≤ (if x then 4 else (if y then 4 + length (bodies_of file) else 5 + length (bodies_of file)))
    go true y = omega arith
    go false true = omega arith
    go false false = omega arith

module _ (file : List ℕ) (end : ℕ) (long : 9 < length file) (a : (take 8 file ≡ mark) × EndsAt file end) where
  same_count : length (bodies_in (chain_of file)) ≡ length (bodies_of file)
  same_count = ap length (chain_bodies file long a.0)

  pub inside_calls : end < length file → start_calls file ≡ 3 + gates_read file end
  inside_calls inside =
      let place = ends_place file end long a.0 a.1 in
      let t : nat_le (length file) 9 ≡ false = grind (arith, nat_tests) in
      let u : nat_lt (end_place (bodies_of file)) (length file) ≡ true = grind (arith, nat_tests) in
      let v : nat_lt end (length file) ≡ true = grind (arith, nat_tests) in
      let all : start_calls file ≡ 4 + length (bodies_of file) = rw (t, u) in
      let gates : gates_read file end ≡ length (bodies_in (chain_of file)) + 1 = rw v in
      omega (arith, all, gates, same_count)

  pub closing_calls : end ≡ length file → start_calls file ≡ 5 + gates_read file end
  closing_calls is =
      let place = ends_place file end long a.0 a.1 in
      let t : nat_le (length file) 9 ≡ false = grind (arith, nat_tests) in
      let u : nat_lt (end_place (bodies_of file)) (length file) ≡ false = grind (arith, nat_tests) in
      let v : nat_lt end (length file) ≡ false = grind (arith, nat_tests) in
      let all : start_calls file ≡ 5 + length (bodies_of file) = rw (t, u) in
      let gates : gates_read file end ≡ length (bodies_in (chain_of file)) + 0 = rw v in
      omega (arith, all, gates, same_count)

-- ---- from a cursor on

calls_closed : (cursor : Cursor) (count : ℕ) → 9 < cursor.len → cursor.is_closed ≡ true → calls_before cursor count ≡ 4 + count
calls_closed cursor count long shut = let t : nat_le cursor.len 9 ≡ false = grind (arith, nat_tests) in rw (t, shut)

calls_open : (cursor : Cursor) (count : ℕ) → 9 < cursor.len → cursor.is_closed ≡ false → calls_before cursor count ≡ 3 + count
calls_open cursor count long is_open = let t : nat_le cursor.len 9 ≡ false = grind (arith, nat_tests) in rw (t, is_open)

module _ (cursor : Cursor) (old : FileView) (known : IfSome old.content (IsUnder cursor old.images)) where
  under : (file : List ℕ) → old.content ≡ Some file → IsUnder cursor old.images file
  under file told = at_some old.content file (IsUnder cursor old.images) told known

  -- its closed gate was found before
  pub finish_closed : IsFile old → 9 < cursor.len → cursor.is_closed ≡ true → FinishesOver cursor old old (Ok cursor.place)
  finish_closed is_file long shut = record {
    answer = if_some old.content _ (λ file told.
        let u = under file told in
        let closed = u.come.closed shut in
        chain_holds file cursor.place (omega (arith, long, u.come.len_is))
        (u.come.head (omega (arith, long, u.come.len_is)), ends file cursor.place (record { bodies = u.read; walks = u.come.walks }) closed.1));
    unwritten = tt;
    told = if_some old.content _ (λ file told read come.
        let far : 9 < length file = omega (arith, long, come.len_is) in
        let closed = come.closed shut in
        let head = come.head far in
        let e = ends file cursor.place (record { bodies = read; walks = come.walks }) closed.1 in
        let says : chain_of file ≡ holds read = walk_says (length file) file 8 read cursor.place come.walks closed.1 (omega arith) in
        let n : length (bodies_in (chain_of file)) ≡ length read = ap (λ s. length (bodies_in s)) says in
        let t : nat_lt cursor.place (length file) ≡ true = let i = closed.0 in grind (arith, nat_tests) in
        let gates : gates_read file cursor.place ≡ length (bodies_in (chain_of file)) + 1 = rw t in
        let all = inside_calls file cursor.place far (head, e) closed.0 in
        let c = calls_closed cursor (length read) long shut in
        let none : start_calls file - calls_before cursor (length read) ≡ 0 = omega (arith, n, gates, all, c) in
        let zero : old.calls ≡ added old.calls 0 = omega arith in
        only_read (calls_before cursor (length read)) file old old (Ok cursor.place) told (reads_none old is_file)
        (chain_rests file old.images cursor.place far closed.0 (under file told).exactly (head, e))
        (started_as_it_is file cursor.place far closed.0 head e)
        (zero ∙ ap (added old.calls) (sym none)));
  }

  module _ (mid : FileView) (reads : OnlyReads old mid) (long : 9 < cursor.len) (is_open : cursor.is_closed ≡ false) where
    follows : (end : ℕ) (file : List ℕ) (read : List (List ℕ)) → old.content ≡ Some file → HasCome file read cursor → EndAnswers cursor.place cursor.len old mid (Ok end) → FollowsTo read file end old mid
    follows end file read told come a = at_some old.content file (λ f. cursor.len ≡ length f → (bs : List (List ℕ)) → Walks f 8 bs cursor.place → FollowsTo bs f end old mid) told a come.len_is read come.walks

    answers : (end : ℕ) → EndAnswers cursor.place cursor.len old mid (Ok end) → IfSome old.content (λ file. contents_of file ≡ holds (bodies_of file))
    answers end a = if_some old.content _ (λ file told.
        let u = under file told in
        let f = follows end file u.read told u.come a in
        let far : 9 < length file = omega (arith, long, u.come.len_is) in
        chain_holds file end far (u.come.head far, f.ends))

    -- at a closed gate
    pub finish_inside : (end : ℕ) → EndAnswers cursor.place cursor.len old mid (Ok end) → end < cursor.len → FinishesOver cursor old mid (Ok end)
    finish_inside end a inside = record {
      answer = answers end a;
      unwritten = tt;
      told = if_some old.content _ (λ file told read come.
          let far : 9 < length file = omega (arith, long, come.len_is) in
          let within : end < length file = omega (arith, inside, come.len_is) in
          let head = come.head far in
          let f = follows end file read told come a in
          let all = inside_calls file end far (head, f.ends) within in
          let c = calls_open cursor (length read) long is_open in
          let count : gates_read file end - length read ≡ start_calls file - calls_before cursor (length read) = omega (arith, all, c) in
          only_read (calls_before cursor (length read)) file old mid (Ok end) told reads
          (chain_rests file mid.images end far within (λ d left. (under file told).exactly d (reads.within d left)) (head, f.ends))
          (started_as_it_is file end far within head f.ends)
          (f.counted ∙ ap (added old.calls) count));
    }

    -- at the end of the file, where a closed gate is written
    pub finish_closing : (end : ℕ) (new : FileView) (x : Unit {0}) → EndAnswers cursor.place cursor.len old mid (Ok end) → cursor.len ≤ end
        → new.calls ≡ added mid.calls 2 → StartWrites {T = Unit {0}} {E = LogFault} cursor.len mid new (Ok x) → FinishesOver cursor old new (Ok end)
    finish_closing end new x a past two w = record {
      answer = answers end a;
      unwritten = tt;
      told = if_some old.content _ (λ file told read come.
          let far : 9 < length file = omega (arith, long, come.len_is) in
          let f = follows end file read told come a in
          let same : end ≡ cursor.len = omega (arith, f.inside, past, come.len_is) in
          let all = closing_calls file end far (come.head far, f.ends) (same ∙ come.len_is) in
          let c = calls_open cursor (length read) long is_open in
          let before = calls_before cursor (length read) in
          let more = gates_read file end - length read in
          let rest : 2 ≡ start_calls file - (calls_before cursor (length read) + (gates_read file end - length read)) = omega (arith, all, c, f.few) in
          let here : WritesStart {T = Unit {0}} {E = LogFault} file end mid new (Ok x) =
          subst (λ n. WritesStart {T = Unit {0}} {E = LogFault} file n mid new (Ok x)) (sym same) (at_some mid.content file (λ d. WritesStart {T = Unit {0}} {E = LogFault} d cursor.len mid new (Ok x)) (reads.same ∙ told) w) in
          read_first (calls_before cursor (length read)) (gates_read file end - length read) file old mid new (Ok end) reads f.counted (omega (arith, all, c, f.few))
          (wrote (calls_before cursor (length read) + (gates_read file end - length read)) file {T = Unit {0}} {E = LogFault} end mid new x (λ d left. (under file told).exactly d (reads.within d left)) (two ∙ ap (added mid.calls) rest) here));
    }

    -- where it breaks
    pub follow_failed : (cause : LogFault) → EndAnswers cursor.place cursor.len old mid (Err cause) → FinishesOver cursor old mid (Err cause)
    follow_failed cause a = record { answer = named cause a; unwritten = unwritten cause; told = if_some old.content _ (λ file told read come. only_read (calls_before cursor (length read)) file old mid (Err cause) told reads tt tt tt) }
      where
        named : (f : LogFault) → EndAnswers cursor.place cursor.len old mid (Err f) → StartAnswers {T = ℕ} old.content (Err f)
        named Fault h = tt
        named (BadChain place) h = if_some old.content _ (λ file told.
            let u = under file told in
            let far : 9 < length file = omega (arith, long, u.come.len_is) in
            marked_file file far (u.come.head far)
            ∙ at_some old.content file (λ d. cursor.len ≡ length d → (bs : List (List ℕ)) → Walks d 8 bs cursor.place → chain_of d ≡ bad_chain place) told h u.come.len_is u.read u.come.walks)
        named _ h = absurd h

        unwritten : (f : LogFault) → UnlessFault f (OnlyReads old mid)
        unwritten Fault = tt
        unwritten Shut = reads
        unwritten BadHead = reads
        unwritten (BadChain place) = reads
        unwritten (BadLength n) = reads
        unwritten (Full n) = reads
        unwritten Memory = reads

-- ---- a start as a whole

-- the cursor before the first body
abbrev pub first_cursor : ℕ → Option ℕ → Cursor
first_cursor len before = record { place = 8; len = len; is_closed = false; before = before }

pub come_first : (file : List ℕ) (len : ℕ) (before : Option ℕ) → len ≡ length file → (9 < length file → take 8 file ≡ mark) → HasCome file [] (first_cursor len before)
come_first file len before is head = record { len_is = is; head = head; walks = refl; closed = λ shut. absurd (apart shut) }
  where
    apart : false ≡ true → ⊥
    apart h = cc

module _ (old mid : FileView) (reads : OnlyReads old mid) where
  pub start_whole : (new : FileView) (len : ℕ) (before : Option ℕ) (result : Result ℕ LogFault) → OpenAnswers old mid (Ok len) → FinishesOver (first_cursor len before) mid new result → StartsOver old new result
  start_whole new len before result a f = record {
    answer = subst (λ o. StartAnswers o result) reads.same f.answer;
    unwritten = unwritten result f.unwritten;
    told = if_some old.content _ (λ file told.
        let o = at_some old.content file (λ d. (len ≡ length d) × (9 < length d → take 8 d ≡ mark) × LeavesExactly d mid.images) told a.1 in
        let s = at_some mid.content file (λ d. (read : List (List ℕ)) → HasCome d read (first_cursor len before) → IsStart (calls_before (first_cursor len before) (length read)) d mid new result) (reads.same ∙ told) f.told
        [] (come_first file len before o.0 o.1) in
        let sum : calls_before (first_cursor len before) 0 ≡ 0 + calls_before (first_cursor len before) 0 = omega arith in
        read_first 0 (calls_before (first_cursor len before) 0) file old mid new result reads (counted result) (few file result)
        (subst (λ k. IsStart k file mid new result) sum s));
  }
    where
      counted : (r : Result ℕ LogFault) → OnOk r (mid.calls ≡ added old.calls (calls_before (first_cursor len before) 0))
      counted (Ok end) = a.0
      counted (Err e) = tt

      at_most : (b : Bool) → (if b then 2 else 3) ≤ 3
      at_most true = omega arith
      at_most false = omega arith

      few : (file : List ℕ) (r : Result ℕ LogFault) → OnOk r (0 + calls_before (first_cursor len before) 0 ≤ start_calls file)
      few file (Ok end) = let t = at_most (nat_le len 9) in let u = four_at_least file in omega (arith, t, u)
      few file (Err e) = tt

      unwritten : (r : Result ℕ LogFault) → IfErr r (λ fault. UnlessFault fault (OnlyReads mid new)) → IfErr r (λ fault. UnlessFault fault (OnlyReads old new))
      unwritten (Ok end) h = tt
      unwritten (Err Fault) h = tt
      unwritten (Err Shut) h = reads_on old mid new reads h
      unwritten (Err BadHead) h = reads_on old mid new reads h
      unwritten (Err (BadChain place)) h = reads_on old mid new reads h
      unwritten (Err (BadLength n)) h = reads_on old mid new reads h
      unwritten (Err (Full n)) h = reads_on old mid new reads h
      unwritten (Err Memory) h = reads_on old mid new reads h
