-- What the steps of a start come to.
use Rattle.std.proofs.Common.{◌≡◌, inl, ◌<◌, ◌≤◌, ℕ, true, false, nat_le, nat_lt, List, [], ◌∷◌, ◌++◌, length, take, sym, ◌∙◌, ap, subst, arith, Option, None, Some, Result, Ok, Err, IsSomeAnd, OnOk}
use Rattle.std.specs.Prelude.{bytes_eq}
use Rattle.std.proofs.lemmas.Bool.Decides.{nat_tests}
use Rattle.std.proofs.lemmas.Slice.Eq.{bytes_eq-Decides}
use Rattle.std.proofs.lemmas.List.{drop_all}
use Rattle.disk_base.specs.Disk.{Images, FileView, IsTorn, LeavesExactly, Grows, overwritten}
use Rattle.disk_base.specs.Moments.{weaker, after_grow}
use Rattle.gate_log.specs.LogFile.{mark, bad_head, contents_of, bodies_in, bodies_of, end_place, IsAtRest, IsSameOrOpen, started_file}
use Rattle.gate_log.specs.GateLog.{IsStarted, EndsAt, IsThrough, WritesStart}
use Rattle.gate_log.proofs.Fetch.{some_and}
use Rattle.gate_log.proofs.Torn.{overwritten_end}
use Rattle.gate_log.proofs.Rest.{short_file, unmarked_file}
use Rattle.gate_log.proofs.Steps.{head_torn, head_whole, ends_place, close_torn, close_whole}

pub and_map : {A : Type 0} (o : Option A) (P Q : A → Type 0) → ((x : A) → P x → Q x) → IsSomeAnd o P → IsSomeAnd o Q
and_map None P Q f h = h
and_map (Some x) P Q f h = f x h

pub on_ok_map : {T E : Type 0} (r : Result T E) (P Q : Type 0) → (P → Q) → OnOk r P → OnOk r Q
on_ok_map (Ok x) P Q f h = f h
on_ok_map (Err e) P Q f h = tt

-- the file that a start leaves, by the case of the file

head_is : (was : List ℕ) → length was ≤ 9 → mark ++ 0 ∷ [] ≡ overwritten was 0 (mark ++ 0 ∷ [])
head_is was short = sym (ap (λ l. (mark ++ 0 ∷ []) ++ l) (drop_all 9 was short))

pub started_short : (was : List ℕ) → length was ≤ 9 → started_file was ≡ mark ++ 0 ∷ []
started_short was short = let t : nat_le (length was) 9 ≡ true = grind (arith, nat_tests) in rw t

pub started_closed : (was : List ℕ) (len : ℕ) → 9 < len → len ≡ length was → take 8 was ≡ mark → EndsAt was len → started_file was ≡ was ++ 0 ∷ []
started_closed was len long is head e =
    let place = ends_place was len (omega arith) head e in
    let t : nat_le (length was) 9 ≡ false = grind (arith, nat_tests) in
    let u : nat_lt (end_place (bodies_of was)) (length was) ≡ false = grind (arith, nat_tests) in
    rw (t, u)

pub started_as_it_is : (was : List ℕ) (end : ℕ) → 9 < length was → end < length was → take 8 was ≡ mark → EndsAt was end → started_file was ≡ was
started_as_it_is was end long inside head e =
    let place = ends_place was end long head e in
    let t : nat_le (length was) 9 ≡ false = grind (arith, nat_tests) in
    let u : nat_lt (end_place (bodies_of was)) (length was) ≡ true = grind (arith, nat_tests) in
    rw (t, u)

pub short_says : (was c : List ℕ) → length was ≤ 9 → length c ≤ 9 → IsSameOrOpen was c
short_says was c a b =
    let same = short_file c b ∙ sym (short_file was a) in
    record { same = λ gate. (same, inl b); same_or_open = inl same }

pub short_torn : (was c : List ℕ) → length was ≤ 9 → IsTorn 0 9 was c → IsSameOrOpen was c
short_torn was c short t = short_says was c short (head_torn was c short t)

pub begun : (was : List ℕ) (images : Images) (now : Option (List ℕ)) → length was ≤ 9
    → (now ≡ Some (overwritten was 0 (mark ++ 0 ∷ []))) × LeavesExactly (overwritten was 0 (mark ++ 0 ∷ [])) images → IsSomeAnd now (IsStarted images 8 (bodies_of was))
begun was images now short h =
    let none : bodies_of was ≡ [] = ap bodies_in (short_file was short) in
    let at_rest : IsAtRest (overwritten was 0 (mark ++ 0 ∷ [])) (bodies_of was) = subst (IsAtRest (overwritten was 0 (mark ++ 0 ∷ []))) (sym none) (head_whole was short) in
    some_and now (overwritten was 0 (mark ++ 0 ∷ [])) (IsStarted images 8 (bodies_of was)) h.0 (record { at_rest = at_rest; end_is = ap end_place (sym none); exactly = h.1 })

pub closed : (was : List ℕ) (len : ℕ) (images : Images) (now : Option (List ℕ)) → 9 < len → len ≡ length was → take 8 was ≡ mark → EndsAt was len
    → (now ≡ Some (overwritten was len (0 ∷ []))) × LeavesExactly (overwritten was len (0 ∷ [])) images → IsSomeAnd now (IsStarted images len (bodies_of was))
closed was len images now long is head e h =
    let ends : EndsAt was (length was) = subst (EndsAt was) is e in
    let at_rest : IsAtRest (overwritten was len (0 ∷ [])) (bodies_of was) =
    subst (λ n. IsAtRest (overwritten was n (0 ∷ [])) (bodies_of was)) (sym is) (close_whole was (omega arith) head ends) in
    some_and now (overwritten was len (0 ∷ [])) (IsStarted images len (bodies_of was)) h.0
    (record { at_rest = at_rest; end_is = ends_place was len (omega arith) head e; exactly = h.1 })

pub closed_torn : (was : List ℕ) (len : ℕ) → 9 < len → len ≡ length was → take 8 was ≡ mark → EndsAt was len → (c : List ℕ) → IsTorn len 1 was c → IsSameOrOpen was c
closed_torn was len long is head e c t =
    close_torn was (omega arith) head (subst (EndsAt was) is e) c (subst (λ n. IsTorn n 1 was c) is t)

pub no_mark : (was : List ℕ) → 9 < length was → bytes_eq (take 8 was) mark ≡ false → contents_of was ≡ bad_head
no_mark was long t = unmarked_file was long (grind (arith, nat_tests, bytes_eq-Decides))

pub with_mark : (was : List ℕ) → bytes_eq (take 8 was) mark ≡ true → take 8 was ≡ mark
with_mark was t = grind (arith, nat_tests, bytes_eq-Decides)

-- a write of the head
pub begin_writes : {T E U F : Type 0} (was : List ℕ) (end : ℕ) (old grown new : FileView) (grew : Result U F) (result : Result T E) → Grows end old grown grew → length was ≤ 9
    → IsThrough 0 (mark ++ 0 ∷ []) was grown new result → WritesStart was 8 old new result
begin_writes was end old grown new grew result grows short w = record {
  started = on_ok_map result _ _ (begun was new.images new.content short) w.settled;
  written = on_ok_map result _ _ (λ h. h.0 ∙ ap Some (sym (head_is was short) ∙ sym (started_short was short))) w.settled;
  says = and_map new.content (IsTorn 0 9 was) (IsSameOrOpen was) (λ d t. short_torn was d short t) w.torn;
  moments = λ exactly. after_grow (IsSameOrOpen was) end old grown new grew grows
      (weaker (IsTorn 0 9 was) (IsSameOrOpen was) grown new (w.moments (λ c left. exactly c ((grows.same_images c).0 left))) (λ d t. short_torn was d short t));
}

-- a write of a closed gate
module _ {T E U F : Type 0} (was : List ℕ) (len end : ℕ) (old grown new : FileView) (grew : Result U F) (result : Result T E) (long : 9 < len) (is : len ≡ length was) (head : take 8 was ≡ mark) (e : EndsAt was len)
    (grows : Grows end old grown grew) where
  pub close_writes : IsThrough len (0 ∷ []) was grown new result → WritesStart was len old new result
  close_writes w = record {
    started = on_ok_map result _ _ (closed was len new.images new.content long is head e) w.settled;
    written = on_ok_map result _ _ (λ h. h.0 ∙ ap Some (ap (λ n. overwritten was n (0 ∷ [])) is ∙ overwritten_end was 0 ∙ sym (started_closed was len long is head e))) w.settled;
    says = and_map new.content (IsTorn len 1 was) (IsSameOrOpen was) (closed_torn was len long is head e) w.torn;
    moments = λ exactly. after_grow (IsSameOrOpen was) end old grown new grew grows
        (weaker (IsTorn len 1 was) (IsSameOrOpen was) grown new (w.moments (λ c left. exactly c ((grows.same_images c).0 left))) (closed_torn was len long is head e));
  }

-- the same under another answer
pub writes_in_part : {T E U F : Type 0} (was : List ℕ) (end : ℕ) (old new : FileView) (e : E) (f : F) → WritesStart {T = T} was end old new (Err e) → WritesStart {T = U} was end old new (Err f)
writes_in_part was end old new e f w = record { started = tt; written = tt; says = w.says; moments = w.moments }

pub writes_whole : {T E U F : Type 0} (was : List ℕ) (end : ℕ) (old new : FileView) (x : T) (y : U) → WritesStart {T = T} {E = E} was end old new (Ok x) → WritesStart {T = U} {E = F} was end old new (Ok y)
writes_whole was end old new x y w = record { started = w.started; written = w.written; says = w.says; moments = w.moments }
