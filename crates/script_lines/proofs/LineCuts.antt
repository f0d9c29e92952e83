-- Lemmas on the cutting of lines.
use Rattle.std.proofs.Common.{◌≡◌, ℕ, suc, ◌+◌, ◌<◌, ◌≤◌, Bool, true, false, not, true≢false, cond, nat_lt, ◌||◌, List, [], ◌∷◌, ◌++◌, length, take, drop, Option, Some, None, IfSome, IsSomeAnd, option_map, if◌then◌else◌, ◌==◌, length-take, refl, sym, ap, ◌∙◌, subst, arith, add_assoc, length-append, append-nil}
use Rattle.std.specs.List.{list_any, position_or_len, before_first}
use Rattle.std.proofs.Math.Seq.{take-append-add, drop-append-add}
use Rattle.std.proofs.lemmas.List.{take-append-le, drop-append-le, drop_all, take_all}
use Rattle.std.proofs.lemmas.List.Folds.{list_any-append}
use Rattle.std.proofs.lemmas.Option.{none-some, same_Some}
use Rattle.std.proofs.lemmas.Bool.{lt-ltb, le-ltb, ltb-true, ltb-false, eqb-true}
use Rattle.script_lines.specs.Lines.{is_line_feed, HasNoEnd, StillComes, to_come, first_line, content, without_return, is_too_long, longest_line}
use Rattle.script_lines.specs.Cuts.{IsCut}

-- where the first line feed stands, or the length of bytes with none
abbrev pub feed_at : List ℕ → ℕ
feed_at bytes = position_or_len is_line_feed bytes

one_more : (n : ℕ) → 1 + n ≡ suc n
one_more n = omega arith

pub feed_within : (bytes : List ℕ) → feed_at bytes ≤ length bytes
feed_within [] = omega arith
feed_within (x ∷ bytes) =
    elim (is_line_feed x) as (λ b. cond (not b) (1 + feed_at bytes) 0 ≤ suc (length bytes)) [
      | true ↦ omega arith
      | false ↦ omega (arith, feed_within bytes)
    ]

-- no line ends before the first line feed
pub front_no_end : (bytes : List ℕ) → HasNoEnd (take (feed_at bytes) bytes)
front_no_end [] = refl
front_no_end (x ∷ bytes) =
    elim (is_line_feed x) as (λ b. b ≡ is_line_feed x → HasNoEnd (take (cond (not b) (1 + feed_at bytes) 0) (x ∷ bytes))) [
      | true ↦ λ _. refl
      | false ↦ λ other. rw (one_more (feed_at bytes), ← other) (front_no_end bytes)
    ] refl

pub no_end_more : (line rest : List ℕ) → HasNoEnd line → HasNoEnd (line ++ take (feed_at rest) rest)
no_end_more line rest no_end = list_any-append is_line_feed line (take (feed_at rest) rest) ∙ rw (no_end) (front_no_end rest)

lt_suc : (a b : ℕ) → nat_lt (suc a) (suc b) ≡ nat_lt a b
lt_suc a b =
    elim (nat_lt a b) as (λ t. nat_lt a b ≡ t → nat_lt (suc a) (suc b) ≡ t) [
      | true ↦ λ e. lt-ltb (suc a) (suc b) (omega (arith, ltb-true a b e))
      | false ↦ λ e. le-ltb (suc a) (suc b) (omega (arith, ltb-false a b e))
    ] refl

pub no_end_at : (line rest gathered : List ℕ) (end : ℕ) → gathered ≡ line ++ take end rest → end ≡ feed_at rest → HasNoEnd line → HasNoEnd gathered
no_end_at line rest gathered end is at no_end =
    ap (λ bytes. list_any is_line_feed bytes) (is ∙ ap (λ e. line ++ take e rest) at) ∙ no_end_more line rest no_end

-- a line ends in the bytes where the first line feed stands inside
pub any_feed : (bytes : List ℕ) → list_any is_line_feed bytes ≡ nat_lt (feed_at bytes) (length bytes)
any_feed [] = refl
any_feed (x ∷ bytes) =
    elim (is_line_feed x) as (λ b. b ≡ is_line_feed x → list_any is_line_feed (x ∷ bytes) ≡ nat_lt (cond (not b) (1 + feed_at bytes) 0) (suc (length bytes))) [
      | true ↦ λ feed. rw (← feed) (sym (lt-ltb 0 (suc (length bytes)) (omega arith)))
      | false ↦ λ other. rw (one_more (feed_at bytes), ← other) (any_feed bytes ∙ sym (lt_suc (feed_at bytes) (length bytes)))
    ] refl

-- the first line feed stands behind bytes with none
pub feed_behind : (line rest : List ℕ) → HasNoEnd line → feed_at (line ++ rest) ≡ length line + feed_at rest
feed_behind [] rest _ = omega arith
feed_behind (x ∷ line) rest no_end =
    elim (is_line_feed x) as (λ b. is_line_feed x ≡ b → (b || list_any is_line_feed line) ≡ false → cond (not b) (1 + feed_at (line ++ rest)) 0 ≡ suc (length line) + feed_at rest) [
      | true ↦ λ _ no. absurd (true≢false no)
      | false ↦ λ other no. omega (arith, feed_behind line rest no)
    ] refl no_end

-- what comes behind a line feed moves no line feed before it
pub feed_before : (bytes more : List ℕ) → feed_at bytes < length bytes → feed_at (bytes ++ more) ≡ feed_at bytes
feed_before [] more inside = absurd (omega (arith, inside))
feed_before (x ∷ bytes) more inside =
    elim (is_line_feed x) as (λ b. cond (not b) (1 + feed_at bytes) 0 < suc (length bytes) → cond (not b) (1 + feed_at (bytes ++ more)) 0 ≡ cond (not b) (1 + feed_at bytes) 0) [
      | true ↦ λ _. refl
      | false ↦ λ at. ap (λ n. 1 + n) (feed_before bytes more (omega (arith, at)))
    ] inside

-- The first line feed stands in the rest.
pub cut_inside : (line rest more : List ℕ) → HasNoEnd line → feed_at rest < length rest → (behind : Option (List ℕ)) → behind ≡ Some (drop (feed_at rest + 1) rest ++ more)
    → IsCut ((line ++ rest) ++ more) true (line ++ take (feed_at rest) rest) behind
cut_inside line rest more no_end inside behind is =
    let long = length-append line rest in
    let first : feed_at (line ++ rest) ≡ length line + feed_at rest = feed_behind line rest no_end in
    let at : feed_at ((line ++ rest) ++ more) ≡ length line + feed_at rest = feed_before (line ++ rest) more (omega (arith, first, long)) ∙ first in
    record {
      ended = sym (any_feed ((line ++ rest) ++ more) ∙ ap (λ n. nat_lt n (length ((line ++ rest) ++ more))) at
          ∙ lt-ltb (length line + feed_at rest) (length ((line ++ rest) ++ more)) (omega (arith, long, length-append (line ++ rest) more)));
      bytes = sym (ap (λ n. take n ((line ++ rest) ++ more)) at
          ∙ take-append-le (length line + feed_at rest) (line ++ rest) more (omega (arith, long))
          ∙ take-append-add line rest (feed_at rest));
      rest = is ∙ ap Some (sym (ap (λ n. drop (n + 1) ((line ++ rest) ++ more)) at
          ∙ drop-append-le (length line + feed_at rest + 1) (line ++ rest) more (omega (arith, long))
          ∙ ap (λ n. drop n (line ++ rest) ++ more) (add_assoc (length line) (feed_at rest) 1)
          ∙ ap (λ bytes. bytes ++ more) (drop-append-add line rest (feed_at rest + 1))));
    }

-- No line feed stands in the whole input.
pub cut_last : (line rest : List ℕ) → HasNoEnd line → length rest ≤ feed_at rest → (behind : Option (List ℕ)) → behind ≡ Some []
    → IsCut (line ++ rest) false (line ++ take (feed_at rest) rest) behind
cut_last line rest no_end none behind is =
    let long = length-append line rest in
    let at : feed_at (line ++ rest) ≡ length line + feed_at rest = feed_behind line rest no_end in
    record {
      ended = sym (any_feed (line ++ rest) ∙ le-ltb (feed_at (line ++ rest)) (length (line ++ rest)) (omega (arith, at, long)));
      bytes = sym (ap (λ n. take n (line ++ rest)) at ∙ take-append-add line rest (feed_at rest));
      rest = is ∙ ap Some (sym (drop_all (feed_at (line ++ rest) + 1) (line ++ rest) (omega (arith, at, long))));
    }

-- What was to come is cut where the line feed was found.
pub found_cut : (told : Option (List ℕ)) (line rest line' rest' : List ℕ) (over : Bool) (left : Option (List ℕ))
    → StillComes told (to_come (record { bytes = line ++ rest; is_over = over }) left) → HasNoEnd line → feed_at rest < length rest
    → line' ≡ line ++ take (feed_at rest) rest → rest' ≡ drop (feed_at rest + 1) rest
    → IfSome told (λ input. IsCut input true line' (to_come (record { bytes = rest'; is_over = over }) left))
found_cut None line rest line' rest' over left kept no_end inside new_line new_rest = tt
found_cut (Some input) line rest line' rest' true left kept no_end inside new_line new_rest =
    let is : (line ++ rest) ++ [] ≡ input = append-nil (line ++ rest) ∙ same_Some (line ++ rest) input kept in
    let cut = cut_inside line rest [] no_end inside (Some rest') (ap Some (new_rest ∙ sym (append-nil (drop (feed_at rest + 1) rest)))) in
    subst (λ bytes. IsCut bytes true line' (Some rest')) is (subst (λ bytes. IsCut ((line ++ rest) ++ []) true bytes (Some rest')) (sym new_line) cut)
found_cut (Some input) line rest line' rest' false None kept no_end inside new_line new_rest = absurd (none-some input kept)
found_cut (Some input) line rest line' rest' false (Some more) kept no_end inside new_line new_rest =
    let is : (line ++ rest) ++ more ≡ input = same_Some ((line ++ rest) ++ more) input kept in
    let cut = cut_inside line rest more no_end inside (Some (rest' ++ more)) (ap (λ bytes. Some (bytes ++ more)) new_rest) in
    subst (λ bytes. IsCut bytes true line' (Some (rest' ++ more))) is (subst (λ bytes. IsCut ((line ++ rest) ++ more) true bytes (Some (rest' ++ more))) (sym new_line) cut)

-- What was to come is its last line, which no line feed ends.
pub over_cut : (told : Option (List ℕ)) (line rest line' rest' : List ℕ) (left : Option (List ℕ))
    → StillComes told (to_come (record { bytes = line ++ rest; is_over = true }) left) → HasNoEnd line → length rest ≤ feed_at rest
    → line' ≡ line ++ take (feed_at rest) rest → rest' ≡ []
    → IfSome told (λ input. IsCut input false line' (Some rest'))
over_cut None line rest line' rest' left kept no_end none new_line new_rest = tt
over_cut (Some input) line rest line' rest' left kept no_end none new_line new_rest =
    let is : line ++ rest ≡ input = same_Some (line ++ rest) input kept in
    let cut = cut_last line rest no_end none (Some rest') (ap Some new_rest) in
    subst (λ bytes. IsCut bytes false line' (Some rest')) is (subst (λ bytes. IsCut (line ++ rest) false bytes (Some rest')) (sym new_line) cut)

pub end_cut : (told : Option (List ℕ)) (line rest line' rest' : List ℕ) (left : Option (List ℕ))
    → StillComes told (to_come (record { bytes = line ++ rest; is_over = false }) left) → HasNoEnd line → length rest ≤ feed_at rest
    → line' ≡ line ++ take (feed_at rest) rest → rest' ≡ [] → IfSome left (λ more. more ≡ [])
    → IfSome told (λ input. IsCut input false line' (Some rest'))
end_cut None line rest line' rest' left kept no_end none new_line new_rest no_more = tt
end_cut (Some input) line rest line' rest' None kept no_end none new_line new_rest no_more = absurd (none-some input kept)
end_cut (Some input) line rest line' rest' (Some more) kept no_end none new_line new_rest no_more =
    over_cut (Some input) line rest line' rest' None
    (ap Some (sym (append-nil (line ++ rest)) ∙ ap (λ bytes. (line ++ rest) ++ bytes) (sym no_more)) ∙ kept)
    no_end none new_line new_rest

-- nothing is left behind a rest without a line feed
pub none_left : (rest : List ℕ) → length rest ≤ feed_at rest → drop (feed_at rest + 1) rest ≡ []
none_left rest none = drop_all (feed_at rest + 1) rest (omega (arith, none))

eqb-false_suc : (n : ℕ) → (suc n == 0) ≡ false
eqb-false_suc n =
    elim (suc n == 0) as (λ b. (suc n == 0) ≡ b → b ≡ false) [
      | true ↦ λ same. absurd (omega (arith, eqb-true (suc n) 0 same))
      | false ↦ λ _. refl
    ] refl

-- more bytes move the first line feed to no earlier place
feed_front : (bytes more : List ℕ) → feed_at bytes ≤ feed_at (bytes ++ more)
feed_front [] more = omega arith
feed_front (x ∷ bytes) more =
    elim (is_line_feed x) as (λ b. cond (not b) (1 + feed_at bytes) 0 ≤ cond (not b) (1 + feed_at (bytes ++ more)) 0) [
      | true ↦ omega arith
      | false ↦ omega (arith, feed_front bytes more)
    ]

long_first : (input : List ℕ) → longest_line < feed_at input → IsSomeAnd (first_line input) (λ line. is_too_long line ≡ true)
long_first [] long = absurd (omega (arith, long))
long_first (x ∷ input) long =
    lt-ltb longest_line (length (take (feed_at (x ∷ input)) (x ∷ input)))
    (omega (arith, long, length-take (feed_at (x ∷ input)) (x ∷ input), feed_within (x ∷ input)))

-- The line that is to come is too long where so many bytes before its line feed are held.
pub long_told : (told : Option (List ℕ)) (bytes : List ℕ) (over : Bool) (left : Option (List ℕ))
    → StillComes told (to_come (record { bytes = bytes; is_over = over }) left) → longest_line < feed_at bytes
    → IfSome told (λ input. IsSomeAnd (first_line input) (λ line. is_too_long line ≡ true))
long_told None bytes over left kept long = tt
long_told (Some input) bytes true left kept long =
    subst (λ text. IsSomeAnd (first_line text) (λ line. is_too_long line ≡ true)) (same_Some bytes input kept) (long_first bytes long)
long_told (Some input) bytes false None kept long = absurd (none-some input kept)
long_told (Some input) bytes false (Some more) kept long =
    subst (λ text. IsSomeAnd (first_line text) (λ line. is_too_long line ≡ true)) (same_Some (bytes ++ more) input kept)
    (long_first (bytes ++ more) (omega (arith, long, feed_front bytes more)))

-- The line that was cut off, as it is given, is what the first line says.
pub given_is : (input : List ℕ) (ended : Bool) (line : List ℕ) (behind : Option (List ℕ)) (result : Option (List ℕ))
    → IsCut input ended line behind
    → result ≡ (if ended then Some (without_return line) else (if length line == 0 then None else Some line))
    → result ≡ option_map content (first_line input)
given_is [] true line behind result cut is = absurd (true≢false cut.ended)
given_is [] false line behind result cut is = is ∙ ap (λ bytes. if length bytes == 0 then None else Some bytes) cut.bytes
given_is (x ∷ input) true line behind result cut is =
    is ∙ ap (λ bytes. Some (without_return bytes)) cut.bytes
    ∙ ap (λ e. Some (content (record { bytes = before_first is_line_feed (x ∷ input); is_ended = e }))) cut.ended
given_is (x ∷ input) false line behind result cut is =
    let none = ltb-false (feed_at (x ∷ input)) (length (x ∷ input)) (sym (any_feed (x ∷ input)) ∙ sym cut.ended) in
    let whole : line ≡ x ∷ input = cut.bytes ∙ take_all (feed_at (x ∷ input)) (x ∷ input) none in
    let filled : (length line == 0) ≡ false = ap (λ bytes. length bytes == 0) whole ∙ eqb-false_suc (length input) in
    is ∙ ap (λ b. if b then None else Some line) filled ∙ ap Some cut.bytes
    ∙ ap (λ e. Some (content (record { bytes = before_first is_line_feed (x ∷ input); is_ended = e }))) cut.ended

pub given_told : (told : Option (List ℕ)) (ended : Bool) (line : List ℕ) (behind : Option (List ℕ)) (result : Option (List ℕ))
    → IfSome told (λ input. IsCut input ended line behind)
    → result ≡ (if ended then Some (without_return line) else (if length line == 0 then None else Some line))
    → IfSome told (λ input. result ≡ option_map content (first_line input))
given_told None ended line behind result cut is = tt
given_told (Some input) ended line behind result cut is = given_is input ended line behind result cut is
