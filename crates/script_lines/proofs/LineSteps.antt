-- Lemmas on an input as the bytes of its lines.
use Rattle.std.proofs.Common.{◌≡◌, ℕ, suc, ◌+◌, ◌<◌, Bool, true, false, not, cond, ◌||◌, ◌&&◌, List, [], ◌∷◌, ◌++◌, length, take, drop, refl, sym, ◌∙◌, ap, arith, append_assoc, add-one}
use Rattle.std.specs.Prelude.{if◌then◌else◌, filter}
use Rattle.std.specs.List.{list_any, position_or_len, before_first, list_all}
use Rattle.std.proofs.lemmas.Bool.{eqb-true}
use Rattle.script_lines.specs.Lines.{line_bytes, bytes_of_lines, AreCut, Line, is_line_feed, with_byte, cut_lines, whole_lines, after_line, HasNoEnd}

-- the line at the front of an input that isn't empty
abbrev pub front_line : List ℕ → Line
front_line input = record { bytes = before_first is_line_feed input; is_ended = list_any is_line_feed input }

feed_at : List ℕ → ℕ
feed_at bytes = position_or_len is_line_feed bytes

one_more : (n : ℕ) → 1 + n ≡ suc n
one_more n = omega arith

two_more : (n : ℕ) → 1 + n + 1 ≡ suc (n + 1)
two_more n = omega arith

-- a byte that is no line feed goes to the first line
cut_other : (x : ℕ) (rest : List ℕ) → (0 < length rest → cut_lines rest ≡ front_line rest ∷ cut_lines (after_line rest))
    → with_byte x (cut_lines rest) ≡ record { bytes = take (1 + position_or_len is_line_feed rest) (x ∷ rest); is_ended = list_any is_line_feed rest } ∷ cut_lines (drop (1 + position_or_len is_line_feed rest + 1) (x ∷ rest))
cut_other x [] ih = refl
cut_other x (y ∷ ys) ih =
    ap (with_byte x) (ih (omega arith)) ∙ rw (one_more (position_or_len is_line_feed (y ∷ ys)), add-one (suc (position_or_len is_line_feed (y ∷ ys))), add-one (position_or_len is_line_feed (y ∷ ys))) refl

pub cut_front : (input : List ℕ) → 0 < length input → cut_lines input ≡ front_line input ∷ cut_lines (after_line input)
cut_front [] h = absurd (omega (arith, h))
cut_front (x ∷ rest) h =
    elim (is_line_feed x) as (λ b. (if b then record { bytes = []; is_ended = true } ∷ cut_lines rest else with_byte x (cut_lines rest))
    ≡ record { bytes = take (cond (not b) (1 + position_or_len is_line_feed rest) 0) (x ∷ rest); is_ended = b || list_any is_line_feed rest } ∷ cut_lines (drop (cond (not b) (1 + position_or_len is_line_feed rest) 0 + 1) (x ∷ rest))) [
      | true ↦ refl
      | false ↦ cut_other x rest (cut_front rest)
    ]

bytes_other : (x : ℕ) (rest : List ℕ) → (0 < length rest → line_bytes (front_line rest) ++ after_line rest ≡ rest)
    → (take (1 + position_or_len is_line_feed rest) (x ∷ rest) ++ (if list_any is_line_feed rest then 10 ∷ [] else [])) ++ drop (1 + position_or_len is_line_feed rest + 1) (x ∷ rest) ≡ x ∷ rest
bytes_other x [] ih = refl
bytes_other x (y ∷ ys) ih =
    rw (one_more (position_or_len is_line_feed (y ∷ ys)), add-one (suc (position_or_len is_line_feed (y ∷ ys)))) (ap (λ l. x ∷ l) (rw (sym (add-one (position_or_len is_line_feed (y ∷ ys)))) (ih (omega arith))))

pub bytes_front : (input : List ℕ) → 0 < length input → line_bytes (front_line input) ++ after_line input ≡ input
bytes_front [] h = absurd (omega (arith, h))
bytes_front (x ∷ rest) h =
    elim (is_line_feed x) as (λ b. is_line_feed x ≡ b → (take (cond (not b) (1 + position_or_len is_line_feed rest) 0) (x ∷ rest) ++ (if b || list_any is_line_feed rest then 10 ∷ [] else []))
    ++ drop (cond (not b) (1 + position_or_len is_line_feed rest) 0 + 1) (x ∷ rest) ≡ x ∷ rest) [
      | true ↦ λ e. ap (λ b. b ∷ rest) (sym (eqb-true x 10 e))
      | false ↦ λ _. bytes_other x rest (bytes_front rest)
    ] refl

-- bytes with no line feed, and one behind them, are one line
pub cut_ended : (bytes rest : List ℕ) → HasNoEnd bytes → cut_lines (bytes ++ 10 ∷ rest) ≡ record { bytes = bytes; is_ended = true } ∷ cut_lines rest
cut_ended [] rest h = refl
cut_ended (x ∷ bytes) rest h =
    elim (is_line_feed x) as (λ b. (b || list_any is_line_feed bytes) ≡ false → (if b then record { bytes = []; is_ended = true } ∷ cut_lines (bytes ++ 10 ∷ rest) else with_byte x (cut_lines (bytes ++ 10 ∷ rest)))
    ≡ record { bytes = x ∷ bytes; is_ended = true } ∷ cut_lines rest) [
      | true ↦ λ e. cc
      | false ↦ λ e. ap (with_byte x) (cut_ended bytes rest e)
    ] h

-- no whole line begins behind a byte where none was
whole_byte : (x : ℕ) (lines : List Line) → filter (λ line. line.is_ended) lines ≡ [] → filter (λ line. line.is_ended) (with_byte x lines) ≡ []
whole_byte x [] h = refl
whole_byte x (line ∷ lines) h = h'
  where
    go : (ended : Bool) (l m : Line) → cond ended (l ∷ filter (λ line. line.is_ended) lines) (filter (λ line. line.is_ended) lines) ≡ []
        → cond ended (m ∷ filter (λ line. line.is_ended) lines) (filter (λ line. line.is_ended) lines) ≡ []
    go true l m e = cc
    go false l m e = e

    h' : filter (λ line. line.is_ended) (with_byte x (line ∷ lines)) ≡ []
    h' = go line.is_ended line (record { bytes = x ∷ line.bytes; is_ended = line.is_ended }) h

pub no_whole : (bytes : List ℕ) → HasNoEnd bytes → whole_lines bytes ≡ []
no_whole [] h = refl
no_whole (x ∷ bytes) h =
    elim (is_line_feed x) as (λ b. (b || list_any is_line_feed bytes) ≡ false → filter (λ line. line.is_ended) (if b then record { bytes = []; is_ended = true } ∷ cut_lines bytes else with_byte x (cut_lines bytes)) ≡ []) [
      | true ↦ λ e. cc
      | false ↦ λ e. whole_byte x (cut_lines bytes) (no_whole bytes e)
    ] h

-- lines that a line feed ends, and bytes behind them in which none ends
pub whole_front : (lines : List Line) (bytes : List ℕ) → AreCut lines → list_all (λ line. line.is_ended) lines ≡ true → HasNoEnd bytes
    → whole_lines (bytes_of_lines lines ++ bytes) ≡ lines
whole_front [] bytes cut ended none = no_whole bytes none
whole_front (line ∷ lines) bytes cut ended none = go line.bytes line.is_ended (λ e. whole_front lines bytes cut.1 e none) cut.0 ended
  where
    go : (own : List ℕ) (end : Bool) → (list_all (λ line. line.is_ended) lines ≡ true → whole_lines (bytes_of_lines lines ++ bytes) ≡ lines)
        → HasNoEnd own → (end && list_all (λ line. line.is_ended) lines) ≡ true
        → whole_lines (((own ++ (if end then 10 ∷ [] else [])) ++ bytes_of_lines lines) ++ bytes) ≡ record { bytes = own; is_ended = end } ∷ lines
    go own true rest none e =
        let regroup : ((own ++ 10 ∷ []) ++ bytes_of_lines lines) ++ bytes ≡ own ++ 10 ∷ (bytes_of_lines lines ++ bytes) = simp append_assoc in
        ap whole_lines regroup ∙ ap (filter (λ line. line.is_ended)) (cut_ended own (bytes_of_lines lines ++ bytes) none) ∙ ap (λ ls. record { bytes = own; is_ended = true } ∷ ls) (rest e)
    go own false rest none e = cc

-- no line feed stands before the first
pub front_no_end : (bytes : List ℕ) → HasNoEnd (before_first is_line_feed bytes)
front_no_end [] = refl
front_no_end (x ∷ bytes) =
    elim (is_line_feed x) as (λ b. b ≡ is_line_feed x → HasNoEnd (take (cond (not b) (1 + position_or_len is_line_feed bytes) 0) (x ∷ bytes))) [
      | true ↦ λ _. refl
      | false ↦ λ other. rw (one_more (position_or_len is_line_feed bytes), ← other) (front_no_end bytes)
    ] refl
