-- Words that are cut off one by one from the front of a line are the words of the line.
use Rattle.std.proofs.Common.{◌≡◌, ℕ, suc, ◌+◌, ◌<◌, ◌≤◌, Bool, true, false, not, cond, List, [], ◌∷◌, length, take, drop, filter, length-take, refl, sym, ap, ◌∙◌, arith}
use Rattle.std.specs.List.{slice_split, onto_first, position_or_len}
use Rattle.std.proofs.lemmas.Bool.{lt-ltb}
use Rattle.node_runner.specs.Script.{is_blank, is_filled, words_of}

abbrev pub is_solid : ℕ → Bool
is_solid byte = not (is_blank byte)

-- where the first word ends, at a text that begins with one
abbrev pub word_end : List ℕ → ℕ
word_end text = position_or_len is_blank text

abbrev pub word_start : List ℕ → ℕ
word_start text = position_or_len is_solid text

-- the parts behind the first, at what comes behind the first
abbrev later_parts : List ℕ → List (List ℕ)
later_parts [] = []
later_parts (byte ∷ text) = slice_split is_blank text

one_more : (n : ℕ) → 1 + n ≡ suc n
one_more n = omega arith

pub end_within : (text : List ℕ) → word_end text ≤ length text
end_within [] = omega arith
end_within (x ∷ text) =
    elim (is_blank x) as (λ b. cond (not b) (1 + word_end text) 0 ≤ suc (length text)) [
      | true ↦ omega arith
      | false ↦ omega (arith, end_within text)
    ]

pub start_within : (text : List ℕ) → word_start text ≤ length text
start_within [] = omega arith
start_within (x ∷ text) =
    elim (is_blank x) as (λ b. cond (not (not b)) (1 + word_start text) 0 ≤ suc (length text)) [
      | true ↦ omega (arith, start_within text)
      | false ↦ omega arith
    ]

parts : (text : List ℕ) → slice_split is_blank text ≡ take (word_end text) text ∷ later_parts (drop (word_end text) text)
parts [] = refl
parts (x ∷ text) =
    elim (is_blank x) as (λ b. cond b ([] ∷ slice_split is_blank text) (onto_first x (slice_split is_blank text))
    ≡ take (cond (not b) (1 + word_end text) 0) (x ∷ text) ∷ later_parts (drop (cond (not b) (1 + word_end text) 0) (x ∷ text))) [
      | true ↦ refl
      | false ↦ rw (one_more (word_end text), parts text) refl
    ]

later : (text : List ℕ) → filter is_filled (later_parts (drop (word_end text) text)) ≡ words_of (drop (word_end text) text)
later [] = refl
later (x ∷ text) =
    elim (is_blank x) as (λ b. b ≡ is_blank x → filter is_filled (later_parts (drop (cond (not b) (1 + word_end text) 0) (x ∷ text)))
    ≡ words_of (drop (cond (not b) (1 + word_end text) 0) (x ∷ text))) [
      | true ↦ λ blank. rw (← blank) refl
      | false ↦ λ _. rw (one_more (word_end text)) (later text)
    ] refl

-- the first word is cut off
pub words_first : (text : List ℕ) → 0 < word_end text → words_of text ≡ take (word_end text) text ∷ words_of (drop (word_end text) text)
words_first text long =
    let filled : is_filled (take (word_end text) text) ≡ true = lt-ltb 0 _ (omega (arith, length-take (word_end text) text, end_within text)) in
    rw (parts text, filled, later text) refl

-- blanks in front are no words
pub words_skip : (line : List ℕ) → words_of (drop (word_start line) line) ≡ words_of line
words_skip [] = refl
words_skip (x ∷ line) =
    elim (is_blank x) as (λ b. b ≡ is_blank x → words_of (drop (cond (not (not b)) (1 + word_start line) 0) (x ∷ line)) ≡ words_of (x ∷ line)) [
      | true ↦ λ blank. rw (one_more (word_start line), ← blank) (words_skip line)
      | false ↦ λ _. refl
    ] refl

-- no word is there where none begins behind the blanks
pub words_none : (line : List ℕ) → word_end (drop (word_start line) line) ≡ 0 → words_of line ≡ []
words_none [] _ = refl
words_none (x ∷ line) no_word =
    elim (is_blank x) as (λ b. b ≡ is_blank x → word_end (drop (cond (not (not b)) (1 + word_start line) 0) (x ∷ line)) ≡ 0 → words_of (x ∷ line) ≡ []) [
      | true ↦ λ blank none. rw (← blank) (words_none line (rw (one_more (word_start line)) at none))
      | false ↦ λ solid none. absurd (omega (arith, rw (← solid) at none))
    ] refl no_word

-- the same, of what a line is from its first word on, and where that word ends
pub next_is : (line text : List ℕ) (end : ℕ) → text ≡ drop (word_start line) line → end ≡ word_end text → (end ≡ 0 → ⊥) → words_of line ≡ take end text ∷ words_of (drop end text)
next_is line text end from at there =
    rw at (sym (words_skip line) ∙ ap words_of (sym from) ∙ words_first text (omega (arith, at, there)))

pub next_none : (line text : List ℕ) (end : ℕ) → text ≡ drop (word_start line) line → end ≡ word_end text → end ≡ 0 → words_of line ≡ []
next_none line text end from at none = words_none line (ap word_end (sym from) ∙ sym at ∙ none)
