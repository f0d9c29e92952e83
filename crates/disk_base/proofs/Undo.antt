-- Undoing a write gives back what was there.
use Rattle.std.proofs.Common.{◌≡◌, ◌⊎◌, inl, inr, ℕ, ◌+◌, ◌-◌, ◌<◌, ◌≤◌, min, max, List, [], ◌∷◌, ◌++◌, length, take, drop, reverse, get_or, refl, ap, ◌∙◌, arith, length-append, length-drop, get_or-take, get_or-drop}
use Rattle.std.proofs.lemmas.List.{reverse-append, length-take, length-take-le, take_at, drop_at, get_or_append_left, get_or-append_right}
use Rattle.std.proofs.lemmas.Bool.{cases_lt}
use Rattle.std.proofs.lemmas.Grind.{same_number_lists}
use Rattle.disk_base.specs.declared.mem_file.Change.{Change}
use Rattle.disk_base.specs.declared.mem_file.Change.TheVariants.{Write}
use Rattle.disk_base.specs.Disk.{overwritten}
use Rattle.disk_base.specs.History.{undone, past_of}
use Rattle.disk_base.proofs.Overwrites.{length-overwritten, before, behind}

-- the bytes that a write replaces
abbrev pub replaced_by : List ℕ → ℕ → List ℕ → List ℕ
replaced_by b at w = take (length w) (drop at b)

pub length-replaced_by : (b w : List ℕ) (at : ℕ) → length (replaced_by b at w) ≡ min (length w) (length b - at)
length-replaced_by b w at = length-take (length w) (drop at b) ∙ ap (λ (n : ℕ). min (length w) n) (length-drop at b)

split : (m n : ℕ) → (m < n) ⊎ (n ≤ m)
split m n = cases_lt m n

module _ (b w : List ℕ) (at : ℕ) (within : at ≤ length b) where
  abbrev new : List ℕ
  new = overwritten b at w

  abbrev old : List ℕ
  old = replaced_by b at w

  abbrev rest : List ℕ
  rest = drop (at + length old) (take (length b) new)

  long : length new ≡ max (length b) (at + length w)
  long = length-overwritten b w at within

  cut : length (take (length b) new) ≡ length b
  cut = length-take-le (length b) new (omega (arith, long))

  size : length old ≡ min (length w) (length b - at)
  size = length-replaced_by b w at

  front : length (take at new) ≡ at
  front = length-take-le at new (omega (arith, long, within))

  length-rest : length rest ≡ length b - (at + length old)
  length-rest = length-drop (at + length old) (take (length b) new) ∙ ap (λ (n : ℕ). n - (at + length old)) cut

  length-undone : length (take at new ++ (old ++ rest)) ≡ length b
  length-undone = omega (arith, length-append (take at new) (old ++ rest), length-append old rest, front, length-rest, size, within)

  at_front : (k : ℕ) → k < at → get_or (take at new ++ (old ++ rest)) k 0 ≡ get_or b k 0
  at_front k lt = get_or_append_left (take at new) (old ++ rest) 0 k (omega (arith, front)) ∙ get_or-take at new k 0 lt ∙ before b w at within k lt

  at_old : (k : ℕ) → at ≤ k → k < at + length old → get_or (take at new ++ (old ++ rest)) k 0 ≡ get_or b k 0
  at_old k le lt =
      let there : at + (k - at) ≡ k = omega (arith, le) in
      get_or-append_right (take at new) (old ++ rest) at k 0 front le
      ∙ get_or_append_left old rest 0 (k - at) (omega (arith, le, lt))
      ∙ get_or-take (length w) (drop at b) (k - at) 0 (omega (arith, le, lt, size))
      ∙ get_or-drop at b (k - at) 0
      ∙ ap (λ (n : ℕ). get_or b n 0) there

  at_rest : (k : ℕ) → at + length old ≤ k → k < length b → get_or (take at new ++ (old ++ rest)) k 0 ≡ get_or b k 0
  at_rest k le lt =
      let there : at + length old + (k - at - length old) ≡ k = omega (arith, le) in
      get_or-append_right (take at new) (old ++ rest) at k 0 front (omega (arith, le))
      ∙ get_or-append_right old rest (length old) (k - at) 0 refl (omega (arith, le))
      ∙ get_or-drop (at + length old) (take (length b) new) (k - at - length old) 0
      ∙ ap (λ (n : ℕ). get_or (take (length b) new) n 0) there
      ∙ get_or-take (length b) new k 0 lt
      ∙ behind b w at within k (omega (arith, le, lt, size))

  each : (k : ℕ) → k < length b → get_or (take at new ++ (old ++ rest)) k 0 ≡ get_or b k 0
  each k lt = elim (split k at) [
    | inl lower ↦ at_front k lower
    | inr upper ↦ elim (split k (at + length old)) [ inl lower ↦ at_old k upper lower | inr higher ↦ at_rest k higher lt ]
  ]

  pub undone-overwritten : undone at (length b) (replaced_by b at w) (overwritten b at w) ≡ b
  undone-overwritten = same_number_lists (take at new ++ (old ++ rest)) b length-undone (λ k h. each k (omega (arith, h, length-undone)))

pub past_of-write : (older : List Change) (replaced b w : List ℕ) (at : ℕ) → at ≤ length b → past_of (Write at (length w) (length b) ∷ older) (replaced ++ replaced_by b at w) (overwritten b at w) ≡ past_of older replaced b
past_of-write older replaced b w at within =
    let both = length-append replaced (replaced_by b at w) in
    let count : length (replaced ++ replaced_by b at w) - min (length w) (length b - at) ≡ length replaced = omega (arith, both, length-replaced_by b w at) in
    let kept : take (length (replaced ++ replaced_by b at w) - min (length w) (length b - at)) (replaced ++ replaced_by b at w) ≡ replaced = ap (λ (n : ℕ). take n (replaced ++ replaced_by b at w)) count ∙ take_at replaced (replaced_by b at w) (length replaced) refl in
    let taken : drop (length (replaced ++ replaced_by b at w) - min (length w) (length b - at)) (replaced ++ replaced_by b at w) ≡ replaced_by b at w = ap (λ (n : ℕ). drop n (replaced ++ replaced_by b at w)) count ∙ drop_at replaced (replaced_by b at w) (length replaced) refl in
    let gone = ap (λ (r : List ℕ). undone at (length b) r (overwritten b at w)) taken ∙ undone-overwritten b w at within in
    λ i. past_of older (kept i) (gone i)

pub past_of-pushed : (changes : List Change) (replaced b w : List ℕ) (at : ℕ) → at ≤ length b → past_of (reverse (changes ++ Write at (length w) (length b) ∷ [])) (replaced ++ replaced_by b at w) (overwritten b at w) ≡ past_of (reverse changes) replaced b
past_of-pushed changes replaced b w at within =
    ap (λ (log : List Change). past_of log (replaced ++ replaced_by b at w) (overwritten b at w)) (reverse-append changes (Write at (length w) (length b) ∷ []))
    ∙ past_of-write (reverse changes) replaced b w at within
