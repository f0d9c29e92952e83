-- The bytes after a write, place by place.
use Rattle.std.proofs.Common.{◌≡◌, ℕ, ◌+◌, ◌-◌, ◌<◌, ◌≤◌, max, List, ◌++◌, length, take, drop, get_or, refl, ap, ◌∙◌, arith, length-append, length-drop, get_or-take, get_or-drop}
use Rattle.std.proofs.lemmas.List.{length-take-le, get_or_append_left, get_or-append_right}
use Rattle.disk_base.specs.Disk.{overwritten}

module _ (b w : List ℕ) (at : ℕ) (within : at ≤ length b) where
  front : length (take at b) ≡ at
  front = length-take-le at b within

  pub length-overwritten : length (overwritten b at w) ≡ max (length b) (at + length w)
  length-overwritten =
      omega (arith, length-append (take at b) (w ++ drop (at + length w) b), length-append w (drop (at + length w) b), length-drop (at + length w) b, front)

  pub before : (k : ℕ) → k < at → get_or (overwritten b at w) k 0 ≡ get_or b k 0
  before k lt = get_or_append_left (take at b) (w ++ drop (at + length w) b) 0 k (omega (arith, front)) ∙ get_or-take at b k 0 lt

  pub inside : (k : ℕ) → at ≤ k → k < at + length w → get_or (overwritten b at w) k 0 ≡ get_or w (k - at) 0
  inside k le lt =
      get_or-append_right (take at b) (w ++ drop (at + length w) b) at k 0 front le
      ∙ get_or_append_left w (drop (at + length w) b) 0 (k - at) (omega (arith, le, lt))

  pub behind : (k : ℕ) → at + length w ≤ k → get_or (overwritten b at w) k 0 ≡ get_or b k 0
  behind k le =
      let there : at + length w + (k - at - length w) ≡ k = omega (arith, le) in
      get_or-append_right (take at b) (w ++ drop (at + length w) b) at k 0 front (omega (arith, le))
      ∙ get_or-append_right w (drop (at + length w) b) (length w) (k - at) 0 refl (omega (arith, le))
      ∙ get_or-drop (at + length w) b (k - at - length w) 0
      ∙ ap (λ (n : ℕ). get_or b n 0) there
