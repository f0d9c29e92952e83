-- Marks as keys of a set.
use Rattle.std.proofs.Common.{◌≡◌, ◌∙◌, sym, ap, refl, ℕ, Bool, true, false, ◌&&◌, ◌||◌, ◌==◌, if◌then◌else◌, List, [], ◌∷◌, ◌++◌, map}
use Rattle.std.specs.List.{list_any}
use Rattle.unit_id.proofs.Bools.{and_left, and_right, same_number, equal_test, not_so, contrary}
use Rattle.volume_entry.specs.Manager.{HeardMark}
use Rattle.volume_entry.specs.HeardMemory.{has_mark, MarksTell}
use Rattle.volume_entry.specs.MarkKeys.{mark_of}
use Rattle.volume_entry.specs.declared.heard_marks.Mark.{Mark}

pub turned : (a b : ℕ) → (a == b) ≡ (b == a)
turned a b = go (a == b) refl where
  go : (test : Bool) → (a == b) ≡ test → (a == b) ≡ (b == a)
  go true e = e ∙ sym (equal_test b a (sym (same_number a b e)))
  go false e = e ∙ sym (not_so (b == a) (λ k. contrary (a == b) (equal_test a b (sym (same_number b a k))) e))

-- one mark is another
abbrev is_mark : HeardMark → ℕ → ℕ → ℕ → Bool
is_mark k bid index epoch = (k.bid == bid) && ((k.index == index) && (k.epoch == epoch))

abbrev is_key : Mark → Mark → Bool
is_key m k = (m.bid == k.bid) && ((m.index == k.index) && (m.epoch == k.epoch))

key_turned : (m k : Mark) → is_key m k ≡ is_mark (mark_of k) m.bid m.index m.epoch
key_turned m k = λ j. turned m.bid k.bid j && (turned m.index k.index j && turned m.epoch k.epoch j)

pub keys_any : (ks : List Mark) (m : Mark) → list_any (is_key m) ks ≡ has_mark (map mark_of ks) m.bid m.index m.epoch
keys_any [] m = refl
keys_any (k ∷ ks) m = λ j. key_turned m k j || keys_any ks m j

swapped : (a b c : Bool) → (a || (b || c)) ≡ (b || (a || c))
swapped true true c = refl
swapped true false c = refl
swapped false true c = refl
swapped false false c = refl

push : (ks : List Mark) (m : Mark) (bid index epoch : ℕ) → has_mark (map mark_of (ks ++ m ∷ [])) bid index epoch ≡ (is_mark (mark_of m) bid index epoch || has_mark (map mark_of ks) bid index epoch)
push [] m bid index epoch = refl
push (k ∷ ks) m bid index epoch =
    ap (λ b. is_mark (mark_of k) bid index epoch || b) (push ks m bid index epoch)
    ∙ swapped (is_mark (mark_of k) bid index epoch) (is_mark (mark_of m) bid index epoch) (has_mark (map mark_of ks) bid index epoch)

-- a mark that is there adds nothing
there : (ks : List HeardMark) (m : Mark) (bid index epoch : ℕ) → has_mark ks m.bid m.index m.epoch ≡ true
    → has_mark ks bid index epoch ≡ (is_mark (mark_of m) bid index epoch || has_mark ks bid index epoch)
there ks m bid index epoch h = go (is_mark (mark_of m) bid index epoch) refl where
  go : (test : Bool) → is_mark (mark_of m) bid index epoch ≡ test → has_mark ks bid index epoch ≡ (test || has_mark ks bid index epoch)
  go false e = refl
  go true e =
      let b : m.bid ≡ bid = same_number m.bid bid (and_left (m.bid == bid) ((m.index == index) && (m.epoch == epoch)) e) in
      let rest = and_right (m.bid == bid) ((m.index == index) && (m.epoch == epoch)) e in
      let i : m.index ≡ index = same_number m.index index (and_left (m.index == index) (m.epoch == epoch) rest) in
      let n : m.epoch ≡ epoch = same_number m.epoch epoch (and_right (m.index == index) (m.epoch == epoch) rest) in
      sym (λ j. has_mark ks (b j) (i j) (n j)) ∙ h

pub mark_added : (ks new : List Mark) (m : Mark) (old : List HeardMark) → map mark_of ks ≡ old
    → new ≡ (if list_any (is_key m) ks then ks else ks ++ m ∷ []) → MarksTell (map mark_of new) (mark_of m ∷ old)
mark_added ks new m old o e bid index epoch =
    ap (λ ns. has_mark (map mark_of ns) bid index epoch) e ∙ go (list_any (is_key m) ks) refl
    ∙ ap (λ ms. is_mark (mark_of m) bid index epoch || has_mark ms bid index epoch) o
  where
    go : (found : Bool) → list_any (is_key m) ks ≡ found
        → has_mark (map mark_of (if found then ks else ks ++ m ∷ [])) bid index epoch ≡ (is_mark (mark_of m) bid index epoch || has_mark (map mark_of ks) bid index epoch)
    go true f = there (map mark_of ks) m bid index epoch (sym (keys_any ks m) ∙ f)
    go false f = push ks m bid index epoch
