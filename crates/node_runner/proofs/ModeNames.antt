-- What reading a mode's name has to do with the names of all modes.
use Rattle.std.proofs.Common.{◌≡◌, ℕ, zero, suc, ◌<◌, nat_lt, slice_index, arith, Bool, true, false, cond, List, [], ◌∷◌, Option, Some, None, IfSome, refl, sym, ap, ◌∙◌, subst}
use Rattle.std.specs.List.{find, list_all}
use Rattle.std.specs.Str.{bytes_eq, IsUtf8}
use Rattle.std.proofs.lemmas.Str.{IsUtf8-from_ascii}
use Rattle.std.proofs.lemmas.Bool.{and_parts, ltb-true}
use Rattle.std.proofs.lemmas.Option.{none-some, same_Some}
use Rattle.std.proofs.lemmas.Slice.Eq.{bytes_eq-Decides}
use Rattle.code_mode.specs.Mode.{mode_name}
use Rattle.code_mode.specs.declared.mode.Mode.{Mode}
use Rattle.code_mode.specs.declared.mode.Mode.TheVariants.{Ec3P3, Ec6P3, Ec6P6, Ec10P4, Ec12P4, Ec12P9, Ec16P4, Ec15P12}
use Rattle.node_runner.specs.Script.{mode_of, every_mode}

-- what is found passes the test
found_passes : {A : Type 0} (p : A → Bool) (xs : List A) (x : A) → find p xs ≡ Some x → p x ≡ true
found_passes p [] x found = absurd (none-some x found)
found_passes p (y ∷ ys) x found =
    elim (p y) as (λ b. p y ≡ b → cond b (Some y) (find p ys) ≡ Some x → p x ≡ true) [
      | true ↦ λ passes e. subst (λ z. p z ≡ true) (same_Some y x e) passes
      | false ↦ λ _ e. found_passes p ys x e
    ] refl found

pub mode_again : (mode : Mode) → mode_of (mode_name mode) ≡ Some mode
unfolding mode_of
mode_again Ec3P3 = refl
mode_again Ec6P3 = refl
mode_again Ec6P6 = refl
mode_again Ec10P4 = refl
mode_again Ec12P4 = refl
mode_again Ec12P9 = refl
mode_again Ec16P4 = refl
mode_again Ec15P12 = refl

pub mode_named : (word : List ℕ) (mode : Mode) → mode_of word ≡ Some mode → word ≡ mode_name mode
unfolding mode_of
mode_named word mode found = (bytes_eq-Decides word (mode_name mode)).0 (found_passes (λ m. bytes_eq word (mode_name m)) every_mode mode found)

-- a word that is no mode's name names no mode
pub mode_none : (word : List ℕ) → ((mode : Mode) → word ≡ mode_name mode → ⊥) → None ≡ mode_of word
mode_none word other =
    elim (mode_of word) as (λ o. mode_of word ≡ o → None ≡ o) [
      | None ↦ λ _. refl
      | Some mode ↦ λ found. absurd (other mode (mode_named word mode found))
    ] refl

-- the two clauses of reading a name say that it is the mode of the word
pub mode_read : (word : List ℕ) (read : Option Mode) → ((mode : Mode) → word ≡ mode_name mode → read ≡ Some mode) → IfSome read (λ mode. word ≡ mode_name mode) → read ≡ mode_of word
mode_read word None named only = mode_none word (λ mode is. none-some mode (named mode is))
mode_read word (Some mode) named only = sym (mode_again mode) ∙ ap mode_of (sym only)

ascii_all : (bytes : List ℕ) → list_all (λ byte. nat_lt byte 128) bytes ≡ true → (i : ℕ) → slice_index bytes i < 128
ascii_all [] _ zero = omega arith
ascii_all [] _ (suc i) = omega arith
ascii_all (byte ∷ bytes) each zero = ltb-true byte 128 (and_parts (nat_lt byte 128) (list_all (λ b. nat_lt b 128) bytes) each).0
ascii_all (byte ∷ bytes) each (suc i) = ascii_all bytes (and_parts (nat_lt byte 128) (list_all (λ b. nat_lt b 128) bytes) each).1 i

name_ascii : (mode : Mode) → list_all (λ byte. nat_lt byte 128) (mode_name mode) ≡ true
name_ascii Ec3P3 = refl
name_ascii Ec6P3 = refl
name_ascii Ec6P6 = refl
name_ascii Ec10P4 = refl
name_ascii Ec12P4 = refl
name_ascii Ec12P9 = refl
name_ascii Ec16P4 = refl
name_ascii Ec15P12 = refl

-- each name is text
pub mode_text : (mode : Mode) → IsUtf8 (mode_name mode)
mode_text mode = IsUtf8-from_ascii (mode_name mode) (ascii_all (mode_name mode) (name_ascii mode))
