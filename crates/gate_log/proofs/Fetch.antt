-- What a read of a few bytes says of the file.
use Rattle.std.proofs.Common.{◌≡◌, ◌≢◌, ℕ, ◌+◌, ◌-◌, Bool, true, false, ◌&&◌, nat_lt, List, [], ◌∷◌, length, take, drop, refl, sym, ◌∙◌, ap, subst, arith, slice_index, Option, None, Some, IfSome, IsSomeAnd, lit<}
use Rattle.std.specs.Int.{w32, from_be_bytes}
use Rattle.std.specs.Prelude.{◌==◌}
use Rattle.std.proofs.lemmas.Bool.Decides.{nat_tests}
use Rattle.std.proofs.lemmas.List.{drop-drop, get_or-drop, get_or-take, get_or_past}
use Rattle.disk_base.specs.Disk.{ReadsAt}
use Rattle.gate_log.specs.LogFile.{is_open, length_at}
use Rattle.gate_log.specs.GateLog.{IsGateAt}
use Rattle.gate_log.specs.declared.device.Gate.{Gate}
use Rattle.gate_log.proofs.Rest.{gate_agrees, length_agrees}

pub if_some : {A : Type 0} (o : Option A) (P : A → Type 0) → ((x : A) → o ≡ Some x → P x) → IfSome o P
if_some None P f = tt
if_some (Some x) P f = f x refl

pub at_some : {A : Type 0} (o : Option A) (x : A) (P : A → Type 0) → o ≡ Some x → IfSome o P → P x
at_some o x P e h = subst (λ p. IfSome p P) e h

pub some_and : {A : Type 0} (o : Option A) (x : A) (P : A → Type 0) → o ≡ Some x → P x → IsSomeAnd o P
some_and o x P e h = subst (λ p. IsSomeAnd p P) (sym e) h

length_behind : (file : List ℕ) (place : ℕ) → length_at (drop place file) 0 ≡ length_at file place
unfolding length_at
length_behind file place =
    let n : place + 5 - (place + 1) ≡ 4 = omega arith in
    ap (λ l. from_be_bytes w32 (take 4 l)) (drop-drop 1 place file) ∙ ap (λ k. from_be_bytes w32 (take k (drop (place + 1) file))) (sym n)

pub gate_read : (n place : ℕ) (out file : List ℕ) (gate : Gate) → length out ≡ 5 → ReadsAt n place out file
    → gate.is_open ≡ (nat_lt 0 n && is_open out 0) → (n ≡ 5 → gate.count ≡ length_at out 0) → (n ≢ 5 → gate.count ≡ 0) → IsGateAt file place gate
gate_read n place out file gate five r opens number none = record {
  gate_is = opens ∙ go (nat_lt 0 n) refl;
  count_is = λ le. let is : n ≡ 5 = omega (arith, r.count) in number is ∙ length_agrees n 0 out (drop place file) (omega arith) r.bytes_are ∙ length_behind file place;
  no_count = λ lt. none (λ is. omega (arith, r.count));
}
  where
    go : (b : Bool) → nat_lt 0 n ≡ b → b && is_open out 0 ≡ is_open file place
    go true t =
        let e : slice_index out 0 ≡ slice_index file place = gate_agrees n 0 out (drop place file) (grind (arith, nat_tests)) r.bytes_are ∙ get_or-drop place file 0 0 ∙ ap (λ k. slice_index file k) (let z : place + 0 ≡ place = omega arith in z) in
        ap (λ g. g == 1) e
    go false t =
        let z : n ≡ 0 = grind (arith, nat_tests) in
        let past : slice_index file place ≡ 0 = get_or_past file place 0 (omega (arith, r.count)) in
        ap (λ g. g == 1) (sym past)

pub length_front : (head : List ℕ) → from_be_bytes w32 (slice_index head 1 ∷ slice_index head 2 ∷ slice_index head 3 ∷ slice_index head 4 ∷ []) ≡ length_at head 0
unfolding length_at
length_front head = cc (
  get_or-take 4 (drop 1 head) 0 0 (lit< tt),
  get_or-take 4 (drop 1 head) 1 0 (lit< tt),
  get_or-take 4 (drop 1 head) 2 0 (lit< tt),
  get_or-take 4 (drop 1 head) 3 0 (lit< tt),
  get_or-drop 1 head 0 0,
  get_or-drop 1 head 1 0,
  get_or-drop 1 head 2 0,
  get_or-drop 1 head 3 0,
)
