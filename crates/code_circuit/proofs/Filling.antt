-- Pieces of lists, and lists that grow by pieces.
use Rattle.std.proofs.Common.{◌≡◌, ℕ, ◌+◌, ◌<◌, ◌≤◌, List, [], ◌++◌, length, get_or, set, take, drop, map, replicate, sym, ap, ◌∙◌, arith, length-take, length-drop, Bor}
use Rattle.std.proofs.Math.ListN.{get_or-eq_default}
use Rattle.gf256.specs.Rows.{contents}
use Rattle.std.proofs.lemmas.List.{get_or-take, get_or-drop, get_or-replicate, length-replicate, get_or-map, get_or-set_other, length-map, map-set}
use Rattle.std.proofs.lemmas.List.Edits.{fill_by_more}
use Rattle.std.specs.List.{range_with_len}
use Rattle.std.proofs.lemmas.List.FromFn.{fill_by_all}
use Rattle.code_circuit.specs.Steps.{piece_of, picked}

pub piece_by_take : (bytes : List ℕ) (from size : ℕ) → from + size ≤ length bytes → take size (drop from bytes) ≡ piece_of bytes from size
piece_by_take bytes from size le =
    fill_by_all (λ j. get_or bytes (from + j) 0) (take size (drop from bytes)) size 0 (omega (arith, length-take size (drop from bytes), length-drop from bytes))
    (λ k lt. get_or-take size (drop from bytes) k 0 lt ∙ get_or-drop from bytes k 0)

pub piece_of_none : (from size : ℕ) → replicate size 0 ≡ piece_of [] from size
piece_of_none from size = fill_by_all (λ j. 0) (replicate size 0) size 0 (length-replicate size 0) (λ k lt. get_or-replicate size k 0 0 lt)

-- ---- lists that are written one after another
pub written_more : {V : Type 0} (f : V → List ℕ) (wanted : ℕ → List ℕ) (lists : List V) (k : ℕ) (new : V) → k < length lists
    → ((j : ℕ) → j < k → get_or (map f lists) j [] ≡ wanted j) → f new ≡ wanted k
    → (j : ℕ) → j < k + 1 → get_or (map f (set lists k new)) j [] ≡ wanted j
written_more f wanted lists k new inside before e j lt =
    ap (λ xs. get_or xs j []) (map-set f lists k new ∙ ap (set (map f lists) k) e)
    ∙ fill_by_more wanted (map f lists) k [] (omega (arith, length-map lists f)) before j lt

pub others_left : {V : Type 0} (f : V → List ℕ) (lists : List V) (k j : ℕ) (new : V) → k + 1 ≤ j → get_or (map f (set lists k new)) j [] ≡ get_or (map f lists) j []
others_left f lists k j new le =
    ap (λ xs. get_or xs j []) (map-set f lists k new) ∙ get_or-set_other (map f lists) k j (f new) [] (λ same. absurd (omega arith))

pub all_written : {V : Type 0} (f : V → List ℕ) (wanted : ℕ → List ℕ) (lists : List V) (n : ℕ) → length lists ≡ n
    → ((j : ℕ) → j < n → get_or (map f lists) j [] ≡ wanted j) → map f lists ≡ map wanted (range_with_len 0 n)
all_written f wanted lists n long done = fill_by_all wanted (map f lists) n [] (length-map lists f ∙ long) done

pub appended : {V : Type 0} (f : V → List ℕ) (outputs registers : List V) (old : List (List ℕ)) (places : List ℕ) (k : ℕ) (was register : V)
    → k < length outputs → k < length places → get_or places k 0 < length registers
    → was ≡ get_or outputs k was → register ≡ get_or registers (get_or places k 0) register → get_or (map f outputs) k [] ≡ get_or old k []
    → f was ++ f register ≡ get_or old k [] ++ get_or (picked places (map f registers)) k []
appended f outputs registers old places k was register inside lt in_registers here there kept =
    ap (λ xs. xs ++ f register) (ap f here ∙ sym (get_or-map f outputs k was [] inside) ∙ kept)
    ∙ ap (λ xs. get_or old k [] ++ xs) (ap f there ∙ sym (get_or-map f registers (get_or places k 0) register [] in_registers) ∙ sym (get_or-map (λ place. get_or (map f registers) place []) places k 0 [] lt))

-- behind the last source there is nothing
pub bytes_behind : (sources : List (Bor (List ℕ))) (number : ℕ) → length sources ≤ number → (k : ℕ) → get_or (get_or (contents sources) number []) k 0 < 256
bytes_behind sources number le k =
    let none : get_or (contents sources) number [] ≡ [] = get_or-eq_default (contents sources) [] (omega (arith, length-map sources (λ source. source.now))) in
    rw none (omega arith)
