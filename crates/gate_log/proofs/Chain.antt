-- What the chain of a file says, record by record.
use Rattle.std.proofs.Common.{◌≡◌, ◌≢◌, ◌≤◌, ℕ, suc, zero, Bool, true, false, ◌&&◌, nat_le, List, [], length, refl, arith, slice_index}
use Rattle.std.proofs.lemmas.Bool.Decides.{nat_tests}
use Rattle.gate_log.specs.LogFile.{longest_body, holds, bad_chain, is_open, length_at, next_place, body_at, is_whole, preceded_by, chain_from, IsRecord}

pub closed_test : (bytes : List ℕ) (place : ℕ) → slice_index bytes place ≢ 1 → is_open bytes place ≡ false
closed_test bytes place ne = grind (arith, nat_tests)

pub open_test : (bytes : List ℕ) (place : ℕ) → slice_index bytes place ≡ 1 → is_open bytes place ≡ true
open_test bytes place e = grind (arith, nat_tests)

pub whole_test : (bytes : List ℕ) (end place : ℕ) → IsRecord bytes end place → is_whole bytes end place ≡ true
whole_test bytes end place r =
    let a : 1 ≤ length_at bytes place = r.not_empty in
    let b : length_at bytes place ≤ longest_body = r.not_long in
    let d : next_place bytes place ≤ end = r.inside in
    grind (arith, nat_tests)

-- an open gate with no whole record
pub broken_test : (bytes : List ℕ) (end place : ℕ) → slice_index bytes place ≡ 1 → (IsRecord bytes end place → ⊥) → is_whole bytes end place ≡ false
broken_test bytes end place e none = go (nat_le 1 (length_at bytes place)) (nat_le (length_at bytes place) longest_body) (nat_le (next_place bytes place) end) refl refl refl
  where
    go : (x y z : Bool) → nat_le 1 (length_at bytes place) ≡ x → nat_le (length_at bytes place) longest_body ≡ y → nat_le (next_place bytes place) end ≡ z → (x && y) && z ≡ false
    go true true true p q r = absurd (none (record { open_gate = e; not_empty = grind (arith, nat_tests); not_long = grind (arith, nat_tests); inside = grind (arith, nat_tests) }))
    go true true false p q r = refl
    go true false z p q r = refl
    go false y z p q r = refl

pub at_record : (records : ℕ) (bytes : List ℕ) (place : ℕ) → IsRecord bytes (length bytes) place → chain_from (suc records) bytes place ≡ preceded_by (body_at bytes place) (chain_from records bytes (next_place bytes place))
unfolding chain_from
at_record records bytes place r = rw (open_test bytes place r.open_gate, whole_test bytes (length bytes) place r)

pub at_closed : (records : ℕ) (bytes : List ℕ) (place : ℕ) → slice_index bytes place ≢ 1 → chain_from records bytes place ≡ holds []
unfolding chain_from
at_closed zero bytes place ne = refl
at_closed (suc records) bytes place ne = rw (closed_test bytes place ne)

pub at_broken : (records : ℕ) (bytes : List ℕ) (place : ℕ) → slice_index bytes place ≡ 1 → (IsRecord bytes (length bytes) place → ⊥) → chain_from (suc records) bytes place ≡ bad_chain place
unfolding chain_from
at_broken records bytes place e none = rw (open_test bytes place e, broken_test bytes (length bytes) place e none)
