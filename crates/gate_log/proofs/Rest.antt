-- Files with a closed gate behind their records.
use Rattle.std.proofs.Common.{◌≡◌, ◌≢◌, ◌⊎◌, inl, inr, ◌<◌, ◌≤◌, ℕ, ◌+◌, ◌-◌, Bool, true, false, nat_le, List, [], ◌∷◌, length, take, drop, get_or, refl, sym, ◌∙◌, ap, subst, arith, slice_index, slice_range}
use Rattle.std.specs.Prelude.{bytes_eq}
use Rattle.std.specs.Int.{w32, from_be_bytes}
use Rattle.std.proofs.lemmas.Bool.Decides.{nat_tests}
use Rattle.std.proofs.lemmas.List.{drop-take, take-take, get_or-take}
use Rattle.std.proofs.lemmas.Slice.Eq.{bytes_eq-Decides}
use Rattle.gate_log.specs.LogFile.{mark, holds, bad_head, bad_chain, length_at, next_place, body_at, chain_from, contents_of, StandsFor, bodies_in, end_place, IsAtRest, IsRecord, Walks}
use Rattle.gate_log.proofs.Walk.{follow, walk_says, walk_end}

pub le_or_lt : (m n : ℕ) → (m ≤ n) ⊎ (n < m)
le_or_lt m n = go (nat_le m n) refl
  where
    go : (b : Bool) → nat_le m n ≡ b → (m ≤ n) ⊎ (n < m)
    go true t = inl (grind (arith, nat_tests))
    go false t = inr (grind (arith, nat_tests))

-- the three cases of a file

pub short_file : (file : List ℕ) → length file ≤ 9 → contents_of file ≡ holds []
unfolding contents_of
short_file file short = let t : nat_le (length file) 9 ≡ true = grind (arith, nat_tests) in rw t

pub long_test : (file : List ℕ) → 9 < length file → nat_le (length file) 9 ≡ false
long_test file long = grind (arith, nat_tests)

pub unmarked_file : (file : List ℕ) → 9 < length file → take 8 file ≢ mark → contents_of file ≡ bad_head
unfolding contents_of
unmarked_file file long other =
    let t : bytes_eq (take 8 file) mark ≡ false = grind (arith, nat_tests, bytes_eq-Decides) in
    rw (long_test file long, t)

pub marked_file : (file : List ℕ) → 9 < length file → take 8 file ≡ mark → contents_of file ≡ chain_from (length file) file 8
unfolding contents_of
marked_file file long same =
    let t : bytes_eq (take 8 file) mark ≡ true = grind (arith, nat_tests, bytes_eq-Decides) in
    rw (long_test file long, t)

-- what stands before a place decides what is read there

range_agrees : (e a b : ℕ) (c xs : List ℕ) → a ≤ b → b ≤ e → take e c ≡ take e xs → slice_range c a b ≡ slice_range xs a b
range_agrees e a b c xs ab be same = sym (cut c) ∙ ap (λ l. slice_range l a b) same ∙ cut xs
  where
    cut : (l : List ℕ) → slice_range (take e l) a b ≡ slice_range l a b
    cut l =
        let is : a + (e - a) ≡ e = omega arith in
        let d : drop a (take e l) ≡ take (e - a) (drop a l) = subst (λ k. drop a (take k l) ≡ take (e - a) (drop a l)) is (drop-take a (e - a) l) in
        ap (take (b - a)) d ∙ take-take (b - a) (e - a) (drop a l) (omega arith)

pub gate_agrees : (e place : ℕ) (c xs : List ℕ) → place < e → take e c ≡ take e xs → slice_index c place ≡ slice_index xs place
gate_agrees e place c xs lt same = sym (get_or-take e c place 0 lt) ∙ ap (λ l. get_or l place 0) same ∙ get_or-take e xs place 0 lt

pub length_agrees : (e place : ℕ) (c xs : List ℕ) → place + 5 ≤ e → take e c ≡ take e xs → length_at c place ≡ length_at xs place
unfolding length_at
length_agrees e place c xs le same = ap (from_be_bytes w32) (range_agrees e (place + 1) (place + 5) c xs (omega arith) le same)

record_agrees : (e place : ℕ) (c xs : List ℕ) → IsRecord xs (length xs) place → next_place xs place ≤ e → e ≤ length c → take e c ≡ take e xs
    → IsRecord c (length c) place × (body_at xs place ≡ body_at c place) × (next_place xs place ≡ next_place c place)
record_agrees e place c xs r le long same =
    let n : length_at c place ≡ length_at xs place = length_agrees e place c xs (omega arith) same in
    let g : slice_index c place ≡ slice_index xs place = gate_agrees e place c xs (omega arith) same in
    let next : next_place xs place ≡ next_place c place = omega arith in (
      record { open_gate = g ∙ r.open_gate; not_empty = let a = r.not_empty in omega arith; not_long = let a = r.not_long in omega arith; inside = omega arith },
      sym (range_agrees e (place + 5) (next_place xs place) c xs (omega arith) le same) ∙ ap (λ k. slice_range c (place + 5) k) next,
      next,
    )

pub walk_agrees : (e place : ℕ) (bodies : List (List ℕ)) (end : ℕ) (c xs : List ℕ) → Walks xs place bodies end → end ≤ e → e ≤ length c → take e c ≡ take e xs → Walks c place bodies end
walk_agrees e place [] end c xs walks le long same = walks
walk_agrees e place (body ∷ bodies) end c xs walks le long same =
    let on = walk_end xs (next_place xs place) bodies end walks.2 in
    let here = record_agrees e place c xs walks.0 (omega arith) long same in
    (here.0, walks.1 ∙ here.1, subst (λ p. Walks c p bodies end) here.2 (walk_agrees e (next_place xs place) bodies end c xs walks.2 le long same))

-- at rest, by a walk

pub from_holds : (a b : List (List ℕ)) → holds a ≡ holds b → a ≡ b
from_holds a b e = ap bodies_in e

pub rest_walk : (file : List ℕ) (bodies : List (List ℕ)) → IsAtRest file bodies → Walks file 8 bodies (end_place bodies)
rest_walk file bodies r = go (le_or_lt (length file) 9)
  where
    go : (length file ≤ 9) ⊎ (9 < length file) → Walks file 8 bodies (end_place bodies)
    go (inl t) =
        let none : [] ≡ bodies = from_holds [] bodies (sym (short_file file t) ∙ r.stands) in
        subst (λ (bs : List (List ℕ)). Walks file 8 bs (end_place bs)) none refl
    go (inr t) =
        let f = follow (length file) file 8 (omega arith) in
        let is : chain_from (length file) file 8 ≡ holds bodies = sym (marked_file file t r.head) ∙ r.stands in
        let w : Walks file 8 f.bodies (end_place f.bodies) = subst (Walks file 8 f.bodies) (walk_end file 8 f.bodies f.end f.walks) f.walks in
        elim f.says [
          | inl s ↦ subst (λ (bs : List (List ℕ)). Walks file 8 bs (end_place bs)) (from_holds f.bodies bodies (sym s.1 ∙ is)) w
          | inr s ↦ absurd (not_both f.end bodies (sym s.2 ∙ is))
        ]
      where
        not_both : (place : ℕ) (bs : List (List ℕ)) → bad_chain place ≡ holds bs → ⊥
        not_both place bs e = cc

pub walk_rest : (file : List ℕ) (bodies : List (List ℕ)) (end : ℕ) → take 8 file ≡ mark → Walks file 8 bodies end → end < length file → slice_index file end ≢ 1 → IsAtRest file bodies
walk_rest file bodies end head walks inside shut =
    let is = walk_end file 8 bodies end walks in
    record {
      head = head;
      stands = stands bodies walks (le_or_lt (length file) 9);
      inside = omega arith;
      closed = subst (λ p. slice_index file p ≢ 1) is shut;
    }
  where
    stands : (bs : List (List ℕ)) → Walks file 8 bs end → (length file ≤ 9) ⊎ (9 < length file) → StandsFor file bs
    stands bs w (inr t) = marked_file file t head ∙ walk_says (length file) file 8 bs end w shut (omega arith)
    stands [] w (inl t) = short_file file t
    stands (b ∷ bs) w (inl t) =
        let i : next_place file 8 ≤ length file = w.0.inside in
        let e : 1 ≤ length_at file 8 = w.0.not_empty in
        absurd (omega arith)

-- behind a closed gate anything may stand
pub rest_behind : (file c : List ℕ) (bodies : List (List ℕ)) → IsAtRest file bodies → take (end_place bodies + 1) c ≡ take (end_place bodies + 1) file → length file ≤ length c → IsAtRest c bodies
rest_behind file c bodies r same long =
    let end = end_place bodies in
    let i = r.inside in
    let head : take 8 c ≡ mark = sym (take-take 8 (end + 1) c (omega arith)) ∙ ap (take 8) same ∙ take-take 8 (end + 1) file (omega arith) ∙ r.head in
    walk_rest c bodies end head
    (walk_agrees (end + 1) 8 bodies end c file (rest_walk file bodies r) (omega arith) (omega arith) same)
    (omega arith)
    (subst (λ g. g ≢ 1) (sym (gate_agrees (end + 1) end c file (omega arith) same)) r.closed)
