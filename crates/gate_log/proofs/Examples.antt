-- Files whose contents are known.
use Rattle.std.proofs.Common.{◌≡◌, [], ◌∷◌, ◌++◌, refl, replicate}
use Rattle.gate_log.specs.LogFile.{mark, contents_of, chain_from, length_at, bad_head, bad_chain, StandsFor}

empty : StandsFor (mark ++ 0 ∷ []) []
unfolding contents_of chain_from length_at
empty = refl

one : StandsFor (mark ++ (1 ∷ 0 ∷ 0 ∷ 0 ∷ 2 ∷ 97 ∷ 98 ∷ 0 ∷ [])) ((97 ∷ 98 ∷ []) ∷ [])
unfolding contents_of chain_from length_at
one = refl

other_gate : StandsFor (mark ++ (7 ∷ 0 ∷ 0 ∷ 0 ∷ 2 ∷ 97 ∷ 98 ∷ 0 ∷ [])) []
unfolding contents_of chain_from length_at
other_gate = refl

no_mark : contents_of (replicate 10 0) ≡ bad_head
unfolding contents_of chain_from length_at
no_mark = refl

cut_short : contents_of (mark ++ (1 ∷ 0 ∷ 0 ∷ 0 ∷ 2 ∷ 97 ∷ [])) ≡ bad_chain 8
unfolding contents_of chain_from length_at
cut_short = refl

ends_with_the_file : StandsFor (mark ++ (1 ∷ 0 ∷ 0 ∷ 0 ∷ 2 ∷ 97 ∷ 98 ∷ [])) ((97 ∷ 98 ∷ []) ∷ [])
unfolding contents_of chain_from length_at
ends_with_the_file = refl
