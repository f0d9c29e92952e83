-- Lemmas on the words of a line.
use Rattle.std.proofs.Common.{◌≡◌, List, ℕ, [], ◌∷◌, ◌++◌, refl, ap, append_assoc}
use Rattle.std.proofs.lemmas.Result.{IfOk-equal}
use Rattle.node_runner.specs.Text.{spaced}

-- the words of two lists of words
pub spaced-append : (first second : List (List ℕ)) → spaced (first ++ second) ≡ spaced first ++ spaced second
spaced-append [] second = refl
spaced-append (word ∷ words) second = simp (spaced-append words second, append_assoc)

-- words that are added one after another
pub ruleset appends = (IfOk-equal, append_assoc, spaced-append)
