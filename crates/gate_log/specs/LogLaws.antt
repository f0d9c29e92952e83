-- What the words of a log have to do with each other, for those that stand on it.
use Rattle.std.specs.Prelude.{ℕ, ◌<◌, List, Option, Some, None, length, IfSome, IsSomeAnd}
use Rattle.std.proofs.Common.{inr, sym, ap, subst, ◌∙◌}
use Rattle.disk_base.specs.Disk.{IsWithin}
use Rattle.gate_log.specs.LogFile.{bodies_in, bodies_of, end_place, IsAtRest, IsLogOf, IsSameOrOpen}
use Rattle.gate_log.specs.GateLog.{IsStarted, LogView, HasBodies, IfStarted}

-- a file at rest is a log's
pub rest_log : (file : List ℕ) (bodies : List (List ℕ)) → IsAtRest file bodies → IsLogOf file bodies
rest_log file bodies r = record { stands = r.stands; gate = inr (subst (λ (bs : List (List ℕ)). end_place bs < length file) (sym (ap bodies_in r.stands)) r.inside) }

-- a start leaves a log's file one of the same bodies, whatever it came to
pub start_keeps : (file image : List ℕ) (bodies : List (List ℕ)) → IsLogOf file bodies → IsSameOrOpen file image → IsLogOf image bodies
start_keeps file image bodies log s = let same = s.same log.gate in record { stands = same.0 ∙ log.stands; gate = same.1 }

-- a crash leaves a started log's file one of its bodies
pub images_keep : (log : LogView) (bodies : List (List ℕ)) → HasBodies log bodies → IsWithin log.file.images (λ image. IsLogOf image bodies)
images_keep log bodies has = go log.end has
  where
    told : (end : ℕ) (content : Option (List ℕ)) → IsSomeAnd content (IsStarted log.file.images end bodies) → IsWithin log.file.images (λ image. IsLogOf image bodies)
    told end None none image left = absurd none
    told end (Some file) started image left = subst (λ i. IsLogOf i bodies) (sym (started.exactly image left)) (rest_log file bodies started.at_rest)

    go : (end : Option ℕ) → IsSomeAnd end (λ e. IsSomeAnd log.file.content (IsStarted log.file.images e bodies)) → IsWithin log.file.images (λ image. IsLogOf image bodies)
    go None none image left = absurd none
    go (Some end) started image left = told end log.file.content started image left

-- what holds of the bodies of a started log holds of those that it has
pub of_bodies : (log : LogView) (bodies : List (List ℕ)) (P : List (List ℕ) → Type 0) → HasBodies log bodies → IfStarted log P → P bodies
of_bodies log bodies P has holds = go log.end log.file.content has holds
  where
    told : (end : ℕ) (content : Option (List ℕ)) → IsSomeAnd content (IsStarted log.file.images end bodies) → IfSome content (λ file. P (bodies_of file)) → P bodies
    told end None none is = absurd none
    told end (Some file) started is = subst P (ap bodies_in started.at_rest.stands) is

    go : (end : Option ℕ) (content : Option (List ℕ)) → IsSomeAnd end (λ e. IsSomeAnd content (IsStarted log.file.images e bodies)) → IfSome end (λ _. IfSome content (λ file. P (bodies_of file))) → P bodies
    go None content none is = absurd none
    go (Some end) content started is = told end content started is
