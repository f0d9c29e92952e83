-- What is listed of a unit that is at work.
use Rattle.std.proofs.Common.{◌≡◌, ◌∙◌, sym, ap, refl, subst, ℕ, zero, suc, ◌<◌, false, List, [], ◌∷◌, Option, None, Some, Result, Ok, Err, inl, inr, length, get_or, arith}
use Rattle.std.specs.Prelude.{◌==◌, ◌||◌, option_map, IsErr}
use Rattle.std.specs.List.{list_any, AllPairs}
use Rattle.std.proofs.lemmas.Bool.Decides.{nat_tests}
use Rattle.std.proofs.lemmas.List.Kept.{AllPairs-from_increasing}
use Rattle.unit_id.specs.Lists.{IsIn, is_in}
use Rattle.unit_id.specs.Place.{Place}
use Rattle.unit_id.specs.declared.request.Request.TheVariants as requests
use Rattle.unit_id.specs.declared.answer.Answer as answered
use Rattle.unit_id.specs.declared.answer.Answer.TheVariants as answers
use Rattle.disk_base.specs.Disk.{FileView, IsFile}
use Rattle.chunk_store.specs.Chunk.{shown, IsSound}
use Rattle.chunk_store.specs.Kept.{KeptRows, row_of, kind_of, Lists}
use Rattle.chunk_store.specs.Kept as keeps
use Rattle.chunk_store.specs.declared.index.KeptRow.{KeptRow}
use Rattle.chunk_store.specs.declared.index.KeptRow.TheVariants as kept
use Rattle.blob_node.specs.Units.{UnitRecord, Units, is_live, is_deleted}
use Rattle.blob_node.specs.UnitAnswer.{Effect, started, AreAscending, IsListing}
use Rattle.blob_node.specs.Holding.{Written, Holds}
use Rattle.disk_base.specs.declared.fault.NoMemory.{NoMemory}
use Rattle.chunk_store.specs.Chunk.{ListAnswers}
use Rattle.chunk_store.specs.declared.fault.ChunkFault.{ChunkFault}
use Rattle.blob_node.specs.HeldUnit.{UnitOver, is_released, Held, record_of_doubt, WorksOn, WorksBy, WorksFrom, GivesListing}
use Rattle.blob_node.proofs.Holdings.{stays, none_known}
use Rattle.blob_node.proofs.Working.{state_of_kind, row_is, through_none}

index_of : (n : ℕ) (xs : List ℕ) → IsIn n xs → (j : ℕ) × (j < length xs) × (get_or xs j 0 ≡ n)
index_of n [] h = absurd h
index_of n (y ∷ ys) (inl e) = (zero, omega arith, sym e)
index_of n (y ∷ ys) (inr r) = let w = index_of n ys r in (suc w.0, omega (arith, w.1), w.2)

pub ascends : (xs : List ℕ) → AllPairs (λ x y. x < y) xs → AreAscending xs
ascends [] h = tt
ascends (x ∷ xs) h = (
  λ n in_. let w = index_of n xs in_ in subst (λ m. x < m) w.2 (h zero (suc w.0) 0 (omega arith) (omega (arith, w.1))),
  ascends xs (λ i j d less inside. h (suc i) (suc j) d (omega (arith, less)) (omega (arith, inside))),
)

turned : (a b : ℕ) → (a == b) ≡ (b == a)
turned a b = grind (arith, nat_tests)

pub same_test : (bid : ℕ) (xs : List ℕ) → is_in bid xs ≡ list_any (λ listed. listed == bid) xs
same_test bid [] = refl
same_test bid (x ∷ xs) = λ i. turned bid x i || same_test bid xs i

live_same : (k : Option KeptRow) → keeps.is_live k ≡ is_live (state_of_kind (kind_of k))
live_same None = refl
live_same (Some (kept.Live place size)) = refl
live_same (Some kept.Marked) = refl
live_same (Some kept.Gone) = refl

deleted_same : (k : Option KeptRow) → keeps.is_deleted k ≡ is_deleted (state_of_kind (kind_of k))
deleted_same None = refl
deleted_same (Some (kept.Live place size)) = refl
deleted_same (Some kept.Marked) = refl
deleted_same (Some kept.Gone) = refl

module _ {E : Type 0} (seen : E → FileView) (old : UnitOver E) (open_ : old.chunk.is_shut ≡ false) (sound : IsSound (shown seen old.chunk)) (written : Written) (units : Units) (place : Place) (held : Held seen old written units place) where
  row_there : (bid : ℕ) → units.row place bid ≡ state_of_kind (kind_of (row_of old.chunk.kept bid))
  row_there bid = row_is seen old old written units place held open_ sound bid

  module _ (live marked : List ℕ) (lists_live : Lists keeps.is_live old.chunk.kept live) (lists_marked : Lists keeps.is_deleted old.chunk.kept marked) where
    listing : IsListing (units.row place) (record { live = live; marked = marked })
    listing = record {
      live_order = ascends live (AllPairs-from_increasing live lists_live.ascending);
      marked_order = ascends marked (AllPairs-from_increasing marked lists_marked.ascending);
      live = λ bid. same_test bid live ∙ lists_live.exactly bid ∙ live_same (row_of old.chunk.kept bid) ∙ ap is_live (sym (row_there bid));
      marked = λ bid. same_test bid marked ∙ lists_marked.exactly bid ∙ deleted_same (row_of old.chunk.kept bid) ∙ ap is_deleted (sym (row_there bid));
    }

    pub list_works : (lock disk : ℕ) → WorksOn seen (requests.List old.chunk.unit disk lock) written units place (answers.Listing lock live marked) old
    list_works lock disk = record {
      effect = Effect.Started;
      works = (refl, listing);
      bytes = tt;
      holds =
          subst (λ (o : Option UnitRecord). Holds (shown seen old.chunk) o (is_released old) written (started place units) place)
          (sym (none_known (shown seen old.chunk) (shown seen old.chunk) (option_map record_of_doubt old.doubt) (is_released old) (is_released old) written units place held open_))
          (stays (shown seen old.chunk) (shown seen old.chunk) (option_map record_of_doubt old.doubt) (is_released old) (is_released old) written units place held open_ open_ (held.file.0 open_).0 refl);
    }

  lists_to : (lock disk : ℕ) (outcome : Result (List ℕ × List ℕ) ChunkFault) (result : Result answered.Answer NoMemory)
      → ListAnswers false (λ lists. Lists keeps.is_live old.chunk.kept lists.0 × Lists keeps.is_deleted old.chunk.kept lists.1) outcome → GivesListing lock outcome result → WorksBy seen (requests.List old.chunk.unit disk lock) written units place old result
  lists_to lock disk (Ok lists) result is gives =
      subst (WorksBy seen (requests.List old.chunk.unit disk lock) written units place old) (sym gives) (list_works lists.0 lists.1 is.0 is.1 lock disk)
  lists_to lock disk (Err why) (Err e) is gives = held
  lists_to lock disk (Err why) (Ok a) is gives = absurd (not_err a gives)
    where
      not_err : (a : answered.Answer) → IsErr {T = answered.Answer} {E = NoMemory} (Ok a) → ⊥
      not_err a e = cc

  pub lists_by : IsFile (seen old.chunk.log.file) → (lock disk : ℕ) (outcome : Result (List ℕ × List ℕ) ChunkFault) (result : Result answered.Answer NoMemory)
      → ListAnswers false (λ lists. Lists keeps.is_live old.chunk.kept lists.0 × Lists keeps.is_deleted old.chunk.kept lists.1) outcome → GivesListing lock outcome result
      → WorksFrom seen (requests.List old.chunk.unit disk lock) written units place old old result
  lists_by is_file lock disk outcome result is gives =
      (lists_to lock disk outcome result is gives, through_none seen (requests.List old.chunk.unit disk lock) old written units place is_file (held.file.0 open_).0)
