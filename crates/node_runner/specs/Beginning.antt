-- What a run does before its first line: its words are looked at, and the farm is asked for the root.
use Rattle.std.specs.Prelude.{ℕ, ◌≡◌, Bool, true, false, not, ◌==◌, ◌||◌, List, [], ◌∷◌, slice_index, Option, None, Some, Result, Ok, Err}
use Rattle.disk_base.specs.Shelves.{ShelfView}
use Rattle.disk_base.specs.Farms.{FarmView, FarmCall, Roots}
use Rattle.disk_base.specs.declared.fault.FarmFault.{FarmFault}
use Rattle.disk_base.specs.declared.fault.FarmFault.TheVariants as refusals
use Rattle.node_runner.specs.declared.ending.Ending.{Ending}
use Rattle.node_runner.specs.declared.ending.Ending.TheVariants as endings

-- the words of the program are one root, which doesn't begin with `-`
abbrev pub are_right_words : List (List ℕ) → Bool
are_right_words (root ∷ []) = not (slice_index root 0 == 45)
are_right_words _ = false

-- how a run ends whose root is refused so
abbrev pub ending_of_refusal : FarmFault → Ending
ending_of_refusal refusals.NotEmpty = endings.RootNotEmpty
ending_of_refusal refusals.Failed = endings.RootFault
ending_of_refusal refusals.Memory = endings.OutOfMemory

-- how a run ends before its first line, by what the farm answers to the root; one with the admin's file can't be opened yet
abbrev pub ending_of_root : Result Bool FarmFault → Option Ending
ending_of_root (Ok false) = None
ending_of_root (Ok true) = Some endings.RootNotEmpty
ending_of_root (Err refusal) = Some (ending_of_refusal refusal)

-- The farm was asked for the root once, and by its answer the run ends early or goes on.
pub record AsksRoot {S F : Type 0} (seen : S → ShelfView F) (old new : FarmView S) (early : Option Ending) : Type 0 where
  pub answer : Result Bool FarmFault
  pub call : FarmCall old new answer
  pub roots : Roots seen old new answer
  pub by_answer : early ≡ ending_of_root answer

-- How a run ends early, by whether its words are right: where they are wrong the farm isn't asked.
abbrev pub Begins : {S F : Type 0} → (S → ShelfView F) → Bool → FarmView S → FarmView S → Option Ending → Type 0
Begins seen false old new early = (early ≡ Some endings.Usage) × (new ≡ old)
Begins seen true old new early = AsksRoot seen old new early

-- an end before anything is read or written
abbrev pub is_early : Ending → Bool
is_early endings.Usage = true
is_early endings.RootFault = true
is_early endings.RootNotEmpty = true
is_early ending = false

-- the statuses of these ends
abbrev pub is_unread : ℕ → Bool
is_unread status = (status == 2) || (status == 6) || (status == 7)

-- a run that is to end early ends so and has run no line, and any other ends behind its lines
abbrev pub EndsEarly : Option Ending → Ending → ℕ → Type 0
EndsEarly None ending lines = is_early ending ≡ false
EndsEarly (Some early) ending lines = (ending ≡ early) × (lines ≡ 0)
