-- Registers of bytes, steps that add a multiple of one register to another, and what a circuit of steps computes.
use Rattle.std.specs.Prelude.{◌≡◌, ◌≢◌, ℕ, ◌+◌, ◌<◌, ◌==◌, if◌then◌else◌, List, [], All, length, map, fold, slice_index, slice_index_or, slice_set}
use Rattle.std.specs.List.{range_with_len}
use Rattle.gf256.specs.Field.{plus_scaled}
use Rattle.code_circuit.specs.declared.step.Step.{Step}

-- the registers with the factor times the source added to the target, place by place
unfoldable pub after_step : List (List ℕ) → Step → List (List ℕ)
after_step registers step = slice_set registers step.target (plus_scaled (slice_index_or registers step.target []) step.factor (slice_index_or registers step.source []))

-- the registers after one step after another
abbrev pub after_steps : List (List ℕ) → List Step → List (List ℕ)
after_steps registers steps = fold after_step registers steps

-- a step between two of so many registers
pub record IsAllowed (registers : ℕ) (step : Step) : Type 0 where
  pub target_in : step.target < registers
  pub source_in : step.source < registers
  pub apart : step.source ≢ step.target

-- all lists have one length
abbrev pub AreEven : List (List ℕ) → Type 0
AreEven lists = (j k : ℕ) → j < length lists → k < length lists → length (slice_index_or lists j []) ≡ length (slice_index_or lists k [])

-- the factors of the k-th source alone: a 1 at place k, and 0 elsewhere
abbrev pub unit_row : ℕ → ℕ → List ℕ
unit_row sources k = map (λ j. if j == k then 1 else 0) (range_with_len 0 sources)

-- the factors of what each register holds at first: the k-th source, or nothing behind the last source
abbrev pub unit_rows : ℕ → ℕ → List (List ℕ)
unit_rows sources registers = map (unit_row sources) (range_with_len 0 registers)

-- the registers at these places
abbrev pub picked : List ℕ → List (List ℕ) → List (List ℕ)
picked places registers = map (λ place. slice_index_or registers place []) places

-- so many bytes of a list from a place on, with 0 behind its end
abbrev pub piece_of : List ℕ → ℕ → ℕ → List ℕ
piece_of bytes from size = map (λ j. slice_index bytes (from + j)) (range_with_len 0 size)

-- what each register holds at first for a piece of the sources
abbrev pub loaded : List (List ℕ) → ℕ → ℕ → ℕ → List (List ℕ)
loaded sources from size registers = map (λ k. piece_of (slice_index_or sources k []) from size) (range_with_len 0 registers)

-- what a circuit stands for: for each output the factors of so many sources
pub record Rows : Type 0 where
  pub sources : ℕ
  pub rows : List (List ℕ)

-- allowed steps lead from the sources to the rows, which the outputs' registers hold at the end
pub record Computes (sources registers : ℕ) (steps : List Step) (outputs : List ℕ) (rows : List (List ℕ)) : Type 0 where
  pub allowed : All (IsAllowed registers) steps
  pub inside : All (λ output. output < registers) outputs
  pub leads : picked outputs (after_steps (unit_rows sources registers) steps) ≡ rows
