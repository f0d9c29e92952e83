-- Sets of shards of one length.
use Rattle.std.proofs.Common.{◌≡◌, ℕ, zero, suc, ◌+◌, ◌<◌, cond, List, [], ◌∷◌, length, map, take, set, Option, Some, None, unwrap_or, IfSome, sym, ◌∙◌, subst, arith}
use Rattle.std.specs.Prelude.{is_some, IsSomeAnd}
use Rattle.std.specs.List.{range_with_len}
use Rattle.std.proofs.lemmas.List.FromFn.{get_or-map-range_with_len}
use Rattle.std.proofs.lemmas.List.Sums.{sum_by-cons}
use Rattle.code_mode.specs.declared.mode.Mode.{Mode}
use Rattle.code_mode.specs.declared.mode.Mode.TheVariants.{Ec3P3, Ec6P3, Ec6P6, Ec10P4, Ec12P4, Ec12P9, Ec16P4, Ec15P12}
use Rattle.code_mode.specs.Mode.{data_count, total_count, shard_size}
use Rattle.code_mode.specs.Stripe.{HoldsData}
use Rattle.rs_code.specs.Shards.{shard_at, held, held_count, size_of}
use Rattle.rs_code.specs.ShardValue.{row_through, rebuilt, filled}
use Rattle.rs_code.proofs.Filled.{length-row_through, size_when_held}

-- each shard that is held has this length
abbrev pub AreLong : ℕ → List (Option (List ℕ)) → Type 0
AreLong size shards = (k : ℕ) → IfSome (shard_at shards k) (λ bytes. length bytes ≡ size)

pub long_size : (size : ℕ) (shards : List (Option (List ℕ))) → AreLong size shards → IfSome (size_of shards) (λ found. found ≡ size)
long_size size [] h = tt
long_size size (None ∷ shards) h = long_size size shards (λ k. h (suc k))
long_size size (Some bytes ∷ shards) h = h 0

pub fits_size : (size : ℕ) (shards : List (Option (List ℕ))) (bytes : List ℕ) → AreLong size shards → length bytes ≡ size → IfSome (size_of shards) (λ found. found ≡ length bytes)
fits_size size shards bytes h long = go (size_of shards) (long_size size shards h) where
  go : (found : Option ℕ) → IfSome found (λ n. n ≡ size) → IfSome found (λ n. n ≡ length bytes)
  go None e = tt
  go (Some n) e = e ∙ sym long

size_is : (size : ℕ) (shards : List (Option (List ℕ))) → AreLong size shards → 0 < held_count shards → unwrap_or (size_of shards) 0 ≡ size
size_is size shards h some = go (size_of shards) (long_size size shards h) (size_when_held shards some) where
  go : (found : Option ℕ) → IfSome found (λ n. n ≡ size) → found ≡ Some (unwrap_or found 0) → unwrap_or found 0 ≡ size
  go None e some = cc
  go (Some n) e some = e

pub filled_holds : (mode : Mode) (size : ℕ) (shards : List (Option (List ℕ))) → length shards ≡ total_count mode → AreLong (shard_size mode size) shards → 0 < held_count shards
    → HoldsData mode size (filled (data_count mode) shards)
unfolding filled rebuilt
filled_holds mode size shards total even some k below =
    let new : ℕ → Option (List ℕ) = λ k. Some (unwrap_or (shard_at shards k) (rebuilt (data_count mode) shards k)) in
    let at : shard_at (map new (range_with_len 0 (length shards))) k ≡ new k = get_or-map-range_with_len new 0 (length shards) k k None (omega arith) (omega arith) in
    subst (λ (shard : Option (List ℕ)). IsSomeAnd shard (λ bytes. length bytes ≡ shard_size mode size)) (sym at) (long (shard_at shards k) (even k)) where
      long : (shard : Option (List ℕ)) → IfSome shard (λ bytes. length bytes ≡ shard_size mode size) → length (unwrap_or shard (row_through shards (take (data_count mode) (held shards)) k)) ≡ shard_size mode size
      long None h = length-row_through shards (take (data_count mode) (held shards)) k ∙ size_is (shard_size mode size) shards even some
      long (Some bytes) h = h

pub data_some : (mode : Mode) → 0 < data_count mode
data_some Ec3P3 = omega arith
data_some Ec6P3 = omega arith
data_some Ec6P6 = omega arith
data_some Ec10P4 = omega arith
data_some Ec12P4 = omega arith
data_some Ec12P9 = omega arith
data_some Ec16P4 = omega arith
data_some Ec15P12 = omega arith

-- one shard more
pub held_more : (shards : List (Option (List ℕ))) (i : ℕ) (bytes : List ℕ) → i < length shards → shard_at shards i ≡ None → held_count (set shards i (Some bytes)) ≡ held_count shards + 1
held_more [] i bytes below free = absurd (omega arith)
held_more (None ∷ shards) zero bytes below free =
    let now = sum_by-cons (λ (x : Option (List ℕ)). cond (is_some x) 1 0) (Some bytes) shards in
    let was = sum_by-cons (λ (x : Option (List ℕ)). cond (is_some x) 1 0) None shards in
    omega arith
held_more (Some other ∷ shards) zero bytes below free = cc
held_more (s ∷ shards) (suc i) bytes below free =
    let rest = held_more shards i bytes (omega arith) free in
    let now = sum_by-cons (λ (x : Option (List ℕ)). cond (is_some x) 1 0) s (set shards i (Some bytes)) in
    let was = sum_by-cons (λ (x : Option (List ℕ)). cond (is_some x) 1 0) s shards in
    omega arith
