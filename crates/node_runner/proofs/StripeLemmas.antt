-- Lemmas on the shards of an object.
use Rattle.std.proofs.Common.{◌≡◌, ℕ, zero, suc, ◌+◌, ◌<◌, ◌≤◌, inl, inr, List, [], ◌∷◌, length, take, map, Option, Some, None, IfSome, refl, sym, ◌∙◌, ap, subst, arith, get_or, set, cond}
use Rattle.std.specs.Prelude.{All, is_some, replicate}
use Rattle.std.specs.List.{range_with_len}
use Rattle.std.proofs.lemmas.Bool.{cases_lt}
use Rattle.std.proofs.lemmas.List.{get_or_past, get_or-set_same, get_or-set_other, length-set, length-replicate}
use Rattle.std.proofs.lemmas.List.Elements.{All-from_get_or}
use Rattle.std.proofs.lemmas.List.FromFn.{length-map-range_with_len, length-range_with_len}
use Rattle.std.proofs.lemmas.List.Sums.{sum_by-cons}
use Rattle.code_mode.specs.declared.mode.Mode.{Mode}
use Rattle.code_mode.specs.Mode.{data_count, parity_count, total_count, shard_size}
use Rattle.code_mode.specs.Stripe.{joined, all_shards, shard_of, column, pieces, HoldsEnough, HoldsOwnData}
use Rattle.rs_code.specs.ShardValue.{value_at}
use Rattle.rs_code.specs.Shape.{Shape}
use Rattle.rs_code.specs.Shards.{shard_at, held_count, size_of}
use Rattle.node_runner.specs.Session.{largest_object}
use Rattle.node_runner.specs.Stripes.{shape_of, blob_in, IsStripe, HoldsBelow}

-- the numbers of a slice of bytes are bytes
pub are_bytes : (bytes : List ℕ) → ((i : ℕ) → get_or bytes i 0 < 256) → All (λ b. b < 256) bytes
are_bytes bytes h = All-from_get_or (λ b. b < 256) bytes 0 (λ i _. h i)

-- the law's two clauses that are used here
abbrev pub EachIsThere : Type 0
EachIsThere = (mode : Mode) (blob : List ℕ) (k : ℕ) → k < total_count mode → shard_at (all_shards mode blob) k ≡ Some (shard_of mode blob k)

abbrev pub DataGiveTheBlob : Type 0
DataGiveTheBlob = (mode : Mode) (blob : List ℕ) (shards : List (Option (List ℕ))) → All (λ b. b < 256) blob → HoldsOwnData mode blob shards → take (length blob) (joined (data_count mode) shards) ≡ blob

-- all shards are enough
all_count : (f : ℕ → List ℕ) (xs : List ℕ) → held_count (map (λ r. Some (f r)) xs) ≡ length xs
all_count f [] = refl
all_count f (x ∷ xs) =
    let count = sum_by-cons (λ (s : Option (List ℕ)). cond (is_some s) 1 0) (Some (f x)) (map (λ r. Some (f r)) xs) in
    omega (arith, count, all_count f xs)

pub all_enough : EachIsThere → (mode : Mode) (blob : List ℕ) → HoldsEnough mode blob (all_shards mode blob)
all_enough each mode blob =
    let total : length (all_shards mode blob) ≡ total_count mode = length-map-range_with_len (λ r. Some (shard_of mode blob r)) 0 (total_count mode) in
    record {
      total = total;
      own = λ k. elim (cases_lt k (total_count mode)) [
        | inl h ↦ subst (λ (shard : Option (List ℕ)). IfSome shard (λ bytes. bytes ≡ shard_of mode blob k)) (sym (each mode blob k h)) refl
        | inr h ↦ subst (λ (shard : Option (List ℕ)). IfSome shard (λ bytes. bytes ≡ shard_of mode blob k)) (sym (get_or_past (all_shards mode blob) k None (omega (arith, total, h)))) tt
      ];
      enough = omega (arith, all_count (shard_of mode blob) (range_with_len 0 (total_count mode)), length-range_with_len 0 (total_count mode));
    }

-- all shards of a blob are its stripe
pub blob_back : EachIsThere → DataGiveTheBlob → (mode : Mode) (blob : List ℕ) (shards : List (Option (List ℕ))) → All (λ b. b < 256) blob → shards ≡ all_shards mode blob
    → blob_in mode (length blob) shards ≡ blob
blob_back each joins mode blob shards small is =
    ap (blob_in mode (length blob)) is ∙ joins mode blob (all_shards mode blob) small (λ k below. each mode blob k (omega (arith, below)))

pub stripe_of : EachIsThere → DataGiveTheBlob → (mode : Mode) (blob : List ℕ) (shards : List (Option (List ℕ))) → All (λ b. b < 256) blob → length blob ≤ largest_object → shards ≡ all_shards mode blob
    → IsStripe mode (length blob) shards
stripe_of each joins mode blob shards small few is =
    let back = blob_back each joins mode blob shards small is in
    record {
      are_bytes = subst (λ (b : List ℕ). All (λ x. x < 256) b) (sym back) small;
      size_is = ap length back;
      within = few;
      shards_are = is ∙ ap (all_shards mode) (sym back);
    }

-- how long the held shards are, where each of them is so long
pub even_size : (shards : List (Option (List ℕ))) (size : ℕ) → ((k : ℕ) → IfSome (shard_at shards k) (λ bytes. length bytes ≡ size)) → IfSome (size_of shards) (λ n. n ≡ size)
even_size [] size each = tt
even_size (None ∷ shards) size each = even_size shards size (λ k. each (suc k))
even_size (Some bytes ∷ shards) size each = each zero

below_even : (mode : Mode) (blob : List ℕ) (index : ℕ) (found : List (Option (List ℕ))) → ((r : ℕ) → length (shard_of mode blob r) ≡ shard_size mode (length blob)) → HoldsBelow mode blob index found
    → IfSome (size_of found) (λ n. n ≡ shard_size mode (length blob))
below_even mode blob index found long below = even_size found (shard_size mode (length blob)) (λ k. elim (cases_lt k index) [
  | inl h ↦ subst (λ (shard : Option (List ℕ)). IfSome shard (λ bytes. length bytes ≡ shard_size mode (length blob))) (sym (below.own k h)) (long k)
  | inr h ↦ subst (λ (shard : Option (List ℕ)). IfSome shard (λ bytes. length bytes ≡ shard_size mode (length blob))) (sym (below.free k h)) tt
])

-- the next shard is as long as those that are held
pub next_even : (mode : Mode) (blob : List ℕ) (index : ℕ) (found : List (Option (List ℕ))) (bytes : List ℕ) → ((r : ℕ) → length (shard_of mode blob r) ≡ shard_size mode (length blob)) → HoldsBelow mode blob index found
    → bytes ≡ shard_of mode blob index → IfSome (size_of found) (λ n. n ≡ length bytes)
next_even mode blob index found bytes long below is =
    subst (λ (size : ℕ). IfSome (size_of found) (λ n. n ≡ size)) (sym (ap length is ∙ long index)) (below_even mode blob index found long below)

pub below_more : (mode : Mode) (blob : List ℕ) (index : ℕ) (found new : List (Option (List ℕ))) (bytes : List ℕ) → HoldsBelow mode blob index found → index < total_count mode
    → bytes ≡ shard_of mode blob index → new ≡ set found index (Some bytes) → HoldsBelow mode blob (index + 1) new
below_more mode blob index found new bytes below few is is_set = record {
  total = ap length is_set ∙ length-set found index (Some bytes) ∙ below.total;
  own = λ k h. elim (cases_lt k index) [
    | inl before ↦ ap (λ s. shard_at s k) is_set ∙ get_or-set_other found index k (Some bytes) None (λ e. absurd (omega (arith, before, e))) ∙ below.own k before
    | inr after ↦
        let at : k ≡ index = omega (arith, h, after) in
        ap (λ s. shard_at s k) is_set ∙ ap (λ j. shard_at (set found index (Some bytes)) j) at ∙ get_or-set_same found index (Some bytes) None (omega (arith, below.total, few)) ∙ ap Some is ∙ ap (λ j. Some (shard_of mode blob j)) (sym at)
  ];
  free = λ k h. ap (λ s. shard_at s k) is_set ∙ get_or-set_other found index k (Some bytes) None (λ e. absurd (omega (arith, h, e))) ∙ below.free k (omega (arith, h));
}

none_at : (n k : ℕ) → shard_at (replicate n None) k ≡ None
none_at zero k = refl
none_at (suc n) zero = refl
none_at (suc n) (suc k) = none_at n k

pub below_none : (mode : Mode) (blob : List ℕ) (found : List (Option (List ℕ))) → found ≡ replicate (total_count mode) None → HoldsBelow mode blob 0 found
below_none mode blob found is = record {
  total = ap length is ∙ length-replicate (total_count mode) None;
  own = λ k h. absurd (omega (arith, h));
  free = λ k _. ap (λ s. shard_at s k) is ∙ none_at (total_count mode) k;
}

pub long_shards : (mode : Mode) (blob : List ℕ) (r : ℕ) → length (shard_of mode blob r) ≡ shard_size mode (length blob)
long_shards mode blob r = length-map-range_with_len (λ position. value_at (column (pieces mode blob) position) r) 0 (shard_size mode (length blob))

-- the shards of a stripe are enough
pub stripe_enough : EachIsThere → (mode : Mode) (size : ℕ) (shards : List (Option (List ℕ))) → IsStripe mode size shards → HoldsEnough mode (blob_in mode size shards) shards
stripe_enough each mode size shards stripe =
    let blob = blob_in mode size shards in
    subst (λ (s : List (Option (List ℕ))). HoldsEnough mode blob s) (sym stripe.shards_are) (all_enough each mode blob)

-- what a coder of the mode asks of them
pub coder_can : (mode : Mode) (blob : List ℕ) (shards : List (Option (List ℕ))) (coder : Shape) → HoldsEnough mode blob shards → coder ≡ shape_of mode
    → (length shards ≡ coder.data_shards + coder.parity_shards) × (coder.data_shards ≤ held_count shards)
coder_can mode blob shards coder enough is =
    let data_is : coder.data_shards ≡ data_count mode = ap (λ (s : Shape). s.data_shards) is in
    let parity_is : coder.parity_shards ≡ parity_count mode = ap (λ (s : Shape). s.parity_shards) is in
    (omega (arith, enough.total, data_is, parity_is), omega (arith, enough.enough, data_is))

-- all pieces below the data count are the blob
pub below_all : DataGiveTheBlob → (mode : Mode) (size index : ℕ) (shards found : List (Option (List ℕ))) → IsStripe mode size shards → HoldsBelow mode (blob_in mode size shards) index found → data_count mode ≤ index
    → take size (joined (data_count mode) found) ≡ blob_in mode size shards
below_all joins mode size index shards found stripe below all =
    let blob = blob_in mode size shards in
    ap (λ n. take n (joined (data_count mode) found)) (sym stripe.size_is) ∙ joins mode blob found stripe.are_bytes (λ k h. below.own k (omega (arith, h)))
