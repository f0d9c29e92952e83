-- Any data_count of a blob's shards give every other.
use Rattle.std.proofs.Common.{◌≡◌, ℕ, zero, suc, ◌+◌, ◌*◌, ◌<◌, ◌≤◌, List, [], ◌∷◌, ◌++◌, map, length, take, drop, get_or, replicate, refl, sym, ap, subst, ◌∙◌, arith, All, inl, inr, cond, true, add-one, length-append, length-take}
use Rattle.std.specs.Prelude.{Option, Some, None, IfSome, IsSomeAnd, unwrap_or, is_some}
use Rattle.std.specs.List.{range_with_len}
use Rattle.std.proofs.lemmas.Bool.{cases_lt}
use Rattle.std.proofs.lemmas.List.{length-map, length-replicate, get_or-map, get_or-take, get_or-drop, get_or_past}
use Rattle.std.proofs.lemmas.List.Sums.{sum_by-cons}
use Rattle.std.proofs.lemmas.List.FromFn.{length-range_with_len, length-map-range_with_len, get_or-map-range_with_len, fill_by_all}
use Rattle.rs_code.specs.Shards.{shard_at, held, held_from, held_count, size_of}
use Rattle.rs_code.specs.ShardValue.{ArePoints, value_at, byte_at, points_of, rebuilt, filled}
use Rattle.rs_code.proofs.Held.{held_place}
use Rattle.rs_code.proofs.Interpolants.{value_at-below, value_at_point, value_at_through_others}
use Rattle.code_mode.specs.declared.mode.Mode.{Mode}
use Rattle.code_mode.specs.Mode.{data_count, parity_count, total_count, shard_size}
use Rattle.code_mode.specs.Stripe.{padded, pieces, column, shard_of, all_shards, data_shards, joined, HoldsData, HoldsEnough, HoldsOwnData}
use Rattle.code_mode.proofs.Numbers.{sound_numbers}
use Rattle.code_mode.proofs.Pieces.{length-pieces, length-piece, get_or-first_chunks}
use Rattle.code_mode.proofs.Cutting.{none_of_none}
use Rattle.code_mode.proofs.Joins.{piece_at, joined-more, blob_joined}
use Rattle.code_mode.proofs.Stripes.{data_indexes, length-column, get_or-column}

-- ---- lists of bytes
-- each number is a byte, and what is past the end counts as 0
abbrev pub AreBytes : List ℕ → Type 0
AreBytes bytes = (i : ℕ) → get_or bytes i 0 < 256

bytes_of_all : (bytes : List ℕ) → All (λ b. b < 256) bytes → AreBytes bytes
bytes_of_all bytes all i = elim (cases_lt i (length bytes)) [
  | inl h ↦ all i 0 h
  | inr h ↦ let past = get_or_past bytes i 0 h in omega arith
]

bytes-take : (n : ℕ) (bytes : List ℕ) → AreBytes bytes → AreBytes (take n bytes)
bytes-take zero bytes small i = omega arith
bytes-take (suc n) [] small i = omega arith
bytes-take (suc n) (b ∷ bytes) small zero = small 0
bytes-take (suc n) (b ∷ bytes) small (suc i) = bytes-take n bytes (λ j. small (suc j)) i

bytes-drop : (n : ℕ) (bytes : List ℕ) → AreBytes bytes → AreBytes (drop n bytes)
bytes-drop n bytes small i = subst (λ (b : ℕ). b < 256) (sym (get_or-drop n bytes i 0)) (small (n + i))

bytes-zeros : (n : ℕ) → AreBytes (replicate n 0)
bytes-zeros zero i = omega arith
bytes-zeros (suc n) zero = omega arith
bytes-zeros (suc n) (suc i) = bytes-zeros n i

bytes-padded : (n : ℕ) (bytes : List ℕ) → AreBytes bytes → AreBytes (bytes ++ replicate n 0)
bytes-padded n [] small i = bytes-zeros n i
bytes-padded n (b ∷ bytes) small zero = small 0
bytes-padded n (b ∷ bytes) small (suc i) = bytes-padded n bytes (λ j. small (suc j)) i

pub bytes-piece : (mode : Mode) (blob : List ℕ) (k : ℕ) → All (λ b. b < 256) blob → k < data_count mode → AreBytes (get_or (pieces mode blob) k [])
bytes-piece mode blob k small below =
    let size = shard_size mode (length blob) in
    subst AreBytes (sym (get_or-first_chunks size (data_count mode) (padded mode blob) k below))
    (bytes-take size _ (bytes-drop (k * size) _ (bytes-padded _ blob (bytes_of_all blob small))))

-- ---- the indexes that a set holds
length-held : (shards : List (Option (List ℕ))) (k : ℕ) → length (held_from k shards) ≡ held_count shards
length-held [] k = refl
length-held (None ∷ shards) k = length-held shards (k + 1)
length-held (Some bytes ∷ shards) k =
    let count = sum_by-cons (λ (s : Option (List ℕ)). cond (is_some s) 1 0) (Some bytes) shards in
    ap suc (length-held shards (k + 1)) ∙ omega (arith, count)

ascending : (shards : List (Option (List ℕ))) (k i j : ℕ) → i < j → j < length (held_from k shards) → get_or (held_from k shards) i 0 < get_or (held_from k shards) j 0
ascending [] k i j before within = absurd (omega arith)
ascending (None ∷ shards) k i j before within = ascending shards (k + 1) i j before within
ascending (Some bytes ∷ shards) k i zero before within = absurd (omega arith)
ascending (Some bytes ∷ shards) k zero (suc j) before within =
    let later = held_place shards (k + 1) j (omega arith) in omega (arith, later.1)
ascending (Some bytes ∷ shards) k (suc i) (suc j) before within = ascending shards (k + 1) i j (omega arith) (omega arith)

size_when_each : (shards : List (Option (List ℕ))) (size : ℕ) → ((k : ℕ) → IfSome (shard_at shards k) (λ bytes. length bytes ≡ size)) → 0 < held_count shards → size_of shards ≡ Some size
size_when_each [] size each some = absurd (omega arith)
size_when_each (None ∷ shards) size each some = size_when_each shards size (λ k. each (suc k)) some
size_when_each (Some bytes ∷ shards) size each some = ap (λ (n : ℕ). Some n) (each 0)

-- ---- the points that they give
column_points : (mode : Mode) (blob : List ℕ) (position : ℕ) → All (λ b. b < 256) blob → ArePoints (column (pieces mode blob) position)
column_points mode blob position small =
    let rows = pieces mode blob in
    let few = sound_numbers mode in (
      λ k d within.
          let below : k < data_count mode = omega (arith, length-column rows position, length-pieces mode blob) in
          subst (λ (q : ℕ × ℕ). (q.0 < 256) × (q.1 < 256)) (sym (get_or-column rows position k d (omega (arith, length-pieces mode blob))))
          (omega (arith, few.few_shards), bytes-piece mode blob k small below position),
      λ i j d before within apart.
          let long : j < length rows = omega (arith, length-column rows position) in
          let same : i ≡ j = ap (λ (q : ℕ × ℕ). q.0) (sym (get_or-column rows position i d (omega arith))) ∙ apart ∙ ap (λ (q : ℕ × ℕ). q.0) (get_or-column rows position j d long) in
          omega arith,
    )

shard_byte : (mode : Mode) (blob : List ℕ) (r position : ℕ) → position < shard_size mode (length blob) → get_or (shard_of mode blob r) position 0 ≡ value_at (column (pieces mode blob) position) r
shard_byte mode blob r position within =
    get_or-map-range_with_len (λ p. value_at (column (pieces mode blob) p) r) 0 (shard_size mode (length blob)) position position 0 within (omega arith)

pub length-shard_of : (mode : Mode) (blob : List ℕ) (r : ℕ) → length (shard_of mode blob r) ≡ shard_size mode (length blob)
length-shard_of mode blob r = length-map-range_with_len (λ p. value_at (column (pieces mode blob) p) r) 0 (shard_size mode (length blob))

-- a data shard is a piece
pub data_shard : (mode : Mode) (blob : List ℕ) (k : ℕ) → All (λ b. b < 256) blob → k < data_count mode → get_or (pieces mode blob) k [] ≡ shard_of mode blob k
data_shard mode blob k small below =
    fill_by_all (λ p. value_at (column (pieces mode blob) p) k) (get_or (pieces mode blob) k []) (shard_size mode (length blob)) 0 (length-piece mode blob k below)
    (λ p within.
    let rows = pieces mode blob in
    let here = get_or-column rows p k (0, 0) (omega (arith, length-pieces mode blob)) in
    let value = value_at_point (column rows p) k (column_points mode blob p small) (omega (arith, length-column rows p, length-pieces mode blob)) in
    sym (ap (λ (q : ℕ × ℕ). value_at (column rows p) q.0) (sym here) ∙ value ∙ ap (λ (q : ℕ × ℕ). q.1) here))

-- the least held shards give as many points
pub chosen : (mode : Mode) (shards : List (Option (List ℕ))) → data_count mode ≤ held_count shards → length (take (data_count mode) (held shards)) ≡ data_count mode
chosen mode shards enough = omega (arith, length-take (data_count mode) (held shards), length-held shards 0)

chosen_held : (n : ℕ) (shards : List (Option (List ℕ))) (i : ℕ) → i < length (take n (held shards)) → (get_or (take n (held shards)) i 0 < length shards) × (is_some (shard_at shards (get_or (take n (held shards)) i 0)) ≡ true)
chosen_held n shards i within =
    let long = length-take n (held shards) in
    let at : get_or (take n (held shards)) i 0 ≡ get_or (held shards) i 0 = get_or-take n (held shards) i 0 (omega arith) in
    let place = held_place shards 0 i (omega arith) in
    let same : get_or (take n (held shards)) i 0 ≡ place.0 = omega (arith, place.1) in
    (omega (arith, place.2), ap (λ (x : ℕ). is_some (shard_at shards x)) same ∙ place.3)

chosen_apart : (n : ℕ) (shards : List (Option (List ℕ))) (i j : ℕ) → i < j → j < length (take n (held shards)) → get_or (take n (held shards)) i 0 < get_or (take n (held shards)) j 0
chosen_apart n shards i j before within =
    let long = length-take n (held shards) in
    let first : get_or (take n (held shards)) i 0 ≡ get_or (held shards) i 0 = get_or-take n (held shards) i 0 (omega arith) in
    let second : get_or (take n (held shards)) j 0 ≡ get_or (held shards) j 0 = get_or-take n (held shards) j 0 (omega arith) in
    let rise = ascending shards 0 i j before (omega arith) in
    omega arith

-- the byte of a held shard is the code's value at its index
held_byte : (mode : Mode) (blob : List ℕ) (position x : ℕ) (shard : Option (List ℕ)) → position < shard_size mode (length blob) → IfSome shard (λ bytes. bytes ≡ shard_of mode blob x) → is_some shard ≡ true → byte_at shard position ≡ value_at (column (pieces mode blob) position) x
held_byte mode blob position x None within its some = cc
held_byte mode blob position x (Some bytes) within its some =
    ap (λ (b : List ℕ). get_or b position 0) its ∙ shard_byte mode blob x position within

point_byte : (mode : Mode) (blob : List ℕ) (shards : List (Option (List ℕ))) (position i : ℕ) → HoldsEnough mode blob shards → position < shard_size mode (length blob) → i < length (take (data_count mode) (held shards)) → byte_at (shard_at shards (get_or (take (data_count mode) (held shards)) i 0)) position ≡ value_at (column (pieces mode blob) position) (get_or (take (data_count mode) (held shards)) i 0)
point_byte mode blob shards position i its within below =
    let x = get_or (take (data_count mode) (held shards)) i 0 in
    held_byte mode blob position x (shard_at shards x) within (its.own x) (chosen_held (data_count mode) shards i below).1

length-points : (shards : List (Option (List ℕ))) (position : ℕ) (indexes : List ℕ) → length (points_of shards position indexes) ≡ length indexes
length-points shards position indexes = length-map indexes (λ (x : ℕ). (x, byte_at (shard_at shards x) position))

get_or-points : (shards : List (Option (List ℕ))) (position : ℕ) (indexes : List ℕ) (i : ℕ) (d : ℕ × ℕ) → i < length indexes → get_or (points_of shards position indexes) i d ≡ (get_or indexes i 0, byte_at (shard_at shards (get_or indexes i 0)) position)
get_or-points shards position indexes i d below = get_or-map (λ (x : ℕ). (x, byte_at (shard_at shards x) position)) indexes i 0 d below

held_points : (mode : Mode) (blob : List ℕ) (shards : List (Option (List ℕ))) (position : ℕ) → HoldsEnough mode blob shards → position < shard_size mode (length blob) → ArePoints (points_of shards position (take (data_count mode) (held shards)))
held_points mode blob shards position its within =
    let indexes = take (data_count mode) (held shards) in
    let long = length-points shards position indexes in
    let few = sound_numbers mode in (
      λ k d below.
          let h : k < length indexes = omega arith in
          subst (λ (q : ℕ × ℕ). (q.0 < 256) × (q.1 < 256)) (sym (get_or-points shards position indexes k d h)) (
            omega (arith, few.few_shards, its.total, (chosen_held (data_count mode) shards k h).0),
            subst (λ (b : ℕ). b < 256) (sym (point_byte mode blob shards position k its within h)) (value_at-below (column (pieces mode blob) position) (get_or indexes k 0)),
          ),
      λ i j d before below apart.
          let h : j < length indexes = omega arith in
          let same : get_or indexes i 0 ≡ get_or indexes j 0 = ap (λ (q : ℕ × ℕ). q.0) (sym (get_or-points shards position indexes i d (omega arith))) ∙ apart ∙ ap (λ (q : ℕ × ℕ). q.0) (get_or-points shards position indexes j d h) in
          omega (arith, chosen_apart (data_count mode) shards i j before h),
    )

same_value : (mode : Mode) (blob : List ℕ) (shards : List (Option (List ℕ))) (r position : ℕ) → All (λ b. b < 256) blob → HoldsEnough mode blob shards → r < total_count mode → position < shard_size mode (length blob) → value_at (points_of shards position (take (data_count mode) (held shards))) r ≡ value_at (column (pieces mode blob) position) r
same_value mode blob shards r position small its below within =
    let indexes = take (data_count mode) (held shards) in
    let rows = pieces mode blob in
    let long = length-points shards position indexes in
    value_at_through_others (column rows position) (points_of shards position indexes) r (column_points mode blob position small) (held_points mode blob shards position its within)
    (omega (arith, length-column rows position, length-pieces mode blob, chosen mode shards its.enough))
    (λ k d below.
    let h : k < length indexes = omega arith in
    subst (λ (q : ℕ × ℕ). q.1 ≡ value_at (column rows position) q.0) (sym (get_or-points shards position indexes k d h)) (point_byte mode blob shards position k its within h))
    (omega (arith, (sound_numbers mode).few_shards))

each_long : (mode : Mode) (blob : List ℕ) (k : ℕ) (shard : Option (List ℕ)) → IfSome shard (λ bytes. bytes ≡ shard_of mode blob k) → IfSome shard (λ bytes. length bytes ≡ shard_size mode (length blob))
each_long mode blob k None its = tt
each_long mode blob k (Some bytes) its = ap length its ∙ length-shard_of mode blob k

-- any set of enough shards of a blob gives each of its shards
pub any_rebuilt : (mode : Mode) (blob : List ℕ) (shards : List (Option (List ℕ))) (r : ℕ) → All (λ b. b < 256) blob → HoldsEnough mode blob shards → r < total_count mode → rebuilt (data_count mode) shards r ≡ shard_of mode blob r
unfolding rebuilt
any_rebuilt mode blob shards r small its below =
    let size = shard_size mode (length blob) in
    let indexes = take (data_count mode) (held shards) in
    let by_held : ℕ → ℕ = λ position. value_at (points_of shards position indexes) r in
    let by_data : ℕ → ℕ = λ position. value_at (column (pieces mode blob) position) r in
    let found = size_when_each shards size (λ k. each_long mode blob k (shard_at shards k) (its.own k)) (omega (arith, (sound_numbers mode).some_data)) in
    ap (λ (s : Option ℕ). map by_held (range_with_len 0 (unwrap_or s 0))) found
    ∙ fill_by_all by_data (map by_held (range_with_len 0 size)) size 0 (length-map-range_with_len by_held 0 size)
    (λ k within. get_or-map-range_with_len by_held 0 size k k 0 within (omega arith) ∙ same_value mode blob shards r k small its below within)

-- the set that was cut holds shards of the blob, and enough
shard_past_rows : (rows : List (List ℕ)) (n k : ℕ) → length rows ≤ k → shard_at (map (λ row. Some row) rows ++ replicate n None) k ≡ None
shard_past_rows [] n k past = none_of_none n k
shard_past_rows (row ∷ rows) n zero past = absurd (omega arith)
shard_past_rows (row ∷ rows) n (suc k) past = shard_past_rows rows n k (omega arith)

own_at_cut : (mode : Mode) (blob : List ℕ) (k : ℕ) → All (λ b. b < 256) blob → IfSome (shard_at (data_shards mode blob) k) (λ bytes. bytes ≡ shard_of mode blob k)
own_at_cut mode blob k small =
    let Own : Option (List ℕ) → Type 0 = λ shard. IfSome shard (λ bytes. bytes ≡ shard_of mode blob k) in
    elim (cases_lt k (data_count mode)) [
      | inl h ↦ subst Own (sym (piece_at mode blob k h)) (data_shard mode blob k small h)
      | inr h ↦ subst Own (sym (shard_past_rows (pieces mode blob) (parity_count mode) k (omega (arith, length-pieces mode blob)))) tt
    ]

pub cut_holds_enough : (mode : Mode) (blob : List ℕ) → All (λ b. b < 256) blob → HoldsEnough mode blob (data_shards mode blob)
cut_holds_enough mode blob small =
    let rows = pieces mode blob in
    let front : length (map (λ (row : List ℕ). Some row) rows) ≡ length rows = length-map rows (λ (row : List ℕ). Some row) in
    record {
      total = omega (arith, length-append (map (λ (row : List ℕ). Some row) rows) (replicate (parity_count mode) None), front, length-pieces mode blob, length-replicate {A = Option (List ℕ)} (parity_count mode) None);
      own = λ k. own_at_cut mode blob k small;
      enough = omega (arith, length-held (data_shards mode blob) 0, ap length (data_indexes mode blob), length-range_with_len 0 (data_count mode));
    }

-- what the code adds to enough shards of a blob completes it
pub any_filled : (mode : Mode) (blob : List ℕ) (shards : List (Option (List ℕ))) → All (λ b. b < 256) blob → HoldsEnough mode blob shards → filled (data_count mode) shards ≡ all_shards mode blob
unfolding filled
any_filled mode blob shards small its =
    let new : ℕ → Option (List ℕ) = λ k. Some (unwrap_or (shard_at shards k) (rebuilt (data_count mode) shards k)) in
    let total = total_count mode in
    ap (λ (n : ℕ). map new (range_with_len 0 n)) its.total
    ∙ fill_by_all (λ r. Some (shard_of mode blob r)) (map new (range_with_len 0 total)) total None (length-map-range_with_len new 0 total)
    (λ k below. get_or-map-range_with_len new 0 total k k None below (omega arith) ∙ ap (λ (bytes : List ℕ). Some bytes) (kept k (shard_at shards k) (its.own k) (any_rebuilt mode blob shards k small its below)))
  where
    kept : (k : ℕ) (shard : Option (List ℕ)) → IfSome shard (λ bytes. bytes ≡ shard_of mode blob k) → rebuilt (data_count mode) shards k ≡ shard_of mode blob k → unwrap_or shard (rebuilt (data_count mode) shards k) ≡ shard_of mode blob k
    kept k None own made = made
    kept k (Some bytes) own made = own

-- data shards that are the blob's are joined to it
pub own_data_held : (mode : Mode) (blob : List ℕ) (shards : List (Option (List ℕ))) → HoldsOwnData mode blob shards → HoldsData mode (length blob) shards
own_data_held mode blob shards own k below =
    subst (λ (shard : Option (List ℕ)). IsSomeAnd shard (λ bytes. length bytes ≡ shard_size mode (length blob))) (sym (own k below)) (length-shard_of mode blob k)

same_joined : (n : ℕ) (shards others : List (Option (List ℕ))) (row : ℕ → List ℕ) → ((k : ℕ) → k < n → shard_at shards k ≡ Some (row k)) → ((k : ℕ) → k < n → shard_at others k ≡ Some (row k)) → joined n shards ≡ joined n others
same_joined zero shards others row first second = refl
same_joined (suc n) shards others row first second =
    let before = same_joined n shards others row (λ k below. first k (omega arith)) (λ k below. second k (omega arith)) in
    ap (λ (k : ℕ). joined k shards) (sym (add-one n))
    ∙ joined-more shards n (row n) (first n (omega arith))
    ∙ ap (λ (front : List ℕ). front ++ row n) before
    ∙ sym (joined-more others n (row n) (second n (omega arith)))
    ∙ ap (λ (k : ℕ). joined k others) (add-one n)

pub own_data_joined : (mode : Mode) (blob : List ℕ) (shards : List (Option (List ℕ))) → All (λ b. b < 256) blob → HoldsOwnData mode blob shards → take (length blob) (joined (data_count mode) shards) ≡ blob
own_data_joined mode blob shards small own =
    ap (take (length blob)) (same_joined (data_count mode) shards (data_shards mode blob) (shard_of mode blob) own
    (λ k below. piece_at mode blob k below ∙ ap (λ (bytes : List ℕ). Some bytes) (data_shard mode blob k small below)))
    ∙ blob_joined mode blob

-- a set that holds all shards holds each at its index
pub all_held : (mode : Mode) (blob : List ℕ) (k : ℕ) → k < total_count mode → shard_at (all_shards mode blob) k ≡ Some (shard_of mode blob k)
all_held mode blob k below =
    get_or-map-range_with_len (λ r. Some (shard_of mode blob r)) 0 (total_count mode) k k None below (omega arith)
