-- The bytes of a fill payload, by their number and one by one.
use Rattle.std.proofs.Common.{◌≡◌, ℕ, ◌+◌, ◌<◌, List, [], ◌∷◌, ◌++◌, map, length, slice_index, sym, ap, ◌∙◌, arith}
use Rattle.std.specs.List.{range_with_len}
use Rattle.std.proofs.lemmas.List.FromFn.{length-map-range_with_len, get_or-map-range_with_len, map-range_with_len_more}
use Rattle.code_mode.specs.Payload.{fill_byte, payload_bytes}
use Rattle.code_mode.specs.declared.payload.Payload.{Payload}
use Rattle.code_mode.specs.declared.payload.Payload.TheVariants.{Fill}

pub length_of_fill : (payload : Payload) (seed len : ℕ) → payload ≡ Fill seed len → len ≡ length (payload_bytes payload)
length_of_fill payload seed len e =
    sym (length-map-range_with_len (fill_byte seed) 0 len) ∙ ap (λ (p : Payload). length (payload_bytes p)) (sym e)

pub byte_of_fill : (payload : Payload) (seed len k : ℕ) → payload ≡ Fill seed len → k < length (payload_bytes payload) → fill_byte seed k ≡ slice_index (payload_bytes payload) k
byte_of_fill payload seed len k e within =
    let below : k < len = omega (arith, length_of_fill payload seed len e) in
    sym (get_or-map-range_with_len (fill_byte seed) 0 len k k 0 below (omega arith)) ∙ ap (λ (p : Payload). slice_index (payload_bytes p) k) (sym e)

-- one byte more
pub fill_more : (seed k byte : ℕ) (before after : List ℕ) → before ≡ map (fill_byte seed) (range_with_len 0 k) → byte ≡ fill_byte seed k → after ≡ before ++ byte ∷ [] → after ≡ map (fill_byte seed) (range_with_len 0 (k + 1))
fill_more seed k byte before after first last more =
    let step = map-range_with_len_more (fill_byte seed) 0 k k (omega arith) in
    more ∙ ap (λ (bytes : List ℕ). bytes ++ byte ∷ []) first ∙ ap (λ (b : ℕ). map (fill_byte seed) (range_with_len 0 k) ++ b ∷ []) last ∙ sym step
