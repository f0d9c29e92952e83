-- The values of a location.
use Rattle.std.proofs.Common.{◌≡◌, ℕ, ◌+◌, zero-add, false, ◌||◌, List, [], ◌∷◌, ◌++◌, refl, sym, ap, ◌∙◌, map}
use Rattle.std.specs.Int.{div_ceil}
use Rattle.std.specs.List.{range_with_len}
use Rattle.std.proofs.lemmas.List.{map-append}
use Rattle.std.proofs.lemmas.List.FromFn.{map-range_with_len_more}
use Rattle.serde_json.specs.declared.value.Value.{Value}
use Rattle.serde_json.specs.View.{view, items_of}
use Rattle.serde_json.specs.Written.{has_float, items_have_float}
use Rattle.code_mode.specs.declared.mode.Mode.{Mode}
use Rattle.unit_id.specs.declared.homes.Home.{Home}
use Rattle.cluster_admin.specs.declared.names.Object.{Object}
use Rattle.cluster_admin.specs.Location.{blob_data, unit_data, location_data, largest_blob}

-- a blob more
pub one_blob_more : (at : Object) (place : ℕ) (blobs new : List Value) (blob : Value) → map view blobs ≡ map (blob_data at) (range_with_len 0 place) → view blob ≡ blob_data at place
    → new ≡ blobs ++ blob ∷ [] → map view new ≡ map (blob_data at) (range_with_len 0 (place + 1))
one_blob_more at place blobs new blob so_far is last =
    ap (map view) last ∙ map-append view blobs (blob ∷ []) ∙ ap (λ front. front ++ view blob ∷ []) so_far
    ∙ ap (λ shown. map (blob_data at) (range_with_len 0 place) ++ shown ∷ []) is ∙ sym (map-range_with_len_more (blob_data at) 0 place place (zero-add place))

blobs_without_float : (at : Object) (places : List ℕ) → items_have_float (items_of (map (blob_data at) places)) ≡ false
blobs_without_float at [] = refl
blobs_without_float at (place ∷ places) = blobs_without_float at places

units_without_float : (homes : List Home) → items_have_float (items_of (map unit_data homes)) ≡ false
units_without_float [] = refl
units_without_float (home ∷ homes) = units_without_float homes

-- no number of a location is a fraction
pub without_float : (at : Object) (mode : Mode) (homes : List Home) → has_float (location_data at mode homes) ≡ false
without_float at mode homes = λ j. blobs_without_float at (range_with_len 0 (div_ceil at.size largest_blob)) j || (false || (false || (units_without_float homes j || (false || false))))
