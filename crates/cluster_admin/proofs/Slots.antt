-- Volumes that are taken out and put back.
use Rattle.std.proofs.Common.{◌≡◌, ℕ, ◌-◌, List, Option, Some, None, set, slice_get, sym, ap, ◌∙◌, cond}
use Rattle.std.proofs.lemmas.List.{set-get_or}
use Rattle.std.proofs.lemmas.Option.{get_or_from_slice_get}
use Rattle.std.proofs.lemmas.Bool.{ne_eqb}
use Rattle.cluster_admin.specs.declared.volumes.Volume.{Volume}
use Rattle.cluster_admin.specs.Volumes.{volume_at, volume_in}
use Rattle.cluster_admin.proofs.Rows.{set_set}

-- what is put back stands there alone
pub put_back : (volumes taken new : List (Option Volume)) (place : ℕ) (after : Option Volume) → taken ≡ set volumes place None → new ≡ set taken place after → new ≡ set volumes place after
put_back volumes taken new place after t n = n ∙ ap (λ slots. set slots place after) t ∙ set_set volumes place None after

-- an empty place is emptied
pub empty_again : (volumes taken : List (Option Volume)) (place : ℕ) → Some None ≡ slice_get volumes place → taken ≡ set volumes place None → taken ≡ volumes
empty_again volumes taken place none t =
    t ∙ ap (λ slot. set volumes place slot) (sym (get_or_from_slice_get volumes place None None (sym none))) ∙ set-get_or volumes place None

-- what stands at its place is the volume of the number
pub volume_there : (volumes : List (Option Volume)) (vid : ℕ) (slot : Option Volume) → (vid ≡ 0 → ⊥) → Some slot ≡ slice_get volumes (vid - 1) → volume_at volumes vid ≡ slot
volume_there volumes vid slot some at =
    ap (λ test. cond test None (volume_in (slice_get volumes (vid - 1)))) (ne_eqb vid 0 some) ∙ ap volume_in (sym at)
