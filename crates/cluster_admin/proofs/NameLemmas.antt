-- Names as the entries of a map.
use Rattle.std.proofs.Common.{◌≡◌, ℕ, Bool, true, false, List, [], ◌∷◌, ◌++◌, Some, refl, ◌∙◌, ap, cond, Vec, Global}
use Rattle.std.specs.Prelude.{map}
use Rattle.std.specs.Str.{bytes_eq}
use Rattle.std.specs.Map.{lookup, remove_entry}
use Rattle.cluster_admin.specs.declared.names.Object.{Object}
use Rattle.cluster_admin.specs.Names.{seen}

module _ {X : Type 0} (name : List ℕ) where
  -- a look-up by name
  pub lookup_seen : (entries : List (Vec ℕ Global × X)) → lookup (bytes_eq name) (map seen entries) ≡ lookup (λ key. bytes_eq name key.items) entries
  lookup_seen [] = refl
  lookup_seen (entry ∷ entries) = ap (cond (bytes_eq name entry.0.items) (Some entry.1)) (lookup_seen entries)

  -- a name taken out
  pub remove_seen : (entries : List (Vec ℕ Global × X)) → remove_entry (bytes_eq name) (map seen entries) ≡ map seen (remove_entry (λ key. bytes_eq name key.items) entries)
  remove_seen [] = refl
  remove_seen (entry ∷ entries) = go (bytes_eq name entry.0.items) (remove_seen entries) where
    go : (test : Bool) → remove_entry (bytes_eq name) (map seen entries) ≡ map seen (remove_entry (λ key. bytes_eq name key.items) entries)
        → cond test (map seen entries) (seen entry ∷ remove_entry (bytes_eq name) (map seen entries)) ≡ map seen (cond test entries (entry ∷ remove_entry (λ key. bytes_eq name key.items) entries))
    go true rest = refl
    go false rest = ap (λ names. seen entry ∷ names) rest

-- an entry that comes last
pub last_seen : (entries : List (Vec ℕ Global × Object)) (entry : Vec ℕ Global × Object) → map seen (entries ++ entry ∷ []) ≡ map seen entries ++ seen entry ∷ []
last_seen [] entry = refl
last_seen (first ∷ entries) entry = ap (λ names. seen first ∷ names) (last_seen entries entry)

-- a map with an entry more is seen with a name more
pub added_seen : (entries new : List (Vec ℕ Global × Object)) (names : List (List ℕ × Object)) (key : Vec ℕ Global) (name : List ℕ) (at : Object)
    → map seen entries ≡ names → key.items ≡ name → new ≡ entries ++ (key, at) ∷ [] → map seen new ≡ names ++ (name, at) ∷ []
added_seen entries new names key name at is_seen key_is last = ap (map seen) last ∙ last_seen entries (key, at) ∙ rw (is_seen, key_is) refl
