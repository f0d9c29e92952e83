-- Names with one more.
use Rattle.std.proofs.Common.{◌≡◌, ◌∙◌, ap, refl, ℕ, Bool, true, false, cond, List, [], ◌∷◌, ◌++◌, Option, Some, None}
use Rattle.std.specs.Map.{lookup}
use Rattle.std.specs.Str.{bytes_eq}
use Rattle.cluster_admin.specs.declared.names.Object.{Object}

abbrev pub or_else : Option Object → Option Object → Option Object
or_else (Some object) other = Some object
or_else None other = other

lookup_first : (b : Bool) (object : Object) (found other : Option Object) → cond b (Some object) (or_else found other) ≡ or_else (cond b (Some object) found) other
lookup_first true object found other = refl
lookup_first false object found other = refl

pub lookup_more : (name : List ℕ) (names : List (List ℕ × Object)) (last : List ℕ × Object) → lookup (bytes_eq name) (names ++ last ∷ []) ≡ or_else (lookup (bytes_eq name) names) (cond (bytes_eq name last.0) (Some last.1) None)
lookup_more name [] last = refl
lookup_more name (entry ∷ names) last =
    ap (λ (f : Option Object). cond (bytes_eq name entry.0) (Some entry.1) f) (lookup_more name names last)
    ∙ lookup_first (bytes_eq name entry.0) entry.1 (lookup (bytes_eq name) names) (cond (bytes_eq name last.0) (Some last.1) None)
