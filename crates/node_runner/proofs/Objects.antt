-- Objects as the entries of a map.
use Rattle.std.proofs.Common.{◌≡◌, ℕ, Bool, true, false, List, [], ◌∷◌, ◌++◌, Option, Some, None, refl, sym, ◌∙◌, ap, subst, cond, Vec, Global}
use Rattle.std.specs.Prelude.{map, is_some}
use Rattle.std.specs.Option.{option_map}
use Rattle.std.specs.Str.{bytes_eq}
use Rattle.std.specs.Map.{lookup}
use Rattle.std.proofs.lemmas.Option.{same_Some}
use Rattle.code_mode.specs.declared.mode.Mode.{Mode}
use Rattle.node_runner.specs.Stripes.{IsStripe}
use Rattle.node_runner.specs.VolumeInside.{AreWhole}
use Rattle.node_runner.specs.declared.volume.StoredObject.{StoredObject}

-- a look-up by name over entries that are seen by their names
pub lookup-seen : {V X : Type 0} (g : V → X) (name : List ℕ) (entries : List (Vec ℕ Global × V))
    → lookup (bytes_eq name) (map (λ e. (e.0.items, g e.1)) entries) ≡ option_map g (lookup (λ k. bytes_eq name k.items) entries)
lookup-seen g name [] = refl
lookup-seen {V} {X} g name (e ∷ entries) = go (bytes_eq name e.0.items) (lookup-seen g name entries) where
  go : (test : Bool) → lookup (bytes_eq name) (map (λ e. (e.0.items, g e.1)) entries) ≡ option_map g (lookup (λ k. bytes_eq name k.items) entries)
      → cond test (Some (g e.1)) (lookup (bytes_eq name) (map (λ e. (e.0.items, g e.1)) entries)) ≡ option_map g (cond test (Some e.1) (lookup (λ k. bytes_eq name k.items) entries))
  go true rest = refl
  go false rest = rest

-- whether there is one
pub has-seen : {V X : Type 0} (g : V → X) (name : List ℕ) (entries : List (Vec ℕ Global × V))
    → is_some (lookup (bytes_eq name) (map (λ e. (e.0.items, g e.1)) entries)) ≡ is_some (lookup (λ k. bytes_eq name k.items) entries)
has-seen {V} {X} g name entries = ap is_some (lookup-seen g name entries) ∙ go (lookup (λ k. bytes_eq name k.items) entries) where
  go : (found : Option V) → is_some (option_map g found) ≡ is_some found
  go (Some x) = refl
  go None = refl

-- there is none
pub none-seen : {V X : Type 0} (g : V → X) (name : List ℕ) (entries : List (Vec ℕ Global × V))
    → lookup (bytes_eq name) (map (λ e. (e.0.items, g e.1)) entries) ≡ None → lookup (λ k. bytes_eq name k.items) entries ≡ None
none-seen {V} {X} g name entries h = go (lookup (λ k. bytes_eq name k.items) entries) (sym (lookup-seen g name entries) ∙ h) where
  go : (found : Option V) → option_map g found ≡ None → found ≡ None
  go (Some x) h = cc
  go None h = refl

-- an entry that comes last
pub map-last : {A B : Type 0} (f : A → B) (xs : List A) (x : A) → map f (xs ++ x ∷ []) ≡ map f xs ++ f x ∷ []
map-last f [] x = refl
map-last f (y ∷ xs) x = ap (λ rest. f y ∷ rest) (map-last f xs x)

module _ {V X : Type 0} (g : V → X) (name : List ℕ) (entries : List (Vec ℕ Global × V)) (seen : List (List ℕ × X)) (is_seen : map (λ e. (e.0.items, g e.1)) entries ≡ seen) where
  -- what a look-up among the entries finds is what is seen under the name
  pub found-seen : (found : Option V) → found ≡ lookup (λ k. bytes_eq name k.items) entries → lookup (bytes_eq name) seen ≡ option_map g found
  found-seen found h = sym (ap (lookup (bytes_eq name)) is_seen) ∙ lookup-seen g name entries ∙ ap (option_map g) (sym h)

-- an entry that comes last is seen last
pub last-seen : {V X : Type 0} (g : V → X) (key : Vec ℕ Global) (name : List ℕ) (value : V) (seen_value : X) (entries new : List (Vec ℕ Global × V)) (seen : List (List ℕ × X))
    → map (λ e. (e.0.items, g e.1)) entries ≡ seen → key.items ≡ name → g value ≡ seen_value → new ≡ entries ++ (key, value) ∷ []
    → map (λ e. (e.0.items, g e.1)) new ≡ seen ++ (name, seen_value) ∷ []
last-seen {V} {X} g key name value seen_value entries new seen is_seen key_is value_is last =
    let see : Vec ℕ Global × V → List ℕ × X = λ e. (e.0.items, g e.1) in
    let mapped : map see new ≡ map see (entries ++ (key, value) ∷ []) = ap (map see) last in
    let whole : map see (entries ++ (key, value) ∷ []) ≡ map see entries ++ (key.items, g value) ∷ [] = map-last see entries (key, value) in
    mapped ∙ whole ∙ rw (is_seen, key_is, value_is) refl

-- what a look-up finds is whole
pub found_whole : (mode : Mode) (test : Vec ℕ Global → Bool) (kept : StoredObject) (entries : List (Vec ℕ Global × StoredObject)) → AreWhole mode entries → Some kept ≡ lookup test entries → IsStripe mode kept.size kept.shards
found_whole mode test kept [] whole h = cc
found_whole mode test kept (entry ∷ entries) whole h = go (test entry.0) (found_whole mode test kept entries whole.1) h
  where
    go : (passes : Bool) → (Some kept ≡ lookup test entries → IsStripe mode kept.size kept.shards) → Some kept ≡ cond passes (Some entry.1) (lookup test entries) → IsStripe mode kept.size kept.shards
    go true rest e = subst (λ (k : StoredObject). IsStripe mode k.size k.shards) (sym (same_Some kept entry.1 e)) whole.0
    go false rest e = rest e

AreWhole-last : (mode : Mode) (entries : List (Vec ℕ Global × StoredObject)) (entry : Vec ℕ Global × StoredObject) → AreWhole mode entries → IsStripe mode entry.1.size entry.1.shards → AreWhole mode (entries ++ entry ∷ [])
AreWhole-last mode [] entry whole new = (new, tt)
AreWhole-last mode (first ∷ entries) entry whole new = (whole.0, AreWhole-last mode entries entry whole.1 new)

-- a whole object more
pub last_whole : (mode : Mode) (entries new : List (Vec ℕ Global × StoredObject)) (entry : Vec ℕ Global × StoredObject) → AreWhole mode entries → IsStripe mode entry.1.size entry.1.shards → new ≡ entries ++ entry ∷ [] → AreWhole mode new
last_whole mode entries new entry whole its last = subst (AreWhole mode) (sym last) (AreWhole-last mode entries entry whole its)
