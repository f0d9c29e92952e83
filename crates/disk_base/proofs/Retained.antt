-- What `retain` leaves at a key where its closure changes each value and keeps it.
use Rattle.std.proofs.Common.{◌≡◌, if◌then◌else◌, Bool, true, false, List, [], ◌∷◌, Option, Some, refl, sym, ap, subst, ◌∙◌}
use Rattle.std.specs.Map.{lookup}
use Rattle.std.specs.Map.Calls.{RetainsPairs}
use Rattle.disk_base.specs.Racks.{Becomes}

module _ {F K X : Type 0} (T : F → K → X → Bool → X → F → Type 0) (R : X → X → Type 0) (each : (f : F) (k : K) (v : X) (b : Bool) (w : X) (f' : F) → T f k v b w f' → (b ≡ true) × R v w) (test : K → Bool) where
  here : (found : Bool) (v w : X) (rest others : Option X) → R v w → Becomes R rest others → Becomes R (if found then Some v else rest) (if found then Some w else others)
  here true v w rest others is tail = (w, refl, is)
  here false v w rest others is tail = tail

  pub retained : (f : F) (es kept : List (K × X)) → RetainsPairs T f es kept → Becomes R (lookup test es) (lookup test kept)
  retained f [] kept is = ap (lookup test) is
  retained f (e ∷ es) kept (b, w, f', rest, called, tail, is) =
      let parts = each f e.0 e.1 b w f' called in
      let all : kept ≡ (e.0, w) ∷ rest = is ∙ ap (λ (c : Bool). if c then (e.0, w) ∷ rest else rest) parts.0 in
      subst (λ (l : List (K × X)). Becomes R (lookup test (e ∷ es)) (lookup test l)) (sym all) (here (test e.0) e.1 w (lookup test es) (lookup test rest) parts.1 (retained f' es rest tail))
