-- Stretches of history, one behind the other.
use Rattle.std.proofs.Common.{◌≡◌, ℕ, suc, ◌+◌, ◌-◌, ◌^◌, ◌≤◌, min, inl, inr, true, List, [], ◌∷◌, ◌++◌, length, refl, sym, ◌∙◌, ap, subst, append_assoc, length-append, arith}
use Rattle.std.proofs.lemmas.List.{map-append}
use Rattle.volume_world.specs.Run.{World}
use Rattle.volume_world.specs.Way.{Origin, WayView}
use Rattle.volume_world.specs.Course.{Part, trace_at, traces_of, own_places, fault_count, PartsLead, AreOwn, Goes}

own_more : (place : ℕ) (ps qs : List Part) → own_places place (ps ++ qs) ≡ own_places place ps ++ own_places (place + length ps) qs
own_more place [] qs = ap (λ n. own_places n qs) (omega arith)
own_more place (Part.Beside t ∷ ps) qs = own_more (suc place) ps qs ∙ ap (λ n. own_places (suc place) ps ++ own_places n qs) (omega arith)
own_more place (Part.Settling t ∷ ps) qs = ap (λ xs. place ∷ xs) (own_more (suc place) ps qs ∙ ap (λ n. own_places (suc place) ps ++ own_places n qs) (omega arith))
own_more place (Part.Asking e r ∷ ps) qs = ap (λ xs. place ∷ xs) (own_more (suc place) ps qs ∙ ap (λ n. own_places (suc place) ps ++ own_places n qs) (omega arith))

pub faults_more : (ps qs : List Part) → fault_count (ps ++ qs) ≡ fault_count ps + fault_count qs
faults_more [] qs = omega arith
faults_more (p ∷ ps) qs = let ih = faults_more ps qs in omega arith

pub leads_on : (origin : Origin) (w u v : World) (ps qs : List Part) → PartsLead origin w ps u → PartsLead origin u qs v → PartsLead origin w (ps ++ qs) v
leads_on origin w u v [] qs h k = subst (λ x. PartsLead origin x qs v) h k
leads_on origin w u v (p ∷ ps) qs h k = (h.0, h.1, leads_on origin h.0 u v ps qs h.2 k)

own_both : (ps qs : List Part) → AreOwn ps → AreOwn qs → AreOwn (ps ++ qs)
own_both [] qs h k = k
own_both (p ∷ ps) qs h k = λ part i. elim i [ inl e ↦ h part (inl e) | inr there ↦ own_both ps qs (λ other j. h other (inr j)) k part there ]

pub traces_on : (ps qs : List Part) → traces_of (ps ++ qs) ≡ traces_of ps ++ traces_of qs
traces_on ps qs = map-append trace_at ps qs

pub traces_length : (ps : List Part) → length (traces_of ps) ≡ length ps
traces_length [] = refl
traces_length (p ∷ ps) = let ih = traces_length ps in omega arith

own_on : (a b c : WayView) (ps qs : List Part) → Goes a b ps → Goes b c qs → c.own ≡ a.own ++ own_places (length a.entries) (ps ++ qs)
own_on a b c ps qs h k =
    let n = traces_length ps in
    let l : length b.entries ≡ length a.entries + length ps = ap length h.entries ∙ length-append a.entries (traces_of ps) ∙ ap (λ m. length a.entries + m) n in
    k.own ∙ ap (λ xs. xs ++ own_places (length b.entries) qs) h.own
    ∙ ap (λ m. (a.own ++ own_places (length a.entries) ps) ++ own_places m qs) l
    ∙ append_assoc a.own (own_places (length a.entries) ps) (own_places (length a.entries + length ps) qs)
    ∙ ap (λ xs. a.own ++ xs) (sym (own_more (length a.entries) ps qs))

entries_on : (a b c : WayView) (ps qs : List Part) → Goes a b ps → Goes b c qs → c.entries ≡ a.entries ++ traces_of (ps ++ qs)
entries_on a b c ps qs h k =
    k.entries ∙ ap (λ xs. xs ++ traces_of qs) h.entries ∙ append_assoc a.entries (traces_of ps) (traces_of qs) ∙ ap (λ xs. a.entries ++ xs) (sym (traces_on ps qs))

faults_on : (a b c f g fg : ℕ) → fg ≡ f + g → min (a + f) (2 ^ 64 - 1) ≤ b → min (b + g) (2 ^ 64 - 1) ≤ c → min (a + fg) (2 ^ 64 - 1) ≤ c
faults_on a b c f g fg e h k = omega arith

leads_both : (a b c : WayView) (ps qs : List Part) → Goes a b ps → Goes b c qs → a.origin.is_told ≡ true → (w : World) → a.is_at w → (v : World) × PartsLead a.origin w (ps ++ qs) v × c.is_at v
leads_both a b c ps qs h k told w at =
    let first = h.leads told w at in
    let second = k.leads (ap (λ (o : Origin). o.is_told) h.origin ∙ told) first.0 first.2 in
    (second.0, leads_on a.origin w first.0 second.0 ps qs first.1 (subst (λ o. PartsLead o first.0 qs second.0) h.origin second.1), second.2)

-- two stretches are one
pub goes_on : (a b c : WayView) (ps qs : List Part) → Goes a b ps → Goes b c qs → Goes a c (ps ++ qs)
goes_on a b c ps qs h k = record {
  origin = k.origin ∙ h.origin;
  is_alone = k.is_alone ∙ h.is_alone;
  entries = entries_on a b c ps qs h k;
  own = own_on a b c ps qs h k;
  alone = λ e. own_both ps qs (h.alone e) (k.alone (h.is_alone ∙ e));
  count = omega arith;
  faults = faults_on a.faults b.faults c.faults (fault_count ps) (fault_count qs) (fault_count (ps ++ qs)) (faults_more ps qs) h.faults k.faults;
  quiet = λ e. let one = h.quiet e in let two = k.quiet (ap (λ (o : Origin). o.is_quiet) h.origin ∙ e) in let sum = faults_more ps qs in omega arith;
  leads = leads_both a b c ps qs h k;
}
