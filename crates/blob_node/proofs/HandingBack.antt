-- Units whose files go back to their shelf one by one.
use Rattle.std.proofs.Common.{◌≡◌, ◌≢◌, ◌∙◌, sym, ap, refl, subst, ℕ, ◌≤◌, Bool, true, false, cond, List, [], ◌∷◌, ◌++◌, Option, None, Some, nat_eq, ◌⊎◌, inl, inr, arith}
use Rattle.std.specs.Prelude.{is_some, ◌+◌, ◌-◌, ◌^◌, ◌<◌, min, sum_by, length}
use Rattle.std.specs.Map.{values_of}
use Rattle.std.proofs.lemmas.List.Sums.{sum_by-append, sum_by-cons}
use Rattle.disk_base.specs.Disk.{FileView}
use Rattle.disk_base.specs.Places.{Place as Slot, Unknown, Absent, Away, Kept, Keeps}
use Rattle.disk_base.specs.Shelves.{ShelfView, TakesBack}
use Rattle.blob_node.specs.HeldUnit.{UnitOver}
use Rattle.blob_node.specs.UnitTable.{Entries, at_word}
use Rattle.blob_node.specs.Station.{AreOut, HandsBack, file_faults}
use Rattle.blob_node.proofs.Holdings.{never_both}
use Rattle.blob_node.proofs.Tables.{at_snoc, eq_gives, eq_self}
use Rattle.blob_node.proofs.NewFiles.{keeps_then}

module _ {H F : Type 0} (shelf_seen : H → ShelfView F) (seen : F → FileView) where
  -- a unit whose file went back
  pub record IsBack (all : Entries F) (now : H) (word : ℕ) : Type 0 where
    pub unit : UnitOver F
    pub found : at_word word all ≡ Some unit
    pub kept : (shelf_seen now).place word ≡ Kept unit.chunk.log.file

  -- some files are back, and some are still out
  pub record InHand (old : H) (all : Entries F) (now : H) (left : Entries F) : Type 0 where
    pub out : AreOut (shelf_seen now) left
    pub each : (word : ℕ) → ((at_word word left ≡ at_word word all) × Keeps ((shelf_seen old).place word) ((shelf_seen now).place word)) ⊎ ((at_word word left ≡ None) × IsBack all now word)
    pub told : (shelf_seen now).is_told ≡ (shelf_seen old).is_told
    pub count : min ((shelf_seen old).faults + file_faults shelf_seen seen all) (2 ^ 64 - 1) ≤ (shelf_seen now).faults + file_faults shelf_seen seen left

  keeps_same : (slot : Slot F) → Keeps slot slot
  keeps_same Unknown = tt
  keeps_same Absent = refl
  keeps_same Away = refl
  keeps_same (Kept x) = refl

  pub all_in_hand : (old : H) (all : Entries F) → AreOut (shelf_seen old) all → InHand old all old all
  all_in_hand old all out = record {
    out = out;
    each = λ word. inl (refl, keeps_same ((shelf_seen old).place word));
    told = refl;
    count = omega arith;
  }

  values_snoc : (units : Entries F) (word : ℕ) (u : UnitOver F) → values_of (units ++ (word, u) ∷ []) ≡ values_of units ++ u ∷ []
  values_snoc [] word u = refl
  values_snoc (e ∷ es) word u = ap (λ rest. e.1 ∷ rest) (values_snoc es word u)

  abbrev count_of : UnitOver F → ℕ
  count_of unit = (seen unit.chunk.log.file).faults

  snoc_sum : (units : Entries F) (word : ℕ) (u : UnitOver F) → file_faults shelf_seen seen (units ++ (word, u) ∷ []) ≡ file_faults shelf_seen seen units + count_of u
  snoc_sum units word u =
      ap (sum_by count_of) (values_snoc units word u) ∙ sum_by-append count_of (values_of units) (u ∷ [])
      ∙ ap (λ n. sum_by count_of (values_of units) + n) (sum_by-cons count_of u [] ∙ last (count_of u))
    where
      last : (n : ℕ) → n + sum_by count_of [] ≡ n
      last n = omega arith

  module _ (old : H) (all : Entries F) (now : H) (left : Entries F) (hand : InHand old all now left) where
    module _ (fewer : Entries F) (word : ℕ) (unit : UnitOver F) (is : left ≡ fewer ++ (word, unit) ∷ []) (gone : at_word word fewer ≡ None) where
      found : (other : ℕ) → at_word other left ≡ cond (nat_eq word other) (Some unit) (at_word other fewer)
      found other = ap (at_word other) is ∙ at_snoc fewer word unit other gone

      here : at_word word left ≡ Some unit
      here = found word ∙ ap (λ b. cond b (Some unit) (at_word word fewer)) (eq_self word)

      pub is_out_now : (shelf_seen now).is_out word ≡ true
      is_out_now = hand.out word ∙ ap is_some here

      elsewhere : (other : ℕ) → nat_eq word other ≡ false → at_word other left ≡ at_word other fewer
      elsewhere other e = found other ∙ ap (λ b. cond b (Some unit) (at_word other fewer)) e

      apart : (other : ℕ) → nat_eq word other ≡ false → other ≢ word
      apart other e same = never_both (nat_eq word other) e (ap (nat_eq word) same ∙ eq_self word)

      module _ (new : H) (back : TakesBack seen word unit.chunk.log.file (shelf_seen now) (shelf_seen new)) where
        whole : ((at_word word left ≡ at_word word all) × Keeps ((shelf_seen old).place word) ((shelf_seen now).place word)) ⊎ ((at_word word left ≡ None) × IsBack all now word) → at_word word all ≡ Some unit
        whole (inl same) = sym same.0 ∙ here
        whole (inr none) = absurd (cc (sym here ∙ none.0))

        kept_still : (slot : Slot F) (file : F) (then : Slot F) → slot ≡ Kept file → Keeps slot then → then ≡ Kept file
        kept_still slot file then e keeps = subst (λ s. Keeps s then) e keeps

        at_other : (other : ℕ) → nat_eq word other ≡ false
            → ((at_word other left ≡ at_word other all) × Keeps ((shelf_seen old).place other) ((shelf_seen now).place other)) ⊎ ((at_word other left ≡ None) × IsBack all now other)
            → ((at_word other fewer ≡ at_word other all) × Keeps ((shelf_seen old).place other) ((shelf_seen new).place other)) ⊎ ((at_word other fewer ≡ None) × IsBack all new other)
        at_other other e (inl same) = inl (sym (elsewhere other e) ∙ same.0, keeps_then ((shelf_seen old).place other) ((shelf_seen now).place other) ((shelf_seen new).place other) same.1 (back.others.places other (apart other e)))
        at_other other e (inr b) = inr (
          sym (elsewhere other e) ∙ b.0,
          record { unit = b.1.unit; found = b.1.found; kept = kept_still ((shelf_seen now).place other) b.1.unit.chunk.log.file ((shelf_seen new).place other) b.1.kept (back.others.places other (apart other e)) },
        )

        each_now : (other : ℕ) (b : Bool) → nat_eq word other ≡ b → ((at_word other fewer ≡ at_word other all) × Keeps ((shelf_seen old).place other) ((shelf_seen new).place other)) ⊎ ((at_word other fewer ≡ None) × IsBack all new other)
        each_now other false e = at_other other e (hand.each other)
        each_now other true e =
            subst (λ w. ((at_word w fewer ≡ at_word w all) × Keeps ((shelf_seen old).place w) ((shelf_seen new).place w)) ⊎ ((at_word w fewer ≡ None) × IsBack all new w)) (eq_gives word other e)
            (inr (gone, record { unit = unit; found = whole (hand.each word); kept = back.kept }))

        out_now : (other : ℕ) (b : Bool) → nat_eq word other ≡ b → (shelf_seen new).is_out other ≡ is_some (at_word other fewer)
        out_now other false e = back.others.out other (apart other e) ∙ hand.out other ∙ ap is_some (elsewhere other e)
        out_now other true e = subst (λ w. (shelf_seen new).is_out w ≡ is_some (at_word w fewer)) (eq_gives word other e) (back.out ∙ sym (ap is_some gone))

        pub one_back : InHand old all new fewer
        one_back = record {
          out = λ other. out_now other (nat_eq word other) refl;
          each = λ other. each_now other (nat_eq word other) refl;
          told = back.told ∙ hand.told;
          count =
              let sum = ap (file_faults shelf_seen seen) is ∙ snoc_sum fewer word unit in
              let was = hand.count in let its = back.count in let never = back.never_falls in
              omega (arith, sum, was, its, never);
        }

    pub all_back : left ≡ [] → HandsBack shelf_seen seen old all now
    all_back none = record {
      whole = λ word. hand.out word ∙ ap (λ (es : Entries F). is_some (at_word word es)) none;
      files = λ word unit found_. file_of word unit found_ (hand.each word);
      others = λ word absent. other_of word absent (hand.each word);
      told = hand.told;
      count = let was = hand.count in let sum = ap (file_faults shelf_seen seen) none in omega (arith, was, sum);
    }
      where
        same_unit : (a b : UnitOver F) (o : Option (UnitOver F)) → o ≡ Some a → o ≡ Some b → a ≡ b
        same_unit a b o e f = cc

        file_of : (word : ℕ) (unit : UnitOver F) → at_word word all ≡ Some unit → ((at_word word left ≡ at_word word all) × Keeps ((shelf_seen old).place word) ((shelf_seen now).place word)) ⊎ ((at_word word left ≡ None) × IsBack all now word)
            → (shelf_seen now).place word ≡ Kept unit.chunk.log.file
        file_of word unit f (inl same) = absurd (cc (sym (ap (at_word word) none) ∙ same.0 ∙ f))
        file_of word unit f (inr b) = b.1.kept ∙ ap (λ (u : UnitOver F). Kept u.chunk.log.file) (same_unit b.1.unit unit (at_word word all) b.1.found f)

        other_of : (word : ℕ) → is_some (at_word word all) ≡ false → ((at_word word left ≡ at_word word all) × Keeps ((shelf_seen old).place word) ((shelf_seen now).place word)) ⊎ ((at_word word left ≡ None) × IsBack all now word)
            → Keeps ((shelf_seen old).place word) ((shelf_seen now).place word)
        other_of word absent (inl same) = same.1
        other_of word absent (inr b) = absurd (never_both (is_some (at_word word all)) absent (ap is_some b.1.found))

pub none_left : {T : Type 0} (left : List T) → (0 < length left → false ≡ true) → left ≡ []
none_left [] never = refl
none_left (x ∷ xs) never = absurd (never_both false refl (never (omega arith)))
