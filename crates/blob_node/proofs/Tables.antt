-- Units by the words of their names: look-ups, names and greatest epochs after a change.
use Rattle.std.proofs.Common.{◌≡◌, ◌≢◌, ◌∙◌, sym, ap, refl, subst, ℕ, ◌<◌, ◌≤◌, Bool, true, false, cond, List, [], ◌∷◌, ◌++◌, Option, None, Some, nat_eq, max, slice_index, slice_set, length, nat_le, inl, inr, Result, Ok, Err, OnOk, arith}
use Rattle.std.specs.Prelude.{◌==◌, ◌||◌, is_some, IsOk}
use Rattle.std.specs.List.{list_any}
use Rattle.std.specs.Cmp.{nat_eq_equiv}
use Rattle.std.specs.Map.{set_value, keys_of}
use Rattle.std.proofs.lemmas.Bool.Decides.{nat_tests}
use Rattle.std.proofs.lemmas.Map.{lookup-set_value}
use Rattle.std.proofs.lemmas.List.{get_or-set_same, get_or-set_other}
use Rattle.unit_id.specs.UnitName.{Name, IsName, packed}
use Rattle.unit_id.proofs.Bools.{either, same_number, equal_test}
use Rattle.blob_node.specs.HeldUnit.{UnitOver}
use Rattle.blob_node.specs.UnitTable.{Entries, at_word, greatest_of, IsNamed, AreNamed, AreGreatest}
use Rattle.blob_node.proofs.Holdings.{never_both}

pub eq_gives : (a b : ℕ) → nat_eq a b ≡ true → a ≡ b
eq_gives a b e = grind (arith, nat_tests)

pub eq_self : (a : ℕ) → nat_eq a a ≡ true
eq_self a = grind (arith, nat_tests)

pub eq_apart : (a b : ℕ) → a ≢ b → nat_eq a b ≡ false
eq_apart a b ne = go (nat_eq a b) refl where
  go : (t : Bool) → nat_eq a b ≡ t → t ≡ false
  go false e = refl
  go true e = absurd (ne (eq_gives a b e))

eq_one : (k x y : ℕ) → nat_eq k x ≡ true → nat_eq k y ≡ nat_eq x y
eq_one k x y e = ap (λ z. nat_eq z y) (eq_gives k x e)

some_is : {A : Type 0} (o : Option A) (x : A) → o ≡ Some x → is_some o ≡ true
some_is o x e = ap is_some e

pub none_of : {A : Type 0} (o : Option A) → is_some o ≡ false → o ≡ None
none_of None e = refl
none_of (Some x) e = absurd (never_both true e refl)

pub one_of : {A : Type 0} (o : Option A) → is_some o ≡ true → (x : A) × (o ≡ Some x)
one_of None e = absurd (never_both false refl e)
one_of (Some x) e = (x, refl)

module _ {F : Type 0} where
  -- ---- a unit more

  pub at_snoc : (units : Entries F) (word : ℕ) (unit : UnitOver F) (other : ℕ) → at_word word units ≡ None
      → at_word other (units ++ (word, unit) ∷ []) ≡ cond (nat_eq word other) (Some unit) (at_word other units)
  at_snoc [] word unit other none = ap (λ b. cond b (Some unit) None) (flip (nat_eq other word) refl)
    where
      flip : (b : Bool) → nat_eq other word ≡ b → nat_eq other word ≡ nat_eq word other
      flip b e = grind (arith, nat_tests)
  at_snoc (e ∷ es) word unit other none =
      let tail = tail_none (nat_eq word e.0) refl none in
      go (nat_eq other e.0) refl (at_snoc es word unit other tail.1)
    where
      tail_none : (b : Bool) → nat_eq word e.0 ≡ b → cond b (Some e.1) (at_word word es) ≡ None → (nat_eq word e.0 ≡ false) × (at_word word es ≡ None)
      tail_none true h none = absurd (cc none)
      tail_none false h none = (h, none)

      apart : nat_eq other e.0 ≡ true → nat_eq word other ≡ false
      apart h = eq_apart word other (λ same. never_both (nat_eq word e.0) (tail_none (nat_eq word e.0) refl none).0 (ap (λ k. nat_eq k e.0) same ∙ h))

      go : (b : Bool) → nat_eq other e.0 ≡ b → at_word other (es ++ (word, unit) ∷ []) ≡ cond (nat_eq word other) (Some unit) (at_word other es)
          → cond b (Some e.1) (at_word other (es ++ (word, unit) ∷ [])) ≡ cond (nat_eq word other) (Some unit) (cond b (Some e.1) (at_word other es))
      go true h rest = sym (ap (λ t. cond t (Some unit) (Some e.1)) (apart h))
      go false h rest = rest

  pub named_snoc : (vid : ℕ) (units : Entries F) (word : ℕ) (unit : UnitOver F) → AreNamed vid units → IsNamed vid word unit → AreNamed vid (units ++ (word, unit) ∷ [])
  named_snoc vid [] word unit named its = (its, tt)
  named_snoc vid (e ∷ es) word unit named its = (named.0, named_snoc vid es word unit named.1 its)

  pub greatest_snoc : (units : Entries F) (word : ℕ) (unit : UnitOver F) (index : ℕ) → greatest_of (units ++ (word, unit) ∷ []) index ≡ cond (unit.chunk.unit.index == index) (max unit.chunk.unit.epoch (greatest_of units index)) (greatest_of units index)
  greatest_snoc [] word unit index = refl
  greatest_snoc (e ∷ es) word unit index = go (e.1.chunk.unit.index == index) (unit.chunk.unit.index == index) (greatest_snoc es word unit index) where
    go : (b c : Bool) → greatest_of (es ++ (word, unit) ∷ []) index ≡ cond c (max unit.chunk.unit.epoch (greatest_of es index)) (greatest_of es index)
        → cond b (max e.1.chunk.unit.epoch (greatest_of (es ++ (word, unit) ∷ []) index)) (greatest_of (es ++ (word, unit) ∷ []) index)
        ≡ cond c (max unit.chunk.unit.epoch (cond b (max e.1.chunk.unit.epoch (greatest_of es index)) (greatest_of es index))) (cond b (max e.1.chunk.unit.epoch (greatest_of es index)) (greatest_of es index))
    go true true rest = ap (max e.1.chunk.unit.epoch) rest ∙ omega arith
    go true false rest = ap (max e.1.chunk.unit.epoch) rest
    go false true rest = rest
    go false false rest = rest

  -- ---- a unit replaced by one of its name

  pub at_set : (units : Entries F) (word : ℕ) (was now : UnitOver F) → at_word word units ≡ Some was → (other : ℕ)
      → at_word other (set_value (nat_eq word) units now) ≡ cond (nat_eq word other) (Some now) (at_word other units)
  at_set units word was now found other = lookup-set_value nat_eq_equiv (nat_eq word) (eq_one word) other now units (some_is (at_word word units) was found)

  pub some_set : (units : Entries F) (word : ℕ) (was now : UnitOver F) → at_word word units ≡ Some was → (other : ℕ) → is_some (at_word other (set_value (nat_eq word) units now)) ≡ is_some (at_word other units)
  some_set units word was now found other = ap is_some (at_set units word was now found other) ∙ go (nat_eq word other) refl where
    go : (b : Bool) → nat_eq word other ≡ b → is_some (cond b (Some now) (at_word other units)) ≡ is_some (at_word other units)
    go false e = refl
    go true e = sym (some_is (at_word other units) was (ap (λ k. at_word k units) (sym (eq_gives word other e)) ∙ found))

  same_some : (x y : UnitOver F) → Some x ≡ Some y → x ≡ y
  same_some x y e = cc

  named_now : (vid word : ℕ) (was now : UnitOver F) → now.chunk.unit ≡ was.chunk.unit → IsNamed vid word was → IsNamed vid word now
  named_now vid word was now same named = record {
    word_is = named.word_is ∙ ap packed (sym same);
    name = subst IsName (sym same) named.name;
    vid_is = ap (λ (n : Name). n.vid) same ∙ named.vid_is;
  }

  pub named_set : (vid : ℕ) (units : Entries F) (word : ℕ) (was now : UnitOver F) → at_word word units ≡ Some was → now.chunk.unit ≡ was.chunk.unit → AreNamed vid units → AreNamed vid (set_value (nat_eq word) units now)
  named_set vid [] word was now found same named = tt
  named_set vid (e ∷ es) word was now found same named = go (nat_eq word e.0) (λ h. named_set vid es word was now h same named.1) found where
    go : (b : Bool) → (at_word word es ≡ Some was → AreNamed vid (set_value (nat_eq word) es now)) → cond b (Some e.1) (at_word word es) ≡ Some was → AreNamed vid (cond b ((e.0, now) ∷ es) (e ∷ set_value (nat_eq word) es now))
    go true rest h = (named_now vid e.0 e.1 now (same ∙ ap (λ (u : UnitOver F). u.chunk.unit) (sym (same_some e.1 was h))) named.0, named.1)
    go false rest h = (named.0, rest h)

  pub greatest_set : (units : Entries F) (word : ℕ) (was now : UnitOver F) → at_word word units ≡ Some was → now.chunk.unit ≡ was.chunk.unit → (index : ℕ) → greatest_of (set_value (nat_eq word) units now) index ≡ greatest_of units index
  greatest_set [] word was now found same index = refl
  greatest_set (e ∷ es) word was now found same index = go (nat_eq word e.0) (λ h. greatest_set es word was now h same index) found where
    go : (b : Bool) → (at_word word es ≡ Some was → greatest_of (set_value (nat_eq word) es now) index ≡ greatest_of es index) → cond b (Some e.1) (at_word word es) ≡ Some was → greatest_of (cond b ((e.0, now) ∷ es) (e ∷ set_value (nat_eq word) es now)) index ≡ greatest_of (e ∷ es) index
    go true rest h =
        ap (λ (n : Name). cond (n.index == index) (max n.epoch (greatest_of es index)) (greatest_of es index)) (same ∙ ap (λ (u : UnitOver F). u.chunk.unit) (sym (same_some e.1 was h)))
    go false rest h = ap (λ g. cond (e.1.chunk.unit.index == index) (max e.1.chunk.unit.epoch g) g) (rest h)

  -- ---- what is found is named

  pub named_at : (vid : ℕ) (units : Entries F) (word : ℕ) (unit : UnitOver F) → AreNamed vid units → at_word word units ≡ Some unit → IsNamed vid word unit
  named_at vid [] word unit named found = absurd (cc found)
  named_at vid (e ∷ es) word unit named found = go (nat_eq word e.0) refl (named_at vid es word unit named.1) found where
    go : (b : Bool) → nat_eq word e.0 ≡ b → (at_word word es ≡ Some unit → IsNamed vid word unit) → cond b (Some e.1) (at_word word es) ≡ Some unit → IsNamed vid word unit
    go true h rest f = subst (λ (u : UnitOver F). IsNamed vid word u) (same_some e.1 unit f) (subst (λ k. IsNamed vid k e.1) (sym (eq_gives word e.0 h)) named.0)
    go false h rest f = rest f

  -- ---- greatest epochs

  pub no_greater : (units : Entries F) (word : ℕ) (unit : UnitOver F) → at_word word units ≡ Some unit → unit.chunk.unit.epoch ≤ greatest_of units unit.chunk.unit.index
  no_greater [] word unit found = absurd (cc found)
  no_greater (e ∷ es) word unit found = go (nat_eq word e.0) (e.1.chunk.unit.index == unit.chunk.unit.index) refl (no_greater es word unit) found where
    go : (b c : Bool) → e.1.chunk.unit.index == unit.chunk.unit.index ≡ c → (at_word word es ≡ Some unit → unit.chunk.unit.epoch ≤ greatest_of es unit.chunk.unit.index) → cond b (Some e.1) (at_word word es) ≡ Some unit
        → unit.chunk.unit.epoch ≤ cond c (max e.1.chunk.unit.epoch (greatest_of es unit.chunk.unit.index)) (greatest_of es unit.chunk.unit.index)
    go true true i rest f = let same = ap (λ (u : UnitOver F). u.chunk.unit.epoch) (same_some e.1 unit f) in omega (arith, same)
    go true false i rest f = absurd (never_both (e.1.chunk.unit.index == unit.chunk.unit.index) i (equal_test e.1.chunk.unit.index unit.chunk.unit.index (ap (λ (u : UnitOver F). u.chunk.unit.index) (same_some e.1 unit f))))
    go false true i rest f = let less = rest f in omega (arith, less)
    go false false i rest f = rest f

  -- the unit of the greatest epoch
  pub record Latest (units : Entries F) (index : ℕ) : Type 0 where
    pub word : ℕ
    pub unit : UnitOver F
    pub found : is_some (at_word word units) ≡ true
    pub word_is : word ≡ packed unit.chunk.unit
    pub name : IsName unit.chunk.unit
    pub index_is : unit.chunk.unit.index ≡ index
    pub epoch_is : unit.chunk.unit.epoch ≡ greatest_of units index

  found_behind : (e : ℕ × UnitOver F) (es : Entries F) (word : ℕ) → is_some (at_word word es) ≡ true → is_some (at_word word (e ∷ es)) ≡ true
  found_behind e es word some = go (nat_eq word e.0) where
    go : (b : Bool) → is_some (cond b (Some e.1) (at_word word es)) ≡ true
    go true = refl
    go false = some

  pub latest : (vid : ℕ) (units : Entries F) (index : ℕ) → AreNamed vid units → 1 ≤ greatest_of units index → Latest units index
  latest vid [] index named some = absurd (omega (arith, some))
  latest vid (e ∷ es) index named some = go (latest vid es index named.1) (e.1.chunk.unit.index == index) refl some where
    behind : (1 ≤ greatest_of es index → Latest es index) → (g : ℕ) → g ≡ greatest_of es index → 1 ≤ greatest_of es index → greatest_of (e ∷ es) index ≡ g → Latest (e ∷ es) index
    behind earlier g is some now =
        let l = earlier some in
        record { word = l.word; unit = l.unit; found = found_behind e es l.word l.found; word_is = l.word_is; name = l.name; index_is = l.index_is; epoch_is = l.epoch_is ∙ sym is ∙ sym now }

    here : e.1.chunk.unit.index == index ≡ true → greatest_of (e ∷ es) index ≡ e.1.chunk.unit.epoch → Latest (e ∷ es) index
    here h now = record {
      word = e.0;
      unit = e.1;
      found = ap (λ b. is_some (cond b (Some e.1) (at_word e.0 es))) (eq_self e.0);
      word_is = named.0.word_is;
      name = named.0.name;
      index_is = same_number e.1.chunk.unit.index index h;
      epoch_is = sym now;
    }

    unfold_true : e.1.chunk.unit.index == index ≡ true → greatest_of (e ∷ es) index ≡ max e.1.chunk.unit.epoch (greatest_of es index)
    unfold_true h = ap (λ b. cond b (max e.1.chunk.unit.epoch (greatest_of es index)) (greatest_of es index)) h

    unfold_false : e.1.chunk.unit.index == index ≡ false → greatest_of (e ∷ es) index ≡ greatest_of es index
    unfold_false h = ap (λ b. cond b (max e.1.chunk.unit.epoch (greatest_of es index)) (greatest_of es index)) h

    go : (1 ≤ greatest_of es index → Latest es index) → (b : Bool) → e.1.chunk.unit.index == index ≡ b → 1 ≤ cond b (max e.1.chunk.unit.epoch (greatest_of es index)) (greatest_of es index) → Latest (e ∷ es) index
    go earlier false h some = behind earlier (greatest_of es index) refl some (unfold_false h)
    go earlier true h some = elim (either (nat_le (greatest_of es index) e.1.chunk.unit.epoch)) [
      | inl less ↦ let l : greatest_of es index ≤ e.1.chunk.unit.epoch = grind (arith, nat_tests) in here h (unfold_true h ∙ omega (arith, l))
      | inr more ↦
          let l : e.1.chunk.unit.epoch < greatest_of es index = grind (arith, nat_tests) in
          behind earlier (greatest_of es index) refl (omega (arith, l)) (unfold_true h ∙ omega (arith, l))
    ]

-- ---- the table of greatest epochs

pub greatest_more : {F : Type 0} (greatest : List ℕ) (units new : Entries F) (word : ℕ) (unit : UnitOver F) (place value : ℕ) → AreGreatest greatest units → length greatest ≡ 256 → new ≡ units ++ (word, unit) ∷ []
    → place ≡ unit.chunk.unit.index → place < 256 → value ≡ max (slice_index greatest place) unit.chunk.unit.epoch → AreGreatest (slice_set greatest place value) new
greatest_more {F} greatest units new word unit place value are long is at small value_is index h =
    go (unit.chunk.unit.index == index) refl ∙ sym (greatest_snoc units word unit index) ∙ ap (λ (es : Entries F). greatest_of es index) (sym is)
  where
    within : place < length greatest
    within = omega (arith, long, small)

    go : (b : Bool) → unit.chunk.unit.index == index ≡ b → slice_index (slice_set greatest place value) index ≡ cond b (max unit.chunk.unit.epoch (greatest_of units index)) (greatest_of units index)
    go true e =
        let here : place ≡ index = at ∙ same_number unit.chunk.unit.index index e in
        let known : slice_index greatest place ≡ greatest_of units index = are place small ∙ ap (greatest_of units) here in
        ap (slice_index (slice_set greatest place value)) (sym here) ∙ get_or-set_same greatest place value 0 within ∙ value_is ∙ omega (arith, known)
    go false e =
        get_or-set_other greatest place index value 0
        (λ same. never_both (unit.chunk.unit.index == index) e (equal_test unit.chunk.unit.index index (sym at ∙ sym same))) ∙ are index h

pub on_ok : {T E : Type 0} (result : Result T E) (P : Type 0) → IsOk result → OnOk result P → P
on_ok (Ok x) P is then = then
on_ok (Err e) P is then = absurd (cc is)

-- what holds of the table after a unit was replaced
pub still_named : {F : Type 0} (vid : ℕ) (greatest : List ℕ) (units new : Entries F) (word : ℕ) (was now : UnitOver F) → at_word word units ≡ Some was → now.chunk.unit ≡ was.chunk.unit → new ≡ set_value (nat_eq word) units now
    → AreNamed vid units × AreGreatest greatest units → AreNamed vid new × AreGreatest greatest new
still_named {F} vid greatest units new word was now found same is before =
    subst (λ (es : Entries F). AreNamed vid es × AreGreatest greatest es) (sym is)
    (named_set vid units word was now found same before.0, λ index h. before.1 index h ∙ sym (greatest_set units word was now found same index))

-- two names with one word are one name
pub one_name : (one other : Name) → IsName one → IsName other → packed one ≡ packed other → one ≡ other
one_name one other is its e =
    let a = is.index in let b = is.last in let c = its.index in let d = its.last in
    let vids : one.vid ≡ other.vid = omega (arith, a, b, c, d, e) in
    let indices : one.index ≡ other.index = omega (arith, a, b, c, d, e, vids) in
    let epochs : one.epoch ≡ other.epoch = omega (arith, a, b, c, d, e, vids, indices) in
    λ i. record { vid = vids i; index = indices i; epoch = epochs i }

-- the unit under the word of a name has that name
pub name_by_word : {F : Type 0} (name : Name) → IsName name → (vid word : ℕ) (unit : UnitOver F) → IsNamed vid word unit → word ≡ packed name → unit.chunk.unit ≡ name
name_by_word name is vid word unit named e = one_name unit.chunk.unit name named.name is (sym named.word_is ∙ e)

-- a word is one of the keys exactly where it is found
pub some_key : {F : Type 0} (units : Entries F) (word : ℕ) → list_any (λ key. key == word) (keys_of units) ≡ is_some (at_word word units)
some_key [] word = refl
some_key {F} (e ∷ es) word = go (nat_eq word e.0) refl (some_key es word) where
  go : (b : Bool) → nat_eq word e.0 ≡ b → list_any (λ key. key == word) (keys_of es) ≡ is_some (at_word word es) → (e.0 == word) || list_any (λ key. key == word) (keys_of es) ≡ is_some (cond b (Some e.1) (at_word word es))
  go true h rest = ap (λ t. t || list_any (λ key. key == word) (keys_of es)) (equal_test e.0 word (sym (eq_gives word e.0 h)))
  go false h rest = ap (λ t. t || list_any (λ key. key == word) (keys_of es)) (turned (e.0 == word) refl) ∙ rest
    where
      turned : (b : Bool) → e.0 == word ≡ b → e.0 == word ≡ false
      turned false t = t
      turned true t = absurd (never_both (nat_eq word e.0) h (ap (λ k. nat_eq k e.0) (sym (same_number e.0 word t)) ∙ eq_self e.0))
