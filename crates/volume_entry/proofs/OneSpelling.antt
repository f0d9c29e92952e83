-- A byte string is the spelling of one record at most.
use Rattle.std.proofs.Common.{◌≡◌, ◌∙◌, sym, ap, refl, ℕ, ◌<◌, ◌^◌, List, [], ◌∷◌, ◌++◌, length, take, drop, get_or, arith}
use Rattle.std.specs.List.{flat_map}
use Rattle.std.specs.Int.{w32, w64, to_be_bytes, from_be_bytes}
use Rattle.std.proofs.lemmas.Nat.{from_be_bytes-to_be_bytes_4, from_be_bytes-to_be_bytes_8}
use Rattle.code_mode.specs.declared.mode.Mode.{Mode}
use Rattle.unit_id.specs.Place.{Location}
use Rattle.volume_entry.specs.Manager.{Grant, ManagerRecord}
use Rattle.volume_entry.specs.Spelling.{home_bytes, grant_bytes, kind_of, fields_of, summed_part, GrantFits, DoHomesFit, DoGrantsFit, Fits, Spells}

same_home : (a b : Location) → a.epoch ≡ b.epoch → a.disk ≡ b.disk → a ≡ b
same_home a b e d =
    ap (λ n. let l : Location = record { epoch = n; disk = a.disk } in l) e ∙ ap (λ n. let l : Location = record { epoch = b.epoch; disk = n } in l) d

same_homes : (xs ys : List Location) → DoHomesFit xs → DoHomesFit ys → flat_map home_bytes xs ≡ flat_map home_bytes ys → xs ≡ ys
same_homes [] [] f g e = refl
same_homes [] (b ∷ ys) f g e = absurd (omega (arith, ap length e))
same_homes (a ∷ xs) [] f g e = absurd (omega (arith, ap length e))
same_homes (a ∷ xs) (b ∷ ys) f g e =
    let epoch : a.epoch ≡ b.epoch = sym (from_be_bytes-to_be_bytes_4 a.epoch f.0.epoch) ∙ ap (λ t. from_be_bytes w32 (take 4 t)) e ∙ from_be_bytes-to_be_bytes_4 b.epoch g.0.epoch in
    let disk : a.disk ≡ b.disk = sym (from_be_bytes-to_be_bytes_4 a.disk f.0.disk) ∙ ap (λ t. from_be_bytes w32 (take 4 (drop 4 t))) e ∙ from_be_bytes-to_be_bytes_4 b.disk g.0.disk in
    ap (λ h. h ∷ xs) (same_home a b epoch disk) ∙ ap (λ hs. b ∷ hs) (same_homes xs ys f.1 g.1 (ap (drop 8) e))

same_grant : (a b : Grant) → a.index ≡ b.index → a.dest ≡ b.dest → a ≡ b
same_grant a b i d =
    ap (λ n. let g : Grant = record { index = n; dest = a.dest } in g) i ∙ ap (λ (l : Location). let g : Grant = record { index = b.index; dest = l } in g) d

-- the same bytes, with others behind them
one_grant : (a b : Grant) (more other : List ℕ) → GrantFits a → GrantFits b → grant_bytes a ++ more ≡ grant_bytes b ++ other → a ≡ b
one_grant a b more other f g e =
    let disk : a.dest.disk ≡ b.dest.disk = sym (from_be_bytes-to_be_bytes_4 a.dest.disk f.dest.disk) ∙ ap (λ t. from_be_bytes w32 (take 4 (drop 1 t))) e ∙ from_be_bytes-to_be_bytes_4 b.dest.disk g.dest.disk in
    let epoch : a.dest.epoch ≡ b.dest.epoch = sym (from_be_bytes-to_be_bytes_4 a.dest.epoch f.dest.epoch) ∙ ap (λ t. from_be_bytes w32 (take 4 (drop 5 t))) e ∙ from_be_bytes-to_be_bytes_4 b.dest.epoch g.dest.epoch in
    same_grant a b (ap (λ t. get_or t 0 0) e) (same_home a.dest b.dest epoch disk)

same_grants : (xs ys : List Grant) → DoGrantsFit xs → DoGrantsFit ys → flat_map grant_bytes xs ≡ flat_map grant_bytes ys → xs ≡ ys
same_grants [] [] f g e = refl
same_grants [] (b ∷ ys) f g e = absurd (omega (arith, ap length e))
same_grants (a ∷ xs) [] f g e = absurd (omega (arith, ap length e))
same_grants (a ∷ xs) (b ∷ ys) f g e =
    ap (λ h. h ∷ xs) (one_grant a b (flat_map grant_bytes xs) (flat_map grant_bytes ys) f.0 g.0 e) ∙ ap (λ hs. b ∷ hs) (same_grants xs ys f.1 g.1 (ap (drop 9) e))

long_is : (a b : ℕ) → a < 2 ^ 64 → b < 2 ^ 64 → to_be_bytes w64 a ≡ to_be_bytes w64 b → a ≡ b
long_is a b f g e = sym (from_be_bytes-to_be_bytes_8 a f) ∙ ap (from_be_bytes w64) e ∙ from_be_bytes-to_be_bytes_8 b g

append_nil : (ys : List ℕ) → ys ++ [] ≡ ys
append_nil [] = refl
append_nil (y ∷ ys) = ap (λ t. y ∷ t) (append_nil ys)

module _ (vid : ℕ) (mode : Mode) where
  same_record : (a b : ManagerRecord) → Fits a → Fits b → kind_of a ≡ kind_of b → fields_of vid mode a ≡ fields_of vid mode b → a ≡ b
  unfolding fields_of
  same_record (ManagerRecord.Made xs) (ManagerRecord.Made ys) f g k e = ap ManagerRecord.Made (same_homes xs ys f.1 g.1 (ap (drop 6) e))
  same_record (ManagerRecord.Made xs) b f g k e = absurd (omega arith)
  same_record (ManagerRecord.Leased a) (ManagerRecord.Leased b) f g k e = ap ManagerRecord.Leased (long_is a b f g e)
  same_record (ManagerRecord.Leased a) b f g k e = absurd (omega arith)
  same_record (ManagerRecord.Locked t n xs) (ManagerRecord.Locked u m ys) f g k e =
      ap (λ x. ManagerRecord.Locked x n xs) (long_is t u f.0 g.0 (ap (take 8) e))
      ∙ ap (λ x. ManagerRecord.Locked u x xs) (long_is n m f.1 g.1 (ap (λ bytes. take 8 (drop 8 bytes)) e))
      ∙ ap (λ x. ManagerRecord.Locked u m x) (same_grants xs ys f.3 g.3 (ap (drop 17) e))
  same_record (ManagerRecord.Locked t n xs) b f g k e = absurd (omega arith)
  same_record (ManagerRecord.Retargeted a) (ManagerRecord.Retargeted b) f g k e =
      ap ManagerRecord.Retargeted (one_grant a b [] [] f g (append_nil (grant_bytes a) ∙ e ∙ sym (append_nil (grant_bytes b))))
  same_record (ManagerRecord.Retargeted a) b f g k e = absurd (omega arith)
  same_record ManagerRecord.Swapped ManagerRecord.Swapped f g k e = refl
  same_record ManagerRecord.Swapped b f g k e = absurd (omega arith)
  same_record ManagerRecord.Unlocked ManagerRecord.Unlocked f g k e = refl
  same_record ManagerRecord.Unlocked b f g k e = absurd (omega arith)
  same_record (ManagerRecord.Asked a) (ManagerRecord.Asked b) f g k e = ap ManagerRecord.Asked (long_is a b f g e)
  same_record (ManagerRecord.Asked a) b f g k e = absurd (omega arith)
  same_record (ManagerRecord.Committed a) (ManagerRecord.Committed b) f g k e = ap ManagerRecord.Committed (long_is a b f g e)
  same_record (ManagerRecord.Committed a) b f g k e = absurd (omega arith)

  pub one_to_one : (a b : ManagerRecord) (bytes : List ℕ) → Spells vid mode a bytes → Spells vid mode b bytes → a ≡ b
  one_to_one a b bytes sa sb =
      let same : summed_part vid mode a ≡ summed_part vid mode b = ap (drop 4) (sym sa.spelled ∙ sb.spelled) in
      same_record a b sa.fits sb.fits (ap (λ t. get_or t 0 0) same) (ap (drop 1) same)
