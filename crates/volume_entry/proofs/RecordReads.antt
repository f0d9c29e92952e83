-- What the reading of a record's parts shows.
use Rattle.std.proofs.Common.{◌≡◌, ◌∙◌, sym, ap, subst, refl, ℕ, ◌*◌, ◌<◌, ◌≤◌, ◌^◌, List, [], ◌∷◌, ◌++◌, length, drop, get_or, arith, drop-cons, length-drop}
use Rattle.std.specs.List.{flat_map}
use Rattle.std.specs.Int.{w32, w64, to_be_bytes}
use Rattle.code_mode.specs.declared.mode.Mode.{Mode}
use Rattle.unit_id.specs.Place.{Location}
use Rattle.volume_entry.specs.Manager.{Grant, ManagerRecord}
use Rattle.volume_entry.specs.Spelling.{home_bytes, grant_bytes, fields_of, mode_number, GrantFits, DoHomesFit, DoGrantsFit}
use Rattle.volume_entry.specs.RecordBytes.{HasFields}
use Rattle.volume_entry.proofs.RecordKinds.{MadeSays, LockSays, made_has, lock_has}

none_of_length : (xs : List ℕ) → length xs ≡ 0 → xs ≡ []
none_of_length [] e = refl
none_of_length (x ∷ xs) e = absurd (omega arith)

module _ (vid : ℕ) (mode : Mode) where
  pub leased_is : (fields : List ℕ) (end : ℕ) → fields ≡ to_be_bytes w64 end → end < 2 ^ 64 → HasFields vid mode 2 fields (ManagerRecord.Leased end)
  unfolding fields_of
  leased_is fields end e f = record { kind_is = refl; fields_are = sym e; fits = f }

  pub asked_is : (fields : List ℕ) (bid : ℕ) → fields ≡ to_be_bytes w64 bid → bid < 2 ^ 64 → HasFields vid mode 7 fields (ManagerRecord.Asked bid)
  unfolding fields_of
  asked_is fields bid e f = record { kind_is = refl; fields_are = sym e; fits = f }

  pub committed_is : (fields : List ℕ) (bid : ℕ) → fields ≡ to_be_bytes w64 bid → bid < 2 ^ 64 → HasFields vid mode 8 fields (ManagerRecord.Committed bid)
  unfolding fields_of
  committed_is fields bid e f = record { kind_is = refl; fields_are = sym e; fits = f }

  pub swapped_is : (fields : List ℕ) → length fields ≡ 0 → HasFields vid mode 5 fields ManagerRecord.Swapped
  unfolding fields_of
  swapped_is fields e = record { kind_is = refl; fields_are = sym (none_of_length fields e); fits = tt }

  pub unlocked_is : (fields : List ℕ) → length fields ≡ 0 → HasFields vid mode 6 fields ManagerRecord.Unlocked
  unfolding fields_of
  unlocked_is fields e = record { kind_is = refl; fields_are = sym (none_of_length fields e); fits = tt }

  no_more : (grant : Grant) (fields rest : List ℕ) → length fields ≡ 9 → fields ≡ grant_bytes grant ++ rest → rest ≡ []
  no_more grant fields rest n e = none_of_length rest (omega (arith, ap length e))

  append_nil : (ys : List ℕ) → ys ++ [] ≡ ys
  append_nil [] = refl
  append_nil (y ∷ ys) = ap (λ t. y ∷ t) (append_nil ys)

  pub retargeted_is : (fields : List ℕ) (grant : Grant) (rest : List ℕ) → length fields ≡ 9 → fields ≡ grant_bytes grant ++ rest → GrantFits grant → HasFields vid mode 4 fields (ManagerRecord.Retargeted grant)
  unfolding fields_of
  retargeted_is fields grant rest n e f =
      record { kind_is = refl; fields_are = sym (e ∙ ap (λ t. grant_bytes grant ++ t) (no_more grant fields rest n e) ∙ append_nil (grant_bytes grant)); fits = f }

  -- two numbers and a list of grants behind its count
  pub locked_is : (fields : List ℕ) (task number : ℕ) (after_task after_lock : List ℕ) (grants : List Grant)
      → fields ≡ to_be_bytes w64 task ++ after_task → after_task ≡ to_be_bytes w64 number ++ after_lock → 1 ≤ length after_lock
      → drop 1 after_lock ≡ flat_map grant_bytes grants → length grants ≡ get_or after_lock 0 0 → get_or after_lock 0 0 < 2 ^ 8
      → task < 2 ^ 64 → number < 2 ^ 64 → DoGrantsFit grants → HasFields vid mode 3 fields (ManagerRecord.Locked task number grants)
  unfolding fields_of
  locked_is fields task number after_task after_lock grants e1 e2 inside behind count small t n fit =
      let head : after_lock ≡ length grants ∷ flat_map grant_bytes grants =
      drop-cons after_lock 0 0 (omega arith) ∙ ap (λ k. k ∷ drop 1 after_lock) (sym count) ∙ ap (λ bs. length grants ∷ bs) behind in
      record {
        kind_is = refl;
        fields_are = sym (e1 ∙ ap (λ bs. to_be_bytes w64 task ++ bs) (e2 ∙ ap (λ bs. to_be_bytes w64 number ++ bs) head));
        fits = (t, n, let small' : length grants < 2 ^ 8 = omega (arith, count) in small', fit);
      }

  -- behind two numbers of a lock's record stands a count with as many grants
  pub locked_counts : (fields : List ℕ) (task number : ℕ) (after_task after_lock : List ℕ) (item : ManagerRecord)
      → fields ≡ to_be_bytes w64 task ++ after_task → after_task ≡ to_be_bytes w64 number ++ after_lock → HasFields vid mode 3 fields item
      → length (drop 1 after_lock) ≡ 9 * get_or after_lock 0 0
  locked_counts fields task number after_task after_lock item e1 e2 h =
      let e : fields ≡ to_be_bytes w64 task ++ (to_be_bytes w64 number ++ after_lock) = e1 ∙ ap (λ bs. to_be_bytes w64 task ++ bs) e2 in
      let P : List ℕ → Type 0 = LockSays vid mode in
      let says = subst P e (lock_has vid mode fields item h) in
      omega (arith, says.whole, length-drop 1 after_lock)

  -- a volume, a mode and a list of homes behind its count
  pub made_is : (fields : List ℕ) (stated : ℕ) (rest : List ℕ) (homes : List Location)
      → fields ≡ to_be_bytes w32 stated ++ rest → stated ≡ vid → 2 ≤ length rest → get_or rest 0 0 ≡ mode_number mode
      → drop 2 rest ≡ flat_map home_bytes homes → length homes ≡ get_or rest 1 0 → get_or rest 1 0 < 2 ^ 8
      → DoHomesFit homes → HasFields vid mode 1 fields (ManagerRecord.Made homes)
  unfolding fields_of
  made_is fields stated rest homes e v inside m behind count small fit =
      let head : rest ≡ mode_number mode ∷ (length homes ∷ flat_map home_bytes homes) =
      drop-cons rest 0 0 (omega arith) ∙ ap (λ k. k ∷ drop 1 rest) m
      ∙ ap (λ bs. mode_number mode ∷ bs) (drop-cons rest 1 0 (omega arith) ∙ ap (λ k. k ∷ drop 2 rest) (sym count) ∙ ap (λ bs. length homes ∷ bs) behind) in
      record {
        kind_is = refl;
        fields_are = sym (e ∙ ap (λ w. to_be_bytes w32 w ++ rest) v ∙ ap (λ bs. to_be_bytes w32 vid ++ bs) head);
        fits = (let small' : length homes < 2 ^ 8 = omega (arith, count) in small', fit);
      }

  -- what the record of a making says of its parts
  pub record MadeParts (stated : ℕ) (rest : List ℕ) : Type 0 where
    pub vid_is : to_be_bytes w32 stated ≡ to_be_bytes w32 vid
    pub mode_is : get_or rest 0 0 ≡ mode_number mode
    pub counts : length (drop 2 rest) ≡ 8 * get_or rest 1 0

  pub made_parts : (fields : List ℕ) (stated : ℕ) (rest : List ℕ) (item : ManagerRecord)
      → fields ≡ to_be_bytes w32 stated ++ rest → HasFields vid mode 1 fields item → MadeParts stated rest
  made_parts fields stated rest item e h =
      let P : List ℕ → Type 0 = MadeSays vid mode in
      let says = subst P e (made_has vid mode fields item h) in
      record { vid_is = says.vid_is; mode_is = says.mode_is; counts = omega (arith, says.whole, length-drop 2 rest) }
