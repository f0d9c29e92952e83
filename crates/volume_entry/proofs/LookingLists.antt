-- What a look shows, one unit at a time, and of which manager's part.
use Rattle.std.proofs.Common.{◌≡◌, ◌∙◌, sym, ap, refl, ℕ, suc, ◌+◌, ◌<◌, ◌≤◌, Bool, List, [], ◌∷◌, ◌++◌, length, take, get_or, arith, None, Ok, Err}
use Rattle.std.specs.Prelude.{IsSome}
use Rattle.std.proofs.lemmas.List.{take_more, length-take-le}
use Rattle.disk_base.specs.Disk.{FileView}
use Rattle.unit_id.specs.Place.{Location}
use Rattle.unit_id.specs.declared.homes.Home.{Home}
use Rattle.unit_id.specs.declared.moves.Move.{Move}
use Rattle.volume_entry.specs.Manager.{Transfer}
use Rattle.volume_entry.specs.View.{homes_shown, moves_shown}
use Rattle.volume_entry.specs.ShownView.{view_shown}
use Rattle.volume_entry.specs.Entry.{EntryOver, Looks, is_broken}
use Rattle.volume_entry.specs.declared.view.View.{View}
use Rattle.volume_entry.specs.declared.fault.EntryFault.TheVariants as faults
use Rattle.volume_entry.proofs.EntrySteps.{is_open, is_closed}

-- ---- homes

module _ (vid : ℕ) (broken : ℕ → Bool) where
  shown-push : (i : ℕ) (xs : List Location) (x : Location) → homes_shown vid i broken (xs ++ x ∷ []) ≡ homes_shown vid i broken xs ++ homes_shown vid (i + length xs) broken (x ∷ [])
  shown-push i [] x = let e : i + 0 ≡ i = omega arith in rw e refl
  shown-push i (y ∷ ys) x =
      let e : i + length (y ∷ ys) ≡ suc i + length ys = omega arith in
      rw e (ap (λ hs. record { unit = record { vid = vid; index = i; epoch = y.epoch }; disk = y.disk; broken = broken y.disk } ∷ hs) (shown-push (suc i) ys x))

  pub length-shown : (i : ℕ) (xs : List Location) → length (homes_shown vid i broken xs) ≡ length xs
  length-shown i [] = refl
  length-shown i (x ∷ xs) = ap suc (length-shown (suc i) xs)

  module _ (homes : List Location) (k : ℕ) (below : k < length homes) (shown : List Home) (so_far : shown ≡ homes_shown vid 0 broken (take k homes)) where
    -- a place is left for one home more
    pub home_fits : length homes ≤ 27 → length shown < 27
    home_fits few =
        let n : length shown ≡ length (take k homes) = ap length so_far ∙ length-shown 0 (take k homes) in
        let m : length (take k homes) ≡ k = length-take-le k homes (omega (arith, below)) in
        omega (arith, n, m, below, few)

    pub home_more : (x : Location) (home : Home) (new : List Home) → x ≡ get_or homes k x → home ∷ [] ≡ homes_shown vid k broken (x ∷ []) → new ≡ shown ++ home ∷ [] → new ≡ homes_shown vid 0 broken (take (k + 1) homes)
    home_more x home new at is pushed =
        let m : length (take k homes) ≡ k = length-take-le k homes (omega (arith, below)) in
        let place : k ≡ 0 + length (take k homes) = omega (arith, m) in
        pushed ∙ ap (λ hs. hs ++ home ∷ []) so_far ∙ ap (λ hs. homes_shown vid 0 broken (take k homes) ++ hs) (is ∙ ap (λ i. homes_shown vid i broken (x ∷ [])) place)
        ∙ sym (shown-push 0 (take k homes) x) ∙ ap (λ (y : Location). homes_shown vid 0 broken (take k homes ++ y ∷ [])) at ∙ sym (ap (homes_shown vid 0 broken) (take_more homes k x below))

-- ---- moves

module _ (vid : ℕ) (broken : ℕ → Bool) (swapped : Bool) where
  moves-push : (xs : List Transfer) (x : Transfer) → moves_shown vid broken swapped (xs ++ x ∷ []) ≡ moves_shown vid broken swapped xs ++ moves_shown vid broken swapped (x ∷ [])
  moves-push [] x = refl
  moves-push (y ∷ ys) x = ap (λ ms. moves_shown vid broken swapped (y ∷ []) ++ ms) (moves-push ys x)

  pub length-moves : (xs : List Transfer) → length (moves_shown vid broken swapped xs) ≡ length xs
  length-moves [] = refl
  length-moves (x ∷ xs) = ap suc (length-moves xs)

  module _ (transfers : List Transfer) (k : ℕ) (below : k < length transfers) (shown : List Move) (so_far : shown ≡ moves_shown vid broken swapped (take k transfers)) where
    -- a place is left for one move more
    pub move_fits : length transfers ≤ 9 → length shown < 9
    move_fits few =
        let n : length shown ≡ length (take k transfers) = ap length so_far ∙ length-moves (take k transfers) in
        let m : length (take k transfers) ≡ k = length-take-le k transfers (omega (arith, below)) in
        omega (arith, n, m, below, few)

    pub move_more : (x : Transfer) (item : Move) (new : List Move) → x ≡ get_or transfers k x → item ∷ [] ≡ moves_shown vid broken swapped (x ∷ []) → new ≡ shown ++ item ∷ [] → new ≡ moves_shown vid broken swapped (take (k + 1) transfers)
    move_more x item new at is pushed =
        pushed ∙ ap (λ ms. ms ++ item ∷ []) so_far ∙ ap (λ ms. moves_shown vid broken swapped (take k transfers) ++ ms) is
        ∙ sym (moves-push (take k transfers) x) ∙ ap (λ (y : Transfer). moves_shown vid broken swapped (take k transfers ++ y ∷ [])) at ∙ sym (ap (moves_shown vid broken swapped) (take_more transfers k x below))

-- ---- looks

module _ {E : Type 0} (seen : E → FileView) (time : ℕ) (entry : EntryOver E) where
  pub looks : (view : View) → IsSome entry.book.log.end → view ≡ view_shown entry.book.vid (is_broken entry.broken) time entry.book.part → Looks seen time entry (Ok view)
  looks view some is = (some, is, (λ m s. (is_open seen entry m s some, is ∙ ap (view_shown entry.book.vid (is_broken entry.broken) time) s.book.same)))

  pub shut_looks : entry.book.log.end ≡ None → Looks seen time entry (Err faults.Shut)
  shut_looks none = (none, (λ m s. is_closed seen entry m s none))
