-- The moments of a switch: the fresh file is made, filled and held before the mark is set.
use Rattle.std.proofs.Common.{◌≡◌, ◌≢◌, ◌≤◌, ◌==◌, if◌then◌else◌, ℕ, Bool, false, List, [], Option, Some, None, IsSomeAnd, Err, eq-eqb, refl, sym, ap, subst, ◌∙◌, arith}
use Rattle.std.proofs.lemmas.Bool.Decides.{nat_tests}
use Rattle.disk_base.specs.Disk.{FileView, IsFile, LeavesExactly}
use Rattle.disk_base.specs.Shelves.{ShelfView, AllStay, OthersStay, Makes}
use Rattle.disk_base.specs.JointMoments.{ShelfImage, Rack, leaves_by, LeavesAt, Steps, AtEachJointMoment, Starts, GoesOnAt, about_shelf, about_file, with_one, with_two, IsOnceWhole}
use Rattle.disk_base.specs.declared.fault.ShelfFault.{ShelfFault}
use Rattle.disk_base.specs.declared.fault.ShelfFault.TheVariants.{Exists, Absent, Failed, Memory}

all_but : {F : Type 0} (name : ℕ) (old new : ShelfView F) → AllStay old new → OthersStay name old new
all_but name old new stay = record { out = λ n ne. stay.out n; places = λ n ne. stay.places n; leaves = λ n x ne. stay.leaves n x }

pub refused_make : {F : Type 0} (seen : F → FileView) (name : ℕ) (old new : ShelfView F) (fault : ShelfFault) → Makes seen name old new (Err fault) → OthersStay name old new
refused_make seen name old new Exists is = all_but name old new is.stay
refused_make seen name old new Absent is = absurd is
refused_make seen name old new Failed is = is.others
refused_make seen name old new Memory is = all_but name old new is

other : (m n : ℕ) → m ≢ n → (m == n) ≡ false
other m n ne = grind (arith, nat_tests)

module _ {H F : Type 0} (shelf_seen : H → ShelfView F) (seen : F → FileView) (mark name : ℕ) (whole : List ℕ) (apart : mark ≢ name) where
  back : name ≢ mark
  back same = apart (sym same)

  abbrev P : ShelfImage → Type 0
  P = IsOnceWhole mark name whole

  one_here : (h : H) (g : F) → (with_one h mark g).out mark ≡ Some g
  one_here h g = ap (λ (b : Bool). if b then Some g else None) (eq-eqb mark mark refl)

  one_name : (h : H) (g : F) → (with_one h mark g).out name ≡ None
  one_name h g = ap (λ (b : Bool). if b then Some g else None) (other name mark back)

  two_here : (h : H) (f g : F) → (with_two h name f mark g).out name ≡ Some f
  two_here h f g = ap (λ (b : Bool). if b then Some f else (with_one h mark g).out name) (eq-eqb name name refl)

  two_rest : (h : H) (f g : F) (n : ℕ) → n ≢ name → (with_two h name f mark g).out n ≡ (with_one h mark g).out n
  two_rest h f g n ne = ap (λ (b : Bool). if b then Some f else (with_one h mark g).out n) (other n name ne)

  two_mark : (h : H) (f g : F) → (with_two h name f mark g).out mark ≡ Some g
  two_mark h f g = two_rest h f g mark apart ∙ one_here h g

  vacuous : (x : Option (List ℕ)) (g : F) (Q : Type 0) → LeavesExactly [] (seen g).images → IsSomeAnd x (seen g).images → IsSomeAnd x (λ bytes. bytes ≢ []) → Q
  vacuous None g Q settled left some = absurd left
  vacuous (Some bytes) g Q settled left some = absurd (some (settled bytes left))

  -- while the mark's file is out and empty, there is no mark
  no_mark : (rack : Rack H F) (g : F) → rack.out mark ≡ Some g → LeavesExactly [] (seen g).images → (c : ShelfImage) → LeavesAt shelf_seen seen rack mark (c mark) → P c
  no_mark rack g is settled c left = vacuous (c mark) g (c name ≡ Some whole) settled (subst (λ (o : Option F). leaves_by shelf_seen seen o rack.shelf mark (c mark)) is left)

  start : (h : H) (g : F) → LeavesExactly [] (seen g).images → AtEachJointMoment shelf_seen seen P (with_one h mark g) (with_one h mark g)
  start h g settled = Starts (λ c is. no_mark (with_one h mark g) g (one_here h g) settled c (is mark))

  module _ (g : F) (settled : LeavesExactly [] (seen g).images) (h0 h1 : H) (made : OthersStay name (shelf_seen h0) (shelf_seen h1)) where
    -- no file was made
    pub refused : AtEachJointMoment shelf_seen seen P (with_one h0 mark g) (with_one h1 mark g)
    refused = GoesOnAt (with_one h0 mark g) (with_one h1 mark g) name (start h0 g settled)
        (about_shelf shelf_seen seen P name (with_one h0 mark g) (with_one h1 mark g) (λ n ne. refl) None None (one_name h0 g) (one_name h1 g) refl made
        (λ c left now. no_mark (with_one h0 mark g) g (one_here h0 g) settled c (now mark apart)))

    -- a file was made, written and taken back
    pub held : (h2 : H) (f0 f1 : F) → IsFile (seen f1) → (seen f0).clock ≤ (seen f1).clock → OthersStay name (shelf_seen h1) (shelf_seen h2) → AtEachJointMoment shelf_seen seen P (with_one h0 mark g) (with_one h2 mark g)
    held h2 f0 f1 is le kept =
        let first = with_two h1 name f0 mark g in
        let filled = with_two h1 name f1 mark g in
        GoesOnAt filled (with_one h2 mark g) name
        (GoesOnAt first filled name
        (GoesOnAt (with_one h0 mark g) first name (start h0 g settled)
        (about_shelf shelf_seen seen P name (with_one h0 mark g) first (two_rest h1 f0 g) None (Some f0) (one_name h0 g) (two_here h1 f0 g) refl made
        (λ c left now. no_mark (with_one h0 mark g) g (one_here h0 g) settled c (now mark apart))))
        (about_file shelf_seen seen P name first filled (λ n ne. two_rest h1 f1 g n ne ∙ sym (two_rest h1 f0 g n ne)) f0 f1 (two_here h1 f0 g) (two_here h1 f1 g) refl is le
        (λ c left now. no_mark first g (two_mark h1 f0 g) settled c (now mark apart))))
        (about_shelf shelf_seen seen P name filled (with_one h2 mark g) (λ n ne. sym (two_rest h1 f1 g n ne)) (Some f1) None (two_here h1 f1 g) (one_name h2 g) refl kept
        (λ c left now. no_mark filled g (two_mark h1 f1 g) settled c (now mark apart)))

  -- the mark is set where a crash leaves the other file whole
  pub marked : (h : H) (g g' : F) → IsFile (seen g') → (seen g).clock ≤ (seen g').clock → ((x : Option (List ℕ)) → (shelf_seen h).leaves name x → x ≡ Some whole) → Steps shelf_seen seen P mark (with_one h mark g) (with_one h mark g')
  marked h g g' is le leaves = about_file shelf_seen seen P mark (with_one h mark g) (with_one h mark g') rest g g' (one_here h g) (one_here h g') refl is le
      (λ c left now some. leaves (c name) (subst (λ (o : Option F). leaves_by shelf_seen seen o h name (c name)) (one_name h g) (now name back)))
    where
      rest : (n : ℕ) → n ≢ mark → (with_one h mark g').out n ≡ (with_one h mark g).out n
      rest n ne = ap (λ (b : Bool). if b then Some g' else None) (other n mark ne) ∙ sym (ap (λ (b : Bool). if b then Some g else None) (other n mark ne))

-- what a crash leaves of a file that was taken back whole
pub left_whole : {F : Type 0} (seen : F → FileView) (file : F) (whole : List ℕ) → LeavesExactly whole (seen file).images → (x : Option (List ℕ)) → IsSomeAnd x (seen file).images → x ≡ Some whole
left_whole seen file whole exact None left = absurd left
left_whole seen file whole exact (Some bytes) left = ap Some (exact bytes left)
