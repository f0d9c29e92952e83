-- What a crash leaves of a shelf together with its files that are out, and how a claim on every moment goes on from call
-- to call. Files are handed out by value, so no clock of theirs orders the calls on two of them. Their owner orders them:
-- a call is about one name, and while it lasts all else stands still.
use Rattle.std.specs.Prelude.{◌≡◌, ◌≢◌, ◌⊎◌, ◌≤◌, ◌==◌, ℕ, if◌then◌else◌, List, [], Option, Some, None, is_some, ◌&&◌, false, IsSomeAnd}
use Rattle.std.proofs.Common.{inr, subst, sym}
use Rattle.disk_base.specs.Disk.{FileView, IsFile}
use Rattle.disk_base.specs.Shelves.{NameImages, ShelfView, OthersStay}

-- what a crash leaves of all names: each has no file, or one with some bytes
abbrev pub ShelfImage : Type 0
ShelfImage = ℕ → Option (List ℕ)

-- a shelf, and the files of it that are out, as their owner has them
pub record Rack (H F : Type 0) : Type 0 where
  pub shelf : H
  pub out : ℕ → Option F

module _ {H F : Type 0} (shelf_seen : H → ShelfView F) (seen : F → FileView) where
  -- what a crash now may leave under a name: of a file that is out what the file tells, otherwise what the shelf tells
  abbrev pub leaves_by : Option F → H → ℕ → NameImages
  leaves_by (Some file) shelf name x = IsSomeAnd x (seen file).images
  leaves_by None shelf name x = (shelf_seen shelf).leaves name x

  abbrev pub LeavesAt : Rack H F → ℕ → NameImages
  LeavesAt rack name = leaves_by (rack.out name) rack.shelf name

  -- What a crash inside calls about a name may leave under it: of a file that stays out what its clock tells, otherwise
  -- what one before or after may leave.
  abbrev pub during_by : Option F → Option F → H → H → ℕ → NameImages
  during_by (Some was) (Some file) old new name x = IsSomeAnd x ((seen file).images_since (seen was).clock)
  during_by was file old new name x = leaves_by was old name x ⊎ leaves_by file new name x

  abbrev pub LeavesDuring : Rack H F → Rack H F → ℕ → NameImages
  LeavesDuring old new name = during_by (old.out name) (new.out name) old.shelf new.shelf name

  -- a crash now leaves each name with one of its images
  abbrev pub IsJointImage : Rack H F → ShelfImage → Type 0
  IsJointImage rack c = (name : ℕ) → LeavesAt rack name (c name)

-- Calls about one name: the others stand still, and at each moment of the calls a crash leaves nothing but what has P.
pub record Steps {H F : Type 0} (shelf_seen : H → ShelfView F) (seen : F → FileView) (P : ShelfImage → Type 0) (name : ℕ) (old new : Rack H F) : Type 0 where
  pub others : (n : ℕ) (x : Option (List ℕ)) → n ≢ name → LeavesAt shelf_seen seen new n x → LeavesAt shelf_seen seen old n x
  pub ends : (x : Option (List ℕ)) → LeavesAt shelf_seen seen new name x → LeavesDuring shelf_seen seen old new name x
  pub each : (c : ShelfImage) → LeavesDuring shelf_seen seen old new name (c name) → ((n : ℕ) → n ≢ name → LeavesAt shelf_seen seen old n (c n)) → P c

-- At every moment from the old rack to the new one, both ends counted, a crash leaves nothing but what has P.
pub data AtEachJointMoment {H F : Type 0} (shelf_seen : H → ShelfView F) (seen : F → FileView) (P : ShelfImage → Type 0) (old : Rack H F) : Rack H F → Type 0 where
  Starts : ((c : ShelfImage) → IsJointImage shelf_seen seen old c → P c) → AtEachJointMoment shelf_seen seen P old old
  GoesOnAt : (mid new : Rack H F) (name : ℕ) → AtEachJointMoment shelf_seen seen P old mid → Steps shelf_seen seen P name mid new → AtEachJointMoment shelf_seen seen P old new

-- ---- how a claim goes on

module _ {H F : Type 0} (shelf_seen : H → ShelfView F) (seen : F → FileView) (P : ShelfImage → Type 0) where
  -- the present is one of those moments
  pub at_end : (old new : Rack H F) → AtEachJointMoment shelf_seen seen P old new → (c : ShelfImage) → IsJointImage shelf_seen seen new c → P c
  at_end old new (Starts now) c is = now c is
  at_end old new (GoesOnAt mid _ name so_far step) c is = step.each c (step.ends (c name) (is name)) (λ n ne. step.others n (c n) ne (is n))

  -- two stretches of time, one after the other
  pub joined : (old mid new : Rack H F) → AtEachJointMoment shelf_seen seen P old mid → AtEachJointMoment shelf_seen seen P mid new → AtEachJointMoment shelf_seen seen P old new
  joined old mid new first (Starts now) = first
  joined old mid new first (GoesOnAt last _ name second step) = GoesOnAt last new name (joined old mid last first second) step

  module _ (name : ℕ) (old new : Rack H F) (rest : (n : ℕ) → n ≢ name → new.out n ≡ old.out n) where
    shelf_stays : OthersStay name (shelf_seen old.shelf) (shelf_seen new.shelf) → (n : ℕ) (x : Option (List ℕ)) (o : Option F) → n ≢ name → leaves_by shelf_seen seen o new.shelf n x → leaves_by shelf_seen seen o old.shelf n x
    shelf_stays stay n x None ne left = stay.leaves n x ne left
    shelf_stays stay n x (Some file) ne left = left

    others_stay : OthersStay name (shelf_seen old.shelf) (shelf_seen new.shelf) → (n : ℕ) (x : Option (List ℕ)) → n ≢ name → LeavesAt shelf_seen seen new n x → LeavesAt shelf_seen seen old n x
    others_stay stay n x ne left = shelf_stays stay n x (old.out n) ne (subst (λ (o : Option F). leaves_by shelf_seen seen o new.shelf n x) (rest n ne) left)

    ends_by : (was file : Option F) (x : Option (List ℕ)) → (is_some was && is_some file) ≡ false → leaves_by shelf_seen seen file new.shelf name x → during_by shelf_seen seen was file old.shelf new.shelf name x
    ends_by None None x one left = inr left
    ends_by None (Some file) x one left = inr left
    ends_by (Some was) None x one left = inr left
    ends_by (Some was) (Some file) x one left = absurd (cc one)

    before_or_after : (was file : Option F) (x : Option (List ℕ)) → (is_some was && is_some file) ≡ false → during_by shelf_seen seen was file old.shelf new.shelf name x → leaves_by shelf_seen seen was old.shelf name x ⊎ leaves_by shelf_seen seen file new.shelf name x
    before_or_after None None x one left = left
    before_or_after None (Some file) x one left = left
    before_or_after (Some was) None x one left = left
    before_or_after (Some was) (Some file) x one left = absurd (cc one)

    -- a call on the shelf about a name: it hands out the file or takes it back, or the file is not out
    pub about_shelf : (was file : Option F) → old.out name ≡ was → new.out name ≡ file → (is_some was && is_some file) ≡ false → OthersStay name (shelf_seen old.shelf) (shelf_seen new.shelf)
        → ((c : ShelfImage) → leaves_by shelf_seen seen was old.shelf name (c name) ⊎ leaves_by shelf_seen seen file new.shelf name (c name) → ((n : ℕ) → n ≢ name → LeavesAt shelf_seen seen old n (c n)) → P c) → Steps shelf_seen seen P name old new
    about_shelf was file is_was is_file one stay each = record {
      others = others_stay stay;
      ends = λ x left. subst (λ (o : Option F). during_by shelf_seen seen o (new.out name) old.shelf new.shelf name x) (sym is_was)
          (subst (λ (o : Option F). during_by shelf_seen seen was o old.shelf new.shelf name x) (sym is_file) (ends_by was file x one (subst (λ (o : Option F). leaves_by shelf_seen seen o new.shelf name x) is_file left)));
      each = λ c left now. each c (before_or_after was file (c name) one
          (subst (λ (o : Option F). during_by shelf_seen seen was o old.shelf new.shelf name (c name)) is_file (subst (λ (o : Option F). during_by shelf_seen seen o (new.out name) old.shelf new.shelf name (c name)) is_was left))) now;
    }

    since_at : (was file : F) (x : Option (List ℕ)) → IsFile (seen file) → (seen was).clock ≤ (seen file).clock → IsSomeAnd x (seen file).images → IsSomeAnd x ((seen file).images_since (seen was).clock)
    since_at was file None is le left = left
    since_at was file (Some bytes) is le left = is.present_counts (seen was).clock bytes le left

    -- calls on a file that is out and stays out
    pub about_file : (was file : F) → old.out name ≡ Some was → new.out name ≡ Some file → new.shelf ≡ old.shelf → IsFile (seen file) → (seen was).clock ≤ (seen file).clock
        → ((c : ShelfImage) → IsSomeAnd (c name) ((seen file).images_since (seen was).clock) → ((n : ℕ) → n ≢ name → LeavesAt shelf_seen seen old n (c n)) → P c) → Steps shelf_seen seen P name old new
    about_file was file is_was is_now same is le each = record {
      others = λ n x ne left. subst (λ (h : H). leaves_by shelf_seen seen (old.out n) h n x) same (subst (λ (o : Option F). leaves_by shelf_seen seen o new.shelf n x) (rest n ne) left);
      ends = λ x left. subst (λ (o : Option F). during_by shelf_seen seen o (new.out name) old.shelf new.shelf name x) (sym is_was)
          (subst (λ (o : Option F). during_by shelf_seen seen (Some was) o old.shelf new.shelf name x) (sym is_now) (since_at was file x is le (subst (λ (o : Option F). leaves_by shelf_seen seen o new.shelf name x) is_now left)));
      each = λ c left now. each c
          (subst (λ (o : Option F). during_by shelf_seen seen (Some was) o old.shelf new.shelf name (c name)) is_now (subst (λ (o : Option F). during_by shelf_seen seen o (new.out name) old.shelf new.shelf name (c name)) is_was left)) now;
    }

-- the racks of an owner with one file out, or two
abbrev pub with_one : {H F : Type 0} → H → ℕ → F → Rack H F
with_one shelf name file = record { shelf = shelf; out = λ n. if n == name then Some file else None }

abbrev pub with_two : {H F : Type 0} → H → ℕ → F → ℕ → F → Rack H F
with_two shelf name file other second = record { shelf = shelf; out = λ n. if n == name then Some file else (if n == other then Some second else None) }

-- one file has bytes only once the other is whole
abbrev pub IsOnceWhole : ℕ → ℕ → List ℕ → ShelfImage → Type 0
IsOnceWhole mark name whole c = IsSomeAnd (c mark) (λ bytes. bytes ≢ []) → c name ≡ Some whole
