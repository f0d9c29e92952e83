-- A try to make a unit's chunk, from call to call: what a crash leaves of the shelf at each moment.
use Rattle.std.proofs.Common.{◌≡◌, ◌≢◌, ◌∙◌, sym, refl, ap, subst, ℕ, Bool, true, false, List, [], Option, None, Some, IsSomeAnd, Result, Ok, Err, ◌⊎◌, inl, inr, eq-eqb}
use Rattle.std.specs.Prelude.{◌==◌, ◌&&◌, if◌then◌else◌, is_some}
use Rattle.std.proofs.lemmas.Bool.{eqb-true}
use Rattle.unit_id.specs.UnitName.{Name, packed}
use Rattle.disk_base.specs.Disk.{FileView, IsFile, IsWithin, AtEachMoment}
use Rattle.disk_base.specs.Moments.{weaker}
use Rattle.disk_base.specs.Places.{Place as Slot, Unknown, Absent, Away, Kept, Keeps}
use Rattle.disk_base.specs.Shelves.{ShelfView, AllStay, OthersStay, IsMade, MayBeMade, Opens, TakesBack}
use Rattle.disk_base.specs.JointMoments.{ShelfImage, Rack, leaves_by, LeavesAt, AtEachJointMoment, Starts, GoesOnAt, about_shelf, about_file}
use Rattle.disk_base.specs.declared.fault.ShelfFault.{ShelfFault}
use Rattle.disk_base.specs.declared.fault.ShelfFault.TheVariants as refused
use Rattle.shard_record.specs.declared.record.ShardRecord.{ShardRecord}
use Rattle.chunk_store.specs.Records.{IsChunkOf}
use Rattle.chunk_store.specs.Chunk.{ChunkOver, shown, StartsWith}
use Rattle.chunk_store.specs.declared.fault.ChunkFault.{ChunkFault}
use Rattle.blob_node.specs.NewChunk.{HasNoRecords, Lends, with_file, lent_file, IsTried}
use Rattle.blob_node.proofs.NewFiles.{empty_chunk}

-- ---- files under names

file_there : {F : Type 0} (name : ℕ) (file : Option F) (out : ℕ → Option F) → with_file name file out name ≡ file
file_there name file out = ap (λ (b : Bool). if b then file else out name) (eq-eqb name name refl)

file_elsewhere : {F : Type 0} (name : ℕ) (file : Option F) (out : ℕ → Option F) (n : ℕ) → n ≢ name → with_file name file out n ≡ out n
file_elsewhere {F} name file out n ne = go (n == name) refl where
  go : (b : Bool) → n == name ≡ b → (if n == name then file else out n) ≡ out n
  go true e = absurd (ne (eqb-true n name e))
  go false e = ap (λ (b : Bool). if b then file else out n) e

pub no_file : {F : Type 0} (name : ℕ) (out : ℕ → Option F) → out name ≡ None → with_file name None out ≡ out
no_file {F} name out none = λ i n. same n i where
  same : (n : ℕ) → with_file name None out n ≡ out n
  same n = go (n == name) refl where
    go : (b : Bool) → n == name ≡ b → (if n == name then None else out n) ≡ out n
    go true e = ap (λ (b : Bool). if b then None else out n) e ∙ sym (ap out (eqb-true n name e) ∙ none)
    go false e = ap (λ (b : Bool). if b then None else out n) e

pub all_but : {F : Type 0} (name : ℕ) (old new : ShelfView F) → AllStay old new → OthersStay name old new
all_but name old new stay = record { out = λ n ne. stay.out n; places = λ n ne. stay.places n; leaves = λ n x ne. stay.leaves n x }

module _ {H F : Type 0} (shelf_seen : H → ShelfView F) (seen : F → FileView) (unit : Name) (old : H) (out : ℕ → Option F) (none : out (packed unit) ≡ None) where
  abbrev name : ℕ
  name = packed unit

  abbrev first : Rack H F
  first = record { shelf = old; out = out }

  abbrev P : ShelfImage → Type 0
  P = IsTried shelf_seen seen unit first

  -- the shelf later, with the file of the unit or without it
  abbrev pub tried : H → Option F → Rack H F
  tried h file = record { shelf = h; out = with_file name file out }

  abbrev pub LeavesFit : Option (List ℕ) → Type 0
  LeavesFit x = (shelf_seen old).leaves name x ⊎ IsSomeAnd x (λ bytes. IsChunkOf bytes unit [])

  -- what a crash leaves under the name then fits
  abbrev pub Fits : H → Option F → Type 0
  Fits h file = (x : Option (List ℕ)) → leaves_by shelf_seen seen file h name x → LeavesFit x

  here_by : (x : Option (List ℕ)) → LeavesFit x → LeavesAt shelf_seen seen first name x ⊎ IsSomeAnd x (λ bytes. IsChunkOf bytes unit [])
  here_by x (inl left) = inl (subst (λ (o : Option F). leaves_by shelf_seen seen o old name x) (sym none) left)
  here_by x (inr is) = inr is

  -- a crash leaves nothing new under other names
  stay_back : (h : H) → OthersStay name (shelf_seen old) (shelf_seen h) → (n : ℕ) (x : Option (List ℕ)) (o : Option F) → n ≢ name → leaves_by shelf_seen seen o h n x → leaves_by shelf_seen seen o old n x
  stay_back h stay n x None ne left = stay.leaves n x ne left
  stay_back h stay n x (Some file) ne left = left

  others_back : (h : H) (file : Option F) → OthersStay name (shelf_seen old) (shelf_seen h) → (n : ℕ) (x : Option (List ℕ)) → n ≢ name → LeavesAt shelf_seen seen (tried h file) n x → LeavesAt shelf_seen seen first n x
  others_back h file stay n x ne left = stay_back h stay n x (out n) ne (subst (λ (o : Option F). leaves_by shelf_seen seen o h n x) (file_elsewhere name file out n ne) left)

  same_rest : (a b : Option F) (n : ℕ) → n ≢ name → with_file name b out n ≡ with_file name a out n
  same_rest a b n ne = file_elsewhere name b out n ne ∙ sym (file_elsewhere name a out n ne)

  -- ---- one call more

  abbrev pub Goes : H → Option F → Type 0
  Goes h file = AtEachJointMoment shelf_seen seen P first (tried h file)

  pub begins : Goes old None
  begins =
      subst (λ (o : ℕ → Option F). AtEachJointMoment shelf_seen seen P first (record { shelf = old; out = o })) (sym (no_file name out none))
      (Starts (λ c is. record { here = inl (is name); others = λ n ne. is n }))

  pub by_shelf : (h next : H) (a b : Option F) → (is_some a && is_some b) ≡ false → OthersStay name (shelf_seen old) (shelf_seen h) → OthersStay name (shelf_seen h) (shelf_seen next) → Fits h a → Fits next b → Goes h a → Goes next b
  by_shelf h next a b one before stay fits next_fits so_far =
      GoesOnAt (tried h a) (tried next b) name so_far
      (about_shelf shelf_seen seen P name (tried h a) (tried next b) (same_rest a b) a b (file_there name a out) (file_there name b out) one stay
      (λ c left now. record {
        here = here_by (c name) (elim left [ inl was ↦ fits (c name) was | inr is ↦ next_fits (c name) is ]);
        others = λ n ne. others_back h a before n (c n) ne (now n ne);
      }))

  abbrev pub StaysFit : F → F → Type 0
  StaysFit was file = AtEachMoment (seen was) (seen file) (λ bytes. LeavesFit (Some bytes))

  since_fits : (was file : F) → StaysFit was file → (x : Option (List ℕ)) → IsSomeAnd x ((seen file).images_since (seen was).clock) → LeavesFit x
  since_fits was file moments None left = absurd left
  since_fits was file moments (Some bytes) left = moments.each bytes left

  pub by_file : (h : H) (was file : F) → IsFile (seen file) → OthersStay name (shelf_seen old) (shelf_seen h) → StaysFit was file → Goes h (Some was) → Goes h (Some file)
  by_file h was file is before moments so_far =
      GoesOnAt (tried h (Some was)) (tried h (Some file)) name so_far
      (about_file shelf_seen seen P name (tried h (Some was)) (tried h (Some file)) (same_rest (Some was) (Some file)) was file (file_there name (Some was) out) (file_there name (Some file) out) refl is moments.never_falls
      (λ c left now. record {
        here = here_by (c name) (since_fits was file moments (c name) left);
        others = λ n ne. others_back h (Some was) before n (c n) ne (now n ne);
      }))

  -- ---- what fits

  keeps_itself : (slot : Slot F) → Keeps slot slot
  keeps_itself Unknown = tt
  keeps_itself Absent = refl
  keeps_itself Away = refl
  keeps_itself (Kept x) = refl

  same_others : OthersStay name (shelf_seen old) (shelf_seen old)
  same_others = record { out = λ m _. refl; places = λ m _. keeps_itself ((shelf_seen old).place m); leaves = λ m x _ left. left }

  fits_first : Fits old None
  fits_first = λ x left. inl left

  fits_file : (h : H) (file : F) → ((bytes : List ℕ) → (seen file).images bytes → LeavesFit (Some bytes)) → Fits h (Some file)
  fits_file h file is None left = absurd left
  fits_file h file is (Some bytes) left = is bytes left

  fits_now : (was file : F) → IsFile (seen file) → StaysFit was file → (x : Option (List ℕ)) → IsSomeAnd x (seen file).images → LeavesFit x
  fits_now was file is moments None left = absurd left
  fits_now was file is moments (Some bytes) left = moments.each bytes (is.present_counts (seen was).clock bytes moments.never_falls left)

  -- ---- a file is handed out, or isn't

  pub goes_made : (new : H) (file : F) → (shelf_seen old).is_told ≡ true → IsMade seen name (shelf_seen old) (shelf_seen new) file → Goes new (Some file)
  goes_made new file told made =
      by_shelf old new None (Some file) refl same_others made.lent.others fits_first
      (fits_file new file (λ bytes left. inr (subst (λ b. IsChunkOf b unit []) (sym (made.settled told bytes left)) (empty_chunk unit)))) begins

  pub goes_failed : (new : H) → (shelf_seen old).is_told ≡ true → MayBeMade seen name (shelf_seen old) (shelf_seen new) → Goes new None
  goes_failed new told may = by_shelf old new None None refl same_others may.others fits_first fits begins
    where
      empty_now : (x : Option (List ℕ)) → x ≡ Some [] → LeavesFit x
      empty_now x is = subst LeavesFit (sym is) (inr (empty_chunk unit))

      fits : Fits new None
      fits = λ x left. elim (may.leaves told x left) [ inl was ↦ inl was | inr is ↦ empty_now x is ]

  pub goes_same : (new : H) → AllStay (shelf_seen old) (shelf_seen new) → Goes new None
  goes_same new stay = by_shelf old new None None refl same_others (all_but name (shelf_seen old) (shelf_seen new) stay) fits_first (λ x left. inl (stay.leaves name x left)) begins

  not_opened : (mid new : H) → AllStay (shelf_seen old) (shelf_seen mid) → AllStay (shelf_seen mid) (shelf_seen new) → Goes new None
  not_opened mid new stay still =
      by_shelf mid new None None refl (all_but name (shelf_seen old) (shelf_seen mid) stay) (all_but name (shelf_seen mid) (shelf_seen new) still) (λ x left. inl (stay.leaves name x left))
      (λ x left. inl (stay.leaves name x (still.leaves name x left))) (goes_same mid stay)

  -- the file that an earlier try left
  pub goes_opened : (mid new : H) (result : Result F ShelfFault) → (shelf_seen mid).is_told ≡ true → AllStay (shelf_seen old) (shelf_seen mid) → Opens seen name (shelf_seen mid) (shelf_seen new) result → Goes new (lent_file result)
  goes_opened mid new (Ok file) told stay opened =
      by_shelf mid new None (Some file) refl (all_but name (shelf_seen old) (shelf_seen mid) stay) opened.lent.others (λ x left. inl (stay.leaves name x left))
      (fits_file new file (λ bytes left. inl (stay.leaves name (Some bytes) (opened.leaves told bytes left)))) (goes_same mid stay)
  goes_opened mid new (Err refused.Exists) told stay opened = absurd opened
  goes_opened mid new (Err refused.Absent) told stay opened = not_opened mid new stay opened
  goes_opened mid new (Err refused.Failed) told stay opened = not_opened mid new stay opened
  goes_opened mid new (Err refused.Memory) told stay opened = not_opened mid new stay opened

  -- ---- its chunk is started

  fits_started : (was now : ChunkOver F) (result : Result (Unit {0}) ChunkFault) → IsWithin (seen was.log.file).images (λ bytes. LeavesFit (Some bytes)) → now.unit ≡ unit → StartsWith [] (shown seen was) (shown seen now) result → StaysFit was.log.file now.log.file
  fits_started was now result within own starts =
      weaker (λ image. (seen was.log.file).images image ⊎ IsChunkOf image now.unit []) (λ bytes. LeavesFit (Some bytes)) (seen was.log.file) (seen now.log.file) starts.any_moment by
    where
      by : (c : List ℕ) → (seen was.log.file).images c ⊎ IsChunkOf c now.unit [] → LeavesFit (Some c)
      by c (inl left) = within c left
      by c (inr is) = inr (subst (λ (n : Name). IsChunkOf c n []) own is)

  module _ (mid : H) (was now : ChunkOver F) (is : IsFile (seen now.log.file)) (told : (shelf_seen old).is_told ≡ true) (empty : HasNoRecords seen unit ((shelf_seen old).place name)) (lends : Lends seen unit (shelf_seen old) (shelf_seen mid) (Ok was.log.file)) (own : now.unit ≡ unit) (result : Result (Unit {0}) ChunkFault)
      (starts : (items : List ShardRecord) → IsSomeAnd (seen was.log.file).content (λ bytes. IsChunkOf bytes unit items) → StartsWith items (shown seen was) (shown seen now) result) (so_far : Goes mid (Some was.log.file)) where
    stays_fit : StaysFit was.log.file now.log.file
    stays_fit = fits_started was now result (lends.3 told) own (starts [] (lends.2 told empty))

    pub goes_started : Goes mid (Some now.log.file)
    goes_started = by_file mid was.log.file now.log.file is lends.0.others stays_fit so_far

    -- it goes back to the shelf
    pub goes_back : (new : H) → TakesBack seen name now.log.file (shelf_seen mid) (shelf_seen new) → Goes new None
    goes_back new back =
        by_shelf mid new (Some now.log.file) None refl lends.0.others back.others (fits_now was.log.file now.log.file is stays_fit)
        (λ x left. fits_now was.log.file now.log.file is stays_fit x (back.leaves (lends.0.told ∙ told) x left)) goes_started
