-- A create: what the station stands for then.
use Rattle.std.proofs.Common.{◌≡◌, ◌∙◌, sym, ap, refl, subst, ℕ, Bool, true, false, cond, [], ◌∷◌, ◌++◌, Option, None, Some, nat_eq, Result, Ok, Err, ◌⊎◌, inl, inr}
use Rattle.std.specs.Prelude.{is_some, option_map, IsErr, ◌==◌, if◌then◌else◌}
use Rattle.std.proofs.lemmas.Bool.{eqb-true}
use Rattle.unit_id.specs.UnitName.{Name, IsName, packed}
use Rattle.unit_id.specs.Place.{Place}
use Rattle.unit_id.specs.Messages.{place_at}
use Rattle.unit_id.specs.declared.request.Request.TheVariants as requests
use Rattle.unit_id.proofs.Bools.{equal_test}
use Rattle.unit_id.specs.declared.answer.Answer as answered
use Rattle.unit_id.specs.declared.answer.Answer.TheVariants as answers
use Rattle.disk_base.specs.Disk.{FileView}
use Rattle.disk_base.specs.Shelves.{ShelfView}
use Rattle.disk_base.specs.JointMoments.{AtEachJointMoment}
use Rattle.disk_base.specs.declared.fault.NoMemory.{NoMemory}
use Rattle.chunk_store.specs.Chunk.{ChunkOver}
use Rattle.chunk_store.specs.declared.fault.ChunkFault.{ChunkFault}
use Rattle.chunk_store.specs.declared.fault.ChunkFault.TheVariants as faults
use Rattle.blob_node.specs.Units.{Units, with_at, with_unit}
use Rattle.blob_node.specs.Holding.{Written, nothing_written}
use Rattle.blob_node.specs.HeldUnit.{UnitOver, Held, IsFresh, Refused}
use Rattle.blob_node.specs.UnitTable.{Entries, TableOver, at_word, unit_at}
use Rattle.blob_node.specs.NewChunk.{HasNoRecords, StartsNew, IsTried, TriesThrough, with_file}
use Rattle.blob_node.specs.Station.{StationOver, name_at, AreOut, StandsAt, Stands, rack_of, LeavesInCall, CrashLeaves, IsClear, file_faults, CreatesBy, Created}
use Rattle.blob_node.proofs.Lookups.{there_now}
use Rattle.blob_node.proofs.Holdings.{never_both}
use Rattle.blob_node.proofs.Tables.{none_of, one_of, at_snoc, eq_self, eq_apart, eq_gives}
use Rattle.blob_node.proofs.Standing.{same_as_is, unit_elsewhere, stands_one, with_same}
use Rattle.blob_node.proofs.Serving.{station_of, held_at, none_at}
use Rattle.blob_node.proofs.Tries.{no_file as no_file_more}
use Rattle.blob_node.proofs.Clearing.{clear_same, clear_but, left_clear}
use Rattle.blob_node.proofs.Crashes.{crash_same, crash_tried}

name_here : (vid : ℕ) (unit : Name) (disk : ℕ) → unit.vid ≡ vid → name_at vid (place_at unit disk) ≡ unit
name_here vid unit disk own = λ i. record { vid = sym own i; index = unit.index; epoch = unit.epoch }

module _ {H F : Type 0} (shelf_seen : H → ShelfView F) (seen : F → FileView) (shelf : H) (disk : ℕ) (is_broken : Bool) (old : TableOver F) (unit : Name) (name : IsName unit) (own : unit.vid ≡ old.vid) where
  abbrev before : StationOver H F
  before = station_of shelf disk is_broken old

  abbrev place : Place
  place = place_at unit disk

  named_is : name_at old.vid place ≡ unit
  named_is = name_here old.vid unit disk own

  place_name : IsName (name_at old.vid place)
  place_name = subst IsName (sym named_is) name

  same_faults : (units : Entries F) → units ≡ old.units → file_faults shelf_seen seen units ≡ file_faults shelf_seen seen old.units
  same_faults units e = ap (file_faults shelf_seen seen) e

  -- the unit is there already
  pub already : is_some (unit_at old.units unit) ≡ true → Created shelf_seen seen unit (Ok answers.Already) before before
  already some = λ written units stands.
      let u = one_of (unit_at old.units unit) some in
      (((held_at shelf_seen seen before written units stands place u.0 refl place_name (ap (unit_at old.units) named_is ∙ u.1)).made, stands), crash_same shelf_seen seen written units before stands (requests.Create unit disk) None, λ clear. clear)

  -- the same units over the same shelf
  pub same_station : (new : TableOver F) → new.vid ≡ old.vid → new.units ≡ old.units → (written : Place → Written) (units : Units) → Stands shelf_seen seen before written units → Stands shelf_seen seen (station_of shelf disk is_broken new) written units
  same_station new vid same written units stands = subst (λ (t : ℕ × Entries F). Stands shelf_seen seen (record { shelf = shelf; vid = t.0; disk = disk; is_broken = is_broken; units = t.1 }) written units) (λ i. (sym vid i, sym same i)) stands

  -- there was no room for another unit
  pub no_room : (new : TableOver F) → new.vid ≡ old.vid → new.units ≡ old.units → (result : Result answered.Answer NoMemory) → IsErr result → Created shelf_seen seen unit result before (station_of shelf disk is_broken new)
  no_room new vid same (Ok answer) is = absurd (not_err answer is)
    where
      not_err : (a : answered.Answer) → IsErr {T = answered.Answer} {E = NoMemory} (Ok a) → ⊥
      not_err a h = cc
  no_room new vid same (Err why) is = λ written units stands. (
    same_station new vid same written units stands,
    subst (λ (es : Entries F). CrashLeaves shelf_seen seen before (record { shelf = shelf; vid = new.vid; disk = disk; is_broken = is_broken; units = es }) (LeavesInCall shelf_seen seen (requests.Create unit disk) written units None before)) (sym same)
        (crash_same shelf_seen seen written units before stands (requests.Create unit disk) None),
    clear_same shelf_seen seen before (station_of shelf disk is_broken new) vid refl (λ word. ap (λ (es : Entries F). is_some (at_word word es)) same),
  )

  module _ (none : is_some (unit_at old.units unit) ≡ false) where
    absent : unit_at old.units unit ≡ None
    absent = none_of (unit_at old.units unit) none

    not_made : (written : Place → Written) (units : Units) → Stands shelf_seen seen before written units → units.is_made place ≡ false
    not_made written units stands = none_at shelf_seen seen before written units stands place refl place_name (ap (unit_at old.units) named_is ∙ absent)

    no_file : (written : Place → Written) (units : Units) → Stands shelf_seen seen before written units → HasNoRecords seen unit ((shelf_seen shelf).place (packed unit))
    no_file written units stands =
        subst (λ (n : Name). HasNoRecords seen n ((shelf_seen shelf).place (packed n))) named_is
        (subst (StandsAt shelf_seen seen before written units place) (ap (unit_at old.units) named_is ∙ absent) (stands.each place refl place_name)).1

    abbrev files : Entries F → ℕ → Option F
    files units = λ word. option_map (λ (u : UnitOver F). u.chunk.log.file) (at_word word units)

    no_file_out : files old.units (packed unit) ≡ None
    no_file_out = ap (option_map (λ (u : UnitOver F). u.chunk.log.file)) absent

    -- what a crash left at each moment of the try
    tried : (new_shelf : H) (new : TableOver F) (file : Option F) → TriesThrough shelf_seen seen unit shelf new_shelf file → files new.units ≡ with_file (packed unit) file (files old.units) → (written : Place → Written) (units : Units) → Stands shelf_seen seen before written units
        → CrashLeaves shelf_seen seen before (station_of new_shelf disk is_broken new) (LeavesInCall shelf_seen seen (requests.Create unit disk) written units None before)
    tried new_shelf new file tries same written units stands =
        crash_tried shelf_seen seen before (station_of new_shelf disk is_broken new) unit name own absent written units stands
        (subst (λ (o : ℕ → Option F). AtEachJointMoment shelf_seen seen (IsTried shelf_seen seen unit (rack_of before)) (rack_of before) (record { shelf = new_shelf; out = o })) (sym same)
        (tries (files old.units) no_file_out stands.told (no_file written units stands)))

    -- ---- it is made

    module _ (new_shelf : H) (new : TableOver F) (chunk : ChunkOver F) (held : UnitOver F) (starts : StartsNew seen unit (shelf_seen shelf) (shelf_seen new_shelf) (Ok chunk)) (vid : new.vid ≡ old.vid) (held_is : held ≡ record { chunk = chunk; doubt = None; was_released = false })
        (units_are : new.units ≡ old.units ++ (packed unit, held) ∷ []) (fresh : IsFresh seen chunk → (units : Units) (place : Place) → Held seen held nothing_written (with_unit place units) place) where
      abbrev after : StationOver H F
      after = station_of new_shelf disk is_broken new

      found : (word : ℕ) → at_word word new.units ≡ cond (nat_eq (packed unit) word) (Some held) (at_word word old.units)
      found word = ap (at_word word) units_are ∙ at_snoc old.units (packed unit) held word absent

      here : unit_at new.units unit ≡ Some held
      here = found (packed unit) ∙ ap (λ b. cond b (Some held) (unit_at old.units unit)) (eq_self (packed unit))

      new_named : name_at new.vid place ≡ unit
      new_named = name_here new.vid unit disk (own ∙ sym vid)

      files_now : files new.units ≡ with_file (packed unit) (Some chunk.log.file) (files old.units)
      files_now = λ i word. by word (word == packed unit) refl i
        where
          by : (word : ℕ) (b : Bool) → word == packed unit ≡ b → files new.units word ≡ with_file (packed unit) (Some chunk.log.file) (files old.units) word
          by word true e =
              ap (files new.units) (eqb-true word (packed unit) e) ∙ ap (option_map (λ (u : UnitOver F). u.chunk.log.file)) here ∙ ap (λ (u : UnitOver F). Some u.chunk.log.file) held_is
              ∙ sym (ap (λ (b : Bool). if b then Some chunk.log.file else files old.units word) e)
          by word false e =
              ap (option_map (λ (u : UnitOver F). u.chunk.log.file)) (found word ∙ ap (λ b. cond b (Some held) (at_word word old.units)) (eq_apart (packed unit) word (λ same. never_both (word == packed unit) e (equal_test word (packed unit) (sym same)))))
              ∙ sym (ap (λ (b : Bool). if b then Some chunk.log.file else files old.units word) e)

      clear_made : IsClear shelf_seen seen before → IsClear shelf_seen seen after
      clear_made =
          clear_but shelf_seen seen before after vid unit name starts.1.others (λ word some. ap is_some (found word) ∙ still word (nat_eq (packed unit) word) some)
          (λ none_ image left. absurd (never_both (is_some (unit_at new.units unit)) (ap is_some none_) (ap is_some here)))
        where
          still : (word : ℕ) (b : Bool) → is_some (at_word word old.units) ≡ true → is_some (cond b (Some held) (at_word word old.units)) ≡ true
          still word true some = refl
          still word false some = some

      pub made : TriesThrough shelf_seen seen unit shelf new_shelf (Some chunk.log.file) → Created shelf_seen seen unit (Ok answers.Done) before after
      made tries = λ written units stands. (
        (
          not_made written units stands,
          stands_one shelf_seen seen before after written units (with_unit place units) stands vid refl starts.1.told place refl (subst IsName (sym new_named) name) nothing_written
              (λ q ne. unit_elsewhere place q ne units)
              (λ word ne. found word ∙ ap (λ b. cond b (Some held) (at_word word old.units)) (eq_apart (packed unit) word (λ e. ne (sym e ∙ ap packed (sym new_named)))))
              (λ word ne. starts.1.others.places word (λ e. ne (e ∙ ap packed (sym new_named))))
              (λ none_. absurd (never_both (with_at place true units.is_made place) none_ (there_now place true units.is_made)))
              (subst (StandsAt shelf_seen seen after (with_at place nothing_written written) (with_unit place units) place) (sym (ap (unit_at new.units) new_named ∙ here))
              (subst (λ (w : Written). Held seen held w (with_unit place units) place) (sym (there_now place nothing_written written))
              (fresh (starts.3 stands.told (no_file written units stands)) units place))),
        ),
        tried new_shelf new (Some chunk.log.file) tries files_now written units stands,
        clear_made,
      )

      pub made_out : AreOut (shelf_seen shelf) old.units → AreOut (shelf_seen new_shelf) new.units
      made_out out = λ word. by word (nat_eq (packed unit) word) refl ∙ sym (ap is_some (found word)) where
        by : (word : ℕ) (b : Bool) → nat_eq (packed unit) word ≡ b → (shelf_seen new_shelf).is_out word ≡ is_some (cond (nat_eq (packed unit) word) (Some held) (at_word word old.units))
        by word true e = ap (shelf_seen new_shelf).is_out (sym (eq_gives (packed unit) word e)) ∙ starts.1.out ∙ sym (ap (λ b. is_some (cond b (Some held) (at_word word old.units))) e)
        by word false e =
            starts.1.others.out word (λ same. never_both (nat_eq (packed unit) word) e (ap (nat_eq (packed unit)) same ∙ eq_self (packed unit))) ∙ out word
            ∙ sym (ap (λ b. is_some (cond b (Some held) (at_word word old.units))) e)

    -- ---- it is not

    module _ (new_shelf : H) (new : TableOver F) (fault : ChunkFault) (result : Result answered.Answer NoMemory) (starts : StartsNew seen unit (shelf_seen shelf) (shelf_seen new_shelf) (Err fault)) (vid : new.vid ≡ old.vid) (same : new.units ≡ old.units) (refused : Refused fault result) where
      abbrev left : StationOver H F
      left = station_of new_shelf disk is_broken new

      left_named : name_at new.vid place ≡ unit
      left_named = name_here new.vid unit disk (own ∙ sym vid)

      still : (written : Place → Written) (units : Units) → Stands shelf_seen seen before written units → Stands shelf_seen seen left written units
      still written units stands =
          subst (λ w. Stands shelf_seen seen left w units) (with_same place written)
          (stands_one shelf_seen seen before left written units units stands vid refl starts.1.told place refl (subst IsName (sym left_named) name) (written place)
          (λ q ne. same_as_is units q)
          (λ word ne. ap (at_word word) same)
          (λ word ne. starts.1.others.places word (λ e. ne (e ∙ ap packed (sym left_named))))
          (λ none_. stands.bare place refl none_)
          (subst (StandsAt shelf_seen seen left (with_at place (written place) written) units place) (sym (ap (unit_at new.units) left_named ∙ ap (λ (es : Entries F). unit_at es unit) same ∙ absent))
          (not_made written units stands, subst (λ (n : Name). HasNoRecords seen n ((shelf_seen new_shelf).place (packed n))) (sym left_named) (starts.1.empty stands.told (no_file written units stands)))))

      by_fault : (f : ChunkFault) (r : Result answered.Answer NoMemory) (written : Place → Written) (units : Units) → (f ≡ faults.Fault) ⊎ (f ≡ faults.Memory) → Refused f r → Stands shelf_seen seen before written units → CreatesBy shelf_seen seen place written units r left
      by_fault f r written units (inl e) refused_ stands =
          subst (λ x. CreatesBy shelf_seen seen place written units x left) (sym (subst (λ g. Refused g r) e refused_)) (not_made written units stands, still written units stands)
      by_fault f (Err x) written units (inr e) refused_ stands = still written units stands
      by_fault f (Ok x) written units (inr e) refused_ stands = absurd (not_err (subst (λ g. Refused g (Ok x)) e refused_))
        where
          not_err : IsErr {T = answered.Answer} {E = NoMemory} (Ok x) → ⊥
          not_err h = cc

      files_left : files new.units ≡ with_file (packed unit) None (files old.units)
      files_left = ap files same ∙ sym (no_file_more (packed unit) (files old.units) no_file_out)

      pub not_created : TriesThrough shelf_seen seen unit shelf new_shelf None → Created shelf_seen seen unit result before left
      not_created tries = λ written units stands. (
        by_fault fault result written units (starts.3 stands.told (no_file written units stands)) refused stands,
        tried new_shelf new None tries files_left written units stands,
        λ clear. clear_but shelf_seen seen before left vid unit name starts.1.others (λ word some. ap (λ (es : Entries F). is_some (at_word word es)) same ∙ some)
            (λ none_ image is. left_clear shelf_seen seen before unit name own absent clear (shelf_seen new_shelf) image (starts.1.left stands.told (no_file written units stands) image is)) clear,
      )

      pub left_out : AreOut (shelf_seen shelf) old.units → AreOut (shelf_seen new_shelf) new.units
      left_out out = λ word. by (nat_eq (packed unit) word) word refl ∙ ap (λ (es : Entries F). is_some (at_word word es)) (sym same) where
        by : (b : Bool) (word : ℕ) → nat_eq (packed unit) word ≡ b → (shelf_seen new_shelf).is_out word ≡ is_some (at_word word old.units)
        by true word e = ap (shelf_seen new_shelf).is_out (sym (eq_gives (packed unit) word e)) ∙ starts.1.out ∙ sym (ap (λ w. is_some (at_word w old.units)) (sym (eq_gives (packed unit) word e)) ∙ none)
        by false word e = starts.1.others.out word (λ same_. never_both (nat_eq (packed unit) word) e (ap (nat_eq (packed unit)) same_ ∙ eq_self (packed unit))) ∙ out word
