-- What lasts whatever is asked of a station, and what a quiet one counts.
use Rattle.std.proofs.Common.{◌≡◌, ◌∙◌, sym, ap, refl, subst, ℕ, ◌≤◌, Bool, true, false, cond, [], ◌∷◌, ◌++◌, Some, nat_eq, Ok, Err, arith}
use Rattle.std.specs.Map.{set_value, values_of}
use Rattle.std.proofs.lemmas.List.Sums.{sum_by-cons}
use Rattle.unit_id.specs.UnitName.{Name}
use Rattle.disk_base.specs.Disk.{FileView, IsFile, Lasts}
use Rattle.disk_base.specs.Shelves.{ShelfView, IsShelf}
use Rattle.chunk_store.specs.Chunk.{ChunkOver}
use Rattle.chunk_store.specs.declared.fault.ChunkFault.{ChunkFault}
use Rattle.blob_node.specs.HeldUnit.{UnitOver}
use Rattle.blob_node.specs.UnitTable.{Entries, TableOver, at_word, Replaces}
use Rattle.blob_node.specs.NewChunk.{StartsNew}
use Rattle.blob_node.specs.Station.{StationOver, AreQuiet, IsQuiet, Outlasts, file_faults, faults_of}
use Rattle.blob_node.proofs.Serving.{station_of, sums}

module _ {H F : Type 0} (shelf_seen : H → ShelfView F) (seen : F → FileView) where
  abbrev IsQuietFile : UnitOver F → Type 0
  IsQuietFile unit = (seen unit.chunk.log.file).is_quiet ≡ true

  same_some : (x y : UnitOver F) → Some x ≡ Some y → x ≡ y
  same_some x y e = cc

  -- the unit of a word is quiet where all are
  pub quiet_at : (units : Entries F) (word : ℕ) (unit : UnitOver F) → at_word word units ≡ Some unit → AreQuiet shelf_seen seen units → IsQuietFile unit
  quiet_at [] word unit found are = absurd (cc found)
  quiet_at (e ∷ es) word unit found are = go (nat_eq word e.0) found (λ h. quiet_at es word unit h are.1) where
    go : (b : Bool) → cond b (Some e.1) (at_word word es) ≡ Some unit → (at_word word es ≡ Some unit → IsQuietFile unit) → IsQuietFile unit
    go true h rest = subst IsQuietFile (same_some e.1 unit h) are.0
    go false h rest = rest h

  -- a quiet unit more
  quiet_snoc : (units : Entries F) (word : ℕ) (unit : UnitOver F) → AreQuiet shelf_seen seen units → IsQuietFile unit → AreQuiet shelf_seen seen (units ++ (word, unit) ∷ [])
  quiet_snoc [] word unit are its = (its, tt)
  quiet_snoc (e ∷ es) word unit are its = (are.0, quiet_snoc es word unit are.1 its)

  -- a quiet unit in place of another
  quiet_set : (units : Entries F) (word : ℕ) (now : UnitOver F) → AreQuiet shelf_seen seen units → IsQuietFile now → AreQuiet shelf_seen seen (set_value (nat_eq word) units now)
  quiet_set [] word now are its = tt
  quiet_set (e ∷ es) word now are its = go (nat_eq word e.0) (quiet_set es word now are.1 its) where
    go : (b : Bool) → AreQuiet shelf_seen seen (set_value (nat_eq word) es now) → AreQuiet shelf_seen seen (cond b ((e.0, now) ∷ es) (e ∷ set_value (nat_eq word) es now))
    go true rest = (its, are.1)
    go false rest = (are.0, rest)

  -- ---- what lasts

  pub lasts_same : (station : StationOver H F) → Outlasts shelf_seen seen station station
  lasts_same station = record { told = refl; still = refl; quiet = λ quiet. quiet; faults = omega arith }

  pub lasts_then : (a b c : StationOver H F) → Outlasts shelf_seen seen a b → Outlasts shelf_seen seen b c → Outlasts shelf_seen seen a c
  lasts_then a b c one two =
      let first = one.faults in let then = two.faults in
      record { told = two.told ∙ one.told; still = two.still ∙ one.still; quiet = λ quiet. two.quiet (one.quiet quiet); faults = omega (arith, first, then) }

  -- one unit is replaced, over a file that lasts
  pub lasts_replaced : (shelf : H) (disk : ℕ) (is_broken : Bool) (old new : TableOver F) (word : ℕ) (was now : UnitOver F) → Replaces word old new was now → Lasts (seen was.chunk.log.file) (seen now.chunk.log.file)
      → Outlasts shelf_seen seen (station_of shelf disk is_broken old) (station_of shelf disk is_broken new)
  lasts_replaced shelf disk is_broken old new word was now replaces lasts =
      let s = sums shelf_seen seen shelf disk is_broken old new word was now replaces in
      let never = lasts.faults in record {
        told = refl;
        still = refl;
        quiet = λ quiet. record {
          shelf = quiet.shelf;
          files = subst (AreQuiet shelf_seen seen) (sym replaces.units) (quiet_set old.units word now quiet.files (lasts.quiet ∙ quiet_at old.units word was replaces.found quiet.files));
        };
        faults = omega (arith, s, never);
      }

  faults_snoc : (units : Entries F) (word : ℕ) (unit : UnitOver F) → file_faults shelf_seen seen units ≤ file_faults shelf_seen seen (units ++ (word, unit) ∷ [])
  faults_snoc [] word unit = omega arith
  faults_snoc (e ∷ es) word unit =
      let rest = faults_snoc es word unit in
      let old = sum_by-cons (λ (u : UnitOver F). (seen u.chunk.log.file).faults) e.1 (values_of es) in
      let new = sum_by-cons (λ (u : UnitOver F). (seen u.chunk.log.file).faults) e.1 (values_of (es ++ (word, unit) ∷ [])) in
      omega (arith, rest, old, new)

  -- the same units over the same shelf
  pub lasts_reserved : (shelf : H) (disk : ℕ) (is_broken : Bool) (old new : TableOver F) → new.units ≡ old.units → Outlasts shelf_seen seen (station_of shelf disk is_broken old) (station_of shelf disk is_broken new)
  lasts_reserved shelf disk is_broken old new same = record {
    told = refl;
    still = refl;
    quiet = λ quiet. record { shelf = quiet.shelf; files = subst (AreQuiet shelf_seen seen) (sym same) quiet.files };
    faults = let s = ap (file_faults shelf_seen seen) same in omega (arith, s);
  }

  -- a unit is made
  pub lasts_made : (shelf new_shelf : H) (disk : ℕ) (is_broken : Bool) (old new : TableOver F) (unit : Name) (chunk : ChunkOver F) (held : UnitOver F) → StartsNew seen unit (shelf_seen shelf) (shelf_seen new_shelf) (Ok chunk)
      → held.chunk ≡ chunk → (word : ℕ) → new.units ≡ old.units ++ (word, held) ∷ []
      → Outlasts shelf_seen seen (station_of shelf disk is_broken old) (station_of new_shelf disk is_broken new)
  lasts_made shelf new_shelf disk is_broken old new unit chunk held starts its word are = record {
    told = starts.1.told;
    still = starts.1.quiet;
    quiet = λ quiet. record {
      shelf = starts.1.quiet ∙ quiet.shelf;
      files = subst (AreQuiet shelf_seen seen) (sym are)
          (quiet_snoc old.units word held quiet.files (subst (λ (c : ChunkOver F). (seen c.log.file).is_quiet ≡ true) (sym its) (starts.1.quiet_file quiet.shelf)));
    };
    faults =
        let same = starts.1.counts in let more = faults_snoc old.units word held in let s = ap (file_faults shelf_seen seen) are in
        omega (arith, same, more, s);
  }

  -- none is made
  pub lasts_not_made : (shelf new_shelf : H) (disk : ℕ) (is_broken : Bool) (old new : TableOver F) (unit : Name) (fault : ChunkFault) → StartsNew seen unit (shelf_seen shelf) (shelf_seen new_shelf) (Err fault)
      → new.units ≡ old.units → Outlasts shelf_seen seen (station_of shelf disk is_broken old) (station_of new_shelf disk is_broken new)
  lasts_not_made shelf new_shelf disk is_broken old new unit fault starts same = record {
    told = starts.1.told;
    still = starts.1.quiet;
    quiet = λ quiet. record { shelf = starts.1.quiet ∙ quiet.shelf; files = subst (AreQuiet shelf_seen seen) (sym same) quiet.files };
    faults = let never = starts.1.counts in let s = ap (file_faults shelf_seen seen) same in omega (arith, never, s);
  }

  -- ---- a quiet station

  quiet_faults : ((file : F) → IsFile (seen file)) → (units : Entries F) → AreQuiet shelf_seen seen units → file_faults shelf_seen seen units ≡ 0
  quiet_faults files [] are = refl
  quiet_faults files (e ∷ es) are =
      let here = (files e.1.chunk.log.file).quiet_has_no_fault are.0 in let rest = quiet_faults files es are.1 in
      let sum = sum_by-cons (λ (u : UnitOver F). (seen u.chunk.log.file).faults) e.1 (values_of es) in
      omega (arith, here, rest, sum)

  pub quiet_has_no_fault : (station : StationOver H F) → IsShelf seen (shelf_seen station.shelf) → ((file : F) → IsFile (seen file)) → IsQuiet shelf_seen seen station → faults_of shelf_seen seen station ≡ 0
  quiet_has_no_fault station shelf files quiet =
      let here = shelf.quiet_has_no_fault quiet.shelf in let units = quiet_faults files station.units quiet.files in
      omega (arith, here, units)
