-- How a unit goes on standing for what was written: nothing written, one record more, or one in doubt.
use Rattle.std.proofs.Common.{◌≡◌, ◌∙◌, sym, ap, refl, subst, ℕ, Bool, true, false, List, [], ◌∷◌, ◌++◌, Option, None, Some, IsSomeAnd}
use Rattle.std.specs.Prelude.{option_map}
use Rattle.unit_id.specs.Place.{Place}
use Rattle.disk_base.specs.Disk.{IsWithin, LeavesExactly, OnlyReads}
use Rattle.shard_record.specs.declared.record.ShardRecord.{ShardRecord}
use Rattle.shard_record.specs.declared.record.ShardRecord.TheVariants.{Shard, Mark, Free, Fence, Release}
use Rattle.chunk_store.specs.Kept.{KeptRows, row_of, kept_after, kept_after_shard, kept_after_mark, kept_after_free, kept_after_fence}
use Rattle.chunk_store.specs.Records.{IsChunkOf, IsWithOrWithout}
use Rattle.chunk_store.specs.Chunk.{ChunkView, HasRecords}
use Rattle.chunk_store.specs.declared.index.KeptRow.{KeptRow}
use Rattle.chunk_store.specs.declared.index.KeptRow.TheVariants as kept
use Rattle.chunk_store.proofs.Opened.{told_at}
use Rattle.chunk_store.proofs.Finding.{some_and}
use Rattle.unit_id.specs.UnitName.{Name}
use Rattle.blob_node.specs.Units.{UnitRecord, Units, with_at, with_record}
use Rattle.blob_node.specs.UnitAnswer.{started}
use Rattle.blob_node.specs.Holding.{Written, Holds, IsNew, without_bytes}
use Rattle.blob_node.proofs.Lookups.{there_now}
use Rattle.blob_node.proofs.RowsLaws.{more_rows}

pub never_both : (b : Bool) → b ≡ false → b ≡ true → ⊥
never_both b e f = cc

-- reading leaves the records
pub has_still : (old new : ChunkView) (items : List ShardRecord) → new.unit ≡ old.unit → OnlyReads old.file new.file → HasRecords old items → HasRecords new items
has_still old new items own reads has =
    let at = told_at old.file.content (λ file. IsChunkOf file old.unit items × LeavesExactly file old.file.images) has in
    some_and new.file.content at.value (λ file. IsChunkOf file new.unit items × LeavesExactly file new.file.images) (reads.same ∙ at.is)
    (subst (λ (u : Name). IsChunkOf at.value u items) (sym own) at.holds.0, λ c left. at.holds.1 c (reads.within c left))

-- ---- what a record leaves alone

pub record_made : (place p : Place) (r : UnitRecord) (units : Units) → (with_record place r units).is_made p ≡ units.is_made p
record_made place p (UnitRecord.Shard bid) units = refl
record_made place p (UnitRecord.Mark bid) units = refl
record_made place p (UnitRecord.Free bid) units = refl
record_made place p (UnitRecord.Fence lock) units = refl
record_made place p UnitRecord.Release units = refl

pub record_doubt : (place p : Place) (r : UnitRecord) (units : Units) → (with_record place r units).doubt p ≡ units.doubt p
record_doubt place p (UnitRecord.Shard bid) units = refl
record_doubt place p (UnitRecord.Mark bid) units = refl
record_doubt place p (UnitRecord.Free bid) units = refl
record_doubt place p (UnitRecord.Fence lock) units = refl
record_doubt place p UnitRecord.Release units = refl

pub new_still : (r : UnitRecord) (units : Units) (place : Place) (shut : Place → Bool) (doubt : Place → Option UnitRecord) → IsNew r units place → IsNew r (record units { is_shut = shut; doubt = doubt }) place
new_still (UnitRecord.Shard bid) units place shut doubt is = is
new_still (UnitRecord.Mark bid) units place shut doubt is = is
new_still (UnitRecord.Free bid) units place shut doubt is = is
new_still (UnitRecord.Fence lock) units place shut doubt is = is
new_still UnitRecord.Release units place shut doubt is = is

-- ---- whether the unit is released

shard_flag : (k : KeptRows) (bid place size : ℕ) (row : Option KeptRow) → (kept_after_shard k bid place size row).is_released ≡ k.is_released
shard_flag k bid place size None = refl
shard_flag k bid place size (Some row) = refl

mark_flag : (k : KeptRows) (bid : ℕ) (row : Option KeptRow) → (kept_after_mark k bid row).is_released ≡ k.is_released
mark_flag k bid None = refl
mark_flag k bid (Some (kept.Live place size)) = refl
mark_flag k bid (Some kept.Marked) = refl
mark_flag k bid (Some kept.Gone) = refl

free_flag : (k : KeptRows) (bid : ℕ) (row : Option KeptRow) → (kept_after_free k bid row).is_released ≡ k.is_released
free_flag k bid None = refl
free_flag k bid (Some (kept.Live place size)) = refl
free_flag k bid (Some kept.Marked) = refl
free_flag k bid (Some kept.Gone) = refl

fence_flag : (k : KeptRows) (lock : ℕ) (fence : Option ℕ) → (kept_after_fence k lock fence).is_released ≡ k.is_released
fence_flag k lock None = refl
fence_flag k lock (Some first) = refl

-- memory and the protocol know alike whether a record released the unit
pub same_flag : (k : KeptRows) (at : ℕ) (item : ShardRecord) (place : Place) (units : Units) → k.is_released ≡ false → units.is_released place ≡ false → (kept_after k at item).is_released ≡ (with_record place (without_bytes item) units).is_released place
same_flag k at (Shard bid unit size bytes) place units e f = shard_flag k bid at size (row_of k bid) ∙ e ∙ sym f
same_flag k at (Mark bid unit) place units e f = mark_flag k bid (row_of k bid) ∙ e ∙ sym f
same_flag k at (Free bid unit) place units e f = free_flag k bid (row_of k bid) ∙ e ∙ sym f
same_flag k at (Fence lock unit) place units e f = fence_flag k lock k.fence ∙ e ∙ sym f
same_flag k at (Release unit) place units e f = sym (there_now place true units.is_released)

-- ---- a unit whose chunk is open

module _ (old new : ChunkView) (doubt : Option UnitRecord) (flag after : Bool) (written : Written) (units : Units) (place : Place) (holds : Holds old doubt flag written units place) (open_ : old.is_shut ≡ false) where
  -- nothing is in doubt
  pub none_written : written.doubt ≡ None
  none_written = (holds.file.0 open_).1

  pub none_known : doubt ≡ None
  none_known = sym holds.doubt_is ∙ ap (option_map without_bytes) none_written

  pub none_there : units.doubt place ≡ None
  none_there = holds.doubted ∙ none_known

  module _ (still : new.is_shut ≡ false) where
    -- nothing was written
    pub stays : HasRecords new written.items → after ≡ flag → Holds new None after written (started place units) place
    stays has same = record {
      made = holds.made;
      rows_are = holds.rows_are;
      shut = λ shut. absurd (never_both new.is_shut still shut);
      released = same ∙ holds.released;
      doubted = none_there;
      doubt_is = ap (option_map without_bytes) none_written;
      new = tt;
      file = (λ _. (has, none_written), λ shut. absurd (never_both new.is_shut still shut));
    }

    -- and the protocol knows of no call
    pub waits : HasRecords new written.items → after ≡ flag → Holds new None after written units place
    waits has same = record {
      made = holds.made;
      rows_are = holds.rows_are;
      shut = λ shut. absurd (never_both new.is_shut still shut);
      released = same ∙ holds.released;
      doubted = none_there;
      doubt_is = ap (option_map without_bytes) none_written;
      new = tt;
      file = (λ _. (has, none_written), λ shut. absurd (never_both new.is_shut still shut));
    }

    -- one record more
    pub grows : (item : ShardRecord) → units.is_released place ≡ false → HasRecords new (written.items ++ item ∷ []) → after ≡ (with_record place (without_bytes item) (started place units)).is_released place
        → Holds new None after (record written { items = written.items ++ item ∷ [] }) (with_record place (without_bytes item) (started place units)) place
    grows item free has same = record {
      made = record_made place place (without_bytes item) (started place units) ∙ holds.made;
      rows_are = more_rows place written.items (started place units) item free holds.rows_are;
      shut = λ shut. absurd (never_both new.is_shut still shut);
      released = same;
      doubted = record_doubt place place (without_bytes item) (started place units) ∙ none_there;
      doubt_is = ap (option_map without_bytes) none_written;
      new = tt;
      file = (λ _. (has, none_written), λ shut. absurd (never_both new.is_shut still shut));
    }

  -- one record in doubt
  pub doubts : (item : ShardRecord) → new.is_shut ≡ true → units.is_released place ≡ false → IsNew (without_bytes item) units place → IsSomeAnd new.file.content (IsWithOrWithout new.unit written.items item) → IsWithin new.file.images (IsWithOrWithout new.unit written.items item) → after ≡ flag
      → Holds new (Some (without_bytes item)) after (record written { doubt = Some item }) (record units { is_shut = with_at place true units.is_shut; doubt = with_at place (Some (without_bytes item)) units.doubt }) place
  doubts item shut free is_new says crash same = record {
    made = holds.made;
    rows_are = holds.rows_are;
    shut = λ _. there_now place true units.is_shut;
    released = same ∙ holds.released;
    doubted = there_now place (Some (without_bytes item)) units.doubt;
    doubt_is = refl;
    new = (new_still (without_bytes item) units place (with_at place true units.is_shut) (with_at place (Some (without_bytes item)) units.doubt) is_new, free);
    file = (λ open_again. absurd (never_both new.is_shut open_again shut), λ _. (says, crash));
  }
