-- A new unit's chunk over a file of a shelf: one that is made, or one that an earlier try left.
use Rattle.std.specs.Prelude.{ℕ, ◌≡◌, ◌≢◌, ◌⊎◌, ◌≤◌, ◌==◌, if◌then◌else◌, true, false, List, [], Option, Some, None, IsSomeAnd, Result, Ok, Err}
use Rattle.unit_id.specs.UnitName.{Name, packed}
use Rattle.disk_base.specs.Faults.{Rose}
use Rattle.disk_base.specs.Disk.{FileView, IsWithin}
use Rattle.disk_base.specs.Places.{Place as Slot, Absent, Kept}
use Rattle.disk_base.specs.Shelves.{ShelfView, OthersStay}
use Rattle.disk_base.specs.JointMoments.{ShelfImage, Rack, LeavesAt, AtEachJointMoment}
use Rattle.disk_base.specs.declared.fault.ShelfFault.{ShelfFault}
use Rattle.disk_base.specs.declared.fault.ShelfFault.TheVariants as refused
use Rattle.chunk_store.specs.Records.{IsChunkOf}
use Rattle.chunk_store.specs.Chunk.{ChunkOver}
use Rattle.chunk_store.specs.declared.fault.ChunkFault.{ChunkFault}
use Rattle.chunk_store.specs.declared.fault.ChunkFault.TheVariants as faults
use Rattle.blob_node.specs.HeldUnit.{IsFresh, IsStartRefusal}

-- there is no file, or one without records, which a create that failed left behind
abbrev pub HasNoRecords : {F : Type 0} → (F → FileView) → Name → Slot F → Type 0
HasNoRecords seen unit Absent = Unit {0}
HasNoRecords seen unit (Kept file) = IsSomeAnd (seen file).content (λ bytes. IsChunkOf bytes unit [])
HasNoRecords seen unit _ = ⊥

module _ {F : Type 0} (seen : F → FileView) (unit : Name) (old new : ShelfView F) where
  -- the file of the unit is handed out, and no other changes
  pub record IsLentTo (file : F) : Type 0 where
    pub out : new.is_out (packed unit) ≡ true
    pub others : OthersStay (packed unit) old new
    pub told : new.is_told ≡ old.is_told
    pub counts : new.faults ≡ old.faults
    pub quiet : new.is_quiet ≡ old.is_quiet
    pub quiet_file : old.is_quiet ≡ true → (seen file).is_quiet ≡ true

  -- a crash leaves under the name what it might have left before, or a file without records
  abbrev pub IsLeft : Option (List ℕ) → Type 0
  IsLeft image = old.leaves (packed unit) image ⊎ IsSomeAnd image (λ bytes. IsChunkOf bytes unit [])

  -- no file is handed out, and there is still none with records
  pub record IsRefused : Type 0 where
    pub out : new.is_out (packed unit) ≡ false
    pub others : OthersStay (packed unit) old new
    pub told : new.is_told ≡ old.is_told
    pub counts : old.faults ≤ new.faults
    pub quiet : new.is_quiet ≡ old.is_quiet
    pub empty : old.is_told ≡ true → HasNoRecords seen unit (old.place (packed unit)) → HasNoRecords seen unit (new.place (packed unit))
    pub left : old.is_told ≡ true → HasNoRecords seen unit (old.place (packed unit)) → (image : Option (List ℕ)) → new.leaves (packed unit) image → IsLeft image

  -- a file without records is handed out
  abbrev pub Lends : Result F ShelfFault → Type 0
  Lends (Ok file) = IsLentTo file × ((seen file).faults ≡ 0)
      × (old.is_told ≡ true → HasNoRecords seen unit (old.place (packed unit)) → IsSomeAnd (seen file).content (λ bytes. IsChunkOf bytes unit []))
      × (old.is_told ≡ true → IsWithin (seen file).images (λ bytes. IsLeft (Some bytes)))
  Lends (Err refused.Failed) = IsRefused × Rose old.faults new.faults
  Lends (Err refused.Memory) = IsRefused
  Lends (Err _) = ⊥

  -- and a chunk of the unit is started over it
  abbrev pub StartsNew : Result (ChunkOver F) ChunkFault → Type 0
  StartsNew (Ok chunk) = (chunk.unit ≡ unit) × IsLentTo chunk.log.file × ((seen chunk.log.file).faults ≡ 0)
      × (old.is_told ≡ true → HasNoRecords seen unit (old.place (packed unit)) → IsFresh seen chunk)
  StartsNew (Err fault) = IsStartRefusal fault × IsRefused × (fault ≡ faults.Fault → Rose old.faults new.faults)
      × (old.is_told ≡ true → HasNoRecords seen unit (old.place (packed unit)) → (fault ≡ faults.Fault) ⊎ (fault ≡ faults.Memory))

-- ---- what a crash inside leaves

-- the files that are out, with this one under a name, or none
abbrev pub with_file : {F : Type 0} → ℕ → Option F → (ℕ → Option F) → ℕ → Option F
with_file name file out n = if n == name then file else out n

-- the file that was handed out
abbrev pub lent_file : {F : Type 0} → Result F ShelfFault → Option F
lent_file (Ok file) = Some file
lent_file (Err _) = None

-- the file of the chunk that was started
abbrev pub chunk_file : {F : Type 0} → Result (ChunkOver F) ChunkFault → Option F
chunk_file (Ok chunk) = Some chunk.log.file
chunk_file (Err _) = None

module _ {H F : Type 0} (shelf_seen : H → ShelfView F) (seen : F → FileView) (unit : Name) where
  -- under the name of the unit stands what a crash before might have left, or a file without records, and under each other name what a crash
  -- before might have left
  pub record IsTried (old : Rack H F) (image : ShelfImage) : Type 0 where
    pub here : LeavesAt shelf_seen seen old (packed unit) (image (packed unit)) ⊎ IsSomeAnd (image (packed unit)) (λ bytes. IsChunkOf bytes unit [])
    pub others : (name : ℕ) → name ≢ packed unit → LeavesAt shelf_seen seen old name (image name)

  -- at each moment a crash leaves so the shelf together with the files that are out, whichever those are
  abbrev pub TriesThrough : H → H → Option F → Type 0
  TriesThrough old new file =
      (out : ℕ → Option F) → out (packed unit) ≡ None → (shelf_seen old).is_told ≡ true → HasNoRecords seen unit ((shelf_seen old).place (packed unit))
      → AtEachJointMoment shelf_seen seen (IsTried (record { shelf = old; out = out })) (record { shelf = old; out = out }) (record { shelf = new; out = with_file (packed unit) file out })
