-- The get of an object: a get of each of its blobs in order.
use Rattle.std.specs.Prelude.{ℕ, zero, suc, ◌≡◌, ◌+◌, ◌<◌, ◌≤◌, ◌⊎◌, true, List, [], ◌∷◌, ◌++◌, length, Result, Ok, Err, IfOk}
use Rattle.code_mode.specs.declared.mode.Mode.{Mode}
use Rattle.volume_world.specs.BlobStatus.{is_begun}
use Rattle.volume_world.specs.Run.{World}
use Rattle.volume_world.specs.Way.{WayView, longest_history}
use Rattle.volume_world.specs.Course.{Part, Goes, PartsLead}
use Rattle.volume_world.specs.Progress.{AllFit}
use Rattle.blob_access.specs.declared.fault.GetFault.{GetFault}
use Rattle.blob_access.specs.declared.fault.GetFault.TheVariants as faults
use Rattle.blob_access.specs.GetCall.{GetsBy}
use Rattle.object_access.specs.Pieces.{blob_count, blob_sizes}

-- the front of a stretch gets a blob of this size, which has these bytes, and this is what is left of it
pub record GetsFirst (mode : Mode) (number size : ℕ) (blob : List ℕ) (parts rest : List Part) : Type 0 where
  pub own : List Part
  pub split : parts ≡ own ++ rest
  pub gets : GetsBy (record { mode = mode; bid = number; size = size }) own (Ok blob)

-- all of a stretch gets a blob of this size, which is refused, and its fault is the answer
pub record GetIsRefused (mode : Mode) (number size : ℕ) (parts : List Part) (result : Result (List ℕ) GetFault) : Type 0 where
  pub fault : GetFault
  pub gets : GetsBy (record { mode = mode; bid = number; size = size }) parts (Err fault)
  pub given : result ≡ Err fault

-- what the gets of blobs of these sizes ask in this stretch, under numbers from this one on, and their answer: all bytes in order behind those
-- before, or the fault of the first blob that is refused
abbrev pub ObjectGetsBy : Mode → ℕ → List ℕ → List ℕ → List Part → Result (List ℕ) GetFault → Type 0
ObjectGetsBy mode number [] before parts result = (parts ≡ []) × (result ≡ Ok before)
ObjectGetsBy mode number (size ∷ sizes) before parts result =
    ((blob : List ℕ) × (rest : List Part) × GetsFirst mode number size blob parts rest × ObjectGetsBy mode (number + 1) sizes (before ++ blob) rest result)
    ⊎ GetIsRefused mode number size parts result

-- the payloads of so many blobs from a number on, one behind the other
abbrev pub joined_payloads : (ℕ → List ℕ) → ℕ → ℕ → List ℕ
joined_payloads payload first zero = []
joined_payloads payload first (suc count) = joined_payloads payload first count ++ payload (first + count)

-- the blobs from this number on are begun, and the bytes are their payloads, joined
pub record IsObject (w : World) (first count : ℕ) (bytes : List ℕ) : Type 0 where
  pub begun : (k : ℕ) → k < count → is_begun (w.state.puts.status (first + k)) ≡ true
  pub payloads : joined_payloads w.state.puts.payload first count ≡ bytes

-- A get of an object over a way. Each reply is one that its event may have. The history is said to be full only where it is. Where files tell,
-- no other bytes come than those of the blobs' payloads: from each state in which the volume may have been, what was asked led to one in which
-- the blobs are begun with them.
pub record ObjectGets (old new : WayView) (first size : ℕ) (result : Result (List ℕ) GetFault) : Type 0 where
  pub parts : List Part
  pub goes : Goes old new parts
  pub fits : AllFit old.origin parts
  pub call : ObjectGetsBy old.origin.mode first (blob_sizes size) [] parts result
  pub full : result ≡ Err faults.HistoryFull → longest_history ≤ length new.entries
  pub bytes : old.origin.is_told ≡ true
      → IfOk result (λ bytes. (w : World) → old.is_at w → (v : World) × PartsLead old.origin w parts v × new.is_at v × IsObject v first (blob_count size) bytes)
