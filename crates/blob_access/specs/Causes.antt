-- Why a get may hear too few shards, and what it answers where nothing of that kind happens.
use Rattle.std.specs.Prelude.{ℕ, ◌≡◌, ◌+◌, ◌≤◌, Bool, true, false, List, ◌∷◌, ◌++◌, length, Result, Ok, Err}
use Rattle.unit_id.specs.Lists.{IsIn, is_in, count_below}
use Rattle.unit_id.specs.UnitName.{Name}
use Rattle.unit_id.specs.declared.request.Request.TheVariants as requests
use Rattle.unit_id.specs.declared.answer.Answer.TheVariants as answers
use Rattle.code_mode.specs.VolumeShape.{VolumeShape}
use Rattle.blob_node.specs.UnitAnswer.{AreAscending}
use Rattle.volume_entry.specs.Manager.{home_at}
use Rattle.volume_entry.specs.declared.view.View.{View}
use Rattle.volume_world.specs.State.{State}
use Rattle.volume_world.specs.BlobStatus.{is_begun, is_acked}
use Rattle.volume_world.specs.Run.{World}
use Rattle.volume_world.specs.Way.{Origin, shape_of}
use Rattle.volume_world.specs.Possible.{IsPossible}
use Rattle.volume_world.specs.Course.{Part, PartsLead}
use Rattle.volume_world.specs.declared.event.Event.TheVariants as events
use Rattle.volume_world.specs.declared.reply.Reply.{Reply}
use Rattle.volume_world.specs.declared.reply.Reply.TheVariants as replies
use Rattle.blob_access.specs.declared.fault.GetFault.{GetFault}
use Rattle.blob_access.specs.declared.fault.GetFault.TheVariants as faults
use Rattle.blob_access.specs.GetCall.{GetsBy, IsPayload}

-- ---- causes

-- A read had no answer, or a file failed at it. No unit that has the shard answers otherwise, while its disk is unbroken, and no read is barred.
abbrev pub is_failed : Reply → Bool
is_failed replies.Unheard = true
is_failed replies.Fault = true
is_failed (replies.Heard answers.Fault) = true
is_failed reply = false

-- a read of the blob in this stretch failed
pub record HasFailedRead (bid : ℕ) (parts : List Part) : Type 0 where
  pub unit : Name
  pub disk : ℕ
  pub reply : Reply
  pub there : IsIn (Part.Asking (events.Send (requests.Read unit disk bid)) reply) parts
  pub failed : is_failed reply ≡ true

-- how many current units stand on broken disks
abbrev pub broken_units : ℕ → State → ℕ
broken_units total s = count_below total (λ i. s.broken (home_at s.manager.homes i).disk)

-- at most so many that as many of a quorum are left as there are data shards
abbrev pub AreFewBroken : VolumeShape → State → Type 0
AreFewBroken shape s = shape.data_count + broken_units shape.total s ≤ shape.quorum

-- Why a try may hear too few shards, by what it read and by the states at its two looks.
pub data Cause (origin : Origin) (bid : ℕ) (reads : List Part) (s t : State) : Type 0 where
  Failed : HasFailedRead bid reads → Cause origin bid reads s t
  Broken : (AreFewBroken (shape_of origin) t → ⊥) → Cause origin bid reads s t
  Unacked : is_acked (s.puts.status bid) ≡ false → Cause origin bid reads s t
  Asked : is_in bid t.manager.asked ≡ true → Cause origin bid reads s t

-- ---- the last try

abbrev pub HasNoLook : List Part → Type 0
HasNoLook parts = (reply : Reply) → IsIn (Part.Asking events.Look reply) parts → ⊥

-- The last try of a stretch lies between its last two looks, which showed one version; and the states at these.
pub record LastTry (origin : Origin) (w : World) (parts : List Part) (v : World) : Type 0 where
  pub before : List Part
  pub first : View
  pub reads : List Part
  pub second : View
  pub after : List Part
  pub split : parts ≡ before ++ (Part.Asking events.Look (replies.Seen first) ∷ (reads ++ (Part.Asking events.Look (replies.Seen second) ∷ after)))
  pub among : HasNoLook reads
  pub behind : HasNoLook after
  pub same : second.version ≡ first.version
  pub at_first : World
  pub at_second : World
  pub comes : PartsLead origin w before at_first
  pub tries : PartsLead origin at_first (Part.Asking events.Look (replies.Seen first) ∷ reads) at_second
  pub goes : PartsLead origin at_second (Part.Asking events.Look (replies.Seen second) ∷ after) v

-- a get that heard too few shards has a cause in its last try
abbrev pub ShortGetsHaveACause : Type 0
ShortGetsHaveACause =
    (origin : Origin) (bid size live unheard broken : ℕ) (parts : List Part) (w v : World) → IsPossible origin w → GetsBy (record { mode = origin.mode; bid = bid; size = size }) parts (Err (faults.Short live unheard broken))
    → PartsLead origin w parts v → (last : LastTry origin w parts v) × Cause origin bid last.reads last.at_first.state last.at_second.state

-- ---- gets without a cause

-- From this state through this stretch to that one the blob is acknowledged and its delete isn't asked for, no read of it fails, and in each
-- state between them few units are on broken disks.
pub record IsAvailable (origin : Origin) (bid : ℕ) (w : World) (parts : List Part) (v : World) : Type 0 where
  pub acked : is_acked (w.state.puts.status bid) ≡ true
  pub unasked : is_in bid v.state.manager.asked ≡ false
  pub heard : HasFailedRead bid parts → ⊥
  pub few_broken : (front back : List Part) (u : World) → parts ≡ front ++ back → PartsLead origin w front u → PartsLead origin u back v → AreFewBroken (shape_of origin) u.state

-- the blob was begun with so many bytes, and not with the size that was asked for
pub record HasOtherSize (v : World) (bid size kept : ℕ) : Type 0 where
  pub begun : is_begun (v.state.puts.status bid) ≡ true
  pub whole : kept ≡ length (v.state.puts.payload bid)
  pub other : kept ≡ size → ⊥

-- a look in this stretch showed this version
pub record WasShown (parts : List Part) (version : ℕ) : Type 0 where
  pub view : View
  pub there : IsIn (Part.Asking events.Look (replies.Seen view)) parts
  pub same : view.version ≡ version

-- five looks showed these versions, each a later one
pub record AreFiveVersions (parts : List Part) (versions : List ℕ) : Type 0 where
  pub count : length versions ≡ 5
  pub order : AreAscending versions
  pub shown : (n : ℕ) → IsIn n versions → WasShown parts n

-- What a get then answers, in a stretch that led to this state. That the history is full or memory is out says nothing of the volume.
abbrev pub GivesBlob : World → ℕ → ℕ → List Part → Result (List ℕ) GetFault → Type 0
GivesBlob v bid size parts (Ok bytes) = IsPayload v bid bytes
GivesBlob v bid size parts (Err (faults.Size kept)) = HasOtherSize v bid size kept
GivesBlob v bid size parts (Err (faults.Moving versions)) = AreFiveVersions parts versions
GivesBlob v bid size parts (Err faults.Fault) = IsIn (Part.Asking events.Look replies.Fault) parts
GivesBlob v bid size parts (Err (faults.Spoiled place)) = IsIn (Part.Asking events.Look (replies.Spoiled place)) parts
GivesBlob v bid size parts (Err faults.HistoryFull) = Unit {0}
GivesBlob v bid size parts (Err faults.Memory) = Unit {0}
GivesBlob v bid size parts (Err (faults.Short live unheard broken)) = ⊥

-- an available blob is got, unless its size is another, its units move at every try, or a look fails
abbrev pub GetsGiveTheBlob : Type 0
GetsGiveTheBlob =
    (origin : Origin) (bid size : ℕ) (result : Result (List ℕ) GetFault) (parts : List Part) (w v : World) → IsPossible origin w → GetsBy (record { mode = origin.mode; bid = bid; size = size }) parts result
    → PartsLead origin w parts v → IsAvailable origin bid w parts v → GivesBlob v bid size parts result
