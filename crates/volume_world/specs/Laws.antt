-- The laws of a volume: what is kept, over every list of moves and every run; and what follows for a reader.
use Rattle.std.specs.Prelude.{ℕ, ◌≡◌, ◌<◌, ◌≤◌, ◌⊎◌, ◌↔◌, Bool, true, false, not, ◌&&◌, List, Option, Some, is_some}
use Rattle.unit_id.specs.Lists.{IsIn, is_in, count_below}
use Rattle.unit_id.specs.Place.{Location, Place}
use Rattle.code_mode.specs.VolumeShape.{VolumeShape, IsVolumeShape}
use Rattle.blob_node.specs.Units.{UnitRecord, Units, is_live}
use Rattle.unit_id.specs.Request.{Request, Answer, Given, place_of}
use Rattle.blob_node.specs.UnitAnswer.{Effect, is_row_request, writes}
use Rattle.volume_entry.specs.Manager.{AreFirstHomes, home_at, current, transfers_of, is_swapped, is_old}
use Rattle.volume_entry.specs.Reply.{Reply}
use Rattle.volume_entry.specs.Manager.{ManagerRecord, is_current}
use Rattle.volume_world.specs.Event.{Event}
use Rattle.volume_world.specs.BlobStatus.{is_begun, is_open, is_acked}
use Rattle.volume_world.specs.BlobHistory.{IsBegun, IsAcked, IsCommitted, IsUndeleted}
use Rattle.volume_world.specs.Leases.{accepts_put, WasAccepted}
use Rattle.volume_world.specs.Move.{accepted_count}
use Rattle.volume_world.specs.State.{State, fresh}
use Rattle.volume_world.specs.Move.{Move, MovesAll, Handles, SettlesUnit}
use Rattle.code_mode.specs.declared.mode.Mode.{Mode}
use Rattle.volume_world.specs.Contents.{Contents, no_contents, MovesWith, AreAsBegun}
use Rattle.volume_world.specs.Run.{World, Step, Leads, IsLegalRun}
use Rattle.volume_world.specs.Durability.{IsHeld}
use Rattle.blob_node.specs.Units.{is_row_record}
use Rattle.volume_world.specs.Invariant.{Kept}

-- a volume as made has it
abbrev pub StartsKept : Type 0
StartsKept =
    (shape : VolumeShape) (homes : List Location) (is_made : Place → Bool) → AreFirstHomes shape homes
    → ((p : Place) → is_made p ≡ true → (p.index < shape.total) × (p ≡ current homes p.index)) → Kept shape (fresh homes is_made)

-- no list of moves loses it
abbrev pub IsAlwaysKept : Type 0
IsAlwaysKept = (shape : VolumeShape) (s t : State) (moves : List Move) → IsVolumeShape shape → Kept shape s → MovesAll shape s moves t → Kept shape t

-- no legal run loses it
abbrev pub RunsKeep : Type 0
RunsKeep = (shape : VolumeShape) (w v : World) (steps : List Step) → IsVolumeShape shape → Kept shape w.state → IsLegalRun shape w steps v → Kept shape v.state

-- the unit of the index isn't broken, and has a live row of the blob
abbrev pub holds : State → ℕ → ℕ → Bool
holds s bid index = not (s.broken (home_at s.manager.homes index).disk) && is_live (s.units.row (current s.manager.homes index) bid)

-- among any units, as many as have to be seen, that aren't broken, as many as there are data shards hold a blob that is acknowledged and not asked
abbrev pub IsReadable : Type 0
IsReadable =
    (shape : VolumeShape) (s : State) (chosen : ℕ → Bool) (bid : ℕ) → IsVolumeShape shape → Kept shape s → IsHeld s.puts.status s.manager.asked bid
    → ((i : ℕ) → i < shape.total → chosen i ≡ true → s.broken (home_at s.manager.homes i).disk ≡ false) → shape.sight ≤ count_below shape.total chosen
    → shape.data_count ≤ count_below shape.total (λ i. chosen i && holds s bid i)

-- what stands where a unit is released: its successor holds every blob that is acknowledged and not asked
pub record IsSafeRelease (s : State) (place : Place) : Type 0 where
  pub swapped : is_swapped s.manager.lock ≡ true
  pub old : is_old (transfers_of s.manager.lock) place ≡ true
  pub above : place.epoch < (home_at s.manager.homes place.index).epoch
  pub holds : (bid : ℕ) → IsHeld s.puts.status s.manager.asked bid → is_live (s.units.row (current s.manager.homes place.index) bid) ≡ true

-- a release is in doubt
abbrev pub is_release : Option UnitRecord → Bool
is_release (Some UnitRecord.Release) = true
is_release doubt = false

-- between these units one is released, or its release is left in doubt
abbrev pub IsGivenUp : Units → Units → Place → Type 0
IsGivenUp old new place =
    ((old.is_released place ≡ false) × (new.is_released place ≡ true)) ⊎ ((is_release (old.doubt place) ≡ false) × (is_release (new.doubt place) ≡ true))

-- No unit is given up before its successor holds every such blob: by no entry, nor by any move but a settle on a broken disk, which
-- no entry makes.
pub record ReleasesAreSafe : Type 0 where
  pub entries : (shape : VolumeShape) (w v : World) (step : Step) (place : Place) → IsVolumeShape shape → Kept shape w.state → Leads shape w step v
      → IsGivenUp w.state.units v.state.units place → IsSafeRelease w.state place
  pub handled : (shape : VolumeShape) (s t : State) (place : Place) (answer : Answer) (effect : Effect) → Kept shape s → Handles s (Request.Release place) answer effect t → writes effect ≡ true → IsSafeRelease s place
  pub found : (shape : VolumeShape) (s t : State) (place : Place) → Kept shape s → SettlesUnit place s true t → s.units.doubt place ≡ Some UnitRecord.Release → s.broken place.disk ≡ false → IsSafeRelease s place

-- the unit is below the current one of its index
abbrev pub IsBelowCurrent : State → Place → Type 0
IsBelowCurrent s place = place.epoch < (home_at s.manager.homes place.index).epoch

-- the answer says that it is done
abbrev pub is_accepting : Answer → Bool
is_accepting Answer.Done = true
is_accepting Answer.Already = true
is_accepting answer = false

-- A write to a unit below its index's current one changes nothing and is never answered Done or Already: no entry changes a row there but by
-- the unit's release, and no entry gives such an answer; nor does any move but a settle on a broken disk, which no entry makes.
pub record OldEpochsAreFenced : Type 0 where
  pub rows : (shape : VolumeShape) (w v : World) (step : Step) (place : Place) (bid : ℕ) → IsVolumeShape shape → Kept shape w.state → Leads shape w step v
      → IsBelowCurrent w.state place → (v.state.units.row place bid ≡ w.state.units.row place bid) ⊎ (v.state.units.is_released place ≡ true)
  pub answers : (shape : VolumeShape) (w v : World) (step : Step) (g : Given) → IsVolumeShape shape → Kept shape w.state → Leads shape w step v
      → IsBelowCurrent w.state (place_of g.request) → is_row_request g.request ≡ true → is_accepting g.answer ≡ true → IsIn g v.state.post.given → IsIn g w.state.post.given
  pub handled : (shape : VolumeShape) (s t : State) (request : Request) (answer : Answer) (effect : Effect) → Kept shape s → Handles s request answer effect t → is_row_request request ≡ true
      → IsBelowCurrent s (place_of request) → (writes effect ≡ false) × (is_accepting answer ≡ false)
  pub found : (shape : VolumeShape) (s t : State) (place : Place) → Kept shape s → SettlesUnit place s true t → s.broken place.disk ≡ false → IsBelowCurrent s place
      → is_row_record (s.units.doubt place) ≡ false

-- of a committed delete fewer live rows than there are data shards are left on all unbroken current units
abbrev pub IsUnreadable : Type 0
IsUnreadable = (shape : VolumeShape) (s : State) (bid : ℕ) → IsVolumeShape shape → Kept shape s → is_in bid s.manager.committed ≡ true → count_below shape.total (holds s bid) < shape.data_count

-- Bytes are as begun in a volume as made, and after every list of moves.
pub record BytesStayAsBegun : Type 0 where
  pub start : (mode : Mode) (homes : List Location) (is_made : Place → Bool) → AreAsBegun mode (fresh homes is_made) no_contents
  pub moves : (shape : VolumeShape) (mode : Mode) (s t : State) (c d : Contents) (moves : List Move) → IsVolumeShape shape → Kept shape s → AreAsBegun mode s c → MovesWith shape mode s c moves t d
      → AreAsBegun mode t d

-- what End finds of a put that it acknowledges, with so many acceptances
pub record IsEarned (shape : VolumeShape) (s : State) (bid accepted : ℕ) : Type 0 where
  pub opened : is_open (s.puts.status bid) ≡ true
  pub in_time : s.time < s.puts.end bid
  pub count : accepted ≡ accepted_count shape.total s.puts bid
  pub enough : shape.quorum ≤ accepted

-- Only an End acknowledges, and it does so just where it finds what earns it; each accepted index is backed by an answer, and each such
-- answer is a current unit's.
pub record AcksAreExact : Type 0 where
  pub only : (shape : VolumeShape) (w v : World) (step : Step) (bid : ℕ) → Leads shape w step v → is_acked (w.state.puts.status bid) ≡ false → is_acked (v.state.puts.status bid) ≡ true
      → (accepted : ℕ) × (step ≡ record { event = Event.End bid; reply = Reply.Acked accepted })
  pub exactly : (shape : VolumeShape) (w v : World) (reply : Reply) (bid accepted : ℕ) → w.state.manager.is_shut ≡ false → Leads shape w (record { event = Event.End bid; reply = reply }) v
      → (reply ≡ Reply.Acked accepted) ↔ IsEarned shape w.state bid accepted
  pub backed : (shape : VolumeShape) (s : State) (bid accepted index : ℕ) → Kept shape s → IsEarned shape s bid accepted → s.puts.accepted bid index ≡ true → WasAccepted s.post.given bid index
  pub current : (shape : VolumeShape) (s : State) (bid accepted : ℕ) (g : Given) → Kept shape s → IsEarned shape s bid accepted → IsIn g s.post.given → accepts_put bid g.request g.answer ≡ true
      → is_current s.manager.homes (place_of g.request) ≡ true

-- What a run says of a blob, its last state has.
pub record RunsAreBorneOut : Type 0 where
  pub begun : (shape : VolumeShape) (w v : World) (steps : List Step) (bid : ℕ) (payload : List ℕ) → IsLegalRun shape w steps v → IsBegun steps bid payload
      → (is_begun (v.state.puts.status bid) ≡ true) × (v.state.puts.payload bid ≡ payload)
  pub acked : (shape : VolumeShape) (w v : World) (steps : List Step) (bid : ℕ) → IsLegalRun shape w steps v → IsAcked steps bid → is_acked (v.state.puts.status bid) ≡ true
  pub committed : (shape : VolumeShape) (w v : World) (steps : List Step) (bid : ℕ) → IsLegalRun shape w steps v → IsCommitted steps bid → is_in bid v.state.manager.committed ≡ true
  pub undeleted : (shape : VolumeShape) (w v : World) (steps : List Step) (bid : ℕ) → is_in bid w.state.manager.asked ≡ false → (w.state.manager.doubt ≡ Some (ManagerRecord.Asked bid) → ⊥)
      → IsLegalRun shape w steps v → IsUndeleted steps bid → is_in bid v.state.manager.asked ≡ false

-- In a volume from its making on: a blob that was acknowledged and not deleted can be read from any units that are enough to see and
-- aren't broken, and one that was committed from none at all.
pub record RunsStayReadable : Type 0 where
  pub acked : (shape : VolumeShape) (homes : List Location) (is_made : Place → Bool) (w v : World) (steps : List Step) (bid : ℕ) (chosen : ℕ → Bool) → IsVolumeShape shape → AreFirstHomes shape homes
      → ((p : Place) → is_made p ≡ true → (p.index < shape.total) × (p ≡ current homes p.index)) → w.state ≡ fresh homes is_made → IsLegalRun shape w steps v → IsAcked steps bid → IsUndeleted steps bid
      → ((i : ℕ) → i < shape.total → chosen i ≡ true → v.state.broken (home_at v.state.manager.homes i).disk ≡ false) → shape.sight ≤ count_below shape.total chosen
      → shape.data_count ≤ count_below shape.total (λ i. chosen i && holds v.state bid i)
  pub committed : (shape : VolumeShape) (homes : List Location) (is_made : Place → Bool) (w v : World) (steps : List Step) (bid : ℕ) → IsVolumeShape shape → AreFirstHomes shape homes
      → ((p : Place) → is_made p ≡ true → (p.index < shape.total) × (p ≡ current homes p.index)) → w.state ≡ fresh homes is_made → IsLegalRun shape w steps v → IsCommitted steps bid
      → count_below shape.total (holds v.state bid) < shape.data_count

-- a volume as made, with the units of its first homes
pub record IsAsMade (shape : VolumeShape) (s : State) : Type 0 where
  pub homes : List Location
  pub is_made : Place → Bool
  pub legal : AreFirstHomes shape homes
  pub made : (p : Place) → is_made p ≡ true → (p.index < shape.total) × (p ≡ current homes p.index)
  pub state : s ≡ fresh homes is_made

-- a unit stands: it was made and not released, and its disk isn't broken
pub record IsStanding (s : State) (place : Place) : Type 0 where
  pub made : s.units.is_made place ≡ true
  pub unreleased : s.units.is_released place ≡ false
  pub unbroken : s.broken place.disk ≡ false

-- a unit on an unbroken disk has a record in doubt
pub record IsDoubtful (s : State) (place : Place) : Type 0 where
  pub doubtful : is_some (s.units.doubt place) ≡ true
  pub unbroken : s.broken place.disk ≡ false

-- at most one place on each disk has it
abbrev pub IsOneADisk : (Place → Type 0) → Type 0
IsOneADisk Has = (p q : Place) → Has p → Has q → p.disk ≡ q.disk → p ≡ q

-- From a volume's making on at most one unit stands on each disk: after any list of moves, and after any run.
pub record DisksHoldOneUnit : Type 0 where
  pub moves : (shape : VolumeShape) (s t : State) (moves : List Move) → IsVolumeShape shape → IsAsMade shape s → MovesAll shape s moves t → IsOneADisk (IsStanding t)
  pub runs : (shape : VolumeShape) (w v : World) (steps : List Step) → IsVolumeShape shape → IsAsMade shape w.state → IsLegalRun shape w steps v → IsOneADisk (IsStanding v.state)

-- .. and on each at most one unit has a record in doubt
pub record DoubtsAreSingle : Type 0 where
  pub moves : (shape : VolumeShape) (s t : State) (moves : List Move) → IsVolumeShape shape → IsAsMade shape s → MovesAll shape s moves t → IsOneADisk (IsDoubtful t)
  pub runs : (shape : VolumeShape) (w v : World) (steps : List Step) → IsVolumeShape shape → IsAsMade shape w.state → IsLegalRun shape w steps v → IsOneADisk (IsDoubtful v.state)
