-- What becomes of an object that a turn put, and when a put is acknowledged.
use Rattle.std.specs.Prelude.{ℕ, ◌≡◌, ◌+◌, ◌<◌, false, List, [], ◌++◌, length, slice_index_or, Ok}
use Rattle.unit_id.specs.Lists.{IsIn, is_in}
use Rattle.volume_entry.specs.declared.view.View.{View}
use Rattle.volume_world.specs.declared.event.Event.TheVariants as events
use Rattle.volume_world.specs.declared.reply.Reply.{Reply}
use Rattle.volume_world.specs.declared.reply.Reply.TheVariants as volume_replies
use Rattle.volume_world.specs.Run.{World}
use Rattle.volume_world.specs.Laws.{IsEarned}
use Rattle.volume_world.specs.Way.{Origin, shape_of}
use Rattle.volume_world.specs.Possible.{IsPossible}
use Rattle.volume_world.specs.Course.{Part, PartLeads, PartsLead}
use Rattle.blob_access.specs.Causes.{HasFailedRead, AreFewBroken, AreFiveVersions}
use Rattle.object_access.specs.Pieces.{blob_count, pieces_of}
use Rattle.volume_turns.specs.declared.command.VolumeCommand.TheVariants as commands
use Rattle.volume_turns.specs.declared.reply.VolumeReply.{VolumeReply}
use Rattle.volume_turns.specs.declared.reply.VolumeReply.TheVariants as replies
use Rattle.volume_turns.specs.Session.{Turn, IsTurn, AreTurns, TurnLeads, TurnsLead}

-- the turn put this object under numbers from this one on
pub record HasPut (turn : Turn) (first : ℕ) (object : List ℕ) : Type 0 where
  pub command : turn.command ≡ commands.Put first object
  pub reply : turn.result ≡ Ok replies.Put

-- A turn of a session: the turns before it led from a state in which the volume may be to the one before the turn, and it leads on from there.
pub record IsBehind (origin : Origin) (w : World) (before : List Turn) (t : World) (turn : Turn) (u : World) : Type 0 where
  pub possible : IsPossible origin w
  pub each : AreTurns origin before
  pub led : TurnsLead origin w before t
  pub own : IsTurn origin turn
  pub leads : TurnLeads origin t turn u

-- ---- other bytes

-- No get of an object that an earlier turn put shows other bytes than that put's, and no fetch of a blob of it other bytes than the blob's.
pub record PutsAreShown : Type 0 where
  pub got : (origin : Origin) (before : List Turn) (put get : Turn) (first : ℕ) (object bytes : List ℕ) (w t u : World) → IsBehind origin w before t get u → IsIn put before → HasPut put first object
      → get.command ≡ commands.Get first (length object) → get.result ≡ Ok (replies.Got bytes) → bytes ≡ object
  pub fetched : (origin : Origin) (before : List Turn) (put fetch : Turn) (first place size : ℕ) (object bytes : List ℕ) (w t u : World) → IsBehind origin w before t fetch u → IsIn put before → HasPut put first object
      → place < blob_count (length object) → fetch.command ≡ commands.Fetch (first + place) size → fetch.result ≡ Ok (replies.Fetched bytes) → bytes ≡ slice_index_or (pieces_of object) place []

-- ---- acknowledgement

-- the end of the blob's put was acknowledged in this stretch
pub record IsAckedIn (parts : List Part) (bid : ℕ) : Type 0 where
  pub accepted : ℕ
  pub there : IsIn (Part.Asking (events.End bid) (volume_replies.Acked accepted)) parts

-- .. and that of each of so many blobs
abbrev pub AreAckedIn : List Part → ℕ → ℕ → Type 0
AreAckedIn parts first count = (k : ℕ) → k < count → IsAckedIn parts (first + k)

-- The reply is that an object is put exactly where the ends of all its blobs are acknowledged, unless the turn breaks off. An end is so where it
-- finds enough accepted indexes, and its time is before the lease end that the blob's begin saw.
pub record PutsAreEarned : Type 0 where
  pub acked : (origin : Origin) (turn : Turn) (first : ℕ) (object : List ℕ) → IsTurn origin turn → HasPut turn first object → AreAckedIn turn.parts first (blob_count (length object))
  pub put : (origin : Origin) (turn : Turn) (first : ℕ) (object : List ℕ) (reply : VolumeReply) → IsTurn origin turn → turn.command ≡ commands.Put first object → turn.result ≡ Ok reply
      → AreAckedIn turn.parts first (blob_count (length object)) → reply ≡ replies.Put
  pub earned : (origin : Origin) (w v : World) (bid accepted : ℕ) → PartLeads origin w (Part.Asking (events.End bid) (volume_replies.Acked accepted)) v → IsEarned (shape_of origin) w.state bid accepted

-- ---- availability

-- Nothing stands against the get of so many blobs: none is asked to be deleted, no read of them fails, few units are on broken disks in each state
-- of the turn, each look is heard, and no five looks show versions each later than the one before.
pub record IsUndisturbed (origin : Origin) (first count : ℕ) (t : World) (parts : List Part) (u : World) : Type 0 where
  pub unasked : (k : ℕ) → k < count → is_in (first + k) u.state.manager.asked ≡ false
  pub heard : (k : ℕ) → k < count → HasFailedRead (first + k) parts → ⊥
  pub few_broken : (front back : List Part) (x : World) → parts ≡ front ++ back → PartsLead origin t front x → PartsLead origin x back u → AreFewBroken (shape_of origin) x.state
  pub seen : (reply : Reply) → IsIn (Part.Asking events.Look reply) parts → (view : View) × (reply ≡ volume_replies.Seen view)
  pub still : (versions : List ℕ) → AreFiveVersions parts versions → ⊥

-- A get of an object that an earlier turn put, against which nothing stands, has the bytes of that put, if it has a reply.
abbrev pub PutObjectsAreGot : Type 0
PutObjectsAreGot =
    (origin : Origin) (before : List Turn) (put get : Turn) (first : ℕ) (object : List ℕ) (reply : VolumeReply) (w t u : World) → IsBehind origin w before t get u → IsIn put before → HasPut put first object
    → get.command ≡ commands.Get first (length object) → get.result ≡ Ok reply → IsUndisturbed origin first (blob_count (length object)) t get.parts u → get.result ≡ Ok (replies.Got object)
