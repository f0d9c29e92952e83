-- A volume in memory and files, and for which state of the protocol it stands.
use Rattle.std.specs.Prelude.{ℕ, ◌≡◌, ◌<◌, ◌≤◌, ◌+◌, ◌^◌, ◌&&◌, Bool, true, List, [], ◌∷◌, map, length, All, Option, Some, IfSome, is_some}
use Rattle.unit_id.specs.Lists.{IsIn}
use Rattle.unit_id.specs.Place.{Location, Place}
use Rattle.unit_id.specs.Messages.{place_at, request_of, answer_of}
use Rattle.unit_id.specs.declared.request.Request.TheVariants as requests
use Rattle.unit_id.specs.declared.request.Request as sent
use Rattle.disk_base.specs.Disk.{FileView}
use Rattle.disk_base.specs.Shelves.{ShelfView}
use Rattle.shard_record.specs.Rows.{row_at}
use Rattle.shard_record.specs.Rows as rows
use Rattle.shard_record.specs.declared.record.ShardRecord.{ShardRecord}
use Rattle.shard_record.specs.declared.record.ShardRecord.TheVariants as records
use Rattle.code_mode.specs.declared.mode.Mode.{Mode}
use Rattle.code_mode.specs.PayloadShard.{PayloadShard}
use Rattle.blob_node.specs.declared.fate.Fate.{Fate}
use Rattle.blob_node.specs.Holding.{Written}
use Rattle.blob_node.specs.Station.{StationOver}
use Rattle.volume_entry.specs.declared.shape.Shape.{Shape}
use Rattle.volume_entry.specs.TableParts.{shape_of}
use Rattle.volume_entry.specs.Entry.{EntryOver, is_broken}
use Rattle.volume_entry.specs.Entry as entries
use Rattle.volume_world.specs.State.{Puts, Post}
use Rattle.volume_world.specs.BlobStatus.{is_begun}
use Rattle.volume_world.specs.Run.{World}
use Rattle.volume_world.specs.Contents.{begun_shard}
use Rattle.volume_world.specs.Mailbag.{KeptLate, HasPlanned, late_told}
use Rattle.volume_world.specs.PutBook.{KeptPuts, Books}
use Rattle.volume_world.specs.Stations.{AllStand}
use Rattle.volume_world.specs.declared.late.LateItem.{LateItem}
use Rattle.volume_world.specs.declared.late.LateItem.TheVariants as items
use Rattle.volume_world.specs.History.{KeptHistory}

-- The volume's number, mode and disks; the homes with which it was made; its stations, by disk; the manager's part; its puts; what is planned
-- for messages, and those that come late; the clock; and the history.
pub record WorldOver (H F : Type 0) : Type 0 where
  pub vid : ℕ
  pub shape : Shape
  pub first : List Location
  pub stations : List (StationOver H F)
  pub entry : EntryOver F
  pub puts : KeptPuts
  pub planned : List (List Fate)
  pub late : KeptLate
  pub time : ℕ
  pub history : KeptHistory

-- the shard is the one that belongs to the unit, of the payload with which the blob was begun
pub record IsBegunShard (mode : Mode) (puts : Puts) (place : Place) (bid : ℕ) (shard : PayloadShard) : Type 0 where
  pub begun : is_begun (puts.status bid) ≡ true
  pub right : shard ≡ begun_shard mode puts place bid

-- .. that a request carries
abbrev pub CarriesBegun : Mode → Puts → sent.Request → Type 0
CarriesBegun mode puts (requests.Put unit disk bid blob_size bytes) = IsBegunShard mode puts (place_at unit disk) bid (record { blob_size = blob_size; bytes = bytes })
CarriesBegun mode puts (requests.Copy unit disk bid blob_size bytes) = IsBegunShard mode puts (place_at unit disk) bid (record { blob_size = blob_size; bytes = bytes })
CarriesBegun mode puts request = Unit {0}

-- .. that a record in doubt has
abbrev pub HasBegunRecord : Mode → Puts → Place → ShardRecord → Type 0
HasBegunRecord mode puts place (records.Shard bid unit blob_size bytes) = IsBegunShard mode puts place bid (record { blob_size = blob_size; bytes = bytes })
HasBegunRecord mode puts place item = Unit {0}

-- .. that stand in live rows of a unit, and in its record in doubt
pub record HasBegun (mode : Mode) (puts : Puts) (place : Place) (written : Written) : Type 0 where
  pub rows_are : (bid blob_size : ℕ) (bytes : List ℕ) → row_at written.items bid ≡ Some (rows.Live blob_size bytes) → IsBegunShard mode puts place bid (record { blob_size = blob_size; bytes = bytes })
  pub doubt_is : IfSome written.doubt (HasBegunRecord mode puts place)

-- what comes late was sent, or answered
abbrev pub IsPosted : Mode → Puts → Post → LateItem → Type 0
IsPosted mode puts post (items.Request request) = IsIn (request_of request) post.issued × CarriesBegun mode puts request
IsPosted mode puts post (items.Answer request answer) = IsIn (record { request = request_of request; answer = answer_of answer }) post.given

-- a begun blob's payload consists of bytes
abbrev pub AreBytes : Puts → Type 0
AreBytes puts = (bid : ℕ) → is_begun (puts.status bid) ≡ true → All (λ b. b < 256) (puts.payload bid)

-- each of these is so
abbrev pub ArePosted : Mode → Puts → Post → List LateItem → Type 0
ArePosted mode puts post late = (item : LateItem) → IsIn item late → IsPosted mode puts post item

-- the bytes that units keep are those with which their blobs were begun
abbrev pub AreAsBegun : Mode → Puts → (Place → Written) → Type 0
AreAsBegun mode puts written = (place : Place) → HasBegun mode puts place (written place)

module _ {H F : Type 0} (shelf_seen : H → ShelfView F) (seen : F → FileView) where
  -- Memory and files stand for this state: the manager's part, the units with the bytes of their shards, the puts, what is planned and what
  -- comes late, the clock, and which disks are broken.
  pub record Stands (world : WorldOver H F) (w : World) : Type 0 where
    pub manager : entries.Stands seen world.entry w.state.manager
    pub written : Place → Written
    pub stations : AllStand shelf_seen seen world.stations written w.state.units
    pub as_begun : AreAsBegun world.shape.mode w.state.puts written
    pub puts : Books (shape_of world.shape).total world.puts.puts w.state.puts
    pub bytes : AreBytes w.state.puts
    pub posted : ArePosted world.shape.mode w.state.puts w.state.post world.late.items
    pub time : w.state.time ≡ world.time
    pub broken : (disk : ℕ) → w.state.broken disk ≡ is_broken world.entry.broken disk
    pub planned : HasPlanned world.planned w.planned
    pub late : w.late ≡ map late_told world.late.items
