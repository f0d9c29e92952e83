-- A request that is sent, by the fate of its message, and what comes late.
use Rattle.std.specs.Prelude.{ℕ, ◌≡◌, ◌+◌, ◌≤◌, ◌++◌, min, drop, Bool, true, false, List, [], ◌∷◌, IsSome, Result, Ok, Err}
use Rattle.unit_id.specs.Messages.{request_of, answer_of}
use Rattle.unit_id.specs.Request.{Request}
use Rattle.unit_id.specs.declared.request.Request as sent
use Rattle.unit_id.specs.declared.answer.Answer as answered
use Rattle.disk_base.specs.Disk.{FileView}
use Rattle.disk_base.specs.Shelves.{ShelfView}
use Rattle.code_mode.specs.VolumeShape.{last_time}
use Rattle.blob_node.specs.Link.{fates_of, with_fates}
use Rattle.blob_node.specs.declared.fate.Fate.{Fate}
use Rattle.blob_node.specs.declared.fate.Fate.TheVariants as fate
use Rattle.volume_entry.specs.HeardMemory.{HasRoom as HasRoomFor}
use Rattle.volume_entry.specs.Manager.{Manager}
use Rattle.volume_entry.specs.Entry as entries
use Rattle.volume_entry.specs.TableParts.{shape_of}
use Rattle.volume_world.specs.Asking.{FitsRequest}
use Rattle.volume_world.specs.History.{IsNoted}
use Rattle.volume_world.specs.Move.{IsSendable}
use Rattle.volume_world.specs.Origins.{origin_of}
use Rattle.volume_world.specs.Run.{World}
use Rattle.volume_world.specs.Serving.{IsHeardBy, Serves}
use Rattle.volume_world.specs.Stepping.{IsSound, HasRoom, NotDone}
use Rattle.volume_world.specs.World.{WorldOver, Stands}
use Rattle.volume_world.specs.declared.fault.StepFault.{StepFault}
use Rattle.volume_world.specs.declared.fault.StepFault.TheVariants.{HistoryFull, Memory}
use Rattle.volume_world.specs.declared.late.LateItem.{LateItem}
use Rattle.volume_world.specs.declared.late.LateItem.TheVariants as items
use Rattle.volume_world.specs.declared.trace.TraceEvent.TheVariants as kept_event
use Rattle.volume_world.specs.declared.trace.TraceReply.{TraceReply}
use Rattle.volume_world.specs.declared.trace.TraceRequest.{TraceRequest}

-- ---- fates

-- it is handled, and its answer is heard
abbrev pub IsHeardAtOnce : Fate → Type 0
IsHeardAtOnce fate.Pass = Unit {0}
IsHeardAtOnce fate.Again = Unit {0}
IsHeardAtOnce fate.Slow = Unit {0}
IsHeardAtOnce other = ⊥

-- it is handled, and its answer isn't heard, or not yet
abbrev pub IsUnheard : Fate → Type 0
IsUnheard fate.LoseReply = Unit {0}
IsUnheard fate.LateReply = Unit {0}
IsUnheard other = ⊥

-- it isn't handled, or not yet
abbrev pub IsUnhandled : Fate → Type 0
IsUnhandled fate.Lose = Unit {0}
IsUnhandled fate.LateRequest = Unit {0}
IsUnhandled other = ⊥

-- the time at which it is handled
abbrev pub time_behind : Fate → ℕ → ℕ
time_behind fate.Slow time = min (time + 10) last_time
time_behind other time = time

-- what comes late of it
abbrev pub items_of : Fate → sent.Request → answered.Answer → List LateItem
items_of fate.LateReply request answer = items.Answer request answer ∷ []
items_of fate.LateRequest request answer = items.Request request ∷ []
items_of fate.Again request answer = items.Request request ∷ []
items_of other request answer = []

-- ---- requests

-- the blob that is put or copied
abbrev pub bid_of : Request → ℕ
bid_of (Request.Put place bid) = bid
bid_of (Request.Copy place bid) = bid
bid_of request = 0

-- The next fate of a disk is taken, these items come late, and the history has an entry more.
pub record EndsSend {H F : Type 0} (disk : ℕ) (request : TraceRequest) (reply : TraceReply) (added : List LateItem) (old new : WorldOver H F) : Type 0 where
  pub rest : new ≡ record old { planned = with_fates old.planned disk (drop 1 (fates_of old.planned disk)); late = new.late; history = new.history }
  pub late : new.late.items ≡ old.late.items ++ added
  pub noted : IsNoted (record { event = kept_event.Send request; reply = reply }) old.history new.history

module _ {H F : Type 0} (shelf_seen : H → ShelfView F) (seen : F → FileView) where
  -- the request may be sent, in whichever state the volume is
  abbrev pub MaySend : sent.Request → WorldOver H F → Type 0
  MaySend request world = (w : World) → Stands shelf_seen seen world w → IsSendable (shape_of world.shape).total w.state.puts.status w.state.manager (request_of request)

  -- .. or it may not
  abbrev pub IsBarred : sent.Request → WorldOver H F → Type 0
  IsBarred request world = (w : World) → Stands shelf_seen seen world w → IsSendable (shape_of world.shape).total w.state.puts.status w.state.manager (request_of request) → ⊥

  abbrev pub TellsSendable : sent.Request → WorldOver H F → Bool → Type 0
  TellsSendable request world true = MaySend request world
  TellsSendable request world false = IsBarred request world

  -- there is room for what comes late, and for what is heard
  pub record IsReady (request : sent.Request) (world : WorldOver H F) : Type 0 where
    pub sound : IsSound shelf_seen seen world
    pub room : HasRoom shelf_seen seen 2 world
    pub is_open : IsSome world.entry.book.log.end
    pub fits : FitsRequest (origin_of shelf_seen seen world) request
    pub late : 1 ≤ world.late.spare
    pub heard : HasRoomFor world.entry.heard

  -- there may be more room for both
  pub record IsRoomier (old new : WorldOver H F) : Type 0 where
    pub rest : new ≡ record old { entry = new.entry; late = new.late }
    pub book : new.entry.book ≡ old.entry.book
    pub broken : new.entry.broken ≡ old.entry.broken
    pub stands : (m : Manager) → entries.Stands seen old.entry m → entries.Stands seen new.entry m
    pub items : new.late.items ≡ old.late.items

  -- a request is served, and its answer heard
  pub record ServesHeard (request : sent.Request) (answer : answered.Answer) (old new : WorldOver H F) : Type 0 where
    pub served : WorldOver H F
    pub serves : Serves shelf_seen seen request (Ok answer) old served
    pub rest : new ≡ record served { entry = new.entry; puts = new.puts }
    pub book : new.entry.book ≡ served.entry.book
    pub broken : new.entry.broken ≡ served.entry.broken
    pub heard : IsHeardBy shelf_seen seen request answer served new (Ok tt)

  -- a request is served, and for want of memory only a log that was shut is started
  abbrev pub HandlesBy : sent.Request → Result answered.Answer StepFault → WorldOver H F → WorldOver H F → Type 0
  HandlesBy request (Ok answer) old new = Serves shelf_seen seen request (Ok answer) old new
  HandlesBy request (Err Memory) old new = NotDone shelf_seen seen 1 old new
  HandlesBy request (Err HistoryFull) old new = ⊥

  -- .. and its answer is heard
  abbrev pub HearsBy : sent.Request → Result answered.Answer StepFault → WorldOver H F → WorldOver H F → Type 0
  HearsBy request (Ok answer) old new = ServesHeard request answer old new
  HearsBy request (Err Memory) old new = NotDone shelf_seen seen 1 old new
  HearsBy request (Err HistoryFull) old new = ⊥
