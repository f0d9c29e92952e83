-- The get of one blob: tries, each a look and reads of the units that it doesn't show as broken.
use Rattle.std.specs.Prelude.{ℕ, ◌≡◌, ◌≤◌, ◌+◌, Bool, true, false, cond, not, ◌==◌, List, [], ◌∷◌, length, filter, replicate, set, take, reverse, Option, Some, None, Result, Ok, Err, IfOk}
use Rattle.unit_id.specs.declared.homes.Home.{Home}
use Rattle.unit_id.specs.declared.request.Request.TheVariants as requests
use Rattle.unit_id.specs.declared.answer.Answer.{Answer}
use Rattle.unit_id.specs.declared.answer.Answer.TheVariants as answers
use Rattle.rs_code.specs.ShardValue.{filled}
use Rattle.code_mode.specs.declared.mode.Mode.{Mode}
use Rattle.code_mode.specs.Mode.{data_count, total_count, shard_size}
use Rattle.code_mode.specs.Stripe.{joined}
use Rattle.volume_entry.specs.declared.view.View.{View}
use Rattle.volume_world.specs.declared.event.Event.{Event}
use Rattle.volume_world.specs.declared.event.Event.TheVariants as events
use Rattle.volume_world.specs.declared.reply.Reply.{Reply}
use Rattle.volume_world.specs.declared.reply.Reply.TheVariants as replies
use Rattle.volume_world.specs.BlobStatus.{is_begun}
use Rattle.volume_world.specs.Run.{World}
use Rattle.volume_world.specs.Way.{WayView, longest_history}
use Rattle.volume_world.specs.Course.{Part, Goes, PartsLead}
use Rattle.volume_world.specs.Call.{Next, Call, IsRest, IsFront}
use Rattle.volume_world.specs.Progress.{AllFit}
use Rattle.blob_access.specs.declared.fault.GetFault.{GetFault}
use Rattle.blob_access.specs.declared.fault.GetFault.TheVariants as faults

-- what is wanted: a blob of so many bytes, of a volume of this mode
pub record Wanted : Type 0 where
  pub mode : Mode
  pub bid : ℕ
  pub size : ℕ

-- The versions that the looks showed, the last first; of this try: how many units its look showed as broken, the shards that were heard live,
-- how many these are, and how many reads had no answer.
pub record Try : Type 0 where
  pub versions : List ℕ
  pub broken : ℕ
  pub shards : List (Option (List ℕ))
  pub live : ℕ
  pub unheard : ℕ

-- Where the units of a try are used up, a look is next. A read has behind it the units that this try can still read.
pub data GetStage : Type 0 where
  First : GetStage
  Again : Try → GetStage
  Read : Try → Home → List Home → GetStage

abbrev pub GetNext : Type 0
GetNext = Next GetStage (Result (List ℕ) GetFault)

abbrev pub get_asks : Wanted → GetStage → Event
get_asks wanted GetStage.First = events.Look
get_asks wanted (GetStage.Again t) = events.Look
get_asks wanted (GetStage.Read t home left) = events.Send (requests.Read home.unit home.disk wanted.bid)

abbrev pub unbroken : List Home → List Home
unbroken homes = filter (λ (home : Home). not home.broken) homes

abbrev pub broken_count : List Home → ℕ
broken_count homes = length (filter (λ (home : Home). home.broken) homes)

-- the next of these units is read; where there is none, a look is next
abbrev pub reading : Try → List Home → GetNext
reading t [] = Next.Go (GetStage.Again t)
reading t (home ∷ left) = Next.Go (GetStage.Read t home left)

-- a try by what a look shows, with no shards
abbrev pub first_read : Mode → List ℕ → View → GetNext
first_read mode versions view =
    reading (record { versions = view.version ∷ versions; broken = broken_count view.units; shards = replicate (total_count mode) None; live = 0; unheard = 0 }) (unbroken view.units)

-- this version stands first
abbrev pub is_last : List ℕ → ℕ → Bool
is_last [] version = false
is_last (last ∷ earlier) version = last == version

-- Where the version is the last one's, the blob is short. Behind a fourth try there is none.
abbrev pub look_again : Mode → Try → View → GetNext
look_again mode t view =
    cond (is_last t.versions view.version) (Next.Over (Err (faults.Short t.live t.unheard t.broken)))
    (cond (length t.versions == 4) (Next.Over (Err (faults.Moving (reverse (view.version ∷ t.versions))))) (first_read mode t.versions view))

-- the blob of these shards: enough of them give all others
abbrev pub decoded : Wanted → List (Option (List ℕ)) → List ℕ
decoded wanted shards = take wanted.size (joined (data_count wanted.mode) (filled (data_count wanted.mode) shards))

abbrev pub with_shard : Try → ℕ → List ℕ → Try
with_shard t index bytes = record t { shards = set t.shards index (Some bytes); live = t.live + 1 }

-- a live row of the size asked for counts, if it has the length of a shard, and with enough of them the blob is decoded; one of another size
-- ends the call
abbrev pub hear_live : Wanted → Try → Home → List Home → ℕ → List ℕ → GetNext
hear_live wanted t home left blob_size bytes =
    cond (blob_size == wanted.size)
    (cond (length bytes == shard_size wanted.mode wanted.size)
    (cond (t.live + 1 == data_count wanted.mode) (Next.Over (Ok (decoded wanted (with_shard t home.unit.index bytes).shards))) (reading (with_shard t home.unit.index bytes) left))
    (reading t left))
    (Next.Over (Err (faults.Size blob_size)))

abbrev pub hear_read : Wanted → Try → Home → List Home → Answer → GetNext
hear_read wanted t home left (answers.Live blob_size bytes) = hear_live wanted t home left blob_size bytes
hear_read wanted t home left answer = reading t left

-- a fault of the manager's log at a look ends the get
abbrev pub unless_failed : Reply → GetNext
unless_failed replies.Fault = Next.Over (Err faults.Fault)
unless_failed (replies.Spoiled place) = Next.Over (Err (faults.Spoiled place))
unless_failed reply = Next.Never

abbrev pub after_first : Wanted → Reply → GetNext
after_first wanted (replies.Seen view) = first_read wanted.mode [] view
after_first wanted reply = unless_failed reply

abbrev pub after_again : Wanted → Try → Reply → GetNext
after_again wanted t (replies.Seen view) = look_again wanted.mode t view
after_again wanted t reply = unless_failed reply

-- A read whose step found the manager's log shut has no answer either.
abbrev pub after_read : Wanted → Try → Home → List Home → Reply → GetNext
after_read wanted t home left (replies.Heard answer) = hear_read wanted t home left answer
after_read wanted t home left replies.Unheard = reading (record t { unheard = t.unheard + 1 }) left
after_read wanted t home left replies.Barred = reading (record t { unheard = t.unheard + 1 }) left
after_read wanted t home left replies.Fault = reading (record t { unheard = t.unheard + 1 }) left
after_read wanted t home left (replies.Spoiled place) = reading (record t { unheard = t.unheard + 1 }) left
after_read wanted t home left reply = Next.Never

abbrev pub get_after : Wanted → GetStage → Reply → GetNext
get_after wanted GetStage.First reply = after_first wanted reply
get_after wanted (GetStage.Again t) reply = after_again wanted t reply
get_after wanted (GetStage.Read t home left) reply = after_read wanted t home left reply

abbrev pub get_call : Wanted → Call GetStage (Result (List ℕ) GetFault)
get_call wanted = record { asks = get_asks wanted; after = get_after wanted }

-- what a get asks in this stretch, and what it answers: where the history is full or memory is out, it breaks off
abbrev pub GetsBy : Wanted → List Part → Result (List ℕ) GetFault → Type 0
GetsBy wanted parts (Err faults.HistoryFull) = IsFront (get_call wanted) (Next.Go GetStage.First) parts
GetsBy wanted parts (Err faults.Memory) = IsFront (get_call wanted) (Next.Go GetStage.First) parts
GetsBy wanted parts result = IsRest (get_call wanted) (Next.Go GetStage.First) parts result

-- the bytes are those with which the blob was begun
pub record IsPayload (w : World) (bid : ℕ) (bytes : List ℕ) : Type 0 where
  pub begun : is_begun (w.state.puts.status bid) ≡ true
  pub payload : w.state.puts.payload bid ≡ bytes

-- A get of a blob over a way. Each reply is one that its event may have. The history is said to be full only where it is. Where files tell, no other bytes come than those of the blob's payload: from each state in which the volume may
-- have been, what was asked led to one in which the blob is begun with them.
pub record Gets (old new : WayView) (bid size : ℕ) (result : Result (List ℕ) GetFault) : Type 0 where
  pub parts : List Part
  pub goes : Goes old new parts
  pub fits : AllFit old.origin parts
  pub call : GetsBy (record { mode = old.origin.mode; bid = bid; size = size }) parts result
  pub full : result ≡ Err faults.HistoryFull → longest_history ≤ length new.entries
  pub bytes : old.origin.is_told ≡ true → IfOk result (λ bytes. (w : World) → old.is_at w → (v : World) × PartsLead old.origin w parts v × new.is_at v × IsPayload v bid bytes)
