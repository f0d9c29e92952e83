-- From what a unit at work answers to what its station does.
use Rattle.std.proofs.Common.{◌≡◌, refl, ℕ, Bool, true, false, List}
use Rattle.unit_id.specs.UnitName.{Name}
use Rattle.unit_id.specs.Messages.{place_at, request_of, vid_of}
use Rattle.unit_id.specs.Request.{Request, Answer, place_of}
use Rattle.unit_id.specs.declared.request.Request as sent
use Rattle.unit_id.specs.declared.request.Request.TheVariants as requests
use Rattle.unit_id.specs.declared.answer.Answer as answered
use Rattle.unit_id.specs.declared.answer.Answer.TheVariants as answers
use Rattle.shard_record.specs.declared.record.ShardRecord.{ShardRecord}
use Rattle.blob_node.specs.UnitAnswer.{UnitView, Effect, IsServed, IsAtWork, Works, Creates, Holds, Serves, Answers}
use Rattle.blob_node.specs.Holding.{ShowsBytes}
use Rattle.blob_node.specs.HeldUnit.{name_of, disk_of, is_create}
use Rattle.blob_node.proofs.Holdings.{never_both}

-- ---- requests

pub place_is : (request : sent.Request) → place_of (request_of request) ≡ place_at (name_of request) (disk_of request)
place_is (requests.Create unit disk) = refl
place_is (requests.Fence unit disk lock) = refl
place_is (requests.Put unit disk bid blob_size bytes) = refl
place_is (requests.Read unit disk bid) = refl
place_is (requests.List unit disk lock) = refl
place_is (requests.Copy unit disk bid blob_size bytes) = refl
place_is (requests.Mark unit disk bid) = refl
place_is (requests.Free unit disk bid) = refl
place_is (requests.Release unit disk) = refl

pub vid_is : (request : sent.Request) → vid_of request ≡ (name_of request).vid
vid_is (requests.Create unit disk) = refl
vid_is (requests.Fence unit disk lock) = refl
vid_is (requests.Put unit disk bid blob_size bytes) = refl
vid_is (requests.Read unit disk bid) = refl
vid_is (requests.List unit disk lock) = refl
vid_is (requests.Copy unit disk bid blob_size bytes) = refl
vid_is (requests.Mark unit disk bid) = refl
vid_is (requests.Free unit disk bid) = refl
vid_is (requests.Release unit disk) = refl

-- an answer with no bytes of a shard
abbrev pub is_live : answered.Answer → Bool
is_live (answers.Live blob_size bytes) = true
is_live answer = false

read_shows : (unit : Name) (disk bid : ℕ) (answer : answered.Answer) (items : List ShardRecord) → is_live answer ≡ false → ShowsBytes (requests.Read unit disk bid) answer items
read_shows unit disk bid answers.Done items calm = tt
read_shows unit disk bid answers.Already items calm = tt
read_shows unit disk bid (answers.Live blob_size bytes) items calm = absurd (never_both true calm refl)
read_shows unit disk bid answers.Marked items calm = tt
read_shows unit disk bid answers.Gone items calm = tt
read_shows unit disk bid answers.Absent items calm = tt
read_shows unit disk bid (answers.Listing lock live marked) items calm = tt
read_shows unit disk bid (answers.Stale have) items calm = tt
read_shows unit disk bid answers.NoUnit items calm = tt
read_shows unit disk bid (answers.Fenced lock) items calm = tt
read_shows unit disk bid answers.Deleted items calm = tt
read_shows unit disk bid answers.NotMarked items calm = tt
read_shows unit disk bid answers.Broken items calm = tt
read_shows unit disk bid (answers.Full end) items calm = tt
read_shows unit disk bid answers.Fault items calm = tt
read_shows unit disk bid (answers.Damaged kept computed) items calm = tt
read_shows unit disk bid (answers.Spoiled at) items calm = tt

pub shows_none : (request : sent.Request) (answer : answered.Answer) (items : List ShardRecord) → is_live answer ≡ false → ShowsBytes request answer items
shows_none (requests.Create unit disk) answer items calm = tt
shows_none (requests.Fence unit disk lock) answer items calm = tt
shows_none (requests.Put unit disk bid blob_size bytes) answer items calm = tt
shows_none (requests.Read unit disk bid) answer items calm = read_shows unit disk bid answer items calm
shows_none (requests.List unit disk lock) answer items calm = tt
shows_none (requests.Copy unit disk bid blob_size bytes) answer items calm = tt
shows_none (requests.Mark unit disk bid) answer items calm = tt
shows_none (requests.Free unit disk bid) answer items calm = tt
shows_none (requests.Release unit disk) answer items calm = tt

-- ---- a unit at work

module _ (view : UnitView) where
  works_none : (request : Request) → Works view request Answer.NoUnit Effect.Nothing → ⊥
  works_none (Request.Create place) works = works
  works_none (Request.Fence place lock) works = works
  works_none (Request.Put place bid) works = works
  works_none (Request.Read place bid) works = works
  works_none (Request.List place lock) works = works
  works_none (Request.Copy place bid) works = works
  works_none (Request.Mark place bid) works = works
  works_none (Request.Free place bid) works = works
  works_none (Request.Release place) works = works

  works_fault : (request : Request) → Works view request Answer.Fault Effect.Nothing → ⊥
  works_fault (Request.Create place) works = works
  works_fault (Request.Fence place lock) works = works
  works_fault (Request.Put place bid) works = works
  works_fault (Request.Read place bid) works = works
  works_fault (Request.List place lock) works = works
  works_fault (Request.Copy place bid) works = works
  works_fault (Request.Mark place bid) works = works
  works_fault (Request.Free place bid) works = works
  works_fault (Request.Release place) works = works

  works_broken : (request : Request) (effect : Effect) → Works view request Answer.Broken effect → ⊥
  works_broken (Request.Create place) effect works = works
  works_broken (Request.Fence place lock) effect works = works
  works_broken (Request.Put place bid) effect works = works
  works_broken (Request.Read place bid) effect works = works
  works_broken (Request.List place lock) effect works = works
  works_broken (Request.Copy place bid) effect works = works
  works_broken (Request.Mark place bid) effect works = works
  works_broken (Request.Free place bid) effect works = works
  works_broken (Request.Release place) effect works = works

  works_stale : (request : Request) (have : ℕ) (effect : Effect) → Works view request (Answer.Stale have) effect → ⊥
  works_stale (Request.Create place) have effect works = works
  works_stale (Request.Fence place lock) have effect works = works
  works_stale (Request.Put place bid) have effect works = works
  works_stale (Request.Read place bid) have effect works = works
  works_stale (Request.List place lock) have effect works = works
  works_stale (Request.Copy place bid) have effect works = works
  works_stale (Request.Mark place bid) have effect works = works
  works_stale (Request.Free place bid) have effect works = works
  works_stale (Request.Release place) have effect works = works

  works_holds : (request : Request) (answer : Answer) (effect : Effect) → IsAtWork view → Works view request answer effect → Holds view request answer effect
  works_holds request Answer.Done effect held works = (held, works)
  works_holds request Answer.Already effect held works = (held, works)
  works_holds request Answer.Broken effect held works = (held, works)
  works_holds request (Answer.Stale have) effect held works = (held, works)
  works_holds request Answer.NoUnit Effect.Nothing held works = absurd (works_none request works)
  works_holds request Answer.NoUnit Effect.Made held works = (held, works)
  works_holds request Answer.NoUnit Effect.Started held works = (held, works)
  works_holds request Answer.NoUnit Effect.Wrote held works = (held, works)
  works_holds request Answer.NoUnit Effect.Doubted held works = (held, works)
  works_holds request (Answer.Fenced lock) effect held works = (held, works)
  works_holds request Answer.Deleted effect held works = (held, works)
  works_holds request Answer.NotMarked effect held works = (held, works)
  works_holds request Answer.Live effect held works = (held, works)
  works_holds request Answer.Marked effect held works = (held, works)
  works_holds request Answer.Gone effect held works = (held, works)
  works_holds request Answer.Absent effect held works = (held, works)
  works_holds request (Answer.Listing lock shown) effect held works = (held, works)
  works_holds request (Answer.Full end) effect held works = (held, works)
  works_holds request Answer.Fault Effect.Nothing held works = absurd (works_fault request works)
  works_holds request Answer.Fault Effect.Made held works = (held, works)
  works_holds request Answer.Fault Effect.Started held works = (held, works)
  works_holds request Answer.Fault Effect.Wrote held works = (held, works)
  works_holds request Answer.Fault Effect.Doubted held works = (held, works)
  works_holds request (Answer.Damaged kept computed) effect held works = (held, works)
  works_holds request (Answer.Spoiled at) effect held works = (held, works)

  serves_holds : (request : Request) (answer : Answer) (effect : Effect) → (Works view request answer effect) → Holds view request answer effect → Serves view request answer effect
  serves_holds (Request.Create place) answer effect works holds = absurd works
  serves_holds (Request.Fence place lock) answer effect works holds = holds
  serves_holds (Request.Put place bid) answer effect works holds = holds
  serves_holds (Request.Read place bid) answer effect works holds = holds
  serves_holds (Request.List place lock) answer effect works holds = holds
  serves_holds (Request.Copy place bid) answer effect works holds = holds
  serves_holds (Request.Mark place bid) answer effect works holds = holds
  serves_holds (Request.Free place bid) answer effect works holds = holds
  serves_holds (Request.Release place) answer effect works holds = holds

  served_answers : (request : Request) (answer : Answer) (effect : Effect) → Works view request answer effect → IsServed view → Serves view request answer effect → Answers view request answer effect
  served_answers request Answer.Done effect works served serves = (served, serves)
  served_answers request Answer.Already effect works served serves = (served, serves)
  served_answers request Answer.Broken effect works served serves = absurd (works_broken request effect works)
  served_answers request (Answer.Stale have) effect works served serves = absurd (works_stale request have effect works)
  served_answers request Answer.NoUnit effect works served serves = (served, serves)
  served_answers request (Answer.Fenced lock) effect works served serves = (served, serves)
  served_answers request Answer.Deleted effect works served serves = (served, serves)
  served_answers request Answer.NotMarked effect works served serves = (served, serves)
  served_answers request Answer.Live effect works served serves = (served, serves)
  served_answers request Answer.Marked effect works served serves = (served, serves)
  served_answers request Answer.Gone effect works served serves = (served, serves)
  served_answers request Answer.Absent effect works served serves = (served, serves)
  served_answers request (Answer.Listing lock shown) effect works served serves = (served, serves)
  served_answers request (Answer.Full end) effect works served serves = (served, serves)
  served_answers request Answer.Fault effect works served serves = (served, serves)
  served_answers request (Answer.Damaged kept computed) effect works served serves = (served, serves)
  served_answers request (Answer.Spoiled at) effect works served serves = (served, serves)

  -- the answer of a unit at work is the station's
  pub work_answers : (request : Request) (answer : Answer) (effect : Effect) → IsServed view → IsAtWork view → Works view request answer effect → Answers view request answer effect
  work_answers request answer effect served at works = served_answers request answer effect works served (serves_holds request answer effect works (works_holds request answer effect at works))

  -- a request that is no create
  pub serves_other : (request : sent.Request) → is_create request ≡ false → (answer : Answer) (effect : Effect) → Holds view (request_of request) answer effect → Serves view (request_of request) answer effect
  serves_other (requests.Create unit disk) other answer effect holds = absurd (never_both true other refl)
  serves_other (requests.Fence unit disk lock) other answer effect holds = holds
  serves_other (requests.Put unit disk bid blob_size bytes) other answer effect holds = holds
  serves_other (requests.Read unit disk bid) other answer effect holds = holds
  serves_other (requests.List unit disk lock) other answer effect holds = holds
  serves_other (requests.Copy unit disk bid blob_size bytes) other answer effect holds = holds
  serves_other (requests.Mark unit disk bid) other answer effect holds = holds
  serves_other (requests.Free unit disk bid) other answer effect holds = holds
  serves_other (requests.Release unit disk) other answer effect holds = holds

  -- a create
  pub serves_create : (request : sent.Request) → is_create request ≡ true → (answer : Answer) (effect : Effect) → Creates view answer effect → Serves view (request_of request) answer effect
  serves_create (requests.Create unit disk) is answer effect creates = creates
  serves_create (requests.Fence unit disk lock) is answer effect creates = absurd (never_both false refl is)
  serves_create (requests.Put unit disk bid blob_size bytes) is answer effect creates = absurd (never_both false refl is)
  serves_create (requests.Read unit disk bid) is answer effect creates = absurd (never_both false refl is)
  serves_create (requests.List unit disk lock) is answer effect creates = absurd (never_both false refl is)
  serves_create (requests.Copy unit disk bid blob_size bytes) is answer effect creates = absurd (never_both false refl is)
  serves_create (requests.Mark unit disk bid) is answer effect creates = absurd (never_both false refl is)
  serves_create (requests.Free unit disk bid) is answer effect creates = absurd (never_both false refl is)
  serves_create (requests.Release unit disk) is answer effect creates = absurd (never_both false refl is)
