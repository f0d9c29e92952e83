-- What a request that is served leads to, from every state for which a world stands.
use Rattle.std.proofs.Common.{◌≡◌, ◌∙◌, sym, ap, refl, subst, ℕ, ◌≤◌, Bool, true, false, inl, List, [], ◌∷◌, Option, Some, None, Result, Ok, Err, length}
use Rattle.std.specs.Prelude.{is_some}
use Rattle.unit_id.specs.Lists.{IsIn}
use Rattle.unit_id.specs.Place.{Place}
use Rattle.unit_id.specs.Messages.{request_of, answer_of}
use Rattle.unit_id.specs.Request.{Request, Answer, place_of}
use Rattle.unit_id.specs.declared.request.Request as sent
use Rattle.unit_id.specs.declared.request.Request.TheVariants as requests
use Rattle.unit_id.specs.declared.answer.Answer as answered
use Rattle.unit_id.specs.declared.answer.Answer.TheVariants as answers
use Rattle.disk_base.specs.Disk.{FileView}
use Rattle.disk_base.specs.Shelves.{ShelfView}
use Rattle.disk_base.specs.declared.fault.NoMemory.{NoMemory}
use Rattle.code_mode.specs.declared.mode.Mode.{Mode}
use Rattle.shard_record.specs.declared.record.ShardRecord.{ShardRecord}
use Rattle.blob_node.specs.Units.{Units, with_at}
use Rattle.blob_node.specs.UnitAnswer.{UnitView, Effect, Answers, Serves as UnitServes, started, units_after, view_at}
use Rattle.blob_node.specs.HeldUnit.{settled_by, written_by, disk_of}
use Rattle.blob_node.specs.Holding.{Written, item_of, written_after, ShowsBytes}
use Rattle.blob_node.specs.Station.{StationOver}
use Rattle.blob_node.proofs.Standing.{SameAt}
use Rattle.volume_entry.specs.Entry.{is_broken}
use Rattle.volume_entry.specs.HeardCalls.{is_listing}
use Rattle.volume_entry.specs.Reply.{Reply}
use Rattle.volume_world.specs.Asking.{FitsRequest}
use Rattle.volume_world.specs.Course.{Part, GivesRight, PartsLead}
use Rattle.volume_world.specs.Event.{Event}
use Rattle.volume_world.specs.Origins.{origin_of}
use Rattle.volume_world.specs.Run.{World}
use Rattle.volume_world.specs.History.{AreNoted}
use Rattle.volume_world.specs.Serving.{told_of, settles_of, once_settled, HandlesIn, IsAsked, AnswersIn, ServesIn, CountsFault, Serves}
use Rattle.volume_world.specs.State.{Puts, State}
use Rattle.volume_world.specs.Stations.{StationsOver, AllOutlast, AllStand, is_broken_on, Handles, Handled, StationsCall, TellsDoubt}
use Rattle.volume_world.specs.Stations as all
use Rattle.volume_world.specs.Stepping.{IsSound}
use Rattle.volume_world.specs.Way as way
use Rattle.volume_world.specs.World.{WorldOver, Stands, HasBegun, AreBytes, AreAsBegun}
use Rattle.volume_world.specs.declared.fault.StepFault.{StepFault}
use Rattle.volume_world.specs.declared.fault.StepFault.TheVariants.{Memory}
use Rattle.volume_world.proofs.AskedUnits.{asks_unit}
use Rattle.volume_world.proofs.ServingContents.{settled_begun, settled_as_begun, handled_as_begun}
use Rattle.volume_world.proofs.ServingMoves.{settles_as_entry, handles_in, left_by}
use Rattle.volume_world.proofs.ServingUnits.{open_below, all_known}

-- ---- answers

-- a read gives a begun blob's shard
gives_right : (mode : Mode) (puts : Puts) (request : sent.Request) (answer : answered.Answer) (written : Written) → HasBegun mode puts (place_of (request_of request)) written
    → AreBytes puts → ShowsBytes request answer written.items → GivesRight mode puts request answer
gives_right mode puts (requests.Read unit disk bid) (answers.Live blob_size bytes) written begun are_bytes shows =
    let right = begun.rows_are bid blob_size bytes shows in (right.begun, right.right, are_bytes bid right.begun)
gives_right mode puts request answer written begun are_bytes shows = tt

-- a listing is an answer of a chunk that was started, and of nothing more
lists_only : (view : UnitView) (request : Request) (answer : Answer) (effect : Effect) → is_listing answer ≡ true → Answers view request answer effect → effect ≡ Effect.Started
lists_only view request (Answer.Listing number shown) effect is answers = go request effect answers.1 where
  go : (r : Request) (e : Effect) → UnitServes view r (Answer.Listing number shown) e → e ≡ Effect.Started
  go r Effect.Started serves = refl
  go (Request.Create place) e serves = absurd serves
  go r e serves = absurd serves.1
lists_only view request answer effect is answers = absurd (never is)
  where
    never : false ≡ true → ⊥
    never e = cc

-- the same is known of a unit whose chunk was started, where it may count as shut
known_unstarted : (place q : Place) (units : Units) → SameAt units (started place units) q
known_unstarted place q units = record { made = refl; row = refl; fence = refl; released = refl; doubt = refl; shut = open_below place q units.is_shut }

module _ {H F : Type 0} (shelf_seen : H → ShelfView F) (seen : F → FileView) (old new : WorldOver H F) (request : sent.Request)
    (only : new ≡ record old { stations = new.stations; history = new.history }) where
  abbrev asked : Place
  asked = place_of (request_of request)

  -- the stations stand for other units, and nothing else changes
  units_stand : (w : World) (written : Place → Written) (units : Units) → AllStand shelf_seen seen new.stations written units → AreAsBegun old.shape.mode w.state.puts written
      → Stands shelf_seen seen old w → Stands shelf_seen seen new (record w { state = record (w.state) { units = units } })
  units_stand w written units stations begun stands =
      subst (λ (x : WorldOver H F). Stands shelf_seen seen x (record w { state = record (w.state) { units = units } })) (sym only) (record {
        manager = stands.manager;
        written = written;
        stations = stations;
        as_begun = begun;
        puts = stands.puts;
        bytes = stands.bytes;
        posted = stands.posted;
        time = stands.time;
        broken = stands.broken;
        planned = stands.planned;
        late = stands.late;
      })

  module _ (w : World) (stands : Stands shelf_seen seen old w) (broken : (disk : ℕ) → w.state.broken disk ≡ is_broken_on old.stations disk) (first : 1 ≤ asked.disk) (found : Option Bool) where
    -- what is told of the start, and the state behind it
    abbrev told : Option Bool
    told = told_of (is_some (w.state.units.doubt asked)) found

    abbrev behind : World
    behind = record w { state = once_settled asked told w.state }

    -- a settle that is told leads on
    settle_leads : (result : Result answered.Answer NoMemory) → Handles shelf_seen seen request stands.written w.state.units found result old.stations new.stations
        → PartsLead (origin_of shelf_seen seen old) w (settles_of asked.disk told) behind
    settle_leads result handles = go told refl where
      go : (t : Option Bool) → told ≡ t → PartsLead (origin_of shelf_seen seen old) w (settles_of asked.disk t) (record w { state = once_settled asked t w.state })
      go None e = refl
      go (Some b) e = (
        record w { state = once_settled asked (Some b) w.state },
        record {
          step = record { event = Event.Settle asked.disk b; reply = Reply.Done };
          told = record { event = refl; reply = tt };
          leads = inl (settles_as_entry shelf_seen seen old.stations new.stations request stands.written (way.shape_of (origin_of shelf_seen seen old)) w found b result handles broken first e);
        },
        refl,
      )

    -- the request is handled
    handled_in : (answer : answered.Answer) → Handles shelf_seen seen request stands.written w.state.units found (Ok answer) old.stations new.stations → (s : State) → s.units ≡ behind.state.units
        → ((disk : ℕ) → s.broken disk ≡ w.state.broken disk) → IsIn (request_of request) s.post.issued → HandlesIn shelf_seen seen s request stands.written found answer new.stations
    handled_in answer handles s units same issued =
        handles_in shelf_seen seen old.stations new.stations request stands.written w.state.units s (λ disk. same disk ∙ broken disk) issued found answer units handles

    -- .. with the bytes as begun
    answers_in : (answer : answered.Answer) → Handles shelf_seen seen request stands.written w.state.units found (Ok answer) old.stations new.stations → (s : State)
        → IsAsked shelf_seen seen old.shape.mode request behind.state s → AnswersIn shelf_seen seen old.shape.mode request answer s new.stations
    answers_in answer handles s is =
        let h = handled_in answer handles s is.units is.broken is.issued in
        let begun : AreAsBegun old.shape.mode s.puts stands.written = subst (λ (puts : Puts). AreAsBegun old.shape.mode puts stands.written) (sym is.puts) stands.as_begun in
        record {
          effect = h.effect;
          handles = h.handles;
          written = with_at asked (written_after h.effect (item_of request) (written_by found (stands.written asked))) stands.written;
          stand = h.stand;
          as_begun = handled_as_begun old.shape.mode s.puts request found h.effect stands.written is.carries begun;
          right = gives_right old.shape.mode s.puts request answer (written_by found (stands.written asked))
              (settled_begun old.shape.mode s.puts asked found (stands.written asked) (begun asked)) (subst AreBytes (sym is.puts) stands.bytes) h.bytes;
        }

    -- a listing leaves what stood before
    unlisted : (answer : answered.Answer) → Handles shelf_seen seen request stands.written w.state.units found (Ok answer) old.stations new.stations → is_listing (answer_of answer) ≡ true
        → Stands shelf_seen seen new behind
    unlisted answer handles listing =
        let issued : State = record (behind.state) { post = record (w.state.post) { issued = request_of request ∷ w.state.post.issued } } in
        let h = handled_in answer handles issued refl (λ disk. refl) (inl refl) in
        let starts = lists_only (view_at issued.broken issued.units asked) (request_of request) (answer_of answer) h.effect listing h.handles.1 in
        let stations : AllStand shelf_seen seen new.stations (with_at asked (written_by found (stands.written asked)) stands.written) (started asked behind.state.units) =
        subst (λ (effect : Effect). AllStand shelf_seen seen new.stations (with_at asked (written_after effect (item_of request) (written_by found (stands.written asked))) stands.written)
        (units_after asked (request_of request) effect behind.state.units)) starts h.stand in
        let written = with_at asked (written_by found (stands.written asked)) stands.written in
        units_stand w written behind.state.units
        (all_known shelf_seen seen new.stations written (started asked behind.state.units) behind.state.units (λ q. known_unstarted asked q behind.state.units) stations)
        (settled_as_begun old.shape.mode w.state.puts asked found stands.written stands.as_begun) stands

    serves_told : (answer : answered.Answer) → Handles shelf_seen seen request stands.written w.state.units found (Ok answer) old.stations new.stations
        → ServesIn shelf_seen seen request told w (Ok answer) old new
    serves_told answer handles = record {
      then_ = behind;
      same = refl;
      leads = settle_leads (Ok answer) handles;
      serves = (answers_in answer handles, unlisted answer handles);
    }

    leaves_told : (fault : NoMemory) → Handles shelf_seen seen request stands.written w.state.units found (Err fault) old.stations new.stations
        → ServesIn shelf_seen seen request told w (Err Memory) old new
    leaves_told fault handles = record {
      then_ = behind;
      same = refl;
      leads = settle_leads (Err fault) handles;
      serves = units_stand w (with_at asked (written_by found (stands.written asked)) stands.written) behind.state.units
          (left_by shelf_seen seen old.stations new.stations request stands.written w.state.units found fault handles)
          (settled_as_begun old.shape.mode w.state.puts asked found stands.written stands.as_begun) stands;
    }

    -- the request is served
    pub serves_in : (in_doubt : Bool) (answer : answered.Answer) → TellsDoubt shelf_seen seen request old.stations in_doubt
        → Handled shelf_seen seen request found (Ok answer) old.stations new.stations → ServesIn shelf_seen seen request (told_of in_doubt found) w (Ok answer) old new
    serves_in in_doubt answer tells handled =
        subst (λ (b : Bool). ServesIn shelf_seen seen request (told_of b found) w (Ok answer) old new) (sym (tells stands.written w.state.units stands.stations))
        (serves_told answer (handled stands.written w.state.units stands.stations))

    -- .. or isn't, for want of memory
    pub leaves_in : (in_doubt : Bool) (fault : NoMemory) → TellsDoubt shelf_seen seen request old.stations in_doubt
        → Handled shelf_seen seen request found (Err fault) old.stations new.stations → ServesIn shelf_seen seen request (told_of in_doubt found) w (Err Memory) old new
    leaves_in in_doubt fault tells handled =
        subst (λ (b : Bool). ServesIn shelf_seen seen request (told_of b found) w (Err Memory) old new) (sym (tells stands.written w.state.units stands.stations))
        (leaves_told fault (handled stands.written w.state.units stands.stations))

-- ---- a call on the stations

-- want of memory as the world tells it
abbrev pub as_step : Result answered.Answer NoMemory → Result answered.Answer StepFault
as_step (Ok answer) = Ok answer
as_step (Err fault) = Err Memory

module _ {H F : Type 0} (shelf_seen : H → ShelfView F) (seen : F → FileView) (request : sent.Request) where
  counted : (before now : List (StationOver H F)) (result : Result answered.Answer NoMemory) → all.CountsFault shelf_seen seen before now result
      → CountsFault (all.faults_of shelf_seen seen before) (all.faults_of shelf_seen seen now) (as_step result)
  counted before now (Ok answers.Fault) counts = counts
  counted before now (Ok answer) counts = counts
  counted before now (Err fault) counts = counts

  served_result : (old new : WorldOver H F) (only : new ≡ record old { stations = new.stations; history = new.history }) (in_doubt : Bool) (found : Option Bool) (result : Result answered.Answer NoMemory)
      → ((disk : ℕ) → is_broken_on old.stations disk ≡ is_broken old.entry.broken disk) → 1 ≤ disk_of request → TellsDoubt shelf_seen seen request old.stations in_doubt
      → Handled shelf_seen seen request found result old.stations new.stations
      → (w : World) → Stands shelf_seen seen old w → ServesIn shelf_seen seen request (told_of in_doubt found) w (as_step result) old new
  served_result old new only in_doubt found (Ok answer) broken first tells handled w stands =
      serves_in shelf_seen seen old new request only w stands (λ disk. stands.broken disk ∙ sym (broken disk)) first found in_doubt answer tells handled
  served_result old new only in_doubt found (Err fault) broken first tells handled w stands =
      leaves_in shelf_seen seen old new request only w stands (λ disk. stands.broken disk ∙ sym (broken disk)) first found in_doubt fault tells handled

  -- what the stations do for a request is what the world does
  pub served_by : (old new : WorldOver H F) (after : StationsOver H F) (in_doubt : Bool) (found told : Option Bool) (result : Result answered.Answer NoMemory) (disk : ℕ)
      → IsSound shelf_seen seen old → FitsRequest (origin_of shelf_seen seen old) request → TellsDoubt shelf_seen seen request old.stations in_doubt
      → StationsCall shelf_seen seen (record { vid = old.vid; stations = old.stations }) after result → Handled shelf_seen seen request found result old.stations after.stations
      → AllOutlast shelf_seen seen old.stations after.stations → told ≡ told_of in_doubt found → disk ≡ disk_of request
      → new ≡ record old { vid = after.vid; stations = after.stations; history = new.history } → AreNoted (settles_of disk told) old.history new.history
      → Serves shelf_seen seen request (as_step result) old new
  served_by old new after in_doubt found told result disk sound fits tells call handled lasts told_is disk_is rest noted =
      let at : after.stations ≡ new.stations = sym (ap (λ (world : WorldOver H F). world.stations) rest) in
      let only : new ≡ record old { stations = new.stations; history = new.history } = rest ∙ (λ i. record old { vid = call.vid i; stations = at i; history = new.history }) in
      record {
        told = told_of in_doubt found;
        rest = only;
        noted = subst (λ (t : Option Bool). AreNoted (settles_of (disk_of request) t) old.history new.history) told_is
            (subst (λ (d : ℕ). AreNoted (settles_of d told) old.history new.history) disk_is noted);
        lasts = subst (λ (stations : List (StationOver H F)). AllOutlast shelf_seen seen old.stations stations) at lasts;
        count = ap length (sym at) ∙ call.count;
        broken = λ d. ap (λ (stations : List (StationOver H F)). is_broken_on stations d) (sym at) ∙ call.broken d;
        counts = subst (λ (stations : List (StationOver H F)). CountsFault (all.faults_of shelf_seen seen old.stations) (all.faults_of shelf_seen seen stations) (as_step result)) at
            (counted old.stations after.stations result call.counts);
        serves = served_result old new only in_doubt found result sound.broken (asks_unit (origin_of shelf_seen seen old) request fits).there.first tells
            (subst (λ (stations : List (StationOver H F)). Handled shelf_seen seen request found result old.stations stations) at handled);
      }
