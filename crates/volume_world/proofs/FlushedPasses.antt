-- What a world passes through when its first late item arrives.
use Rattle.std.proofs.Common.{◌≡◌, ◌∙◌, sym, ap, refl, subst, ℕ, ◌≤◌, IsSome, true, false, List, [], ◌∷◌, ◌++◌, map, length, Ok, inl, inr, append_assoc, length-append, arith}
use Rattle.unit_id.specs.Lists.{IsIn}
use Rattle.unit_id.specs.Messages.{request_of, answer_of}
use Rattle.unit_id.specs.declared.request.Request as sent
use Rattle.unit_id.specs.declared.answer.Answer as answered
use Rattle.disk_base.specs.Disk.{FileView}
use Rattle.disk_base.specs.Shelves.{ShelfView}
use Rattle.code_mode.specs.VolumeShape.{last_time}
use Rattle.blob_node.specs.HeldUnit.{disk_of}
use Rattle.blob_node.specs.UnitAnswer.{Effect}
use Rattle.volume_entry.specs.Reply.{Reply as ToldReply}
use Rattle.volume_entry.specs.TableParts.{shape_of}
use Rattle.volume_world.specs.Asking.{FitsRequest}
use Rattle.volume_world.specs.Course.{Part, traces_of, fault_count, IsDone, PartsLead}
use Rattle.volume_world.specs.Event.{Event}
use Rattle.volume_world.specs.History.{IsNoted}
use Rattle.volume_world.specs.Mailbag.{late_told}
use Rattle.volume_world.specs.Move.{Handles}
use Rattle.volume_world.specs.Origins.{faults_of, origin_of}
use Rattle.volume_world.specs.Run.{World, Late, Flushes}
use Rattle.volume_world.specs.Serving.{settles_of, once_handled, once_heard, IsAsked, Serves}
use Rattle.volume_world.specs.Stations.{HasDisk}
use Rattle.volume_world.specs.Stepping.{FitsLate, IsSound, Done, NotDone}
use Rattle.volume_world.specs.Trace.{trace_of}
use Rattle.volume_world.specs.Way.{Origin}
use Rattle.volume_world.specs.Way as way
use Rattle.volume_world.specs.World.{WorldOver, Stands}
use Rattle.volume_world.specs.WorldSteps.{LeadsOn}
use Rattle.volume_world.specs.declared.event.Event.TheVariants as events
use Rattle.volume_world.specs.declared.late.LateItem.{LateItem}
use Rattle.volume_world.specs.declared.late.LateItem.TheVariants as items
use Rattle.volume_world.specs.declared.reply.Reply.TheVariants as replies
use Rattle.volume_world.proofs.AskedUnits.{asks_unit}
use Rattle.volume_world.proofs.Passing.{SameVolume, all_late_fit, passes_nothing, passes_asking, passes_beside, no_fault, noted_length}
use Rattle.volume_world.proofs.SentPasses.{OnlyMemory, same_memory, sound_memory, short_memory}
use Rattle.volume_world.proofs.ServedPasses.{settles_settle, settles_few, settles_faultless, faults_stay, answered_stands, served_same, served_sound, served_short}
use Rattle.volume_world.proofs.StepAnswers.{open_by_end}
use Rattle.volume_world.proofs.Stretches.{leads_on, traces_on, faults_more}
use Rattle.volume_world.proofs.WorldFrames.{noted}

-- ---- the entry

module _ (origin : Origin) (request : sent.Request) (answer : answered.Answer) (effect : Effect) (w : World) (rest : List Late) (open_ : w.state.manager.is_shut ≡ false) where
  -- a late request is handled
  request_flushed : w.late ≡ Late.LateRequest (request_of request) ∷ rest
      → Handles w.state (request_of request) (answer_of answer) effect (once_handled request answer effect w.state)
      → IsDone origin w events.FlushOne (replies.Flushed true) (record w { state = once_handled request answer effect w.state; late = rest })
  request_flushed late handles =
      let v : World = record w { state = once_handled request answer effect w.state; late = rest } in
      record {
        step = record { event = Event.FlushOne; reply = ToldReply.Flushed true };
        told = record { event = refl; reply = refl };
        whole = tt;
        leads = inl (
          open_,
          subst (λ (ls : List Late). Flushes (way.shape_of origin) w ls (ToldReply.Flushed true) v) (sym late)
              (refl, (answer_of answer, effect, (v.state, handles, refl)), refl),
        );
      }

  -- a late answer is heard
  answer_flushed : w.late ≡ Late.LateAnswer (request_of request) (answer_of answer) ∷ rest
      → IsIn (record { request = request_of request; answer = answer_of answer }) w.state.post.given
      → IsDone origin w events.FlushOne (replies.Flushed false) (record w { state = once_heard request answer w.state; late = rest })
  answer_flushed late given =
      let v : World = record w { state = once_heard request answer w.state; late = rest } in
      record {
        step = record { event = Event.FlushOne; reply = ToldReply.Flushed false };
        told = record { event = refl; reply = refl };
        whole = tt;
        leads = inl (
          open_,
          subst (λ (ls : List Late). Flushes (way.shape_of origin) w ls (ToldReply.Flushed false) v) (sym late)
              (refl, (v.state, (given, refl), refl), refl),
        );
      }

module _ {H F : Type 0} (shelf_seen : H → ShelfView F) (seen : F → FileView) where
  -- ---- the first item is taken

  -- only what comes late changes, and the history
  abbrev pub OnlyArrived : WorldOver H F → WorldOver H F → Type 0
  OnlyArrived mid new = new ≡ record mid { late = new.late; history = new.history }

  arrived_memory : (mid new : WorldOver H F) → OnlyArrived mid new → mid.time ≤ last_time → length mid.history.entries ≤ length new.history.entries
      → OnlyMemory shelf_seen seen mid new
  arrived_memory mid new only time more = record {
    only = subst (λ (x : WorldOver H F). x ≡ record mid { entry = x.entry; puts = x.puts; planned = x.planned; late = x.late; time = x.time; history = x.history }) (sym only) refl;
    book = ap (λ (x : WorldOver H F). x.entry.book) only;
    broken = ap (λ (x : WorldOver H F). x.entry.broken) only;
    planned = ap (λ (x : WorldOver H F). length x.planned) only;
    time = subst (λ (x : WorldOver H F). x.time ≤ last_time) (sym only) time;
    history = more;
  }

  -- what comes later stood for the protocol already
  arrived_stands : (mid new : WorldOver H F) (item : LateItem) (w : World) → OnlyArrived mid new → mid.late.items ≡ item ∷ new.late.items → Stands shelf_seen seen mid w
      → Stands shelf_seen seen new (record w { late = map late_told new.late.items })
  arrived_stands mid new item w only late stands =
      subst (λ (x : WorldOver H F). Stands shelf_seen seen x (record w { late = map late_told new.late.items })) (sym only) (record {
        manager = stands.manager;
        written = stands.written;
        stations = stands.stations;
        as_begun = stands.as_begun;
        puts = stands.puts;
        bytes = stands.bytes;
        posted = λ other there. stands.posted other (subst (IsIn other) (sym late) (inr there));
        time = stands.time;
        broken = stands.broken;
        planned = stands.planned;
        late = refl;
      })

  -- .. and it fits the volume still
  fits_still : (old new : WorldOver H F) (item : LateItem) → SameVolume shelf_seen seen old new → old.late.items ≡ item ∷ new.late.items → IsSound shelf_seen seen old
      → (other : LateItem) → IsIn other new.late.items → FitsLate shelf_seen seen new other
  fits_still old new item same late sound other there =
      all_late_fit shelf_seen seen old (record new { late = old.late }) (record { vid = same.vid; shape = same.shape; first = same.first; told = same.told; quiet = same.quiet; count = same.count })
      refl sound other (subst (IsIn other) (sym late) (inr there))

  -- a late request is asked of the volume
  pub first_fits : (world : WorldOver H F) (request : sent.Request) (rest : List LateItem) → IsSound shelf_seen seen world → world.late.items ≡ items.Request request ∷ rest
      → FitsRequest (origin_of shelf_seen seen world) request
  first_fits world request rest sound late = sound.late (items.Request request) (subst (IsIn (items.Request request)) (sym late) (inl refl))

  -- .. of one of its stations
  pub first_on : (world : WorldOver H F) (request : sent.Request) → IsSound shelf_seen seen world → FitsRequest (origin_of shelf_seen seen world) request
      → HasDisk world.stations (disk_of request)
  first_on world request sound fits =
      let there = (asks_unit (origin_of shelf_seen seen world) request fits).there in
      record { first = there.first; last = omega (arith, sound.count, there.last) }

  -- ---- nothing is late

  pub nothing_late : (old new : WorldOver H F) → IsSound shelf_seen seen old → IsSome old.entry.book.log.end → old.late.items ≡ []
      → IsNoted (trace_of events.FlushOne replies.NothingLate) old.history new.history → new ≡ record old { history = new.history }
      → Done shelf_seen seen 1 old new events.FlushOne replies.NothingLate
  nothing_late old new sound open_ none is_noted only = record {
    settles = [];
    settling = tt;
    few = omega arith;
    fits = tt;
    moves = tt;
    passes = passes_beside shelf_seen seen events.FlushOne replies.NothingLate old new sound
        (subst (λ (x : WorldOver H F). x ≡ record old { puts = x.puts; planned = x.planned; time = x.time; history = x.history }) (sym only) refl)
        (ap (λ (x : WorldOver H F). length x.planned) only) (subst (λ (x : WorldOver H F). x.time ≤ last_time) (sym only) sound.time) is_noted tt refl leads;
  } where
    leads : (w : World) → Stands shelf_seen seen old w → LeadsOn shelf_seen seen old w (trace_of events.FlushOne replies.NothingLate) new
    leads w stands = record {
      then_ = w;
      may_be = record {
        step = record { event = Event.FlushOne; reply = ToldReply.NothingLate };
        told = record { event = refl; reply = tt };
        leads = inl (
          open_by_end seen old.entry w.state.manager stands.manager open_,
          subst (λ (ls : List Late). Flushes (shape_of old.shape) w ls ToldReply.NothingLate w) (sym (stands.late ∙ ap (map late_told) none)) (refl, refl),
        );
      };
      stands = noted shelf_seen seen old new w only stands;
    }

  -- ---- an answer

  module _ (request : sent.Request) (answer : answered.Answer) (old heard new : WorldOver H F) (sound : IsSound shelf_seen seen old)
      (only_heard : heard ≡ record old { entry = heard.entry; puts = heard.puts }) (book : heard.entry.book ≡ old.entry.book) (broken : heard.entry.broken ≡ old.entry.broken) where
    heard_memory : OnlyArrived heard new → length old.history.entries ≤ length new.history.entries → OnlyMemory shelf_seen seen old new
    heard_memory only more =
        let all : new ≡ record old { entry = heard.entry; puts = heard.puts; late = new.late; history = new.history } =
        only ∙ ap (λ (x : WorldOver H F). record x { late = new.late; history = new.history }) only_heard in
        record {
          only = subst (λ (x : WorldOver H F). x ≡ record old { entry = x.entry; puts = x.puts; planned = x.planned; late = x.late; time = x.time; history = x.history }) (sym all) refl;
          book = ap (λ (x : WorldOver H F). x.entry.book) all ∙ book;
          broken = ap (λ (x : WorldOver H F). x.entry.broken) all ∙ broken;
          planned = ap (λ (x : WorldOver H F). length x.planned) all;
          time = subst (λ (x : WorldOver H F). x.time ≤ last_time) (sym all) sound.time;
          history = more;
        }

    pub answer_arrives : ((w : World) → Stands shelf_seen seen old w → Stands shelf_seen seen heard (record w { state = once_heard request answer w.state })) → OnlyArrived heard new
        → IsSome old.entry.book.log.end → old.late.items ≡ items.Answer request answer ∷ new.late.items
        → IsNoted (trace_of events.FlushOne (replies.Flushed false)) heard.history new.history → Done shelf_seen seen 1 old new events.FlushOne (replies.Flushed false)
    answer_arrives hears only open_ late is_noted =
        let same_history : heard.history ≡ old.history = ap (λ (x : WorldOver H F). x.history) only_heard in
        let is = subst (λ history. IsNoted (trace_of events.FlushOne (replies.Flushed false)) history new.history) same_history is_noted in
        let long = noted_length (trace_of events.FlushOne (replies.Flushed false)) old.history new.history is in
        let memory = heard_memory only (omega (arith, long)) in
        let same = same_memory shelf_seen seen old new memory in
        let item = items.Answer request answer in
        record {
          settles = [];
          settling = tt;
          few = omega arith;
          fits = tt;
          moves = tt;
          passes = passes_asking shelf_seen seen events.FlushOne (replies.Flushed false) old new same
              (sound_memory shelf_seen seen old new memory (fits_still old new item same late sound) sound) is
              (no_fault events.FlushOne (replies.Flushed false) (faults_of shelf_seen seen old) (faults_of shelf_seen seen new) refl same.count)
              (λ w at apart carries. (
                record w { state = once_heard request answer w.state; late = map late_told new.late.items },
                answer_flushed (origin_of shelf_seen seen old) request answer Effect.Nothing w (map late_told new.late.items) (open_by_end seen old.entry w.state.manager at.stands.manager open_)
                    (at.stands.late ∙ ap (map late_told) late) (at.stands.posted item (subst (IsIn item) (sym late) (inl refl))),
                record {
                  stands = arrived_stands heard new item (record w { state = once_heard request answer w.state }) only
                      (ap (λ (x : WorldOver H F). x.late.items) only_heard ∙ late) (hears w at.stands);
                  short = short_memory shelf_seen seen old new memory at.short;
                },
              ));
        }

  -- for want of memory nothing is heard
  pub answer_stays : (old new : WorldOver H F) → IsSound shelf_seen seen old → new ≡ record old { entry = new.entry } → new.entry.book ≡ old.entry.book → new.entry.broken ≡ old.entry.broken
      → ((w : World) → Stands shelf_seen seen old w → Stands shelf_seen seen new w) → NotDone shelf_seen seen 1 old new
  answer_stays old new sound only book broken stands =
      let memory : OnlyMemory shelf_seen seen old new = record {
        only = subst (λ (x : WorldOver H F). x ≡ record old { entry = x.entry; puts = x.puts; planned = x.planned; late = x.late; time = x.time; history = x.history }) (sym only) refl;
        book = book;
        broken = broken;
        planned = ap (λ (x : WorldOver H F). length x.planned) only;
        time = subst (λ (x : WorldOver H F). x.time ≤ last_time) (sym only) sound.time;
        history = let same = ap (λ (x : WorldOver H F). length x.history.entries) only in omega (arith, same);
      } in
      let same = same_memory shelf_seen seen old new memory in
      record {
        settles = [];
        settling = tt;
        few = omega arith;
        passes = passes_nothing shelf_seen seen old new same
            (sound_memory shelf_seen seen old new memory (all_late_fit shelf_seen seen old new same (ap (λ (x : WorldOver H F). x.late.items) only) sound) sound)
            (ap (λ (x : WorldOver H F). x.history.entries) only) (let kept = ap (λ (x : WorldOver H F). x.history.spare) only in omega (arith, kept))
            (λ w at. record { stands = stands w at.stands; short = short_memory shelf_seen seen old new memory at.short });
      }

  -- ---- a request

  module _ (request : sent.Request) (answer : answered.Answer) (old mid new : WorldOver H F) (serves : Serves shelf_seen seen request (Ok answer) old mid) (only : OnlyArrived mid new)
      (late : old.late.items ≡ items.Request request ∷ new.late.items) (open_ : IsSome old.entry.book.log.end) where
    abbrev settles : List Part
    settles = settles_of (disk_of request) serves.told

    abbrev part : Part
    part = Part.Asking events.FlushOne (replies.Flushed true)

    -- the state in which the world stands then
    led_by_request : (w : World) → Stands shelf_seen seen old w → (v : World) × PartsLead (origin_of shelf_seen seen old) w (settles ++ part ∷ []) v × Stands shelf_seen seen new v
    led_by_request w stands =
        let origin = origin_of shelf_seen seen old in
        let led = serves.serves w stands in
        let units = led.then_.state.units in
        let u : World = record w { state = record (w.state) { units = units } } in
        let posted = stands.posted (items.Request request) (subst (IsIn (items.Request request)) (sym late) (inl refl)) in
        let is : IsAsked shelf_seen seen old.shape.mode request led.then_.state u.state = record {
          units = refl;
          puts = ap (λ (x : World). x.state.puts) (sym led.same);
          broken = λ d. ap (λ (x : World). x.state.broken d) (sym led.same);
          issued = posted.0;
          carries = posted.1;
        } in
        let answers = led.serves.0 u.state is in
        let v : World = record u { state = once_handled request answer answers.effect u.state; late = map late_told new.late.items } in
        let done : IsDone origin u events.FlushOne (replies.Flushed true) v =
        request_flushed origin request answer answers.effect u (map late_told new.late.items) (open_by_end seen old.entry w.state.manager stands.manager open_)
        (stands.late ∙ ap (map late_told) late) answers.handles in (
          v,
          leads_on origin w u v settles (part ∷ []) (subst (λ (x : World). PartsLead origin w settles x) led.same led.leads) (v, done, refl),
          arrived_stands mid new (items.Request request) (record w { state = once_handled request answer answers.effect u.state }) only
              (ap (λ (x : WorldOver H F). x.late.items) serves.rest ∙ late)
              (answered_stands shelf_seen seen request answer old mid serves w stands w.state.post.issued (λ r there. there) answers),
        )

    pub request_arrives : IsSound shelf_seen seen old → IsNoted (trace_of events.FlushOne (replies.Flushed true)) mid.history new.history
        → Done shelf_seen seen 1 old new events.FlushOne (replies.Flushed true)
    request_arrives sound is_noted =
        let trace = trace_of events.FlushOne (replies.Flushed true) in
        let first = served_same shelf_seen seen request (Ok answer) old mid serves in
        let sound_mid = served_sound shelf_seen seen request (Ok answer) old mid serves sound in
        let long = noted_length trace mid.history new.history is_noted in
        let memory = arrived_memory mid new only sound_mid.time (omega (arith, long)) in
        let second = same_memory shelf_seen seen mid new memory in
        let late_mid : mid.late.items ≡ items.Request request ∷ new.late.items = ap (λ (x : WorldOver H F). x.late.items) serves.rest ∙ late in
        record {
          settles = settles;
          settling = settles_settle (disk_of request) serves.told;
          few = settles_few (disk_of request) serves.told;
          fits = tt;
          moves = tt;
          passes = record {
            vid = second.vid ∙ first.vid;
            shape = second.shape ∙ first.shape;
            first = second.first ∙ first.first;
            sound = sound_memory shelf_seen seen mid new memory (fits_still mid new (items.Request request) second late_mid sound_mid) sound_mid;
            entries =
                is_noted.entries ∙ ap (λ xs. xs ++ trace ∷ []) serves.noted.entries
                ∙ append_assoc old.history.entries (traces_of settles) (trace ∷ []) ∙ ap (λ xs. old.history.entries ++ xs) (sym (traces_on settles (part ∷ [])));
            spare = let sum = length-append settles (part ∷ []) in omega (arith, sum, is_noted.spare, serves.noted.spare);
            told = second.told ∙ first.told;
            quiet = second.quiet ∙ first.quiet;
            count = omega (arith, first.count, second.count);
            faults =
                let sum = faults_more settles (part ∷ []) in
                let none = settles_faultless (disk_of request) serves.told in
                faults_stay (faults_of shelf_seen seen old) (fault_count (settles ++ part ∷ [])) (faults_of shelf_seen seen new) (omega (arith, sum, none)) (omega (arith, first.count, second.count));
            leads = λ w at apart carries.
                let led = led_by_request w at.stands in
                (led.0, led.1, record { stands = led.2; short = short_memory shelf_seen seen mid new memory (served_short shelf_seen seen request (Ok answer) old mid serves at.short) });
          };
        }
