-- What a world passes through when a request that is sent is handled at once.
use Rattle.std.proofs.Common.{◌≡◌, ◌∙◌, sym, ap, refl, subst, ℕ, ◌+◌, ◌-◌, ◌^◌, ◌≤◌, min, Bool, true, false, List, [], ◌∷◌, ◌++◌, map, drop, length, inl, inr, Ok, Err, arith}
use Rattle.unit_id.specs.Lists.{IsIn}
use Rattle.unit_id.specs.Messages.{request_of, answer_of}
use Rattle.unit_id.specs.Request.{Request}
use Rattle.unit_id.specs.declared.request.Request as sent
use Rattle.unit_id.specs.declared.answer.Answer as answered
use Rattle.unit_id.specs.declared.answer.Answer.TheVariants as answers
use Rattle.disk_base.specs.Disk.{FileView}
use Rattle.disk_base.specs.Shelves.{ShelfView}
use Rattle.code_mode.specs.VolumeShape.{last_time}
use Rattle.blob_node.specs.HeldUnit.{disk_of}
use Rattle.blob_node.specs.Link.{IsDiskOf, fates_of, next_of}
use Rattle.blob_node.specs.declared.fate.Fate.{Fate}
use Rattle.volume_entry.specs.TableParts.{shape_of}
use Rattle.volume_world.specs.Asking.{FitsRequest, CarriesRight}
use Rattle.volume_world.specs.Course.{Part, GivesRight, IsDone, fault_count}
use Rattle.volume_world.specs.Mailbag.{late_told}
use Rattle.volume_world.specs.Move.{IsSendable, puts_hear}
use Rattle.volume_world.specs.Origins.{faults_of, origin_of}
use Rattle.volume_world.specs.Run.{World, without_next}
use Rattle.volume_world.specs.Sending.{IsHeardAtOnce, IsUnheard, time_behind, items_of, EndsSend, MaySend, IsReady, ServesHeard, HearsBy}
use Rattle.volume_world.specs.History.{AreNoted}
use Rattle.volume_world.specs.Serving.{settles_of, once_handled, once_heard, IsAsked, AnswersIn, Serves, CountsFault, IsHeardBy}
use Rattle.volume_world.specs.State.{State}
use Rattle.volume_world.specs.Stepping.{IsSound, FitsLate, Done, NotDone}
use Rattle.volume_world.specs.Trace.{request_kept, reply_kept}
use Rattle.volume_world.specs.World.{WorldOver, Stands, CarriesBegun}
use Rattle.volume_world.specs.declared.event.Event.TheVariants as events
use Rattle.volume_world.specs.declared.late.LateItem.{LateItem}
use Rattle.volume_world.specs.declared.reply.Reply.{Reply}
use Rattle.volume_world.specs.declared.reply.Reply.TheVariants as replies
use Rattle.volume_world.specs.Stations as all
use Rattle.volume_entry.specs.HeardCalls.{is_listing}
use Rattle.volume_entry.specs.HeardMemory.{HasRoom as HasRoomFor}
use Rattle.volume_world.specs.declared.fault.StepFault.{StepFault}
use Rattle.volume_world.specs.declared.fault.StepFault.TheVariants.{HistoryFull, Memory}
use Rattle.volume_world.proofs.MemoryWorlds.{OnlyMemory, memory_then, memory_same, memory_sound, memory_short}
use Rattle.volume_world.proofs.Passing.{SameVolume, origin_same, longer, no_fault, one_fault}
use Rattle.volume_world.proofs.SendFates.{told_heard, told_unheard, in_time, unheard_moves, all_heard_moves, carries_begun, heard_carries, fault_rises}
use Rattle.volume_world.proofs.SendPasses.{LeadsBehind, packed, noted_behind, disk_on, ended_only, ended_book, ended_broken, ended_planned, ended_time, ended_fits, handled_posted, late_there, reply_there, moves_there, open_there}
use Rattle.volume_world.proofs.SentWorlds.{sent_heard, sent_unheard, sent_stands}
use Rattle.volume_world.proofs.ServedPasses.{asked_in, settles_settle, settles_few, settles_faultless, served_same, served_sound, served_short, answered_stands, not_served, faults_stay}

module _ {H F : Type 0} (shelf_seen : H → ShelfView F) (seen : F → FileView) (request : sent.Request) (answer : answered.Answer) (old served : WorldOver H F)
    (serves : Serves shelf_seen seen request (Ok answer) old served) where
  -- ---- the state behind the answer

  module _ (w : World) (stands : Stands shelf_seen seen old w) (carries : CarriesBegun old.shape.mode w.state.puts request) where
    settled : World
    settled = (serves.serves w stands).then_

    asked : State
    asked = asked_in w (serves.serves w stands).then_.state.units (request_of request ∷ w.state.post.issued)

    is_asked : IsAsked shelf_seen seen old.shape.mode request (serves.serves w stands).then_.state (asked_in w (serves.serves w stands).then_.state.units (request_of request ∷ w.state.post.issued))
    is_asked =
        let same = (serves.serves w stands).same in
        record {
          units = refl;
          puts = sym (ap (λ (x : World). x.state.puts) same);
          broken = λ disk. sym (ap (λ (x : World). x.state.broken disk) same);
          issued = inl refl;
          carries = carries;
        }

    answer_in : AnswersIn shelf_seen seen old.shape.mode request answer (asked_in w (serves.serves w stands).then_.state.units (request_of request ∷ w.state.post.issued)) served.stations
    answer_in = (serves.serves w stands).serves.0 (asked_in w (serves.serves w stands).then_.state.units (request_of request ∷ w.state.post.issued)) is_asked

    abbrev behind : State
    behind = once_handled request answer answer_in.effect (asked_in w (serves.serves w stands).then_.state.units (request_of request ∷ w.state.post.issued))

    behind_stands : Stands shelf_seen seen served (record w { state = behind })
    behind_stands = answered_stands shelf_seen seen request answer old served serves w stands (request_of request ∷ w.state.post.issued) (λ r there. inr there) answer_in

  -- ---- what always holds

  served_late : served.late ≡ old.late
  served_late = ap (λ (x : WorldOver H F). x.late) serves.rest

  served_planned : served.planned ≡ old.planned
  served_planned = ap (λ (x : WorldOver H F). x.planned) serves.rest

  served_time : served.time ≡ old.time
  served_time = ap (λ (x : WorldOver H F). x.time) serves.rest

  served_fits : FitsRequest (origin_of shelf_seen seen old) request → FitsRequest (origin_of shelf_seen seen served) request
  served_fits fits = subst (λ origin. FitsRequest origin request) (sym (origin_same shelf_seen seen old served (served_same shelf_seen seen request (Ok answer) old served serves))) fits

  same_on : (mid new : WorldOver H F) → SameVolume shelf_seen seen old mid → SameVolume shelf_seen seen mid new → SameVolume shelf_seen seen old new
  same_on mid new one two = record {
    vid = two.vid ∙ one.vid;
    shape = two.shape ∙ one.shape;
    first = two.first ∙ one.first;
    told = two.told ∙ one.told;
    quiet = two.quiet ∙ one.quiet;
    count = let a = one.count in let b = two.count in omega (arith, a, b);
  }

  -- ---- the answer isn't heard

  pub unheard_done : (f : Fate) → IsUnheard f → (new : WorldOver H F) → IsReady shelf_seen seen request old → MaySend shelf_seen seen request old
      → next_of (fates_of old.planned (disk_of request)) ≡ f
      → EndsSend (disk_of request) (request_kept request) (reply_kept replies.Unheard) (items_of f request answer) served new
      → Done shelf_seen seen 1 old new (events.Send request) replies.Unheard
  unheard_done f is new ready may fate_is ends =
      let only = ended_only shelf_seen seen request f answer replies.Unheard served new ends in
      let book = ended_book shelf_seen seen request f answer replies.Unheard served new ends in
      let before = served_same shelf_seen seen request (Ok answer) old served serves in
      let after = memory_same shelf_seen seen served new only book in
      let same = same_on served new before after in
      let settles = settles_of (disk_of request) serves.told in
      let noted = noted_behind settles (events.Send request) replies.Unheard old.history served.history new.history serves.noted ends.noted in
      let more = noted_more ends in
      let sound = served_sound shelf_seen seen request (Ok answer) old served serves ready.sound in
      packed shelf_seen seen settles (events.Send request) replies.Unheard old new (settles_settle (disk_of request) serves.told) (settles_few (disk_of request) serves.told)
      (settles_faultless (disk_of request) serves.told) tt tt same
      (memory_sound shelf_seen seen served new only book (ended_broken shelf_seen seen request f answer replies.Unheard served new ends)
      (ended_planned shelf_seen seen request f answer replies.Unheard served new ends)
      (subst (λ (n : ℕ). n ≤ last_time) (sym (ended_time shelf_seen seen request f answer replies.Unheard served new ends)) sound.time) more
      (ended_fits shelf_seen seen request f answer replies.Unheard served new ends served refl (served_fits ready.fits) sound) sound)
      (book ∙ ap (λ (x : WorldOver H F). x.entry.book) serves.rest) noted
      (no_fault (events.Send request) replies.Unheard (faults_of shelf_seen seen old) (faults_of shelf_seen seen new) refl same.count) leads where
        noted_more : EndsSend (disk_of request) (request_kept request) (reply_kept replies.Unheard) (items_of f request answer) served new
            → length served.history.entries ≤ length new.history.entries
        noted_more ends = let long = longer served.history.entries new.history.entries (Part.Asking (events.Send request) replies.Unheard ∷ []) ends.noted.entries in omega (arith, long)

        leads : (w : World) → Stands shelf_seen seen old w → CarriesRight true old.shape.mode w.state.puts (events.Send request)
            → LeadsBehind shelf_seen seen old (settles_of (disk_of request) serves.told) (events.Send request) replies.Unheard w new
        leads w stands right =
            let sendable = may w stands in
            let is_open = open_there shelf_seen seen request f old ready fate_is w stands in
            let carries = carries_begun old.shape.mode w.state.puts (shape_of old.shape).total w.state.manager request sendable right in
            let units = (serves.serves w stands).then_.state.units in
            let mid : World = record w { state = record (w.state) { units = units } } in
            let ans = answer_in w stands carries in
            let there : World = record w { state = behind w stands carries } in
            let v : World = record there { planned = without_next w.planned (disk_of request); late = w.late ++ map late_told (items_of f request answer) } in
            record {
              mid = (serves.serves w stands).then_;
              then_ = v;
              settled = (serves.serves w stands).leads;
              done = subst (λ (u : World). IsDone (origin_of shelf_seen seen old) u (events.Send request) replies.Unheard v) (sym (serves.serves w stands).same)
                  (sent_unheard (origin_of shelf_seen seen old) request answer ans.effect mid v sendable
                  (moves_there shelf_seen seen request f old ready fate_is w stands answer ans.effect mid.state there.state
                  (unheard_moves (shape_of old.shape) request answer ans.effect w units is_open sendable ans.handles f is))
                  refl (late_there shelf_seen seen request f old ready fate_is w stands answer)
                  (reply_there shelf_seen seen request f old ready fate_is w stands answer ∙ told_unheard f (answer_of answer) is));
              stands = sent_stands shelf_seen seen served new there (disk_of request) (items_of f request answer) ends.rest
                  (subst (λ planned. IsDiskOf planned (disk_of request)) (sym served_planned) (disk_on shelf_seen seen request old ready)) ends.late
                  (handled_posted shelf_seen seen f request answer served.shape.mode w.state.puts there.state.post (inl refl) (inl refl)
                  (subst (λ shape. CarriesBegun shape.mode w.state.puts request) (sym before_shape) carries))
                  (behind_stands w stands carries);
            } where
              before_shape : served.shape ≡ old.shape
              before_shape = ap (λ (x : WorldOver H F). x.shape) serves.rest

  -- ---- the answer is heard

  files_still : all.faults_of shelf_seen seen served.stations + (seen old.entry.book.log.file).faults ≡ faults_of shelf_seen seen served
  files_still = ap (λ (x : WorldOver H F). all.faults_of shelf_seen seen served.stations + (seen x.entry.book.log.file).faults) (sym serves.rest)

  fault_told : (a : answered.Answer) (before now file after : ℕ) → CountsFault before now (Ok a) → now + file ≤ after
      → min ((before + file) + fault_count (Part.Asking (events.Send request) (replies.Heard a) ∷ [])) (2 ^ 64 - 1) ≤ after
  fault_told answers.Fault before now file after counts more =
      let rose = one_fault (events.Send request) (replies.Heard answers.Fault) (before + file) (now + file) (fault_rises before now file counts) in omega (arith, rose, more)
  fault_told a before now file after counts more = no_fault (events.Send request) (replies.Heard a) (before + file) after refl (omega (arith, counts, more))

  timed_stands : (before after : WorldOver H F) (later : ℕ → ℕ) (w : World) → after ≡ record before { time = later before.time } → Stands shelf_seen seen before w
      → Stands shelf_seen seen after (record w { state = record (w.state) { time = later w.state.time } })
  timed_stands before after later w rest stands =
      subst (λ (x : WorldOver H F). Stands shelf_seen seen x (record w { state = record (w.state) { time = later w.state.time } })) (sym rest) (record {
        manager = stands.manager;
        written = stands.written;
        stations = stands.stations;
        as_begun = stands.as_begun;
        puts = stands.puts;
        bytes = stands.bytes;
        posted = stands.posted;
        time = ap later stands.time;
        broken = stands.broken;
        planned = stands.planned;
        late = stands.late;
      })

  module _ (heard timed new : WorldOver H F) (heard_rest : heard ≡ record served { entry = heard.entry; puts = heard.puts }) (heard_book : heard.entry.book ≡ served.entry.book)
      (heard_broken : heard.entry.broken ≡ served.entry.broken)
      (hears : (w : World) → Stands shelf_seen seen served w → Stands shelf_seen seen heard (record w { state = once_heard request answer w.state }))
      (f : Fate) (is : IsHeardAtOnce f) (timed_rest : timed ≡ record heard { time = time_behind f heard.time })
      (ready : IsReady shelf_seen seen request old) (may : MaySend shelf_seen seen request old) (fate_is : next_of (fates_of old.planned (disk_of request)) ≡ f)
      (ends : EndsSend (disk_of request) (request_kept request) (reply_kept (replies.Heard answer)) (items_of f request answer) timed new) where
    timed_only : OnlyMemory served timed
    timed_only = memory_then served heard timed (subst (OnlyMemory served) (sym heard_rest) refl) (subst (OnlyMemory heard) (sym timed_rest) refl)

    only : OnlyMemory served new
    only = memory_then served timed new timed_only (ended_only shelf_seen seen request f answer (replies.Heard answer) timed new ends)

    timed_book : timed.entry.book ≡ served.entry.book
    timed_book = ap (λ (x : WorldOver H F). x.entry.book) timed_rest ∙ heard_book

    book : new.entry.book ≡ served.entry.book
    book = ended_book shelf_seen seen request f answer (replies.Heard answer) timed new ends ∙ timed_book

    broken : new.entry.broken ≡ served.entry.broken
    broken = ended_broken shelf_seen seen request f answer (replies.Heard answer) timed new ends ∙ ap (λ (x : WorldOver H F). x.entry.broken) timed_rest ∙ heard_broken

    timed_late : timed.late ≡ served.late
    timed_late = ap (λ (x : WorldOver H F). x.late) timed_rest ∙ ap (λ (x : WorldOver H F). x.late) heard_rest

    timed_planned : timed.planned ≡ served.planned
    timed_planned = ap (λ (x : WorldOver H F). x.planned) timed_rest ∙ ap (λ (x : WorldOver H F). x.planned) heard_rest

    timed_history : timed.history ≡ served.history
    timed_history = ap (λ (x : WorldOver H F). x.history) timed_rest ∙ ap (λ (x : WorldOver H F). x.history) heard_rest

    heard_time : heard.time ≡ old.time
    heard_time = ap (λ (x : WorldOver H F). x.time) heard_rest ∙ served_time

    same : SameVolume shelf_seen seen old new
    same = same_on served new (served_same shelf_seen seen request (Ok answer) old served serves) (memory_same shelf_seen seen served new only book)

    sound : IsSound shelf_seen seen new
    sound =
        let before = served_sound shelf_seen seen request (Ok answer) old served serves ready.sound in
        let long = longer timed.history.entries new.history.entries (Part.Asking (events.Send request) (replies.Heard answer) ∷ []) ends.noted.entries in
        let as_long : length timed.history.entries ≡ length served.history.entries = ap (λ history. length history.entries) timed_history in
        memory_sound shelf_seen seen served new only book broken
        (ended_planned shelf_seen seen request f answer (replies.Heard answer) timed new ends ∙ ap length timed_planned)
        (subst (λ (n : ℕ). n ≤ last_time)
        (sym (ended_time shelf_seen seen request f answer (replies.Heard answer) timed new ends ∙ ap (λ (x : WorldOver H F). x.time) timed_rest ∙ ap (time_behind f) heard_time))
        (in_time f old.time ready.sound.time))
        (omega (arith, long, as_long))
        (ended_fits shelf_seen seen request f answer (replies.Heard answer) timed new ends served timed_late (served_fits ready.fits) before) before

    leads : (w : World) → Stands shelf_seen seen old w → CarriesRight true old.shape.mode w.state.puts (events.Send request)
        → LeadsBehind shelf_seen seen old (settles_of (disk_of request) serves.told) (events.Send request) (replies.Heard answer) w new
    leads w stands right =
        let sendable = may w stands in
        let is_open = open_there shelf_seen seen request f old ready fate_is w stands in
        let carries = carries_begun old.shape.mode w.state.puts (shape_of old.shape).total w.state.manager request sendable right in
        let units = (serves.serves w stands).then_.state.units in
        let mid : World = record w { state = record (w.state) { units = units } } in
        let ans = answer_in w stands carries in
        let heard_there : World = record w { state = once_heard request answer (behind w stands carries) } in
        let there : World = record w { state = record (heard_there.state) { time = time_behind f w.state.time } } in
        let v : World = record there { planned = without_next w.planned (disk_of request); late = w.late ++ map late_told (items_of f request answer) } in
        record {
          mid = (serves.serves w stands).then_;
          then_ = v;
          settled = (serves.serves w stands).leads;
          done = subst (λ (u : World). IsDone (origin_of shelf_seen seen old) u (events.Send request) (replies.Heard answer) v) (sym (serves.serves w stands).same)
              (sent_heard (origin_of shelf_seen seen old) request answer ans.effect mid v sendable
              (moves_there shelf_seen seen request f old ready fate_is w stands answer ans.effect mid.state there.state
              (all_heard_moves (shape_of old.shape) request answer ans.effect w units is_open sendable ans.handles f is))
              refl (late_there shelf_seen seen request f old ready fate_is w stands answer)
              (reply_there shelf_seen seen request f old ready fate_is w stands answer ∙ told_heard f (answer_of answer) is) ans.right);
          stands = sent_stands shelf_seen seen timed new there (disk_of request) (items_of f request answer) ends.rest
              (subst (λ planned. IsDiskOf planned (disk_of request)) (sym (timed_planned ∙ served_planned)) (disk_on shelf_seen seen request old ready)) ends.late
              (handled_posted shelf_seen seen f request answer timed.shape.mode there.state.puts there.state.post (inl refl) (inl refl)
              (subst (λ shape. CarriesBegun shape.mode there.state.puts request)
              (sym (ap (λ (x : WorldOver H F). x.shape) timed_rest ∙ ap (λ (x : WorldOver H F). x.shape) heard_rest ∙ ap (λ (x : WorldOver H F). x.shape) serves.rest))
              (heard_carries old.shape.mode w.state.puts (request_of request) (answer_of answer) request carries)))
              (timed_stands heard timed (time_behind f) heard_there timed_rest (hears (record w { state = behind w stands carries }) (behind_stands w stands carries)));
        }

    pub heard_by : Done shelf_seen seen 1 old new (events.Send request) (replies.Heard answer)
    heard_by =
        let settles = settles_of (disk_of request) serves.told in
        packed shelf_seen seen settles (events.Send request) (replies.Heard answer) old new (settles_settle (disk_of request) serves.told) (settles_few (disk_of request) serves.told)
        (settles_faultless (disk_of request) serves.told) tt tt same sound
        (book ∙ ap (λ (x : WorldOver H F). x.entry.book) serves.rest)
        (noted_behind settles (events.Send request) (replies.Heard answer) old.history timed.history new.history (subst (AreNoted settles old.history) (sym timed_history) serves.noted) ends.noted)
        (let after = memory_same shelf_seen seen served new only book in
        let still = files_still in
        fault_told answer (all.faults_of shelf_seen seen old.stations) (all.faults_of shelf_seen seen served.stations) (seen old.entry.book.log.file).faults (faults_of shelf_seen seen new)
        serves.counts (let more = after.count in omega (arith, more, still)))
        leads

-- ---- by the contract of a call

module _ {H F : Type 0} (shelf_seen : H → ShelfView F) (seen : F → FileView) (request : sent.Request) where
  -- the answer is heard, at once or behind ten ticks
  pub heard_done : (f : Fate) → IsHeardAtOnce f → (answer : answered.Answer) (old heard timed new : WorldOver H F) → ServesHeard shelf_seen seen request answer old heard
      → timed ≡ record heard { time = time_behind f heard.time } → IsReady shelf_seen seen request old → MaySend shelf_seen seen request old
      → next_of (fates_of old.planned (disk_of request)) ≡ f
      → EndsSend (disk_of request) (request_kept request) (reply_kept (replies.Heard answer)) (items_of f request answer) timed new
      → Done shelf_seen seen 1 old new (events.Send request) (replies.Heard answer)
  heard_done f is answer old heard timed new by timed_rest ready may fate_is ends =
      heard_by shelf_seen seen request answer old by.served by.serves heard timed new by.rest by.book by.broken by.heard f is timed_rest ready may fate_is ends

  -- ---- for want of memory

  -- it isn't handled
  pub not_handled : (fault : StepFault) (old new : WorldOver H F) → IsSound shelf_seen seen old → Serves shelf_seen seen request (Err fault) old new → NotDone shelf_seen seen 1 old new
  not_handled Memory old new sound serves = not_served shelf_seen seen request old new sound serves
  not_handled HistoryFull old new sound serves = not_served shelf_seen seen request old new sound (record {
    told = serves.told;
    rest = serves.rest;
    noted = serves.noted;
    lasts = serves.lasts;
    count = serves.count;
    broken = serves.broken;
    counts = serves.counts;
    serves = λ w stands. absurd ((serves.serves w stands).serves);
  })

  listed : (answer : answered.Answer) (b : Bool) → is_listing (answer_of answer) ≡ b → (is_listing (answer_of answer) ≡ false → false ≡ true) → is_listing (answer_of answer) ≡ true
  listed answer true e unless = e
  listed answer false e unless = e ∙ unless e

  -- it is handled, and the listing isn't heard
  pub not_heard : (answer : answered.Answer) (fault : StepFault) (old served new : WorldOver H F) → Serves shelf_seen seen request (Ok answer) old served
      → new ≡ record served { entry = new.entry; puts = new.puts } → new.entry.book ≡ served.entry.book → new.entry.broken ≡ served.entry.broken
      → IsHeardBy shelf_seen seen request answer served new (Err fault) → (HasRoomFor served.entry.heard → is_listing (answer_of answer) ≡ false → false ≡ true)
      → IsSound shelf_seen seen old → HasRoomFor old.entry.heard → HearsBy shelf_seen seen request (Err fault) old new
  not_heard answer HistoryFull old served new serves rest book broken heard succeeds sound room = heard
  not_heard answer Memory old served new serves rest book broken heard succeeds sound room =
      let only : OnlyMemory served new = subst (OnlyMemory served) (sym rest) refl in
      let before = served_same shelf_seen seen request (Ok answer) old served serves in
      let after = memory_same shelf_seen seen served new only book in
      let there = served_sound shelf_seen seen request (Ok answer) old served serves sound in
      let history : new.history ≡ served.history = ap (λ (x : WorldOver H F). x.history) rest in
      let as_long : length new.history.entries ≡ length served.history.entries = ap (λ h. length h.entries) history in
      let still : HasRoomFor served.entry.heard = subst (λ (x : WorldOver H F). HasRoomFor x.entry.heard) (sym serves.rest) room in
      let listing = listed answer (is_listing (answer_of answer)) refl (succeeds still) in
      record {
        settles = settles_of (disk_of request) serves.told;
        settling = settles_settle (disk_of request) serves.told;
        few = settles_few (disk_of request) serves.told;
        passes = record {
          vid = after.vid ∙ before.vid;
          shape = after.shape ∙ before.shape;
          first = after.first ∙ before.first;
          sound = memory_sound shelf_seen seen served new only book broken (ap (λ (x : WorldOver H F). length x.planned) rest)
              (subst (λ (x : WorldOver H F). x.time ≤ last_time) (sym rest) there.time) (omega (arith, as_long))
              (λ item at. there.late item (subst (λ (x : WorldOver H F). IsIn item x.late.items) rest at)) there;
          entries = ap (λ h. h.entries) history ∙ serves.noted.entries;
          spare = subst (λ h. old.history.spare ≤ h.spare + length (settles_of (disk_of request) serves.told)) (sym history) serves.noted.spare;
          told = after.told ∙ before.told;
          quiet = after.quiet ∙ before.quiet;
          count = let a = before.count in let b = after.count in omega (arith, a, b);
          faults = faults_stay (faults_of shelf_seen seen old) (fault_count (settles_of (disk_of request) serves.told)) (faults_of shelf_seen seen new)
              (settles_faultless (disk_of request) serves.told) (let a = before.count in let b = after.count in omega (arith, a, b));
          leads = λ w is apart carries.
              let led = serves.serves w is.stands in (
                led.then_,
                led.leads,
                record {
                  stands = heard led.then_ (led.serves.1 listing);
                  short = memory_short shelf_seen seen served new book (omega (arith, as_long)) (served_short shelf_seen seen request (Ok answer) old served serves is.short);
                },
              );
        };
      }
