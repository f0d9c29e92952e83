-- What a world passes through when a request is sent.
use Rattle.std.proofs.Common.{◌≡◌, ◌∙◌, sym, ap, refl, subst, ℕ, ◌+◌, ◌-◌, ◌^◌, ◌≤◌, min, Bool, true, false, List, [], ◌∷◌, ◌++◌, map, drop, length, slice_set, Ok, Err, inl, inr, append_assoc, append-nil, length-append, arith}
use Rattle.std.proofs.lemmas.List.{length-set}
use Rattle.unit_id.specs.Lists.{IsIn}
use Rattle.unit_id.specs.Request.{Request}
use Rattle.unit_id.specs.Messages.{request_of, answer_of}
use Rattle.unit_id.specs.declared.request.Request as sent
use Rattle.unit_id.specs.declared.answer.Answer as answered
use Rattle.unit_id.specs.declared.answer.Answer.TheVariants as answers
use Rattle.disk_base.specs.Disk.{FileView}
use Rattle.disk_base.specs.Shelves.{ShelfView}
use Rattle.code_mode.specs.declared.mode.Mode.{Mode}
use Rattle.code_mode.specs.VolumeShape.{last_time}
use Rattle.blob_node.specs.HeldUnit.{disk_of}
use Rattle.blob_node.specs.Link.{IsDiskOf, fates_of, with_fates, next_of}
use Rattle.blob_node.specs.UnitAnswer.{Effect}
use Rattle.blob_node.specs.declared.fate.Fate.{Fate}
use Rattle.blob_node.specs.declared.fate.Fate.TheVariants as fate
use Rattle.volume_entry.specs.TableParts.{shape_of}
use Rattle.volume_world.specs.Asking.{FitsRequest, CarriesRight}
use Rattle.volume_world.specs.Course.{Part, traces_of, fault_count, IsDone, PartsLead, AreSettling}
use Rattle.volume_world.specs.History.{KeptHistory, IsNoted, AreNoted}
use Rattle.volume_world.specs.Mailbag.{late_told}
use Rattle.volume_world.specs.Move.{IsSendable, MovesAll}
use Rattle.volume_world.specs.Origins.{faults_of, origin_of}
use Rattle.volume_world.specs.Replying.{MayReply, ShowsMoves}
use Rattle.volume_world.specs.Run.{World, next_fate, without_next, moves_of_send, reply_of_send, late_of_send}
use Rattle.volume_world.specs.Sending.{IsHeardAtOnce, IsUnheard, IsUnhandled, time_behind, items_of, EndsSend, MaySend, IsBarred, IsReady, ServesHeard}
use Rattle.volume_world.specs.Serving.{settles_of, once_handled, once_heard, IsAsked, AnswersIn, Serves, CountsFault}
use Rattle.volume_world.specs.State.{Puts, Post, State}
use Rattle.volume_world.specs.Stepping.{IsSound, IsAt, FitsLate, Done}
use Rattle.volume_world.specs.Trace.{trace_of, request_kept, reply_kept, answer_kept}
use Rattle.volume_world.specs.World.{WorldOver, Stands, IsPosted, CarriesBegun}
use Rattle.volume_world.specs.declared.event.Event.{Event}
use Rattle.volume_world.specs.declared.event.Event.TheVariants as events
use Rattle.volume_world.specs.Event.{Event as ProtocolEvent}
use Rattle.volume_entry.specs.Reply.{Reply as ToldReply}
use Rattle.volume_world.specs.declared.trace.TraceReply.{TraceReply}
use Rattle.volume_world.specs.declared.trace.TraceRequest.{TraceRequest}
use Rattle.volume_world.proofs.KeptMessages.{request_tells}
use Rattle.volume_world.specs.declared.late.LateItem.{LateItem}
use Rattle.volume_world.specs.declared.late.LateItem.TheVariants as items
use Rattle.volume_world.specs.declared.reply.Reply.{Reply}
use Rattle.volume_world.specs.declared.reply.Reply.TheVariants as replies
use Rattle.volume_world.specs.Stations as all
use Rattle.volume_world.proofs.AskedUnits.{asks_unit}
use Rattle.volume_world.proofs.Mailbags.{next_is}
use Rattle.volume_world.proofs.MemoryWorlds.{OnlyMemory, memory_then, memory_same, memory_sound, memory_short}
use Rattle.volume_world.proofs.Passing.{SameVolume, origin_same, in_back, longer, no_fault, one_fault}
use Rattle.volume_world.proofs.SendFates.{told_items, told_heard, told_unheard, told_unhandled, in_time, unhandled_moves, unheard_moves, all_heard_moves, carries_begun, heard_carries, fault_rises}
use Rattle.volume_world.proofs.SentWorlds.{in_either, sent_heard, sent_unheard, sent_stands}
use Rattle.volume_world.proofs.ServedPasses.{asked_in, settles_settle, settles_few, settles_faultless, served_same, served_sound, answered_stands}
use Rattle.volume_world.proofs.StepAnswers.{open_by_end}
use Rattle.volume_world.proofs.Stretches.{leads_on, traces_on, faults_more}

-- ---- the entries of a settle and of an event

pub noted_behind : (settles : List Part) (event : Event) (reply : Reply) (old mid new : KeptHistory) → AreNoted settles old mid → IsNoted (trace_of event reply) mid new
    → AreNoted (settles ++ Part.Asking event reply ∷ []) old new
noted_behind settles event reply old mid new are one = record {
  entries =
      one.entries ∙ ap (λ xs. xs ++ trace_of event reply ∷ []) are.entries ∙ append_assoc old.entries (traces_of settles) (trace_of event reply ∷ [])
      ∙ ap (λ xs. old.entries ++ xs) (sym (traces_on settles (Part.Asking event reply ∷ [])));
  spare = let sum = length-append settles (Part.Asking event reply ∷ []) in omega (arith, sum, are.spare, one.spare);
}

faults_behind : (before now few more all : ℕ) → all ≡ few + more → few ≡ 0 → min (before + more) (2 ^ 64 - 1) ≤ now → min (before + all) (2 ^ 64 - 1) ≤ now
faults_behind before now few more all sum none h = omega arith

none_noted : (history : KeptHistory) → AreNoted [] history history
none_noted history = record { entries = sym (append-nil history.entries); spare = omega arith }

-- the end of a send, where what is noted is known by other names
pub ends_as : {H F : Type 0} (disk other : ℕ) (kept sent_kept : TraceRequest) (reply told : TraceReply) (added : List LateItem) (old new : WorldOver H F) → disk ≡ other → kept ≡ sent_kept → reply ≡ told
    → EndsSend disk kept reply added old new → EndsSend other sent_kept told added old new
ends_as {H} {F} disk other kept sent_kept reply told added old new d k r ends =
    subst (λ x. EndsSend x sent_kept told added old new) d (subst (λ x. EndsSend disk x told added old new) k (subst (λ x. EndsSend disk kept x added old new) r ends))

module _ {H F : Type 0} (shelf_seen : H → ShelfView F) (seen : F → FileView) where
  -- a settle leads on, and behind it the event is done
  pub record LeadsBehind (old : WorldOver H F) (settles : List Part) (event : Event) (reply : Reply) (w : World) (new : WorldOver H F) : Type 0 where
    pub mid : World
    pub then_ : World
    pub settled : PartsLead (origin_of shelf_seen seen old) w settles mid
    pub done : IsDone (origin_of shelf_seen seen old) mid event reply then_
    pub stands : Stands shelf_seen seen new then_

  pub packed : (settles : List Part) (event : Event) (reply : Reply) (old new : WorldOver H F) → AreSettling settles → length settles ≤ 1 → fault_count settles ≡ 0
      → MayReply (origin_of shelf_seen seen old) event reply → ShowsMoves (origin_of shelf_seen seen old) reply
      → SameVolume shelf_seen seen old new → IsSound shelf_seen seen new → new.entry.book ≡ old.entry.book
      → AreNoted (settles ++ Part.Asking event reply ∷ []) old.history new.history
      → min (faults_of shelf_seen seen old + fault_count (Part.Asking event reply ∷ [])) (2 ^ 64 - 1) ≤ faults_of shelf_seen seen new
      → ((w : World) → Stands shelf_seen seen old w → CarriesRight true old.shape.mode w.state.puts event → LeadsBehind old settles event reply w new)
      → Done shelf_seen seen 1 old new event reply
  packed settles event reply old new settling few faultless fits moves same sound book noted faults leads = record {
    settles = settles;
    settling = settling;
    few = few;
    fits = fits;
    moves = moves;
    passes = record {
      vid = same.vid;
      shape = same.shape;
      first = same.first;
      sound = sound;
      entries = noted.entries;
      spare = noted.spare;
      told = same.told;
      quiet = same.quiet;
      count = same.count;
      faults = faults_behind (faults_of shelf_seen seen old) (faults_of shelf_seen seen new) (fault_count settles) (fault_count (Part.Asking event reply ∷ []))
          (fault_count (settles ++ Part.Asking event reply ∷ [])) (faults_more settles (Part.Asking event reply ∷ [])) faultless faults;
      leads = λ w is apart carries.
          let led = leads w is.stands (carries event reply (in_back (Part.Asking event reply) settles (Part.Asking event reply ∷ []) (inl refl))) in
          let more = longer old.history.entries new.history.entries (settles ++ Part.Asking event reply ∷ []) noted.entries in (
            led.then_,
            leads_on (origin_of shelf_seen seen old) w led.mid led.then_ settles (Part.Asking event reply ∷ []) led.settled (led.then_, led.done, refl),
            record { stands = led.stands; short = memory_short shelf_seen seen old new book (omega (arith, more)) is.short },
          );
    };
  }

  -- ---- a request that is barred

  pub barred_done : (request : sent.Request) (old new : WorldOver H F) → IsReady shelf_seen seen request old → IsBarred shelf_seen seen request old
      → IsNoted (trace_of (events.Send request) replies.Barred) old.history new.history → new ≡ record old { history = new.history }
      → Done shelf_seen seen 1 old new (events.Send request) replies.Barred
  barred_done request old new ready barred noted rest =
      let only : OnlyMemory old new = subst (OnlyMemory old) (sym rest) refl in
      let book : new.entry.book ≡ old.entry.book = ap (λ (x : WorldOver H F). x.entry.book) rest in
      let same = memory_same shelf_seen seen old new only book in
      let all_noted = noted_behind [] (events.Send request) replies.Barred old.history old.history new.history (none_noted old.history) noted in
      let more = longer old.history.entries new.history.entries (Part.Asking (events.Send request) replies.Barred ∷ []) all_noted.entries in
      packed [] (events.Send request) replies.Barred old new tt (omega arith) refl tt tt same
      (memory_sound shelf_seen seen old new only book (ap (λ (x : WorldOver H F). x.entry.broken) rest) (ap (λ (x : WorldOver H F). length x.planned) rest)
      (subst (λ (x : WorldOver H F). x.time ≤ last_time) (sym rest) ready.sound.time) (omega (arith, more))
      (λ item there. ready.sound.late item (subst (λ (x : WorldOver H F). IsIn item x.late.items) rest there)) ready.sound)
      book all_noted (no_fault (events.Send request) replies.Barred (faults_of shelf_seen seen old) (faults_of shelf_seen seen new) refl same.count)
      (λ w stands carries. record {
        mid = w;
        then_ = w;
        settled = refl;
        done = record {
          step = record { event = ProtocolEvent.Send (request_of request); reply = ToldReply.Barred };
          told = record { event = ap ProtocolEvent.Send (request_tells request); reply = tt };
          whole = tt;
          leads = inl (open_by_end seen old.entry w.state.manager stands.manager ready.is_open, barred w stands, refl);
        };
        stands = subst (λ (x : WorldOver H F). Stands shelf_seen seen x w) (sym rest) (record {
          manager = stands.manager;
          written = stands.written;
          stations = stands.stations;
          as_begun = stands.as_begun;
          puts = stands.puts;
          bytes = stands.bytes;
          posted = stands.posted;
          time = stands.time;
          broken = stands.broken;
          planned = stands.planned;
          late = stands.late;
        });
      })

  -- ---- what comes late

  pub disk_on : (request : sent.Request) (old : WorldOver H F) → IsReady shelf_seen seen request old → IsDiskOf old.planned (disk_of request)
  disk_on request old ready =
      let there = (asks_unit (origin_of shelf_seen seen old) request ready.fits).there in
      (there.first, subst (λ (n : ℕ). disk_of request ≤ n) (sym ready.sound.one.planned) there.last)

  items_fit : (f : Fate) (request : sent.Request) (answer : answered.Answer) (world : WorldOver H F) → FitsRequest (origin_of shelf_seen seen world) request
      → (item : LateItem) → IsIn item (items_of f request answer) → FitsLate shelf_seen seen world item
  items_fit fate.LateReply request answer world fits item there = elim there [ inl is ↦ subst (FitsLate shelf_seen seen world) (sym is) fits | inr none ↦ absurd none ]
  items_fit fate.LateRequest request answer world fits item there = elim there [ inl is ↦ subst (FitsLate shelf_seen seen world) (sym is) fits | inr none ↦ absurd none ]
  items_fit fate.Again request answer world fits item there = elim there [ inl is ↦ subst (FitsLate shelf_seen seen world) (sym is) fits | inr none ↦ absurd none ]
  items_fit f request answer world fits item there = absurd there

  -- ---- the end of a send

  module _ (request : sent.Request) (f : Fate) (answer : answered.Answer) (reply : Reply) (mid new : WorldOver H F)
      (ends : EndsSend (disk_of request) (request_kept request) (reply_kept reply) (items_of f request answer) mid new) where
    pub ended_only : OnlyMemory mid new
    ended_only = subst (OnlyMemory mid) (sym ends.rest) refl

    pub ended_book : new.entry.book ≡ mid.entry.book
    ended_book = ap (λ (x : WorldOver H F). x.entry.book) ends.rest

    pub ended_broken : new.entry.broken ≡ mid.entry.broken
    ended_broken = ap (λ (x : WorldOver H F). x.entry.broken) ends.rest

    pub ended_planned : length new.planned ≡ length mid.planned
    ended_planned =
        ap (λ (x : WorldOver H F). length x.planned) ends.rest
        ∙ length-set mid.planned (disk_of request - 1) (drop 1 (fates_of mid.planned (disk_of request)))

    pub ended_time : new.time ≡ mid.time
    ended_time = ap (λ (x : WorldOver H F). x.time) ends.rest

    -- what comes late then fits the volume
    pub ended_fits : (old : WorldOver H F) → mid.late ≡ old.late → FitsRequest (origin_of shelf_seen seen old) request → IsSound shelf_seen seen old
        → (item : LateItem) → IsIn item new.late.items → FitsLate shelf_seen seen old item
    ended_fits old same fits sound item there =
        elim (in_either item mid.late.items (items_of f request answer) (subst (IsIn item) ends.late there)) [
          | inl before ↦ sound.late item (subst (λ late. IsIn item late.items) same before)
          | inr here ↦ items_fit f request answer old fits item here
        ]

  -- ---- nothing is handled

  issue_posted : (mode : Mode) (puts : Puts) (post : Post) (r : Request) (late : List LateItem) → ((item : LateItem) → IsIn item late → IsPosted mode puts post item)
      → (item : LateItem) → IsIn item late → IsPosted mode puts (record post { issued = r ∷ post.issued }) item
  issue_posted mode puts post r late posted (items.Request request) there = let was = posted (items.Request request) there in (inr was.0, was.1)
  issue_posted mode puts post r late posted (items.Answer request answer) there = posted (items.Answer request answer) there

  unhandled_posted : (f : Fate) → IsUnhandled f → (request : sent.Request) (answer : answered.Answer) (mode : Mode) (puts : Puts) (post : Post)
      → IsIn (request_of request) post.issued → CarriesBegun mode puts request → (item : LateItem) → IsIn item (items_of f request answer) → IsPosted mode puts post item
  unhandled_posted fate.Lose is request answer mode puts post issued carries item there = absurd there
  unhandled_posted fate.LateRequest is request answer mode puts post issued carries item there =
      elim there [ inl at ↦ subst (IsPosted mode puts post) (sym at) (issued, carries) | inr none ↦ absurd none ]
  unhandled_posted f is request answer mode puts post issued carries item there = absurd is

  pub handled_posted : (f : Fate) (request : sent.Request) (answer : answered.Answer) (mode : Mode) (puts : Puts) (post : Post) → IsIn (request_of request) post.issued
      → IsIn (record { request = request_of request; answer = answer_of answer }) post.given → CarriesBegun mode puts request
      → (item : LateItem) → IsIn item (items_of f request answer) → IsPosted mode puts post item
  handled_posted fate.LateReply request answer mode puts post issued given carries item there =
      elim there [ inl at ↦ subst (IsPosted mode puts post) (sym at) given | inr none ↦ absurd none ]
  handled_posted fate.LateRequest request answer mode puts post issued given carries item there =
      elim there [ inl at ↦ subst (IsPosted mode puts post) (sym at) (issued, carries) | inr none ↦ absurd none ]
  handled_posted fate.Again request answer mode puts post issued given carries item there =
      elim there [ inl at ↦ subst (IsPosted mode puts post) (sym at) (issued, carries) | inr none ↦ absurd none ]
  handled_posted f request answer mode puts post issued given carries item there = absurd there

  module _ (request : sent.Request) (f : Fate) (old : WorldOver H F) (ready : IsReady shelf_seen seen request old)
      (fate_is : next_of (fates_of old.planned (disk_of request)) ≡ f) (w : World) (stands : Stands shelf_seen seen old w) where
    fate_there : next_fate w.planned (disk_of request) ≡ f
    fate_there = sym (next_is old.planned w.planned (disk_of request) (disk_on request old ready) stands.planned) ∙ fate_is

    pub late_there : (answer : answered.Answer) → w.late ++ map late_told (items_of f request answer)
        ≡ w.late ++ late_of_send (next_fate w.planned (disk_of request)) (request_of request) (answer_of answer)
    late_there answer =
        ap (λ xs. w.late ++ xs) (sym (ap (λ g. late_of_send g (request_of request) (answer_of answer)) fate_there ∙ told_items f request answer))

    pub reply_there : (answer : answered.Answer) → reply_of_send (next_fate w.planned (disk_of request)) (answer_of answer) ≡ reply_of_send f (answer_of answer)
    reply_there answer = ap (λ g. reply_of_send g (answer_of answer)) fate_there

    pub moves_there : (answer : answered.Answer) (effect : Effect) (s t : State)
        → MovesAll (shape_of old.shape) s (moves_of_send f w.state.time (request_of request) (answer_of answer) effect) t
        → MovesAll (shape_of old.shape) s (moves_of_send (next_fate w.planned (disk_of request)) w.state.time (request_of request) (answer_of answer) effect) t
    moves_there answer effect s t moves =
        subst (λ g. MovesAll (shape_of old.shape) s (moves_of_send g w.state.time (request_of request) (answer_of answer) effect) t) (sym fate_there) moves

    pub open_there : w.state.manager.is_shut ≡ false
    open_there = open_by_end seen old.entry w.state.manager stands.manager ready.is_open

  pub unhandled_done : (request : sent.Request) (f : Fate) → IsUnhandled f → (old new : WorldOver H F) → IsReady shelf_seen seen request old → MaySend shelf_seen seen request old
      → next_of (fates_of old.planned (disk_of request)) ≡ f
      → EndsSend (disk_of request) (request_kept request) (reply_kept replies.Unheard) (items_of f request answers.Done) old new
      → Done shelf_seen seen 1 old new (events.Send request) replies.Unheard
  unhandled_done request f is old new ready may fate_is ends =
      let only = ended_only request f answers.Done replies.Unheard old new ends in
      let book = ended_book request f answers.Done replies.Unheard old new ends in
      let same = memory_same shelf_seen seen old new only book in
      let noted = noted_behind [] (events.Send request) replies.Unheard old.history old.history new.history (none_noted old.history) ends.noted in
      let more = longer old.history.entries new.history.entries (Part.Asking (events.Send request) replies.Unheard ∷ []) noted.entries in
      packed [] (events.Send request) replies.Unheard old new tt (omega arith) refl tt tt same
      (memory_sound shelf_seen seen old new only book (ended_broken request f answers.Done replies.Unheard old new ends) (ended_planned request f answers.Done replies.Unheard old new ends)
      (subst (λ (n : ℕ). n ≤ last_time) (sym (ended_time request f answers.Done replies.Unheard old new ends)) ready.sound.time) (omega (arith, more))
      (ended_fits request f answers.Done replies.Unheard old new ends old refl ready.fits ready.sound) ready.sound)
      book noted (no_fault (events.Send request) replies.Unheard (faults_of shelf_seen seen old) (faults_of shelf_seen seen new) refl same.count) leads where
        leads : (w : World) → Stands shelf_seen seen old w → CarriesRight true old.shape.mode w.state.puts (events.Send request)
            → LeadsBehind old [] (events.Send request) replies.Unheard w new
        leads w stands carries =
            let sendable = may w stands in
            let is_open = open_there request f old ready fate_is w stands in
            let issued : State = asked_in w w.state.units (request_of request ∷ w.state.post.issued) in
            let there : World = record w { state = issued } in
            let v : World = record there { planned = without_next w.planned (disk_of request); late = w.late ++ map late_told (items_of f request answers.Done) } in
            record {
              mid = w;
              then_ = v;
              settled = refl;
              done = sent_unheard (origin_of shelf_seen seen old) request answers.Done Effect.Nothing w v sendable
                  (moves_there request f old ready fate_is w stands answers.Done Effect.Nothing w.state issued
                  (unhandled_moves (shape_of old.shape) request answers.Done Effect.Nothing w w.state.units is_open sendable f is))
                  refl (late_there request f old ready fate_is w stands answers.Done)
                  (reply_there request f old ready fate_is w stands answers.Done ∙ told_unhandled f (answer_of answers.Done) is);
              stands = sent_stands shelf_seen seen old new there (disk_of request) (items_of f request answers.Done) ends.rest (disk_on request old ready) ends.late
                  (unhandled_posted f is request answers.Done old.shape.mode w.state.puts issued.post (inl refl)
                  (carries_begun old.shape.mode w.state.puts (shape_of old.shape).total w.state.manager request sendable carries))
                  (record {
                    manager = stands.manager;
                    written = stands.written;
                    stations = stands.stations;
                    as_begun = stands.as_begun;
                    puts = stands.puts;
                    bytes = stands.bytes;
                    posted = issue_posted old.shape.mode w.state.puts w.state.post (request_of request) old.late.items stands.posted;
                    time = stands.time;
                    broken = stands.broken;
                    planned = stands.planned;
                    late = stands.late;
                  });
            }
