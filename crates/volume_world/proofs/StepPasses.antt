-- What a world passes through at a step of its manager.
use Rattle.std.proofs.Common.{◌≡◌, ◌∙◌, sym, ap, refl, subst, ℕ, ◌+◌, ◌-◌, ◌*◌, ◌^◌, ◌≤◌, min, false, List, [], ◌∷◌, length, Option, Some, None, IsSome, IsSomeAnd, Result, Ok, Err, arith}
use Rattle.std.specs.Prelude.{IfErr, IfOk, IfSome}
use Rattle.disk_base.specs.Disk.{FileView}
use Rattle.disk_base.specs.Shelves.{ShelfView}
use Rattle.gate_log.specs.LogFile.{IsLogOf, end_place}
use Rattle.gate_log.specs.GateLog.{LogView, shown}
use Rattle.code_mode.specs.VolumeShape.{last_time}
use Rattle.volume_entry.specs.Manager.{IsBid, Manager}
use Rattle.volume_entry.specs.BookStart.{last_start}
use Rattle.volume_entry.specs.Entry.{EntryOver, FitsEvent}
use Rattle.volume_entry.specs.Entry as entries
use Rattle.volume_entry.specs.Places.{GrantsPlaces}
use Rattle.volume_entry.specs.TableParts.{shape_of}
use Rattle.volume_entry.specs.declared.event.ManagerEvent.{ManagerEvent}
use Rattle.volume_entry.specs.declared.event.ManagerEvent.TheVariants as steps
use Rattle.volume_entry.specs.declared.event.ManagerReply.{ManagerReply}
use Rattle.volume_entry.specs.declared.fault.EntryFault.{EntryFault}
use Rattle.volume_entry.specs.declared.fault.EntryFault.TheVariants as faults
use Rattle.volume_entry.proofs.BookEnds.{log_says}
use Rattle.volume_entry.proofs.LogEnds.{ends_behind}
use Rattle.volume_world.specs.BlobStatus.{is_begun}
use Rattle.volume_world.specs.Course.{Part, fault_count}
use Rattle.volume_world.specs.History.{KeptHistory, IsNoted}
use Rattle.volume_world.specs.ManagerReplies.{step_reply, volume_event, volume_reply}
use Rattle.volume_world.specs.Managing.{IsTestedBy, StepsEntry}
use Rattle.volume_world.specs.Origins.{faults_of, origin_of}
use Rattle.volume_world.specs.PutBook.{Books}
use Rattle.volume_world.specs.Replying.{MayReply, ShowsMoves}
use Rattle.volume_world.specs.Run.{World}
use Rattle.volume_world.specs.State.{Puts}
use Rattle.volume_world.specs.Stepping.{IsShort, IsSound, IsAt, Passes, Done, NotDone, Takes}
use Rattle.volume_world.specs.Trace.{trace_of}
use Rattle.volume_world.specs.World.{WorldOver, Stands}
use Rattle.volume_world.specs.WorldSteps.{LeadsOn}
use Rattle.volume_world.specs.declared.event.Event.TheVariants as events
use Rattle.volume_world.specs.declared.fault.StepFault.{StepFault}
use Rattle.volume_world.specs.declared.puts.PutState.{PutState}
use Rattle.volume_world.specs.declared.reply.Reply.{Reply}
use Rattle.volume_world.specs.declared.reply.Reply.TheVariants as replies
use Rattle.volume_world.proofs.EntryCalls.{only_entry, same_by_entry, sound_by_entry, rose_by_entry}
use Rattle.volume_world.proofs.ManagerSteps.{IsTested, step_answered, step_failed, step_not_done, ask_unbegun}
use Rattle.volume_world.proofs.Passing.{OnlyBeside, noted_length, no_fault, one_fault, done_on, passes_nothing, passes_asking, passes_beside, done_alone, not_done_alone}
use Rattle.volume_world.proofs.ShortLogs.{one_log, short_step}
use Rattle.volume_world.proofs.StepAnswers.{open_by_end, open_answer, end_grown, step_no_send, answer_faultless, answer_may, step_may_fail, answer_shows}

-- ---- what was tested

-- a blob that the book of puts has was begun in every state for which it stands
tested_of : (event : ManagerEvent) (total : ℕ) (book : List (ℕ × PutState)) (puts : Puts) → IsTestedBy book event → Books total book puts → IsTested puts event
tested_of steps.Lease total book puts tested books = tt
tested_of (steps.Lock task targets) total book puts tested books = tt
tested_of (steps.Retarget task index disk) total book puts tested books = tt
tested_of (steps.Swap task) total book puts tested books = tt
tested_of (steps.Unlock task) total book puts tested books = tt
tested_of (steps.Ask bid) total book puts tested books = tested total puts books
tested_of (steps.Commit bid) total book puts tested books = tt

-- ---- a log that ends where it did, or is shut

-- its file tells bodies that end no later
same_end_short : (most : ℕ) (bodies : List (List ℕ)) (content : Option (List ℕ)) → IsSomeAnd content (λ file. IsLogOf file bodies) → end_place bodies ≤ most
    → (other : List (List ℕ)) → IsSomeAnd content (λ file. IsLogOf file other) → end_place other ≤ most
same_end_short most bodies None is below other log = absurd log
same_end_short most bodies (Some file) is below other log = subst (λ bs. end_place bs ≤ most) (one_log file bodies other is log) below

some_place : (a b : ℕ) → Some a ≡ Some b → a ≡ b
some_place a b same = cc

-- .. and is left early enough
end_left : (was end : Option ℕ) (most : ℕ) → IfSome end (λ e. was ≡ Some e) → IfSome was (λ place. place ≤ most) → IfSome end (λ place. place ≤ most)
end_left was None most left below = tt
end_left was (Some e) most left below = subst (λ o. IfSome o (λ place. place ≤ most)) left below

module _ {E : Type 0} (seen : E → FileView) where
  -- where it isn't shut, it is short as it was
  short_still : (old new : EntryOver E) (m n : Manager) (count : ℕ) → entries.Stands seen old m → entries.Stands seen new n → m.is_shut ≡ false → n.is_shut ≡ false
      → IfSome new.book.log.end (λ end. old.book.log.end ≡ Some end) → IsShort count (seen old.book.log.file) → IsShort count (seen new.book.log.file)
  short_still old new m n count was is open_ still left short =
      let before : LogView = shown seen old.book.log in
      let after : LogView = shown seen new.book.log in
      let had = (was.book.open_ open_).has in
      let has = (is.book.open_ still).has in
      let same : old.book.log.end ≡ Some (end_place is.book.bodies) =
      subst (λ end. IfSome end (λ e. old.book.log.end ≡ Some e)) (ends_behind after is.book.bodies has) left in
      let ends = some_place (end_place is.book.bodies) (end_place was.book.bodies) (sym same ∙ ends_behind before was.book.bodies had) in
      let below = short was.book.bodies (log_says before was.book.bodies had) in
      same_end_short (384 + 128 * count) is.book.bodies (seen new.book.log.file).content (log_says after is.book.bodies has) (omega (arith, ends, below))

-- ---- steps

module _ {H F : Type 0} (shelf_seen : H → ShelfView F) (seen : F → FileView) where
  -- the entry is asked between, and then the history may grow
  module _ (old mid new : WorldOver H F) (event : ManagerEvent) (sound : IsSound shelf_seen seen old) (open_ : IsSome old.entry.book.log.end)
      (fits : FitsEvent (shape_of old.shape) event) (tested : IsTestedBy old.puts.puts event)
      (before : mid ≡ record old { entry = mid.entry }) (after : new ≡ record mid { history = new.history }) where
    only : new ≡ record old { entry = new.entry; history = new.history }
    only = only_entry old mid new before after

    -- the step, as one to the entry at the end
    to_end : (answer : Result ManagerReply EntryFault) → StepsEntry seen old.time event old.entry mid.entry answer → StepsEntry seen old.time event old.entry new.entry answer
    to_end answer known = subst (λ (x : WorldOver H F). StepsEntry seen old.time event old.entry x.entry answer) (sym after) known

    started : (w : World) → Stands shelf_seen seen old w → w.state.manager.is_shut ≡ false
    started w stands = open_by_end seen old.entry w.state.manager stands.manager open_

    tested_in : (w : World) → Stands shelf_seen seen old w → IsTested w.state.puts event
    tested_in w stands = tested_of event (shape_of old.shape).total old.puts.puts w.state.puts tested stands.puts

    -- ---- what it replies

    replies_of : (entry : EntryOver F) (reply : ManagerReply) → StepsEntry seen old.time event old.entry entry (Ok reply)
        → MayReply (origin_of shelf_seen seen old) (volume_event event) (volume_reply reply)
    replies_of entry reply known = answer_may (origin_of shelf_seen seen old) old.entry.book.part event reply (known.kinds.1 old.entry.book.part)

    shows_of : (entry : EntryOver F) (reply : ManagerReply) → StepsEntry seen old.time event old.entry entry (Ok reply)
        → ShowsMoves (origin_of shelf_seen seen old) (volume_reply reply)
    shows_of entry reply known =
        answer_shows (origin_of shelf_seen seen old) reply
        (subst (λ vid. GrantsPlaces vid (shape_of old.shape) reply) sound.one.vid
        (subst (λ shape. GrantsPlaces old.entry.book.vid (shape_of shape) reply) sound.one.shape known.places))

    -- ---- what it leads to

    -- an entry of the history comes
    module _ (answer : Result ManagerReply EntryFault) (known : StepsEntry seen old.time event old.entry new.entry answer) (reply : Reply)
        (noted : IsNoted (trace_of (volume_event event) reply) old.history new.history) where
      long : length new.history.entries ≡ length old.history.entries + 1
      long = noted_length (trace_of (volume_event event) reply) old.history new.history noted

      sound_then : IsSound shelf_seen seen new
      sound_then =
          sound_by_entry shelf_seen seen old new only known.lasts answer known.call
          (end_grown old.entry.book.log.end new.entry.book.log.end (length old.history.entries) (length new.history.entries) long known.grows sound.end) sound

      short_then : (w : World) → IsAt shelf_seen seen old w → IsShort (length new.history.entries) (seen new.entry.book.log.file)
      short_then w is =
          subst (λ n. IsShort n (seen new.entry.book.log.file)) (sym long)
          (short_step seen old.entry new.entry w.state.manager known.item (length old.history.entries) known.is_file is.stands.manager (started w is.stands) known.small known.moments
          is.short)

      passes_step : min (faults_of shelf_seen seen old + fault_count (Part.Asking (volume_event event) reply ∷ [])) (2 ^ 64 - 1) ≤ faults_of shelf_seen seen new
          → ((w : World) → Stands shelf_seen seen old w → LeadsOn shelf_seen seen old w (trace_of (volume_event event) reply) new)
          → Passes shelf_seen seen (Part.Asking (volume_event event) reply ∷ []) old new
      passes_step faults leads =
          passes_asking shelf_seen seen (volume_event event) reply old new (same_by_entry shelf_seen seen old new only known.lasts) sound_then noted faults
          (λ w is apart carries. done_on shelf_seen seen (volume_event event) reply old new w (step_no_send event) (leads w is.stands) (short_then w is))

    -- the step is answered
    answered : (reply : ManagerReply) → StepsEntry seen old.time event old.entry new.entry (Ok reply)
        → IsNoted (trace_of (volume_event event) (volume_reply reply)) old.history new.history
        → Done shelf_seen seen 0 old new (volume_event event) (volume_reply reply)
    answered reply known noted =
        let same = same_by_entry shelf_seen seen old new only known.lasts in
        done_alone shelf_seen seen (volume_event event) (volume_reply reply) old new (replies_of new.entry reply known) (shows_of new.entry reply known)
        (passes_step (Ok reply) known (volume_reply reply) noted
        (no_fault (volume_event event) (volume_reply reply) (faults_of shelf_seen seen old) (faults_of shelf_seen seen new) (answer_faultless reply) same.count)
        (λ w stands. step_answered shelf_seen seen old new w event sound.one stands only known.call.broken fits (tested_in w stands) reply
        (known.steps w.state.manager stands.manager)))

    -- its file fails
    failed : StepsEntry seen old.time event old.entry new.entry (Err faults.Fault) → IsNoted (trace_of (volume_event event) replies.Fault) old.history new.history
        → Done shelf_seen seen 0 old new (volume_event event) replies.Fault
    failed known noted =
        done_alone shelf_seen seen (volume_event event) replies.Fault old new (step_may_fail (origin_of shelf_seen seen old) event) tt
        (passes_step (Err faults.Fault) known replies.Fault noted
        (one_fault (volume_event event) replies.Fault (faults_of shelf_seen seen old) (faults_of shelf_seen seen new)
        (rose_by_entry shelf_seen seen old new only known.lasts known.call.counts))
        (λ w stands. step_failed shelf_seen seen old new w event sound.one stands only known.call.broken fits (tested_in w stands)
        (known.steps w.state.manager stands.manager)))

    -- there is no memory for it
    given_up : StepsEntry seen old.time event old.entry new.entry (Err faults.Memory) → new ≡ mid → NotDone shelf_seen seen 0 old new
    given_up known none =
        let same_history : new.history ≡ old.history = ap (λ (x : WorldOver H F). x.history) (none ∙ before) in
        let same_entries : new.history.entries ≡ old.history.entries = ap (λ (x : KeptHistory). x.entries) same_history in
        let same_spare : new.history.spare ≡ old.history.spare = ap (λ (x : KeptHistory). x.spare) same_history in
        let count : length old.history.entries ≡ length new.history.entries = ap length (sym same_entries) in
        let end_then : IfSome new.entry.book.log.end (λ place. place ≤ last_start + 128 * length new.history.entries) =
        end_left old.entry.book.log.end new.entry.book.log.end (last_start + 128 * length new.history.entries) known.call.end
        (subst (λ n. IfSome old.entry.book.log.end (λ place. place ≤ last_start + 128 * n)) count sound.end) in
        not_done_alone shelf_seen seen old new
        (passes_nothing shelf_seen seen old new (same_by_entry shelf_seen seen old new only known.lasts)
        (sound_by_entry shelf_seen seen old new only known.lasts (Err faults.Memory) known.call end_then sound) same_entries (omega (arith, same_spare)) (at count)) where
          at : length old.history.entries ≡ length new.history.entries → (w : World) → IsAt shelf_seen seen old w → IsAt shelf_seen seen new w
          at count w is =
              let there = step_not_done shelf_seen seen old new w event sound.one is.stands only known.call.broken fits (tested_in w is.stands)
              (known.steps w.state.manager is.stands.manager) in
              record {
                stands = there;
                short = subst (λ n. IsShort n (seen new.entry.book.log.file)) count
                    (short_still seen old.entry new.entry w.state.manager w.state.manager (length old.history.entries) is.stands.manager there.manager
                    (started w is.stands) (started w is.stands) known.call.end is.short);
              }

    noted_at : (reply : Reply) → IsNoted (trace_of (volume_event event) reply) mid.history new.history → IsNoted (trace_of (volume_event event) reply) old.history new.history
    noted_at reply noted = subst (λ (x : WorldOver H F). IsNoted (trace_of (volume_event event) reply) x.history new.history) before noted

    by_answer : (answer : Result ManagerReply EntryFault) → StepsEntry seen old.time event old.entry mid.entry answer
        → IfOk (step_reply answer) (λ reply. IsNoted (trace_of (volume_event event) reply) mid.history new.history)
        → IfErr (step_reply answer) (λ fault. new ≡ mid) → Takes shelf_seen seen 0 old new (volume_event event) (step_reply answer)
    by_answer (Ok reply) known noted none = answered reply (to_end (Ok reply) known) (noted_at (volume_reply reply) noted)
    by_answer (Err faults.Fault) known noted none = failed (to_end (Err faults.Fault) known) (noted_at replies.Fault noted)
    by_answer (Err faults.Memory) known noted none = given_up (to_end (Err faults.Memory) known) none
    by_answer (Err faults.Shut) known noted none = absurd (open_answer event old.entry.book.log.end (Err faults.Shut) open_ known.kinds)
    by_answer (Err (faults.Spoiled place)) known noted none = absurd known.kinds

    -- whatever the step answers
    pub step_takes : (answer : Result ManagerReply EntryFault) (result : Result Reply StepFault) → StepsEntry seen old.time event old.entry mid.entry answer → result ≡ step_reply answer
        → IfOk result (λ reply. IsNoted (trace_of (volume_event event) reply) mid.history new.history) → IfErr result (λ fault. new ≡ mid)
        → Takes shelf_seen seen 0 old new (volume_event event) result
    step_takes answer result known is noted none =
        subst (λ r. Takes shelf_seen seen 0 old new (volume_event event) r) (sym is)
        (by_answer answer known (subst (λ r. IfOk r (λ reply. IsNoted (trace_of (volume_event event) reply) mid.history new.history)) is noted)
        (subst (λ r. IfErr r (λ fault. new ≡ mid)) is none))

  -- the deletion of a blob is asked for that wasn't begun
  pub ask_passes : (old new : WorldOver H F) (bid : ℕ) → IsSound shelf_seen seen old → IsSome old.entry.book.log.end → IsBid bid
      → ((total : ℕ) (puts : Puts) → Books total old.puts.puts puts → is_begun (puts.status bid) ≡ false)
      → IsNoted (trace_of (events.Ask bid) replies.NotBegun) old.history new.history → new ≡ record old { history = new.history }
      → Done shelf_seen seen 0 old new (events.Ask bid) replies.NotBegun
  ask_passes old new bid sound open_ fits fresh noted only =
      let beside : OnlyBeside shelf_seen seen old new = subst (OnlyBeside shelf_seen seen old) (sym only) refl in
      done_alone shelf_seen seen (events.Ask bid) replies.NotBegun old new tt tt
      (passes_beside shelf_seen seen (events.Ask bid) replies.NotBegun old new sound beside (ap (λ (x : WorldOver H F). length x.planned) only)
      (subst (λ (x : WorldOver H F). x.time ≤ last_time) (sym only) sound.time) noted tt refl
      (λ w stands. ask_unbegun shelf_seen seen old new w bid stands only (open_by_end seen old.entry w.state.manager stands.manager open_) fits
      (fresh (shape_of old.shape).total w.state.puts stands.puts)))
