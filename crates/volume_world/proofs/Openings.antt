-- What a start of the manager's log does to a world: it is started, or the event is refused, or nothing is done.
use Rattle.std.proofs.Common.{◌≡◌, ◌∙◌, sym, ap, refl, subst, ℕ, ◌+◌, ◌*◌, ◌^◌, ◌≤◌, min, inl, inr, Bool, true, false, List, [], ◌∷◌, ◌++◌, length, Option, Some, None, Result, Ok, Err, arith}
use Rattle.std.specs.Prelude.{IfSome, IsSome, IsSomeAnd, is_some, is_none}
use Rattle.disk_base.specs.Disk.{FileView}
use Rattle.disk_base.specs.Shelves.{ShelfView}
use Rattle.code_mode.specs.declared.mode.Mode.{Mode}
use Rattle.volume_entry.specs.Reply.{Reply as ToldReply}
use Rattle.volume_entry.specs.BookStart.{EndsInTime, IsStartCause, last_start}
use Rattle.volume_entry.specs.Entry as entries
use Rattle.volume_entry.specs.TableParts.{shape_of}
use Rattle.volume_entry.specs.declared.fault.EntryFault.{EntryFault}
use Rattle.volume_entry.specs.declared.fault.EntryFault.TheVariants as faults
use Rattle.volume_world.specs.State.{Puts}
use Rattle.volume_world.specs.Run.{World}
use Rattle.volume_world.specs.Trace.{event_kept, trace_of}
use Rattle.volume_world.specs.Told.{MayBe, event_told}
use Rattle.volume_world.specs.History.{KeptHistory, IsNoted, AreNoted, settle_entry}
use Rattle.volume_world.specs.ManagerReplies.{IsStartFault, start_refusal}
use Rattle.volume_world.specs.Way.{Origin}
use Rattle.volume_world.specs.Way as way
use Rattle.volume_world.specs.Replying.{MayReply}
use Rattle.volume_world.specs.Course.{Part, traces_of, fault_count, IsDone, IsWhole, PartsLead}
use Rattle.volume_world.specs.Origins.{faults_of, origin_of}
use Rattle.volume_world.specs.World.{WorldOver, Stands}
use Rattle.volume_world.specs.WorldSteps.{LeadsOn}
use Rattle.volume_world.specs.Stepping.{IsShort, IsSound, IsAt, Passes, HasRoom, Done, NotDone, Takes}
use Rattle.volume_world.specs.Opening.{NeedsLog, NotesReply, restart_parts, StartsEntry, FailsToStart, IsOpened, StartsLog, Opens}
use Rattle.volume_world.specs.declared.event.Event.{Event}
use Rattle.volume_world.specs.declared.event.Event.TheVariants as events
use Rattle.volume_world.specs.declared.reply.Reply.{Reply}
use Rattle.volume_world.specs.declared.reply.Reply.TheVariants as replies
use Rattle.volume_world.specs.declared.fault.StepFault.{StepFault}
use Rattle.volume_world.specs.declared.trace.Trace.{Trace}
use Rattle.volume_world.proofs.OneMove.{done_by}
use Rattle.volume_world.proofs.ManagerStarts.{settle_may_be, start_settled, start_refused, start_not_done, restart_done, restart_settled, restart_failed}
use Rattle.volume_world.proofs.Passing.{SameVolume, longer, noted_length, still_short, no_fault, one_fault, done_on, passes_nothing, passes_asking, passes_settling}
use Rattle.volume_world.proofs.ShortLogs.{short_start, not_spoiled}
use Rattle.volume_world.proofs.EntryCalls.{only_entry, same_by_entry, sound_by_entry, rose_by_entry}

-- ---- replies to a log that doesn't start

pub start_cause : (fault : EntryFault) → IsStartCause fault → IsStartFault fault
start_cause faults.Fault is = tt
start_cause faults.Memory is = tt
start_cause (faults.Spoiled place) is = tt
start_cause faults.Shut is = absurd is

-- an event may be refused by its log
pub record MayFail (origin : Origin) (event : Event) : Type 0 where
  pub fault : MayReply origin event replies.Fault
  pub spoiled : (place : ℕ) → MayReply origin event (replies.Spoiled place)

may_fail : (origin : Origin) (event : Event) → NeedsLog (event_told (event_kept event)) → MayFail origin event
may_fail origin (events.Tick by) needs = absurd needs
may_fail origin (events.Plan disk fate count) needs = absurd needs
may_fail origin events.Lease needs = record { fault = tt; spoiled = λ place. tt }
may_fail origin (events.Begin bid payload) needs = record { fault = tt; spoiled = λ place. tt }
may_fail origin (events.Send request) needs = record { fault = tt; spoiled = λ place. tt }
may_fail origin events.FlushOne needs = record { fault = tt; spoiled = λ place. tt }
may_fail origin (events.End bid) needs = record { fault = tt; spoiled = λ place. tt }
may_fail origin (events.Lock task targets) needs = record { fault = tt; spoiled = λ place. tt }
may_fail origin (events.Retarget task index disk) needs = record { fault = tt; spoiled = λ place. tt }
may_fail origin (events.Swap task) needs = record { fault = tt; spoiled = λ place. tt }
may_fail origin (events.Unlock task) needs = record { fault = tt; spoiled = λ place. tt }
may_fail origin (events.Break disk) needs = absurd needs
may_fail origin (events.Ask bid) needs = record { fault = tt; spoiled = λ place. tt }
may_fail origin (events.Commit bid) needs = record { fault = tt; spoiled = λ place. tt }
may_fail origin (events.Restart disk) needs = absurd needs
may_fail origin events.RestartManager needs = absurd needs
may_fail origin events.Look needs = record { fault = tt; spoiled = λ place. tt }

-- a fault shows nothing
fault_whole : (mode : Mode) (puts : Puts) (event : Event) (told : ToldReply) → IsWhole mode puts event replies.Fault told
fault_whole mode puts (events.Send request) told = tt
fault_whole mode puts event told = tt

fault_done : (origin : Origin) (w : World) (event : Event) (v : World) → MayBe origin.vid (way.shape_of origin) w (trace_of event replies.Fault) v
    → IsDone origin w event replies.Fault v
fault_done origin w event v may_be =
    record { step = may_be.step; told = may_be.told; whole = fault_whole origin.mode w.state.puts event may_be.step.reply; leads = may_be.leads }

-- ---- ends

-- a start that was done ends early enough
in_time : (end : Option ℕ) (entries : ℕ) → IsSomeAnd end (λ place. place ≤ last_start) → IfSome end (λ place. place ≤ last_start + 128 * entries)
in_time None entries h = tt
in_time (Some place) entries h = omega (arith, h)

there_is : (end : Option ℕ) → IsSomeAnd end (λ place. place ≤ last_start) → IsSome end
there_is None h = absurd h
there_is (Some place) h = refl

-- .. and one that failed no later than the log did
in_time_still : (entries more : ℕ) (was end : Option ℕ) → entries ≤ more → IfSome end (λ place. was ≡ Some place) → IfSome was (λ place. place ≤ last_start + 128 * entries)
    → IfSome end (λ place. place ≤ last_start + 128 * more)
in_time_still entries more was None fewer same h = tt
in_time_still entries more was (Some place) fewer same h =
    let below : place ≤ last_start + 128 * entries = subst (λ end. IfSome end (λ p. p ≤ last_start + 128 * entries)) same h in omega (arith, fewer, below)

noted_more : (trace : Trace) (old new : KeptHistory) → IsNoted trace old new → length old.entries ≤ length new.entries
noted_more trace old new noted = let long = noted_length trace old new noted in omega (arith, long)

two_more : (one other : Part) (old new : KeptHistory) → AreNoted (one ∷ other ∷ []) old new → length old.entries ≤ length new.entries
two_more one other old new noted = let long = longer old.entries new.entries (one ∷ other ∷ []) noted.entries in omega (arith, long)

shut_by : (is_shut : Bool) (end : Option ℕ) → is_shut ≡ is_none end → end ≡ None → is_shut ≡ true
shut_by is_shut end same none = same ∙ ap is_none none

open_by : (is_shut : Bool) (end : Option ℕ) → is_shut ≡ is_none end → is_none end ≡ false → is_shut ≡ false
open_by is_shut end same some = same ∙ some

none_at : (end : Option ℕ) → is_some end ≡ false → end ≡ None
none_at None e = refl
none_at (Some place) e = cc

is_none_at : (end : Option ℕ) → is_none end ≡ true → end ≡ None
is_none_at None e = refl
is_none_at (Some place) e = cc

-- ---- a start of a world's log

module _ {H F : Type 0} (shelf_seen : H → ShelfView F) (seen : F → FileView) where
  -- it was started before
  pub opened_before : (old : WorldOver H F) → IsSound shelf_seen seen old → is_some old.entry.book.log.end ≡ true → IsOpened shelf_seen seen old old
  opened_before old sound some = record {
    settles = [];
    settling = tt;
    few = omega arith;
    passes = passes_nothing shelf_seen seen old old (record { vid = refl; shape = refl; first = refl; told = refl; quiet = refl; count = omega arith }) sound refl (omega arith) (λ w is. is);
    open_ = some_is old.entry.book.log.end some;
  } where
    some_is : (end : Option ℕ) → is_some end ≡ true → IsSome end
    some_is None e = cc
    some_is (Some place) e = refl

  module _ (old new : WorldOver H F) (sound : IsSound shelf_seen seen old) (only : new ≡ record old { entry = new.entry; history = new.history }) where
    -- the log is short still
    short_on : (result : Result Bool EntryFault) → StartsEntry seen old.entry new.entry result → length old.history.entries ≤ length new.history.entries
        → (w : World) → IsAt shelf_seen seen old w → IsShort (length new.history.entries) (seen new.entry.book.log.file)
    short_on result starts more w is =
        still_short (length old.history.entries) (length new.history.entries) (seen new.entry.book.log.file) more
        (short_start seen old.entry w.state.manager is.stands.manager (seen new.entry.book.log.file) (length old.history.entries) starts.bodies is.short)

    shut_at : old.entry.book.log.end ≡ None → (w : World) → IsAt shelf_seen seen old w → w.state.manager.is_shut ≡ true
    shut_at shut w is = shut_by w.state.manager.is_shut old.entry.book.log.end is.stands.manager.book.shut shut

    -- ---- it is started

    module _ (kept : Bool) (starts : StartsEntry seen old.entry new.entry (Ok kept)) where
      same : SameVolume shelf_seen seen old new
      same = same_by_entry shelf_seen seen old new only starts.lasts

      sound_then : IsSound shelf_seen seen new
      sound_then =
          sound_by_entry shelf_seen seen old new only starts.lasts (Ok kept) starts.call
          (in_time new.entry.book.log.end (length new.history.entries) starts.last) sound

      -- it was shut
      pub opened_now : old.entry.book.log.end ≡ None → IsNoted (settle_entry 0 kept) old.history new.history → IsOpened shelf_seen seen old new
      opened_now shut noted =
          let more = noted_more (settle_entry 0 kept) old.history new.history noted in
          record {
            settles = Part.Settling (settle_entry 0 kept) ∷ [];
            settling = (tt, tt);
            few = omega arith;
            passes = passes_settling shelf_seen seen (settle_entry 0 kept) old new tt same sound_then noted
                (λ w is apart. (
                  start_settled shelf_seen seen old new w is.stands only starts.call.broken kept (shut_at shut w is) (starts.told w.state.manager is.stands.manager),
                  short_on (Ok kept) starts more w is,
                ));
            open_ = there_is new.entry.book.log.end starts.last;
          }

      -- ---- at a restart of the manager

      restarted_led : old.entry.book.log.end ≡ None → length old.history.entries ≤ length new.history.entries → (w : World) → IsAt shelf_seen seen old w
          → (v : World) × PartsLead (origin_of shelf_seen seen old) w (restart_parts true kept) v × IsAt shelf_seen seen new v
      restarted_led shut more w is =
          let led = restart_settled shelf_seen seen old new w is.stands only starts.call.broken kept (shut_at shut w is) (starts.told w.state.manager is.stands.manager) in
          let on = led.2 in (
            on.then_,
            (led.0, led.1, (on.then_, done_by (origin_of shelf_seen seen old) led.0 events.RestartManager replies.Done on.then_ tt on.may_be, refl)),
            record { stands = on.stands; short = short_on (Ok kept) starts more w is },
          )

      restarted_shut : old.entry.book.log.end ≡ None → AreNoted (restart_parts true kept) old.history new.history
          → Done shelf_seen seen 1 old new events.RestartManager replies.Done
      restarted_shut shut noted = record {
        settles = Part.Settling (settle_entry 0 kept) ∷ [];
        settling = (tt, tt);
        few = omega arith;
        fits = tt;
        moves = tt;
        passes = record {
          vid = same.vid;
          shape = same.shape;
          first = same.first;
          sound = sound_then;
          entries = noted.entries;
          spare = noted.spare;
          told = same.told;
          quiet = same.quiet;
          count = same.count;
          faults = let more = same.count in omega arith;
          leads = λ w is apart carries. restarted_led shut
              (two_more (Part.Settling (settle_entry 0 kept)) (Part.Asking events.RestartManager replies.Done) old.history new.history noted) w is;
        };
      }

      restarted_open : is_none old.entry.book.log.end ≡ false → AreNoted (restart_parts false kept) old.history new.history
          → Done shelf_seen seen 1 old new events.RestartManager replies.Done
      restarted_open some noted =
          let one : IsNoted (trace_of events.RestartManager replies.Done) old.history new.history = record { entries = noted.entries; spare = noted.spare } in
          let more = noted_more (trace_of events.RestartManager replies.Done) old.history new.history one in
          record {
            settles = [];
            settling = tt;
            few = omega arith;
            fits = tt;
            moves = tt;
            passes = passes_asking shelf_seen seen events.RestartManager replies.Done old new same sound_then one
                (no_fault events.RestartManager replies.Done (faults_of shelf_seen seen old) (faults_of shelf_seen seen new) refl same.count)
                (λ w is apart carries. done_on shelf_seen seen events.RestartManager replies.Done old new w tt
                (restart_done shelf_seen seen old new w is.stands only starts.call.broken kept
                (open_by w.state.manager.is_shut old.entry.book.log.end is.stands.manager.book.shut some) (starts.told w.state.manager is.stands.manager))
                (short_on (Ok kept) starts more w is));
          }

      pub restarted_now : (was_shut : Bool) → was_shut ≡ is_none old.entry.book.log.end → AreNoted (restart_parts was_shut kept) old.history new.history
          → Done shelf_seen seen 1 old new events.RestartManager replies.Done
      restarted_now true was noted = restarted_shut (is_none_at old.entry.book.log.end (sym was)) noted
      restarted_now false was noted = restarted_open (sym was) noted

    -- ---- it doesn't start

    module _ (most : ℕ) (event : Event) (may : MayFail (origin_of shelf_seen seen old) event) (few : length old.history.entries + 3 ≤ 2 ^ 32)
        (fails : (w : World) → IsAt shelf_seen seen old w → entries.StartsTo seen w.state.manager new.entry (Err faults.Fault)
        → LeadsOn shelf_seen seen old w (trace_of event replies.Fault) new) where
      sound_still : (fault : EntryFault) → StartsEntry seen old.entry new.entry (Err fault) → length old.history.entries ≤ length new.history.entries → IsSound shelf_seen seen new
      sound_still fault starts more =
          sound_by_entry shelf_seen seen old new only starts.lasts (Err fault) starts.call
          (in_time_still (length old.history.entries) (length new.history.entries) old.entry.book.log.end new.entry.book.log.end more starts.call.end sound.end) sound

      -- its file fails
      failed_by_fault : StartsEntry seen old.entry new.entry (Err faults.Fault) → IsNoted (trace_of event replies.Fault) old.history new.history
          → Done shelf_seen seen most old new event replies.Fault
      failed_by_fault starts noted =
          let more = noted_more (trace_of event replies.Fault) old.history new.history noted in
          record {
            settles = [];
            settling = tt;
            few = omega arith;
            fits = may.fault;
            moves = tt;
            passes = passes_asking shelf_seen seen event replies.Fault old new (same_by_entry shelf_seen seen old new only starts.lasts) (sound_still faults.Fault starts more) noted
                (one_fault event replies.Fault (faults_of shelf_seen seen old) (faults_of shelf_seen seen new) (rose_by_entry shelf_seen seen old new only starts.lasts starts.call.counts))
                (λ w is apart carries.
                let led = fails w is (starts.told w.state.manager is.stands.manager) in (
                  led.then_,
                  fault_done (origin_of shelf_seen seen old) w event led.then_ led.may_be,
                  record { stands = led.stands; short = short_on (Err faults.Fault) starts more w is },
                ));
          }

      -- it is spoiled, which no file tells
      failed_by_log : (place : ℕ) → StartsEntry seen old.entry new.entry (Err (faults.Spoiled place)) → IsNoted (trace_of event (replies.Spoiled place)) old.history new.history
          → Done shelf_seen seen most old new event (replies.Spoiled place)
      failed_by_log place starts noted =
          let more = noted_more (trace_of event (replies.Spoiled place)) old.history new.history noted in
          let volume = same_by_entry shelf_seen seen old new only starts.lasts in
          record {
            settles = [];
            settling = tt;
            few = omega arith;
            fits = may.spoiled place;
            moves = tt;
            passes = passes_asking shelf_seen seen event (replies.Spoiled place) old new volume (sound_still (faults.Spoiled place) starts more) noted
                (no_fault event (replies.Spoiled place) (faults_of shelf_seen seen old) (faults_of shelf_seen seen new) refl volume.count)
                (λ w is apart carries.
                absurd (not_spoiled seen old.entry w.state.manager is.stands.manager (length old.history.entries) place (omega (arith, few)) is.short starts.spoiled));
          }

      -- there is no memory
      not_started : StartsEntry seen old.entry new.entry (Err faults.Memory) → new.history ≡ old.history → NotDone shelf_seen seen most old new
      not_started starts unnoted =
          let same_entries = ap (λ (history : KeptHistory). history.entries) unnoted in
          let same_spare = ap (λ (history : KeptHistory). history.spare) unnoted in
          let more : length old.history.entries ≤ length new.history.entries = let long = ap length same_entries in omega (arith, long) in
          record {
            settles = [];
            settling = tt;
            few = omega arith;
            passes = passes_nothing shelf_seen seen old new (same_by_entry shelf_seen seen old new only starts.lasts) (sound_still faults.Memory starts more) same_entries
                (omega (arith, same_spare))
                (λ w is. record {
                  stands = start_not_done shelf_seen seen old new w is.stands only starts.call.broken (starts.told w.state.manager is.stands.manager);
                  short = short_on (Err faults.Memory) starts more w is;
                });
          }

      pub failed : (fault : EntryFault) → StartsEntry seen old.entry new.entry (Err fault) → NotesReply event old.history new.history (start_refusal fault)
          → Takes shelf_seen seen most old new event (start_refusal fault)
      failed faults.Fault starts noted = failed_by_fault starts noted
      failed (faults.Spoiled place) starts noted = failed_by_log place starts noted
      failed faults.Memory starts noted = not_started starts noted
      failed faults.Shut starts noted = absurd starts.named

  -- ---- a start and what is noted then

  module _ (old mid new : WorldOver H F) (kept : Bool) (sound : IsSound shelf_seen seen old) (only : mid ≡ record old { entry = mid.entry })
      (starts : StartsEntry seen old.entry mid.entry (Ok kept)) (rest : new ≡ record mid { history = new.history }) where
    only_now : new ≡ record old { entry = new.entry; history = new.history }
    only_now = only_entry old mid new only rest

    starts_now : StartsEntry seen old.entry new.entry (Ok kept)
    starts_now = subst (λ entry. StartsEntry seen old.entry entry (Ok kept)) (sym (ap (λ (world : WorldOver H F). world.entry) rest)) starts

    history_now : mid.history ≡ old.history
    history_now = ap (λ (world : WorldOver H F). world.history) only

    pub settled_now : is_some old.entry.book.log.end ≡ false → IsNoted (settle_entry 0 kept) mid.history new.history → IsOpened shelf_seen seen old new
    settled_now shut noted =
        opened_now old new sound only_now kept starts_now (none_at old.entry.book.log.end shut)
        (subst (λ history. IsNoted (settle_entry 0 kept) history new.history) history_now noted)

    pub restarted_then : (was_shut : Bool) → was_shut ≡ is_none old.entry.book.log.end → AreNoted (restart_parts was_shut kept) mid.history new.history
        → Done shelf_seen seen 1 old new events.RestartManager replies.Done
    restarted_then was_shut was noted =
        restarted_now old new sound only_now kept starts_now was_shut was
        (subst (λ history. AreNoted (restart_parts was_shut kept) history new.history) history_now noted)

  -- ---- an event whose log was to be started

  module _ (old mid new : WorldOver H F) (event : Event) (fault : EntryFault) (result : Result Reply StepFault) (sound : IsSound shelf_seen seen old)
      (few : length old.history.entries + 3 ≤ 2 ^ 32) (only : mid ≡ record old { entry = mid.entry }) (starts : StartsEntry seen old.entry mid.entry (Err fault))
      (is : result ≡ start_refusal fault) (noted : NotesReply event mid.history new.history result) (rest : new ≡ record mid { history = new.history }) where
    both : new ≡ record old { entry = new.entry; history = new.history }
    both = only_entry old mid new only rest

    starts_then : StartsEntry seen old.entry new.entry (Err fault)
    starts_then = subst (λ entry. StartsEntry seen old.entry entry (Err fault)) (sym (ap (λ (world : WorldOver H F). world.entry) rest)) starts

    noted_then : NotesReply event old.history new.history (start_refusal fault)
    noted_then =
        subst (NotesReply event old.history new.history) is
        (subst (λ history. NotesReply event history new.history result) (ap (λ (world : WorldOver H F). world.history) only) noted)

    -- it needs the log, and is refused
    pub refused_now : NeedsLog (event_told (event_kept event)) → old.entry.book.log.end ≡ None → Takes shelf_seen seen 0 old new event result
    refused_now needs shut =
        subst (Takes shelf_seen seen 0 old new event) (sym is)
        (failed old new sound both 0 event (may_fail (origin_of shelf_seen seen old) event needs) few
        (λ w at h. start_refused shelf_seen seen old new w at.stands both starts_then.call.broken event needs
        (shut_by w.state.manager.is_shut old.entry.book.log.end at.stands.manager.book.shut shut) h)
        fault starts_then noted_then)

  -- a restart of the manager
  pub restart_refused : (old mid new : WorldOver H F) (fault : EntryFault) (result : Result Reply StepFault) → IsSound shelf_seen seen old → length old.history.entries + 3 ≤ 2 ^ 32
      → mid ≡ record old { entry = mid.entry } → StartsEntry seen old.entry mid.entry (Err fault) → result ≡ start_refusal fault
      → NotesReply events.RestartManager mid.history new.history result → new ≡ record mid { history = new.history }
      → Takes shelf_seen seen 1 old new events.RestartManager result
  restart_refused old mid new fault result sound few only starts is noted rest =
      let then_ = starts_then old mid new events.RestartManager fault result sound few only starts is noted rest in
      let one = both old mid new events.RestartManager fault result sound few only starts is noted rest in
      subst (Takes shelf_seen seen 1 old new events.RestartManager) (sym is)
      (failed old new sound one 1 events.RestartManager (record { fault = tt; spoiled = λ place. tt }) few
      (λ w at h. restart_failed shelf_seen seen old new w at.stands one then_.call.broken h)
      fault then_ (noted_then old mid new events.RestartManager fault result sound few only starts is noted rest))
