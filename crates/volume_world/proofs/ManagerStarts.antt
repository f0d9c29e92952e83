-- A start of the manager's log, before an event that needs it and at a restart of the manager.
use Rattle.std.proofs.Common.{◌≡◌, sym, ap, refl, inl, subst, ℕ, ◌≤◌, Bool, true, false, Option, Some, None, Ok, Err, arith}
use Rattle.std.specs.Prelude.{is_some}
use Rattle.unit_id.proofs.Bools.{contrary}
use Rattle.disk_base.specs.Disk.{FileView}
use Rattle.disk_base.specs.Shelves.{ShelfView}
use Rattle.code_mode.specs.VolumeShape.{VolumeShape}
use Rattle.volume_entry.specs.Manager.{Manager, ManagerRecord, forgetful, settled}
use Rattle.volume_entry.specs.Reply.{Reply as ToldReply}
use Rattle.volume_entry.specs.TableParts.{shape_of}
use Rattle.volume_entry.specs.BookStart.{found_part, last_start}
use Rattle.volume_entry.specs.Entry.{restarted}
use Rattle.volume_entry.specs.Entry as entries
use Rattle.volume_entry.specs.declared.fault.EntryFault.{EntryFault}
use Rattle.volume_entry.specs.declared.fault.EntryFault.TheVariants as faults
use Rattle.volume_world.specs.State.{State}
use Rattle.volume_world.specs.Move.{SettlesManager, RestartsManager, found}
use Rattle.volume_world.specs.Run.{World}
use Rattle.volume_world.specs.Told.{MayBe, event_told}
use Rattle.volume_world.specs.Trace.{event_kept, trace_of}
use Rattle.volume_world.specs.World.{WorldOver, Stands}
use Rattle.volume_world.specs.WorldSteps.{LeadsOn, Gives}
use Rattle.volume_world.specs.History.{settle_entry}
use Rattle.volume_world.specs.Opening.{NeedsLog}
use Rattle.volume_world.specs.ManagerReplies.{start_refusal}
use Rattle.volume_world.specs.declared.event.Event.{Event}
use Rattle.volume_world.specs.declared.event.Event.TheVariants as events
use Rattle.volume_world.specs.declared.reply.Reply.TheVariants as replies
use Rattle.volume_world.specs.declared.trace.TraceEvent.TheVariants as kept_event
use Rattle.volume_world.specs.declared.trace.TraceReply.TheVariants as kept_reply
use Rattle.volume_world.proofs.OneMove.{entry_of, entry_of_move, entry_of_refusal}
use Rattle.volume_world.proofs.WorldFrames.{stands_with}

-- a manager's part that is new in a state
abbrev pub with_manager : Manager → World → World
with_manager m w = record w { state = record (w.state) { manager = m } }

same_found : (m : Manager) (doubt : Option ManagerRecord) → is_some doubt ≡ true → found_part true doubt m ≡ found doubt m
same_found m None e = absurd (contrary false e refl)
same_found m (Some item) e = refl

pub start_settles : (s : State) (is_found : Bool) → s.manager.is_shut ≡ true → (is_found ≡ true → is_some s.manager.doubt ≡ true)
    → SettlesManager s is_found (record s { manager = restarted is_found s.manager })
start_settles s true shut doubtful = (shut, doubtful refl, (λ i. record s { manager = forgetful (settled (same_found s.manager s.manager.doubt (doubtful refl) i)) }))
start_settles s false shut doubtful = (shut, refl)

-- a settle of the manager's log
pub settle_may_be : (vid : ℕ) (shape : VolumeShape) (w : World) (is_found : Bool) → w.state.manager.is_shut ≡ true
    → (is_found ≡ true → is_some w.state.manager.doubt ≡ true)
    → MayBe vid shape w (settle_entry 0 is_found) (with_manager (restarted is_found w.state.manager) w)
settle_may_be vid shape w is_found shut doubtful =
    entry_of vid shape w (kept_event.Settle 0 is_found) kept_reply.Done ToldReply.Done (with_manager (restarted is_found w.state.manager) w)
    (refl, (inl (refl, (record (w.state) { manager = restarted is_found w.state.manager }, start_settles w.state is_found shut doubtful, refl)), refl)) tt

nothing_found : (m : Manager) (doubt : Option ManagerRecord) (is_found : Bool) → doubt ≡ None → found_part is_found doubt m ≡ m
nothing_found m doubt true e = ap (λ d. found_part true d m) e
nothing_found m doubt false e = refl

-- where nothing is in doubt, a start is a restart of the manager
pub start_restarts : (s : State) (is_found : Bool) → s.manager.doubt ≡ None → RestartsManager s ToldReply.Done (record s { manager = restarted is_found s.manager })
start_restarts s is_found sure = (sure, (λ i. record s { manager = forgetful (settled (nothing_found s.manager s.manager.doubt is_found sure i)) }))

-- a log that was shut stays so
pub shut_already : (m : Manager) → m.is_shut ≡ true → record m { is_shut = true } ≡ m
shut_already m shut = λ i. record m { is_shut = sym shut i }

module _ {H F : Type 0} (shelf_seen : H → ShelfView F) (seen : F → FileView) where
  -- nothing is in doubt in a log that isn't shut
  pub open_is_sure : (world : WorldOver H F) (w : World) → Stands shelf_seen seen world w → w.state.manager.is_shut ≡ false → w.state.manager.doubt ≡ None
  open_is_sure world w stands open_ = (stands.manager.book.open_ open_).certain

  -- the manager's log of a world is started, and nothing else changes
  module _ (old new : WorldOver H F) (w : World) (stands : Stands shelf_seen seen old w)
      (only : new ≡ record old { entry = new.entry; history = new.history }) (unbroken : new.entry.broken ≡ old.entry.broken) where
    pub started_stands : (is_found : Bool) → entries.StartsTo seen w.state.manager new.entry (Ok is_found)
        → Stands shelf_seen seen new (with_manager (restarted is_found w.state.manager) w)
    started_stands is_found h = stands_with shelf_seen seen old new w (restarted is_found w.state.manager) only unbroken h.1 stands

    -- it was shut: the history has a settle
    pub start_settled : (is_found : Bool) → w.state.manager.is_shut ≡ true → entries.StartsTo seen w.state.manager new.entry (Ok is_found)
        → LeadsOn shelf_seen seen old w (settle_entry 0 is_found) new
    start_settled is_found shut h = record {
      then_ = with_manager (restarted is_found w.state.manager) w;
      may_be = settle_may_be old.vid (shape_of old.shape) w is_found shut h.0;
      stands = started_stands is_found h;
    }

    -- it doesn't start: the event that needs it is refused
    pub start_refused : (event : Event) → NeedsLog (event_told (event_kept event)) → w.state.manager.is_shut ≡ true
        → entries.StartsTo seen w.state.manager new.entry (Err faults.Fault)
        → LeadsOn shelf_seen seen old w (trace_of event replies.Fault) new
    start_refused event needs shut h = record {
      then_ = w;
      may_be = entry_of_refusal old.vid (shape_of old.shape) w event needs shut;
      stands = stands_with shelf_seen seen old new w w.state.manager only unbroken (subst (entries.Stands seen new.entry) (shut_already w.state.manager shut) h) stands;
    }

    -- a log that isn't too long isn't spoiled
    pub start_not_spoiled : (place : ℕ) → place ≤ last_start → entries.StartsTo seen w.state.manager new.entry (Err (faults.Spoiled place)) → ⊥
    start_not_spoiled place short h = omega (arith, short, h.0)

    -- for want of memory nothing is done
    pub start_not_done : entries.StartsTo seen w.state.manager new.entry (Err faults.Memory) → Stands shelf_seen seen new w
    start_not_done h = stands_with shelf_seen seen old new w w.state.manager only unbroken h stands

    -- ---- a restart of the manager

    -- it wasn't shut
    pub restart_done : (is_found : Bool) → w.state.manager.is_shut ≡ false → entries.StartsTo seen w.state.manager new.entry (Ok is_found)
        → LeadsOn shelf_seen seen old w (trace_of events.RestartManager replies.Done) new
    restart_done is_found open_ h = record {
      then_ = with_manager (restarted is_found w.state.manager) w;
      may_be = entry_of_move old.vid (shape_of old.shape) w kept_event.RestartManager kept_reply.Done ToldReply.Done (record (w.state) { manager = restarted is_found w.state.manager }) tt
          (start_restarts w.state is_found (open_is_sure old w stands open_)) tt;
      stands = started_stands is_found h;
    }

    -- it was shut: a settle stands before it
    pub restart_settled : (is_found : Bool) → w.state.manager.is_shut ≡ true → entries.StartsTo seen w.state.manager new.entry (Ok is_found)
        → (u : World) × MayBe old.vid (shape_of old.shape) w (settle_entry 0 is_found) u × LeadsOn shelf_seen seen old u (trace_of events.RestartManager replies.Done) new
    restart_settled is_found shut h =
        let u : World = with_manager (restarted is_found w.state.manager) w in (
          u,
          settle_may_be old.vid (shape_of old.shape) w is_found shut h.0,
          record {
            then_ = u;
            may_be = entry_of_move old.vid (shape_of old.shape) u kept_event.RestartManager kept_reply.Done ToldReply.Done u.state tt (refl, refl) tt;
            stands = started_stands is_found h;
          },
        )

    -- its file fails: it is shut
    pub restart_failed : entries.StartsTo seen w.state.manager new.entry (Err faults.Fault)
        → LeadsOn shelf_seen seen old w (trace_of events.RestartManager replies.Fault) new
    restart_failed h =
        let m : Manager = record (w.state.manager) { is_shut = true } in
        record {
          then_ = with_manager m w;
          may_be = entry_of_move old.vid (shape_of old.shape) w kept_event.RestartManager kept_reply.Fault ToldReply.Fault (record (w.state) { manager = m }) tt refl tt;
          stands = stands_with shelf_seen seen old new w m only unbroken h stands;
        }

    -- ---- whatever a start gives that fails

    -- its log isn't too long
    module _ (fault : EntryFault) (short : (place : ℕ) → fault ≡ faults.Spoiled place → place ≤ last_start) where
      pub start_gives : (event : Event) → NeedsLog (event_told (event_kept event)) → w.state.manager.is_shut ≡ true → entries.StartsTo seen w.state.manager new.entry (Err fault)
          → Gives shelf_seen seen old w event new (start_refusal fault)
      start_gives event needs shut = go fault refl where
        go : (f : EntryFault) → fault ≡ f → entries.StartsTo seen w.state.manager new.entry (Err f) → Gives shelf_seen seen old w event new (start_refusal f)
        go faults.Fault e h = start_refused event needs shut h
        go faults.Memory e h = start_not_done h
        go (faults.Spoiled place) e h = absurd (start_not_spoiled place (short place e) h)
        go faults.Shut e h = absurd h

      pub restart_gives : entries.StartsTo seen w.state.manager new.entry (Err fault) → Gives shelf_seen seen old w events.RestartManager new (start_refusal fault)
      restart_gives = go fault refl where
        go : (f : EntryFault) → fault ≡ f → entries.StartsTo seen w.state.manager new.entry (Err f) → Gives shelf_seen seen old w events.RestartManager new (start_refusal f)
        go faults.Fault e h = restart_failed h
        go faults.Memory e h = start_not_done h
        go (faults.Spoiled place) e h = absurd (start_not_spoiled place (short place e) h)
        go faults.Shut e h = absurd h
