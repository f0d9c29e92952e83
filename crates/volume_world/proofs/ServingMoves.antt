-- Requests that the stations handle as moves of the protocol.
use Rattle.std.proofs.Common.{◌≡◌, ◌∙◌, sym, ap, refl, subst, ℕ, ◌≤◌, Bool, true, false, List, Option, None, Some, Result, Ok, Err, inr, arith}
use Rattle.std.specs.Prelude.{is_some}
use Rattle.unit_id.specs.Lists.{IsIn}
use Rattle.unit_id.specs.Place.{Place}
use Rattle.unit_id.specs.Messages.{request_of, answer_of}
use Rattle.unit_id.specs.Request.{place_of}
use Rattle.unit_id.specs.declared.request.Request as sent
use Rattle.unit_id.specs.declared.answer.Answer as answered
use Rattle.disk_base.specs.Disk.{FileView}
use Rattle.disk_base.specs.Shelves.{ShelfView}
use Rattle.disk_base.specs.declared.fault.NoMemory.{NoMemory}
use Rattle.blob_node.specs.Units.{UnitRecord, Units, with_at}
use Rattle.blob_node.specs.UnitAnswer.{Answers, view_at, units_after, settled_at}
use Rattle.blob_node.specs.HeldUnit.{settled_by, written_by}
use Rattle.blob_node.specs.Holding.{Written, item_of, written_after}
use Rattle.blob_node.specs.Station.{StationOver}
use Rattle.blob_node.proofs.Holdings.{never_both}
use Rattle.volume_entry.specs.Reply.{Reply}
use Rattle.code_mode.specs.VolumeShape.{VolumeShape}
use Rattle.volume_world.specs.Event.{Event}
use Rattle.volume_world.specs.State.{State}
use Rattle.volume_world.specs.Move.{SettlesUnit}
use Rattle.volume_world.specs.Run.{World, IsSettledOn, Does}
use Rattle.volume_world.specs.Serving.{told_of, once_settled, HandlesIn}
use Rattle.volume_world.specs.Stations.{is_broken_on, AllStand, AnswersBy, Handles}
use Rattle.volume_world.proofs.StationsFrame.{differ}
use Rattle.volume_world.proofs.ServingUnits.{answers_unstarted, known_nothing, known_after, all_known}

no_doubt : (o : Option UnitRecord) → is_some o ≡ false → o ≡ None
no_doubt None e = refl
no_doubt (Some r) e = absurd (never_both true e refl)

module _ {H F : Type 0} (shelf_seen : H → ShelfView F) (seen : F → FileView) (old new : List (StationOver H F)) (request : sent.Request) (written : Place → Written) where
  abbrev asked : Place
  asked = place_of (request_of request)

  -- ---- a record in doubt

  -- a start that found a record in doubt, or didn't, settles it
  settles : (s : State) (b : Bool) → s.units.is_shut asked ≡ true → (b ≡ true → is_some (s.units.doubt asked) ≡ true) → SettlesUnit asked s b (once_settled asked (Some b) s)
  settles s true is_shut doubtful = (is_shut, doubtful refl, refl)
  settles s false is_shut doubtful = (is_shut, refl)

  pub settled_on : (s : State) (found : Option Bool) (b : Bool) (result : Result answered.Answer NoMemory) → Handles shelf_seen seen request written s.units found result old new → ((disk : ℕ) → s.broken disk ≡ is_broken_on old disk)
      → told_of (is_some (s.units.doubt asked)) found ≡ Some b → IsSettledOn asked.disk s b (once_settled asked (Some b) s)
  settled_on s found b result handles broken told = go (is_some (s.units.doubt asked)) refl told where
    go : (test : Bool) → is_some (s.units.doubt asked) ≡ test → told_of test found ≡ Some b → IsSettledOn asked.disk s b (once_settled asked (Some b) s)
    go true doubtful is = record {
      place = asked;
      here = refl;
      unbroken = broken asked.disk ∙ handles.was_unbroken (ap is_some is);
      doubtful = doubtful;
      settles = settles s b (handles.was_shut (ap is_some is)) (λ _. doubtful);
    }
    go false e is = absurd (none_some is)
      where
        none_some : None ≡ Some b → ⊥
        none_some h = cc

  -- .. which is an entry of the history
  pub settles_as_entry : (shape : VolumeShape) (w : World) (found : Option Bool) (b : Bool) (result : Result answered.Answer NoMemory) → Handles shelf_seen seen request written w.state.units found result old new
      → ((disk : ℕ) → w.state.broken disk ≡ is_broken_on old disk) → 1 ≤ asked.disk → told_of (is_some (w.state.units.doubt asked)) found ≡ Some b
      → Does shape w (Event.Settle asked.disk b) Reply.Done (record w { state = once_settled asked (Some b) w.state })
  settles_as_entry shape w found b result handles broken first told = (refl, (inr (differ asked.disk 0 (λ e. omega (arith, first, e)), settled_on w.state found b result handles broken told), refl))

  -- ---- what is left

  -- a state in which the request was issued, and these disks are broken
  module _ (units : Units) (s : State) (broken : (disk : ℕ) → s.broken disk ≡ is_broken_on old disk) (issued : IsIn (request_of request) s.post.issued) where
    -- an answer of the stations, where all that a start did is told
    answers_told : (found : Option Bool) (answer : answered.Answer) → s.units ≡ settled_by asked found units → AnswersBy shelf_seen seen request written units found answer old new → HandlesIn shelf_seen seen s request written found answer new
    answers_told found answer same by = record {
      effect = by.effect;
      handles = (
        issued,
        subst (λ b. Answers (record (view_at (λ disk. b) s.units asked) { is_broken = b }) (request_of request) (answer_of answer) by.effect) (sym (broken asked.disk))
            (subst (λ (u : Units). Answers (view_at (is_broken_on old) u asked) (request_of request) (answer_of answer) by.effect) (sym same) by.answers),
        refl,
      );
      bytes = by.bytes;
      stand = subst (λ (u : Units). AllStand shelf_seen seen new (with_at asked (written_after by.effect (item_of request) (written_by found (written asked))) written) (units_after asked (request_of request) by.effect u)) (sym same) by.stand;
    }

    -- .. where a chunk was started that had nothing in doubt: the protocol may count it as shut
    answers_untold : (answer : answered.Answer) → s.units ≡ units → units.doubt asked ≡ None → units.is_shut asked ≡ true → AnswersBy shelf_seen seen request written units (Some false) answer old new
        → HandlesIn shelf_seen seen s request written (Some false) answer new
    answers_untold answer same none is_shut by = record {
      effect = by.effect;
      handles = (
        issued,
        subst (λ b. Answers (record (view_at (λ disk. b) s.units asked) { is_broken = b }) (request_of request) (answer_of answer) by.effect) (sym (broken asked.disk))
            (subst (λ (u : Units). Answers (view_at (is_broken_on old) u asked) (request_of request) (answer_of answer) by.effect) (sym same)
            (answers_unstarted (is_broken_on old) units asked (request_of request) (answer_of answer) by.effect none is_shut by.answers)),
        refl,
      );
      bytes = by.bytes;
      stand = subst (λ (u : Units). AllStand shelf_seen seen new (with_at asked (written_after by.effect (item_of request) (written_by (Some false) (written asked))) written) (units_after asked (request_of request) by.effect u)) (sym same)
          (all_known shelf_seen seen new (with_at asked (written_after by.effect (item_of request) (written_by (Some false) (written asked))) written)
          (units_after asked (request_of request) by.effect (settled_at asked units)) (units_after asked (request_of request) by.effect units)
          (λ q. known_after asked q units none (request_of request) by.effect) by.stand);
    }

    -- Once what is told of a start is settled, the request is handled, and the stations stand for the state behind it.
    pub handles_in : (found : Option Bool) (answer : answered.Answer) → s.units ≡ settled_by asked (told_of (is_some (units.doubt asked)) found) units → Handles shelf_seen seen request written units found (Ok answer) old new
        → HandlesIn shelf_seen seen s request written found answer new
    handles_in found answer same handles = go (is_some (units.doubt asked)) refl found same handles where
      go : (test : Bool) → is_some (units.doubt asked) ≡ test → (f : Option Bool) → s.units ≡ settled_by asked (told_of test f) units → Handles shelf_seen seen request written units f (Ok answer) old new
          → HandlesIn shelf_seen seen s request written f answer new
      go true e f same handles = answers_told f answer same handles.handles
      go false e None same handles = answers_told None answer same handles.handles
      go false e (Some true) same handles = absurd (never_both (is_some (units.doubt asked)) e (handles.was_in_doubt refl))
      go false e (Some false) same handles = answers_untold answer same (no_doubt (units.doubt asked) e) (handles.was_shut refl) handles.handles

  -- For want of memory the stations stand for the state in which what is told of a start is settled.
  pub left_by : (units : Units) (found : Option Bool) (fault : NoMemory) → Handles shelf_seen seen request written units found (Err fault) old new
      → AllStand shelf_seen seen new (with_at asked (written_by found (written asked)) written) (settled_by asked (told_of (is_some (units.doubt asked)) found) units)
  left_by units found fault handles = go (is_some (units.doubt asked)) refl found handles where
    go : (test : Bool) → is_some (units.doubt asked) ≡ test → (f : Option Bool) → Handles shelf_seen seen request written units f (Err fault) old new
        → AllStand shelf_seen seen new (with_at asked (written_by f (written asked)) written) (settled_by asked (told_of test f) units)
    go true e f handles = handles.handles
    go false e None handles = handles.handles
    go false e (Some true) handles = absurd (never_both (is_some (units.doubt asked)) e (handles.was_in_doubt refl))
    go false e (Some false) handles =
        all_known shelf_seen seen new (with_at asked (written_by (Some false) (written asked)) written) (settled_at asked units) units
        (λ q. known_nothing asked q units (no_doubt (units.doubt asked) e)) handles.handles
