-- No event but a send is replied to with a unit's answer.
use Rattle.std.proofs.Common.{◌≡◌, ◌∙◌, sym, ap, refl, Bool, true, false, cond, List, [], ◌∷◌, Some}
use Rattle.code_mode.specs.VolumeShape.{VolumeShape}
use Rattle.unit_id.specs.Lists.{first_that_holds}
use Rattle.volume_entry.specs.Reply.{Reply}
use Rattle.volume_entry.specs.ManagerStep.{lease_tests, lock_tests, retarget_tests, swap_tests, unlock_tests, ask_tests, commit_tests, task_of}
use Rattle.volume_world.specs.Event.{Event}
use Rattle.volume_world.specs.BlobStatus.{is_begun}
use Rattle.volume_world.specs.State.{State}
use Rattle.volume_world.specs.Move.{Happens}
use Rattle.volume_world.specs.Run.{World, Does}
use Rattle.volume_world.proofs.OneMove.{IsOneMove}
use Rattle.volume_decided.proofs.Shown.{is_heard}
use Rattle.std.specs.Prelude.{is_some}

abbrev AreUnheard : List (Bool × Reply) → Type 0
AreUnheard [] = Unit {0}
AreUnheard (row ∷ rows) = (is_heard row.1 ≡ false) × AreUnheard rows

some_is : (a b : Reply) → Some a ≡ Some b → a ≡ b
some_is a b e = cc

first_unheard : (rows : List (Bool × Reply)) (r : Reply) → AreUnheard rows → first_that_holds rows ≡ Some r → is_heard r ≡ false
first_unheard [] r are h = cc
first_unheard (row ∷ rows) r are h = go row.0 h (first_unheard rows r are.1) where
  go : (test : Bool) → cond test (Some row.1) (first_that_holds rows) ≡ Some r → (first_that_holds rows ≡ Some r → is_heard r ≡ false) → is_heard r ≡ false
  go true is rest = ap is_heard (sym (some_is row.1 r is)) ∙ are.0
  go false is rest = rest is

-- a step's heard reply would be a refusal
happens_unheard : (shape : VolumeShape) (s : State) (event : Event) (r : Reply) (t : State) → IsOneMove event → Happens shape s event r t → is_heard r ≡ false
happens_unheard shape s event (Reply.Heard a) t one h = go event one h where
  go : (event : Event) → IsOneMove event → Happens shape s event (Reply.Heard a) t → true ≡ false
  go (Event.Tick by) one h = absurd h
  go (Event.Break disk) one h = absurd h
  go (Event.Restart disk) one h = absurd h
  go Event.RestartManager one h = absurd h
  go Event.Lease one h = first_unheard (lease_tests s.manager) (Reply.Heard a) (refl, tt) h.1.0.0
  go (Event.Begin bid payload) one h = first_unheard ((is_some s.manager.lock, Reply.Locked (task_of s.manager.lock)) ∷ (is_begun (s.puts.status bid), Reply.BeginTwice) ∷ []) (Reply.Heard a) (refl, (refl, tt)) h.1.1.0
  go (Event.End bid) one h = absurd h.1
  go (Event.Lock task targets) one h = first_unheard (lock_tests s.broken s.time targets s.manager) (Reply.Heard a) (refl, (refl, (refl, (refl, (refl, tt))))) h.1.1.0
  go (Event.Retarget task index disk) one h =
      first_unheard (retarget_tests s.broken task index disk s.manager) (Reply.Heard a) (refl, (refl, (refl, (refl, (refl, (refl, (refl, (refl, tt)))))))) h.1.1.0
  go (Event.Swap task) one h = first_unheard (swap_tests shape s.broken task s.manager) (Reply.Heard a) (refl, (refl, (refl, (refl, (refl, (refl, tt)))))) h.1.0.0
  go (Event.Unlock task) one h = first_unheard (unlock_tests s.broken task s.manager) (Reply.Heard a) (refl, (refl, (refl, (refl, tt)))) h.1.0.0
  go (Event.Ask bid) one h = first_unheard (ask_tests (is_begun (s.puts.status bid)) bid s.manager) (Reply.Heard a) (refl, (refl, tt)) h.1.1.0
  go (Event.Commit bid) one h = first_unheard (commit_tests shape bid s.manager) (Reply.Heard a) (refl, (refl, (refl, (refl, tt)))) h.1.1.0
  go Event.Look one h = absurd h.1
  go (Event.Plan disk fate count) one h = absurd one
  go (Event.Send request) one h = absurd one
  go Event.FlushOne one h = absurd one
  go (Event.Settle disk is_found) one h = absurd one
happens_unheard shape s event r t one h = refl

pub does_unheard : (shape : VolumeShape) (w : World) (event : Event) (r : Reply) (v : World) → IsOneMove event → Does shape w event r v → is_heard r ≡ false
does_unheard shape w (Event.Plan disk fate count) r v one h = absurd one
does_unheard shape w (Event.Send request) r v one h = absurd one
does_unheard shape w Event.FlushOne r v one h = absurd one
does_unheard shape w (Event.Settle disk is_found) r v one h = absurd one
does_unheard shape w event r v one h = happens_unheard shape w.state event r h.0.0 one h.0.1
