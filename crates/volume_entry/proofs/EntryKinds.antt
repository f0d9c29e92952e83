-- Which answers a step gives, whatever the file tells.
use Rattle.std.proofs.Common.{ℕ, Bool, true, List, ◌∷◌, [], Some, Err}
use Rattle.unit_id.specs.declared.targets.Target.{Target}
use Rattle.gate_log.specs.GateLog.{LogView}
use Rattle.unit_id.specs.Lists.{is_in}
use Rattle.volume_entry.specs.Manager.{Manager}
use Rattle.volume_entry.specs.ManagerStep.{lease_tests, lease_refusal, ask_refusal, lock_tests, lock_refusal, retarget_tests, retarget_refusal}
use Rattle.volume_entry.specs.Reply.{Reply}
use Rattle.volume_entry.specs.Book.{AppendEnds, IsWriteFault}
use Rattle.volume_entry.specs.Entry.{reply_of, RefusesBy, MayAnswer}
use Rattle.volume_entry.specs.declared.event.ManagerEvent.TheVariants as events
use Rattle.volume_entry.specs.declared.event.ManagerReply.{ManagerReply}
use Rattle.volume_entry.specs.declared.fault.EntryFault.{EntryFault}
use Rattle.volume_entry.specs.declared.fault.EntryFault.TheVariants as faults
use Rattle.volume_entry.proofs.EntrySteps.{first_has}

-- a record that wasn't written
pub append_named : (fault : EntryFault) (old new : LogView) → AppendEnds old new (Err fault) → IsWriteFault fault
append_named faults.Fault old new ends = tt
append_named faults.Memory old new ends = tt
append_named _ old new ends = absurd ends

-- what is refused at once
module _ (m : Manager) (reply : ManagerReply) where
  pub lease_answers : RefusesBy (Some reply) (lease_refusal m) → (n : Manager) → MayAnswer events.Lease (reply_of n reply)
  lease_answers h n = first_has (MayAnswer events.Lease) (lease_tests m) (reply_of n reply) (tt, tt) (h.1 n)

  pub ask_answers : (bid : ℕ) → RefusesBy (Some reply) (ask_refusal true bid m) → (n : Manager) → MayAnswer (events.Ask bid) (reply_of n reply)
  ask_answers bid h n = first_has (MayAnswer (events.Ask bid)) ((is_in bid m.asked, Reply.Already) ∷ []) (reply_of n reply) (tt, tt) (h.1 n)

  pub lock_answers : (broken : ℕ → Bool) (time task : ℕ) (targets : List Target) → RefusesBy (Some reply) (lock_refusal broken time targets m)
      → (n : Manager) → MayAnswer (events.Lock task targets) (reply_of n reply)
  lock_answers broken time task targets h n =
      first_has (MayAnswer (events.Lock task targets)) (lock_tests broken time targets m) (reply_of n reply) (tt, (tt, (tt, (tt, (tt, tt))))) (h.1 n)

  pub retarget_answers : (broken : ℕ → Bool) (task index disk : ℕ) → RefusesBy (Some reply) (retarget_refusal broken task index disk m)
      → (n : Manager) → MayAnswer (events.Retarget task index disk) (reply_of n reply)
  retarget_answers broken task index disk h n =
      first_has (MayAnswer (events.Retarget task index disk)) (retarget_tests broken task index disk m) (reply_of n reply) (tt, (tt, (tt, (tt, (tt, (tt, (tt, (tt, tt)))))))) (h.1 n)
