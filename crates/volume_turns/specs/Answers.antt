-- What the answer of each call makes of the reply to its command. A call that was cut off has no reply.
use Rattle.std.specs.Prelude.{ℕ, List, Result, Ok, Err}
use Rattle.volume_entry.specs.declared.view.View.{View}
use Rattle.volume_world.specs.declared.fault.StepFault.{StepFault}
use Rattle.volume_world.specs.declared.fault.StepFault.TheVariants as step_faults
use Rattle.blob_access.specs.declared.fault.PutFault.{PutFault}
use Rattle.blob_access.specs.declared.fault.PutFault.TheVariants as put_faults
use Rattle.blob_access.specs.declared.fault.GetFault.{GetFault}
use Rattle.blob_access.specs.declared.fault.GetFault.TheVariants as get_faults
use Rattle.volume_calls.specs.declared.fault.LogFault.{LogFault}
use Rattle.volume_calls.specs.declared.fault.LogFault.TheVariants as log_faults
use Rattle.volume_calls.specs.declared.fault.RestartFault.{RestartFault}
use Rattle.volume_calls.specs.declared.fault.RestartFault.TheVariants as restart_faults
use Rattle.volume_calls.specs.declared.fault.AskFault.{AskFault}
use Rattle.volume_calls.specs.declared.fault.AskFault.TheVariants as ask_faults
use Rattle.volume_calls.specs.declared.flushing.Flushed.{Flushed}
use Rattle.volume_turns.specs.declared.reply.VolumeRefusal.{VolumeRefusal}
use Rattle.volume_turns.specs.declared.reply.VolumeRefusal.TheVariants as refusals
use Rattle.volume_turns.specs.declared.reply.VolumeReply.{VolumeReply}
use Rattle.volume_turns.specs.declared.reply.VolumeReply.TheVariants as replies

-- a reply, or why a step wasn't done
abbrev pub Replied : Type 0
Replied = Result VolumeReply StepFault

abbrev pub refused : VolumeRefusal → Replied
refused refusal = Ok (replies.Refused refusal)

abbrev pub put_refused : PutFault → Replied
put_refused (put_faults.Locked task) = refused (refusals.Locked task)
put_refused put_faults.Begun = refused refusals.Begun
put_refused (put_faults.LeaseEnded end time) = refused (refusals.Lease end)
put_refused put_faults.NotOpen = refused refusals.NotOpen
put_refused (put_faults.Quorum accepted) = refused (refusals.Quorum accepted)
put_refused put_faults.Fault = refused refusals.Fault
put_refused (put_faults.Spoiled place) = refused (refusals.Spoiled place)
put_refused put_faults.HistoryFull = Err step_faults.HistoryFull
put_refused put_faults.Memory = Err step_faults.Memory

abbrev pub put_reply : Result (Unit {0}) PutFault → Replied
put_reply (Ok done) = Ok replies.Put
put_reply (Err fault) = put_refused fault

abbrev pub get_refused : GetFault → Replied
get_refused (get_faults.Short live unheard broken) = refused (refusals.Short live)
get_refused (get_faults.Size kept) = refused (refusals.Size kept)
get_refused (get_faults.Moving versions) = refused refusals.Moving
get_refused get_faults.Fault = refused refusals.Fault
get_refused (get_faults.Spoiled place) = refused (refusals.Spoiled place)
get_refused get_faults.HistoryFull = Err step_faults.HistoryFull
get_refused get_faults.Memory = Err step_faults.Memory

abbrev pub got_reply : Result (List ℕ) GetFault → Replied
got_reply (Ok bytes) = Ok (replies.Got bytes)
got_reply (Err fault) = get_refused fault

abbrev pub fetched_reply : Result (List ℕ) GetFault → Replied
fetched_reply (Ok bytes) = Ok (replies.Fetched bytes)
fetched_reply (Err fault) = get_refused fault

abbrev pub ask_reply : Result (Unit {0}) AskFault → Replied
ask_reply (Ok done) = Ok replies.Asked
ask_reply (Err ask_faults.NotBegun) = refused refusals.NotBegun
ask_reply (Err ask_faults.Fault) = refused refusals.Fault
ask_reply (Err (ask_faults.Spoiled place)) = refused (refusals.Spoiled place)
ask_reply (Err ask_faults.HistoryFull) = Err step_faults.HistoryFull
ask_reply (Err ask_faults.Memory) = Err step_faults.Memory

abbrev pub tick_reply : Result ℕ StepFault → Replied
tick_reply (Ok time) = Ok (replies.Ticked time)
tick_reply (Err fault) = Err fault

abbrev pub broken_reply : Result (Unit {0}) StepFault → Replied
broken_reply (Ok done) = Ok replies.Broken
broken_reply (Err fault) = Err fault

abbrev pub planned_reply : Result (Unit {0}) StepFault → Replied
planned_reply (Ok done) = Ok replies.Planned
planned_reply (Err fault) = Err fault

abbrev pub log_refused : LogFault → Replied
log_refused log_faults.Fault = refused refusals.Fault
log_refused (log_faults.Spoiled place) = refused (refusals.Spoiled place)
log_refused log_faults.HistoryFull = Err step_faults.HistoryFull
log_refused log_faults.Memory = Err step_faults.Memory

abbrev pub seen_reply : Result View LogFault → Replied
seen_reply (Ok view) = Ok (replies.Seen view)
seen_reply (Err fault) = log_refused fault

abbrev pub flush_reply : Result Flushed LogFault → Replied
flush_reply (Ok flushed) = Ok (replies.Flushed flushed.requests flushed.answers)
flush_reply (Err fault) = log_refused fault

abbrev pub restart_reply : Result (Unit {0}) RestartFault → Replied
restart_reply (Ok done) = Ok replies.Restarted
restart_reply (Err restart_faults.Fault) = refused refusals.Fault
restart_reply (Err (restart_faults.Damaged kept computed)) = refused refusals.Damaged
restart_reply (Err (restart_faults.Spoiled place)) = refused (refusals.Spoiled place)
restart_reply (Err restart_faults.HistoryFull) = Err step_faults.HistoryFull
restart_reply (Err restart_faults.Memory) = Err step_faults.Memory

abbrev pub manager_reply : Result (Unit {0}) LogFault → Replied
manager_reply (Ok done) = Ok replies.RestartedManager
manager_reply (Err fault) = log_refused fault
