-- What the reply to its one event tells as the answer of each call.
use Rattle.std.specs.Prelude.{ℕ, Option, Some, None, Result, Ok, Err}
use Rattle.volume_entry.specs.declared.view.View.{View}
use Rattle.volume_world.specs.declared.reply.Reply.{Reply}
use Rattle.volume_world.specs.declared.reply.Reply.TheVariants as replies
use Rattle.volume_world.specs.declared.fault.StepFault.{StepFault}
use Rattle.volume_calls.specs.declared.fault.LogFault.{LogFault}
use Rattle.volume_calls.specs.declared.fault.LogFault.TheVariants as log_faults
use Rattle.volume_calls.specs.declared.fault.RestartFault.{RestartFault}
use Rattle.volume_calls.specs.declared.fault.RestartFault.TheVariants as restart_faults
use Rattle.volume_calls.specs.declared.fault.AskFault.{AskFault}
use Rattle.volume_calls.specs.declared.fault.AskFault.TheVariants as ask_faults

-- the clock's time
abbrev pub tick_tells : Reply → Option (Result ℕ StepFault)
tick_tells (replies.Now time) = Some (Ok time)
tick_tells reply = None

-- a disk that breaks, or fates that are planned
abbrev pub done_tells : Reply → Option (Result (Unit {0}) StepFault)
done_tells replies.Done = Some (Ok tt)
done_tells reply = None

abbrev pub restart_tells : Reply → Option (Result (Unit {0}) RestartFault)
restart_tells replies.Done = Some (Ok tt)
restart_tells replies.Fault = Some (Err restart_faults.Fault)
restart_tells (replies.Damaged kept computed) = Some (Err (restart_faults.Damaged kept computed))
restart_tells (replies.Spoiled place) = Some (Err (restart_faults.Spoiled place))
restart_tells reply = None

abbrev pub manager_tells : Reply → Option (Result (Unit {0}) LogFault)
manager_tells replies.Done = Some (Ok tt)
manager_tells replies.Fault = Some (Err log_faults.Fault)
manager_tells (replies.Spoiled place) = Some (Err (log_faults.Spoiled place))
manager_tells reply = None

abbrev pub look_tells : Reply → Option (Result View LogFault)
look_tells (replies.Seen view) = Some (Ok view)
look_tells replies.Fault = Some (Err log_faults.Fault)
look_tells (replies.Spoiled place) = Some (Err (log_faults.Spoiled place))
look_tells reply = None

-- a deletion is asked for, now or before
abbrev pub ask_tells : Reply → Option (Result (Unit {0}) AskFault)
ask_tells replies.Done = Some (Ok tt)
ask_tells replies.Already = Some (Ok tt)
ask_tells replies.NotBegun = Some (Err ask_faults.NotBegun)
ask_tells replies.Fault = Some (Err ask_faults.Fault)
ask_tells (replies.Spoiled place) = Some (Err (ask_faults.Spoiled place))
ask_tells reply = None
