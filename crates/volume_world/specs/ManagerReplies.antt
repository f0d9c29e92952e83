-- The steps of a volume's manager as events of the volume, and the manager's replies as the volume's.
use Rattle.std.specs.Prelude.{Result, Ok, Err}
use Rattle.volume_entry.specs.declared.event.ManagerEvent.{ManagerEvent}
use Rattle.volume_entry.specs.declared.event.ManagerEvent.TheVariants as steps
use Rattle.volume_entry.specs.declared.event.ManagerReply.{ManagerReply}
use Rattle.volume_entry.specs.declared.event.ManagerReply.TheVariants as given
use Rattle.volume_entry.specs.declared.fault.EntryFault.{EntryFault}
use Rattle.volume_entry.specs.declared.fault.EntryFault.TheVariants as faults
use Rattle.volume_world.specs.declared.event.Event.{Event}
use Rattle.volume_world.specs.declared.event.Event.TheVariants as events
use Rattle.volume_world.specs.declared.reply.Reply.{Reply}
use Rattle.volume_world.specs.declared.reply.Reply.TheVariants as replies
use Rattle.volume_world.specs.declared.fault.StepFault.{StepFault}
use Rattle.volume_world.specs.declared.fault.StepFault.TheVariants.{Memory}

-- the event at which the manager takes this step
abbrev pub volume_event : ManagerEvent → Event
volume_event steps.Lease = events.Lease
volume_event (steps.Lock task targets) = events.Lock task targets
volume_event (steps.Retarget task index disk) = events.Retarget task index disk
volume_event (steps.Swap task) = events.Swap task
volume_event (steps.Unlock task) = events.Unlock task
volume_event (steps.Ask bid) = events.Ask bid
volume_event (steps.Commit bid) = events.Commit bid

-- what the volume replies where its manager replies this
abbrev pub volume_reply : ManagerReply → Reply
volume_reply given.Done = replies.Done
volume_reply given.Already = replies.Already
volume_reply (given.LeaseTo end) = replies.LeaseTo end
volume_reply (given.Locked task) = replies.Locked task
volume_reply (given.LeaseRuns end) = replies.LeaseRuns end
volume_reply (given.Granted lock moves) = replies.Granted lock moves
volume_reply given.DestBroken = replies.DestBroken
volume_reply (given.DestHeld index) = replies.DestHeld index
volume_reply given.EpochSpent = replies.EpochSpent
volume_reply given.NotLocked = replies.NotLocked
volume_reply (given.OtherTask task) = replies.OtherTask task
volume_reply given.AlreadySwapped = replies.AlreadySwapped
volume_reply given.NotMoved = replies.NotMoved
volume_reply given.DestGood = replies.DestGood
volume_reply given.NotFenced = replies.NotFenced
volume_reply (given.NotListed have) = replies.NotListed have
volume_reply (given.NotCopied bid) = replies.NotCopied bid
volume_reply given.NotSwapped = replies.NotSwapped
volume_reply given.NotReleased = replies.NotReleased
volume_reply given.NotAsked = replies.NotAsked
volume_reply (given.TooFewMarks have) = replies.TooFewMarks have

-- a step of a log that is started is answered, or its file fails, or memory is wanting
abbrev pub IsOfOpenLog : Result ManagerReply EntryFault → Type 0
IsOfOpenLog (Err faults.Shut) = ⊥
IsOfOpenLog (Err (faults.Spoiled place)) = ⊥
IsOfOpenLog _ = Unit {0}

-- what the volume gives where such a step of its manager gives this
abbrev pub step_reply : Result ManagerReply EntryFault → Result Reply StepFault
step_reply (Ok reply) = Ok (volume_reply reply)
step_reply (Err faults.Fault) = Ok replies.Fault
step_reply (Err _) = Err Memory

-- why a log doesn't start
abbrev pub IsStartFault : EntryFault → Type 0
IsStartFault faults.Shut = ⊥
IsStartFault _ = Unit {0}

-- what the volume gives at an event whose log doesn't start
abbrev pub start_refusal : EntryFault → Result Reply StepFault
start_refusal faults.Fault = Ok replies.Fault
start_refusal (faults.Spoiled place) = Ok (replies.Spoiled place)
start_refusal _ = Err Memory
