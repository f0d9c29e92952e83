-- The flush of a volume: late items arrive, the first one each time, until none is left.
use Rattle.std.specs.Prelude.{◌≡◌, ◌+◌, Bool, true, false, Result, Ok, Err, IfOk}
use Rattle.volume_world.specs.declared.event.Event.TheVariants as events
use Rattle.volume_world.specs.declared.reply.Reply.{Reply}
use Rattle.volume_world.specs.declared.reply.Reply.TheVariants as replies
use Rattle.volume_world.specs.Way.{WayView}
use Rattle.volume_world.specs.Call.{Next, Call}
use Rattle.volume_calls.specs.declared.fault.LogFault.{LogFault}
use Rattle.volume_calls.specs.declared.fault.LogFault.TheVariants as faults
use Rattle.volume_calls.specs.declared.flushing.Flushed.{Flushed}
use Rattle.volume_calls.specs.CallForm.{Makes, asked_count}
use Rattle.volume_calls.specs.CutOff.{log_cut}

abbrev pub none_yet : Flushed
none_yet = record { requests = 0; answers = 0 }

-- one more item arrived: a request, or an answer
abbrev pub counted : Flushed → Bool → Flushed
counted so_far true = record so_far { requests = so_far.requests + 1 }
counted so_far false = record so_far { answers = so_far.answers + 1 }

-- each stage is what was counted so far
abbrev pub after_flush : Flushed → Reply → Next Flushed (Result Flushed LogFault)
after_flush so_far (replies.Flushed request) = Next.Go (counted so_far request)
after_flush so_far replies.NothingLate = Next.Over (Ok so_far)
after_flush so_far replies.Fault = Next.Over (Err faults.Fault)
after_flush so_far (replies.Spoiled place) = Next.Over (Err (faults.Spoiled place))
after_flush so_far reply = Next.Never

abbrev pub flush_call : Call Flushed (Result Flushed LogFault)
flush_call = record { asks = λ so_far. events.FlushOne; after = after_flush }

-- A flush over a way: it adds an entry for each late item and one for the end, besides settles.
pub record Flushes (old new : WayView) (result : Result Flushed LogFault) : Type 0 where
  pub call : Makes flush_call none_yet log_cut old new result
  pub count : IfOk result (λ flushed. asked_count call.parts ≡ flushed.requests + flushed.answers + 1)
