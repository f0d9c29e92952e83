-- One event of a flush.
use Rattle.std.specs.Prelude.{◌≡◌, Bool, Option, Some, None, Result, Ok, Err}
use Rattle.volume_world.specs.declared.event.Event.TheVariants as events
use Rattle.volume_world.specs.declared.reply.Reply.{Reply}
use Rattle.volume_world.specs.declared.fault.StepFault.{StepFault}
use Rattle.volume_world.specs.Way.{WayView}
use Rattle.volume_world.specs.Course.{StepsBy}
use Rattle.volume_world.specs.Call.{Next}
use Rattle.volume_calls.specs.declared.fault.LogFault.{LogFault}
use Rattle.volume_calls.specs.declared.flushing.Flushed.{Flushed}
use Rattle.volume_calls.specs.CallForm.{cut_by}
use Rattle.volume_calls.specs.CutOff.{log_cut}
use Rattle.volume_calls.specs.Flushes.{counted, after_flush}

-- what the first late item makes of a flush, where one is left
abbrev pub told : Flushed → Result (Option Bool) LogFault → Next Flushed (Result Flushed LogFault)
told so_far (Ok (Some request)) = Next.Go (counted so_far request)
told so_far (Ok None) = Next.Over (Ok so_far)
told so_far (Err why) = Next.Over (Err why)

-- the reply tells so, or the step isn't done
abbrev pub Tells : Result Reply StepFault → Result (Option Bool) LogFault → Type 0
Tells (Ok reply) result = (cut_by log_cut result ≡ None) × ((so_far : Flushed) → told so_far result ≡ after_flush so_far reply)
Tells (Err fault) result = cut_by log_cut result ≡ Some fault

pub record Arrives (old new : WayView) (result : Result (Option Bool) LogFault) : Type 0 where
  pub step : Result Reply StepFault
  pub steps : StepsBy old new events.FlushOne step
  pub tells : Tells step result
