-- Which steps of a volume are decided by the state before them and by what is asked.
use Rattle.std.specs.Prelude.{◌≡◌, Bool, true, false, List, [], ◌∷◌}
use Rattle.unit_id.specs.Request.{place_of}
use Rattle.unit_id.specs.Messages.{request_of}
use Rattle.blob_node.specs.declared.fate.Fate.{Fate}
use Rattle.blob_node.specs.declared.fate.Fate.TheVariants as fate
use Rattle.volume_world.specs.Run.{World, Late, next_fate}
use Rattle.volume_world.specs.Trace.{reply_kept}
use Rattle.volume_world.specs.Way.{Origin}
use Rattle.volume_world.specs.Course.{is_fault, IsDone}
use Rattle.volume_world.specs.declared.event.Event.{Event}
use Rattle.volume_world.specs.declared.event.Event.TheVariants as events
use Rattle.volume_world.specs.declared.reply.Reply.{Reply}
use Rattle.volume_world.specs.declared.trace.TraceAnswer.TheVariants as kept_answer
use Rattle.volume_world.specs.declared.trace.TraceReply.{TraceReply}
use Rattle.volume_world.specs.declared.trace.TraceReply.TheVariants as kept_reply

-- The reply is a fault or carries one, or a chunk had no room. How full a chunk is isn't part of a state.
abbrev pub is_failure : TraceReply → Bool
is_failure (kept_reply.Heard (kept_answer.Full end)) = true
is_failure reply = is_fault reply

-- a request that takes this fate isn't handled now, or its answer is heard now
abbrev pub is_told_at_once : Fate → Bool
is_told_at_once fate.Pass = true
is_told_at_once fate.Lose = true
is_told_at_once fate.LoseReply = false
is_told_at_once fate.LateReply = false
is_told_at_once fate.LateRequest = true
is_told_at_once fate.Again = true
is_told_at_once fate.Slow = true

-- the first late item isn't a request
abbrev pub is_no_request : List Late → Bool
is_no_request [] = true
is_no_request (Late.LateRequest request ∷ rest) = false
is_no_request (Late.LateAnswer request answer ∷ rest) = true

-- no unit is asked whose answer isn't heard in this very step
abbrev pub is_open_about : World → Event → Bool
is_open_about w (events.Send request) = is_told_at_once (next_fate w.planned (place_of (request_of request)).disk)
is_open_about w events.FlushOne = is_no_request w.late
is_open_about w event = true

-- an event has one reply and leads to one state
abbrev pub StepsAreDecided : Type 0
StepsAreDecided = (origin : Origin) (w v u : World) (event : Event) (first second : Reply) → is_open_about w event ≡ true
    → is_failure (reply_kept first) ≡ false → is_failure (reply_kept second) ≡ false
    → IsDone origin w event first v → IsDone origin w event second u → (first ≡ second) × (v ≡ u)
