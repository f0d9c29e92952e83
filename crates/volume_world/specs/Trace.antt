-- What an entry of a history keeps of an event and of its reply: all but shard bytes and lists of blobs.
use Rattle.unit_id.specs.declared.request.Request.{Request}
use Rattle.unit_id.specs.declared.request.Request.TheVariants as requests
use Rattle.unit_id.specs.declared.answer.Answer.{Answer}
use Rattle.unit_id.specs.declared.answer.Answer.TheVariants as answers
use Rattle.volume_world.specs.declared.event.Event.{Event}
use Rattle.volume_world.specs.declared.event.Event.TheVariants as events
use Rattle.volume_world.specs.declared.reply.Reply.{Reply}
use Rattle.volume_world.specs.declared.reply.Reply.TheVariants as replies
use Rattle.volume_world.specs.declared.trace.TraceRequest.{TraceRequest}
use Rattle.volume_world.specs.declared.trace.TraceRequest.TheVariants as kept_request
use Rattle.volume_world.specs.declared.trace.TraceAnswer.{TraceAnswer}
use Rattle.volume_world.specs.declared.trace.TraceAnswer.TheVariants as kept_answer
use Rattle.volume_world.specs.declared.trace.TraceEvent.{TraceEvent}
use Rattle.volume_world.specs.declared.trace.TraceEvent.TheVariants as kept_event
use Rattle.volume_world.specs.declared.trace.TraceReply.{TraceReply}
use Rattle.volume_world.specs.declared.trace.TraceReply.TheVariants as kept_reply
use Rattle.volume_world.specs.declared.trace.Trace.{Trace}

-- without the bytes of its shard
abbrev pub request_kept : Request → TraceRequest
request_kept (requests.Create unit disk) = kept_request.Create unit disk
request_kept (requests.Fence unit disk lock) = kept_request.Fence unit disk lock
request_kept (requests.Put unit disk bid blob_size bytes) = kept_request.Put unit disk bid blob_size
request_kept (requests.Read unit disk bid) = kept_request.Read unit disk bid
request_kept (requests.List unit disk lock) = kept_request.List unit disk lock
request_kept (requests.Copy unit disk bid blob_size bytes) = kept_request.Copy unit disk bid blob_size
request_kept (requests.Mark unit disk bid) = kept_request.Mark unit disk bid
request_kept (requests.Free unit disk bid) = kept_request.Free unit disk bid
request_kept (requests.Release unit disk) = kept_request.Release unit disk

-- without a shard's bytes and a listing's blobs
abbrev pub answer_kept : Answer → TraceAnswer
answer_kept answers.Done = kept_answer.Done
answer_kept answers.Already = kept_answer.Already
answer_kept (answers.Live blob_size bytes) = kept_answer.Live blob_size
answer_kept answers.Marked = kept_answer.Marked
answer_kept answers.Gone = kept_answer.Gone
answer_kept answers.Absent = kept_answer.Absent
answer_kept (answers.Listing lock live marked) = kept_answer.Listing lock
answer_kept (answers.Stale have) = kept_answer.Stale have
answer_kept answers.NoUnit = kept_answer.NoUnit
answer_kept (answers.Fenced lock) = kept_answer.Fenced lock
answer_kept answers.Deleted = kept_answer.Deleted
answer_kept answers.NotMarked = kept_answer.NotMarked
answer_kept answers.Broken = kept_answer.Broken
answer_kept (answers.Full end) = kept_answer.Full end
answer_kept answers.Fault = kept_answer.Fault
answer_kept (answers.Damaged kept computed) = kept_answer.Damaged kept computed
answer_kept (answers.Spoiled place) = kept_answer.Spoiled place

abbrev pub event_kept : Event → TraceEvent
event_kept (events.Tick by) = kept_event.Tick by
event_kept (events.Plan disk fate count) = kept_event.Plan disk fate count
event_kept events.Lease = kept_event.Lease
event_kept (events.Begin bid payload) = kept_event.Begin bid payload
event_kept (events.Send request) = kept_event.Send (request_kept request)
event_kept events.FlushOne = kept_event.FlushOne
event_kept (events.End bid) = kept_event.End bid
event_kept (events.Lock task targets) = kept_event.Lock task targets
event_kept (events.Retarget task index disk) = kept_event.Retarget task index disk
event_kept (events.Swap task) = kept_event.Swap task
event_kept (events.Unlock task) = kept_event.Unlock task
event_kept (events.Break disk) = kept_event.Break disk
event_kept (events.Ask bid) = kept_event.Ask bid
event_kept (events.Commit bid) = kept_event.Commit bid
event_kept (events.Restart disk) = kept_event.Restart disk
event_kept events.RestartManager = kept_event.RestartManager
event_kept events.Look = kept_event.Look

abbrev pub reply_kept : Reply → TraceReply
reply_kept replies.Done = kept_reply.Done
reply_kept replies.Already = kept_reply.Already
reply_kept (replies.Now time) = kept_reply.Now time
reply_kept (replies.LeaseTo end) = kept_reply.LeaseTo end
reply_kept (replies.Begun end units) = kept_reply.Begun end units
reply_kept replies.BeginTwice = kept_reply.BeginTwice
reply_kept (replies.Heard answer) = kept_reply.Heard (answer_kept answer)
reply_kept replies.Unheard = kept_reply.Unheard
reply_kept replies.Barred = kept_reply.Barred
reply_kept (replies.Flushed request) = kept_reply.Flushed request
reply_kept replies.NothingLate = kept_reply.NothingLate
reply_kept (replies.Acked accepted) = kept_reply.Acked accepted
reply_kept replies.NotOpen = kept_reply.NotOpen
reply_kept (replies.LeaseOver end time) = kept_reply.LeaseOver end time
reply_kept (replies.Quorum accepted) = kept_reply.Quorum accepted
reply_kept (replies.Granted lock moves) = kept_reply.Granted lock moves
reply_kept (replies.Locked task) = kept_reply.Locked task
reply_kept (replies.LeaseRuns end) = kept_reply.LeaseRuns end
reply_kept replies.DestBroken = kept_reply.DestBroken
reply_kept (replies.DestHeld index) = kept_reply.DestHeld index
reply_kept replies.EpochSpent = kept_reply.EpochSpent
reply_kept replies.NotLocked = kept_reply.NotLocked
reply_kept (replies.OtherTask task) = kept_reply.OtherTask task
reply_kept replies.AlreadySwapped = kept_reply.AlreadySwapped
reply_kept replies.NotMoved = kept_reply.NotMoved
reply_kept replies.DestGood = kept_reply.DestGood
reply_kept replies.NotFenced = kept_reply.NotFenced
reply_kept (replies.NotListed have) = kept_reply.NotListed have
reply_kept (replies.NotCopied bid) = kept_reply.NotCopied bid
reply_kept replies.NotSwapped = kept_reply.NotSwapped
reply_kept replies.NotReleased = kept_reply.NotReleased
reply_kept replies.NotBegun = kept_reply.NotBegun
reply_kept replies.NotAsked = kept_reply.NotAsked
reply_kept (replies.TooFewMarks have) = kept_reply.TooFewMarks have
reply_kept (replies.Seen view) = kept_reply.Seen view
reply_kept replies.Fault = kept_reply.Fault
reply_kept (replies.Damaged kept computed) = kept_reply.Damaged kept computed
reply_kept (replies.Spoiled place) = kept_reply.Spoiled place

-- the entry of an event with this reply
abbrev pub trace_of : Event → Reply → Trace
trace_of event reply = record { event = event_kept event; reply = reply_kept reply }
