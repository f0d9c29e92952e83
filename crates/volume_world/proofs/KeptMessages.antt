-- What a history keeps of a message tells of it.
use Rattle.std.proofs.Common.{◌≡◌, refl}
use Rattle.unit_id.specs.Messages.{request_of, answer_of}
use Rattle.unit_id.specs.declared.request.Request as sent
use Rattle.unit_id.specs.declared.request.Request.TheVariants as requests
use Rattle.unit_id.specs.declared.answer.Answer as answered
use Rattle.unit_id.specs.declared.answer.Answer.TheVariants as answers
use Rattle.volume_world.specs.Trace.{request_kept, answer_kept}
use Rattle.volume_world.specs.Told.{request_told, TellsAnswer}

pub request_tells : (request : sent.Request) → request_of request ≡ request_told (request_kept request)
request_tells (requests.Create unit disk) = refl
request_tells (requests.Fence unit disk lock) = refl
request_tells (requests.Put unit disk bid blob_size bytes) = refl
request_tells (requests.Read unit disk bid) = refl
request_tells (requests.List unit disk lock) = refl
request_tells (requests.Copy unit disk bid blob_size bytes) = refl
request_tells (requests.Mark unit disk bid) = refl
request_tells (requests.Free unit disk bid) = refl
request_tells (requests.Release unit disk) = refl

pub answer_tells : (answer : answered.Answer) → TellsAnswer (answer_kept answer) (answer_of answer)
answer_tells answers.Done = tt
answer_tells answers.Already = tt
answer_tells (answers.Live blob_size bytes) = tt
answer_tells answers.Marked = tt
answer_tells answers.Gone = tt
answer_tells answers.Absent = tt
answer_tells (answers.Listing lock live marked) = refl
answer_tells (answers.Stale have) = refl
answer_tells answers.NoUnit = tt
answer_tells (answers.Fenced lock) = refl
answer_tells answers.Deleted = tt
answer_tells answers.NotMarked = tt
answer_tells answers.Broken = tt
answer_tells (answers.Full end) = refl
answer_tells answers.Fault = tt
answer_tells (answers.Damaged kept computed) = (refl, refl)
answer_tells (answers.Spoiled place) = refl
