-- The code's requests and answers as the protocol sees them: without shard bytes, and with the unit and its disk as one place.
use Rattle.std.specs.Prelude.{ℕ}
use Rattle.unit_id.specs.UnitName.{Name}
use Rattle.unit_id.specs.Place.{Place}
use Rattle.unit_id.specs.Request.{Request, Answer}
use Rattle.unit_id.specs.declared.request.Request.TheVariants as requests
use Rattle.unit_id.specs.declared.request.Request as sent
use Rattle.unit_id.specs.declared.answer.Answer.TheVariants as answers
use Rattle.unit_id.specs.declared.answer.Answer as answered

-- a unit at a disk; the volume is left out, since each volume has its own protocol
abbrev pub place_at : Name → ℕ → Place
place_at unit disk = record { index = unit.index; epoch = unit.epoch; disk = disk }

-- what is asked, without bytes
abbrev pub request_of : sent.Request → Request
request_of (requests.Create unit disk) = Request.Create (place_at unit disk)
request_of (requests.Fence unit disk lock) = Request.Fence (place_at unit disk) lock
request_of (requests.Put unit disk bid blob_size bytes) = Request.Put (place_at unit disk) bid
request_of (requests.Read unit disk bid) = Request.Read (place_at unit disk) bid
request_of (requests.List unit disk lock) = Request.List (place_at unit disk) lock
request_of (requests.Copy unit disk bid blob_size bytes) = Request.Copy (place_at unit disk) bid
request_of (requests.Mark unit disk bid) = Request.Mark (place_at unit disk) bid
request_of (requests.Free unit disk bid) = Request.Free (place_at unit disk) bid
request_of (requests.Release unit disk) = Request.Release (place_at unit disk)

-- the volume of its unit
abbrev pub vid_of : sent.Request → ℕ
vid_of (requests.Create unit disk) = unit.vid
vid_of (requests.Fence unit disk lock) = unit.vid
vid_of (requests.Put unit disk bid blob_size bytes) = unit.vid
vid_of (requests.Read unit disk bid) = unit.vid
vid_of (requests.List unit disk lock) = unit.vid
vid_of (requests.Copy unit disk bid blob_size bytes) = unit.vid
vid_of (requests.Mark unit disk bid) = unit.vid
vid_of (requests.Free unit disk bid) = unit.vid
vid_of (requests.Release unit disk) = unit.vid

-- what is answered, without bytes
abbrev pub answer_of : answered.Answer → Answer
answer_of answers.Done = Answer.Done
answer_of answers.Already = Answer.Already
answer_of (answers.Live blob_size bytes) = Answer.Live
answer_of answers.Marked = Answer.Marked
answer_of answers.Gone = Answer.Gone
answer_of answers.Absent = Answer.Absent
answer_of (answers.Listing lock live marked) = Answer.Listing lock (record { live = live; marked = marked })
answer_of (answers.Stale have) = Answer.Stale have
answer_of answers.NoUnit = Answer.NoUnit
answer_of (answers.Fenced lock) = Answer.Fenced lock
answer_of answers.Deleted = Answer.Deleted
answer_of answers.NotMarked = Answer.NotMarked
answer_of answers.Broken = Answer.Broken
answer_of (answers.Full end) = Answer.Full end
answer_of answers.Fault = Answer.Fault
answer_of (answers.Damaged kept computed) = Answer.Damaged kept computed
answer_of (answers.Spoiled place) = Answer.Spoiled place
