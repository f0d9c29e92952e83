-- What an entry keeps of a reply, as a function of the reply that it tells of; and a reply of the code from what was kept.
use Rattle.std.proofs.Common.{◌≡◌, sym, ap, refl, ℕ, Bool, true, false, List, []}
use Rattle.unit_id.specs.Request.{Answer}
use Rattle.unit_id.specs.declared.answer.Answer as answered
use Rattle.unit_id.specs.declared.answer.Answer.TheVariants as answers
use Rattle.unit_id.specs.Messages.{answer_of}
use Rattle.volume_entry.specs.Reply.{Reply as ToldReply}
use Rattle.volume_entry.specs.View.{homes_shown, moves_shown}
use Rattle.volume_entry.specs.ShownView.{view_shown}
use Rattle.volume_world.specs.State.{State}
use Rattle.volume_world.specs.Trace.{reply_kept}
use Rattle.volume_world.specs.Told.{Tells}
use Rattle.volume_world.specs.declared.reply.Reply.{Reply}
use Rattle.volume_world.specs.declared.reply.Reply.TheVariants as replies
use Rattle.volume_world.specs.declared.trace.TraceReply.{TraceReply}
use Rattle.volume_world.specs.declared.trace.TraceReply.TheVariants as kept_reply

-- ---- what is kept

-- a reply that tells no unit's answer is kept as this
abbrev pub shown : ℕ → State → ToldReply → TraceReply
shown vid s ToldReply.Done = kept_reply.Done
shown vid s ToldReply.Already = kept_reply.Already
shown vid s ToldReply.BeginTwice = kept_reply.BeginTwice
shown vid s ToldReply.Unheard = kept_reply.Unheard
shown vid s ToldReply.Barred = kept_reply.Barred
shown vid s ToldReply.NothingLate = kept_reply.NothingLate
shown vid s ToldReply.NotOpen = kept_reply.NotOpen
shown vid s ToldReply.DestBroken = kept_reply.DestBroken
shown vid s ToldReply.EpochSpent = kept_reply.EpochSpent
shown vid s ToldReply.NotLocked = kept_reply.NotLocked
shown vid s ToldReply.AlreadySwapped = kept_reply.AlreadySwapped
shown vid s ToldReply.NotMoved = kept_reply.NotMoved
shown vid s ToldReply.DestGood = kept_reply.DestGood
shown vid s ToldReply.NotFenced = kept_reply.NotFenced
shown vid s ToldReply.NotSwapped = kept_reply.NotSwapped
shown vid s ToldReply.NotReleased = kept_reply.NotReleased
shown vid s ToldReply.NotBegun = kept_reply.NotBegun
shown vid s ToldReply.NotAsked = kept_reply.NotAsked
shown vid s ToldReply.Fault = kept_reply.Fault
shown vid s (ToldReply.Now a) = kept_reply.Now a
shown vid s (ToldReply.LeaseTo a) = kept_reply.LeaseTo a
shown vid s (ToldReply.Flushed a) = kept_reply.Flushed a
shown vid s (ToldReply.Acked a) = kept_reply.Acked a
shown vid s (ToldReply.Quorum a) = kept_reply.Quorum a
shown vid s (ToldReply.Locked a) = kept_reply.Locked a
shown vid s (ToldReply.LeaseRuns a) = kept_reply.LeaseRuns a
shown vid s (ToldReply.DestHeld a) = kept_reply.DestHeld a
shown vid s (ToldReply.OtherTask a) = kept_reply.OtherTask a
shown vid s (ToldReply.NotListed a) = kept_reply.NotListed a
shown vid s (ToldReply.NotCopied a) = kept_reply.NotCopied a
shown vid s (ToldReply.TooFewMarks a) = kept_reply.TooFewMarks a
shown vid s (ToldReply.Spoiled a) = kept_reply.Spoiled a
shown vid s (ToldReply.LeaseOver a b) = kept_reply.LeaseOver a b
shown vid s (ToldReply.Damaged a b) = kept_reply.Damaged a b
shown vid s (ToldReply.Begun end homes flags) = kept_reply.Begun end (homes_shown vid 0 s.broken homes)
shown vid s (ToldReply.Granted number transfers) = kept_reply.Granted number (moves_shown vid s.broken false transfers)
shown vid s (ToldReply.Seen seen) = kept_reply.Seen (view_shown vid s.broken s.time s.manager)
shown vid s (ToldReply.Heard a) = kept_reply.Unheard

-- the reply was heard of a unit
abbrev pub is_heard : ToldReply → Bool
is_heard (ToldReply.Heard a) = true
is_heard reply = false

pub kept_is : (vid : ℕ) (s : State) (kept : TraceReply) (reply : ToldReply) → Tells vid s kept reply → is_heard reply ≡ false → kept ≡ shown vid s reply
kept_is vid s kept_reply.Done ToldReply.Done h unheard = refl
kept_is vid s kept_reply.Already ToldReply.Already h unheard = refl
kept_is vid s kept_reply.BeginTwice ToldReply.BeginTwice h unheard = refl
kept_is vid s kept_reply.Unheard ToldReply.Unheard h unheard = refl
kept_is vid s kept_reply.Barred ToldReply.Barred h unheard = refl
kept_is vid s kept_reply.NothingLate ToldReply.NothingLate h unheard = refl
kept_is vid s kept_reply.NotOpen ToldReply.NotOpen h unheard = refl
kept_is vid s kept_reply.DestBroken ToldReply.DestBroken h unheard = refl
kept_is vid s kept_reply.EpochSpent ToldReply.EpochSpent h unheard = refl
kept_is vid s kept_reply.NotLocked ToldReply.NotLocked h unheard = refl
kept_is vid s kept_reply.AlreadySwapped ToldReply.AlreadySwapped h unheard = refl
kept_is vid s kept_reply.NotMoved ToldReply.NotMoved h unheard = refl
kept_is vid s kept_reply.DestGood ToldReply.DestGood h unheard = refl
kept_is vid s kept_reply.NotFenced ToldReply.NotFenced h unheard = refl
kept_is vid s kept_reply.NotSwapped ToldReply.NotSwapped h unheard = refl
kept_is vid s kept_reply.NotReleased ToldReply.NotReleased h unheard = refl
kept_is vid s kept_reply.NotBegun ToldReply.NotBegun h unheard = refl
kept_is vid s kept_reply.NotAsked ToldReply.NotAsked h unheard = refl
kept_is vid s kept_reply.Fault ToldReply.Fault h unheard = refl
kept_is vid s (kept_reply.Now a) (ToldReply.Now x) h unheard = ap kept_reply.Now (sym h)
kept_is vid s (kept_reply.LeaseTo a) (ToldReply.LeaseTo x) h unheard = ap kept_reply.LeaseTo (sym h)
kept_is vid s (kept_reply.Flushed a) (ToldReply.Flushed x) h unheard = ap kept_reply.Flushed (sym h)
kept_is vid s (kept_reply.Acked a) (ToldReply.Acked x) h unheard = ap kept_reply.Acked (sym h)
kept_is vid s (kept_reply.Quorum a) (ToldReply.Quorum x) h unheard = ap kept_reply.Quorum (sym h)
kept_is vid s (kept_reply.Locked a) (ToldReply.Locked x) h unheard = ap kept_reply.Locked (sym h)
kept_is vid s (kept_reply.LeaseRuns a) (ToldReply.LeaseRuns x) h unheard = ap kept_reply.LeaseRuns (sym h)
kept_is vid s (kept_reply.DestHeld a) (ToldReply.DestHeld x) h unheard = ap kept_reply.DestHeld (sym h)
kept_is vid s (kept_reply.OtherTask a) (ToldReply.OtherTask x) h unheard = ap kept_reply.OtherTask (sym h)
kept_is vid s (kept_reply.NotListed a) (ToldReply.NotListed x) h unheard = ap kept_reply.NotListed (sym h)
kept_is vid s (kept_reply.NotCopied a) (ToldReply.NotCopied x) h unheard = ap kept_reply.NotCopied (sym h)
kept_is vid s (kept_reply.TooFewMarks a) (ToldReply.TooFewMarks x) h unheard = ap kept_reply.TooFewMarks (sym h)
kept_is vid s (kept_reply.Spoiled a) (ToldReply.Spoiled x) h unheard = ap kept_reply.Spoiled (sym h)
kept_is vid s (kept_reply.LeaseOver a b) (ToldReply.LeaseOver x y) h unheard = λ i. kept_reply.LeaseOver (sym h.0 i) (sym h.1 i)
kept_is vid s (kept_reply.Damaged a b) (ToldReply.Damaged x y) h unheard = λ i. kept_reply.Damaged (sym h.0 i) (sym h.1 i)
kept_is vid s (kept_reply.Begun end units) (ToldReply.Begun t homes flags) h unheard = λ i. kept_reply.Begun (sym h.0 i) (h.1 i)
kept_is vid s (kept_reply.Granted lock moves) (ToldReply.Granted number transfers) h unheard = λ i. kept_reply.Granted (sym h.0 i) (h.1 i)
kept_is vid s (kept_reply.Seen view) (ToldReply.Seen seen) h unheard = ap kept_reply.Seen h
kept_is vid s (kept_reply.Heard answer) (ToldReply.Heard a) h unheard = cc
kept_is vid s kept reply h unheard = absurd h

-- ---- the code's replies

-- the reply that was kept so; of an answer nothing is told
abbrev pub reply_back : TraceReply → Reply
reply_back kept_reply.Done = replies.Done
reply_back kept_reply.Already = replies.Already
reply_back kept_reply.BeginTwice = replies.BeginTwice
reply_back kept_reply.Unheard = replies.Unheard
reply_back kept_reply.Barred = replies.Barred
reply_back kept_reply.NothingLate = replies.NothingLate
reply_back kept_reply.NotOpen = replies.NotOpen
reply_back kept_reply.DestBroken = replies.DestBroken
reply_back kept_reply.EpochSpent = replies.EpochSpent
reply_back kept_reply.NotLocked = replies.NotLocked
reply_back kept_reply.AlreadySwapped = replies.AlreadySwapped
reply_back kept_reply.NotMoved = replies.NotMoved
reply_back kept_reply.DestGood = replies.DestGood
reply_back kept_reply.NotFenced = replies.NotFenced
reply_back kept_reply.NotSwapped = replies.NotSwapped
reply_back kept_reply.NotReleased = replies.NotReleased
reply_back kept_reply.NotBegun = replies.NotBegun
reply_back kept_reply.NotAsked = replies.NotAsked
reply_back kept_reply.Fault = replies.Fault
reply_back (kept_reply.Now a) = replies.Now a
reply_back (kept_reply.LeaseTo a) = replies.LeaseTo a
reply_back (kept_reply.Flushed a) = replies.Flushed a
reply_back (kept_reply.Acked a) = replies.Acked a
reply_back (kept_reply.Quorum a) = replies.Quorum a
reply_back (kept_reply.Locked a) = replies.Locked a
reply_back (kept_reply.LeaseRuns a) = replies.LeaseRuns a
reply_back (kept_reply.DestHeld a) = replies.DestHeld a
reply_back (kept_reply.OtherTask a) = replies.OtherTask a
reply_back (kept_reply.NotListed a) = replies.NotListed a
reply_back (kept_reply.NotCopied a) = replies.NotCopied a
reply_back (kept_reply.TooFewMarks a) = replies.TooFewMarks a
reply_back (kept_reply.Spoiled a) = replies.Spoiled a
reply_back (kept_reply.Seen a) = replies.Seen a
reply_back (kept_reply.LeaseOver a b) = replies.LeaseOver a b
reply_back (kept_reply.Damaged a b) = replies.Damaged a b
reply_back (kept_reply.Begun a b) = replies.Begun a b
reply_back (kept_reply.Granted a b) = replies.Granted a b
reply_back (kept_reply.Heard answer) = replies.Unheard

abbrev pub is_answered : TraceReply → Bool
is_answered (kept_reply.Heard answer) = true
is_answered reply = false

pub reply_again : (reply : Reply) → is_answered (reply_kept reply) ≡ false → reply_back (reply_kept reply) ≡ reply
reply_again (replies.Heard answer) h = cc
reply_again reply h = refl

-- the answer that is told so, with its bytes
abbrev pub answer_back : ℕ → List ℕ → Answer → answered.Answer
answer_back size bytes Answer.Done = answers.Done
answer_back size bytes Answer.Already = answers.Already
answer_back size bytes Answer.Live = answers.Live size bytes
answer_back size bytes Answer.Marked = answers.Marked
answer_back size bytes Answer.Gone = answers.Gone
answer_back size bytes Answer.Absent = answers.Absent
answer_back size bytes Answer.NoUnit = answers.NoUnit
answer_back size bytes Answer.Deleted = answers.Deleted
answer_back size bytes Answer.NotMarked = answers.NotMarked
answer_back size bytes Answer.Broken = answers.Broken
answer_back size bytes Answer.Fault = answers.Fault
answer_back size bytes (Answer.Listing number shown) = answers.Listing number shown.live shown.marked
answer_back size bytes (Answer.Stale have) = answers.Stale have
answer_back size bytes (Answer.Fenced lock) = answers.Fenced lock
answer_back size bytes (Answer.Full end) = answers.Full end
answer_back size bytes (Answer.Damaged kept computed) = answers.Damaged kept computed
answer_back size bytes (Answer.Spoiled place) = answers.Spoiled place

abbrev pub is_shard : Answer → Bool
is_shard Answer.Live = true
is_shard answer = false

pub answer_again : (answer : answered.Answer) → is_shard (answer_of answer) ≡ false → answer_back 0 [] (answer_of answer) ≡ answer
answer_again (answers.Live size bytes) h = cc
answer_again answer h = refl
