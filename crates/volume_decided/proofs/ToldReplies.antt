-- From the replies that are told to those of the code, with all that these carry.
use Rattle.std.proofs.Common.{◌≡◌, ◌∙◌, sym, ap, refl, ℕ, Bool, true, false, []}
use Rattle.unit_id.specs.UnitName.{Name}
use Rattle.unit_id.specs.Request.{Answer}
use Rattle.unit_id.specs.Messages.{place_at, request_of, answer_of}
use Rattle.unit_id.specs.declared.request.Request as sent
use Rattle.unit_id.specs.declared.request.Request.TheVariants as requests
use Rattle.unit_id.specs.declared.answer.Answer as answered
use Rattle.unit_id.specs.declared.answer.Answer.TheVariants as answers
use Rattle.code_mode.specs.declared.mode.Mode.{Mode}
use Rattle.volume_entry.specs.Reply.{Reply as ToldReply}
use Rattle.volume_world.specs.Contents.{begun_shard}
use Rattle.volume_world.specs.Course.{IsWhole, GivesRight}
use Rattle.volume_world.specs.State.{Puts, State}
use Rattle.volume_world.specs.Told.{Tells}
use Rattle.volume_world.specs.Trace.{answer_kept, reply_kept}
use Rattle.volume_world.specs.declared.event.Event.TheVariants as events
use Rattle.volume_world.specs.declared.reply.Reply.{Reply}
use Rattle.volume_world.specs.declared.reply.Reply.TheVariants as replies
use Rattle.volume_world.specs.declared.trace.TraceReply.{TraceReply}
use Rattle.volume_world.specs.declared.trace.TraceReply.TheVariants as kept_reply
use Rattle.volume_decided.specs.Decided.{is_failure}
use Rattle.volume_decided.proofs.Shown.{shown, is_heard, kept_is, reply_back, is_answered, reply_again, answer_back, is_shard, answer_again}
use Rattle.volume_decided.proofs.UnitAnswers.{is_fine}
use Rattle.volume_decided.proofs.ManagerSteps.{is_sound}
use Rattle.volume_decided.proofs.SendSteps.{is_well, is_read}

-- ---- no failure

pub sound_told : (vid : ℕ) (s : State) (kept : TraceReply) (r : ToldReply) → Tells vid s kept r → is_failure kept ≡ false → is_sound r ≡ true
sound_told vid s kept_reply.Fault r h p = cc
sound_told vid s kept ToldReply.Fault h p = absurd h
sound_told vid s kept r h p = refl

fine_of : (answer : answered.Answer) → is_failure (kept_reply.Heard (answer_kept answer)) ≡ false → is_fine (answer_of answer) ≡ true
fine_of answers.Fault h = cc
fine_of (answers.Full end) h = cc
fine_of answer h = refl

module _ (vid : ℕ) (s : State) (mode : Mode) (puts : Puts) (request : sent.Request) where
  pub well_told : (first : Reply) (r : ToldReply) → Tells vid s (reply_kept first) r → IsWhole mode puts (events.Send request) first r → is_failure (reply_kept first) ≡ false → is_well r ≡ true
  well_told replies.Fault r h whole p = cc
  well_told (replies.Heard answer) (ToldReply.Heard a) h whole p = ap is_fine whole.0 ∙ fine_of answer p
  well_told (replies.Heard answer) r h whole p = absurd h
  well_told first (ToldReply.Heard a) h whole p = absurd h
  well_told first ToldReply.Fault h whole p = absurd h
  well_told first r h whole p = refl

  -- the reply is a unit's answer, heard whole
  record IsHeardOf (first : Reply) (r : ToldReply) : Type 0 where
    answer : answered.Answer
    is : first ≡ replies.Heard answer
    told : r ≡ ToldReply.Heard (answer_of answer)
    right : GivesRight mode puts request answer

  heard_of : (first : Reply) (r : ToldReply) → Tells vid s (reply_kept first) r → IsWhole mode puts (events.Send request) first r → is_heard r ≡ true → IsHeardOf first r
  heard_of (replies.Heard answer) (ToldReply.Heard a) h whole heard = record { answer = answer; is = refl; told = ap ToldReply.Heard whole.0; right = whole.1 }
  heard_of (replies.Heard answer) r h whole heard = absurd h
  heard_of first (ToldReply.Heard a) h whole heard = absurd h
  heard_of first r h whole heard = cc

-- ---- replies that no unit gave

shown_unanswered : (vid : ℕ) (s : State) (r : ToldReply) → is_answered (shown vid s r) ≡ false
shown_unanswered vid s ToldReply.Done = refl
shown_unanswered vid s r = refl

pub unheard_decided : (vid : ℕ) (s : State) (first second : Reply) (r q : ToldReply) → Tells vid s (reply_kept first) r → Tells vid s (reply_kept second) q → is_heard r ≡ false → r ≡ q → first ≡ second
unheard_decided vid s first second r q h k unheard same =
    let one = kept_is vid s (reply_kept first) r h unheard in
    let two = kept_is vid s (reply_kept second) q k (ap is_heard (sym same) ∙ unheard) in
    sym (reply_again first (ap is_answered one ∙ shown_unanswered vid s r)) ∙ ap reply_back (one ∙ ap (shown vid s) same ∙ sym two)
    ∙ reply_again second (ap is_answered two ∙ shown_unanswered vid s q)

-- ---- a unit's answers

shard_read : (mode : Mode) (puts : Puts) (unit : Name) (disk bid : ℕ) (answer : answered.Answer) → is_shard (answer_of answer) ≡ true → GivesRight mode puts (requests.Read unit disk bid) answer
    → answer ≡ answers.Live (begun_shard mode puts (place_at unit disk) bid).blob_size (begun_shard mode puts (place_at unit disk) bid).bytes
shard_read mode puts unit disk bid (answers.Live size bytes) shard right = λ i. answers.Live (right.1 i).blob_size (right.1 i).bytes
shard_read mode puts unit disk bid answer shard right = cc

shards_same : (mode : Mode) (puts : Puts) (request : sent.Request) (a b : answered.Answer) → is_shard (answer_of a) ≡ true → is_shard (answer_of b) ≡ true → is_read (request_of request) ≡ true
    → GivesRight mode puts request a → GivesRight mode puts request b → a ≡ b
shards_same mode puts (requests.Read unit disk bid) a b p q read h k = shard_read mode puts unit disk bid a p h ∙ sym (shard_read mode puts unit disk bid b q k)
shards_same mode puts request a b p q read h k = cc

answers_same : (mode : Mode) (puts : Puts) (request : sent.Request) (a b : answered.Answer) → answer_of a ≡ answer_of b → (is_shard (answer_of a) ≡ true → is_read (request_of request) ≡ true)
    → GivesRight mode puts request a → GivesRight mode puts request b → a ≡ b
answers_same mode puts request a b e read h k = go (is_shard (answer_of a)) refl where
  go : (test : Bool) → is_shard (answer_of a) ≡ test → a ≡ b
  go true holds = shards_same mode puts request a b holds (ap is_shard (sym e) ∙ holds) (read holds) h k
  go false isnt = sym (answer_again a isnt) ∙ ap (answer_back 0 []) e ∙ answer_again b (ap is_shard (sym e) ∙ isnt)

abbrev heard_one : ToldReply → Answer
heard_one (ToldReply.Heard a) = a
heard_one r = Answer.Done

shard_live : (a : Answer) → is_shard a ≡ true → a ≡ Answer.Live
shard_live Answer.Live h = refl
shard_live a h = cc

pub heard_decided : (vid : ℕ) (s : State) (mode : Mode) (puts : Puts) (request : sent.Request) (first second : Reply) (r q : ToldReply) → Tells vid s (reply_kept first) r → Tells vid s (reply_kept second) q
    → IsWhole mode puts (events.Send request) first r → IsWhole mode puts (events.Send request) second q → (r ≡ ToldReply.Heard Answer.Live → is_read (request_of request) ≡ true) → r ≡ q → first ≡ second
heard_decided vid s mode puts request first second r q h k whole also read same = go (is_heard r) refl where
  go : (test : Bool) → is_heard r ≡ test → first ≡ second
  go false isnt = unheard_decided vid s first second r q h k isnt same
  go true holds =
      let x = heard_of vid s mode puts request first r h whole holds in
      let y = heard_of vid s mode puts request second q k also (ap is_heard (sym same) ∙ holds) in
      let e : answer_of x.answer ≡ answer_of y.answer = ap heard_one (sym x.told ∙ same ∙ y.told) in
      x.is
      ∙ ap replies.Heard (answers_same mode puts request x.answer y.answer e (λ shard. read (x.told ∙ ap ToldReply.Heard (shard_live (answer_of x.answer) shard))) x.right y.right)
      ∙ sym y.is
