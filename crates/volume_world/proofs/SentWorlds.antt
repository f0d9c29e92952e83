-- A request that is sent, by its fate: the moves that it is, the entry that tells of it, and for what a world stands behind it.
use Rattle.std.proofs.Common.{◌≡◌, ◌∙◌, sym, ap, refl, subst, ℕ, ◌+◌, min, false, List, [], ◌∷◌, ◌++◌, map, drop, length, inl, inr, ◌⊎◌}
use Rattle.std.proofs.lemmas.List.{map-append}
use Rattle.unit_id.specs.Lists.{IsIn}
use Rattle.unit_id.specs.Messages.{request_of, answer_of}
use Rattle.unit_id.specs.Request.{place_of}
use Rattle.unit_id.specs.declared.request.Request as sent
use Rattle.unit_id.specs.declared.answer.Answer as answered
use Rattle.disk_base.specs.Disk.{FileView}
use Rattle.disk_base.specs.Shelves.{ShelfView}
use Rattle.code_mode.specs.VolumeShape.{VolumeShape, last_time}
use Rattle.blob_node.specs.Link.{IsDiskOf, fates_of, with_fates}
use Rattle.blob_node.specs.UnitAnswer.{Effect}
use Rattle.blob_node.specs.Units.{Units}
use Rattle.volume_entry.specs.Reply.{Reply as ToldReply}
use Rattle.volume_world.specs.Course.{IsDone, GivesRight}
use Rattle.volume_world.specs.Event.{Event}
use Rattle.volume_world.specs.Mailbag.{late_told}
use Rattle.volume_world.specs.Move.{Move, MovesAll, Handles, IsSendable}
use Rattle.volume_world.specs.Run.{World, next_fate, without_next, moves_of_send, reply_of_send, late_of_send}
use Rattle.volume_world.specs.Serving.{once_handled, once_heard}
use Rattle.volume_world.specs.State.{State}
use Rattle.volume_world.specs.Way.{Origin, shape_of}
use Rattle.volume_world.specs.World.{WorldOver, Stands, IsPosted}
use Rattle.volume_world.specs.declared.event.Event.TheVariants as events
use Rattle.volume_world.specs.declared.late.LateItem.{LateItem}
use Rattle.volume_world.specs.declared.reply.Reply.TheVariants as replies
use Rattle.volume_world.proofs.KeptMessages.{request_tells, answer_tells}
use Rattle.volume_world.proofs.Mailbags.{next_has}
use Rattle.volume_world.proofs.ServedPasses.{asked_in}

-- ---- moves

module _ (shape : VolumeShape) (request : sent.Request) (answer : answered.Answer) (effect : Effect) (w : World) (units : Units) (open_ : w.state.manager.is_shut ≡ false)
    (sendable : IsSendable shape.total w.state.puts.status w.state.manager (request_of request)) where
  -- the state behind what is told of a start, and the one in which the request is issued then
  abbrev pub led : State
  led = record (w.state) { units = units }

  abbrev pub issued_in : State
  issued_in = asked_in w units (request_of request ∷ w.state.post.issued)

  -- .. once the clock went on
  abbrev pub slowed : State
  slowed = record issued_in { time = min (w.state.time + 10) last_time }

  pub lost_moves : MovesAll shape led (Move.Issue (request_of request) ∷ []) issued_in
  lost_moves = (issued_in, (open_, sendable, refl), refl)

  pub handled_moves : Handles issued_in (request_of request) (answer_of answer) effect (once_handled request answer effect issued_in)
      → MovesAll shape led (Move.Issue (request_of request) ∷ Move.Handle (request_of request) (answer_of answer) effect ∷ []) (once_handled request answer effect issued_in)
  handled_moves handles = (issued_in, (open_, sendable, refl), (once_handled request answer effect issued_in, handles, refl))

  pub heard_moves : Handles issued_in (request_of request) (answer_of answer) effect (once_handled request answer effect issued_in)
      → MovesAll shape led
      (Move.Issue (request_of request) ∷ Move.Handle (request_of request) (answer_of answer) effect ∷ Move.Hear (request_of request) (answer_of answer) ∷ [])
      (once_heard request answer (once_handled request answer effect issued_in))
  heard_moves handles =
      let handled = once_handled request answer effect issued_in in
      (issued_in, (open_, sendable, refl), (handled, handles, (once_heard request answer handled, (inl refl, refl), refl)))

  pub slow_moves : Handles slowed (request_of request) (answer_of answer) effect (once_handled request answer effect slowed)
      → MovesAll shape led
      (Move.Issue (request_of request) ∷ Move.Happen (Event.Tick 10) (ToldReply.Now (min (w.state.time + 10) last_time))
      ∷ Move.Handle (request_of request) (answer_of answer) effect ∷ Move.Hear (request_of request) (answer_of answer) ∷ [])
      (once_heard request answer (once_handled request answer effect slowed))
  slow_moves handles =
      let handled = once_handled request answer effect slowed in
      (issued_in, (open_, sendable, refl), (slowed, (refl, refl), (handled, handles, (once_heard request answer handled, (inl refl, refl), refl))))

-- ---- the entry

module _ (origin : Origin) (request : sent.Request) (answer : answered.Answer) (effect : Effect) (w v : World)
    (sendable : IsSendable (shape_of origin).total w.state.puts.status w.state.manager (request_of request))
    (moves : MovesAll (shape_of origin) w.state
    (moves_of_send (next_fate w.planned (place_of (request_of request)).disk) w.state.time (request_of request) (answer_of answer) effect) v.state)
    (planned : v.planned ≡ without_next w.planned (place_of (request_of request)).disk)
    (late : v.late ≡ w.late ++ late_of_send (next_fate w.planned (place_of (request_of request)).disk) (request_of request) (answer_of answer)) where
  -- its answer is heard
  pub sent_heard : reply_of_send (next_fate w.planned (place_of (request_of request)).disk) (answer_of answer) ≡ ToldReply.Heard (answer_of answer)
      → GivesRight origin.mode w.state.puts request answer → IsDone origin w (events.Send request) (replies.Heard answer) v
  sent_heard heard right = record {
    step = record { event = Event.Send (request_of request); reply = ToldReply.Heard (answer_of answer) };
    told = record { event = ap Event.Send (request_tells request); reply = answer_tells answer };
    whole = (refl, right);
    leads = inl (record { answer = answer_of answer; effect = effect; sendable = sendable; moves = moves; told = sym heard; planned = planned; late = late });
  }

  -- .. or nothing is
  pub sent_unheard : reply_of_send (next_fate w.planned (place_of (request_of request)).disk) (answer_of answer) ≡ ToldReply.Unheard
      → IsDone origin w (events.Send request) replies.Unheard v
  sent_unheard unheard = record {
    step = record { event = Event.Send (request_of request); reply = ToldReply.Unheard };
    told = record { event = ap Event.Send (request_tells request); reply = tt };
    whole = tt;
    leads = inl (record { answer = answer_of answer; effect = effect; sendable = sendable; moves = moves; told = sym unheard; planned = planned; late = late });
  }

-- ---- what is left

pub in_either : (item : LateItem) (few more : List LateItem) → IsIn item (few ++ more) → IsIn item few ⊎ IsIn item more
in_either item [] more there = inr there
in_either item (first ∷ few) more there = elim there [
  | inl is ↦ inl (inl is)
  | inr later ↦ elim (in_either item few more later) [ inl here ↦ inl (inr here) | inr behind ↦ inr behind ]
]

-- The next fate of the disk is taken, and these items come late besides.
pub sent_stands : {H F : Type 0} (shelf_seen : H → ShelfView F) (seen : F → FileView) (old new : WorldOver H F) (w : World) (disk : ℕ) (added : List LateItem)
    → new ≡ record old { planned = with_fates old.planned disk (drop 1 (fates_of old.planned disk)); late = new.late; history = new.history } → IsDiskOf old.planned disk
    → new.late.items ≡ old.late.items ++ added → ((item : LateItem) → IsIn item added → IsPosted old.shape.mode w.state.puts w.state.post item)
    → Stands shelf_seen seen old w → Stands shelf_seen seen new (record w { planned = without_next w.planned disk; late = w.late ++ map late_told added })
sent_stands {H} {F} shelf_seen seen old new w disk added only on late posted stands =
    subst (λ (x : WorldOver H F). Stands shelf_seen seen x (record w { planned = without_next w.planned disk; late = w.late ++ map late_told added })) (sym only) (record {
      manager = stands.manager;
      written = stands.written;
      stations = stands.stations;
      as_begun = stands.as_begun;
      puts = stands.puts;
      bytes = stands.bytes;
      posted = λ item there. elim (in_either item old.late.items added (subst (IsIn item) late there)) [ inl before ↦ stands.posted item before | inr here ↦ posted item here ];
      time = stands.time;
      broken = stands.broken;
      planned = next_has old.planned w.planned disk on stands.planned;
      late = ap (λ items. items ++ map late_told added) stands.late ∙ sym (map-append late_told old.late.items added) ∙ ap (map late_told) (sym late);
    })
