-- Plain states: no unit is asked unheard in them, and clear stretches keep them so.
use Rattle.std.proofs.Common.{◌≡◌, ◌∙◌, ap, subst, refl, ℕ, zero, suc, inl, inr, Bool, true, false, cond, List, [], ◌∷◌, ◌++◌, replicate}
use Rattle.std.specs.Prelude.{◌==◌}
use Rattle.unit_id.specs.Messages.{request_of}
use Rattle.unit_id.specs.Request.{Request, Answer, place_of}
use Rattle.unit_id.proofs.Bools.{and_left, and_right, and_both}
use Rattle.code_mode.specs.VolumeShape.{VolumeShape}
use Rattle.blob_node.specs.declared.fate.Fate.{Fate}
use Rattle.blob_node.specs.declared.fate.Fate.TheVariants as fate
use Rattle.volume_entry.specs.Reply.{Reply as ToldReply}
use Rattle.volume_world.specs.Run.{World, Planned, Does, Flushes, next_fate, without_next, late_of_send}
use Rattle.volume_world.specs.Trace.{event_kept, reply_kept}
use Rattle.volume_world.specs.Told.{event_told}
use Rattle.volume_world.specs.Way.{Origin, shape_of}
use Rattle.volume_world.specs.Course.{IsDone}
use Rattle.volume_world.specs.declared.event.Event.{Event}
use Rattle.volume_world.specs.declared.event.Event.TheVariants as events
use Rattle.volume_world.specs.declared.reply.Reply.{Reply}
use Rattle.volume_decided.specs.Decided.{is_failure, is_told_at_once, is_no_request, is_open_about}
use Rattle.volume_decided.specs.Stretch.{is_plain, are_plain, IsPlain, plans_plainly}
use Rattle.volume_decided.proofs.SendSteps.{SendsSo, sends_so}
use Rattle.volume_decided.proofs.ToldReplies.{sound_told}
use Rattle.volume_decided.proofs.StepProofs.{led}

-- ---- fates

next_plain : (ps : List Planned) (disk : ℕ) → are_plain ps ≡ true → is_plain (next_fate ps disk) ≡ true
next_plain [] disk h = refl
next_plain (p ∷ ps) disk h = go (p.disk == disk) (and_left (is_plain p.fate) (are_plain ps) h) (next_plain ps disk (and_right (is_plain p.fate) (are_plain ps) h)) where
  go : (test : Bool) → is_plain p.fate ≡ true → is_plain (next_fate ps disk) ≡ true → is_plain (cond test p.fate (next_fate ps disk)) ≡ true
  go true first rest = first
  go false first rest = rest

rest_plain : (ps : List Planned) (disk : ℕ) → are_plain ps ≡ true → are_plain (without_next ps disk) ≡ true
rest_plain [] disk h = refl
rest_plain (p ∷ ps) disk h = go (p.disk == disk) (and_left (is_plain p.fate) (are_plain ps) h) (and_right (is_plain p.fate) (are_plain ps) h) (rest_plain ps disk (and_right (is_plain p.fate) (are_plain ps) h)) where
  go : (test : Bool) → is_plain p.fate ≡ true → are_plain ps ≡ true → are_plain (without_next ps disk) ≡ true → are_plain (cond test ps (p ∷ without_next ps disk)) ≡ true
  go true first all rest = all
  go false first all rest = and_both (is_plain p.fate) (are_plain (without_next ps disk)) first rest

plain_told : (f : Fate) → is_plain f ≡ true → is_told_at_once f ≡ true
plain_told fate.Pass h = refl
plain_told fate.Lose h = refl
plain_told fate.Slow h = refl
plain_told fate.LateRequest h = refl
plain_told fate.Again h = refl
plain_told fate.LoseReply h = cc
plain_told fate.LateReply h = cc

plain_late : (f : Fate) (request : Request) (a : Answer) → is_plain f ≡ true → late_of_send f request a ≡ []
plain_late fate.Pass request a h = refl
plain_late fate.Lose request a h = refl
plain_late fate.Slow request a h = refl
plain_late fate.LateRequest request a h = cc
plain_late fate.Again request a h = cc
plain_late fate.LoseReply request a h = cc
plain_late fate.LateReply request a h = cc

more_plain : (ps qs : List Planned) → are_plain ps ≡ true → are_plain qs ≡ true → are_plain (ps ++ qs) ≡ true
more_plain [] qs h k = k
more_plain (p ∷ ps) qs h k = and_both (is_plain p.fate) (are_plain (ps ++ qs)) (and_left (is_plain p.fate) (are_plain ps) h) (more_plain ps qs (and_right (is_plain p.fate) (are_plain ps) h) k)

copies_plain : (count : ℕ) (p : Planned) → is_plain p.fate ≡ true → are_plain (replicate count p) ≡ true
copies_plain zero p h = refl
copies_plain (suc n) p h = and_both (is_plain p.fate) (are_plain (replicate n p)) h (copies_plain n p h)

-- ---- states

pub plain_open : (w : World) (event : Event) → IsPlain w → is_open_about w event ≡ true
plain_open w (events.Send request) plain = plain_told (next_fate w.planned (place_of (request_of request)).disk) (next_plain w.planned (place_of (request_of request)).disk plain.planned)
plain_open w events.FlushOne plain = ap is_no_request plain.late
plain_open w event plain = refl

same_plain : (w v : World) → IsPlain w → v.planned ≡ w.planned → v.late ≡ w.late → IsPlain v
same_plain w v plain planned late = record { planned = ap are_plain planned ∙ plain.planned; late = late ∙ plain.late }

sent_plain : (shape : VolumeShape) (w : World) (request : Request) (r : ToldReply) (v : World) → IsPlain w → SendsSo shape w request r v → IsPlain v
sent_plain shape w request r v plain (inl h) = same_plain w v plain (ap (λ (x : World). x.planned) h.2) (ap (λ (x : World). x.late) h.2)
sent_plain shape w request r v plain (inr h) = record {
  planned = ap are_plain h.planned ∙ rest_plain w.planned (place_of request).disk plain.planned;
  late = let none = plain_late (next_fate w.planned (place_of request).disk) request h.answer (next_plain w.planned (place_of request).disk plain.planned) in
      h.late ∙ (λ i. plain.late i ++ none i);
}

does_plain : (shape : VolumeShape) (w : World) (event : Event) (r : ToldReply) (v : World) → IsPlain w → plans_plainly event ≡ true → Does shape w (event_told (event_kept event)) r v → IsPlain v
does_plain shape w (events.Plan disk planned count) r v plain plans h = record {
  planned = ap (λ (x : World). are_plain x.planned) h.1 ∙ more_plain w.planned (replicate count (record { disk = disk; fate = planned })) plain.planned (copies_plain count (record { disk = disk; fate = planned }) plans);
  late = ap (λ (x : World). x.late) h.1 ∙ plain.late;
}
does_plain shape w (events.Send request) r v plain plans h = sent_plain shape w _ r v plain (sends_so shape w _ r v h)
does_plain shape w events.FlushOne r v plain plans h = let same = (subst (λ late. Flushes shape w late r v) plain.late h.1).1 in
    same_plain w v plain (ap (λ (x : World). x.planned) same) (ap (λ (x : World). x.late) same)
does_plain shape w event r v plain plans h = same_plain w v plain (ap (λ (x : World). x.planned) h.1) (ap (λ (x : World). x.late) h.1)

-- an event that doesn't fail leaves a plain state plain
pub done_plain : (origin : Origin) (w : World) (event : Event) (reply : Reply) (v : World) → IsPlain w → plans_plainly event ≡ true → is_failure (reply_kept reply) ≡ false → IsDone origin w event reply v → IsPlain v
done_plain origin w event reply v plain plans well done_ =
    let sound = sound_told origin.vid w.state (reply_kept reply) done_.step.reply done_.told.reply well in
    does_plain (shape_of origin) w event done_.step.reply v plain plans (led (shape_of origin) w done_.step v (event_told (event_kept event)) done_.told.event sound done_.leads)
