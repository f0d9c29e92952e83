-- Steps of the volume that stands in for a whole one in tests.
use Rattle.std.proofs.Common.{◌≡◌, ℕ, zero, suc, ◌+◌, ◌-◌, ◌^◌, ◌<◌, ◌≤◌, inl, inr, min, Bool, false, cond, List, [], ◌∷◌, ◌++◌, length, Result, Ok, Err, sym, ◌∙◌, ap, subst, refl, lit≤, length-append, arith}
use Rattle.std.specs.List.{range_with_len}
use Rattle.std.proofs.lemmas.List.{append-nil}
use Rattle.volume_world.specs.declared.event.Event.{Event}
use Rattle.volume_world.specs.declared.reply.Reply.{Reply}
use Rattle.volume_world.specs.declared.fault.StepFault.{StepFault}
use Rattle.volume_world.specs.declared.fault.StepFault.TheVariants as step_faults
use Rattle.volume_world.specs.declared.trace.Trace.{Trace}
use Rattle.volume_world.specs.Trace.{trace_of}
use Rattle.volume_world.specs.Way.{longest_history}
use Rattle.volume_world.specs.Course.{Part, is_own, is_fault, Goes, StepsBy}
use Rattle.volume_calls.specs.StandIn.{stand_view, IsAnswer}

range_more : (from count : ℕ) → range_with_len from (count + 1) ≡ range_with_len from count ++ (from + count) ∷ []
range_more from zero = ap (λ (n : ℕ). n ∷ []) (omega arith)
range_more from (suc count) =
    let one : suc count + 1 ≡ suc (count + 1) = omega arith in
    let last : (from + 1) + count ≡ from + suc count = omega arith in
    ap (range_with_len from) one ∙ ap (λ (xs : List ℕ). from ∷ xs) (range_more (from + 1) count ∙ ap (λ (n : ℕ). range_with_len (from + 1) count ++ n ∷ []) last)

-- ---- steps

stand_still : (entries : List Trace) → Goes (stand_view entries) (stand_view entries) []
stand_still entries = record {
  origin = refl;
  is_alone = refl;
  entries = sym (append-nil entries);
  own = sym (append-nil (range_with_len 0 (length entries)));
  alone = λ e part i. absurd i;
  count = omega arith;
  faults = omega arith;
  quiet = λ e. refl;
  leads = λ told w at. absurd at;
}

pub stand_full : (entries : List Trace) (event : Event) → longest_history ≤ length entries → StepsBy (stand_view entries) (stand_view entries) event (Err step_faults.HistoryFull)
stand_full entries event full = record { others = []; beside = tt; full = subst (λ (xs : List Trace). longest_history ≤ length xs) (sym (append-nil entries)) full; goes = stand_still entries }

pub stand_out : (entries : List Trace) (event : Event) → length entries < longest_history → StepsBy (stand_view entries) (stand_view entries) event (Err step_faults.Memory)
stand_out entries event room = record {
  others = [];
  settles = [];
  ready = record { beside = tt; settling = tt; most = lit≤ tt };
  room = subst (λ (xs : List Trace). length xs < longest_history) (sym (append-nil entries)) room;
  goes = stand_still entries;
}

stand_goes : (entries : List Trace) (event : Event) (reply : Reply) → is_fault (trace_of event reply).reply ≡ false
    → Goes (stand_view entries) (stand_view (entries ++ trace_of event reply ∷ [])) (Part.Asking event reply ∷ [])
stand_goes entries event reply sound = record {
  origin = refl;
  is_alone = refl;
  entries = refl;
  own = ap (range_with_len 0) (length-append entries (trace_of event reply ∷ [])) ∙ range_more 0 (length entries) ∙ ap (λ (n : ℕ). range_with_len 0 (length entries) ++ n ∷ []) (omega arith);
  alone = λ e part i. elim i [ inl is ↦ ap is_own is | inr i ↦ absurd i ];
  count = omega arith;
  faults = subst (λ (b : Bool). min (0 + (cond b 1 0 + 0)) (2 ^ 64 - 1) ≤ 0) (sym sound) (lit≤ tt);
  quiet = λ e. absurd (cc);
  leads = λ told w at. absurd at;
}

pub stand_answers : (entries : List Trace) (event : Event) (reply : Reply) (trace : Trace) → length entries < longest_history → IsAnswer event reply trace
    → StepsBy (stand_view entries) (stand_view (entries ++ trace ∷ [])) event (Ok reply)
stand_answers entries event reply trace room answer =
    subst (λ (t : Trace). StepsBy (stand_view entries) (stand_view (entries ++ t ∷ [])) event (Ok reply)) (sym answer.kept)
    (record {
      others = [];
      settles = [];
      ready = record { beside = tt; settling = tt; most = lit≤ tt };
      room = subst (λ (xs : List Trace). length xs < longest_history) (sym (append-nil entries)) room;
      fits = answer.fits;
      moves = answer.moves;
      goes = stand_goes entries event reply answer.sound;
    })

-- .. as the code has them
pub stood_out : (entries after : List Trace) (event : Event) (result : Result Reply StepFault) → after ≡ entries → result ≡ Err step_faults.Memory → length entries < longest_history
    → StepsBy (stand_view entries) (stand_view after) event result
stood_out entries after event result same is room =
    subst (λ (r : Result Reply StepFault). StepsBy (stand_view entries) (stand_view after) event r) (sym is)
    (subst (λ (xs : List Trace). StepsBy (stand_view entries) (stand_view xs) event (Err step_faults.Memory)) (sym same) (stand_out entries event room))

pub stood_answering : (entries after : List Trace) (event : Event) (reply : Reply) (trace : Trace) → after ≡ entries ++ trace ∷ [] → length entries < longest_history → IsAnswer event reply trace
    → StepsBy (stand_view entries) (stand_view after) event (Ok reply)
stood_answering entries after event reply trace is room answer =
    subst (λ (xs : List Trace). StepsBy (stand_view entries) (stand_view xs) event (Ok reply)) (sym is) (stand_answers entries event reply trace room answer)
