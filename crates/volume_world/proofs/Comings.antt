-- Calls that come from one point to another, one stretch behind the other.
use Rattle.std.proofs.Common.{◌≡◌, List, [], ◌∷◌, ◌++◌, Result, Ok, Err, refl, subst}
use Rattle.volume_world.specs.declared.event.Event.{Event}
use Rattle.volume_world.specs.declared.reply.Reply.{Reply}
use Rattle.volume_world.specs.declared.fault.StepFault.{StepFault}
use Rattle.volume_world.specs.declared.fault.StepFault.TheVariants.{HistoryFull, Memory}
use Rattle.volume_world.specs.Way.{Origin, WayView}
use Rattle.volume_world.specs.Course.{Part, AreBeside, AreSettling, StepsBy}
use Rattle.volume_world.specs.Call.{Next, Call, IsRest, IsFront}
use Rattle.volume_world.specs.Progress.{Comes, AllFit, Proceeds, stepped}
use Rattle.volume_world.proofs.Stretches.{goes_on}

pub comes_on : {S A : Type 0} (call : Call S A) (from at to : Next S A) (ps qs : List Part) → Comes call from ps at → Comes call at qs to → Comes call from (ps ++ qs) to
comes_on call from at to [] qs h k = subst (λ x. Comes call x qs to) h k
comes_on call from at to (Part.Beside trace ∷ ps) qs h k = comes_on call from at to ps qs h k
comes_on call from at to (Part.Settling trace ∷ ps) qs h k = comes_on call from at to ps qs h k
comes_on call (Next.Go stage) at to (Part.Asking event reply ∷ ps) qs h k = (h.0, comes_on call (call.after stage reply) at to ps qs h.1 k)
comes_on call (Next.Over given) at to (Part.Asking event reply ∷ ps) qs h k = absurd h
comes_on call Next.Never at to (Part.Asking event reply ∷ ps) qs h k = absurd h

-- what isn't a call's own leaves it where it is
pub beside_on : {S A : Type 0} (call : Call S A) (from to : Next S A) (ps qs : List Part) → AreBeside ps → Comes call from qs to → Comes call from (ps ++ qs) to
beside_on call from to [] qs h k = k
beside_on call from to (Part.Beside trace ∷ ps) qs h k = beside_on call from to ps qs h k
beside_on call from to (Part.Settling trace ∷ ps) qs h k = absurd h
beside_on call from to (Part.Asking event reply ∷ ps) qs h k = absurd h

pub settling_on : {S A : Type 0} (call : Call S A) (from to : Next S A) (ps qs : List Part) → AreSettling ps → Comes call from qs to → Comes call from (ps ++ qs) to
settling_on call from to [] qs h k = k
settling_on call from to (Part.Settling trace ∷ ps) qs h k = settling_on call from to ps qs h.1 k
settling_on call from to (Part.Beside trace ∷ ps) qs h k = absurd h
settling_on call from to (Part.Asking event reply ∷ ps) qs h k = absurd h

beside_alone : {S A : Type 0} (call : Call S A) (from : Next S A) (ps : List Part) → AreBeside ps → Comes call from ps from
beside_alone call from [] h = refl
beside_alone call from (Part.Beside trace ∷ ps) h = beside_alone call from ps h
beside_alone call from (Part.Settling trace ∷ ps) h = absurd h
beside_alone call from (Part.Asking event reply ∷ ps) h = absurd h

settling_alone : {S A : Type 0} (call : Call S A) (from : Next S A) (ps : List Part) → AreSettling ps → Comes call from ps from
settling_alone call from [] h = refl
settling_alone call from (Part.Settling trace ∷ ps) h = settling_alone call from ps h.1
settling_alone call from (Part.Beside trace ∷ ps) h = absurd h
settling_alone call from (Part.Asking event reply ∷ ps) h = absurd h

-- a call that comes to its answer is whole
pub comes_rest : {S A : Type 0} (call : Call S A) (from : Next S A) (parts : List Part) (answer : A) → Comes call from parts (Next.Over answer) → IsRest call from parts answer
comes_rest call from [] answer h = subst (λ x. IsRest call x [] answer) h refl
comes_rest call (Next.Go stage) (Part.Beside trace ∷ parts) answer h = comes_rest call (Next.Go stage) parts answer h
comes_rest call (Next.Over given) (Part.Beside trace ∷ parts) answer h = comes_rest call (Next.Over given) parts answer h
comes_rest call Next.Never (Part.Beside trace ∷ parts) answer h = comes_rest call Next.Never parts answer h
comes_rest call (Next.Go stage) (Part.Settling trace ∷ parts) answer h = comes_rest call (Next.Go stage) parts answer h
comes_rest call (Next.Over given) (Part.Settling trace ∷ parts) answer h = comes_rest call (Next.Over given) parts answer h
comes_rest call Next.Never (Part.Settling trace ∷ parts) answer h = comes_rest call Next.Never parts answer h
comes_rest call (Next.Go stage) (Part.Asking event reply ∷ parts) answer h = (h.0, comes_rest call (call.after stage reply) parts answer h.1)
comes_rest call (Next.Over given) (Part.Asking event reply ∷ parts) answer h = absurd h
comes_rest call Next.Never (Part.Asking event reply ∷ parts) answer h = absurd h

-- wherever it comes, it is a front
pub comes_front : {S A : Type 0} (call : Call S A) (from : Next S A) (parts : List Part) (to : Next S A) → Comes call from parts to → IsFront call from parts
comes_front call from [] to h = tt
comes_front call (Next.Go stage) (Part.Beside trace ∷ parts) to h = comes_front call (Next.Go stage) parts to h
comes_front call (Next.Over given) (Part.Beside trace ∷ parts) to h = comes_front call (Next.Over given) parts to h
comes_front call Next.Never (Part.Beside trace ∷ parts) to h = comes_front call Next.Never parts to h
comes_front call (Next.Go stage) (Part.Settling trace ∷ parts) to h = comes_front call (Next.Go stage) parts to h
comes_front call (Next.Over given) (Part.Settling trace ∷ parts) to h = comes_front call (Next.Over given) parts to h
comes_front call Next.Never (Part.Settling trace ∷ parts) to h = comes_front call Next.Never parts to h
comes_front call (Next.Go stage) (Part.Asking event reply ∷ parts) to h = (h.0, comes_front call (call.after stage reply) parts to h.1)
comes_front call (Next.Over given) (Part.Asking event reply ∷ parts) to h = absurd h
comes_front call Next.Never (Part.Asking event reply ∷ parts) to h = absurd h

pub fits_on : (origin : Origin) (ps qs : List Part) → AllFit origin ps → AllFit origin qs → AllFit origin (ps ++ qs)
fits_on origin [] qs h k = k
fits_on origin (Part.Beside trace ∷ ps) qs h k = fits_on origin ps qs h k
fits_on origin (Part.Settling trace ∷ ps) qs h k = fits_on origin ps qs h k
fits_on origin (Part.Asking event reply ∷ ps) qs h k = (h.0, fits_on origin ps qs h.1 k)

beside_fits : (origin : Origin) (ps : List Part) → AreBeside ps → AllFit origin ps
beside_fits origin [] h = tt
beside_fits origin (Part.Beside trace ∷ ps) h = beside_fits origin ps h
beside_fits origin (Part.Settling trace ∷ ps) h = absurd h
beside_fits origin (Part.Asking event reply ∷ ps) h = absurd h

settling_fits : (origin : Origin) (ps : List Part) → AreSettling ps → AllFit origin ps
settling_fits origin [] h = tt
settling_fits origin (Part.Settling trace ∷ ps) h = settling_fits origin ps h.1
settling_fits origin (Part.Beside trace ∷ ps) h = absurd h
settling_fits origin (Part.Asking event reply ∷ ps) h = absurd h

-- one step by the event that a stage asks for
pub step_proceeds : {S A : Type 0} (call : Call S A) (old new : WayView) (stage : S) (event : Event) (result : Result Reply StepFault) → event ≡ call.asks stage → StepsBy old new event result
    → Proceeds call old new (Next.Go stage) (stepped call stage result)
step_proceeds call old new stage event (Ok reply) e h = record {
  parts = h.others ++ (h.settles ++ (Part.Asking event reply ∷ []));
  goes = h.goes;
  fits = fits_on old.origin h.others (h.settles ++ (Part.Asking event reply ∷ [])) (beside_fits old.origin h.others h.ready.beside)
      (fits_on old.origin h.settles (Part.Asking event reply ∷ []) (settling_fits old.origin h.settles h.ready.settling) (h.fits, tt));
  comes = beside_on call (Next.Go stage) (call.after stage reply) h.others (h.settles ++ (Part.Asking event reply ∷ [])) h.ready.beside
      (settling_on call (Next.Go stage) (call.after stage reply) h.settles (Part.Asking event reply ∷ []) h.ready.settling (e, refl));
}
step_proceeds call old new stage event (Err HistoryFull) e h = record { parts = h.others; goes = h.goes; fits = beside_fits old.origin h.others h.beside; comes = beside_alone call (Next.Go stage) h.others h.beside }
step_proceeds call old new stage event (Err Memory) e h = record {
  parts = h.others ++ h.settles;
  goes = h.goes;
  fits = fits_on old.origin h.others h.settles (beside_fits old.origin h.others h.ready.beside) (settling_fits old.origin h.settles h.ready.settling);
  comes = beside_on call (Next.Go stage) (Next.Go stage) h.others h.settles h.ready.beside (settling_alone call (Next.Go stage) h.settles h.ready.settling);
}

-- from one point over another to a third
pub proceeds_on : {S A : Type 0} (call : Call S A) (a b c : WayView) (from at to : Next S A) → Proceeds call a b from at → Proceeds call b c at to → Proceeds call a c from to
proceeds_on call a b c from at to h k = record {
  parts = h.parts ++ k.parts;
  goes = goes_on a b c h.parts k.parts h.goes k.goes;
  fits = fits_on a.origin h.parts k.parts h.fits (subst (λ (o : Origin). AllFit o k.parts) h.goes.origin k.fits);
  comes = comes_on call from at to h.parts k.parts h.comes k.comes;
}
