-- That stretches and calls are decided.
use Rattle.std.proofs.Common.{◌≡◌, ◌∙◌, sym, subst, refl, List, [], ◌∷◌, ◌++◌}
use Rattle.volume_world.specs.Run.{World}
use Rattle.volume_world.specs.Way.{Origin}
use Rattle.volume_world.specs.Course.{Part, IsDone}
use Rattle.volume_world.specs.Call.{Next, IsRest}
use Rattle.volume_world.specs.declared.event.Event.{Event}
use Rattle.volume_world.specs.declared.reply.Reply.{Reply}
use Rattle.volume_decided.specs.Stretch.{IsClear, events_of, StretchesAreDecided, CallsAreDecided, FrontsAreDecided}
use Rattle.volume_decided.proofs.PlainStates.{plain_open, done_plain}
use Rattle.volume_decided.proofs.StepProofs.{steps_are_decided}

-- what is left of a clear stretch behind its first part
behind : (origin : Origin) (w v : World) (event : Event) (reply : Reply) (parts : List Part) → (h : IsClear origin w (Part.Asking event reply ∷ parts) v) → IsClear origin h.leads.0 parts v
behind origin w v event reply parts h =
    record { plain = done_plain origin w event reply h.leads.0 h.plain h.clear.0 h.clear.1 h.leads.1; clear = h.clear.2; leads = h.leads.2 }

-- Two clear stretches that begin with one event begin with one reply, and go on from one state.
record GoOnAlike (origin : Origin) (w v u : World) (first second : Reply) (parts others : List Part) : Type 0 where
  middle : World
  reply : first ≡ second
  one : IsClear origin middle parts v
  other : IsClear origin middle others u

go_on : (origin : Origin) (w v u : World) (event other : Event) (first second : Reply) (parts others : List Part) → event ≡ other
    → IsClear origin w (Part.Asking event first ∷ parts) v → IsClear origin w (Part.Asking other second ∷ others) u → GoOnAlike origin w v u first second parts others
go_on origin w v u event other first second parts others same h k =
    let done_ = subst (λ e. IsDone origin w e second k.leads.0) (sym same) k.leads.1 in
    let step = steps_are_decided origin w h.leads.0 k.leads.0 event first second (plain_open w event h.plain) h.clear.1 k.clear.1 h.leads.1 done_ in
    record {
      middle = h.leads.0;
      reply = step.0;
      one = behind origin w v event first parts h;
      other = subst (λ m. IsClear origin m others u) (sym step.1) (behind origin w u other second others k);
    }

both : (event other : Event) (first second : Reply) (parts others : List Part) → event ≡ other → first ≡ second → parts ≡ others → Part.Asking event first ∷ parts ≡ Part.Asking other second ∷ others
both event other first second parts others e r p = λ i. Part.Asking (e i) (r i) ∷ p i

first_is : (event other : Event) (events others : List Event) → event ∷ events ≡ other ∷ others → event ≡ other
first_is event other events others e = cc

rest_is : (event other : Event) (events others : List Event) → event ∷ events ≡ other ∷ others → events ≡ others
rest_is event other events others e = cc

pub stretches_are_decided : StretchesAreDecided
stretches_are_decided origin w v u [] [] h k same = (refl, h.leads ∙ sym k.leads)
stretches_are_decided origin w v u [] (Part.Asking event reply ∷ parts) h k same = cc
stretches_are_decided origin w v u [] (part ∷ parts) h k same = absurd k.clear
stretches_are_decided origin w v u (Part.Asking event reply ∷ parts) [] h k same = cc
stretches_are_decided origin w v u (Part.Asking event first ∷ parts) (Part.Asking other second ∷ others) h k same =
    let e = first_is event other (events_of parts) (events_of others) same in
    let on = go_on origin w v u event other first second parts others e h k in
    let rest = stretches_are_decided origin on.middle v u parts others on.one on.other (rest_is event other (events_of parts) (events_of others) same) in
    (both event other first second parts others e on.reply rest.0, rest.1)
stretches_are_decided origin w v u (Part.Asking event reply ∷ parts) (part ∷ others) h k same = absurd k.clear
stretches_are_decided origin w v u (part ∷ parts) others h k same = absurd h.clear

pub calls_are_decided : (S A : Type 0) → CallsAreDecided S A
calls_are_decided S A call (Next.Over given) origin w v u [] [] answer other h k x y = (refl, x ∙ sym y, h.leads ∙ sym k.leads)
calls_are_decided S A call (Next.Over given) origin w v u [] (Part.Asking event reply ∷ parts) answer other h k x y = absurd y
calls_are_decided S A call (Next.Over given) origin w v u [] (part ∷ parts) answer other h k x y = absurd k.clear
calls_are_decided S A call (Next.Over given) origin w v u (Part.Asking event reply ∷ parts) others answer other h k x y = absurd x
calls_are_decided S A call (Next.Over given) origin w v u (part ∷ parts) others answer other h k x y = absurd h.clear
calls_are_decided S A call (Next.Go stage) origin w v u [] others answer other h k x y = absurd x
calls_are_decided S A call (Next.Go stage) origin w v u (Part.Asking event first ∷ parts) [] answer other h k x y = absurd y
calls_are_decided S A call (Next.Go stage) origin w v u (Part.Asking event first ∷ parts) (Part.Asking next second ∷ others) answer other h k x y =
    let e = x.0 ∙ sym y.0 in
    let on = go_on origin w v u event next first second parts others e h k in
    let rest = calls_are_decided S A call (call.after stage first) origin on.middle v u parts others answer other on.one on.other x.1
    (subst (λ r. IsRest call (call.after stage r) others other) (sym on.reply) y.1) in
    (both event next first second parts others e on.reply rest.0, rest.1, rest.2)
calls_are_decided S A call (Next.Go stage) origin w v u (Part.Asking event first ∷ parts) (part ∷ others) answer other h k x y = absurd k.clear
calls_are_decided S A call (Next.Go stage) origin w v u (part ∷ parts) others answer other h k x y = absurd h.clear
calls_are_decided S A call Next.Never origin w v u [] others answer other h k x y = absurd x
calls_are_decided S A call Next.Never origin w v u (Part.Asking event first ∷ parts) others answer other h k x y = absurd x
calls_are_decided S A call Next.Never origin w v u (part ∷ parts) others answer other h k x y = absurd h.clear

pub fronts_are_decided : (S A : Type 0) → FrontsAreDecided S A
fronts_are_decided S A call next origin w v u [] whole answer h k x y = (whole, refl)
fronts_are_decided S A call (Next.Go stage) origin w v u (Part.Asking event first ∷ parts) [] answer h k x y = absurd y
fronts_are_decided S A call (Next.Go stage) origin w v u (Part.Asking event first ∷ parts) (Part.Asking next second ∷ others) answer h k x y =
    let e = x.0 ∙ sym y.0 in
    let on = go_on origin w v u event next first second parts others e h k in
    let rest = fronts_are_decided S A call (call.after stage first) origin on.middle v u parts others answer on.one on.other x.1
    (subst (λ r. IsRest call (call.after stage r) others answer) (sym on.reply) y.1) in
    (rest.0, both next event second first others (parts ++ rest.0) (sym e) (sym on.reply) rest.1)
fronts_are_decided S A call (Next.Go stage) origin w v u (Part.Asking event first ∷ parts) (part ∷ others) answer h k x y = absurd k.clear
fronts_are_decided S A call (Next.Over given) origin w v u (Part.Asking event first ∷ parts) whole answer h k x y = absurd x
fronts_are_decided S A call Next.Never origin w v u (Part.Asking event first ∷ parts) whole answer h k x y = absurd x
fronts_are_decided S A call next origin w v u (part ∷ parts) whole answer h k x y = absurd h.clear
