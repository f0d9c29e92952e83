-- How far a call has come.
use Rattle.std.specs.Prelude.{◌≡◌, List, [], ◌∷◌, Result, Ok, Err}
use Rattle.volume_world.specs.declared.reply.Reply.{Reply}
use Rattle.volume_world.specs.declared.fault.StepFault.{StepFault}
use Rattle.volume_world.specs.Way.{Origin, WayView}
use Rattle.volume_world.specs.Replying.{MayReply}
use Rattle.volume_world.specs.Course.{Part, Goes}
use Rattle.volume_world.specs.Call.{Next, Call}

-- the events of our own in this stretch are those of a call, in order, from one of its points to another
abbrev pub Comes : {S A : Type 0} → Call S A → Next S A → List Part → Next S A → Type 0
Comes call from [] to = to ≡ from
Comes call from (Part.Beside trace ∷ parts) to = Comes call from parts to
Comes call from (Part.Settling trace ∷ parts) to = Comes call from parts to
Comes call (Next.Go stage) (Part.Asking event reply ∷ parts) to = (event ≡ call.asks stage) × Comes call (call.after stage reply) parts to
Comes call from (Part.Asking event reply ∷ parts) to = ⊥

-- each event of our own has a reply that it may have
abbrev pub AllFit : Origin → List Part → Type 0
AllFit origin [] = Unit {0}
AllFit origin (Part.Beside trace ∷ parts) = AllFit origin parts
AllFit origin (Part.Settling trace ∷ parts) = AllFit origin parts
AllFit origin (Part.Asking event reply ∷ parts) = MayReply origin event reply × AllFit origin parts

-- over a way, a call comes from one point to another
pub record Proceeds {S A : Type 0} (call : Call S A) (old new : WayView) (from to : Next S A) : Type 0 where
  pub parts : List Part
  pub goes : Goes old new parts
  pub fits : AllFit old.origin parts
  pub comes : Comes call from parts to

-- what a step makes of a stage: where it isn't done, the call stays there
abbrev pub stepped : {S A : Type 0} → Call S A → S → Result Reply StepFault → Next S A
stepped call stage (Ok reply) = call.after stage reply
stepped call stage (Err fault) = Next.Go stage
