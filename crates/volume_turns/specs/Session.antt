-- Sessions over one volume: turns, one behind the other.
use Rattle.std.specs.Prelude.{ℕ, ◌≡◌, ◌+◌, ◌-◌, ◌^◌, ◌≤◌, min, Bool, true, false, cond, List, [], ◌∷◌, ◌++◌, length, map, Result, Ok, Err, Vec}
use Rattle.std.specs.declared.alloc.Global.{Global}
use Rattle.volume_world.specs.declared.fault.StepFault.{StepFault}
use Rattle.volume_world.specs.declared.fault.StepFault.TheVariants.{HistoryFull}
use Rattle.volume_world.specs.declared.trace.Trace.{Trace}
use Rattle.volume_world.specs.Run.{World}
use Rattle.volume_world.specs.Way.{Origin, WayView, longest_history}
use Rattle.volume_world.specs.Course.{Part, traces_of, fault_count, Goes, PartsLead}
use Rattle.volume_world.specs.Progress.{AllFit}
use Rattle.volume_turns.specs.declared.command.VolumeCommand.{VolumeCommand}
use Rattle.volume_turns.specs.declared.reply.VolumeReply.{VolumeReply}
use Rattle.volume_turns.specs.declared.reply.VolumeReply.TheVariants as replies
use Rattle.volume_turns.specs.declared.reply.VolumeRefusal.TheVariants as refusals
use Rattle.volume_turns.specs.Answers.{Replied}
use Rattle.volume_turns.specs.Turn.{FitsCommand, TurnBy, ShowsBegun}

-- A turn: its command, the stretch of the volume's history in which it was played, and its reply. Entries of others stand in the stretch only
-- where others step the volume.
pub record Turn : Type 0 where
  pub command : VolumeCommand
  pub parts : List Part
  pub result : Replied

-- the stretches of all turns, one behind the other
abbrev pub joined : List Turn → List Part
joined [] = []
joined (turn ∷ turns) = turn.parts ++ joined turns

-- its own entries are the steps that its command names, and they decide its reply; each reply of the volume is one that its event may have
pub record IsTurn (origin : Origin) (turn : Turn) : Type 0 where
  pub fits : AllFit origin turn.parts
  pub plays : TurnBy origin.mode turn.command turn.parts turn.result

abbrev pub AreTurns : Origin → List Turn → Type 0
AreTurns origin [] = Unit {0}
AreTurns origin (turn ∷ turns) = IsTurn origin turn × AreTurns origin turns

-- The entries are those of these turns: each entry stands in just one turn, and those of a later turn stand behind those of an earlier one.
pub record IsSession (origin : Origin) (turns : List Turn) (entries : List Trace) : Type 0 where
  pub each : AreTurns origin turns
  pub whole : entries ≡ traces_of (joined turns)

-- ---- faults

abbrev pub is_faulty : Replied → Bool
is_faulty (Ok (replies.Refused refusals.Fault)) = true
is_faulty result = false

-- how many turns reply that a file failed
abbrev pub faulty_turns : List Turn → ℕ
faulty_turns [] = 0
faulty_turns (turn ∷ turns) = cond (is_faulty turn.result) 1 0 + faulty_turns turns

-- they are no more than the entries that are answered by a fault
abbrev pub FaultsAreCounted : Type 0
FaultsAreCounted = (origin : Origin) (turns : List Turn) → AreTurns origin turns → faulty_turns turns ≤ fault_count (joined turns)

-- ---- states

-- a turn leads from one state of the volume to the next, and the bytes that it shows are begun there
pub record TurnLeads (origin : Origin) (w : World) (turn : Turn) (v : World) : Type 0 where
  pub leads : PartsLead origin w turn.parts v
  pub shows : ShowsBegun v turn.command turn.result

abbrev pub TurnsLead : Origin → World → List Turn → World → Type 0
TurnsLead origin w [] v = v ≡ w
TurnsLead origin w (turn ∷ turns) v = (u : World) × TurnLeads origin w turn u × TurnsLead origin u turns v

-- ---- one turn more

-- a session with a turn behind it is a session, and leads where that turn leads
pub record OneTurnMore : Type 0 where
  pub session : (origin : Origin) (turns : List Turn) (turn : Turn) (entries : List Trace) → IsSession origin turns entries → IsTurn origin turn
      → IsSession origin (turns ++ turn ∷ []) (entries ++ traces_of turn.parts)
  pub leads : (origin : Origin) (turns : List Turn) (turn : Turn) (w u v : World) → TurnsLead origin w turns u → TurnLeads origin u turn v → TurnsLead origin w (turns ++ turn ∷ []) v

-- ---- over a way

abbrev pub AllFitCommands : Origin → List VolumeCommand → Type 0
AllFitCommands origin [] = Unit {0}
AllFitCommands origin (command ∷ commands) = FitsCommand origin command × AllFitCommands origin commands

abbrev pub commands_of : List Turn → List VolumeCommand
commands_of turns = map (λ (turn : Turn). turn.command) turns

abbrev pub replies_of : List Turn → List Replied
replies_of turns = map (λ (turn : Turn). turn.result) turns

abbrev pub told_replies : List VolumeReply → List Replied
told_replies given = map (λ (reply : VolumeReply). Ok reply) given

-- each command has its turn, and these are the replies; where the session breaks off, the first ones have
abbrev pub AreAnswered : List Turn → List VolumeCommand → Result (Vec VolumeReply Global) StepFault → Type 0
AreAnswered turns commands (Ok given) = (commands_of turns ≡ commands) × (replies_of turns ≡ told_replies given.items)
AreAnswered turns commands (Err fault) = (rest : List VolumeCommand) × (commands_of turns ++ rest ≡ commands)

-- What a way saw from one view to the next is a session of these turns. Where files tell, from each state in which the volume may have been the
-- turns lead to one in which it may be. No more turns reply that a file failed than files failed.
pub record IsSessionOver (old new : WayView) (turns : List Turn) : Type 0 where
  pub each : AreTurns old.origin turns
  pub goes : Goes old new (joined turns)
  pub leads : old.origin.is_told ≡ true → (w : World) → old.is_at w → (v : World) × TurnsLead old.origin w turns v × new.is_at v
  pub faults : min (old.faults + faulty_turns turns) (2 ^ 64 - 1) ≤ new.faults

-- The commands are played in order, each in its turn. The history is said to be full only where it is.
pub record PlaysAll (old new : WayView) (commands : List VolumeCommand) (result : Result (Vec VolumeReply Global) StepFault) : Type 0 where
  pub turns : List Turn
  pub session : IsSessionOver old new turns
  pub answered : AreAnswered turns commands result
  pub full : result ≡ Err HistoryFull → longest_history ≤ length new.entries
