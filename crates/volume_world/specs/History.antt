-- What a world keeps of its history.
use Rattle.std.specs.Prelude.{ℕ, ◌≡◌, ◌≤◌, ◌++◌, ◌+◌, Bool, List, [], ◌∷◌, length}
use Rattle.volume_world.specs.Course.{Part, traces_of}
use Rattle.volume_world.specs.declared.trace.Trace.{Trace}
use Rattle.volume_world.specs.declared.trace.TraceEvent.TheVariants as kept_event
use Rattle.volume_world.specs.declared.trace.TraceReply.TheVariants as kept_reply

-- the entries so far, and for how many more there is room
pub record KeptHistory : Type 0 where
  pub entries : List Trace
  pub spare : ℕ

-- one entry more stands at the end
pub record IsNoted (trace : Trace) (old new : KeptHistory) : Type 0 where
  pub entries : new.entries ≡ old.entries ++ trace ∷ []
  pub spare : old.spare ≤ new.spare + 1

-- the entries of a stretch stand at the end, and there is so much less room
pub record AreNoted (parts : List Part) (old new : KeptHistory) : Type 0 where
  pub entries : new.entries ≡ old.entries ++ traces_of parts
  pub spare : old.spare ≤ new.spare + length parts

-- a log of this disk that was shut is started, with its record in doubt or without it; the manager's is that of disk 0
abbrev pub settle_entry : ℕ → Bool → Trace
settle_entry disk kept = record { event = kept_event.Settle disk kept; reply = kept_reply.Done }
