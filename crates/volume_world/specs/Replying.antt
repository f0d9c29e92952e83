-- Which replies an event may have, in whatever state the volume is and whatever its files do.
use Rattle.std.specs.Prelude.{ℕ, suc, ◌≡◌, ◌+◌, ◌≤◌, List, [], ◌∷◌, length, Option, Some, None}
use Rattle.unit_id.specs.declared.homes.Home.{Home}
use Rattle.unit_id.specs.declared.moves.Move.{Move}
use Rattle.volume_entry.specs.declared.view.LockView.{LockView}
use Rattle.volume_entry.specs.declared.view.View.{View}
use Rattle.volume_world.specs.Way.{Origin, shape_of}
use Rattle.volume_world.specs.Asking.{IsUnitOn}
use Rattle.volume_world.specs.declared.event.Event.{Event}
use Rattle.volume_world.specs.declared.event.Event.TheVariants as events
use Rattle.volume_world.specs.declared.reply.Reply.{Reply}
use Rattle.volume_world.specs.declared.reply.Reply.TheVariants as replies

-- units of the volume from an index on, each on one of its disks
abbrev pub AreHomesFrom : Origin → ℕ → List Home → Type 0
AreHomesFrom origin index [] = Unit {0}
AreHomesFrom origin index (home ∷ homes) = IsUnitOn origin home.unit home.disk × (home.unit.index ≡ index) × AreHomesFrom origin (suc index) homes

-- all units of the volume, in order of index
pub record AreHomes (origin : Origin) (homes : List Home) : Type 0 where
  pub count : length homes ≡ (shape_of origin).total
  pub each : AreHomesFrom origin 0 homes

-- units of the volume, each on one of its disks and with the index of its move
abbrev pub AreMovesEach : Origin → List Move → Type 0
AreMovesEach origin [] = Unit {0}
AreMovesEach origin (move ∷ moves) = IsUnitOn origin move.unit move.disk × (move.unit.index ≡ move.index) × AreMovesEach origin moves

-- what a lock moves: no more units than a volume can lose
pub record AreMoves (origin : Origin) (moves : List Move) : Type 0 where
  pub most : length moves + (shape_of origin).data_count ≤ (shape_of origin).quorum
  pub each : AreMovesEach origin moves

abbrev pub AreHeldMoves : Origin → Option LockView → Type 0
AreHeldMoves origin None = Unit {0}
AreHeldMoves origin (Some lock) = AreMoves origin lock.moves

-- what a view shows, of the volume's units and of the moves of its lock
pub record ShowsView (origin : Origin) (view : View) : Type 0 where
  pub homes : AreHomes origin view.units
  pub moves : AreHeldMoves origin view.held

-- what a reply shows of a lock's moves
abbrev pub ShowsMoves : Origin → Reply → Type 0
ShowsMoves origin (replies.Granted lock moves) = AreMoves origin moves
ShowsMoves origin (replies.Seen view) = AreHeldMoves origin view.held
ShowsMoves origin reply = Unit {0}

-- the manager's log doesn't start, or its file fails
abbrev pub IsLogFailure : Reply → Type 0
IsLogFailure replies.Fault = Unit {0}
IsLogFailure (replies.Spoiled place) = Unit {0}
IsLogFailure reply = ⊥

abbrev pub IsGrant : Reply → Type 0
IsGrant (replies.Granted lock moves) = Unit {0}
IsGrant replies.DestBroken = Unit {0}
IsGrant (replies.DestHeld index) = Unit {0}
IsGrant replies.EpochSpent = Unit {0}
IsGrant reply = IsLogFailure reply

abbrev pub RepliesLease : Reply → Type 0
RepliesLease (replies.LeaseTo end) = Unit {0}
RepliesLease (replies.Locked task) = Unit {0}
RepliesLease reply = IsLogFailure reply

abbrev pub RepliesBegin : Origin → Reply → Type 0
RepliesBegin origin (replies.Begun end units) = AreHomes origin units
RepliesBegin origin (replies.Locked task) = Unit {0}
RepliesBegin origin replies.BeginTwice = Unit {0}
RepliesBegin origin reply = IsLogFailure reply

abbrev pub RepliesSend : Reply → Type 0
RepliesSend (replies.Heard answer) = Unit {0}
RepliesSend replies.Unheard = Unit {0}
RepliesSend replies.Barred = Unit {0}
RepliesSend reply = IsLogFailure reply

abbrev pub RepliesFlush : Reply → Type 0
RepliesFlush (replies.Flushed request) = Unit {0}
RepliesFlush replies.NothingLate = Unit {0}
RepliesFlush reply = IsLogFailure reply

abbrev pub RepliesEnd : Reply → Type 0
RepliesEnd (replies.Acked accepted) = Unit {0}
RepliesEnd replies.NotOpen = Unit {0}
RepliesEnd (replies.LeaseOver end time) = Unit {0}
RepliesEnd (replies.Quorum accepted) = Unit {0}
RepliesEnd reply = IsLogFailure reply

abbrev pub RepliesLock : Reply → Type 0
RepliesLock (replies.Locked task) = Unit {0}
RepliesLock (replies.LeaseRuns end) = Unit {0}
RepliesLock reply = IsGrant reply

abbrev pub RepliesRetarget : Reply → Type 0
RepliesRetarget replies.NotLocked = Unit {0}
RepliesRetarget (replies.OtherTask task) = Unit {0}
RepliesRetarget replies.AlreadySwapped = Unit {0}
RepliesRetarget replies.NotMoved = Unit {0}
RepliesRetarget replies.DestGood = Unit {0}
RepliesRetarget reply = IsGrant reply

abbrev pub RepliesSwap : Reply → Type 0
RepliesSwap replies.Done = Unit {0}
RepliesSwap replies.NotLocked = Unit {0}
RepliesSwap (replies.OtherTask task) = Unit {0}
RepliesSwap replies.AlreadySwapped = Unit {0}
RepliesSwap replies.DestBroken = Unit {0}
RepliesSwap replies.NotFenced = Unit {0}
RepliesSwap (replies.NotListed have) = Unit {0}
RepliesSwap (replies.NotCopied bid) = Unit {0}
RepliesSwap reply = IsLogFailure reply

abbrev pub RepliesUnlock : Reply → Type 0
RepliesUnlock replies.Done = Unit {0}
RepliesUnlock replies.NotLocked = Unit {0}
RepliesUnlock (replies.OtherTask task) = Unit {0}
RepliesUnlock replies.NotSwapped = Unit {0}
RepliesUnlock replies.NotReleased = Unit {0}
RepliesUnlock reply = IsLogFailure reply

abbrev pub RepliesAsk : Reply → Type 0
RepliesAsk replies.Done = Unit {0}
RepliesAsk replies.Already = Unit {0}
RepliesAsk replies.NotBegun = Unit {0}
RepliesAsk reply = IsLogFailure reply

abbrev pub RepliesCommit : Reply → Type 0
RepliesCommit replies.Done = Unit {0}
RepliesCommit replies.Already = Unit {0}
RepliesCommit replies.NotAsked = Unit {0}
RepliesCommit (replies.Locked task) = Unit {0}
RepliesCommit (replies.TooFewMarks have) = Unit {0}
RepliesCommit reply = IsLogFailure reply

abbrev pub RepliesRestart : Reply → Type 0
RepliesRestart replies.Done = Unit {0}
RepliesRestart (replies.Damaged kept computed) = Unit {0}
RepliesRestart reply = IsLogFailure reply

abbrev pub RepliesRestartManager : Reply → Type 0
RepliesRestartManager replies.Done = Unit {0}
RepliesRestartManager reply = IsLogFailure reply

abbrev pub RepliesLook : Origin → Reply → Type 0
RepliesLook origin (replies.Seen view) = AreHomes origin view.units
RepliesLook origin reply = IsLogFailure reply

abbrev pub RepliesTick : Reply → Type 0
RepliesTick (replies.Now time) = Unit {0}
RepliesTick reply = ⊥

abbrev pub RepliesDone : Reply → Type 0
RepliesDone replies.Done = Unit {0}
RepliesDone reply = ⊥

-- the replies that an event may have
abbrev pub MayReply : Origin → Event → Reply → Type 0
MayReply origin (events.Tick by) reply = RepliesTick reply
MayReply origin (events.Plan disk fate count) reply = RepliesDone reply
MayReply origin events.Lease reply = RepliesLease reply
MayReply origin (events.Begin bid payload) reply = RepliesBegin origin reply
MayReply origin (events.Send request) reply = RepliesSend reply
MayReply origin events.FlushOne reply = RepliesFlush reply
MayReply origin (events.End bid) reply = RepliesEnd reply
MayReply origin (events.Lock task targets) reply = RepliesLock reply
MayReply origin (events.Retarget task index disk) reply = RepliesRetarget reply
MayReply origin (events.Swap task) reply = RepliesSwap reply
MayReply origin (events.Unlock task) reply = RepliesUnlock reply
MayReply origin (events.Break disk) reply = RepliesDone reply
MayReply origin (events.Ask bid) reply = RepliesAsk reply
MayReply origin (events.Commit bid) reply = RepliesCommit reply
MayReply origin (events.Restart disk) reply = RepliesRestart reply
MayReply origin events.RestartManager reply = RepliesRestartManager reply
MayReply origin events.Look reply = RepliesLook origin reply
