-- Whole stories of a volume, as lists of moves.
use Rattle.std.specs.Prelude.{ℕ, ◌≡◌, ◌+◌, false, ◌==◌, ◌&&◌, nat_lt, List, [], ◌∷◌, ◌++◌, Some}
use Rattle.unit_id.specs.Place.{Place}
use Rattle.unit_id.specs.Shown.{Shown}
use Rattle.unit_id.specs.Request.{Request, Answer, place_of}
use Rattle.code_mode.specs.VolumeShape.{VolumeShape}
use Rattle.blob_node.specs.Units.{RowState}
use Rattle.blob_node.specs.UnitAnswer.{Effect, units_after}
use Rattle.volume_entry.specs.Manager.{ManagerRecord, written, forgetful, settled}
use Rattle.volume_entry.specs.Reply.{Reply}
use Rattle.volume_entry.specs.ManagerStep.{hear, lock_record}
use Rattle.volume_world.specs.Event.{Event}
use Rattle.volume_world.specs.State.{Status, State, fresh}
use Rattle.volume_world.specs.Move.{Move, MovesAll, puts_hear, opened, ended}
use Rattle.volume_world.specs.Examples.{small, nine_homes, nine_fine, nine_units, homes_from, first_unit, to_disk, first_transfer}

-- the state after a move of a story
abbrev pub after : State → Move → State
after s (Move.Issue r) = record s { post = record (s.post) { issued = r ∷ s.post.issued } }
after s (Move.Handle r a e) = record s { units = units_after (place_of r) r e s.units; post = record (s.post) { given = record { request = r; answer = a } ∷ s.post.given } }
after s (Move.Hear r a) = record s { manager = hear r a s.manager; puts = puts_hear r a s.puts }
after s (Move.Happen Event.Lease reply) = record s { manager = written (ManagerRecord.Leased (s.time + 10)) s.manager }
after s (Move.Happen (Event.Begin bid payload) reply) = record s { puts = opened bid payload s.manager.lease_end s.puts }
after s (Move.Happen (Event.End bid) reply) = record s { puts = ended bid Status.Acked s.puts }
after s (Move.Happen (Event.Tick by) reply) = record s { time = s.time + by }
after s (Move.Happen (Event.Lock task targets) reply) = record s { manager = written (lock_record task targets s.manager) s.manager }
after s (Move.Happen (Event.Swap task) Reply.Done) = record s { manager = written ManagerRecord.Swapped s.manager }
after s (Move.Happen (Event.Unlock task) Reply.Done) = record s { manager = written ManagerRecord.Unlocked s.manager }
after s (Move.Happen (Event.Ask bid) reply) = record s { manager = written (ManagerRecord.Asked bid) s.manager }
after s (Move.Happen (Event.Commit bid) reply) = record s { manager = written (ManagerRecord.Committed bid) s.manager }
after s (Move.Happen Event.RestartManager reply) = record s { manager = forgetful (settled s.manager) }
after s move = s

-- the state after moves
abbrev pub after_all : State → List Move → State
after_all s [] = s
after_all s (move ∷ moves) = after_all (after s move) moves

abbrev pub IsStory : VolumeShape → State → List Move → Type 0
IsStory shape s moves = MovesAll shape s moves (after_all s moves)

-- a request that is sent, answered and heard
abbrev pub passed : Request → Answer → Effect → List Move
passed request answer effect = Move.Issue request ∷ Move.Handle request answer effect ∷ Move.Hear request answer ∷ []

-- a shard of the first blob that is put
abbrev pub put_to : ℕ → Request
put_to index = Request.Put (first_unit index) 1

abbrev pub taken : ℕ → List Move
taken index = passed (put_to index) Answer.Done Effect.Wrote

abbrev pub done : Event → List Move
done event = Move.Happen event Reply.Done ∷ []

-- A put of nine units: one request is lost, and eight acceptances are a quorum.
abbrev pub moves_of_put : List Move
moves_of_put =
    Move.Happen Event.Lease (Reply.LeaseTo 10) ∷ Move.Happen (Event.Begin 1 (104 ∷ [])) (Reply.Begun 10 nine_homes nine_fine)
    ∷ (taken 0 ++ taken 1 ++ taken 2 ++ taken 3 ++ taken 4 ++ taken 5 ++ taken 6 ++ taken 7)
    ++ Move.Issue (put_to 8) ∷ Move.Happen (Event.End 1) (Reply.Acked 8) ∷ []

abbrev pub PutIsAcked : Type 0
PutIsAcked = IsStory small nine_units moves_of_put

-- two data shards and one more, three acceptances, two units seen; four disks
abbrev pub smallest : VolumeShape
smallest = record { data_count = 2; total = 3; quorum = 3; sight = 2; disks = 4 }

abbrev pub three_units : State
three_units = fresh (homes_from 1 (1 ∷ 2 ∷ 3 ∷ [])) (λ p. nat_lt p.index 3 && ((p.epoch == 1) && (p.disk == p.index + 1)))

-- the unit to which the first index moves
abbrev pub successor : Place
successor = record { index = 0; epoch = 2; disk = 4 }

abbrev pub one_live : Shown
one_live = record { live = 1 ∷ []; marked = [] }

-- a blob is put
abbrev pub put_moves : List Move
put_moves =
    Move.Happen Event.Lease (Reply.LeaseTo 10) ∷ Move.Happen (Event.Begin 1 (104 ∷ [])) (Reply.Begun 10 (homes_from 1 (1 ∷ 2 ∷ 3 ∷ [])) (false ∷ false ∷ false ∷ []))
    ∷ (taken 0 ++ taken 1 ++ taken 2 ++ Move.Happen (Event.End 1) (Reply.Acked 3) ∷ [])

-- two units are listed
abbrev pub list_moves : List Move
list_moves = passed (Request.List (first_unit 1) 1) (Answer.Listing 1 one_live) Effect.Started ++ passed (Request.List (first_unit 2) 1) (Answer.Listing 1 one_live) Effect.Started

-- the first unit is on its way to another disk
abbrev pub copy_moves : List Move
copy_moves =
    Move.Happen (Event.Tick 10) (Reply.Now 10) ∷ Move.Happen (Event.Lock 1 (to_disk 4)) (Reply.Granted 1 (first_transfer 2 4 ∷ []))
    ∷ (passed (Request.Create successor) Answer.Done Effect.Made ++ passed (Request.Fence (first_unit 0) 1) Answer.Done Effect.Wrote ++ list_moves ++ passed (Request.Copy successor 1) Answer.Done Effect.Wrote)

-- A blob is put, its first unit is moved to another disk, and the blob is deleted.
abbrev pub moves_of_life : List Move
moves_of_life =
    put_moves ++ copy_moves ++ done (Event.Swap 1) ++ passed (Request.Release (first_unit 0)) Answer.Done Effect.Wrote ++ done (Event.Unlock 1) ++ done (Event.Ask 1)
    ++ passed (Request.Mark successor 1) Answer.Done Effect.Wrote ++ passed (Request.Mark (first_unit 1) 1) Answer.Done Effect.Wrote ++ done (Event.Commit 1) ++ passed (Request.Free (first_unit 1) 1) Answer.Done Effect.Wrote

abbrev pub LifeIsLegal : Type 0
LifeIsLegal = IsStory smallest three_units moves_of_life

-- A blob is deleted in two phases, and a put comes late, after the mark and after the free: the blob doesn't come back.
abbrev pub late_put : List Move
late_put = Move.Handle (put_to 0) Answer.Deleted Effect.Started ∷ []

abbrev pub moves_of_delete : List Move
moves_of_delete =
    put_moves ++ done (Event.Ask 1) ++ passed (Request.Mark (first_unit 0) 1) Answer.Done Effect.Wrote ++ passed (Request.Mark (first_unit 1) 1) Answer.Done Effect.Wrote
    ++ done (Event.Commit 1) ++ late_put ++ passed (Request.Free (first_unit 0) 1) Answer.Done Effect.Wrote ++ late_put

pub record LatePutIsDeleted : Type 0 where
  pub legal : IsStory smallest three_units moves_of_delete
  pub gone : (after_all three_units moves_of_delete).units.row (first_unit 0) 1 ≡ Some RowState.Gone
  pub marked : (after_all three_units moves_of_delete).units.row (first_unit 1) 1 ≡ Some RowState.Marked
  pub left : (after_all three_units moves_of_delete).units.row (first_unit 2) 1 ≡ Some RowState.Live

-- The manager is restarted between the listings and the swap: all has to be heard again.
abbrev pub moves_of_restart : List Move
moves_of_restart =
    put_moves ++ copy_moves ++ done Event.RestartManager ++ Move.Happen (Event.Swap 1) Reply.NotFenced ∷ []
    ++ passed (Request.Fence (first_unit 0) 1) Answer.Done Effect.Started ++ list_moves ++ passed (Request.List successor 1) (Answer.Listing 1 one_live) Effect.Started ++ done (Event.Swap 1)

abbrev pub RestartForgets : Type 0
RestartForgets = IsStory smallest three_units moves_of_restart
