-- Replies that a volume may give fit the rows that keep them.
use Rattle.std.proofs.Common.{◌≤◌, ℕ, List, length, Option, Some, None, arith}
use Rattle.unit_id.specs.declared.homes.Home.{Home}
use Rattle.unit_id.specs.declared.moves.Move.{Move}
use Rattle.code_mode.specs.VolumeShape.{IsVolumeShape}
use Rattle.code_mode.proofs.Numbers.{sound_shapes}
use Rattle.volume_entry.specs.declared.view.LockView.{LockView}
use Rattle.volume_entry.specs.declared.view.View.{View}
use Rattle.volume_world.specs.Way.{Origin, shape_of}
use Rattle.volume_world.specs.Replying.{AreHomes, AreMoves, AreHeldMoves, MayReply, ShowsMoves}
use Rattle.volume_world.specs.FixedRows.{FitsHeld, FitsRows}
use Rattle.volume_world.specs.declared.event.Event.{Event}
use Rattle.volume_world.specs.declared.event.Event.TheVariants as events
use Rattle.volume_world.specs.declared.reply.Reply.{Reply}
use Rattle.volume_world.specs.declared.reply.Reply.TheVariants as replies

homes_fit : (origin : Origin) (homes : List Home) → AreHomes origin homes → length homes ≤ 27
homes_fit origin homes are =
    let good : IsVolumeShape (shape_of origin) = sound_shapes origin.mode origin.disks in
    omega (arith, are.count, good.few_units)

moves_fit : (origin : Origin) (moves : List Move) → AreMoves origin moves → length moves ≤ 9
moves_fit origin moves are =
    let good : IsVolumeShape (shape_of origin) = sound_shapes origin.mode origin.disks in
    omega (arith, are.most, good.few_moves)

held_fits : (origin : Origin) (held : Option LockView) → AreHeldMoves origin held → FitsHeld held
held_fits origin None are = tt
held_fits origin (Some lock) are = moves_fit origin lock.moves are

begun_fits : (origin : Origin) (event : Event) (end : ℕ) (units : List Home) → MayReply origin event (replies.Begun end units) → length units ≤ 27
begun_fits origin (events.Begin bid payload) end units may = homes_fit origin units may
begun_fits origin event end units may = absurd may

seen_fits : (origin : Origin) (event : Event) (view : View) → MayReply origin event (replies.Seen view) → length view.units ≤ 27
seen_fits origin events.Look view may = homes_fit origin view.units may
seen_fits origin event view may = absurd may

pub rows_fit : (origin : Origin) (event : Event) (reply : Reply) → MayReply origin event reply → ShowsMoves origin reply → FitsRows reply
rows_fit origin event (replies.Begun end units) may shows = begun_fits origin event end units may
rows_fit origin event (replies.Granted lock moves) may shows = moves_fit origin moves shows
rows_fit origin event (replies.Seen view) may shows = (seen_fits origin event view may, held_fits origin view.held shows)
rows_fit origin event reply may shows = tt
