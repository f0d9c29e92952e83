-- An event behind a start of the manager's log.
use Rattle.std.proofs.Common.{◌≡◌, sym, subst, ℕ, ◌+◌, ◌≤◌, Result, Ok, Err, arith}
use Rattle.disk_base.specs.Disk.{FileView}
use Rattle.disk_base.specs.Shelves.{ShelfView}
use Rattle.volume_world.specs.Asking.{FitsEvent}
use Rattle.volume_world.specs.Origins.{origin_of}
use Rattle.volume_world.specs.World.{WorldOver}
use Rattle.volume_world.specs.Stepping.{HasRoom, Takes}
use Rattle.volume_world.specs.Opening.{IsOpened}
use Rattle.volume_world.specs.declared.event.Event.{Event}
use Rattle.volume_world.specs.declared.reply.Reply.{Reply}
use Rattle.volume_world.specs.declared.fault.StepFault.{StepFault}
use Rattle.volume_world.specs.declared.fault.StepFault.TheVariants.{HistoryFull, Memory}
use Rattle.volume_world.proofs.Passing.{origin_same, same_by, room_behind}

module _ {H F : Type 0} (shelf_seen : H → ShelfView F) (seen : F → FileView) (old mid : WorldOver H F) (opened : IsOpened shelf_seen seen old mid) where
  same_origin : origin_of shelf_seen seen mid ≡ origin_of shelf_seen seen old
  same_origin = origin_same shelf_seen seen old mid (same_by shelf_seen seen opened.settles old mid opened.passes)

  -- what is left of the room for entries
  pub opened_room : (count : ℕ) → HasRoom shelf_seen seen (count + 1) old → HasRoom shelf_seen seen count mid
  opened_room count room = room_behind shelf_seen seen (count + 1) count opened.settles old mid opened.passes (let few = opened.few in omega (arith, few)) room

  -- what may be asked
  pub opened_fits : (event : Event) → FitsEvent (origin_of shelf_seen seen old) event → FitsEvent (origin_of shelf_seen seen mid) event
  opened_fits event fits = subst (λ origin. FitsEvent origin event) (sym same_origin) fits

-- what is done behind few settles is done behind at most more
pub takes_within : {H F : Type 0} (shelf_seen : H → ShelfView F) (seen : F → FileView) (old new : WorldOver H F) (most more : ℕ) (event : Event) (result : Result Reply StepFault)
    → most ≤ more → Takes shelf_seen seen most old new event result → Takes shelf_seen seen more old new event result
takes_within shelf_seen seen old new most more event (Ok reply) fewer done = record {
  settles = done.settles;
  settling = done.settling;
  few = let few = done.few in omega (arith, few, fewer);
  fits = done.fits;
  moves = done.moves;
  passes = done.passes;
}
takes_within shelf_seen seen old new most more event (Err Memory) fewer given_up = record {
  settles = given_up.settles;
  settling = given_up.settling;
  few = let few = given_up.few in omega (arith, few, fewer);
  passes = given_up.passes;
}
takes_within shelf_seen seen old new most more event (Err HistoryFull) fewer full = absurd full
