-- A world with more room for messages stands for what it stood for before.
use Rattle.std.proofs.Common.{◌≡◌, ◌∙◌, sym, ap, refl, subst, ℕ, ◌+◌, ◌^◌, ◌≤◌, List, [], ◌∷◌, ◌++◌, map, length, IsSome, Result, Ok, Err, arith}
use Rattle.unit_id.specs.Lists.{IsIn}
use Rattle.unit_id.specs.declared.request.Request as sent
use Rattle.disk_base.specs.Disk.{FileView}
use Rattle.disk_base.specs.Shelves.{ShelfView}
use Rattle.code_mode.specs.VolumeShape.{last_time}
use Rattle.volume_entry.specs.Entry.{is_broken}
use Rattle.volume_entry.specs.HeardMemory.{HasRoom as HasRoomFor}
use Rattle.volume_world.specs.Asking.{FitsRequest}
use Rattle.volume_world.specs.Course.{Part}
use Rattle.volume_world.specs.Mailbag.{late_told}
use Rattle.volume_world.specs.Origins.{origin_of}
use Rattle.volume_world.specs.Replying.{MayReply, ShowsMoves}
use Rattle.volume_world.specs.Run.{World}
use Rattle.volume_world.specs.Sending.{IsReady, IsRoomier}
use Rattle.volume_world.specs.Stepping.{IsSound, IsAt, FitsLate, HasRoom, Passes, Done, NotDone, Takes}
use Rattle.volume_world.specs.World.{WorldOver, Stands, ArePosted}
use Rattle.volume_world.specs.declared.event.Event.{Event}
use Rattle.volume_world.specs.declared.fault.StepFault.{StepFault}
use Rattle.volume_world.specs.declared.fault.StepFault.TheVariants.{HistoryFull, Memory}
use Rattle.volume_world.specs.declared.late.LateItem.{LateItem}
use Rattle.volume_world.specs.declared.reply.Reply.{Reply}
use Rattle.volume_world.proofs.MemoryWorlds.{OnlyMemory, memory_same, memory_sound, memory_short}
use Rattle.volume_world.proofs.Passing.{SameVolume, origin_same, passes_nothing, passes_settled}

module _ {H F : Type 0} (shelf_seen : H → ShelfView F) (seen : F → FileView) (old new : WorldOver H F) (roomier : IsRoomier shelf_seen seen old new) where
  only : OnlyMemory old new
  only = subst (OnlyMemory old) (sym roomier.rest) refl

  history : new.history ≡ old.history
  history = ap (λ (x : WorldOver H F). x.history) roomier.rest

  same : SameVolume shelf_seen seen old new
  same = memory_same shelf_seen seen old new only roomier.book

  origin : origin_of shelf_seen seen new ≡ origin_of shelf_seen seen old
  origin = origin_same shelf_seen seen old new same

  pub roomier_stands : (w : World) → Stands shelf_seen seen old w → Stands shelf_seen seen new w
  roomier_stands w stands = subst (λ (x : WorldOver H F). Stands shelf_seen seen x w) (sym roomier.rest) (record {
    manager = roomier.stands w.state.manager stands.manager;
    written = stands.written;
    stations = stands.stations;
    as_begun = stands.as_begun;
    puts = stands.puts;
    bytes = stands.bytes;
    posted = subst (ArePosted old.shape.mode w.state.puts w.state.post) (sym roomier.items) stands.posted;
    time = stands.time;
    broken = λ disk. stands.broken disk ∙ ap (λ flags. is_broken flags disk) (sym roomier.broken);
    planned = stands.planned;
    late = stands.late ∙ ap (λ items. map late_told items) (sym roomier.items);
  })

  module _ (sound : IsSound shelf_seen seen old) where
    pub roomier_sound : IsSound shelf_seen seen new
    roomier_sound =
        let as_long : length new.history.entries ≡ length old.history.entries = ap (λ x. length x.entries) history in
        memory_sound shelf_seen seen old new only roomier.book roomier.broken
        (ap (λ (x : WorldOver H F). length x.planned) roomier.rest)
        (subst (λ (x : WorldOver H F). x.time ≤ last_time) (sym roomier.rest) sound.time)
        (omega (arith, as_long))
        (λ item there. sound.late item (subst (IsIn item) roomier.items there)) sound

    pub roomier_ready : (request : sent.Request) → HasRoom shelf_seen seen 2 old → IsSome old.entry.book.log.end → FitsRequest (origin_of shelf_seen seen old) request
        → 1 ≤ new.late.spare → HasRoomFor new.entry.heard → IsReady shelf_seen seen request new
    roomier_ready request room is_open fits late heard = record {
      sound = roomier_sound;
      room = record { spare = subst (λ h. 2 ≤ h.spare) (sym history) room.spare; few = subst (λ h. length h.entries + 2 ≤ 2 ^ 32) (sym history) room.few };
      is_open = subst (λ b. IsSome b.log.end) (sym roomier.book) is_open;
      fits = subst (λ o. FitsRequest o request) (sym origin) fits;
      late = late;
      heard = heard;
    }

    passes : Passes shelf_seen seen [] old new
    passes =
        let as_long : length new.history.entries ≡ length old.history.entries = ap (λ x. length x.entries) history in
        let as_roomy : new.history.spare ≡ old.history.spare = ap (λ x. x.spare) history in
        passes_nothing shelf_seen seen old new same roomier_sound (ap (λ x. x.entries) history) (omega (arith, as_roomy))
        (λ w is. record { stands = roomier_stands w is.stands; short = memory_short shelf_seen seen old new roomier.book (omega (arith, as_long)) is.short })

    pub roomier_not_done : NotDone shelf_seen seen 1 old new
    roomier_not_done = record { settles = []; settling = tt; few = omega arith; passes = passes }

    -- what is done then is done from the world as it was before
    pub roomier_takes : (most : ℕ) (last : WorldOver H F) (event : Event) (result : Result Reply StepFault) → Takes shelf_seen seen most new last event result
        → Takes shelf_seen seen most old last event result
    roomier_takes most last event (Ok reply) done = record {
      settles = done.settles;
      settling = done.settling;
      few = done.few;
      fits = subst (λ o. MayReply o event reply) origin done.fits;
      moves = subst (λ o. ShowsMoves o reply) origin done.moves;
      passes = passes_settled shelf_seen seen [] (done.settles ++ Part.Asking event reply ∷ []) old new last tt passes done.passes;
    }
    roomier_takes most last event (Err Memory) not_done =
        record { settles = not_done.settles; settling = not_done.settling; few = not_done.few; passes = passes_settled shelf_seen seen [] not_done.settles old new last tt passes not_done.passes }
    roomier_takes most last event (Err HistoryFull) never = never
