-- A look at a world.
use Rattle.std.proofs.Common.{◌≡◌, ◌∙◌, sym, ap, refl, false}
use Rattle.disk_base.specs.Disk.{FileView}
use Rattle.disk_base.specs.Shelves.{ShelfView}
use Rattle.volume_entry.specs.Reply.{Reply as ToldReply}
use Rattle.volume_entry.specs.ShownView.{view_shown}
use Rattle.volume_entry.specs.TableParts.{shape_of}
use Rattle.volume_entry.specs.Entry.{is_broken}
use Rattle.volume_entry.specs.declared.view.View.{View}
use Rattle.volume_world.specs.Move.{view_of}
use Rattle.volume_world.specs.Run.{World}
use Rattle.volume_world.specs.Trace.{trace_of}
use Rattle.volume_world.specs.World.{WorldOver, Stands}
use Rattle.volume_world.specs.WorldSteps.{IsOneVolume, LeadsOn}
use Rattle.volume_world.specs.declared.event.Event.TheVariants as events
use Rattle.volume_world.specs.declared.reply.Reply.TheVariants as replies
use Rattle.volume_world.specs.declared.trace.TraceEvent.TheVariants as kept_event
use Rattle.volume_world.specs.declared.trace.TraceReply.TheVariants as kept_reply
use Rattle.volume_world.proofs.ManagerSteps.{same_tests}
use Rattle.volume_world.proofs.OneMove.{entry_of_move}
use Rattle.volume_world.proofs.WorldFrames.{noted}

module _ {H F : Type 0} (shelf_seen : H → ShelfView F) (seen : F → FileView) (old : WorldOver H F) (w : World) (stands : Stands shelf_seen seen old w) where
  -- what the entry shows is what the volume shows
  pub look_shows : (view : View) → IsOneVolume old → view ≡ view_shown old.entry.book.vid (is_broken old.entry.broken) old.time w.state.manager
      → view ≡ view_shown old.vid w.state.broken w.state.time w.state.manager
  look_shows view one shows =
      shows
      ∙ ap (λ vid. view_shown vid (is_broken old.entry.broken) old.time w.state.manager) one.vid
      ∙ ap (λ broken. view_shown old.vid broken old.time w.state.manager) (same_tests old.entry.broken w.state.broken stands.broken)
      ∙ ap (λ time. view_shown old.vid w.state.broken time w.state.manager) (sym stands.time)

  -- a look changes nothing
  pub look_done : (new : WorldOver H F) (view : View) → w.state.manager.is_shut ≡ false → view ≡ view_shown old.vid w.state.broken w.state.time w.state.manager
      → new ≡ record old { history = new.history } → LeadsOn shelf_seen seen old w (trace_of events.Look (replies.Seen view)) new
  look_done new view open_ shows only = record {
    then_ = w;
    may_be = entry_of_move old.vid (shape_of old.shape) w kept_event.Look (kept_reply.Seen view) (ToldReply.Seen (view_of w.state)) w.state tt (open_, (refl, refl)) shows;
    stands = noted shelf_seen seen old new w only stands;
  }
