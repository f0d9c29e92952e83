-- The clock of a world, what is planned for its messages, and disks that break.
use Rattle.std.proofs.Common.{◌≡◌, ◌∙◌, sym, ap, refl, subst, ℕ, ◌+◌, ◌<◌, min, Bool, true, false, ◌||◌, ◌==◌, List, ◌++◌, replicate, length, set, eqb-true, eq-eqb, arith}
use Rattle.std.proofs.lemmas.List.{get_or-set_same, get_or-set_other}
use Rattle.unit_id.specs.Place.{Place}
use Rattle.disk_base.specs.Disk.{FileView}
use Rattle.disk_base.specs.Shelves.{ShelfView}
use Rattle.code_mode.specs.VolumeShape.{last_time}
use Rattle.blob_node.specs.Units.{Units}
use Rattle.blob_node.specs.Holding.{Written}
use Rattle.blob_node.specs.Link.{IsDiskOf, fates_of, with_fates}
use Rattle.blob_node.specs.declared.fate.Fate.{Fate}
use Rattle.volume_entry.specs.Manager.{IsDisk}
use Rattle.volume_entry.specs.Reply.{Reply as ToldReply}
use Rattle.volume_entry.specs.TableParts.{shape_of}
use Rattle.volume_entry.specs.Entry.{is_broken}
use Rattle.volume_world.specs.Run.{World}
use Rattle.volume_world.specs.Trace.{trace_of}
use Rattle.volume_world.specs.Stations.{AllStand}
use Rattle.volume_world.specs.World.{WorldOver, Stands}
use Rattle.volume_world.specs.WorldSteps.{IsOneVolume, LeadsOn}
use Rattle.volume_world.specs.declared.event.Event.TheVariants as events
use Rattle.volume_world.specs.declared.reply.Reply.TheVariants as replies
use Rattle.volume_world.specs.declared.trace.TraceEvent.TheVariants as kept_event
use Rattle.volume_world.specs.declared.trace.TraceReply.TheVariants as kept_reply
use Rattle.volume_world.proofs.Mailbags.{plan_has}
use Rattle.volume_world.proofs.OneMove.{entry_of, entry_of_move}

-- flags of disks with one disk more that is broken
pub broken_set : (flags : List Bool) (disk other : ℕ) → disk < length flags → is_broken (set flags disk true) other ≡ ((other == disk) || is_broken flags other)
broken_set flags disk other inside = go (other == disk) refl where
  go : (t : Bool) → (other == disk) ≡ t → is_broken (set flags disk true) other ≡ (t || is_broken flags other)
  go true e = subst (λ d. is_broken (set flags disk true) d ≡ true) (sym (eqb-true other disk e)) (get_or-set_same flags disk true false inside)
  go false e = get_or-set_other flags disk other true false (λ same. cc (eq-eqb other disk same, e))

module _ {H F : Type 0} (shelf_seen : H → ShelfView F) (seen : F → FileView) (old new : WorldOver H F) (w : World) (stands : Stands shelf_seen seen old w) where
  -- the clock goes on
  pub ticked : (by time : ℕ) → time ≡ min (old.time + by) last_time → new ≡ record old { time = time; history = new.history }
      → LeadsOn shelf_seen seen old w (trace_of (events.Tick by) (replies.Now time)) new
  ticked by time is only =
      let t = record (w.state) { time = time } in
      record {
        then_ = record w { state = t };
        may_be = entry_of_move old.vid (shape_of old.shape) w (kept_event.Tick by) (kept_reply.Now time) (ToldReply.Now time) t tt
            (is ∙ ap (λ now. min (now + by) last_time) (sym stands.time), refl) refl;
        stands = subst (λ (x : WorldOver H F). Stands shelf_seen seen x (record w { state = t })) (sym only) (record {
          manager = stands.manager;
          written = stands.written;
          stations = stands.stations;
          as_begun = stands.as_begun;
          puts = stands.puts;
          bytes = stands.bytes;
          posted = stands.posted;
          time = refl;
          broken = stands.broken;
          planned = stands.planned;
          late = stands.late;
        });
      }

  -- more is planned for a disk
  pub planned : (disk : ℕ) (fate : Fate) (count : ℕ) → IsOneVolume old → IsDisk (shape_of old.shape) disk
      → new ≡ record old { planned = with_fates old.planned disk (fates_of old.planned disk ++ replicate count fate); history = new.history }
      → LeadsOn shelf_seen seen old w (trace_of (events.Plan disk fate count) replies.Done) new
  planned disk fate count one fits only =
      let v : World = record w { planned = w.planned ++ replicate count (record { disk = disk; fate = fate }) } in
      let on : IsDiskOf old.planned disk = (fits.first, omega (arith, fits.last, one.planned)) in
      record {
        then_ = v;
        may_be = entry_of old.vid (shape_of old.shape) w (kept_event.Plan disk fate count) kept_reply.Done ToldReply.Done v (refl, refl) tt;
        stands = subst (λ (x : WorldOver H F). Stands shelf_seen seen x v) (sym only) (record {
          manager = stands.manager;
          written = stands.written;
          stations = stands.stations;
          as_begun = stands.as_begun;
          puts = stands.puts;
          bytes = stands.bytes;
          posted = stands.posted;
          time = stands.time;
          broken = stands.broken;
          planned = plan_has old.planned w.planned disk fate count on stands.planned;
          late = stands.late;
        });
      }

  -- a disk breaks: the manager's part and the stations stand for what they did
  pub broke : (disk : ℕ) → new ≡ record old { entry = record (old.entry) { broken = new.entry.broken }; stations = new.stations; history = new.history }
      → ((other : ℕ) → is_broken new.entry.broken other ≡ ((other == disk) || is_broken old.entry.broken other))
      → ((written : Place → Written) (units : Units) → AllStand shelf_seen seen old.stations written units → AllStand shelf_seen seen new.stations written units)
      → LeadsOn shelf_seen seen old w (trace_of (events.Break disk) replies.Done) new
  broke disk only flags same =
      let t = record (w.state) { broken = λ other. (other == disk) || w.state.broken other } in
      record {
        then_ = record w { state = t };
        may_be = entry_of_move old.vid (shape_of old.shape) w (kept_event.Break disk) kept_reply.Done ToldReply.Done t tt refl tt;
        stands = subst (λ (x : WorldOver H F). Stands shelf_seen seen x (record w { state = t })) (sym only) (record {
          manager = record { book = stands.manager.book; heard = stands.manager.heard };
          written = stands.written;
          stations = same stands.written w.state.units stands.stations;
          as_begun = stands.as_begun;
          puts = stands.puts;
          bytes = stands.bytes;
          posted = stands.posted;
          time = stands.time;
          broken = λ other. ap (λ b. (other == disk) || b) (stands.broken other) ∙ sym (flags other);
          planned = stands.planned;
          late = stands.late;
        });
      }
