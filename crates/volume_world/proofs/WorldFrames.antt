-- What a world stands for where only some of its parts change.
use Rattle.std.proofs.Common.{◌≡◌, ◌∙◌, sym, ap, subst, ℕ, ◌-◌, List, map, length, slice_set}
use Rattle.std.proofs.lemmas.List.{length-set}
use Rattle.disk_base.specs.Disk.{FileView}
use Rattle.disk_base.specs.Shelves.{ShelfView}
use Rattle.blob_node.specs.Link.{with_fates}
use Rattle.blob_node.specs.declared.fate.Fate.{Fate}
use Rattle.volume_entry.specs.Manager.{Manager}
use Rattle.volume_entry.specs.TableParts.{shape_of}
use Rattle.volume_entry.specs.Entry.{is_broken}
use Rattle.volume_entry.specs.Entry as entries
use Rattle.volume_world.specs.Run.{World}
use Rattle.volume_world.specs.Mailbag.{late_told}
use Rattle.volume_world.specs.PutBook.{Books}
use Rattle.volume_world.specs.World.{WorldOver, Stands, ArePosted}
use Rattle.volume_world.specs.WorldSteps.{IsOneVolume}

-- ---- one volume

-- a call on the entry leaves the world's parts those of one volume
pub one_with_entry : {H F : Type 0} (old new : WorldOver H F) → new ≡ record old { entry = new.entry; history = new.history } → new.entry.book.vid ≡ old.entry.book.vid
    → new.entry.book.shape ≡ old.entry.book.shape → IsOneVolume old → IsOneVolume new
one_with_entry {H} {F} old new only vid shape one = record {
  vid = vid ∙ one.vid ∙ sym (ap (λ (world : WorldOver H F). world.vid) only);
  shape = shape ∙ one.shape ∙ sym (ap (λ (world : WorldOver H F). world.shape) only);
  planned = ap (λ (world : WorldOver H F). length world.planned) only ∙ one.planned ∙ sym (ap (λ (world : WorldOver H F). world.shape.disks) only);
}

-- .. and so does a plan
pub one_with_plan : {H F : Type 0} (old new : WorldOver H F) (disk : ℕ) (fates : List Fate)
    → new ≡ record old { planned = with_fates old.planned disk fates; history = new.history } → IsOneVolume old → IsOneVolume new
one_with_plan {H} {F} old new disk fates only one =
    let long : length (slice_set old.planned (disk - 1) fates) ≡ length old.planned = length-set old.planned (disk - 1) fates in
    subst (λ (x : WorldOver H F). IsOneVolume x) (sym only) (record { vid = one.vid; shape = one.shape; planned = long ∙ one.planned })

-- ---- what it stands for

module _ {H F : Type 0} (shelf_seen : H → ShelfView F) (seen : F → FileView) where
  -- only the history grows
  pub noted : (old new : WorldOver H F) (w : World) → new ≡ record old { history = new.history } → Stands shelf_seen seen old w → Stands shelf_seen seen new w
  noted old new w only stands = subst (λ (x : WorldOver H F). Stands shelf_seen seen x w) (sym only) (record {
    manager = stands.manager;
    written = stands.written;
    stations = stands.stations;
    as_begun = stands.as_begun;
    puts = stands.puts;
    bytes = stands.bytes;
    posted = stands.posted;
    time = stands.time;
    broken = stands.broken;
    planned = stands.planned;
    late = stands.late;
  })

  -- only the manager's part changes
  pub stands_with : (old new : WorldOver H F) (w : World) (n : Manager) → new ≡ record old { entry = new.entry; history = new.history }
      → new.entry.broken ≡ old.entry.broken
      → entries.Stands seen new.entry n → Stands shelf_seen seen old w → Stands shelf_seen seen new (record w { state = record (w.state) { manager = n } })
  stands_with old new w n only same manager stands =
      subst (λ (x : WorldOver H F). Stands shelf_seen seen x (record w { state = record (w.state) { manager = n } })) (sym only)
      (record {
        manager = manager;
        written = stands.written;
        stations = stands.stations;
        as_begun = stands.as_begun;
        puts = stands.puts;
        bytes = stands.bytes;
        posted = stands.posted;
        time = stands.time;
        broken = λ disk. stands.broken disk ∙ ap (λ flags. is_broken flags disk) (sym same);
        planned = stands.planned;
        late = stands.late;
      })

  -- room is made, and nothing else changes
  pub reserved : (old new : WorldOver H F) (w : World) → new ≡ record old { entry = new.entry; puts = new.puts; late = new.late; history = new.history }
      → ((m : Manager) → entries.Stands seen old.entry m → entries.Stands seen new.entry m) → new.entry.broken ≡ old.entry.broken → new.puts.puts ≡ old.puts.puts
      → new.late.items ≡ old.late.items → Stands shelf_seen seen old w → Stands shelf_seen seen new w
  reserved old new w only manager broken puts late stands = subst (λ (x : WorldOver H F). Stands shelf_seen seen x w) (sym only) (record {
    manager = manager w.state.manager stands.manager;
    written = stands.written;
    stations = stands.stations;
    as_begun = stands.as_begun;
    puts = subst (λ book. Books (shape_of old.shape).total book w.state.puts) (sym puts) stands.puts;
    bytes = stands.bytes;
    posted = subst (ArePosted old.shape.mode w.state.puts w.state.post) (sym late) stands.posted;
    time = stands.time;
    broken = λ disk. stands.broken disk ∙ ap (λ flags. is_broken flags disk) (sym broken);
    planned = stands.planned;
    late = stands.late ∙ ap (map late_told) (sym late);
  })
