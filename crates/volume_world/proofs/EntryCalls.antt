-- A world in which a call was made on the manager's part and nothing else changed.
use Rattle.std.proofs.Common.{◌≡◌, ◌∙◌, sym, ap, refl, subst, ℕ, ◌+◌, ◌*◌, ◌≤◌, ◌&&◌, length, Result, arith}
use Rattle.std.specs.Prelude.{IfSome, is_some}
use Rattle.disk_base.specs.Disk.{FileView, Lasts}
use Rattle.disk_base.specs.Faults.{Rose}
use Rattle.disk_base.specs.Shelves.{ShelfView}
use Rattle.volume_entry.specs.BookStart.{last_start}
use Rattle.volume_entry.specs.Entry.{EntryCall, is_broken}
use Rattle.volume_entry.specs.declared.fault.EntryFault.{EntryFault}
use Rattle.volume_world.specs.Origins.{are_told, are_quiet, faults_of}
use Rattle.volume_world.specs.Stations as all
use Rattle.volume_world.specs.World.{WorldOver}
use Rattle.volume_world.specs.Stepping.{IsSound}
use Rattle.volume_world.proofs.Passing.{SameVolume, all_late_fit}

-- what stays and what changes, of two calls one after the other
pub only_entry : {H F : Type 0} (old mid new : WorldOver H F) → mid ≡ record old { entry = mid.entry } → new ≡ record mid { history = new.history }
    → new ≡ record old { entry = new.entry; history = new.history }
only_entry {H} {F} old mid new before after =
    after ∙ (λ i. record (before i) { history = new.history })
    ∙ (λ i. record old { entry = sym (ap (λ (world : WorldOver H F). world.entry) after) i; history = new.history })

rose_sum : (others before now : ℕ) → Rose before now → Rose (others + before) (others + now)
rose_sum others before now rose = omega (arith, rose)

module _ {H F : Type 0} (shelf_seen : H → ShelfView F) (seen : F → FileView) (old new : WorldOver H F) (only : new ≡ record old { entry = new.entry; history = new.history })
    (lasts : Lasts (seen old.entry.book.log.file) (seen new.entry.book.log.file)) where
  same_there : SameVolume shelf_seen seen old (record old { entry = new.entry; history = new.history })
  same_there = record {
    vid = refl;
    shape = refl;
    first = refl;
    told = ap (λ tells. are_told shelf_seen seen old.stations && tells) lasts.tells;
    quiet = ap (λ quiet. are_quiet shelf_seen seen old.stations && quiet) lasts.quiet;
    count = omega (arith, lasts.faults);
  }

  -- it is the same volume
  pub same_by_entry : SameVolume shelf_seen seen old new
  same_by_entry = subst (λ (x : WorldOver H F). SameVolume shelf_seen seen old x) (sym only) same_there

  -- what always holds of a world does still, where its log ends in time
  pub sound_by_entry : {T : Type 0} (result : Result T EntryFault) → EntryCall seen old.entry new.entry result
      → IfSome new.entry.book.log.end (λ place. place ≤ last_start + 128 * length new.history.entries)
      → IsSound shelf_seen seen old → IsSound shelf_seen seen new
  sound_by_entry result call end sound =
      subst (λ (x : WorldOver H F). IsSound shelf_seen seen x) (sym only) (record {
        one = record { vid = call.vid ∙ sound.one.vid; shape = call.shape ∙ sound.one.shape; planned = sound.one.planned };
        disks = sound.disks;
        stations = sound.stations;
        count = sound.count;
        still = sound.still;
        flags = ap length call.broken ∙ sound.flags;
        broken = λ disk. sound.broken disk ∙ ap (λ flags. is_broken flags disk) (sym call.broken);
        time = sound.time;
        end = end;
        late = all_late_fit shelf_seen seen old (record old { entry = new.entry; history = new.history }) same_there refl sound;
      })

  -- where its file failed, the world's files did
  pub rose_by_entry : Rose (seen old.entry.book.log.file).faults (seen new.entry.book.log.file).faults → Rose (faults_of shelf_seen seen old) (faults_of shelf_seen seen new)
  rose_by_entry rose =
      subst (λ (x : WorldOver H F). Rose (faults_of shelf_seen seen old) (faults_of shelf_seen seen x)) (sym only)
      (rose_sum (all.faults_of shelf_seen seen old.stations) (seen old.entry.book.log.file).faults (seen new.entry.book.log.file).faults rose)
