-- A world of which only memory changes is the same volume, and what always holds of it does still.
use Rattle.std.proofs.Common.{◌≡◌, ◌∙◌, sym, ap, refl, subst, ℕ, ◌+◌, ◌*◌, ◌≤◌, ◌&&◌, length, arith}
use Rattle.std.specs.Prelude.{IfSome, is_some}
use Rattle.unit_id.specs.Lists.{IsIn}
use Rattle.disk_base.specs.Disk.{FileView}
use Rattle.disk_base.specs.Shelves.{ShelfView}
use Rattle.code_mode.specs.VolumeShape.{last_time}
use Rattle.volume_entry.specs.BookStart.{last_start}
use Rattle.volume_entry.specs.Entry.{is_broken}
use Rattle.volume_world.specs.Asking.{FitsRequest}
use Rattle.volume_world.specs.Origins.{are_told, are_quiet, faults_of, origin_of}
use Rattle.volume_world.specs.Stepping.{IsShort, FitsLate, IsSound}
use Rattle.volume_world.specs.World.{WorldOver}
use Rattle.volume_world.specs.declared.late.LateItem.{LateItem}
use Rattle.volume_world.specs.declared.late.LateItem.TheVariants as items
use Rattle.volume_world.proofs.Passing.{SameVolume, origin_same, still_short, end_in_time}

-- neither stations nor files change
abbrev pub OnlyMemory : {H F : Type 0} → WorldOver H F → WorldOver H F → Type 0
OnlyMemory old new = new ≡ record old { entry = new.entry; puts = new.puts; planned = new.planned; late = new.late; time = new.time; history = new.history }

-- one change behind another
pub memory_then : {H F : Type 0} (old mid new : WorldOver H F) → OnlyMemory old mid → OnlyMemory mid new → OnlyMemory old new
memory_then {H} {F} old mid new before after =
    after ∙ ap (λ (x : WorldOver H F). record x { entry = new.entry; puts = new.puts; planned = new.planned; late = new.late; time = new.time; history = new.history }) before

module _ {H F : Type 0} (shelf_seen : H → ShelfView F) (seen : F → FileView) where
  pub memory_same : (old new : WorldOver H F) → OnlyMemory old new → new.entry.book ≡ old.entry.book → SameVolume shelf_seen seen old new
  memory_same old new only book =
      subst (λ (x : WorldOver H F). SameVolume shelf_seen seen old x) (sym only) (record {
        vid = refl;
        shape = refl;
        first = refl;
        told = ap (λ b. are_told shelf_seen seen old.stations && is_some (seen b.log.file).content) book;
        quiet = ap (λ b. are_quiet shelf_seen seen old.stations && (seen b.log.file).is_quiet) book;
        count = let same : (seen new.entry.book.log.file).faults ≡ (seen old.entry.book.log.file).faults = ap (λ b. (seen b.log.file).faults) book in omega (arith, same);
      })

  pub late_still : (old new : WorldOver H F) (item : LateItem) → SameVolume shelf_seen seen old new → FitsLate shelf_seen seen old item → FitsLate shelf_seen seen new item
  late_still old new (items.Request request) same fits = subst (λ origin. FitsRequest origin request) (sym (origin_same shelf_seen seen old new same)) fits
  late_still old new (items.Answer request answer) same fits = subst (λ origin. FitsRequest origin request) (sym (origin_same shelf_seen seen old new same)) fits

  pub memory_sound : (old new : WorldOver H F) → OnlyMemory old new → new.entry.book ≡ old.entry.book → new.entry.broken ≡ old.entry.broken
      → length new.planned ≡ length old.planned → new.time ≤ last_time → length old.history.entries ≤ length new.history.entries
      → ((item : LateItem) → IsIn item new.late.items → FitsLate shelf_seen seen old item) → IsSound shelf_seen seen old → IsSound shelf_seen seen new
  memory_sound old new only book broken planned time more late sound =
      let aside : WorldOver H F = record old { entry = new.entry; puts = new.puts; planned = new.planned; late = new.late; time = new.time; history = new.history } in
      subst (λ (x : WorldOver H F). IsSound shelf_seen seen x) (sym only) (record {
        one = record { vid = ap (λ b. b.vid) book ∙ sound.one.vid; shape = ap (λ b. b.shape) book ∙ sound.one.shape; planned = planned ∙ sound.one.planned };
        disks = sound.disks;
        stations = sound.stations;
        count = sound.count;
        still = sound.still;
        flags = ap length broken ∙ sound.flags;
        broken = λ disk. sound.broken disk ∙ ap (λ flags. is_broken flags disk) (sym broken);
        time = time;
        end = end_in_time (length old.history.entries) (length new.history.entries) new.entry.book.log.end more
            (subst (λ b. IfSome b.log.end (λ place. place ≤ last_start + 128 * length old.history.entries)) (sym book) sound.end);
        late = λ item there. late_still old aside item (memory_same old aside refl book) (late item there);
      })

  -- the log is as short as before
  pub memory_short : (old new : WorldOver H F) → new.entry.book ≡ old.entry.book → length old.history.entries ≤ length new.history.entries
      → IsShort (length old.history.entries) (seen old.entry.book.log.file) → IsShort (length new.history.entries) (seen new.entry.book.log.file)
  memory_short old new book more short =
      subst (λ b. IsShort (length new.history.entries) (seen b.log.file)) (sym book)
      (still_short (length old.history.entries) (length new.history.entries) (seen old.entry.book.log.file) more short)
