-- What is known of a file in a folder: how often it was called, and how often a call failed. Of its content nothing is told.
use Rattle.std.specs.Prelude.{ℕ, ◌≡◌, ◌^◌, ◌-◌, Bool, true, false, ◌||◌, is_err, None, Result, Ok, Err}
use Rattle.disk_base.specs.Disk.{FileView, IsFile, ample_spare}
use Rattle.disk_base.specs.Faults.{one_more}
use Rattle.disk_base.specs.declared.fault.Failed.{Failed}
use Rattle.dir_farm.specs.declared.dir_file.FileCounts.{FileCounts}

-- A crash may leave anything, now and at each moment before. There is room for every write, and spare that is never used up.
abbrev pub file_view : FileCounts → FileView
file_view file = record {
  content = None;
  images = λ c. Unit {0};
  clock = 0;
  images_since = λ t c. Unit {0};
  room = 2 ^ 64 - 1;
  spare = ample_spare;
  calls = file.calls;
  faults = file.faults;
  is_quiet = false;
}

-- how often a call has failed, with this one
abbrev pub faults_after : {T : Type 0} → Result T Failed → ℕ → ℕ
faults_after (Ok _) faults = faults
faults_after (Err _) faults = one_more faults

-- a call on a lost file fails
abbrev pub FailsIf : {T : Type 0} → Bool → Result T Failed → Type 0
FailsIf true (Ok _) = ⊥
FailsIf lost result = Unit {0}

-- one call more, which failed or not
pub record Counts {T : Type 0} (old new : FileCounts) (result : Result T Failed) : Type 0 where
  pub calls : new.calls ≡ one_more old.calls
  pub faults : new.faults ≡ faults_after result old.faults
  pub lost : new.is_lost ≡ old.is_lost
  pub fails : FailsIf old.is_lost result

-- a sync that failed loses the file
pub record CountsSync {T : Type 0} (old new : FileCounts) (result : Result T Failed) : Type 0 where
  pub calls : new.calls ≡ one_more old.calls
  pub faults : new.faults ≡ faults_after result old.faults
  pub lost : new.is_lost ≡ (old.is_lost || is_err result)
  pub fails : FailsIf old.is_lost result

-- it is a file as every file is
pub is_file : (file : FileCounts) → IsFile (file_view file)
is_file file = record {
  content_is_image = tt;
  present_counts = λ t c le left. tt;
  present_alone = λ c left. tt;
  quiet_has_no_fault = λ never. absurd (cc never);
}
