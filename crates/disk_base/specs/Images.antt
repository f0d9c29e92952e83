-- A file in memory: what was written since its last sync, what it held at each sync before, and what a crash leaves.
use Rattle.std.specs.Prelude.{◌≡◌, ◌⊎◌, ℕ, ◌+◌, ◌-◌, ◌≤◌, min, max, Bool, true, not, ◌&&◌, nat_lt, nat_le, if◌then◌else◌, List, [], ◌∷◌, length, take, drop, slice_index, Option, Some, None, bit_xor, ◌==◌}
use Rattle.std.specs.List.{list_any}
use Rattle.std.specs.Prelude.{IfSome, refl}
use Rattle.std.proofs.Common.{inl, inr, subst, arith}
use Rattle.disk_base.specs.Faults.{Plan, unused, fails_next, after_call, is_quiet, quiet_is_zero}
use Rattle.disk_base.specs.Disk.{overwritten, ample_spare, FileView, IsFile}

-- a range of bytes that was written
pub record Range : Type 0 where
  pub at : ℕ
  pub count : ℕ

abbrev pub covers : ℕ → Range → Bool
covers place range = nat_le range.at place && nat_lt place (range.at + range.count)

-- The time from one sync to the next: the bytes that the file has, the end that it had at the sync before, and the
-- ranges that were written since.
pub record Epoch : Type 0 where
  pub bytes : List ℕ
  pub settled_end : ℕ
  pub written : List Range

-- the byte at this place was there at the last sync and wasn't written since
abbrev pub is_settled : Epoch → ℕ → Bool
is_settled epoch place = nat_lt place epoch.settled_end && not (list_any (covers place) epoch.written)

-- a crash in this epoch may leave these bytes: each settled one stays, and the end is somewhere from the settled one on
pub record IsImage (epoch : Epoch) (c : List ℕ) : Type 0 where
  pub no_shorter : min epoch.settled_end (length epoch.bytes) ≤ length c
  pub no_longer : length c ≤ length epoch.bytes
  pub stays : (place : ℕ) → is_settled epoch place ≡ true → slice_index c place ≡ slice_index epoch.bytes place

-- A file in memory. Its past is the epochs that a sync ended, the latest first. A lying file has the places at which
-- each read has one bit wrong, and tells nothing.
pub record FileState : Type 0 where
  pub plan : Plan
  pub lies : Option (List ℕ)
  pub present : Epoch
  pub past : List Epoch
  pub room : ℕ
  pub spare : ℕ

-- a fact that a lying file makes no claim of
abbrev pub UnlessLying : Option (List ℕ) → Type 0 → Type 0
UnlessLying None P = P
UnlessLying (Some _) P = Unit {0}

-- what a file tells of its content
abbrev pub told : Option (List ℕ) → List ℕ → Option (List ℕ)
told None bytes = Some bytes
told (Some _) bytes = None

abbrev pub content_of : FileState → Option (List ℕ)
content_of file = told file.lies file.present.bytes

-- the clock counts the epochs that ended
abbrev pub moment_of : FileState → ℕ
moment_of file = length file.past

abbrev pub IsImageOfSome : List Epoch → List ℕ → Type 0
IsImageOfSome [] c = ⊥
IsImageOfSome (epoch ∷ epochs) c = IsImage epoch c ⊎ IsImageOfSome epochs c

-- what a crash may leave now, and what one might have left since that many epochs had ended
abbrev pub MayLeave : FileState → List ℕ → Type 0
MayLeave file c = UnlessLying file.lies (IsImage file.present c)

abbrev pub LeftSince : FileState → ℕ → List ℕ → Type 0
LeftSince file t c = UnlessLying file.lies (IsImage file.present c ⊎ IsImageOfSome (take (moment_of file - t) file.past) c)

-- a byte as a lying file reads it at this place: wrong in its lowest bit where it lies
abbrev pub misread_byte : List ℕ → ℕ → ℕ → ℕ
misread_byte lies place byte = if list_any (λ lie. lie == place) lies then bit_xor byte 1 else byte

-- the bytes from this place on as a lying file reads them
abbrev pub misread : List ℕ → ℕ → List ℕ → List ℕ
misread lies place [] = []
misread lies place (x ∷ xs) = misread_byte lies place x ∷ misread lies (place + 1) xs

abbrev pub read_of : Option (List ℕ) → ℕ → List ℕ → List ℕ
read_of None place bytes = bytes
read_of (Some lies) place bytes = misread lies place bytes

-- the bytes from this place on, each that isn't settled replaced by the next byte of the choice, or by zero
abbrev pub chosen : Epoch → ℕ → List ℕ → List ℕ → List ℕ
chosen epoch place [] choice = []
chosen epoch place (x ∷ xs) choice = if is_settled epoch place then x ∷ chosen epoch (place + 1) xs choice else slice_index choice 0 ∷ chosen epoch (place + 1) xs (drop 1 choice)

-- ---- what the calls do

-- an empty file, all of it settled
abbrev pub settled_epoch : List ℕ → Epoch
settled_epoch bytes = record { bytes = bytes; settled_end = length bytes; written = [] }

abbrev pub empty_file : List ℕ → Option (List ℕ) → FileState
empty_file fails lies = record { plan = unused fails; lies = lies; present = settled_epoch []; past = []; room = 0; spare = 0 }

-- room up to an end, and spare
abbrev pub after_grow : ℕ → FileState → FileState
after_grow end file = record file { room = max file.room end; spare = ample_spare }

-- one more call was counted
abbrev pub counted : FileState → FileState
counted file = record file { plan = after_call (fails_next file.plan) file.plan }

-- A write, whether it is answered by Ok or not: all of it was done, and none of it is settled. What is written past
-- the end of a file that doesn't tell its end stands at its end.
abbrev pub after_write : ℕ → List ℕ → FileState → FileState
after_write at bytes file =
    let start = min at (length file.present.bytes) in
    record (counted file) {
      present = record file.present {
        bytes = overwritten file.present.bytes start bytes;
        written = record { at = start; count = length bytes } ∷ file.present.written;
      };
      spare = file.spare - 1;
    }

-- a sync that is answered by Ok: the epoch ends
abbrev pub after_sync : FileState → FileState
after_sync file = record (counted file) {
  present = settled_epoch file.present.bytes;
  past = file.present ∷ file.past;
  spare = file.spare - 1;
}

-- a crash, of which nothing is remembered
abbrev pub after_crash : List ℕ → FileState → FileState
after_crash choice file = record file { present = settled_epoch (chosen file.present 0 file.present.bytes choice); past = [] }

-- ---- a file in memory as a file

abbrev pub view_of : FileState → FileView
view_of file = record {
  content = content_of file;
  images = MayLeave file;
  clock = moment_of file;
  images_since = LeftSince file;
  room = file.room;
  spare = file.spare;
  calls = file.plan.made;
  faults = file.plan.faults;
  is_quiet = is_quiet file.plan;
}

tells_image : (lies : Option (List ℕ)) (epoch : Epoch) → IfSome (told lies epoch.bytes) (λ c. UnlessLying lies (IsImage epoch c))
tells_image None epoch = record { no_shorter = omega arith; no_longer = omega arith; stays = λ place settled. refl }
tells_image (Some lies) epoch = tt

content_is_image : (file : FileState) → IfSome (content_of file) (MayLeave file)
content_is_image file = tells_image file.lies file.present

counts : (lies : Option (List ℕ)) (P Q : Type 0) → UnlessLying lies P → UnlessLying lies (P ⊎ Q)
counts None P Q is = inl is
counts (Some lies) P Q is = tt

present_counts : (file : FileState) (t : ℕ) (c : List ℕ) → t ≤ moment_of file → MayLeave file c → LeftSince file t c
present_counts file t c earlier is = counts file.lies (IsImage file.present c) (IsImageOfSome (take (moment_of file - t) file.past) c) is

none_since : (epochs : List Epoch) (n : ℕ) (c : List ℕ) → n ≡ 0 → IsImageOfSome (take n epochs) c → ⊥
none_since epochs n c none is = subst (λ k. IsImageOfSome (take k epochs) c) none is

alone : (lies : Option (List ℕ)) (P Q : Type 0) → (Q → ⊥) → UnlessLying lies (P ⊎ Q) → UnlessLying lies P
alone None P Q never (inl is) = is
alone None P Q never (inr is) = absurd (never is)
alone (Some lies) P Q never is = tt

present_alone : (file : FileState) (c : List ℕ) → LeftSince file (moment_of file) c → MayLeave file c
present_alone file c is = alone file.lies (IsImage file.present c) (IsImageOfSome (take (moment_of file - moment_of file) file.past) c) (none_since file.past (moment_of file - moment_of file) c (omega arith)) is

-- what is true of every file is true of it
pub is_file : (file : FileState) → IsFile (view_of file)
is_file file = record {
  content_is_image = content_is_image file;
  present_counts = present_counts file;
  present_alone = present_alone file;
  quiet_has_no_fault = quiet_is_zero file.plan;
}
