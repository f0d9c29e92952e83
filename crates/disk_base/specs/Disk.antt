-- What a file is seen as, what the calls on it do, and what a crash may leave of it.
use Rattle.std.specs.Prelude.{◌≡◌, ◌⊎◌, ◌↔◌, ℕ, ◌+◌, ◌-◌, ◌≤◌, min, max, Bool, true, List, ◌++◌, length, take, drop, Option, Some, is_some, Result, OnOk, OnErr, IfSome, IsSomeAnd}
use Rattle.disk_base.specs.Faults.{added, one_more, Rose}

-- ---- bytes

-- new bytes over the old ones from a place on, and past the end
abbrev pub overwritten : List ℕ → ℕ → List ℕ → List ℕ
overwritten old at bytes = take at old ++ (bytes ++ drop (at + length bytes) old)

-- n bytes were read from a place: as many as there is room for or as the file has there
pub record ReadsAt (n at : ℕ) (out bytes : List ℕ) : Type 0 where
  pub count : n ≡ min (length out) (length bytes - at)
  pub bytes_are : take n out ≡ take n (drop at bytes)

-- Any part of a write of n bytes was done: in its range and past the old end any bytes may stand, all others stay,
-- and the file ends somewhere from the old end up to the end of the write.
pub record IsTorn (at n : ℕ) (old new : List ℕ) : Type 0 where
  pub front : take at new ≡ take at old
  pub back : drop (at + n) new ≡ drop (at + n) old
  pub no_shorter : length old ≤ length new
  pub no_longer : length new ≤ max (length old) (at + n)

-- ---- what a crash may leave

-- a set of contents, each of which a crash may leave
abbrev pub Images : Type 1
Images = List ℕ → Type 0

-- the first set has nothing that the second hasn't
abbrev pub IsWithin : Images → Images → Type 0
IsWithin new old = (c : List ℕ) → new c → old c

-- both sets have the same contents
abbrev pub IsSameSet : Images → Images → Type 0
IsSameSet new old = (c : List ℕ) → new c ↔ old c

-- each content of the new set is one of the old set after a torn write of n bytes
abbrev pub TearsFrom : ℕ → ℕ → Images → Images → Type 0
TearsFrom at n old new = (c : List ℕ) → new c → (was : List ℕ) × old was × IsTorn at n was c

-- a crash leaves these bytes and no others
abbrev pub LeavesExactly : List ℕ → Images → Type 0
LeavesExactly bytes images = (c : List ℕ) → images c → c ≡ bytes

-- ---- a file

pub record FileView : Type 1 where
  -- the bytes that a read gives, where the file tells them
  pub content : Option (List ℕ)
  -- the contents that a crash now may leave
  pub images : Images
  -- the present moment
  pub clock : ℕ
  -- the contents that a crash might have left at some moment from that one on up to the present
  pub images_since : ℕ → Images
  -- up to where a write may end, in bytes from the file's start
  pub room : ℕ
  -- for how many more writes and syncs there is memory
  pub spare : ℕ
  -- how many calls were made on the device, and how often one failed
  pub calls : ℕ
  pub faults : ℕ
  -- none of its calls ever fails
  pub is_quiet : Bool

-- what is true of every file
pub record IsFile (file : FileView) : Type 0 where
  -- a crash may leave what a read gives
  pub content_is_image : IfSome file.content file.images
  -- the present moment is one of those since an earlier one, and since the present moment there is no other
  pub present_counts : (t : ℕ) (c : List ℕ) → t ≤ file.clock → file.images c → file.images_since t c
  pub present_alone : (c : List ℕ) → file.images_since file.clock c → file.images c
  -- a file that never fails has never failed
  pub quiet_has_no_fault : file.is_quiet ≡ true → file.faults ≡ 0

-- ---- time

-- Time went on in a call: what a crash since a moment might have left is what one might have left before, or may leave now.
pub record GoesOn (old new : FileView) : Type 0 where
  pub never_falls : old.clock ≤ new.clock
  pub since_then : (t : ℕ) (c : List ℕ) → t ≤ old.clock → new.images_since t c → old.images_since t c ⊎ new.images c
  pub stays : (t : ℕ) (c : List ℕ) → t ≤ old.clock → old.images_since t c → new.images_since t c

-- At every moment from the old file to the new one, both ends counted, a crash leaves a content that has P.
pub record AtEachMoment (old new : FileView) (P : Images) : Type 0 where
  pub never_falls : old.clock ≤ new.clock
  pub each : (c : List ℕ) → new.images_since old.clock c → P c
  pub earlier : (t : ℕ) (c : List ℕ) → t ≤ old.clock → new.images_since t c → old.images_since t c ⊎ P c

-- ---- calls

-- for how many writes and syncs `grow` makes spare
abbrev pub ample_spare : ℕ
ample_spare = 8

-- what stays or goes up however many calls are made
pub record Lasts (old new : FileView) : Type 0 where
  pub faults : old.faults ≤ new.faults
  pub room : old.room ≤ new.room
  pub quiet : new.is_quiet ≡ old.is_quiet
  pub tells : is_some new.content ≡ is_some old.content

-- so many calls were made, or fewer
abbrev pub CallsUpTo : ℕ → FileView → FileView → Type 0
CallsUpTo count old new = (n : ℕ) × (n ≤ count) × (new.calls ≡ added old.calls n)

-- One call on the device, which uses so much spare at most: it is counted, and it fails exactly where the count of
-- faults rises in it.
pub record Call {T E : Type 0} (spent : ℕ) (old new : FileView) (result : Result T E) : Type 0 where
  pub lasts : Lasts old new
  pub counted : new.calls ≡ one_more old.calls
  pub answered : OnOk result (new.faults ≡ old.faults)
  pub failed : OnErr result (Rose old.faults new.faults)
  pub time : GoesOn old new
  pub spare : old.spare ≤ new.spare + spent

-- Calls one after the other, as many as this where all are answered by Ok, and otherwise up to the one that failed.
pub record Calls {T E : Type 0} (count : ℕ) (old new : FileView) (result : Result T E) : Type 0 where
  pub lasts : Lasts old new
  pub counted : OnOk result (new.calls ≡ added old.calls count)
  pub no_more : OnErr result (CallsUpTo count old new)
  pub answered : OnOk result (new.faults ≡ old.faults)
  pub failed : OnErr result (Rose old.faults new.faults)
  pub spare : old.spare ≤ new.spare + count

-- Calls that write nothing: the file tells the same, and a crash at any moment leaves what one might have left before.
pub record OnlyReads (old new : FileView) : Type 0 where
  pub same : new.content ≡ old.content
  pub within : IsWithin new.images old.images
  pub moments : AtEachMoment old new old.images

-- one call that only reads
pub record Reads {T E : Type 0} (old new : FileView) (result : Result T E) : Type 0 where
  pub call : Call 0 old new result
  pub only : OnlyReads old new

-- What a call that asks for memory leaves, up to an end: all but room and spare is as it was.
pub record Grows {T E : Type 0} (end : ℕ) (old new : FileView) (result : Result T E) : Type 0 where
  pub room_up_to : OnOk result (end ≤ new.room)
  pub spare_for : OnOk result (ample_spare ≤ new.spare)
  pub room : old.room ≤ new.room
  pub spare : old.spare ≤ new.spare
  pub same : new.content ≡ old.content
  pub same_images : IsSameSet new.images old.images
  pub same_clock : new.clock ≡ old.clock
  pub same_past : (t : ℕ) → IsSameSet (new.images_since t) (old.images_since t)
  pub calls : new.calls ≡ old.calls
  pub faults : new.faults ≡ old.faults
  pub quiet : new.is_quiet ≡ old.is_quiet

-- A write of bytes at a place. At Ok they stand there, and one that failed may have done any part of its work.
pub record Writes {T E : Type 0} (at : ℕ) (bytes : List ℕ) (old new : FileView) (result : Result T E) : Type 0 where
  pub call : Call 1 old new result
  pub written : OnOk result (IfSome old.content (λ was. new.content ≡ Some (overwritten was at bytes)))
  pub torn : OnErr result (IfSome old.content (λ was. IsSomeAnd new.content (IsTorn at (length bytes) was)))
  pub tears : TearsFrom at (length bytes) old.images new.images

-- A sync. At Ok a crash leaves what a read gives. One that failed may have settled any part of what was written.
pub record Syncs {T E : Type 0} (old new : FileView) (result : Result T E) : Type 0 where
  pub call : Call 1 old new result
  pub settled : OnOk result (IfSome old.content (λ bytes. LeavesExactly bytes new.images))
  pub same : new.content ≡ old.content
  pub within : IsWithin new.images old.images
