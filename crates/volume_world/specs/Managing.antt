-- A step of the manager's part of a volume, whose log is started.
use Rattle.std.specs.Prelude.{ℕ, ◌≡◌, ◌≤◌, true, List, Result, IfOk}
use Rattle.disk_base.specs.Disk.{FileView, IsFile, Lasts}
use Rattle.volume_entry.specs.Manager.{ManagerRecord}
use Rattle.volume_entry.specs.Book.{CrashLeaves, EndGrows, item_size}
use Rattle.volume_entry.specs.Entry.{AnswersAs, EntryCall, EntryOver, Steps}
use Rattle.volume_entry.specs.Places.{GrantsPlaces}
use Rattle.volume_entry.specs.TableParts.{shape_of}
use Rattle.volume_entry.specs.declared.event.ManagerEvent.{ManagerEvent}
use Rattle.volume_entry.specs.declared.event.ManagerEvent.TheVariants as steps
use Rattle.volume_entry.specs.declared.event.ManagerReply.{ManagerReply}
use Rattle.volume_entry.specs.declared.fault.EntryFault.{EntryFault}
use Rattle.volume_world.specs.BlobStatus.{is_begun}
use Rattle.volume_world.specs.PutBook.{Books}
use Rattle.volume_world.specs.State.{Puts}
use Rattle.volume_world.specs.declared.puts.PutState.{PutState}

-- whether a blob was begun is tested by the book of puts before its deletion is asked for
abbrev pub IsTestedBy : List (ℕ × PutState) → ManagerEvent → Type 0
IsTestedBy book (steps.Ask bid) = (total : ℕ) (puts : Puts) → Books total book puts → is_begun (puts.status bid) ≡ true
IsTestedBy book event = Unit {0}

-- What is known of a step of the manager's part, whatever it answers: what it does, what it replies, and that the log takes one record at most,
-- with up to 122 bytes behind the gate and the length.
pub record StepsEntry {F : Type 0} (seen : F → FileView) (time : ℕ) (event : ManagerEvent) (old new : EntryOver F) (result : Result ManagerReply EntryFault) : Type 0 where
  pub call : EntryCall seen old new result
  pub steps : Steps seen time event old new result
  pub kinds : AnswersAs event old.book.log.end result
  pub places : IfOk result (GrantsPlaces old.book.vid (shape_of old.book.shape))
  pub is_file : IsFile (seen new.book.log.file)
  pub lasts : Lasts (seen old.book.log.file) (seen new.book.log.file)
  pub grows : EndGrows old.book.log.end new.book.log.end
  pub item : ManagerRecord
  pub small : item_size old.book.vid old.book.shape.mode item ≤ 122
  pub moments : CrashLeaves seen item old.book new.book
