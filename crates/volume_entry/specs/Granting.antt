-- What a lock grants, as code shows it, and what becomes of an entry whose grant is written.
use Rattle.std.specs.Prelude.{ℕ, ◌≡◌, ◌≤◌, Bool, false, List, map, Option, None, Some, Result, Ok, Err}
use Rattle.disk_base.specs.Disk.{FileView}
use Rattle.unit_id.specs.Lists.{IsIn}
use Rattle.unit_id.specs.declared.targets.Target.{Target}
use Rattle.code_mode.specs.VolumeShape.{last_epoch}
use Rattle.volume_entry.specs.Manager.{Grant, Lock, ManagerRecord, Manager, transfers_of, written, in_doubt}
use Rattle.volume_entry.specs.ManagerStep.{grants_of}
use Rattle.volume_entry.specs.View.{moves_shown}
use Rattle.volume_entry.specs.HeardMemory.{HeardMove}
use Rattle.volume_entry.specs.HeardCalls.{AreFresh}
use Rattle.volume_entry.specs.Entry.{EntryOver, EntryCall, Stands, is_broken}
use Rattle.volume_entry.specs.declared.event.ManagerReply.{ManagerReply}
use Rattle.volume_entry.specs.declared.event.ManagerReply.TheVariants as replies
use Rattle.volume_entry.specs.declared.fault.EntryFault.{EntryFault}
use Rattle.volume_entry.specs.declared.fault.EntryFault.TheVariants as faults

-- the number of a lock
abbrev pub number_of : Option Lock → ℕ
number_of None = 0
number_of (Some lock) = lock.number

-- what the lock of a volume's part grants
abbrev pub grant_shown : ℕ → List Bool → Manager → ManagerReply
grant_shown vid broken m = replies.Granted (number_of m.lock) (moves_shown vid (is_broken broken) false (transfers_of m.lock))

-- the epochs of these targets' grants aren't beyond the last
abbrev pub AreWithinLast : List ℕ → List Target → Type 0
AreWithinLast greatest targets = (t : Grant) → IsIn t (grants_of greatest targets) → t.dest.epoch ≤ last_epoch

-- memory for a lock: of each index that is granted a move, of which nothing was heard
abbrev pub HaveMoves : ManagerRecord → List HeardMove → Type 0
HaveMoves (ManagerRecord.Locked task number grants) moves = AreFresh (map (λ (t : Grant). t.index) grants) moves
HaveMoves _ moves = ⊥

module _ {E : Type 0} (seen : E → FileView) where
  -- what becomes of a grant that is to be written
  abbrev pub WroteGrant : ManagerRecord → Manager → EntryOver E → EntryOver E → Result ManagerReply EntryFault → Type 0
  WroteGrant item m old new (Ok reply) = (reply ≡ grant_shown old.book.vid old.broken (written item m)) × Stands seen new (written item m)
  WroteGrant item m old new (Err faults.Fault) = Stands seen new (in_doubt item m)
  WroteGrant item m old new (Err faults.Memory) = Stands seen new m
  WroteGrant item m old new (Err _) = ⊥

  pub record WritesGrant (item : ManagerRecord) (old new : EntryOver E) (result : Result ManagerReply EntryFault) : Type 0 where
    pub call : EntryCall seen old new result
    pub told : (m : Manager) → Stands seen old m → m.is_shut ≡ false → WroteGrant item m old new result
