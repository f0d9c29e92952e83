-- For which manager's part an entry stands after a start.
use Rattle.std.proofs.Common.{◌≡◌, sym, ap, refl, subst, ℕ, Bool, true, false, Option, None, Some, Ok, Err}
use Rattle.disk_base.specs.Disk.{FileView}
use Rattle.volume_entry.specs.Manager.{ManagerRecord, Manager}
use Rattle.volume_entry.specs.HeardMemory.{HeardMemory, Remembers}
use Rattle.volume_entry.specs.TableParts.{shape_of}
use Rattle.volume_entry.specs.Book.{Keeps, CountsFault}
use Rattle.volume_entry.specs.BookStart.{found_part, Started, StartsBook}
use Rattle.volume_entry.specs.Entry.{EntryOver, logged, Stands, EntryCall, restarted, StartsTo, Restarts}
use Rattle.volume_entry.specs.declared.fault.EntryFault.{EntryFault}
use Rattle.volume_entry.specs.declared.fault.EntryFault.TheVariants as faults
use Rattle.volume_entry.proofs.EntrySteps.{logged_written}

found_logged : (found : Bool) (doubt : Option ManagerRecord) (m : Manager) → logged (found_part found doubt m) ≡ found_part found doubt (logged m)
found_logged true (Some item) m = logged_written item m
found_logged true None m = refl
found_logged false doubt m = refl

shut_heard : (total : ℕ) (heard : HeardMemory) (m : Manager) → Remembers total heard m → Remembers total heard (record m { is_shut = true })
shut_heard total heard m r = record { listings = record { enough = r.listings.enough; shows = r.listings.shows }; moves = r.moves; marks = r.marks }

module _ {E : Type 0} (seen : E → FileView) (old new : EntryOver E) where
  restarts_ok : (found : Bool) (heard : HeardMemory) → new.heard ≡ heard → StartsBook seen old.book new.book (Ok (found, heard)) → Restarts seen old new (Ok found)
  restarts_ok found heard same starts = λ m s.
      let k = starts.told (logged m) m.is_shut m.doubt s.book in
      let book : Keeps seen new.book (logged (restarted found m)) false None = subst (λ p. Keeps seen new.book p false None) (sym (found_logged found m.doubt m)) k.1 in (
        k.0,
        record {
          book = book;
          heard = subst (λ h. Remembers (shape_of new.book.shape).total h (restarted found m)) (sym same)
              (starts.heard (restarted found m) refl refl (sym (ap (λ (n : Manager). n.lock) book.same)));
        },
      )

  module _ (heard : new.heard ≡ old.heard) (shape : new.book.shape ≡ old.book.shape) where
    memory : (n : Manager) → Remembers (shape_of old.book.shape).total old.heard n → Remembers (shape_of new.book.shape).total new.heard n
    memory n r = subst (λ h. Remembers (shape_of new.book.shape).total h n) (sym heard) (subst (λ sh. Remembers (shape_of sh).total old.heard n) (sym shape) r)

    refused_by : (why : EntryFault) (m : Manager) → Stands seen old m → Started seen (logged m) m.is_shut m.doubt new.book (Err why) → StartsTo seen m new (Err why)
    refused_by faults.Fault m s k = record { book = k; heard = memory (record m { is_shut = true }) (shut_heard (shape_of old.book.shape).total old.heard m s.heard) }
    refused_by faults.Memory m s k = record { book = k; heard = memory m s.heard }
    refused_by (faults.Spoiled place) m s k = (k.0, record { book = k.1; heard = memory (record m { is_shut = true }) (shut_heard (shape_of old.book.shape).total old.heard m s.heard) })
    refused_by faults.Shut m s k = absurd k

  counts_as : (why : EntryFault) (a b : ℕ) → CountsFault {T = Bool × HeardMemory} a b (Err why) → CountsFault {T = Bool} a b (Err why)
  counts_as faults.Fault a b h = h
  counts_as faults.Memory a b h = h
  counts_as faults.Shut a b h = h
  counts_as (faults.Spoiled place) a b h = h

  pub started_call : (found : Bool) (heard : HeardMemory) → new.broken ≡ old.broken → StartsBook seen old.book new.book (Ok (found, heard)) → EntryCall seen old new (Ok found)
  started_call found heard broken starts = record { vid = starts.vid; shape = starts.shape; broken = broken; counts = starts.counts; end = tt }

  pub refused_call : (why : EntryFault) → new.broken ≡ old.broken → StartsBook seen old.book new.book (Err why) → EntryCall seen {T = Bool} old new (Err why)
  refused_call why broken starts = record { vid = starts.vid; shape = starts.shape; broken = broken; counts = counts_as why (seen old.book.log.file).faults (seen new.book.log.file).faults starts.counts; end = starts.end }

  pub started_told : (found : Bool) (heard : HeardMemory) → new.heard ≡ heard → StartsBook seen old.book new.book (Ok (found, heard)) → Restarts seen old new (Ok found)
  started_told = restarts_ok

  pub refused_told : (why : EntryFault) → new.heard ≡ old.heard → StartsBook seen old.book new.book (Err why) → Restarts seen old new (Err why)
  refused_told why heard starts = λ m s. refused_by heard starts.shape why m s (starts.told (logged m) m.is_shut m.doubt s.book)
