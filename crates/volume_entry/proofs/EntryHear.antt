-- For which manager's part an entry stands once an answer is heard.
use Rattle.std.proofs.Common.{◌≡◌, sym, ap, refl, subst, Result, Ok, Err}
use Rattle.std.specs.Prelude.{OnOk, OnErr}
use Rattle.disk_base.specs.Disk.{FileView}
use Rattle.unit_id.specs.Request.{Request, Answer}
use Rattle.volume_entry.specs.Manager.{Manager}
use Rattle.volume_entry.specs.ManagerStep.{hear}
use Rattle.volume_entry.specs.HeardMemory.{HeardMemory}
use Rattle.volume_entry.specs.HeardCalls.{Follows, Hears}
use Rattle.volume_entry.specs.TableParts.{shape_of}
use Rattle.volume_entry.specs.Book.{Keeps}
use Rattle.volume_entry.specs.Entry.{EntryOver, logged, Stands}
use Rattle.volume_entry.specs.declared.fault.EntryFault.{EntryFault}
use Rattle.volume_entry.proofs.EntrySteps.{with_heard}

-- what an answer doesn't change
record OnlyHears (old new : Manager) : Type 0 where
  pub logged_is : logged new ≡ logged old
  pub shut_is : new.is_shut ≡ old.is_shut
  pub doubt_is : new.doubt ≡ old.doubt

only_hears : (request : Request) (answer : Answer) (m : Manager) → OnlyHears m (hear request answer m)
only_hears (Request.List place number) (Answer.Listing said shown) m = record { logged_is = refl; shut_is = refl; doubt_is = refl }
only_hears (Request.Copy place bid) Answer.Done m = record { logged_is = refl; shut_is = refl; doubt_is = refl }
only_hears (Request.Copy place bid) Answer.Already m = record { logged_is = refl; shut_is = refl; doubt_is = refl }
only_hears (Request.Copy place bid) Answer.Deleted m = record { logged_is = refl; shut_is = refl; doubt_is = refl }
only_hears (Request.Mark place bid) Answer.Done m = record { logged_is = refl; shut_is = refl; doubt_is = refl }
only_hears (Request.Mark place bid) Answer.Already m = record { logged_is = refl; shut_is = refl; doubt_is = refl }
only_hears (Request.Fence place number) Answer.Done m = record { logged_is = refl; shut_is = refl; doubt_is = refl }
only_hears (Request.Release place) Answer.Done m = record { logged_is = refl; shut_is = refl; doubt_is = refl }
only_hears (Request.Release place) (Answer.Stale have) m = record { logged_is = refl; shut_is = refl; doubt_is = refl }
only_hears request answer m = record { logged_is = refl; shut_is = refl; doubt_is = refl }

module _ {E : Type 0} (seen : E → FileView) where
  still_kept : (entry : EntryOver E) (m n : Manager) → OnlyHears m n → Keeps seen entry.book (logged m) m.is_shut m.doubt → Keeps seen entry.book (logged n) n.is_shut n.doubt
  still_kept entry m n same k =
      subst (λ p. Keeps seen entry.book p n.is_shut n.doubt) (sym same.logged_is) (subst (λ b. Keeps seen entry.book (logged m) b n.doubt) (sym same.shut_is) (subst (Keeps seen entry.book (logged m) m.is_shut) (sym same.doubt_is) k))

  heard_stands : (entry : EntryOver E) (heard : HeardMemory) (request : Request) (answer : Answer) → Hears entry.book.part.homes entry.book.part.lock request answer entry.heard heard
      → (m : Manager) → Stands seen entry m → Stands seen (record { book = entry.book; heard = heard; broken = entry.broken }) (hear request answer m)
  heard_stands entry heard request answer hears m s = record {
    book = still_kept entry m (hear request answer m) (only_hears request answer m) s.book;
    heard = hears (shape_of entry.book.shape).total m (sym (ap (λ (p : Manager). p.homes) s.book.same)) (sym (ap (λ (p : Manager). p.lock) s.book.same)) s.heard;
  }

  -- of an entry and a memory behind the call, by what was answered
  module _ (inside entry : EntryOver E) (heard : HeardMemory) where
    pub hears_stands : (request : Request) (answer : Answer) (result : Result (Unit {0}) EntryFault) → inside ≡ entry → OnOk result (Hears inside.book.part.homes inside.book.part.lock request answer inside.heard heard)
        → OnOk result ((m : Manager) → Stands seen entry m → Stands seen (record { book = inside.book; heard = heard; broken = inside.broken }) (hear request answer m))
    hears_stands request answer (Ok done) is hears =
        subst (λ s. (m : Manager) → Stands seen s m → Stands seen (record { book = inside.book; heard = heard; broken = inside.broken }) (hear request answer m)) is (heard_stands inside heard request answer hears)
    hears_stands request answer (Err why) is hears = tt

    pub hears_nothing : (result : Result (Unit {0}) EntryFault) → inside ≡ entry → OnErr result (Follows (λ m. m) inside.heard heard)
        → OnErr result ((m : Manager) → Stands seen entry m → Stands seen (record { book = inside.book; heard = heard; broken = inside.broken }) m)
    hears_nothing (Ok done) is follows = tt
    hears_nothing (Err why) is follows = subst (λ s. (m : Manager) → Stands seen s m → Stands seen (record { book = inside.book; heard = heard; broken = inside.broken }) m) is (with_heard seen inside heard follows)
