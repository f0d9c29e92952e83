-- For which manager's part an entry stands after a swap, an unlock or a commit.
use Rattle.std.proofs.Common.{◌≡◌, ◌∙◌, sym, refl, subst, ℕ, Bool, false, Option, None, Some, Result, Ok, Err}
use Rattle.std.specs.Prelude.{IsSome}
use Rattle.disk_base.specs.Disk.{FileView}
use Rattle.code_mode.specs.VolumeShape.{VolumeShape}
use Rattle.volume_entry.specs.Manager.{ManagerRecord, Manager, written, in_doubt}
use Rattle.volume_entry.specs.ManagerStep.{commit_tests, commit_refusal, unlock_tests, unlock_refusal, swap_tests, swap_refusal, Commits, Unlocks, Swaps}
use Rattle.volume_entry.specs.Reply.{Reply}
use Rattle.volume_entry.specs.HeardMemory.{Remembers}
use Rattle.volume_entry.specs.HeardCalls.{Follows}
use Rattle.volume_entry.specs.TableParts.{shape_of}
use Rattle.volume_entry.proofs.BookLasts.{write_leaves}
use Rattle.volume_entry.specs.Book.{BookOver, Keeps, WritesRecord}
use Rattle.volume_entry.specs.Book as books
use Rattle.volume_entry.specs.Entry.{EntryOver, logged, Stands, reply_of, StepsTo, Steps, IsNoGrant, RefusesFor, Rules, Decides, Wrote, WritesStep}
use Rattle.volume_entry.proofs.EntrySteps.{logged_written, shut_written, doubt_written, doubt_heard, open_book, no_grant, refused_rules, free_rules, first_has}
use Rattle.volume_entry.specs.declared.event.ManagerEvent.{ManagerEvent}
use Rattle.volume_entry.specs.declared.event.ManagerReply.{ManagerReply}
use Rattle.volume_entry.specs.declared.fault.EntryFault.{EntryFault}
use Rattle.volume_entry.specs.declared.fault.EntryFault.TheVariants as faults

-- ---- refusals are their steps

pub commit_refused : (shape : VolumeShape) (bid : ℕ) (m : Manager) (r : Reply) → commit_refusal shape bid m ≡ Some r → Commits shape bid m r m
commit_refused shape bid m r h =
    first_has (λ x. commit_refusal shape bid m ≡ Some x → Commits shape bid m x m) (commit_tests shape bid m) r
    ((λ e. (e, refl)), ((λ e. (e, refl)), ((λ e. (e, refl)), ((λ e. (e, refl)), tt)))) h h

pub unlock_refused : (broken : ℕ → Bool) (task : ℕ) (m : Manager) (r : Reply) → unlock_refusal broken task m ≡ Some r → Unlocks broken task m r m
unlock_refused broken task m r h =
    first_has (λ x. unlock_refusal broken task m ≡ Some x → Unlocks broken task m x m) (unlock_tests broken task m) r
    ((λ e. (e, refl)), ((λ e. (e, refl)), ((λ e. (e, refl)), ((λ e. (e, refl)), tt)))) h h

pub swap_refused : (shape : VolumeShape) (broken : ℕ → Bool) (task : ℕ) (m : Manager) (r : Reply) → swap_refusal shape broken task m ≡ Some r → Swaps shape broken task m r m
swap_refused shape broken task m r h =
    first_has (λ x. swap_refusal shape broken task m ≡ Some x → Swaps shape broken task m x m) (swap_tests shape broken task m) r
    ((λ e. (e, refl)), ((λ e. (e, refl)), ((λ e. (e, refl)), ((λ e. (e, refl)), ((λ e. (e, refl)), ((λ e. (e, refl)), tt)))))) h h

module _ {E : Type 0} (seen : E → FileView) where
  -- ---- answers at once

  pub refused_for : (time : ℕ) (event : ManagerEvent) (refusal : Manager → Option Reply) (entry : EntryOver E) (reply : ManagerReply)
      → RefusesFor entry.book entry.heard refusal (Some reply)
      → ((m : Manager) (r : Reply) → refusal m ≡ Some r → StepsTo (shape_of entry.book.shape) entry.broken time event m r m)
      → IsSome entry.book.log.end → Rules seen time event refusal entry (Some (Ok reply))
  refused_for time event refusal entry reply refuses steps some = refused_rules seen time event refusal entry reply (λ m s. refuses m s.book.same s.heard) steps some

  pub free_for : (time : ℕ) (event : ManagerEvent) (refusal : Manager → Option Reply) (entry : EntryOver E)
      → RefusesFor entry.book entry.heard refusal None → IsSome entry.book.log.end → Rules seen time event refusal entry None
  free_for time event refusal entry refuses some = free_rules seen time event refusal entry (λ m s. refuses m s.book.same s.heard) some

  -- ---- a record is written, and memory follows

  module _ (old new : EntryOver E) (item : ManagerRecord) (broken : new.broken ≡ old.broken) where
    at_shape : (P : ℕ → Type 0) → new.book.shape ≡ old.book.shape → P (shape_of old.book.shape).total → P (shape_of new.book.shape).total
    at_shape P e p = subst (λ sh. P (shape_of sh).total) (sym e) p

    still : new.book.shape ≡ old.book.shape → new.heard ≡ old.heard → (n : Manager) → Remembers (shape_of old.book.shape).total old.heard n → Remembers (shape_of new.book.shape).total new.heard n
    still shape heard n r = at_shape (λ total. Remembers total new.heard n) shape (subst (λ h. Remembers (shape_of old.book.shape).total h n) (sym heard) r)

    pub done_writes : (done : Unit {0}) → Follows (written item) old.heard new.heard → WritesRecord seen item old.book new.book (Ok done) → WritesStep seen item old new (Ok done)
    done_writes done follows w = record {
      call = record { vid = w.vid; shape = w.shape; broken = broken; counts = w.counts; end = tt };
      told = λ m s is. record {
        book = subst (λ p. Keeps seen new.book p (written item m).is_shut (written item m).doubt) (sym (logged_written item m))
            (subst (λ (b : Bool). Keeps seen new.book (written item (logged m)) b (written item m).doubt) (sym (shut_written item m ∙ is))
            (subst (λ d. Keeps seen new.book (written item (logged m)) false d) (sym (doubt_written item m ∙ (s.book.open_ is).certain)) (w.told (logged m) (open_book seen old m s is))));
        heard = at_shape (λ total. Remembers total new.heard (written item m)) w.shape (follows (shape_of old.book.shape).total m s.heard);
      };
    }

    failed_stands : new.heard ≡ old.heard → new.book.shape ≡ old.book.shape → (m : Manager) → Stands seen old m → m.is_shut ≡ false → (why : EntryFault)
        → books.Wrote seen item (logged m) new.book (Err why) → Wrote seen item m new (Err why)
    failed_stands heard shape m s is faults.Fault k = record { book = k; heard = still shape heard (in_doubt item m) (doubt_heard item (shape_of old.book.shape).total old.heard m s.heard) }
    failed_stands heard shape m s is faults.Memory k = record {
      book = subst (λ (b : Bool). Keeps seen new.book (logged m) b m.doubt) (sym is) (subst (λ d. Keeps seen new.book (logged m) false d) (sym (s.book.open_ is).certain) k);
      heard = still shape heard m s.heard;
    }
    failed_stands heard shape m s is faults.Shut k = absurd k
    failed_stands heard shape m s is (faults.Spoiled place) k = absurd k

    pub failed_writes : (why : EntryFault) → new.heard ≡ old.heard → WritesRecord seen item old.book new.book (Err why) → WritesStep seen item old new (Err why)
    failed_writes why heard w = record {
      call = record { vid = w.vid; shape = w.shape; broken = broken; counts = w.counts; end = write_leaves seen item old.book new.book (Err why) w.ends };
      told = λ m s is. failed_stands heard w.shape m s is why (w.told (logged m) (open_book seen old m s is));
    }

  pub kept_writes : (old new : EntryOver E) (item : ManagerRecord) → new.broken ≡ old.broken → (result : Result (Unit {0}) EntryFault) → Follows (written item) old.heard old.heard → new.heard ≡ old.heard
      → WritesRecord seen item old.book new.book result → WritesStep seen item old new result
  kept_writes old new item broken (Ok done) kept heard w = done_writes old new item broken done (subst (λ h. Follows (written item) old.heard h) (sym heard) kept) w
  kept_writes old new item broken (Err why) kept heard w = failed_writes old new item broken why heard w

  -- ---- what a step answers once its record was to be written

  module _ (time : ℕ) (event : ManagerEvent) (free : Manager → Type 0) (old new : EntryOver E) (item : ManagerRecord) (decides : Decides seen time event free old None) where
    pub done_by : (reply : ManagerReply) → IsNoGrant reply → ((m : Manager) → free m → StepsTo (shape_of old.book.shape) old.broken time event m (reply_of (written item m) reply) (written item m))
        → (done : Unit {0}) → WritesStep seen item old new (Ok done) → Steps seen time event old new (Ok reply)
    done_by reply plain steps done w = λ m s.
        let d = decides m s in
        (d.0, record { then_ = written item m; step = steps m d.1; moves = no_grant seen old.book.vid old.broken (written item m) reply plain; stands = w.told m s d.0 })

    pub failed_by : (why : EntryFault) → ((m : Manager) → free m → StepsTo (shape_of old.book.shape) old.broken time event m Reply.Fault (in_doubt item m))
        → WritesStep seen item old new (Err why) → Steps seen time event old new (Err why)
    failed_by faults.Fault steps w = λ m s. let d = decides m s in (d.0, record { then_ = in_doubt item m; step = steps m d.1; stands = w.told m s d.0 })
    failed_by faults.Memory steps w = λ m s. let d = decides m s in w.told m s d.0
    failed_by faults.Shut steps w = λ m s. let d = decides m s in absurd (w.told m s d.0)
    failed_by (faults.Spoiled place) steps w = λ m s. let d = decides m s in absurd (w.told m s d.0)
