-- For which manager's part an entry stands after a lock or a new destination is granted.
use Rattle.std.proofs.Common.{◌≡◌, ◌∙◌, sym, ap, refl, eq-eqb, subst, ℕ, Bool, true, false, List, map, Option, None, Some, Result, Ok, Err}
use Rattle.std.specs.Prelude.{is_none}
use Rattle.disk_base.specs.Disk.{FileView}
use Rattle.code_mode.specs.VolumeShape.{VolumeShape}
use Rattle.unit_id.specs.declared.targets.Target.{Target}
use Rattle.unit_id.proofs.Tables.{all_fail}
use Rattle.volume_entry.specs.Manager.{Grant, Lock, ManagerRecord, Manager, has_number, transfers_of, redirected_lock, written, in_doubt}
use Rattle.volume_entry.specs.ManagerStep.{grant_of, lock_tests, lock_refusal, lock_record, Locks, retarget_tests, retarget_refusal, retarget_record, Retargets}
use Rattle.volume_entry.specs.Reply.{Reply}
use Rattle.volume_entry.specs.HeardMemory.{HeardMove, HeardMemory, Remembers}
use Rattle.volume_entry.specs.HeardCalls.{AreFresh, Follows}
use Rattle.volume_entry.specs.TableParts.{shape_of}
use Rattle.volume_entry.proofs.BookLasts.{leaves_same, write_leaves}
use Rattle.volume_entry.specs.Book.{Keeps, CountsFault, WritesRecord}
use Rattle.volume_entry.specs.Book as books
use Rattle.volume_entry.specs.Entry.{EntryOver, logged, is_broken, Stands, reply_of, ShowsMoves, StepsTo, StepsBy, Steps, RefusesBy, Rules, Wrote, WritesStep}
use Rattle.volume_entry.specs.Granting.{HaveMoves, number_of, grant_shown, WroteGrant, WritesGrant}
use Rattle.volume_entry.specs.declared.event.ManagerEvent.{ManagerEvent}
use Rattle.volume_entry.specs.declared.event.ManagerEvent.TheVariants as events
use Rattle.volume_entry.specs.declared.event.ManagerReply.{ManagerReply}
use Rattle.volume_entry.specs.declared.fault.EntryFault.{EntryFault}
use Rattle.volume_entry.specs.declared.fault.EntryFault.TheVariants as faults
use Rattle.volume_entry.proofs.EntrySteps.{logged_written, shut_written, doubt_written, doubt_heard, open_book, first_has}

-- ---- refusals

pub lock_refused : (broken : ℕ → Bool) (time task : ℕ) (targets : List Target) (m : Manager) (r : Reply) → lock_refusal broken time targets m ≡ Some r → Locks broken time task targets m r m
lock_refused broken time task targets m r h =
    first_has (λ x. lock_refusal broken time targets m ≡ Some x → Locks broken time task targets m x m) (lock_tests broken time targets m) r
    ((λ e. (e, refl)), ((λ e. (e, refl)), ((λ e. (e, refl)), ((λ e. (e, refl)), ((λ e. (e, refl)), tt))))) h h

pub retarget_refused : (broken : ℕ → Bool) (task index disk : ℕ) (m : Manager) (r : Reply) → retarget_refusal broken task index disk m ≡ Some r → Retargets broken task index disk m r m
retarget_refused broken task index disk m r h =
    first_has (λ x. retarget_refusal broken task index disk m ≡ Some x → Retargets broken task index disk m x m) (retarget_tests broken task index disk m) r
    ((λ e. (e, refl)), ((λ e. (e, refl)), ((λ e. (e, refl)), ((λ e. (e, refl)), ((λ e. (e, refl)), ((λ e. (e, refl)), ((λ e. (e, refl)), ((λ e. (e, refl)), tt)))))))) h h

pub none_refuses : (reply : Option ManagerReply) (refusal : Option Reply) → RefusesBy reply refusal → reply ≡ None → refusal ≡ None
none_refuses None refusal h e = h
none_refuses (Some reply) refusal h e = cc

-- ---- grants

-- memory for a lock follows its record
pub locked_follows : (item : ManagerRecord) (moves : List HeardMove) (old new : HeardMemory) → HaveMoves item moves
    → ((grants : List Grant) → AreFresh (map (λ (t : Grant). t.index) grants) moves → (task number : ℕ) → Follows (written (ManagerRecord.Locked task number grants)) old new) → Follows (written item) old new
locked_follows (ManagerRecord.Locked task number grants) moves old new h follows = follows grants h task number
locked_follows _ moves old new h follows = absurd h

own_number : (lock : Option Lock) (grant : Grant) → is_none lock ≡ false → has_number lock (number_of (redirected_lock grant lock)) ≡ true
own_number None grant h = cc
own_number (Some lock) grant h = eq-eqb lock.number lock.number refl

-- what a step does that grants what its record says
pub record GrantsBy (shape : VolumeShape) (broken : List Bool) (time : ℕ) (event : ManagerEvent) (item : Manager → ManagerRecord) (refusal : Manager → Option Reply) : Type 0 where
  pub same : (m : Manager) → item (logged m) ≡ item m
  pub fails : (m : Manager) → refusal m ≡ None → StepsTo shape broken time event m Reply.Fault (in_doubt (item m) m)
  pub grants : (m : Manager) → refusal m ≡ None
      → StepsTo shape broken time event m (Reply.Granted (number_of (written (item m) m).lock) (transfers_of (written (item m) m).lock)) (written (item m) m)

pub lock_grants : (shape : VolumeShape) (broken : List Bool) (time task : ℕ) (targets : List Target) → GrantsBy shape broken time (events.Lock task targets) (lock_record task targets) (lock_refusal (is_broken broken) time targets)
lock_grants shape broken time task targets = record { same = λ m. refl; fails = λ m h. (h, refl); grants = λ m h. (h, refl, refl, refl) }

pub retarget_grants : (shape : VolumeShape) (broken : List Bool) (time task index disk : ℕ) → GrantsBy shape broken time (events.Retarget task index disk) (retarget_record index disk) (retarget_refusal (is_broken broken) task index disk)
retarget_grants shape broken time task index disk = record {
  same = λ m. refl;
  fails = λ m h. (h, refl);
  grants = λ m h.
      let fails = all_fail (retarget_tests (is_broken broken) task index disk m) h in
      (h, own_number m.lock (grant_of m.greatest (record { index = index; disk = disk })) fails.0, refl, refl);
}

module _ {E : Type 0} (seen : E → FileView) where
  -- what is refused by the records is refused of each manager's part for which the entry stands
  pub refuses_each : (entry : EntryOver E) (refusal : Manager → Option Reply) (reply : Option ManagerReply) → ((m : Manager) → refusal (logged m) ≡ refusal m) → RefusesBy reply (refusal entry.book.part)
      → (m : Manager) → Stands seen entry m → RefusesBy reply (refusal m)
  refuses_each entry refusal reply same h m s = subst (RefusesBy reply) (ap refusal s.book.same ∙ same m) h

  -- ---- a record is written, and memory follows

  pub followed_step : (old new : EntryOver E) (item : ManagerRecord) → Follows (written item) old.heard new.heard → new.broken ≡ old.broken → WritesRecord seen item old.book new.book (Ok tt)
      → WritesStep seen item old new (Ok tt)
  followed_step old new item follows broken w = record {
    call = record { vid = w.vid; shape = w.shape; broken = broken; counts = w.counts; end = tt };
    told = λ m s is. record {
      book = subst (λ p. Keeps seen new.book p (written item m).is_shut (written item m).doubt) (sym (logged_written item m))
          (subst (λ (b : Bool). Keeps seen new.book (written item (logged m)) b (written item m).doubt) (sym (shut_written item m ∙ is))
          (subst (λ d. Keeps seen new.book (written item (logged m)) false d) (sym (doubt_written item m ∙ (s.book.open_ is).certain)) (w.told (logged m) (open_book seen old m s is))));
      heard = subst (λ sh. Remembers (shape_of sh).total new.heard (written item m)) (sym w.shape) (follows (shape_of old.book.shape).total m s.heard);
    };
  }

  -- .. or isn't written, and memory stays
  module _ (old new : EntryOver E) (item : ManagerRecord) (heard : new.heard ≡ old.heard) (shape : new.book.shape ≡ old.book.shape) (m : Manager) (s : Stands seen old m) (is : m.is_shut ≡ false) where
    memory : (n : Manager) → Remembers (shape_of old.book.shape).total old.heard n → Remembers (shape_of new.book.shape).total new.heard n
    memory n r = subst (λ h. Remembers (shape_of new.book.shape).total h n) (sym heard) (subst (λ sh. Remembers (shape_of sh).total old.heard n) (sym shape) r)

    unwritten : (why : EntryFault) → books.Wrote seen item (logged m) new.book (Err why) → Wrote seen item m new (Err why)
    unwritten faults.Fault k = record { book = k; heard = memory (in_doubt item m) (doubt_heard item (shape_of old.book.shape).total old.heard m s.heard) }
    unwritten faults.Memory k = record {
      book = subst (λ (b : Bool). Keeps seen new.book (logged m) b m.doubt) (sym is) (subst (λ d. Keeps seen new.book (logged m) false d) (sym (s.book.open_ is).certain) k);
      heard = memory m s.heard;
    }
    unwritten faults.Shut k = absurd k
    unwritten (faults.Spoiled place) k = absurd k

  pub unwritten_step : (old new : EntryOver E) (item : ManagerRecord) (why : EntryFault) → new.heard ≡ old.heard → new.broken ≡ old.broken → WritesRecord seen item old.book new.book (Err why)
      → WritesStep seen item old new (Err why)
  unwritten_step old new item why heard broken w = record {
    call = record { vid = w.vid; shape = w.shape; broken = broken; counts = w.counts; end = write_leaves seen item old.book new.book (Err why) w.ends };
    told = λ m s is. unwritten old new item heard w.shape m s is why (w.told (logged m) (open_book seen old m s is));
  }

  -- ---- what is granted

  pub writes_grant : (old new : EntryOver E) (item : ManagerRecord) (reply : ManagerReply) → WritesStep seen item old new (Ok tt) → reply ≡ grant_shown new.book.vid new.broken new.book.part → WritesGrant seen item old new (Ok reply)
  writes_grant old new item reply w is = record {
    call = record { vid = w.call.vid; shape = w.call.shape; broken = w.call.broken; counts = w.call.counts; end = tt };
    told = λ m s open_.
        let stands = w.told m s open_ in (
          is ∙ ap (λ v. grant_shown v new.broken new.book.part) w.call.vid ∙ ap (λ bs. grant_shown old.book.vid bs new.book.part) w.call.broken
              ∙ ap (grant_shown old.book.vid old.broken) stands.book.same,
          stands,
        );
  }

  failed_counts : (why : EntryFault) (a b : ℕ) → CountsFault {T = Unit {0}} a b (Err why) → CountsFault {T = ManagerReply} a b (Err why)
  failed_counts faults.Fault a b h = h
  failed_counts faults.Memory a b h = h
  failed_counts faults.Shut a b h = h
  failed_counts (faults.Spoiled place) a b h = h

  failed_told : (old new : EntryOver E) (item : ManagerRecord) (m : Manager) (why : EntryFault) → Wrote seen item m new (Err why) → WroteGrant seen item m old new (Err why)
  failed_told old new item m faults.Fault h = h
  failed_told old new item m faults.Memory h = h
  failed_told old new item m faults.Shut h = absurd h
  failed_told old new item m (faults.Spoiled place) h = absurd h

  pub fails_grant : (old new : EntryOver E) (item : ManagerRecord) (why : EntryFault) → WritesStep seen item old new (Err why) → WritesGrant seen item old new (Err why)
  fails_grant old new item why w = record {
    call = record { vid = w.call.vid; shape = w.call.shape; broken = w.call.broken; counts = failed_counts why (seen old.book.log.file).faults (seen new.book.log.file).faults w.call.counts; end = w.call.end };
    told = λ m s open_. failed_told old new item m why (w.told m s open_);
  }

  -- memory was wanting before anything changed
  pub lacks_memory : (old : EntryOver E) (item : ManagerRecord) (why : EntryFault) → why ≡ faults.Memory → WritesGrant seen item old old (Err why)
  lacks_memory old item why is =
      subst (λ f. WritesGrant seen item old old (Err f)) (sym is) (record { call = record { vid = refl; shape = refl; broken = refl; counts = refl; end = leaves_same old.book.log.end }; told = λ m s open_. s })

  -- ---- the step

  module _ (time : ℕ) (event : ManagerEvent) (old new : EntryOver E) (item : Manager → ManagerRecord) (refusal : Manager → Option Reply)
      (by : GrantsBy (shape_of old.book.shape) old.broken time event item refusal) (m : Manager) (is : m.is_shut ≡ false) (free : refusal m ≡ None) where
    grant_is : (result : Result ManagerReply EntryFault) → WroteGrant seen (item m) m old new result → StepsBy seen time event m old result new
    grant_is (Ok reply) k = (
      is,
      record {
        then_ = written (item m) m;
        step = subst (λ r. StepsTo (shape_of old.book.shape) old.broken time event m (reply_of (written (item m) m) r) (written (item m) m)) (sym k.0) (by.grants m free);
        moves = subst (λ r. ShowsMoves old.book.vid old.broken (written (item m) m) r) (sym k.0) refl;
        stands = k.1;
      },
    )
    grant_is (Err faults.Fault) k = (is, record { then_ = in_doubt (item m) m; step = by.fails m free; stands = k })
    grant_is (Err faults.Memory) k = k
    grant_is (Err faults.Shut) k = absurd k
    grant_is (Err (faults.Spoiled place)) k = absurd k

  pub granted_steps : (time : ℕ) (event : ManagerEvent) (old new : EntryOver E) (item : Manager → ManagerRecord) (refusal : Manager → Option Reply) (result : Result ManagerReply EntryFault)
      → GrantsBy (shape_of old.book.shape) old.broken time event item refusal → Rules seen time event refusal old None → WritesGrant seen (item old.book.part) old new result → Steps seen time event old new result
  granted_steps time event old new item refusal result by rules w = λ m s.
      let r = rules m s in
      let same : item old.book.part ≡ item m = ap item s.book.same ∙ by.same m in
      grant_is time event old new item refusal by m r.0 r.1 result (subst (λ i. WroteGrant seen i m old new result) same (w.told m s r.0))
