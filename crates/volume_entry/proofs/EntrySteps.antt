-- For which manager's part an entry stands after a step.
use Rattle.std.proofs.Common.{◌≡◌, ◌∙◌, sym, ap, refl, subst, ℕ, Bool, true, false, List, [], ◌∷◌, Option, None, Some, Result, Ok, Err, cond}
use Rattle.std.specs.Prelude.{is_none, IsSome}
use Rattle.disk_base.specs.Disk.{FileView}
use Rattle.unit_id.specs.Lists.{first_that_holds}
use Rattle.volume_entry.specs.Manager.{ManagerRecord, Manager, written, in_doubt}
use Rattle.volume_entry.specs.ManagerStep.{lease_tests, lease_refusal, ask_tests, ask_refusal, GrantsLease, Asks}
use Rattle.volume_entry.specs.Reply.{Reply}
use Rattle.volume_entry.specs.HeardMemory.{HeardMemory, Remembers}
use Rattle.volume_entry.specs.HeardCalls.{Follows}
use Rattle.volume_entry.specs.TableParts.{shape_of}
use Rattle.volume_entry.proofs.BookLasts.{leaves_same, write_leaves}
use Rattle.volume_entry.specs.Book.{BookOver, Keeps, CountsFault, HasRoom, WritesRecord}
use Rattle.volume_entry.specs.Book as books
use Rattle.volume_entry.specs.Entry.{EntryOver, logged, Stands, reply_of, ShowsMoves, StepsTo, Steps, EntryCall, HasRoomIfOpen, IsNoGrant, RefusesBy, LeavesHeard, Rules, Wrote, WritesStep}
use Rattle.volume_entry.proofs.HeardSteps.{leased_remembers, asked_remembers, committed_remembers}
use Rattle.volume_entry.specs.declared.event.ManagerEvent.{ManagerEvent}
use Rattle.volume_entry.specs.declared.event.ManagerReply.{ManagerReply}
use Rattle.volume_entry.specs.declared.event.ManagerReply.TheVariants as replies
use Rattle.volume_entry.specs.declared.fault.EntryFault.{EntryFault}
use Rattle.volume_entry.specs.declared.fault.EntryFault.TheVariants as faults

-- ---- records and what was heard

pub logged_written : (item : ManagerRecord) (m : Manager) → logged (written item m) ≡ written item (logged m)
logged_written (ManagerRecord.Made homes) m = refl
logged_written (ManagerRecord.Leased end) m = refl
logged_written (ManagerRecord.Locked task number grants) m = refl
logged_written (ManagerRecord.Retargeted grant) m = refl
logged_written ManagerRecord.Swapped m = refl
logged_written ManagerRecord.Unlocked m = refl
logged_written (ManagerRecord.Asked bid) m = refl
logged_written (ManagerRecord.Committed bid) m = refl

pub shut_written : (item : ManagerRecord) (m : Manager) → (written item m).is_shut ≡ m.is_shut
shut_written (ManagerRecord.Made homes) m = refl
shut_written (ManagerRecord.Leased end) m = refl
shut_written (ManagerRecord.Locked task number grants) m = refl
shut_written (ManagerRecord.Retargeted grant) m = refl
shut_written ManagerRecord.Swapped m = refl
shut_written ManagerRecord.Unlocked m = refl
shut_written (ManagerRecord.Asked bid) m = refl
shut_written (ManagerRecord.Committed bid) m = refl

pub doubt_written : (item : ManagerRecord) (m : Manager) → (written item m).doubt ≡ m.doubt
doubt_written (ManagerRecord.Made homes) m = refl
doubt_written (ManagerRecord.Leased end) m = refl
doubt_written (ManagerRecord.Locked task number grants) m = refl
doubt_written (ManagerRecord.Retargeted grant) m = refl
doubt_written ManagerRecord.Swapped m = refl
doubt_written ManagerRecord.Unlocked m = refl
doubt_written (ManagerRecord.Asked bid) m = refl
doubt_written (ManagerRecord.Committed bid) m = refl

-- what memory tells is not touched by leases and deletes
pub still_heard : (item : ManagerRecord) → LeavesHeard item → (total : ℕ) (heard : HeardMemory) (m : Manager) → Remembers total heard m → Remembers total heard (written item m)
still_heard (ManagerRecord.Leased end) leaves total heard m r = leased_remembers total heard end m r
still_heard (ManagerRecord.Asked bid) leaves total heard m r = asked_remembers total heard bid m r
still_heard (ManagerRecord.Committed bid) leaves total heard m r = committed_remembers total heard bid m r
still_heard _ leaves total heard m r = absurd leaves

pub doubt_heard : (item : ManagerRecord) (total : ℕ) (heard : HeardMemory) (m : Manager) → Remembers total heard m → Remembers total heard (in_doubt item m)
doubt_heard item total heard m r = record { listings = record { enough = r.listings.enough; shows = r.listings.shows }; moves = r.moves; marks = r.marks }

module _ {E : Type 0} (seen : E → FileView) where
  -- an entry whose log isn't shut has no record in doubt
  module _ (entry : EntryOver E) (m : Manager) (s : Stands seen entry m) where
    pub open_book : m.is_shut ≡ false → Keeps seen entry.book (logged m) false None
    open_book is = subst (λ d. Keeps seen entry.book (logged m) false d) (s.book.open_ is).certain (subst (λ (b : Bool). Keeps seen entry.book (logged m) b m.doubt) is s.book)

    pub is_open : IsSome entry.book.log.end → m.is_shut ≡ false
    is_open some = s.book.shut ∙ has_end entry.book.log.end some
      where
        has_end : (end : Option ℕ) → IsSome end → is_none end ≡ false
        has_end None h = cc
        has_end (Some e) h = refl

    pub is_closed : entry.book.log.end ≡ None → m.is_shut ≡ true
    is_closed none = s.book.shut ∙ ap is_none none

  -- ---- a record is written, and nothing that is heard changes

  module _ (old new : EntryOver E) (item : ManagerRecord) (leaves : LeavesHeard item) (heard : new.heard ≡ old.heard) (shape : new.book.shape ≡ old.book.shape) (m : Manager) (s : Stands seen old m) (is : m.is_shut ≡ false) where
    memory : (n : Manager) → Remembers (shape_of old.book.shape).total old.heard n → Remembers (shape_of new.book.shape).total new.heard n
    memory n r = subst (λ h. Remembers (shape_of new.book.shape).total h n) (sym heard) (subst (λ sh. Remembers (shape_of sh).total old.heard n) (sym shape) r)

    stands_by : (result : Result (Unit {0}) EntryFault) → books.Wrote seen item (logged m) new.book result → Wrote seen item m new result
    stands_by (Ok done) k = record {
      book = subst (λ p. Keeps seen new.book p (written item m).is_shut (written item m).doubt) (sym (logged_written item m))
          (subst (λ (b : Bool). Keeps seen new.book (written item (logged m)) b (written item m).doubt) (sym (shut_written item m ∙ is))
          (subst (λ d. Keeps seen new.book (written item (logged m)) false d) (sym (doubt_written item m ∙ (s.book.open_ is).certain)) k));
      heard = memory (written item m) (still_heard item leaves (shape_of old.book.shape).total old.heard m s.heard);
    }
    stands_by (Err faults.Fault) k = record { book = k; heard = memory (in_doubt item m) (doubt_heard item (shape_of old.book.shape).total old.heard m s.heard) }
    stands_by (Err faults.Memory) k = record {
      book = subst (λ (b : Bool). Keeps seen new.book (logged m) b m.doubt) (sym is) (subst (λ d. Keeps seen new.book (logged m) false d) (sym (s.book.open_ is).certain) k);
      heard = memory m s.heard;
    }
    stands_by (Err faults.Shut) k = absurd k
    stands_by (Err (faults.Spoiled place)) k = absurd k

  pub writes_step : (old new : EntryOver E) (item : ManagerRecord) (result : Result (Unit {0}) EntryFault) → LeavesHeard item → new.heard ≡ old.heard → new.broken ≡ old.broken → WritesRecord seen item old.book new.book result → WritesStep seen item old new result
  writes_step old new item result leaves heard broken w = record {
    call = record { vid = w.vid; shape = w.shape; broken = broken; counts = w.counts; end = write_leaves seen item old.book new.book result w.ends };
    told = λ m s is. stands_by old new item leaves heard w.shape m s is result (w.told (logged m) (open_book old m s is));
  }

  -- ---- what a step answers

  pub shut_rules : (time : ℕ) (event : ManagerEvent) (refusal : Manager → Option Reply) (entry : EntryOver E) → entry.book.log.end ≡ None → Rules seen time event refusal entry (Some (Err faults.Shut))
  shut_rules time event refusal entry none = (record { vid = refl; shape = refl; broken = refl; counts = refl; end = leaves_same entry.book.log.end }, (λ m s. (is_closed entry m s none, s)))

  pub no_grant : (vid : ℕ) (broken : List Bool) (n : Manager) (reply : ManagerReply) → IsNoGrant reply → ShowsMoves vid broken n reply
  no_grant vid broken n (replies.Granted lock moves) h = absurd h
  no_grant vid broken n _ h = tt

  pub refused_rules : (time : ℕ) (event : ManagerEvent) (refusal : Manager → Option Reply) (entry : EntryOver E) (reply : ManagerReply)
      → ((m : Manager) → Stands seen entry m → RefusesBy (Some reply) (refusal m))
      → ((m : Manager) (r : Reply) → refusal m ≡ Some r → StepsTo (shape_of entry.book.shape) entry.broken time event m r m)
      → IsSome entry.book.log.end → Rules seen time event refusal entry (Some (Ok reply))
  refused_rules time event refusal entry reply refuses steps some = (
    record { vid = refl; shape = refl; broken = refl; counts = refl; end = tt },
    (λ m s.
        let h = refuses m s in (
          is_open entry m s some,
          record { then_ = m; step = steps m (reply_of m reply) (h.1 m); moves = no_grant entry.book.vid entry.broken m reply h.0; stands = s },
        )),
  )

  pub free_rules : (time : ℕ) (event : ManagerEvent) (refusal : Manager → Option Reply) (entry : EntryOver E) → ((m : Manager) → Stands seen entry m → refusal m ≡ None) → IsSome entry.book.log.end → Rules seen time event refusal entry None
  free_rules time event refusal entry refuses some = λ m s. (is_open entry m s some, refuses m s)

  -- a step whose record was to be written
  module _ (time : ℕ) (event : ManagerEvent) (old new : EntryOver E) (item : ManagerRecord) (refusal : Manager → Option Reply) (rules : Rules seen time event refusal old None) (w : WritesStep seen item old new (Ok tt)) where
    pub done_steps : (reply : ManagerReply) → IsNoGrant reply → ((m : Manager) → refusal m ≡ None → StepsTo (shape_of old.book.shape) old.broken time event m (reply_of (written item m) reply) (written item m)) → Steps seen time event old new (Ok reply)
    done_steps reply plain steps = λ m s.
        let r = rules m s in
        (r.0, record { then_ = written item m; step = steps m r.1; moves = no_grant old.book.vid old.broken (written item m) reply plain; stands = w.told m s r.0 })

  pub failed_steps : (time : ℕ) (event : ManagerEvent) (old new : EntryOver E) (item : ManagerRecord) (refusal : Manager → Option Reply) (why : EntryFault) → Rules seen time event refusal old None → WritesStep seen item old new (Err why)
      → ((m : Manager) → refusal m ≡ None → StepsTo (shape_of old.book.shape) old.broken time event m Reply.Fault (in_doubt item m)) → Steps seen time event old new (Err why)
  failed_steps time event old new item refusal faults.Fault rules w steps = λ m s. let r = rules m s in (r.0, record { then_ = in_doubt item m; step = steps m r.1; stands = w.told m s r.0 })
  failed_steps time event old new item refusal faults.Memory rules w steps = λ m s. let r = rules m s in w.told m s r.0
  failed_steps time event old new item refusal faults.Shut rules w steps = λ m s. let r = rules m s in absurd (w.told m s r.0)
  failed_steps time event old new item refusal (faults.Spoiled place) rules w steps = λ m s. let r = rules m s in absurd (w.told m s r.0)

  counts_as : (T U : Type 0) (why : EntryFault) (a b : ℕ) → CountsFault {T = T} a b (Err why) → CountsFault {T = U} a b (Err why)
  counts_as T U faults.Fault a b h = h
  counts_as T U faults.Memory a b h = h
  counts_as T U faults.Shut a b h = h
  counts_as T U (faults.Spoiled place) a b h = h

  pub failed_call : (T U : Type 0) (old new : EntryOver E) (why : EntryFault) → EntryCall seen {T = T} old new (Err why) → EntryCall seen {T = U} old new (Err why)
  failed_call T U old new why call = record { vid = call.vid; shape = call.shape; broken = call.broken; counts = counts_as T U why (seen old.book.log.file).faults (seen new.book.log.file).faults call.counts; end = call.end }

-- ---- each step's refusals are its steps

abbrev pub AllHave : (P : Reply → Type 0) → List (Bool × Reply) → Type 0
AllHave P [] = Unit {0}
AllHave P (row ∷ rows) = P row.1 × AllHave P rows

pub first_has : (P : Reply → Type 0) (rows : List (Bool × Reply)) (r : Reply) → AllHave P rows → first_that_holds rows ≡ Some r → P r
first_has P [] r all h = cc
first_has P (row ∷ rows) r all h = go row.0 h (first_has P rows r all.1) where
  same : Some row.1 ≡ Some r → row.1 ≡ r
  same e = cc

  go : (test : Bool) → cond test (Some row.1) (first_that_holds rows) ≡ Some r → (first_that_holds rows ≡ Some r → P r) → P r
  go true e rest = subst P (same e) all.0
  go false e rest = rest e

pub lease_refused : (time : ℕ) (m : Manager) (r : Reply) → lease_refusal m ≡ Some r → GrantsLease time m r m
lease_refused time m r h = first_has (λ x. lease_refusal m ≡ Some x → GrantsLease time m x m) (lease_tests m) r ((λ e. (e, refl)), tt) h h

pub ask_refused : (bid : ℕ) (m : Manager) (r : Reply) → ask_refusal true bid m ≡ Some r → Asks true bid m r m
ask_refused bid m r h = first_has (λ x. ask_refusal true bid m ≡ Some x → Asks true bid m x m) (ask_tests true bid m) r ((λ e. (e, refl)), ((λ e. (e, refl)), tt)) h h

-- ---- ends

pub ends_none : (end : Option ℕ) → is_none end ≡ true → end ≡ None
ends_none None h = refl
ends_none (Some e) h = cc

pub ends_some : (end : Option ℕ) → is_none end ≡ false → IsSome end
ends_some None h = cc
ends_some (Some e) h = refl

pub room_if : (end : Option ℕ) → HasRoomIfOpen end → IsSome end → HasRoom end
room_if None room h = cc
room_if (Some e) room h = room

-- a memory that tells the same
pub with_heard : {E : Type 0} (seen : E → FileView) (entry : EntryOver E) (heard : HeardMemory) → Follows (λ m. m) entry.heard heard → (m : Manager) → Stands seen entry m → Stands seen (record { book = entry.book; heard = heard; broken = entry.broken }) m
with_heard seen entry heard follows m s = record { book = s.book; heard = follows (shape_of entry.book.shape).total m s.heard }
