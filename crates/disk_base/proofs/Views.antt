-- What the calls make of a file in memory as a file.
use Rattle.std.proofs.Common.{◌≡◌, ◌↔◌, ◌≤◌, ◌+◌, ◌-◌, ℕ, if◌then◌else◌, List, length, take, drop, min, Option, Some, None, Result, Ok, Err, OnOk, OnErr, is_err, is_some, refl, sym, ◌∙◌, ap, subst, arith}
use Rattle.std.specs.Prelude.{IfOk, IfSome, IsSomeAnd}
use Rattle.std.proofs.lemmas.Grind.{common_steps}
use Rattle.disk_base.specs.Faults.{Plan, Rose, one_more, fails_next, after_call, is_quiet}
use Rattle.disk_base.specs.Disk.{overwritten, ReadsAt, IsTorn, TearsFrom, GoesOn, Call, OnlyReads, Reads, Grows, Writes, Syncs, ample_spare}
use Rattle.disk_base.specs.Moments.{reads_once}
use Rattle.disk_base.specs.Images.{FileState, told, read_of, content_of, moment_of, MayLeave, LeftSince, counted, after_grow, after_write, after_sync, view_of, is_file}
use Rattle.disk_base.proofs.Torn.{write-torn, write-tears, write-goes_on, sync-goes_on, still-goes_on, answered-settled, answered-within, on_error}

quiet_stays : (plan : Plan) → is_quiet (after_call (fails_next plan) plan) ≡ is_quiet plan
quiet_stays plan = grind (arith, common_steps)

tells_on : (lies : Option (List ℕ)) (old new : List ℕ) → is_some (told lies new) ≡ is_some (told lies old)
tells_on None old new = refl
tells_on (Some lies) old new = refl

faults_at_ok : {T E : Type 0} (result : Result T E) (plan : Plan) → is_err result ≡ fails_next plan → OnOk result ((after_call (fails_next plan) plan).faults ≡ plan.faults)
faults_at_ok (Ok x) plan is = ap (λ b. if b then one_more plan.faults else plan.faults) (sym is)
faults_at_ok (Err x) plan is = tt

faults_at_err : {T E : Type 0} (result : Result T E) (plan : Plan) → is_err result ≡ fails_next plan → OnErr result (Rose plan.faults (after_call (fails_next plan) plan).faults)
faults_at_err (Ok x) plan is = tt
faults_at_err (Err x) plan is = subst (λ b. Rose plan.faults (if b then one_more plan.faults else plan.faults)) is (omega arith)

-- one call, by the file that it leaves
module _ {T E : Type 0} (result : Result T E) (old after new : FileState) (fails : is_err result ≡ fails_next old.plan) (is : new ≡ after) (never_falls : old.plan.faults ≤ new.plan.faults) where
  pub called : (spent : ℕ) → after.plan ≡ after_call (fails_next old.plan) old.plan → after.lies ≡ old.lies → old.room ≤ after.room → old.spare ≤ after.spare + spent → GoesOn (view_of old) (view_of after) → Call spent (view_of old) (view_of new) result
  called spent plan lies room spare time = record {
    lasts = record {
      faults = never_falls;
      room = subst (λ f. old.room ≤ f.room) (sym is) room;
      quiet = ap (λ f. is_quiet f.plan) is ∙ ap is_quiet plan ∙ quiet_stays old.plan;
      tells = subst (λ l. is_some (told l new.present.bytes) ≡ is_some (told old.lies old.present.bytes)) (sym (ap (λ f. f.lies) is ∙ lies)) (tells_on old.lies old.present.bytes new.present.bytes);
    };
    counted = ap (λ f. f.plan.made) is ∙ ap (λ p. p.made) plan;
    answered = subst (λ n. OnOk result (n ≡ old.plan.faults)) (sym (ap (λ f. f.plan.faults) is ∙ ap (λ p. p.faults) plan)) (faults_at_ok result old.plan fails);
    failed = subst (λ n. OnErr result (Rose old.plan.faults n)) (sym (ap (λ f. f.plan.faults) is ∙ ap (λ p. p.faults) plan)) (faults_at_err result old.plan fails);
    time = subst (λ f. GoesOn (view_of old) (view_of f)) (sym is) time;
    spare = subst (λ f. old.spare ≤ f.spare + spent) (sym is) spare;
  }

counted_call : {T E : Type 0} (spent : ℕ) (result : Result T E) (old new : FileState) → is_err result ≡ fails_next old.plan → new ≡ counted old → old.plan.faults ≤ new.plan.faults → Call spent (view_of old) (view_of new) result
counted_call spent result old new fails is never_falls = called result old (counted old) new fails is never_falls spent refl refl (omega arith) (omega arith) (still-goes_on old)

only_reads : (old new : FileState) → new ≡ counted old → OnlyReads (view_of old) (view_of new)
only_reads old new is = subst (λ f. OnlyReads (view_of old) (view_of f)) (sym is)
    (reads_once (view_of old) (view_of (counted old)) (is_file old) (still-goes_on old) refl (λ c left. left))

pub reads : {T E : Type 0} (result : Result T E) (old new : FileState) → is_err result ≡ fails_next old.plan → new ≡ counted old → old.plan.faults ≤ new.plan.faults → Reads (view_of old) (view_of new) result
reads result old new fails is never_falls = record { call = counted_call 0 result old new fails is never_falls; only = only_reads old new is }

write_call : {T E : Type 0} (result : Result T E) (old new : FileState) (at : ℕ) (bytes : List ℕ) → is_err result ≡ fails_next old.plan → new ≡ after_write at bytes old → old.plan.faults ≤ new.plan.faults
    → old.present.settled_end ≤ length old.present.bytes → Call 1 (view_of old) (view_of new) result
write_call result old new at bytes fails is never_falls settled =
    called result old (after_write at bytes old) new fails is never_falls 1 refl refl (omega arith) (omega arith) (write-goes_on old at bytes settled)

sync_call : {T E : Type 0} (result : Result T E) (old new : FileState) → is_err result ≡ fails_next old.plan → OnOk result (new ≡ after_sync old) → OnErr result (new ≡ counted old) → old.plan.faults ≤ new.plan.faults
    → Call 1 (view_of old) (view_of new) result
sync_call (Ok x) old new fails ok err never_falls = called (Ok x) old (after_sync old) new fails ok never_falls 1 refl refl (omega arith) (omega arith) (sync-goes_on old)
sync_call (Err x) old new fails ok err never_falls = counted_call 1 (Err x) old new fails err never_falls

-- ---- what the answers tell

pub tells_length : {E : Type 0} (result : Result ℕ E) (lies : Option (List ℕ)) (bytes : List ℕ) → IfOk result (λ n. n ≡ length bytes) → IfOk result (λ n. IfSome (told lies bytes) (λ b. n ≡ length b))
tells_length (Ok n) None bytes is = is
tells_length (Ok n) (Some lies) bytes is = tt
tells_length (Err e) lies bytes is = tt

pub tells_bytes : {E : Type 0} (result : Result ℕ E) (lies : Option (List ℕ)) (at : ℕ) (was out bytes : List ℕ) → length out ≡ length was → IfOk result (λ n. n ≡ min (length was) (length bytes - at))
    → IfOk result (λ n. take n out ≡ read_of lies at (take n (drop at bytes))) → IfOk result (λ n. IfSome (told lies bytes) (λ b. ReadsAt n at out b))
tells_bytes (Ok n) None at was out bytes same count are = record { count = omega (arith, same, count); bytes_are = are }
tells_bytes (Ok n) (Some lies) at was out bytes same count are = tt
tells_bytes (Err e) lies at was out bytes same count are = tt

pub at_most : {E : Type 0} (result : Result ℕ E) (was out bytes : List ℕ) (at : ℕ) → length out ≡ length was → IfOk result (λ n. n ≡ min (length was) (length bytes - at)) → IfOk result (λ n. n ≤ length out)
at_most (Ok n) was out bytes at same count = omega (arith, same, count)
at_most (Err e) was out bytes at same count = tt

-- ---- the other calls

pub grown : {E : Type 0} (result : Result (Unit {0}) E) (old new : FileState) (end : ℕ) → OnOk result (new ≡ after_grow end old) → OnErr result (new ≡ old) → old.spare ≤ new.spare → Grows end (view_of old) (view_of new) result
grown (Ok x) old new end ok err more = record {
  room_up_to = subst (λ f. end ≤ f.room) (sym ok) (omega arith);
  spare_for = subst (λ f. ample_spare ≤ f.spare) (sym ok) (omega arith);
  room = subst (λ f. old.room ≤ f.room) (sym ok) (omega arith);
  spare = more;
  same = ap content_of ok;
  same_images = λ c. subst (λ f. MayLeave f c ↔ MayLeave old c) (sym ok) (λ left. left, λ left. left);
  same_clock = ap moment_of ok;
  same_past = λ t c. subst (λ f. LeftSince f t c ↔ LeftSince old t c) (sym ok) (λ left. left, λ left. left);
  calls = ap (λ f. f.plan.made) ok;
  faults = ap (λ f. f.plan.faults) ok;
  quiet = ap (λ f. is_quiet f.plan) ok;
}
grown (Err x) old new end ok err more = record {
  room_up_to = tt;
  spare_for = tt;
  room = subst (λ f. old.room ≤ f.room) (sym err) (omega arith);
  spare = more;
  same = ap content_of err;
  same_images = λ c. subst (λ f. MayLeave f c ↔ MayLeave old c) (sym err) (λ left. left, λ left. left);
  same_clock = ap moment_of err;
  same_past = λ t c. subst (λ f. LeftSince f t c ↔ LeftSince old t c) (sym err) (λ left. left, λ left. left);
  calls = ap (λ f. f.plan.made) err;
  faults = ap (λ f. f.plan.faults) err;
  quiet = ap (λ f. is_quiet f.plan) err;
}

written : {T E : Type 0} (result : Result T E) (lies : Option (List ℕ)) (b w : List ℕ) (at : ℕ) → IfSome (told lies b) (λ was. at ≤ length was) → OnOk result (IfSome (told lies b) (λ was. told lies (overwritten b (min at (length b)) w) ≡ Some (overwritten was at w)))
written (Ok x) None b w at within = let same : min at (length b) ≡ at = omega arith in ap (λ s. Some (overwritten b s w)) same
written (Ok x) (Some lies) b w at within = tt
written (Err x) lies b w at within = tt

pub writes : {T E : Type 0} (result : Result T E) (old new : FileState) (at : ℕ) (bytes : List ℕ) → is_err result ≡ fails_next old.plan → new ≡ after_write at bytes old → old.plan.faults ≤ new.plan.faults
    → old.present.settled_end ≤ length old.present.bytes → IfSome (content_of old) (λ was. at ≤ length was) → Writes at bytes (view_of old) (view_of new) result
writes result old new at bytes fails is never_falls settled within = record {
  call = write_call result old new at bytes fails is never_falls settled;
  written = subst (λ f. OnOk result (IfSome (content_of old) (λ was. content_of f ≡ Some (overwritten was at bytes)))) (sym is) (written result old.lies old.present.bytes bytes at within);
  torn = subst (λ f. OnErr result (IfSome (content_of old) (λ was. IsSomeAnd (content_of f) (IsTorn at (length bytes) was)))) (sym is)
      (on_error result (IfSome (content_of old) (λ was. IsSomeAnd (content_of (after_write at bytes old)) (IsTorn at (length bytes) was))) (write-torn old.lies old.present.bytes bytes at within));
  tears = subst (λ f. TearsFrom at (length bytes) (MayLeave old) (MayLeave f)) (sym is) (write-tears old at bytes within);
}

pub syncs : {T E : Type 0} (result : Result T E) (old new : FileState) → is_err result ≡ fails_next old.plan → OnOk result (new ≡ after_sync old) → OnErr result (new ≡ counted old) → old.plan.faults ≤ new.plan.faults
    → Syncs (view_of old) (view_of new) result
syncs {T = T} {E = E} (Ok x) old new fails ok err never_falls = record {
  call = sync_call {T = T} {E = E} (Ok x) old new fails ok err never_falls;
  settled = answered-settled {T = T} {E = E} (Ok x) old new ok;
  same = ap content_of ok;
  within = answered-within {T = T} {E = E} (Ok x) old new ok err;
}
syncs {T = T} {E = E} (Err x) old new fails ok err never_falls = record {
  call = sync_call {T = T} {E = E} (Err x) old new fails ok err never_falls;
  settled = tt;
  same = ap content_of err;
  within = answered-within {T = T} {E = E} (Err x) old new ok err;
}
