-- What is counted of a file that tells nothing meets what is promised of files.
use Rattle.std.specs.Prelude.{ℕ, ◌≡◌, ◌≤◌, List, length, Result, Ok, Err, OnOk, OnErr, IfOk, refl}
use Rattle.std.proofs.Common.{inr, arith}
use Rattle.disk_base.specs.Disk.{Call, Reads, Writes, Syncs, GoesOn, IsTorn}
use Rattle.disk_base.specs.Faults.{one_more, Rose}
use Rattle.disk_base.specs.declared.fault.Failed.{Failed}
use Rattle.dir_farm.specs.declared.dir_file.FileCounts.{FileCounts}
use Rattle.dir_farm.specs.DirFile.{file_view, faults_after}

goes_on : (old new : FileCounts) → GoesOn (file_view old) (file_view new)
goes_on old new = record { never_falls = omega arith; since_then = λ t c le left. inr tt; stays = λ t c le left. tt }

never_falls : {T : Type 0} (result : Result T Failed) (n m : ℕ) → m ≡ faults_after result n → n ≤ m
never_falls (Ok x) n m is = omega (arith, is)
never_falls (Err x) n m is = omega (arith, is)

answered : {T : Type 0} (result : Result T Failed) (n m : ℕ) → m ≡ faults_after result n → OnOk result (m ≡ n)
answered (Ok x) n m is = is
answered (Err x) n m is = tt

failed : {T : Type 0} (result : Result T Failed) (n m : ℕ) → m ≡ faults_after result n → OnErr result (Rose n m)
failed (Ok x) n m is = tt
failed (Err x) n m is = omega (arith, is)

-- nothing is told, so nothing is asked
on_ok : {T E : Type 0} (result : Result T E) → OnOk result (Unit {0})
on_ok (Ok x) = tt
on_ok (Err x) = tt

-- .. nor of an answer
pub untold : {T E : Type 0} (result : Result T E) → IfOk result (λ x. Unit {0})
untold (Ok x) = tt
untold (Err x) = tt

on_err : {T E : Type 0} (result : Result T E) → OnErr result (Unit {0})
on_err (Ok x) = tt
on_err (Err x) = tt

module _ {T : Type 0} (result : Result T Failed) (old new : FileCounts) (calls : new.calls ≡ one_more old.calls) (faults : new.faults ≡ faults_after result old.faults) where
  call : (spent : ℕ) → Call spent (file_view old) (file_view new) result
  call spent = record {
    lasts = record { faults = never_falls result old.faults new.faults faults; room = omega arith; quiet = refl; tells = refl };
    counted = calls;
    answered = answered result old.faults new.faults faults;
    failed = failed result old.faults new.faults faults;
    time = goes_on old new;
    spare = omega arith;
  }

  pub reads : Reads (file_view old) (file_view new) result
  reads = record {
    call = call 0;
    only = record { same = refl; within = λ c left. tt; moments = record { never_falls = omega arith; each = λ c left. tt; earlier = λ t c le left. inr tt } };
  }

  -- whatever a write did, it may be read as if nothing of it was done
  not_torn : (at n : ℕ) (c : List ℕ) → IsTorn at n c c
  not_torn at n c = record { front = refl; back = refl; no_shorter = omega arith; no_longer = omega arith }

  pub writes : (at : ℕ) (bytes : List ℕ) → Writes at bytes (file_view old) (file_view new) result
  writes at bytes = record { call = call 1; written = on_ok result; torn = on_err result; tears = λ c left. (c, tt, not_torn at (length bytes) c) }

  pub syncs : Syncs (file_view old) (file_view new) result
  syncs = record { call = call 1; settled = on_ok result; same = refl; within = λ c left. tt }
