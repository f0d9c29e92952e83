-- What the answer of a whole sweep claims.
use Rattle.std.proofs.Common.{◌≡◌, ℕ, inl, inr, ◌+◌, ◌≤◌, true, List, [], ◌∷◌, ◌++◌, length, Result, Ok, Err, refl, sym, ◌∙◌, ap, subst, arith}
use Rattle.unit_id.specs.Lists.{IsIn, is_in}
use Rattle.code_mode.proofs.Numbers.{sound_shapes}
use Rattle.volume_world.specs.Run.{World}
use Rattle.volume_world.specs.declared.trace.Trace.{Trace}
use Rattle.volume_world.specs.Way.{Origin, WayView, IsWay, shape_of, longest_history}
use Rattle.volume_world.specs.Course.{traces_of}
use Rattle.volume_world.specs.Call.{Next}
use Rattle.blob_delete.specs.declared.sweeping.Swept.{Swept}
use Rattle.blob_delete.specs.declared.sweeping.Swept.TheVariants as swept
use Rattle.blob_delete.specs.declared.fault.DeleteFault.{DeleteFault}
use Rattle.blob_delete.specs.declared.fault.DeleteFault.TheVariants as faults
use Rattle.blob_delete.specs.SweepCall.{SweepStage, SweepNext, SweepsBy}
use Rattle.blob_delete.specs.SweepParts.{Proceeding, IsOpen}
use Rattle.blob_delete.specs.Sweeps.{freed_count, says_committed, Sweeps}
use Rattle.blob_delete.proofs.SweepCounts.{IsCounted, counted_all, counted_answer, counted_open, counted_as}
use Rattle.blob_delete.proofs.SweepCommits.{SaysCommitted, is_behind, commit_there, committed_as_told}

in_second : {A : Type 0} (x : A) (xs ys : List A) → IsIn x ys → IsIn x (xs ++ ys)
in_second x [] ys h = h
in_second x (z ∷ xs) ys h = inr (in_second x xs ys h)

said_behind : (bid : ℕ) (before traces : List Trace) → SaysCommitted bid traces → SaysCommitted bid (before ++ traces)
said_behind bid before traces (inl i) = inl (in_second _ before traces i)
said_behind bid before traces (inr i) = inr (in_second _ before traces i)

some_units : (origin : Origin) → 1 ≤ (shape_of origin).total
some_units origin = let sound = sound_shapes origin.mode origin.disks in let a = sound.more in let b = sound.within in omega arith

counted_whole : (old new : WayView) (bid : ℕ) (to : SweepNext) (h : Proceeding bid old new (Next.Go SweepStage.Looking) to) → IsCounted (shape_of old.origin).total (freed_count h.parts) to
counted_whole old new bid to h =
    let all = (shape_of old.origin).total in
    counted_as all (0 + freed_count h.parts) (freed_count h.parts) to (omega arith)
    (counted_all old.origin bid all 0 h.parts (Next.Go SweepStage.Looking) to (some_units old.origin) refl h.fits h.comes refl)

says_behind : (result : Result Swept DeleteFault) → says_committed result ≡ is_behind (Next.Over result)
says_behind (Ok swept.Freed) = refl
says_behind (Ok swept.Committed) = refl
says_behind (Ok (swept.Waits marks)) = refl
says_behind (Err why) = refl

committed_whole : (old new : WayView) (bid : ℕ) (result : Result Swept DeleteFault) → IsWay new → (h : Proceeding bid old new (Next.Go SweepStage.Looking) (Next.Over result)) → says_committed result ≡ true
    → old.origin.is_told ≡ true → (w : World) → new.is_at w → is_in bid w.state.manager.committed ≡ true
committed_whole old new bid result its h says told w at =
    let there = commit_there bid h.parts (Next.Go SweepStage.Looking) (Next.Over result) h.comes refl (sym (says_behind result) ∙ says) in
    let said : SaysCommitted bid new.entries = subst (λ (traces : List Trace). SaysCommitted bid traces) (sym h.goes.entries) (said_behind bid old.entries (traces_of h.parts) there) in
    committed_as_told new.origin.vid (shape_of new.origin) new.origin.start new.entries w bid (its.led (ap (λ (o : Origin). o.is_told) h.goes.origin ∙ told) w at) said

-- a sweep that came to its answer
pub is_whole : (old new : WayView) (bid : ℕ) (result : Result Swept DeleteFault) → IsWay new → (h : Proceeding bid old new (Next.Go SweepStage.Looking) (Next.Over result)) → SweepsBy bid h.parts result
    → (result ≡ Err faults.HistoryFull → longest_history ≤ length new.entries) → Sweeps old new bid result
is_whole old new bid result its h call full = record {
  full = full;
  parts = h.parts;
  goes = h.goes;
  call = call;
  freed = counted_answer (shape_of old.origin).total (freed_count h.parts) result (counted_whole old new bid (Next.Over result) h);
  committed = committed_whole old new bid result its h;
}

err_is : (a b : DeleteFault) (x y : Result Swept DeleteFault) → x ≡ Err a → y ≡ Err b → x ≡ y → a ≡ b
err_is a b x y p q e = ap (err_or a) (sym p ∙ e ∙ q) where
  err_or : DeleteFault → Result Swept DeleteFault → DeleteFault
  err_or other (Err fault) = fault
  err_or other (Ok given) = other

-- a sweep that broke off
pub is_front : (old new : WayView) (bid : ℕ) (why : DeleteFault) (to : SweepNext) → IsOpen to → (h : Proceeding bid old new (Next.Go SweepStage.Looking) to) → SweepsBy bid h.parts (Err why)
    → (why ≡ faults.HistoryFull → longest_history ≤ length new.entries) → Sweeps old new bid (Err why)
is_front old new bid why to still h call full = record {
  full = λ e. full (err_is why faults.HistoryFull (Err why) (Err faults.HistoryFull) refl refl e);
  parts = h.parts;
  goes = h.goes;
  call = call;
  freed = (λ e. absurd (cc), λ e. absurd (counted_open (shape_of old.origin).total (freed_count h.parts) to still (some_units old.origin) (counted_whole old new bid to h) e));
  committed = λ e told w at. absurd (cc);
}
