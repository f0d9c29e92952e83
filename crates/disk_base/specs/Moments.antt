-- How a claim on every moment goes on from call to call.
use Rattle.std.specs.Prelude.{◌≡◌, ◌≤◌, ◌+◌, ℕ, List, Result, Ok, Err, OnOk, OnErr, is_some}
use Rattle.std.proofs.Common.{inl, inr, refl, sym, ap, subst, ◌∙◌, arith}
use Rattle.disk_base.specs.Faults.{added, Rose}
use Rattle.disk_base.specs.Disk.{Images, IsWithin, FileView, IsFile, GoesOn, AtEachMoment, Lasts, Call, Calls, CallsUpTo, OnlyReads, Grows}

module _ (P : Images) where
  -- between a file and itself there is the present moment alone
  pub at_start : (file : FileView) → ((c : List ℕ) → file.images_since file.clock c → P c) → AtEachMoment file file P
  at_start file now = record { never_falls = omega arith; each = now; earlier = λ t c le left. inl left }

  -- one call more, after which a crash may leave nothing but what has P
  pub after_call : (old mid new : FileView) → AtEachMoment old mid P → GoesOn mid new → IsWithin new.images P → AtEachMoment old new P
  after_call old mid new so_far goes now = record {
    never_falls = omega (arith, so_far.never_falls, goes.never_falls);
    each = λ c left. elim (goes.since_then old.clock c so_far.never_falls left) [ inl past ↦ so_far.each c past | inr image ↦ now c image ];
    earlier = λ t c le left. elim (goes.since_then t c (omega (arith, le, so_far.never_falls)) left) [ inl past ↦ so_far.earlier t c le past | inr image ↦ inr (now c image) ];
  }

  -- two stretches of time, one after the other
  pub joined : (old mid new : FileView) → AtEachMoment old mid P → AtEachMoment mid new P → AtEachMoment old new P
  joined old mid new first second = record {
    never_falls = omega (arith, first.never_falls, second.never_falls);
    each = λ c left. elim (second.earlier old.clock c first.never_falls left) [ inl past ↦ first.each c past | inr is ↦ is ];
    earlier = λ t c le left. elim (second.earlier t c (omega (arith, le, first.never_falls)) left) [ inl past ↦ first.earlier t c le past | inr is ↦ inr is ];
  }

-- what has P has Q
pub weaker : (P Q : Images) (old new : FileView) → AtEachMoment old new P → IsWithin P Q → AtEachMoment old new Q
weaker P Q old new m f = record {
  never_falls = m.never_falls;
  each = λ c left. f c (m.each c left);
  earlier = λ t c le left. elim (m.earlier t c le left) [ inl past ↦ inl past | inr is ↦ inr (f c is) ];
}

-- a time that begins with a call that asks for memory
pub after_grow : {T E : Type 0} (P : Images) (end : ℕ) (old mid new : FileView) (result : Result T E) → Grows end old mid result → AtEachMoment mid new P → AtEachMoment old new P
after_grow P end old mid new result grows m = record {
  never_falls = omega (arith, grows.same_clock, m.never_falls);
  each = λ c left. m.each c (subst (λ t. new.images_since t c) (sym grows.same_clock) left);
  earlier = λ t c le left. elim (m.earlier t c (omega (arith, le, grows.same_clock)) left) [ inl past ↦ inl ((grows.same_past t c).0 past) | inr is ↦ inr is ];
}

-- ---- calls that only read

-- one call, by what time and content make of it
pub reads_once : (old new : FileView) → IsFile old → GoesOn old new → new.content ≡ old.content → IsWithin new.images old.images → OnlyReads old new
reads_once old new file goes same within = record {
  same = same;
  within = within;
  moments = after_call old.images old old new (at_start old.images old file.present_alone) goes within;
}

-- no call
pub reads_none : (file : FileView) → IsFile file → OnlyReads file file
reads_none file is = record { same = refl; within = λ c left. left; moments = at_start file.images file is.present_alone }

-- calls that read, and others behind them
pub reads_on : (old mid new : FileView) → OnlyReads old mid → OnlyReads mid new → OnlyReads old new
reads_on old mid new a b = record {
  same = b.same ∙ a.same;
  within = λ c left. a.within c (b.within c left);
  moments = joined old.images old mid new a.moments (weaker mid.images old.images mid new b.moments a.within);
}

-- a call that asks for memory changes no byte
pub reads_by_grow : {T E : Type 0} (end : ℕ) (old new : FileView) (result : Result T E) → IsFile old → Grows end old new result → OnlyReads old new
reads_by_grow end old new result file grows = record {
  same = grows.same;
  within = λ c left. (grows.same_images c).0 left;
  moments = record {
    never_falls = omega (arith, grows.same_clock);
    each = λ c left. file.present_alone c ((grows.same_past old.clock c).0 left);
    earlier = λ t c le left. inl ((grows.same_past t c).0 left);
  };
}

-- ---- calls one after the other

pub lasts_none : (file : FileView) → Lasts file file
lasts_none file = record { faults = omega arith; room = omega arith; quiet = refl; tells = refl }

-- what lasts over two stretches lasts over both
pub lasts_on : (old mid new : FileView) → Lasts old mid → Lasts mid new → Lasts old new
lasts_on old mid new a b = record {
  faults = omega (arith, a.faults, b.faults);
  room = omega (arith, a.room, b.room);
  quiet = b.quiet ∙ a.quiet;
  tells = b.tells ∙ a.tells;
}

pub lasts_grown : {T E : Type 0} (end : ℕ) (old new : FileView) (result : Result T E) → Grows end old new result → Lasts old new
lasts_grown end old new result grows = record {
  faults = omega (arith, grows.faults);
  room = grows.room;
  quiet = grows.quiet;
  tells = ap is_some grows.same;
}

on_ok : {T E : Type 0} (P Q : Type 0) (result : Result T E) → (P → Q) → OnOk result P → OnOk result Q
on_ok P Q (Ok x) f h = f h
on_ok P Q (Err x) f h = tt

on_err : {T E : Type 0} (P Q : Type 0) (result : Result T E) → (P → Q) → OnErr result P → OnErr result Q
on_err P Q (Ok x) f h = tt
on_err P Q (Err x) f h = f h

-- one call is a call
pub one_call : {T E : Type 0} (spent : ℕ) (old new : FileView) (result : Result T E) → spent ≤ 1 → Call spent old new result → Calls 1 old new result
one_call spent old new result few call = record {
  lasts = call.lasts;
  counted = on_ok (new.faults ≡ old.faults) (new.calls ≡ added old.calls 1) result (λ _. call.counted) call.answered;
  no_more = on_err (Rose old.faults new.faults) (CallsUpTo 1 old new) result (λ _. (1, omega arith, call.counted)) call.failed;
  answered = call.answered;
  failed = call.failed;
  spare = omega (arith, call.spare, few);
}

pub added_twice : (a m n : ℕ) → added (added a m) n ≡ added a (m + n)
added_twice a m n = omega arith

-- calls that were answered by Ok, and others behind them
pub calls_on : {T E U F : Type 0} (m n : ℕ) (old mid new : FileView) (x : T) (result : Result U F) → Calls {T = T} {E = E} m old mid (Ok x) → Calls n mid new result → Calls (m + n) old new result
calls_on m n old mid new x result a b = record {
  lasts = lasts_on old mid new a.lasts b.lasts;
  counted = on_ok (new.calls ≡ added mid.calls n) (new.calls ≡ added old.calls (m + n)) result (λ is. is ∙ ap (λ k. added k n) a.counted ∙ added_twice old.calls m n) b.counted;
  no_more = on_err (CallsUpTo n mid new) (CallsUpTo (m + n) old new) result (λ w. (m + w.0, omega (arith, w.1), w.2 ∙ ap (λ k. added k w.0) a.counted ∙ added_twice old.calls m w.0)) b.no_more;
  answered = on_ok (new.faults ≡ mid.faults) (new.faults ≡ old.faults) result (λ is. is ∙ a.answered) b.answered;
  failed = on_err (Rose mid.faults new.faults) (Rose old.faults new.faults) result (λ rose. subst (λ k. Rose k new.faults) a.answered rose) b.failed;
  spare = omega (arith, a.spare, b.spare);
}

-- calls of which one failed, where more were to come
pub calls_cut : {T E U F : Type 0} (m n : ℕ) (old new : FileView) (e : E) (f : F) → Calls {T = T} m old new (Err e) → Calls {T = U} (m + n) old new (Err f)
calls_cut m n old new e f a = record {
  lasts = a.lasts;
  counted = tt;
  no_more = (a.no_more.0, omega (arith, a.no_more.1), a.no_more.2);
  answered = tt;
  failed = a.failed;
  spare = omega (arith, a.spare);
}
