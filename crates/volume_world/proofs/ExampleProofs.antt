-- The worked examples hold.
use Rattle.std.proofs.Common.{◌≡◌, ℕ, ◌<◌, ap, ◌≤◌, inl, inr, Bool, true, false, refl, sym, subst, arith, ap}
use Rattle.std.specs.Prelude.{◌||◌, ◌==◌}
use Rattle.std.proofs.lemmas.Bool.{eqb-true}
use Rattle.volume_world.specs.Examples.{TheManagersTour, TheFirstSteps, EachAnswer, TwoAreMoved, EachDoubt, small, two_targets, tenth_broken, copied_again}
use Rattle.unit_id.specs.declared.targets.Target.{Target}
use Rattle.volume_entry.specs.ManagerStep.{IsTarget, AreTargets}
use Rattle.volume_entry.specs.Manager.{transfers_of}
use Rattle.volume_entry.specs.Benchmark.{is_unsettled}
use Rattle.volume_entry.specs.ManagerStep.{AreAllSettled}
use Rattle.unit_id.proofs.Bools.{or_cases}

pub managers_tour : TheManagersTour
managers_tour = record {
  lease = (refl, refl, refl);
  too_early = (refl, refl);
  held = (refl, refl);
  lock = (refl, refl, refl, refl);
  again = (refl, refl);
  not_fenced = (refl, refl);
  not_listed = (refl, refl);
  not_swapped = (refl, refl);
  good = (refl, refl);
  retarget = (refl, refl, refl, refl);
  forgotten = (refl, refl);
}

pub first_steps : TheFirstSteps
first_steps = record {
  barred = λ h. let e = h.0 in cc;
  not_open = (refl, refl);
  begun = (refl, refl, refl, refl, refl);
  twice = (refl, refl);
}

-- the epochs that were made there
up_to_two : (e : ℕ) → (e == 1) || (e == 2) ≡ true → e ≤ 2
up_to_two e h = elim (or_cases (e == 1) (e == 2) h) [
  | inl one ↦ let x = eqb-true e 1 one in omega (arith, x)
  | inr two ↦ let x = eqb-true e 2 two in omega (arith, x)
]

pub each_answer : EachAnswer
each_answer = record {
  done = (record { unbroken = refl; unreleased = refl; newest = up_to_two }, (record { held = refl; settled = refl }, (refl, refl)));
  already = (record { unbroken = refl; unreleased = refl; newest = up_to_two }, (record { held = refl; settled = refl }, (refl, refl)));
  deleted = (record { unbroken = refl; unreleased = refl; newest = up_to_two }, (record { held = refl; settled = refl }, (refl, refl)));
  full = (record { unbroken = refl; unreleased = refl; newest = up_to_two }, (record { held = refl; settled = refl }, (refl, refl)));
  doubted = (record { unbroken = refl; unreleased = refl; newest = up_to_two }, (record { held = refl; settled = refl }, (refl, refl)));
  fenced = (record { unbroken = refl; unreleased = refl; newest = up_to_two }, (record { held = refl; settled = refl }, refl));
  unstarted = (record { unbroken = refl; unreleased = refl; newest = up_to_two }, (refl, refl));
  not_in_doubt = λ h. let e = h.1.0.settled in cc;
  no_unit = (record { unbroken = refl; unreleased = refl; newest = λ e h. let x = up_to_two e h in omega (arith, x) }, refl);
  stale = record { unbroken = refl; made = refl; greatest = up_to_two; outlived = inr (omega arith) };
  released = record { unbroken = refl; made = refl; greatest = up_to_two; outlived = inl refl };
  broken = refl;
}

-- a blob below the seventh is another
below_seven : (bid : ℕ) → bid < 7 → bid == 7 ≡ false
below_seven bid h = go (bid == 7) refl where
  go : (test : Bool) → bid == 7 ≡ test → test ≡ false
  go true e = let x = eqb-true bid 7 e in absurd (omega (arith, x, h))
  go false e = refl

copied_settled : AreAllSettled small tenth_broken copied_again
copied_settled bid = go (bid == 7) refl where
  go : (test : Bool) → bid == 7 ≡ test → is_unsettled small copied_again.homes tenth_broken (transfers_of copied_again.lock) copied_again.heard bid ≡ false
  go true e = subst (λ b. is_unsettled small copied_again.homes tenth_broken (transfers_of copied_again.lock) copied_again.heard b ≡ false) (sym (eqb-true bid 7 e)) refl
  go false e = rw e refl

pub two_are_moved : TwoAreMoved
two_are_moved = record {
  same_disk = (refl, refl);
  lock = (refl, refl, refl, refl);
  not_fenced = (refl, refl);
  not_copied = (refl, record { unsettled = refl; first = λ other h. rw (below_seven other h) refl }, refl);
  broken = (refl, refl);
  not_moved = (refl, refl);
  held = (refl, refl);
  good = (refl, refl);
  retarget = (refl, refl, refl, refl);
  forgotten = (refl, record { unsettled = refl; first = λ other h. rw (below_seven other h) refl }, refl);
  swap = (refl, copied_settled, refl);
  moved = refl;
  not_released = (refl, refl);
  unlock = (refl, refl);
}

two_are_targets : AreTargets small two_targets
two_are_targets = record {
  some = omega arith;
  most = omega arith;
  order = ((λ v h. elim h [ inl e ↦ (let x = ap (λ (t : Target). t.index) e in omega (arith, x)) | inr x ↦ absurd x ]), ((λ v h. absurd h), tt));
  each = λ w h. elim h [
    | inl e ↦ subst (IsTarget small) (sym e) (record { index = omega arith; disk = record { first = omega arith; last = omega arith } })
    | inr (inl e) ↦ subst (IsTarget small) (sym e) (record { index = omega arith; disk = record { first = omega arith; last = omega arith } })
    | inr (inr x) ↦ absurd x
  ];
}

pub each_doubt : EachDoubt
each_doubt = record {
  lease = record { fault = (refl, ((refl, refl), refl)); found = (refl, refl, refl); lost = (refl, refl); shut = λ h. let e = h.0 in cc };
  lock = record { fault = (refl, (two_are_targets, (refl, refl), refl)); found = (refl, refl, refl); lost = (refl, refl); shut = λ h. let e = h.0 in cc };
  retarget = record { fault = (refl, (record { first = omega arith; last = omega arith }, (refl, refl), refl)); found = (refl, refl, refl); lost = (refl, refl); shut = λ h. let e = h.0 in cc };
  swap = record { fault = (refl, ((refl, copied_settled, refl), refl)); found = (refl, refl, refl); lost = (refl, refl); shut = λ h. let e = h.0 in cc };
  unlock = record { fault = (refl, ((refl, refl), refl)); found = (refl, refl, refl); lost = (refl, refl); shut = λ h. let e = h.0 in cc };
  ask = record { fault = (refl, (record { first = omega arith; last = omega arith }, (refl, refl), refl)); found = (refl, refl, refl); lost = (refl, refl); shut = λ h. let e = h.0 in cc };
  commit = record { fault = (refl, (record { first = omega arith; last = omega arith }, (refl, refl), refl)); found = (refl, refl, refl); lost = (refl, refl); shut = λ h. let e = h.0 in cc };
}
