-- The worked examples of tasks that can go on hold.
use Rattle.std.proofs.Common.{◌≡◌, ℕ, zero, suc, ◌+◌, ◌<◌, ◌≤◌, inl, inr, Bool, true, false, [], ◌∷◌, refl, sym, ◌∙◌, ap, subst, lit≤, arith}
use Rattle.unit_id.specs.Place.{Location}
use Rattle.unit_id.specs.declared.targets.Target.{Target}
use Rattle.unit_id.proofs.Bools.{and_left, and_right}
use Rattle.unit_id.proofs.Places.{same_place}
use Rattle.std.proofs.lemmas.Bool.{eqb-true, ltb-true}
use Rattle.unit_id.specs.Lists.{IsIn, count_below}
use Rattle.unit_id.specs.Place.{Place}
use Rattle.std.specs.Prelude.{nat_lt, ◌&&◌, ◌==◌}
use Rattle.volume_entry.specs.Manager.{Transfer, Lock, IsDisk, home_at, current, transfers_of, written}
use Rattle.volume_entry.specs.ManagerStep.{AreTargets, IsTarget, is_spent, lock_record}
use Rattle.volume_entry.specs.View.{moves_shown}
use Rattle.volume_entry.specs.Reply.{Reply}
use Rattle.volume_world.specs.Event.{Event}
use Rattle.volume_world.specs.Run.{World}
use Rattle.volume_world.specs.Told.{MayBe}
use Rattle.volume_world.specs.declared.trace.TraceEvent.TheVariants as kept_event
use Rattle.volume_world.specs.declared.trace.TraceReply.TheVariants as kept_reply
use Rattle.volume_world.specs.declared.trace.Trace.{Trace}
use Rattle.volume_world.specs.Way.{IsFirst, shape_of}
use Rattle.migrate_task.specs.StandIn.{stand_homes}
use Rattle.migrate_task.specs.Completion.{IsLockableFor, IsSound, HasOtherDisk, IsLockedFor}
use Rattle.migrate_task.specs.CompletionExamples.{six_made, six_origin, six_locked, first_moves, moves_again, MadeVolumesCanGoOn}

home_is : (i : ℕ) → i < 6 → home_at stand_homes i ≡ record { epoch = 1; disk = i + 1 }
home_is zero h = refl
home_is (suc zero) h = refl
home_is (suc (suc zero)) h = refl
home_is (suc (suc (suc zero))) h = refl
home_is (suc (suc (suc (suc zero)))) h = refl
home_is (suc (suc (suc (suc (suc zero))))) h = refl
home_is (suc (suc (suc (suc (suc (suc i)))))) h = absurd (omega arith)

each_made : (i : ℕ) → i < 6 → six_made.units.is_made (current stand_homes i) ≡ true
each_made zero h = refl
each_made (suc zero) h = refl
each_made (suc (suc zero)) h = refl
each_made (suc (suc (suc zero))) h = refl
each_made (suc (suc (suc (suc zero)))) h = refl
each_made (suc (suc (suc (suc (suc zero))))) h = refl
each_made (suc (suc (suc (suc (suc (suc i)))))) h = absurd (omega arith)

made_there : (p : Place) → six_made.units.is_made p ≡ true → (p.index < 6) × (p ≡ current stand_homes p.index)
made_there p h =
    let below = ltb-true p.index 6 (and_left (nat_lt p.index 6) ((p.epoch == 1) && (p.disk == p.index + 1)) h) in
    let at = and_right (nat_lt p.index 6) ((p.epoch == 1) && (p.disk == p.index + 1)) h in
    let home = home_is p.index below in (
      below,
      same_place p (current stand_homes p.index) refl
          (eqb-true p.epoch 1 (and_left (p.epoch == 1) (p.disk == p.index + 1) at) ∙ sym (ap (λ (l : Location). l.epoch) home))
          (eqb-true p.disk (p.index + 1) (and_right (p.epoch == 1) (p.disk == p.index + 1) at) ∙ sym (ap (λ (l : Location). l.disk) home)),
    )

first : IsFirst (shape_of six_origin) six_origin.start
first = record {
  homes = stand_homes;
  is_made = six_made.units.is_made;
  legal = record {
    count = refl;
    epochs = λ i h. subst (λ (x : Location). (1 ≤ x.epoch) × (x.epoch ≤ 16777215)) (sym (home_is i h)) (lit≤ tt, lit≤ tt);
    disks = λ i h. subst (λ (x : Location). IsDisk (shape_of six_origin) x.disk) (sym (home_is i h)) (record { first = omega arith; last = omega arith });
    apart = λ i j h k e. let same : i + 1 ≡ j + 1 = sym (ap (λ (x : Location). x.disk) (home_is i h)) ∙ e ∙ ap (λ (x : Location). x.disk) (home_is j k) in omega arith;
  };
  made = made_there;
  state = refl;
}

sound : (broken : ℕ → Bool) → 3 + count_below 6 (λ i. broken (home_at stand_homes i).disk) ≤ 5 → IsSound (shape_of six_origin) (record (six_origin.start) { state = record six_made { broken = broken } })
sound broken few = record { unshut = refl; unplanned = refl; few_broken = few; made = λ i below unbroken. each_made i below; sizes = λ bid begun. absurd (cc) }

lockable : (broken : ℕ → Bool) → broken 7 ≡ false → IsLockableFor first_moves (record (six_origin.start) { state = record six_made { broken = broken } })
lockable broken unbroken = record {
  free = refl;
  unshut = refl;
  lease = lit≤ tt;
  disks = refl;
  unbroken = λ t i. elim i [ inl same ↦ ap (λ (x : Target). broken x.disk) same ∙ unbroken | inr none ↦ absurd none ];
  apart = refl;
  unspent = λ t i. elim i [ inl same ↦ ap (λ (x : Target). is_spent six_made.manager.greatest x.index) same | inr none ↦ absurd none ];
}

-- ---- under a lock

abbrev locked_first : World
locked_first = record (six_origin.start) { state = record six_made { manager = written (lock_record 9 first_moves.targets six_made.manager) six_made.manager } }

are_targets : AreTargets (shape_of six_origin) first_moves.targets
are_targets = record {
  some = lit≤ tt;
  most = lit≤ tt;
  order = (λ v i. absurd i, tt);
  each = λ w i. elim i [
    | inl same ↦ subst (IsTarget (shape_of six_origin)) (sym same) (record { index = omega arith; disk = record { first = lit≤ tt; last = lit≤ tt } })
    | inr none ↦ absurd none
  ];
}

abbrev lock_kept : Trace
lock_kept = record { event = kept_event.Lock 9 first_moves.targets; reply = kept_reply.Granted 1 (moves_shown 1 six_made.broken false (transfers_of locked_first.state.manager.lock)) }

locks : MayBe 1 (shape_of six_origin) six_origin.start lock_kept locked_first
locks = record {
  step = record { event = Event.Lock 9 first_moves.targets; reply = Reply.Granted 1 (transfers_of locked_first.state.manager.lock) };
  told = record { event = refl; reply = (refl, refl) };
  leads = inl ((locked_first.state, (refl, (are_targets, (refl, refl, refl, refl), refl)), refl), refl);
}

abbrev break_kept : Trace
break_kept = record { event = kept_event.Break 7; reply = kept_reply.Done }

breaks : MayBe 1 (shape_of six_origin) locked_first break_kept six_locked
breaks = record {
  step = record { event = Event.Break 7; reply = Reply.Done };
  told = record { event = refl; reply = tt };
  leads = inl ((six_locked.state, refl, refl), refl);
}

abbrev its_lock : Lock
its_lock = record { task = 9; number = 1; transfers = record { index = 0; old = record { epoch = 1; disk = 1 }; dest = record { epoch = 2; disk = 7 } } ∷ []; is_swapped = false }

locked_again : IsLockedFor moves_again six_locked
locked_again = record {
  lock = its_lock;
  held = refl;
  own = refl;
  unswapped = refl;
  others = λ t i is_broken. elim i [
    | inl same ↦ subst (HasOtherDisk moves_again six_locked) (ap (λ (x : Transfer). x.index) (sym same)) (record { some = λ e. cc; unbroken = refl; apart = refl; unspent = refl })
    | inr none ↦ absurd none
  ];
  apart = λ t u i k a b same. only t i ∙ sym (only u k);
}
  where
    only : (t : Transfer) → IsIn t its_lock.transfers → t.index ≡ 0
    only t (inl same) = ap (λ (x : Transfer). x.index) same
    only t (inr none) = absurd none

locked_sound : IsSound (shape_of six_origin) six_locked
locked_sound = record { unshut = refl; unplanned = refl; few_broken = lit≤ tt; made = λ i below unbroken. each_made i below; sizes = λ bid begun. absurd (cc) }

pub made_volumes_can_go_on : MadeVolumesCanGoOn
made_volumes_can_go_on = record {
  possible = record { entries = []; first = first; led = refl };
  none = inl (sound (λ disk. false) (lit≤ tt), inl (lockable (λ disk. false) refl));
  two = inl (sound (λ disk. nat_lt disk 3) (lit≤ tt), inl (lockable (λ disk. nat_lt disk 3) refl));
  three = λ h. let few = h.few_broken in omega (arith, few);
  locked = record { entries = lock_kept ∷ break_kept ∷ []; first = first; led = (locked_first, locks, (six_locked, breaks, refl)) };
  again = inl (locked_sound, inr locked_again);
}
