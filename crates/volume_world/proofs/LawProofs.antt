-- The laws of a volume.
use Rattle.std.proofs.Common.{Option, Some, None, ◌≡◌, ℕ, zero, suc, ◌+◌, ◌≤◌, inl, inr, Bool, true, false, List, [], ◌∷◌, map, length, refl, sym, ◌∙◌, ap, subst, cond, arith}
use Rattle.std.specs.Prelude.{◌&&◌, not}
use Rattle.unit_id.specs.Lists.{count_below}
use Rattle.unit_id.specs.Place.{Location, Place}
use Rattle.code_mode.specs.VolumeShape.{VolumeShape, IsVolumeShape}
use Rattle.blob_node.specs.Units.{RowState, is_live, is_deleted}
use Rattle.volume_entry.specs.Manager.{home_at, greatest_at, current}
use Rattle.volume_world.specs.BlobStatus.{lacks, is_bare}
use Rattle.volume_world.specs.Run.{World, Step, Leads, IsLegalRun}
use Rattle.volume_world.specs.Invariant.{Kept}
use Rattle.volume_world.specs.Laws.{StartsKept, IsAlwaysKept, RunsKeep, holds, IsReadable, IsUnreadable}
use Rattle.unit_id.proofs.Bools.{and_left, and_right, and_both, true_not, either}
use Rattle.unit_id.proofs.Counts.{count_either, count_more}
use Rattle.volume_world.proofs.AllMoves.{moves_kept}
use Rattle.volume_world.proofs.EntryMoves.{entry_moves}

pub always_kept : IsAlwaysKept
always_kept shape s t moves good k h = moves_kept shape s moves t good k h

-- the first epochs are the greatest
greatest_first : (homes : List Location) (i : ℕ) → greatest_at (map (λ (home : Location). home.epoch) homes) i ≡ (home_at homes i).epoch
greatest_first [] i = refl
greatest_first (home ∷ homes) zero = refl
greatest_first (home ∷ homes) (suc i) = greatest_first homes i

length_first : (homes : List Location) → length (map (λ (home : Location). home.epoch) homes) ≡ length homes
length_first [] = refl
length_first (home ∷ homes) = ap suc (length_first homes)

-- where nothing is deemed to pass, the count is 0
count_none : (n : ℕ) (f : ℕ → Bool) → count_below n f ≤ n
count_none zero f = omega arith
count_none (suc n) f = go (f n) (count_none n f) where
  go : (a : Bool) → count_below n f ≤ n → cond a 1 0 + count_below n f ≤ suc n
  go true h = omega arith
  go false h = omega arith

pub starts_kept : StartsKept
starts_kept shape homes is_made first at = record {
  placement = record {
    made_index = λ p m. (at p m).0;
    one_disk = λ p q m n e f. ap (λ (x : Place). x.disk) (at p m).1 ∙ ap (λ i. (home_at homes i).disk) e ∙ ap (λ (x : Place). x.disk) (sym (at q n).1);
    current_at_home = λ p m e. ap (λ (x : Place). x.disk) (at p m).1;
    destination_at_home = λ p t m i. absurd i;
    old_at_home = λ p t m i. absurd i;
    homes_apart = first.apart;
    destinations_free = λ w t i. absurd i;
    destinations_apart = λ w t u i. absurd i;
    made_given = λ p m. let e = ap (λ (x : Place). x.epoch) (at p m).1 in let g = greatest_first homes p.index in omega (arith, e, g);
    current_given = λ i below. let g = greatest_first homes i in omega (arith, g);
    destination_given = λ t i. absurd i;
    above_current = λ p m h. let e = ap (λ (x : Place). x.epoch) (at p m).1 in absurd (omega (arith, e, h));
    old_disk_left = λ w. cc;
    old_disk_newest = λ w. cc;
  };
  provenance = record { rows = λ p b. tt; answers = λ g i. absurd i };
  leases = record { seen_end = λ b o. cc; locked_after = λ l. cc; taken_by_current = λ b o. cc; acceptance_answered = λ b i o. cc };
  fencing = record {
    below_is_cut_off = λ p m h. let e = ap (λ (x : Place). x.epoch) (at p m).1 in absurd (omega (arith, e, h));
    below_is_given_up = λ p m h. let e = ap (λ (x : Place). x.epoch) (at p m).1 in absurd (omega (arith, e, h));
    fenced = λ p n e. cc;
    fence_issued = λ p n i. absurd i;
  };
  durability = λ b h. let a = h.acked in cc;
  deletion = record { committed_bare = λ b h. cc; doubtful_bare = λ b e. cc; doubtful_unlocked = λ b e. cc };
  sight = record { few_blind_live = λ l. cc; few_blind_mark = λ l. cc; listings_given = λ l. cc; live_rows_stand = λ u t b i. absurd i; marked_rows_stand = λ u t b i. absurd i };
  succession = record { holds_acked = λ e. cc; holds_committed = λ e. cc; is_current = λ w. cc };
  authority = record {
    requests = record { committed_asked = λ b h. cc; issued = λ r i. absurd i };
    releases = record { released_below = λ p h. cc; doubtful_release_below = λ p h. cc; unit_doubt_issued = λ p item h. cc };
    hearing = record { mark_given = λ m i. absurd i; fenced_given = λ t i. absurd i; released_given = λ t i. absurd i };
    doubt_sound = tt;
  };
  support = record {
    locks = record { lock_number_granted = λ n h. cc; old_units_current = λ u t i. absurd i; destinations_above_current = λ u t i. absurd i; old_units_below_current = λ w. cc };
    leases = record { lease_within_term = omega arith; doubtful_lease_within_term = λ end e. cc };
    asks = record { asked_is_begun = λ b h. cc; doubtful_ask_is_begun = λ b e. cc };
    post = record { given_were_issued = λ g i. absurd i; stale_release_explained = λ p n i. absurd i };
    units = record { fenced_units_have_no_row_doubt = λ p h. refl; released_units_have_no_rows = λ p h b. refl; released_units_have_no_fence = λ p h. refl; released_units_have_no_doubt = λ p h. refl };
  };
  form = record {
    lists = record {
      homes_count = first.count;
      greatest_count = length_first homes ∙ first.count;
      greatest_within = λ i below. let g = greatest_first homes i in let e = (first.epochs i below).1 in omega (arith, g, e);
      time_within = omega arith;
    };
    log = record { doubt_while_shut = λ e. refl };
    lock = record { transfer_index = λ t i. absurd i; one_by_index = λ t u i. absurd i };
    units = record { unmade_has_no_rows = λ p h b. refl; unmade_has_no_fence = λ p h. refl; unmade_is_unreleased = λ p h. refl; unmade_has_no_doubt = λ p h. refl };
  };
}

entry_kept : (shape : VolumeShape) (w : World) (step : Step) (v : World) → IsVolumeShape shape → Kept shape w.state → Leads shape w step v → Kept shape v.state
entry_kept shape w step v good k h = let moves = entry_moves shape w step v h in moves_kept shape w.state moves.0 v.state good k moves.1

run_kept : (shape : VolumeShape) (w : World) (steps : List Step) (v : World) → IsVolumeShape shape → Kept shape w.state → IsLegalRun shape w steps v → Kept shape v.state
run_kept shape w [] v good k h = subst (λ x. Kept shape x.state) (sym h) k
run_kept shape w (step ∷ steps) v good k h = run_kept shape h.0 steps v good (entry_kept shape w step h.0 good k h.1) h.2

pub runs_keep : RunsKeep
runs_keep shape w v steps good k h = run_kept shape w steps v good k h

pub is_readable : IsReadable
is_readable shape s chosen bid good k held unbroken enough =
    let counted = count_either shape.total chosen (lacks s.manager.homes s.broken s.units.row bid) (λ i. chosen i && holds s bid i) (λ i below c. elim (either (is_live (s.units.row (current s.manager.homes i) bid))) [
      | inl live ↦ inr (and_both (chosen i) (holds s bid i) c (and_both (not (s.broken (home_at s.manager.homes i).disk)) (is_live (s.units.row (current s.manager.homes i) bid))
          (true_not (s.broken (home_at s.manager.homes i).disk) (unbroken i below c)) live))
      | inr lost ↦ inl (and_both (not (s.broken (home_at s.manager.homes i).disk)) (not (is_live (s.units.row (current s.manager.homes i) bid)))
          (true_not (s.broken (home_at s.manager.homes i).disk) (unbroken i below c)) (true_not (is_live (s.units.row (current s.manager.homes i) bid)) lost))
    ]) in
    let few = k.durability bid held in
    let o = good.overlap in
    omega (arith, counted, few, enough, o)

pub is_unreadable : IsUnreadable
is_unreadable shape s bid good k committed =
    let fewer = count_more shape.total (holds s bid) (is_bare s.manager.homes s.broken s.units.row bid) (λ i below h.
    and_both (not (s.broken (home_at s.manager.homes i).disk)) (not (is_deleted (s.units.row (current s.manager.homes i) bid)))
    (and_left (not (s.broken (home_at s.manager.homes i).disk)) (is_live (s.units.row (current s.manager.homes i) bid)) h)
    (live_bare (s.units.row (current s.manager.homes i) bid) (and_right (not (s.broken (home_at s.manager.homes i).disk)) (is_live (s.units.row (current s.manager.homes i) bid)) h))) in
    let few = k.deletion.committed_bare bid committed in
    let twice = good.twice in
    omega (arith, fewer, few, twice) where
      live_bare : (row : Option RowState) → is_live row ≡ true → not (is_deleted row) ≡ true
      live_bare None h = refl
      live_bare (Some RowState.Live) h = refl
      live_bare (Some RowState.Marked) h = cc
      live_bare (Some RowState.Gone) h = cc
