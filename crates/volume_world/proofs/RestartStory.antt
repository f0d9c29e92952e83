-- A restart between the listings and the swap is legal.
use Rattle.std.proofs.Common.{◌≡◌, inl, inr, false, refl, sym, subst, arith}
use Rattle.std.specs.Prelude.{◌==◌, ◌++◌}
use Rattle.std.proofs.lemmas.Bool.{eqb-true}
use Rattle.unit_id.proofs.Bools.{either}
use Rattle.volume_entry.specs.Manager.{transfers_of}
use Rattle.volume_entry.specs.Benchmark.{is_unsettled}
use Rattle.volume_entry.specs.ManagerStep.{AreAllSettled}
use Rattle.unit_id.specs.Request.{Request, Answer}
use Rattle.blob_node.specs.UnitAnswer.{Effect}
use Rattle.volume_world.specs.Event.{Event}
use Rattle.volume_world.specs.State.{State}
use Rattle.volume_world.specs.Examples.{first_unit}
use Rattle.volume_world.specs.Stories.{after_all, passed, done, successor, one_live, smallest, three_units, list_moves, moves_of_restart, RestartForgets, done}
use Rattle.volume_world.proofs.StorySteps.{story, only_one, none_there, successor_alone, first_alone, live_shown, none_marked, target, copied}

abbrev heard : State
heard = after_all copied (done Event.RestartManager ++ passed (Request.Fence (first_unit 0) 1) Answer.Done Effect.Started ++ list_moves ++ passed (Request.List successor 1) (Answer.Listing 1 one_live) Effect.Started)

heard_settled : AreAllSettled smallest heard.broken heard.manager
heard_settled bid = elim (either (bid == 1)) [
  | inl one ↦ subst (λ b. is_unsettled smallest heard.manager.homes heard.broken (transfers_of heard.manager.lock) heard.manager.heard b ≡ false) (sym (eqb-true bid 1 one)) refl
  | inr other ↦ rw other refl
]

pub restart_forgets : RestartForgets
restart_forgets = story smallest three_units moves_of_restart ((
  (refl, ((refl, refl, refl), refl)),
  (
    (refl, (record { first = omega arith; last = omega arith }, (refl, refl, refl, refl, refl))),
    (
      (refl, (refl, omega arith, omega arith), refl),
      (
        (inl refl, (record { unbroken = refl; unreleased = refl; newest = only_one }, (record { held = refl; settled = refl }, (refl, refl))), refl),
        (
          (inl refl, refl),
          (
            (refl, (refl, omega arith, omega arith), refl),
            (
              (inl refl, (record { unbroken = refl; unreleased = refl; newest = only_one }, (record { held = refl; settled = refl }, (refl, refl))), refl),
              (
                (inl refl, refl),
                (
                  (refl, (refl, omega arith, omega arith), refl),
                  (
                    (inl refl, (record { unbroken = refl; unreleased = refl; newest = only_one }, (record { held = refl; settled = refl }, (refl, refl))), refl),
                    (
                      (inl refl, refl),
                      (
                        (refl, (refl, omega arith, refl, omega arith, refl)),
                        (
                          (refl, refl),
                          (
                            (refl, (record { some = omega arith; most = omega arith; order = ((λ v h. absurd h), tt); each = λ w h. elim h [ inl e ↦ target w e | inr x ↦ absurd x ] }, (refl, refl, refl, refl), refl)),
                            (
                              (refl, (refl, refl), refl),
                              (
                                (inl refl, (record { unbroken = refl; unreleased = refl; newest = none_there }, refl), refl),
                                (
                                  (inl refl, refl),
                                  (
                                    (refl, (refl, refl), refl),
                                    (
                                      (inl refl, (record { unbroken = refl; unreleased = refl; newest = first_alone }, (record { held = refl; settled = refl }, refl)), refl),
                                      (
                                        (inl refl, refl),
                                        (
                                          (refl, refl, refl),
                                          (
                                            (inl refl, (record { unbroken = refl; unreleased = refl; newest = only_one }, (record { held = refl; settled = refl }, (refl, record { live_order = ((λ n h. absurd h), tt); marked_order = tt; live = λ b. live_shown (b == 1); marked = λ b. none_marked (b == 1) }))), refl),
                                            (
                                              (inl refl, refl),
                                              (
                                                (refl, refl, refl),
                                                (
                                                  (inl refl, (record { unbroken = refl; unreleased = refl; newest = only_one }, (record { held = refl; settled = refl }, (refl, record { live_order = ((λ n h. absurd h), tt); marked_order = tt; live = λ b. live_shown (b == 1); marked = λ b. none_marked (b == 1) }))), refl),
                                                  (
                                                    (inl refl, refl),
                                                    (
                                                      (refl, (refl, inr refl), refl),
                                                      (
                                                        (inl refl, (record { unbroken = refl; unreleased = refl; newest = successor_alone }, (record { held = refl; settled = refl }, (refl, refl))), refl),
                                                        (
                                                          (inl refl, refl),
                                                          (
                                                            (refl, refl),
                                                            (
                                                              (refl, ((refl, refl), refl)),
                                                              (
                                                                (refl, (refl, refl), refl),
                                                                (
                                                                  (inl refl, (record { unbroken = refl; unreleased = refl; newest = first_alone }, (record { held = refl; settled = refl }, refl)), refl),
                                                                  (
                                                                    (inl refl, refl),
                                                                    (
                                                                      (refl, refl, refl),
                                                                      (
                                                                        (inl refl, (record { unbroken = refl; unreleased = refl; newest = only_one }, (record { held = refl; settled = refl }, (refl, record { live_order = ((λ n h. absurd h), tt); marked_order = tt; live = λ b. live_shown (b == 1); marked = λ b. none_marked (b == 1) }))), refl),
                                                                        (
                                                                          (inl refl, refl),
                                                                          (
                                                                            (refl, refl, refl),
                                                                            (
                                                                              (inl refl, (record { unbroken = refl; unreleased = refl; newest = only_one }, (record { held = refl; settled = refl }, (refl, record { live_order = ((λ n h. absurd h), tt); marked_order = tt; live = λ b. live_shown (b == 1); marked = λ b. none_marked (b == 1) }))), refl),
                                                                              (
                                                                                (inl refl, refl),
                                                                                (
                                                                                  (refl, refl, refl),
                                                                                  (
                                                                                    (inl refl, (record { unbroken = refl; unreleased = refl; newest = successor_alone }, (record { held = refl; settled = refl }, (refl, record { live_order = ((λ n h. absurd h), tt); marked_order = tt; live = λ b. live_shown (b == 1); marked = λ b. none_marked (b == 1) }))), refl),
                                                                                    (
                                                                                      (inl refl, refl),
                                                                                      (
                                                                                        (refl, ((refl, heard_settled, refl), refl)),
                                                                                        tt,
                                                                                      ),
                                                                                    ),
                                                                                  ),
                                                                                ),
                                                                              ),
                                                                            ),
                                                                          ),
                                                                        ),
                                                                      ),
                                                                    ),
                                                                  ),
                                                                ),
                                                              ),
                                                            ),
                                                          ),
                                                        ),
                                                      ),
                                                    ),
                                                  ),
                                                ),
                                              ),
                                            ),
                                          ),
                                        ),
                                      ),
                                    ),
                                  ),
                                ),
                              ),
                            ),
                          ),
                        ),
                      ),
                    ),
                  ),
                ),
              ),
            ),
          ),
        ),
      ),
    ),
  ),
))
