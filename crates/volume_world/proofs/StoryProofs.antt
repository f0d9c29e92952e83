-- A put at eight of nine, and a life of a blob, are legal.
use Rattle.std.proofs.Common.{inl, inr, refl, arith}
use Rattle.std.specs.Prelude.{◌==◌}
use Rattle.volume_world.specs.Examples.{small, nine_units}
use Rattle.volume_world.specs.Stories.{moves_of_put, PutIsAcked, smallest, three_units, moves_of_life, LifeIsLegal}
use Rattle.volume_world.proofs.StorySteps.{story, only_one, none_there, successor_alone, first_alone, live_shown, none_marked, target, copied_settled}

pub put_is_acked : PutIsAcked
put_is_acked = story small nine_units moves_of_put ((
  (refl, ((refl, refl, refl), refl)),
  (
    (refl, (record { first = omega arith; last = omega arith }, (refl, refl, refl, refl, refl))),
    (
      (refl, (refl, omega arith, omega arith), refl),
      (
        (inl refl, (record { unbroken = refl; unreleased = refl; newest = only_one }, (record { held = refl; settled = refl }, (refl, refl))), refl),
        (
          (inl refl, refl),
          (
            (refl, (refl, omega arith, omega arith), refl),
            (
              (inl refl, (record { unbroken = refl; unreleased = refl; newest = only_one }, (record { held = refl; settled = refl }, (refl, refl))), refl),
              (
                (inl refl, refl),
                (
                  (refl, (refl, omega arith, omega arith), refl),
                  (
                    (inl refl, (record { unbroken = refl; unreleased = refl; newest = only_one }, (record { held = refl; settled = refl }, (refl, refl))), refl),
                    (
                      (inl refl, refl),
                      (
                        (refl, (refl, omega arith, omega arith), refl),
                        (
                          (inl refl, (record { unbroken = refl; unreleased = refl; newest = only_one }, (record { held = refl; settled = refl }, (refl, refl))), refl),
                          (
                            (inl refl, refl),
                            (
                              (refl, (refl, omega arith, omega arith), refl),
                              (
                                (inl refl, (record { unbroken = refl; unreleased = refl; newest = only_one }, (record { held = refl; settled = refl }, (refl, refl))), refl),
                                (
                                  (inl refl, refl),
                                  (
                                    (refl, (refl, omega arith, omega arith), refl),
                                    (
                                      (inl refl, (record { unbroken = refl; unreleased = refl; newest = only_one }, (record { held = refl; settled = refl }, (refl, refl))), refl),
                                      (
                                        (inl refl, refl),
                                        (
                                          (refl, (refl, omega arith, omega arith), refl),
                                          (
                                            (inl refl, (record { unbroken = refl; unreleased = refl; newest = only_one }, (record { held = refl; settled = refl }, (refl, refl))), refl),
                                            (
                                              (inl refl, refl),
                                              (
                                                (refl, (refl, omega arith, omega arith), refl),
                                                (
                                                  (inl refl, (record { unbroken = refl; unreleased = refl; newest = only_one }, (record { held = refl; settled = refl }, (refl, refl))), refl),
                                                  (
                                                    (inl refl, refl),
                                                    (
                                                      (refl, (refl, omega arith, omega arith), refl),
                                                      (
                                                        (refl, (refl, omega arith, refl, omega arith, refl)),
                                                        tt,
                                                      ),
                                                    ),
                                                  ),
                                                ),
                                              ),
                                            ),
                                          ),
                                        ),
                                      ),
                                    ),
                                  ),
                                ),
                              ),
                            ),
                          ),
                        ),
                      ),
                    ),
                  ),
                ),
              ),
            ),
          ),
        ),
      ),
    ),
  ),
))

pub life_is_legal : LifeIsLegal
life_is_legal = story smallest three_units moves_of_life ((
  (refl, ((refl, refl, refl), refl)),
  (
    (refl, (record { first = omega arith; last = omega arith }, (refl, refl, refl, refl, refl))),
    (
      (refl, (refl, omega arith, omega arith), refl),
      (
        (inl refl, (record { unbroken = refl; unreleased = refl; newest = only_one }, (record { held = refl; settled = refl }, (refl, refl))), refl),
        (
          (inl refl, refl),
          (
            (refl, (refl, omega arith, omega arith), refl),
            (
              (inl refl, (record { unbroken = refl; unreleased = refl; newest = only_one }, (record { held = refl; settled = refl }, (refl, refl))), refl),
              (
                (inl refl, refl),
                (
                  (refl, (refl, omega arith, omega arith), refl),
                  (
                    (inl refl, (record { unbroken = refl; unreleased = refl; newest = only_one }, (record { held = refl; settled = refl }, (refl, refl))), refl),
                    (
                      (inl refl, refl),
                      (
                        (refl, (refl, omega arith, refl, omega arith, refl)),
                        (
                          (refl, refl),
                          (
                            (refl, (record { some = omega arith; most = omega arith; order = ((λ v h. absurd h), tt); each = λ w h. elim h [ inl e ↦ target w e | inr x ↦ absurd x ] }, (refl, refl, refl, refl), refl)),
                            (
                              (refl, (refl, refl), refl),
                              (
                                (inl refl, (record { unbroken = refl; unreleased = refl; newest = none_there }, refl), refl),
                                (
                                  (inl refl, refl),
                                  (
                                    (refl, (refl, refl), refl),
                                    (
                                      (inl refl, (record { unbroken = refl; unreleased = refl; newest = first_alone }, (record { held = refl; settled = refl }, refl)), refl),
                                      (
                                        (inl refl, refl),
                                        (
                                          (refl, refl, refl),
                                          (
                                            (inl refl, (record { unbroken = refl; unreleased = refl; newest = only_one }, (record { held = refl; settled = refl }, (refl, record { live_order = ((λ n h. absurd h), tt); marked_order = tt; live = λ b. live_shown (b == 1); marked = λ b. none_marked (b == 1) }))), refl),
                                            (
                                              (inl refl, refl),
                                              (
                                                (refl, refl, refl),
                                                (
                                                  (inl refl, (record { unbroken = refl; unreleased = refl; newest = only_one }, (record { held = refl; settled = refl }, (refl, record { live_order = ((λ n h. absurd h), tt); marked_order = tt; live = λ b. live_shown (b == 1); marked = λ b. none_marked (b == 1) }))), refl),
                                                  (
                                                    (inl refl, refl),
                                                    (
                                                      (refl, (refl, inr refl), refl),
                                                      (
                                                        (inl refl, (record { unbroken = refl; unreleased = refl; newest = successor_alone }, (record { held = refl; settled = refl }, (refl, refl))), refl),
                                                        (
                                                          (inl refl, refl),
                                                          (
                                                            (refl, ((refl, copied_settled, refl), refl)),
                                                            (
                                                              (refl, (omega arith, omega arith), refl),
                                                              (
                                                                (inl refl, (record { unbroken = refl; unreleased = refl; newest = first_alone }, (record { held = refl; settled = refl }, tt)), refl),
                                                                (
                                                                  (inl refl, refl),
                                                                  (
                                                                    (refl, ((refl, refl), refl)),
                                                                    (
                                                                      (refl, (record { first = omega arith; last = omega arith }, (refl, refl), refl)),
                                                                      (
                                                                        (refl, (refl, inl (omega arith, refl)), refl),
                                                                        (
                                                                          (inl refl, (record { unbroken = refl; unreleased = refl; newest = successor_alone }, (record { held = refl; settled = refl }, (refl, refl))), refl),
                                                                          (
                                                                            (inl refl, refl),
                                                                            (
                                                                              (refl, (refl, inl (omega arith, refl)), refl),
                                                                              (
                                                                                (inl refl, (record { unbroken = refl; unreleased = refl; newest = only_one }, (record { held = refl; settled = refl }, (refl, refl))), refl),
                                                                                (
                                                                                  (inl refl, refl),
                                                                                  (
                                                                                    (refl, (record { first = omega arith; last = omega arith }, (refl, refl), refl)),
                                                                                    (
                                                                                      (refl, (refl, inl (omega arith, refl)), refl),
                                                                                      (
                                                                                        (inl refl, (record { unbroken = refl; unreleased = refl; newest = only_one }, (record { held = refl; settled = refl }, (refl, refl))), refl),
                                                                                        (
                                                                                          (inl refl, refl),
                                                                                          tt,
                                                                                        ),
                                                                                      ),
                                                                                    ),
                                                                                  ),
                                                                                ),
                                                                              ),
                                                                            ),
                                                                          ),
                                                                        ),
                                                                      ),
                                                                    ),
                                                                  ),
                                                                ),
                                                              ),
                                                            ),
                                                          ),
                                                        ),
                                                      ),
                                                    ),
                                                  ),
                                                ),
                                              ),
                                            ),
                                          ),
                                        ),
                                      ),
                                    ),
                                  ),
                                ),
                              ),
                            ),
                          ),
                        ),
                      ),
                    ),
                  ),
                ),
              ),
            ),
          ),
        ),
      ),
    ),
  ),
))
