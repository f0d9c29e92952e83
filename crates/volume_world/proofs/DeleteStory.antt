-- A delete with a late put is legal, and the blob stays away.
use Rattle.std.proofs.Common.{inl, inr, refl, arith}
use Rattle.volume_world.specs.Stories.{smallest, three_units, moves_of_delete, LatePutIsDeleted}
use Rattle.volume_world.proofs.StorySteps.{story, only_one}

pub late_put_is_deleted : LatePutIsDeleted
late_put_is_deleted = record {
  legal = story smallest three_units moves_of_delete ((
    (refl, ((refl, refl, refl), refl)),
    (
      (refl, (record { first = omega arith; last = omega arith }, (refl, refl, refl, refl, refl))),
      (
        (refl, (refl, omega arith, omega arith), refl),
        (
          (inl refl, (record { unbroken = refl; unreleased = refl; newest = only_one }, (record { held = refl; settled = refl }, (refl, refl))), refl),
          (
            (inl refl, refl),
            (
              (refl, (refl, omega arith, omega arith), refl),
              (
                (inl refl, (record { unbroken = refl; unreleased = refl; newest = only_one }, (record { held = refl; settled = refl }, (refl, refl))), refl),
                (
                  (inl refl, refl),
                  (
                    (refl, (refl, omega arith, omega arith), refl),
                    (
                      (inl refl, (record { unbroken = refl; unreleased = refl; newest = only_one }, (record { held = refl; settled = refl }, (refl, refl))), refl),
                      (
                        (inl refl, refl),
                        (
                          (refl, (refl, omega arith, refl, omega arith, refl)),
                          (
                            (refl, (record { first = omega arith; last = omega arith }, (refl, refl), refl)),
                            (
                              (refl, (refl, inl (omega arith, refl)), refl),
                              (
                                (inl refl, (record { unbroken = refl; unreleased = refl; newest = only_one }, (record { held = refl; settled = refl }, (refl, refl))), refl),
                                (
                                  (inl refl, refl),
                                  (
                                    (refl, (refl, inl (omega arith, refl)), refl),
                                    (
                                      (inl refl, (record { unbroken = refl; unreleased = refl; newest = only_one }, (record { held = refl; settled = refl }, (refl, refl))), refl),
                                      (
                                        (inl refl, refl),
                                        (
                                          (refl, (record { first = omega arith; last = omega arith }, (refl, refl), refl)),
                                          (
                                            (inr (inr (inr (inr (inl refl)))), (record { unbroken = refl; unreleased = refl; newest = only_one }, (record { held = refl; settled = refl }, (refl, refl))), refl),
                                            (
                                              (refl, (refl, inl (omega arith, refl)), refl),
                                              (
                                                (inl refl, (record { unbroken = refl; unreleased = refl; newest = only_one }, (record { held = refl; settled = refl }, (refl, refl))), refl),
                                                (
                                                  (inl refl, refl),
                                                  (
                                                    (inr (inr (inr (inr (inr (inl refl))))), (record { unbroken = refl; unreleased = refl; newest = only_one }, (record { held = refl; settled = refl }, (refl, refl))), refl),
                                                    tt,
                                                  ),
                                                ),
                                              ),
                                            ),
                                          ),
                                        ),
                                      ),
                                    ),
                                  ),
                                ),
                              ),
                            ),
                          ),
                        ),
                      ),
                    ),
                  ),
                ),
              ),
            ),
          ),
        ),
      ),
    ),
  ));
  gone = refl;
  marked = refl;
  left = refl;
}
