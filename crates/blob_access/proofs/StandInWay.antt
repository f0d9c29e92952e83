-- The volume that stands in for a whole one is a way.
use Rattle.std.specs.Prelude.{ℕ, zero, suc, ◌+◌, ◌<◌, List, length}
use Rattle.std.specs.List.{range_with_len}
use Rattle.std.proofs.Common.{inl, inr, refl, arith}
use Rattle.unit_id.specs.Lists.{IsIn}
use Rattle.volume_world.specs.declared.trace.Trace.{Trace}
use Rattle.volume_world.specs.Way.{IsWay}
use Rattle.blob_access.specs.StandIn.{stand_view, stand_first}

below : (n from count : ℕ) → IsIn n (range_with_len from count) → n < from + count
below n from zero h = absurd h
below n from (suc count) (inl e) = omega arith
below n from (suc count) (inr h) = let less = below n (from + 1) count h in omega arith

pub stand_way : (entries : List Trace) → IsWay (stand_view entries)
stand_way entries = record {
  first = stand_first;
  somewhere = λ e. absurd (cc);
  led = λ e w at. absurd at;
  own = record { below = λ n i. let less = below n 0 (length entries) i in omega arith };
  alone = λ e. refl;
}
