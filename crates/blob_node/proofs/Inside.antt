-- A request to a unit whose chunk was shut: a start and then the work. What it answers, and what a crash inside it leaves.
use Rattle.std.proofs.Common.{◌≡◌, subst, ℕ, Bool, true, false, None, Some, Result, Ok, Err, inl, inr}
use Rattle.std.specs.Prelude.{option_map}
use Rattle.unit_id.specs.UnitName.{Name}
use Rattle.unit_id.specs.Place.{Place}
use Rattle.unit_id.specs.declared.request.Request as sent
use Rattle.unit_id.specs.declared.answer.Answer as answered
use Rattle.disk_base.specs.Disk.{FileView}
use Rattle.disk_base.specs.Moments.{weaker, joined}
use Rattle.disk_base.specs.declared.fault.NoMemory.{NoMemory}
use Rattle.chunk_store.specs.Chunk.{shown}
use Rattle.blob_node.specs.Units.{Units}
use Rattle.blob_node.specs.UnitAnswer.{settled}
use Rattle.blob_node.specs.Holding.{Written, Says}
use Rattle.blob_node.specs.HeldUnit.{UnitOver, is_released, Held, record_of_doubt, LeavesAtWork, LeavesInside, GoesOnBy, GoesOn, Restarted, StartsThrough, written_settled, ServesBy, Served}
use Rattle.blob_node.proofs.Holdings.{none_there}

same_found : (a b : Bool) → Some a ≡ Some b → a ≡ b
same_found a b e = cc

module _ {E : Type 0} (seen : E → FileView) (request : sent.Request) (have : ℕ) where
  none_known : (unit : UnitOver E) (written : Written) (units : Units) (place : Place) → unit.chunk.is_shut ≡ false → Held seen unit written units place → units.doubt place ≡ None
  none_known unit written units place open_ held =
      none_there (shown seen unit.chunk) (shown seen unit.chunk) (option_map record_of_doubt unit.doubt) (is_released unit) (is_released unit) written units place held open_

  started_by : (mid new : UnitOver E) (found : Bool) (written : Written) (units : Units) (place : Place) → (settled place found units).doubt place ≡ None → (result : Result answered.Answer NoMemory)
      → GoesOnBy seen request have (written_settled found written) (settled place found units) place new result → ServesBy seen request have written units place (Some found) new result
  started_by mid new found written units place none (Ok answer) (inl is) = inr (inl (record { released = is.0; stale = is.1; holds = is.2 }))
  started_by mid new found written units place none (Ok answer) (inr is) = inr (inr (record { unreleased = is.0; settled_is = none; works = is.1 }))
  started_by mid new found written units place none (Err e) held = held

  pub serves_started : (old mid new : UnitOver E) (found : Bool) (result : Result answered.Answer NoMemory) → old.chunk.is_shut ≡ true → mid.chunk.is_shut ≡ false → mid.chunk.unit ≡ old.chunk.unit
      → Restarted seen old mid (Ok found) → StartsThrough seen old mid → GoesOn seen request have mid new result → Served seen request have old new (Some found) result
  serves_started old mid new found result shut open_ own restarted through goes = λ written units place held.
      let s = restarted written units place held in
      let g = goes (written_settled found written) (settled place found units) place s.0 in
      let inside = LeavesInside request old.chunk.unit written units place (Some found) in
      let before = seen old.chunk.log.file in let between = seen mid.chunk.log.file in let after = seen new.chunk.log.file in (
        started_by mid new found written units place (none_known mid (written_settled found written) (settled place found units) place open_ s.0) result g.0,
        λ e. s.1 (same_found found true e),
        λ e. held.shut shut,
        joined inside before between after
            (weaker (Says old.chunk.unit written.items written.doubt) inside before between (through written units place held) (λ c is. inl is))
            (weaker (LeavesAtWork request mid.chunk.unit (written_settled found written).items (settled place found units) place) inside between after g.1
            (λ c is. inr (subst (λ (n : Name). LeavesAtWork request n (written_settled found written).items (settled place found units) place c) own is))),
      )
