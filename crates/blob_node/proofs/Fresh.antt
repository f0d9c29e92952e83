-- A unit that was just made.
use Rattle.std.proofs.Common.{◌∙◌, sym, ap, refl, ℕ, true, false, [], Option, None}
use Rattle.std.specs.Prelude.{not, ◌&&◌}
use Rattle.std.specs.Ordering.{nat_cmp}
use Rattle.std.specs.FinMap.{get-empty}
use Rattle.unit_id.specs.Place.{Place}
use Rattle.disk_base.specs.Disk.{FileView}
use Rattle.chunk_store.specs.Chunk.{ChunkOver, shown}
use Rattle.chunk_store.proofs.ChunkLaws.{has_kinds}
use Rattle.blob_node.specs.Units.{RowState, Units, with_unit}
use Rattle.blob_node.specs.Holding.{nothing_written, state_of}
use Rattle.blob_node.specs.HeldUnit.{Held, IsFresh}
use Rattle.blob_node.proofs.Lookups.{there_now}
use Rattle.blob_node.proofs.Holdings.{never_both}

pub fresh_held : {E : Type 0} (seen : E → FileView) (chunk : ChunkOver E) → IsFresh seen chunk → (units : Units) (place : Place) → Held seen (record { chunk = chunk; doubt = None; was_released = false }) nothing_written (with_unit place units) place
fresh_held seen chunk fresh units place = record {
  made = there_now place true units.is_made;
  rows_are = record {
    rows = λ bid. ap (λ (f : ℕ → Option RowState). f bid) (there_now place (λ b. None) units.row) ∙ ap state_of (sym (get-empty nat_cmp bid));
    fence_is = there_now place None units.fence;
    released = there_now place false units.is_released;
  };
  shut = λ shut. absurd (never_both chunk.is_shut fresh.open_ shut);
  released = (λ i. not (fresh.open_ i) && chunk.kept.is_released) ∙ (has_kinds (shown seen chunk) [] fresh.sound fresh.open_ fresh.empty).released ∙ sym (there_now place false units.is_released);
  doubted = there_now place None units.doubt;
  doubt_is = refl;
  new = tt;
  file = (λ _. (fresh.empty, refl), λ shut. absurd (never_both chunk.is_shut fresh.open_ shut));
}
