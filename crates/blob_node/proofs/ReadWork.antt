-- What is read of a unit that is at work.
use Rattle.std.proofs.Common.{◌≡◌, ◌∙◌, sym, ap, refl, subst, ℕ, false, Option, None, Some, Result, Ok, Err, inl}
use Rattle.std.specs.Prelude.{option_map, IsErr, not, ◌&&◌, ◌||◌}
use Rattle.unit_id.specs.Place.{Place}
use Rattle.unit_id.specs.declared.request.Request.TheVariants as requests
use Rattle.unit_id.specs.declared.answer.Answer as answered
use Rattle.disk_base.specs.Disk.{FileView}
use Rattle.disk_base.specs.Moments.{weaker}
use Rattle.disk_base.specs.declared.fault.NoMemory.{NoMemory}
use Rattle.shard_record.specs.Rows.{Row, row_at}
use Rattle.shard_record.specs.Rows as rows
use Rattle.chunk_store.specs.Chunk.{shown, HasRecords, IsReadOnly, Gets, got_of}
use Rattle.chunk_store.specs.declared.answer.Got.{Got}
use Rattle.chunk_store.specs.declared.fault.ChunkFault.{ChunkFault}
use Rattle.chunk_store.specs.declared.fault.ChunkFault.TheVariants as faults
use Rattle.blob_node.specs.Units.{UnitRecord, Units}
use Rattle.blob_node.specs.UnitAnswer.{Effect, started}
use Rattle.blob_node.specs.Holding.{Written, Holds, state_of}
use Rattle.blob_node.specs.HeldUnit.{UnitOver, is_released, Held, record_of_doubt, Gives, of_got, WorksOn, WorksBy, WorksFrom, LeavesAtWork}
use Rattle.blob_node.proofs.Holdings.{has_still, stays, waits, none_known}
use Rattle.blob_node.proofs.Working.{image_has}

module _ {E : Type 0} (seen : E → FileView) (old new : UnitOver E) (open_ : old.chunk.is_shut ≡ false) (written : Written) (units : Units) (place : Place) (held : Held seen old written units place)
    (reads : IsReadOnly (shown seen old.chunk) (shown seen new.chunk)) (same_doubt : new.doubt ≡ old.doubt) (same_was : new.was_released ≡ old.was_released) where
  still_open : new.chunk.is_shut ≡ false
  still_open = reads.unwritten.is_shut ∙ open_

  still_has : HasRecords (shown seen new.chunk) written.items
  still_has = has_still (shown seen old.chunk) (shown seen new.chunk) written.items reads.unwritten.unit reads.unwritten.reads (held.file.0 open_).0

  same_release : is_released new ≡ is_released old
  same_release = λ i. same_was i || (not (reads.unwritten.is_shut i) && (reads.unwritten.kept i).is_released)

  none_new : option_map record_of_doubt new.doubt ≡ None
  none_new = ap (option_map record_of_doubt) same_doubt ∙ none_known (shown seen old.chunk) (shown seen new.chunk) (option_map record_of_doubt old.doubt) (is_released old) (is_released new) written units place held open_

  pub read_started : Held seen new written (started place units) place
  read_started =
      subst (λ (o : Option UnitRecord). Holds (shown seen new.chunk) o (is_released new) written (started place units) place) (sym none_new)
      (stays (shown seen old.chunk) (shown seen new.chunk) (option_map record_of_doubt old.doubt) (is_released old) (is_released new) written units place held open_ still_open still_has same_release)

  pub read_nothing : Held seen new written units place
  read_nothing =
      subst (λ (o : Option UnitRecord). Holds (shown seen new.chunk) o (is_released new) written units place) (sym none_new)
      (waits (shown seen old.chunk) (shown seen new.chunk) (option_map record_of_doubt old.doubt) (is_released old) (is_released new) written units place held open_ still_open still_has same_release)

  module _ (bid disk : ℕ) (result : Result answered.Answer NoMemory) where
    row_shown : (row : Option Row) → row_at written.items bid ≡ row → WorksOn seen (requests.Read old.chunk.unit disk bid) written units place (of_got (got_of row)) new
    row_shown None e = record { effect = Effect.Started; works = held.rows_are.rows bid ∙ ap state_of e; bytes = tt; holds = read_started }
    row_shown (Some (rows.Live size bytes)) e = record { effect = Effect.Started; works = held.rows_are.rows bid ∙ ap state_of e; bytes = e; holds = read_started }
    row_shown (Some rows.Marked) e = record { effect = Effect.Started; works = held.rows_are.rows bid ∙ ap state_of e; bytes = tt; holds = read_started }
    row_shown (Some rows.Gone) e = record { effect = Effect.Started; works = held.rows_are.rows bid ∙ ap state_of e; bytes = tt; holds = read_started }

    read_by : (outcome : Result Got ChunkFault) → Gets (row_at written.items bid) outcome → Gives of_got outcome result → WorksBy seen (requests.Read old.chunk.unit disk bid) written units place new result
    read_by (Ok got) is gives =
        subst (WorksBy seen (requests.Read old.chunk.unit disk bid) written units place new) (sym (gives ∙ ap (λ (g : Got). Ok (of_got g)) is))
        (row_shown (row_at written.items bid) refl)
    read_by (Err faults.Fault) is gives =
        subst (WorksBy seen (requests.Read old.chunk.unit disk bid) written units place new) (sym gives) (record { effect = Effect.Started; works = tt; bytes = tt; holds = read_started })
    read_by (Err faults.Memory) is gives = by_result result gives
      where
        by_result : (r : Result answered.Answer NoMemory) → IsErr r → WorksBy seen (requests.Read old.chunk.unit disk bid) written units place new r
        by_result (Err e) h = read_nothing
        by_result (Ok a) h = absurd (not_err a h)
          where
            not_err : (a : answered.Answer) → IsErr {T = answered.Answer} {E = NoMemory} (Ok a) → ⊥
            not_err a e = cc
    read_by (Err _) is gives = absurd is

    pub read_works : (outcome : Result Got ChunkFault) → Gets (row_at written.items bid) outcome → Gives of_got outcome result
        → WorksFrom seen (requests.Read old.chunk.unit disk bid) written units place old new result
    read_works outcome is gives = (
      read_by outcome is gives,
      weaker (seen old.chunk.log.file).images (LeavesAtWork (requests.Read old.chunk.unit disk bid) old.chunk.unit written.items units place) (seen old.chunk.log.file) (seen new.chunk.log.file) reads.unwritten.reads.moments
          (λ c left. inl (image_has (shown seen old.chunk) written.items (held.file.0 open_).0 c left)),
    )
