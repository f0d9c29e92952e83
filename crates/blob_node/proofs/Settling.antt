-- A start of a unit's chunk, which settles a record in doubt.
use Rattle.std.proofs.Common.{◌≡◌, ◌⊎◌, ◌∙◌, sym, ap, refl, subst, ℕ, Bool, true, false, List, [], ◌∷◌, ◌++◌, Option, None, Some, Result, Ok, Err, IfSome, IsSomeAnd, inl, inr}
use Rattle.std.specs.Prelude.{option_map, is_some, not, ◌&&◌, ◌||◌}
use Rattle.std.specs.FinMap as map
use Rattle.unit_id.specs.Place.{Place}
use Rattle.unit_id.specs.UnitName.{Name}
use Rattle.disk_base.specs.Disk.{FileView, IsFile, IsWithin, LeavesExactly, AtEachMoment}
use Rattle.disk_base.specs.Moments.{weaker}
use Rattle.shard_record.specs.Rows.{rows_after}
use Rattle.shard_record.specs.declared.record.ShardRecord.{ShardRecord}
use Rattle.chunk_store.specs.Kept.{KeptRows, row_of, kind_of, shut_after}
use Rattle.chunk_store.specs.Records.{IsChunkOf, HasKinds}
use Rattle.chunk_store.specs.Chunk.{ChunkView, shown, IsSound, Remembers, HasRecords, StartEnds, StartsWith}
use Rattle.chunk_store.specs.declared.answer.RowKind.{RowKind}
use Rattle.chunk_store.specs.declared.answer.RowKind.TheVariants as kinds
use Rattle.chunk_store.specs.declared.fault.ChunkFault.{ChunkFault}
use Rattle.chunk_store.specs.declared.fault.ChunkFault.TheVariants as faults
use Rattle.chunk_store.proofs.ChunkLaws.{has_kinds}
use Rattle.chunk_store.proofs.Opened.{told_at}
use Rattle.chunk_store.proofs.Finding.{some_and}
use Rattle.blob_node.specs.Units.{RowState, UnitRecord, Units, is_deleted, with_at, with_record, after_mark, after_shard, after_free, after_fence}
use Rattle.blob_node.specs.UnitAnswer.{settled_at, settled, with_written}
use Rattle.blob_node.specs.Holding.{Written, Holds, HasRows, IsNew, Says, without_bytes, with_item}
use Rattle.blob_node.specs.HeldUnit.{UnitOver, is_released, Held, record_of_doubt, is_kind, is_found, written_settled, StartsBy}
use Rattle.blob_node.specs.declared.held_unit.Doubt.{Doubt}
use Rattle.blob_node.specs.declared.held_unit.Doubt.TheVariants as doubts_
use Rattle.blob_node.proofs.Lookups.{there_now, row_here}
use Rattle.blob_node.proofs.Holdings.{never_both, record_made, record_doubt, new_still}
use Rattle.blob_node.proofs.RowsLaws.{more_rows}
use Rattle.blob_node.proofs.Working.{state_of_kind, same_state}

-- ---- kinds

kind_is : (k : Option RowKind) (want : RowKind) → state_of_kind k ≡ state_of_kind (Some want) → is_kind k (Some want) ≡ true
kind_is (Some kinds.Live) kinds.Live e = refl
kind_is (Some kinds.Marked) kinds.Marked e = refl
kind_is (Some kinds.Gone) kinds.Gone e = refl
kind_is None kinds.Live e = cc
kind_is None kinds.Marked e = cc
kind_is None kinds.Gone e = cc
kind_is (Some kinds.Live) kinds.Marked e = cc
kind_is (Some kinds.Live) kinds.Gone e = cc
kind_is (Some kinds.Marked) kinds.Live e = cc
kind_is (Some kinds.Marked) kinds.Gone e = cc
kind_is (Some kinds.Gone) kinds.Live e = cc
kind_is (Some kinds.Gone) kinds.Marked e = cc

no_live : (k : Option RowKind) → state_of_kind k ≡ None → is_kind k (Some kinds.Live) ≡ false
no_live None e = refl
no_live (Some kinds.Live) e = cc
no_live (Some kinds.Marked) e = refl
no_live (Some kinds.Gone) e = refl

no_mark : (k : Option RowKind) → is_deleted (state_of_kind k) ≡ false → is_kind k (Some kinds.Marked) ≡ false
no_mark None e = refl
no_mark (Some kinds.Live) e = refl
no_mark (Some kinds.Marked) e = cc
no_mark (Some kinds.Gone) e = refl

no_gone : (k : Option RowKind) → state_of_kind k ≡ Some RowState.Marked → is_kind k (Some kinds.Gone) ≡ false
no_gone None e = refl
no_gone (Some kinds.Live) e = refl
no_gone (Some kinds.Marked) e = refl
no_gone (Some kinds.Gone) e = cc

marked_now : (row : Option RowState) → is_deleted row ≡ false → after_mark row ≡ Some RowState.Marked
marked_now None e = refl
marked_now (Some RowState.Live) e = refl
marked_now (Some RowState.Marked) e = cc
marked_now (Some RowState.Gone) e = cc

-- ---- what the file says

module _ (chunk : ChunkView) (doubt : Option UnitRecord) (flag : Bool) (written : Written) (units : Units) (place : Place) (holds : Holds chunk doubt flag written units place) where
  -- the file says that the record in doubt was written, or not
  pub record SaysIt : Type 0 where
    pub found : Bool
    pub says : IsSomeAnd chunk.file.content (λ file. IsChunkOf file chunk.unit (written_settled found written).items)
    pub there : found ≡ true → is_some written.doubt ≡ true

  by_doubt : (d : Option ShardRecord) (file : List ℕ) → written.doubt ≡ d → chunk.file.content ≡ Some file → Says chunk.unit written.items d file → SaysIt
  by_doubt None file none is says = record { found = false; says = some_and chunk.file.content file (λ f. IsChunkOf f chunk.unit written.items) is says; there = λ e. absurd (never_both false refl e) }
  by_doubt (Some item) file some is (inl without) = record { found = false; says = some_and chunk.file.content file (λ f. IsChunkOf f chunk.unit written.items) is without; there = λ e. absurd (never_both false refl e) }
  by_doubt (Some item) file some is (inr with_) = record {
    found = true;
    says = some_and chunk.file.content file (λ f. IsChunkOf f chunk.unit (with_item written.items written.doubt)) is
        (subst (λ (o : Option ShardRecord). IsChunkOf file chunk.unit (with_item written.items o)) (sym some) with_);
    there = λ e. ap is_some some;
  }

  by_shut : (shut : Bool) → chunk.is_shut ≡ shut → SaysIt
  by_shut true e =
      let at = told_at chunk.file.content (Says chunk.unit written.items written.doubt) (holds.file.1 e).0 in
      by_doubt written.doubt at.value refl at.is at.holds
  by_shut false e =
      let has = holds.file.0 e in
      let at = told_at chunk.file.content (λ file. IsChunkOf file chunk.unit written.items × LeavesExactly file chunk.file.images) has.0 in
      by_doubt None at.value has.1 at.is at.holds.0

  pub says_it : SaysIt
  says_it = by_shut chunk.is_shut refl

-- ---- what a crash leaves

-- the records, without the one in doubt or with it
pub crash_leaves : (chunk : ChunkView) (doubt : Option UnitRecord) (flag : Bool) (written : Written) (units : Units) (place : Place) → Holds chunk doubt flag written units place → IsWithin chunk.file.images (Says chunk.unit written.items written.doubt)
crash_leaves chunk doubt flag written units place holds = by chunk.is_shut refl where
  by : (shut : Bool) → chunk.is_shut ≡ shut → IsWithin chunk.file.images (Says chunk.unit written.items written.doubt)
  by true e = (holds.file.1 e).1
  by false e = λ c left.
      let has = holds.file.0 e in
      let at = told_at chunk.file.content (λ file. IsChunkOf file chunk.unit written.items × LeavesExactly file chunk.file.images) has.0 in
      subst (λ (o : Option ShardRecord). Says chunk.unit written.items o c) (sym has.1) (subst (λ (file : List ℕ). IsChunkOf file chunk.unit written.items) (sym (at.holds.1 c left)) at.holds.0)

module _ (unit : Name) (written : Written) where
  abbrev written_items : Bool → Option ShardRecord → List ShardRecord
  written_items true d = with_item written.items d
  written_items false d = written.items

  says_of : (found : Bool) (d : Option ShardRecord) (file : List ℕ) → (found ≡ true → is_some d ≡ true) → IsChunkOf file unit (written_items found d) → Says unit written.items d file
  says_of false None file up is = is
  says_of false (Some item) file up is = inl is
  says_of true None file up is = absurd (never_both false refl (up refl))
  says_of true (Some item) file up is = inr is

  same_items : (found : Bool) → (written_settled found written).items ≡ written_items found written.doubt
  same_items true = refl
  same_items false = refl

  says_settled : (found : Bool) → (found ≡ true → is_some written.doubt ≡ true) → (file : List ℕ) → IsChunkOf file unit (written_settled found written).items → Says unit written.items written.doubt file
  says_settled found up file is = says_of found written.doubt file up (subst (λ (items : List ShardRecord). IsChunkOf file unit items) (same_items found) is)

-- and so at each moment of a start
pub starts_through : (old new : ChunkView) (doubt : Option UnitRecord) (flag : Bool) (written : Written) (units : Units) (place : Place) (holds : Holds old doubt flag written units place) (says : SaysIt old doubt flag written units place holds)
    → new.unit ≡ old.unit → (result : Result (Unit {0}) ChunkFault) → StartsWith (written_settled says.found written).items old new result → AtEachMoment old.file new.file (Says old.unit written.items written.doubt)
starts_through old new doubt flag written units place holds says own result starts =
    weaker (λ image. old.file.images image ⊎ IsChunkOf image new.unit (written_settled says.found written).items) (Says old.unit written.items written.doubt) old.file new.file starts.any_moment by
  where
    by : (c : List ℕ) → old.file.images c ⊎ IsChunkOf c new.unit (written_settled says.found written).items → Says old.unit written.items written.doubt c
    by c (inl past) = crash_leaves old doubt flag written units place holds c past
    by c (inr is) = says_settled old.unit written says.found says.there c (subst (λ (u : Name). IsChunkOf c u (written_settled says.found written).items) own is)

or_flag : (w s k u v : Bool) → w ≡ u → s ≡ false → k ≡ v → (u ≡ true → v ≡ true) → w || (not s && k) ≡ v
or_flag true s k u v e f g up = sym (up (sym e))
or_flag false false k u v e f g up = g
or_flag false true k u v e f g up = absurd (never_both true f refl)

-- memory after a start that left the chunk as it was, or shut
still_flag : (w s k t : Bool) → (t ≡ false → s ≡ false) → (w || (not s && k)) || (not t && k) ≡ w || (not s && k)
still_flag true s k t f = refl
still_flag false false k true f = or_right_false k
  where
    or_right_false : (b : Bool) → b || false ≡ b
    or_right_false true = refl
    or_right_false false = refl
still_flag false false k false f = or_same k
  where
    or_same : (b : Bool) → b || b ≡ b
    or_same true = refl
    or_same false = refl
still_flag false true k true f = refl
still_flag false true k false f = absurd (never_both true (f refl) refl)

-- ---- what memory finds

module _ (kept : KeptRows) (units : Units) (place : Place) where
  -- memory keeps what the protocol knows
  pub record Knows (now : Units) : Type 0 where
    pub rows_now : (bid : ℕ) → state_of_kind (kind_of (row_of kept bid)) ≡ now.row place bid
    pub fence_now : kept.fence ≡ now.fence place
    pub released_now : kept.is_released ≡ now.is_released place

  not_found : (d : Option Doubt) → IfSome (option_map record_of_doubt d) (λ r. IsNew r units place × (units.is_released place ≡ false)) → Knows units → is_found d kept ≡ false
  not_found None new knows = refl
  not_found (Some (doubts_.Shard bid)) new knows = no_live (kind_of (row_of kept bid)) (knows.rows_now bid ∙ new.0)
  not_found (Some (doubts_.Mark bid)) new knows = no_mark (kind_of (row_of kept bid)) (ap is_deleted (knows.rows_now bid) ∙ new.0)
  not_found (Some (doubts_.Free bid)) new knows = no_gone (kind_of (row_of kept bid)) (knows.rows_now bid ∙ new.0)
  not_found (Some (doubts_.Fence lock)) new knows = ap is_some (knows.fence_now ∙ new.0)
  not_found (Some doubts_.Release) new knows = knows.released_now ∙ new.0

  does_find : (d : Doubt) → IsNew (record_of_doubt d) units place → Knows (with_record place (record_of_doubt d) (settled_at place units)) → is_found (Some d) kept ≡ true
  does_find (doubts_.Shard bid) new knows = kind_is (kind_of (row_of kept bid)) kinds.Live (knows.rows_now bid ∙ row_here place bid (after_shard (units.row place bid)) units.row ∙ ap after_shard new)
  does_find (doubts_.Mark bid) new knows = kind_is (kind_of (row_of kept bid)) kinds.Marked (knows.rows_now bid ∙ row_here place bid (after_mark (units.row place bid)) units.row ∙ marked_now (units.row place bid) new)
  does_find (doubts_.Free bid) new knows = kind_is (kind_of (row_of kept bid)) kinds.Gone (knows.rows_now bid ∙ row_here place bid (after_free (units.row place bid)) units.row ∙ ap after_free new)
  does_find (doubts_.Fence lock) new knows = ap is_some (knows.fence_now ∙ there_now place (after_fence lock (units.fence place)) units.fence ∙ ap (after_fence lock) new)
  does_find doubts_.Release new knows = knows.released_now ∙ there_now place true units.is_released

-- ---- a start

module _ {E : Type 0} (seen : E → FileView) (old new : UnitOver E) (written : Written) (units : Units) (place : Place) (held : Held seen old written units place) (own : new.chunk.unit ≡ old.chunk.unit)
    (same_was : new.was_released ≡ is_released old) (sound : IsSound (shown seen new.chunk)) where
  was_flag : new.was_released ≡ units.is_released place
  was_flag = same_was ∙ held.released

  knows_by : (items : List ShardRecord) (now : Units) → HasRows (rows_after items) (now.row place) (now.fence place) (now.is_released place) → HasKinds new.chunk.kept (rows_after items) → Knows new.chunk.kept units place now
  knows_by items now rows kinds_ = record {
    rows_now = λ bid. ap state_of_kind (kinds_.kinds bid) ∙ sym (same_state (map.get (rows_after items).rows bid)) ∙ sym (rows.rows bid);
    fence_now = kinds_.fence ∙ sym rows.fence_is;
    released_now = kinds_.released ∙ sym rows.released;
  }

  module _ (open_ : new.chunk.is_shut ≡ false) (none : new.doubt ≡ None) where
    -- the doubt's record isn't there
    missing : HasRecords (shown seen new.chunk) written.items → Held seen new (written_settled false written) (settled place false units) place × (is_found old.doubt new.chunk.kept ≡ false)
    missing has =
        let knows = knows_by written.items units held.rows_are (has_kinds (shown seen new.chunk) written.items sound open_ has) in (
          subst (λ (o : Option Doubt). Holds (shown seen new.chunk) (option_map record_of_doubt o) (is_released new) (written_settled false written) (settled place false units) place) (sym none)
              (record {
                made = held.made;
                rows_are = held.rows_are;
                shut = λ shut. absurd (never_both new.chunk.is_shut open_ shut);
                released = or_flag new.was_released new.chunk.is_shut new.chunk.kept.is_released (units.is_released place) (units.is_released place) was_flag open_ knows.released_now (λ e. e);
                doubted = there_now place None units.doubt;
                doubt_is = refl;
                new = tt;
                file = (λ _. (has, refl), λ shut. absurd (never_both new.chunk.is_shut open_ shut));
              }),
          not_found new.chunk.kept units place old.doubt held.new knows,
        )

    module _ (item : ShardRecord) (is : written.doubt ≡ Some item) where
      fresh : IsNew (without_bytes item) units place × (units.is_released place ≡ false)
      fresh = subst (λ (o : Option UnitRecord). IfSome o (λ r. IsNew r units place × (units.is_released place ≡ false))) (sym held.doubt_is ∙ ap (option_map without_bytes) is) held.new

      there : units.doubt place ≡ Some (without_bytes item)
      there = held.doubted ∙ sym held.doubt_is ∙ ap (option_map without_bytes) is

      abbrev after_ : Units
      after_ = with_record place (without_bytes item) (settled_at place units)

      rows_then : HasRows (rows_after (written.items ++ item ∷ [])) (after_.row place) (after_.fence place) (after_.is_released place)
      rows_then = more_rows place written.items (settled_at place units) item fresh.1 held.rows_are

      finds : (d : Option Doubt) → old.doubt ≡ d → Knows new.chunk.kept units place after_ → is_found d new.chunk.kept ≡ true
      finds None e knows = absurd (apart (sym (ap (option_map record_of_doubt) e) ∙ sym held.doubt_is ∙ ap (option_map without_bytes) is))
        where
          apart : None ≡ Some (without_bytes item) → ⊥
          apart h = cc
      finds (Some d) e knows =
          let same : record_of_doubt d ≡ without_bytes item = one (sym (ap (option_map record_of_doubt) e) ∙ sym held.doubt_is ∙ ap (option_map without_bytes) is) in
          does_find new.chunk.kept units place d (subst (λ (r : UnitRecord). IsNew r units place) (sym same) fresh.0)
          (subst (λ (r : UnitRecord). Knows new.chunk.kept units place (with_record place r (settled_at place units))) (sym same) knows)
        where
          one : Some (record_of_doubt d) ≡ Some (without_bytes item) → record_of_doubt d ≡ without_bytes item
          one h = cc

      -- the doubt's record is there
      present : HasRecords (shown seen new.chunk) (written.items ++ item ∷ []) → Held seen new (written_settled true written) (settled place true units) place × (is_found old.doubt new.chunk.kept ≡ true)
      present has =
          let knows = knows_by (written.items ++ item ∷ []) after_ rows_then (has_kinds (shown seen new.chunk) (written.items ++ item ∷ []) sound open_ has) in (
            subst (λ (o : Option Doubt). Holds (shown seen new.chunk) (option_map record_of_doubt o) (is_released new) (written_settled true written) (settled place true units) place) (sym none)
                (subst (λ (o : Option UnitRecord). Holds (shown seen new.chunk) None (is_released new) (written_settled true written) (with_written place o (settled_at place units)) place) (sym there)
                (subst (λ (o : Option ShardRecord). Holds (shown seen new.chunk) None (is_released new) (record { items = with_item written.items o; doubt = None }) after_ place) (sym is)
                (record {
                  made = record_made place place (without_bytes item) (settled_at place units) ∙ held.made;
                  rows_are = rows_then;
                  shut = λ shut. absurd (never_both new.chunk.is_shut open_ shut);
                  released = or_flag new.was_released new.chunk.is_shut new.chunk.kept.is_released (units.is_released place) (after_.is_released place) was_flag open_ knows.released_now (λ e. absurd (never_both (units.is_released place) fresh.1 e));
                  doubted = record_doubt place place (without_bytes item) (settled_at place units) ∙ there_now place None units.doubt;
                  doubt_is = refl;
                  new = tt;
                  file = (λ _. (has, refl), λ shut. absurd (never_both new.chunk.is_shut open_ shut));
                }))),
            finds old.doubt refl knows,
          )

    some_item : (d : Option ShardRecord) → is_some d ≡ true → (item : ShardRecord) × (d ≡ Some item)
    some_item None e = absurd (never_both false refl e)
    some_item (Some item) e = (item, refl)

    by_found : (found : Bool) → (found ≡ true → is_some written.doubt ≡ true) → HasRecords (shown seen new.chunk) (written_settled found written).items → Held seen new (written_settled found written) (settled place found units) place × (is_found old.doubt new.chunk.kept ≡ found)
    by_found false up has = missing has
    by_found true up has =
        let w = some_item written.doubt (up refl) in
        present w.0 w.1 (subst (λ (o : Option ShardRecord). HasRecords (shown seen new.chunk) (with_item written.items o)) w.1 has)

    some_known : (d : Option ShardRecord) → written.doubt ≡ d → is_some d ≡ true → is_some (units.doubt place) ≡ true
    some_known None e h = absurd (never_both false refl h)
    some_known (Some item) e h = ap is_some (there item e)

    pub starts_ok : (says : SaysIt (shown seen old.chunk) (option_map record_of_doubt old.doubt) (is_released old) written units place held)
        → StartsWith (written_settled says.found written).items (shown seen old.chunk) (shown seen new.chunk) (Ok tt) → (found : Bool) → found ≡ is_found old.doubt new.chunk.kept → StartsBy seen written units place new (Ok found)
    starts_ok says starts found e =
        let held_ = by_found says.found says.there starts.found in
        subst (λ (b : Bool). StartsBy seen written units place new (Ok b)) (sym (e ∙ held_.1))
        (held_.0, λ up. some_known written.doubt refl (says.there up))

  -- ---- a start that gives up

  module _ (fault : ChunkFault) (ends : StartEnds (shown seen old.chunk) (shown seen new.chunk) (Err fault)) (same_doubt : new.doubt ≡ old.doubt)
      (says : SaysIt (shown seen old.chunk) (option_map record_of_doubt old.doubt) (is_released old) written units place held)
      (starts : StartsWith (written_settled says.found written).items (shown seen old.chunk) (shown seen new.chunk) (Err fault)) (is_file : IsFile (seen new.chunk.log.file)) where
    was_open : (f : ChunkFault) (s : Bool) → shut_after f s ≡ false → s ≡ false
    was_open faults.Memory s e = e
    was_open faults.Fault s e = absurd (never_both true e refl)
    was_open faults.Shut s e = absurd (never_both true e refl)
    was_open (faults.Damaged a b) s e = absurd (never_both true e refl)
    was_open (faults.Spoiled a) s e = absurd (never_both true e refl)
    was_open (faults.Full end) s e = absurd (never_both true e refl)
    was_open faults.NotMarked s e = absurd (never_both true e refl)
    was_open (faults.Fenced lock) s e = absurd (never_both true e refl)

    open_then : new.chunk.is_shut ≡ false → old.chunk.is_shut ≡ false
    open_then e = was_open fault old.chunk.is_shut (sym ends.0 ∙ e)

    without : (found : Bool) → (found ≡ true → is_some written.doubt ≡ true) → written.doubt ≡ None → (written_settled found written).items ≡ written.items
    without false up none = refl
    without true up none = absurd (never_both (is_some written.doubt) (ap is_some none) (up refl))

    new_again : (d : Option Doubt) → IfSome (option_map record_of_doubt d) (λ r. IsNew r units place × (units.is_released place ≡ false))
        → IfSome (option_map record_of_doubt d) (λ r. IsNew r (record units { is_shut = with_at place new.chunk.is_shut units.is_shut }) place × (units.is_released place ≡ false))
    new_again None h = tt
    new_again (Some d) h = (new_still (record_of_doubt d) units place (with_at place new.chunk.is_shut units.is_shut) units.doubt h.0, h.1)

    stays_open : new.chunk.is_shut ≡ false → HasRecords (shown seen new.chunk) written.items × (written.doubt ≡ None)
    stays_open open_ =
        let none = (held.file.0 (open_then open_)).1 in
        let at = told_at (seen new.chunk.log.file).content (λ file. IsChunkOf file new.chunk.unit (written_settled says.found written).items) starts.stands in
        let r : Remembers new.chunk.unit new.chunk.kept (seen new.chunk.log.file).images at.value = subst (λ o. IfSome o (Remembers new.chunk.unit new.chunk.kept (seen new.chunk.log.file).images)) at.is (sound open_).told in (
          some_and (seen new.chunk.log.file).content at.value (λ file. IsChunkOf file new.chunk.unit written.items × LeavesExactly file (seen new.chunk.log.file).images) at.is
              (subst (λ (items : List ShardRecord). IsChunkOf at.value new.chunk.unit items) (without says.found says.there none) at.holds, r.exactly),
          none,
        )

    stays_shut : IsSomeAnd (seen new.chunk.log.file).content (Says new.chunk.unit written.items written.doubt)
    stays_shut =
        let at = told_at (seen new.chunk.log.file).content (λ file. IsChunkOf file new.chunk.unit (written_settled says.found written).items) starts.stands in
        some_and (seen new.chunk.log.file).content at.value (Says new.chunk.unit written.items written.doubt) at.is
        (says_settled new.chunk.unit written says.found says.there at.value at.holds)

    crash_says : IsWithin (seen new.chunk.log.file).images (Says new.chunk.unit written.items written.doubt)
    crash_says = λ c left.
        let through = starts_through (shown seen old.chunk) (shown seen new.chunk) (option_map record_of_doubt old.doubt) (is_released old) written units place held says own (Err fault) starts in
        subst (λ (u : Name). Says u written.items written.doubt c) (sym own) (through.each c (is_file.present_counts (seen old.chunk.log.file).clock c through.never_falls left))

    pub starts_err : StartsBy seen written units place new (Err fault)
    starts_err = (
      starts.whole fault refl,
      subst (λ (o : Option Doubt). Holds (shown seen new.chunk) (option_map record_of_doubt o) (is_released new) written (record units { is_shut = with_at place new.chunk.is_shut units.is_shut }) place) (sym same_doubt)
          (record {
            made = held.made;
            rows_are = held.rows_are;
            shut = λ shut. there_now place new.chunk.is_shut units.is_shut ∙ shut;
            released = (λ i. same_was i || (not new.chunk.is_shut && (ends.1 i).is_released)) ∙ still_flag old.was_released old.chunk.is_shut old.chunk.kept.is_released new.chunk.is_shut open_then ∙ held.released;
            doubted = held.doubted;
            doubt_is = held.doubt_is;
            new = new_again old.doubt held.new;
            file = (stays_open, λ _. (stays_shut, crash_says));
          }),
    )
