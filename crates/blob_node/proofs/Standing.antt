-- What a station stands for after a change at one place.
use Rattle.std.proofs.Common.{◌≡◌, ◌≢◌, ◌∙◌, sym, ap, refl, subst, ℕ, Bool, true, false, cond, [], Option, None, Some, ◌⊎◌, inl, inr}
use Rattle.std.specs.Prelude.{◌&&◌, ◌==◌, IfSome, option_map}
use Rattle.unit_id.specs.UnitName.{Name, IsName, packed}
use Rattle.unit_id.specs.Place.{Place, is_place}
use Rattle.unit_id.specs.Request.{Request}
use Rattle.unit_id.proofs.Places.{same_place, is_place_gives, is_place_self}
use Rattle.disk_base.specs.Disk.{FileView}
use Rattle.disk_base.specs.Places.{Place as Slot, Unknown, Absent, Away, Kept, Keeps}
use Rattle.disk_base.specs.Shelves.{ShelfView}
use Rattle.chunk_store.specs.Chunk.{ChunkView, shown}
use Rattle.blob_node.specs.Units.{RowState, UnitRecord, Units, with_at, with_row, with_record, with_unit}
use Rattle.blob_node.specs.UnitAnswer.{Effect, started, with_written, record_of, units_after, settled_at, settled}
use Rattle.blob_node.specs.Holding.{Written, Holds, IsNew}
use Rattle.blob_node.specs.HeldUnit.{UnitOver, Held, settled_by, record_of_doubt, is_released}
use Rattle.blob_node.specs.UnitTable.{Entries, at_word, unit_at}
use Rattle.blob_node.specs.NewChunk.{HasNoRecords}
use Rattle.blob_node.specs.Station.{StationOver, name_at, IsBare, IsUnused, HasNone, StandsAt, Stands}
use Rattle.blob_node.proofs.Lookups.{elsewhere}
use Rattle.blob_node.proofs.Holdings.{never_both}
use Rattle.blob_node.proofs.Tables.{one_name}

-- ---- places and names

pub decide : (q p : Place) → (q ≡ p) ⊎ (q ≡ p → ⊥)
decide q p = go (is_place q p) refl where
  go : (test : Bool) → is_place q p ≡ test → (q ≡ p) ⊎ (q ≡ p → ⊥)
  go true e = inl (is_place_gives q p e)
  go false e = inr (λ same. never_both (is_place q p) e (ap (λ x. is_place x p) same ∙ is_place_self p))

pub not_place : (q p : Place) → (q ≡ p → ⊥) → is_place q p ≡ false
not_place q p other = go (is_place q p) refl where
  go : (test : Bool) → is_place q p ≡ test → test ≡ false
  go false e = refl
  go true e = absurd (other (is_place_gives q p e))

-- two places of one disk have two words
pub apart_words : (vid : ℕ) (q p : Place) → q.disk ≡ p.disk → IsName (name_at vid q) → IsName (name_at vid p) → (q ≡ p → ⊥) → packed (name_at vid q) ≢ packed (name_at vid p)
apart_words vid q p disk q_name p_name other same =
    let one = one_name (name_at vid q) (name_at vid p) q_name p_name same in
    other (same_place q p (ap (λ (n : Name). n.index) one) (ap (λ (n : Name). n.epoch) one) disk)

pub with_same : {A : Type 0} (place : Place) (f : Place → A) → with_at place (f place) f ≡ f
with_same {A} place f = λ i q. same q (is_place q place) refl i
  where
    same : (q : Place) (test : Bool) → is_place q place ≡ test → cond (is_place q place) (f place) (f q) ≡ f q
    same q true e = ap (λ t. cond t (f place) (f q)) e ∙ ap f (sym (is_place_gives q place e))
    same q false e = ap (λ t. cond t (f place) (f q)) e

-- ---- the same at a place

-- The same is known at this place; a chunk that counted as shut does so still.
pub record SameAt (new old : Units) (q : Place) : Type 0 where
  pub made : new.is_made q ≡ old.is_made q
  pub row : new.row q ≡ old.row q
  pub fence : new.fence q ≡ old.fence q
  pub released : new.is_released q ≡ old.is_released q
  pub doubt : new.doubt q ≡ old.doubt q
  pub shut : old.is_shut q ≡ true → new.is_shut q ≡ true

pub same_as_is : (units : Units) (q : Place) → SameAt units units q
same_as_is units q = record { made = refl; row = refl; fence = refl; released = refl; doubt = refl; shut = λ s. s }

pub same_then : (new mid old : Units) (q : Place) → SameAt new mid q → SameAt mid old q → SameAt new old q
same_then new mid old q a b = record {
  made = a.made ∙ b.made;
  row = a.row ∙ b.row;
  fence = a.fence ∙ b.fence;
  released = a.released ∙ b.released;
  doubt = a.doubt ∙ b.doubt;
  shut = λ s. a.shut (b.shut s);
}

new_as : (r : UnitRecord) (new old : Units) (q : Place) → SameAt new old q → IsNew r old q → IsNew r new q
new_as (UnitRecord.Shard bid) new old q same is = ap (λ f. f bid) same.row ∙ is
new_as (UnitRecord.Mark bid) new old q same is = subst (λ f. IsNew (UnitRecord.Mark bid) (record old { row = λ p. f }) q) (sym same.row) is
new_as (UnitRecord.Free bid) new old q same is = ap (λ f. f bid) same.row ∙ is
new_as (UnitRecord.Fence lock) new old q same is = same.fence ∙ is
new_as UnitRecord.Release new old q same is = same.released ∙ is

doubt_as : (d : Option UnitRecord) (new old : Units) (q : Place) → SameAt new old q → IfSome d (λ r. IsNew r old q × (old.is_released q ≡ false)) → IfSome d (λ r. IsNew r new q × (new.is_released q ≡ false))
doubt_as None new old q same is = tt
doubt_as (Some r) new old q same is = (new_as r new old q same is.0, same.released ∙ is.1)

-- what a chunk stands for where the same is known
pub loosened : (chunk : ChunkView) (doubt : Option UnitRecord) (flag : Bool) (written : Written) (new old : Units) (q : Place) → SameAt new old q → Holds chunk doubt flag written old q → Holds chunk doubt flag written new q
loosened chunk doubt flag written new old q same holds = record {
  made = same.made ∙ holds.made;
  rows_are = record {
    rows = λ bid. ap (λ f. f bid) same.row ∙ holds.rows_are.rows bid;
    fence_is = same.fence ∙ holds.rows_are.fence_is;
    released = same.released ∙ holds.rows_are.released;
  };
  shut = λ s. same.shut (holds.shut s);
  released = holds.released ∙ sym same.released;
  doubted = same.doubt ∙ holds.doubted;
  doubt_is = holds.doubt_is;
  new = doubt_as doubt new old q same holds.new;
  file = holds.file;
}

-- ---- elsewhere

row_elsewhere : (place : Place) (bid : ℕ) (new : Option RowState) (old : Place → ℕ → Option RowState) (q : Place) → (q ≡ place → ⊥) → with_row place bid new old q ≡ old q
row_elsewhere place bid new old q other = λ i b. ap (λ t. cond (t && (b == bid)) new (old q b)) (not_place q place other) i

module _ (place q : Place) (other : q ≡ place → ⊥) where
  pub record_elsewhere : (r : UnitRecord) (units : Units) → SameAt (with_record place r units) units q
  record_elsewhere (UnitRecord.Shard bid) units = record { made = refl; row = row_elsewhere place bid _ units.row q other; fence = refl; released = refl; doubt = refl; shut = λ s. s }
  record_elsewhere (UnitRecord.Mark bid) units = record { made = refl; row = row_elsewhere place bid _ units.row q other; fence = refl; released = refl; doubt = refl; shut = λ s. s }
  record_elsewhere (UnitRecord.Free bid) units = record { made = refl; row = row_elsewhere place bid _ units.row q other; fence = refl; released = refl; doubt = refl; shut = λ s. s }
  record_elsewhere (UnitRecord.Fence lock) units = record { made = refl; row = refl; fence = elsewhere place _ units.fence q other; released = refl; doubt = refl; shut = λ s. s }
  record_elsewhere UnitRecord.Release units = record {
    made = refl;
    row = elsewhere place (λ bid. None) units.row q other;
    fence = elsewhere place None units.fence q other;
    released = elsewhere place true units.is_released q other;
    doubt = refl;
    shut = λ s. s;
  }

  pub written_elsewhere : (o : Option UnitRecord) (units : Units) → SameAt (with_written place o units) units q
  written_elsewhere None units = same_as_is units q
  written_elsewhere (Some r) units = record_elsewhere r units

  pub started_elsewhere : (units : Units) → SameAt (started place units) units q
  started_elsewhere units = record { made = refl; row = refl; fence = refl; released = refl; doubt = refl; shut = λ s. elsewhere place false units.is_shut q other ∙ s }

  pub unit_elsewhere : (units : Units) → SameAt (with_unit place units) units q
  unit_elsewhere units = record {
    made = elsewhere place true units.is_made q other;
    row = elsewhere place (λ bid. None) units.row q other;
    fence = elsewhere place None units.fence q other;
    released = elsewhere place false units.is_released q other;
    doubt = elsewhere place None units.doubt q other;
    shut = λ s. elsewhere place false units.is_shut q other ∙ s;
  }

  settled_at_elsewhere : (units : Units) → SameAt (settled_at place units) units q
  settled_at_elsewhere units = record { made = refl; row = refl; fence = refl; released = refl; doubt = elsewhere place None units.doubt q other; shut = λ s. elsewhere place false units.is_shut q other ∙ s }

  pub settled_elsewhere : (found : Bool) (units : Units) → SameAt (settled place found units) units q
  settled_elsewhere true units = same_then _ _ _ q (written_elsewhere (units.doubt place) (settled_at place units)) (settled_at_elsewhere units)
  settled_elsewhere false units = settled_at_elsewhere units

  pub settled_by_elsewhere : (found : Option Bool) (units : Units) → SameAt (settled_by place found units) units q
  settled_by_elsewhere None units = same_as_is units q
  settled_by_elsewhere (Some found) units = settled_elsewhere found units

  pub after_elsewhere : (request : Request) (effect : Effect) (units : Units) → SameAt (units_after place request effect units) units q
  after_elsewhere request Effect.Nothing units = same_as_is units q
  after_elsewhere request Effect.Made units = unit_elsewhere units
  after_elsewhere request Effect.Started units = started_elsewhere units
  after_elsewhere request Effect.Wrote units = same_then _ _ _ q (written_elsewhere (record_of request) (started place units)) (started_elsewhere units)
  after_elsewhere request Effect.Doubted units = record {
    made = refl;
    row = refl;
    fence = refl;
    released = refl;
    doubt = elsewhere place (record_of request) units.doubt q other;
    shut = λ s. elsewhere place true units.is_shut q other ∙ s;
  }

-- ---- a file without records

pub keeps_none : {F : Type 0} (seen : F → FileView) (unit : Name) (old new : Slot F) → Keeps old new → HasNoRecords seen unit old → HasNoRecords seen unit new
keeps_none seen unit Unknown new keeps has = absurd has
keeps_none seen unit Absent new keeps has = subst (HasNoRecords seen unit) (sym keeps) has
keeps_none seen unit Away new keeps has = absurd has
keeps_none seen unit (Kept file) new keeps has = subst (HasNoRecords seen unit) (sym keeps) has

-- ---- a change at one place

module _ {H F : Type 0} (shelf_seen : H → ShelfView F) (seen : F → FileView) (old new : StationOver H F) (written : Place → Written) (units then : Units) (stands : Stands shelf_seen seen old written units)
    (vid : new.vid ≡ old.vid) (disk : new.disk ≡ old.disk) (told : (shelf_seen new.shelf).is_told ≡ (shelf_seen old.shelf).is_told) where
  -- a unit, or none, of which the same is known
  other_stands : (q : Place) (o : Option (UnitOver F)) (w : Place → Written) → w q ≡ written q → SameAt then units q
      → Keeps ((shelf_seen old.shelf).place (packed (name_at old.vid q))) ((shelf_seen new.shelf).place (packed (name_at old.vid q)))
      → StandsAt shelf_seen seen old written units q o → StandsAt shelf_seen seen new w then q o
  other_stands q (Some unit) w same_w same keeps held =
      subst (λ (x : Written). Held seen unit x then q) (sym same_w) (loosened (shown seen unit.chunk) (option_map record_of_doubt unit.doubt) (is_released unit) (written q) then units q same held)
  other_stands q None w same_w same keeps none = (
    same.made ∙ none.0,
    subst (λ v. HasNoRecords seen (name_at v q) ((shelf_seen new.shelf).place (packed (name_at v q)))) (sym vid)
        (keeps_none seen (name_at old.vid q) ((shelf_seen old.shelf).place (packed (name_at old.vid q))) ((shelf_seen new.shelf).place (packed (name_at old.vid q))) keeps none.1),
  )

  module _ (place : Place) (at : place.disk ≡ new.disk) (name : IsName (name_at new.vid place)) (w : Written) (others : (q : Place) → (q ≡ place → ⊥) → SameAt then units q)
      (same_units : (word : ℕ) → word ≢ packed (name_at new.vid place) → at_word word new.units ≡ at_word word old.units)
      (same_files : (word : ℕ) → word ≢ packed (name_at new.vid place) → Keeps ((shelf_seen old.shelf).place word) ((shelf_seen new.shelf).place word))
      (bare : then.is_made place ≡ false → IsBare then place)
      (here : StandsAt shelf_seen seen new (with_at place w written) then place (unit_at new.units (name_at new.vid place))) where
    each_stands : (q : Place) → (q ≡ place) ⊎ (q ≡ place → ⊥) → q.disk ≡ new.disk → IsName (name_at new.vid q) → StandsAt shelf_seen seen new (with_at place w written) then q (unit_at new.units (name_at new.vid q))
    each_stands q (inl same) d n = subst (λ (p : Place). StandsAt shelf_seen seen new (with_at place w written) then p (unit_at new.units (name_at new.vid p))) (sym same) here
    each_stands q (inr other) d n =
        let apart = apart_words new.vid q place (d ∙ sym at) n name other in
        let known = ap (λ v. unit_at old.units (name_at v q)) (sym vid) ∙ sym (same_units (packed (name_at new.vid q)) apart) in
        other_stands q (unit_at new.units (name_at new.vid q)) (with_at place w written) (elsewhere place w written q other) (others q other)
        (subst (λ v. Keeps ((shelf_seen old.shelf).place (packed (name_at v q))) ((shelf_seen new.shelf).place (packed (name_at v q)))) vid (same_files (packed (name_at new.vid q)) apart))
        (subst (StandsAt shelf_seen seen old written units q) known (stands.each q (d ∙ disk) (subst (λ v. IsName (name_at v q)) vid n)))

    named_stands : (q : Place) → (q ≡ place) ⊎ (q ≡ place → ⊥) → q.disk ≡ new.disk → then.is_made q ≡ true → IsName (name_at new.vid q)
    named_stands q (inl same) d made = subst (λ (p : Place). IsName (name_at new.vid p)) (sym same) name
    named_stands q (inr other) d made = subst (λ v. IsName (name_at v q)) (sym vid) (stands.named q (d ∙ disk) (sym (others q other).made ∙ made))

    bare_stands : (q : Place) → (q ≡ place) ⊎ (q ≡ place → ⊥) → q.disk ≡ new.disk → then.is_made q ≡ false → IsBare then q
    bare_stands q (inl same) d none = subst (IsBare then) (sym same) (bare (ap then.is_made (sym same) ∙ none))
    bare_stands q (inr other) d none =
        let was = stands.bare q (d ∙ disk) (sym (others q other).made ∙ none) in
        record { unreleased = (others q other).released ∙ was.unreleased; settled_ = (others q other).doubt ∙ was.settled_ }

    pub stands_one : Stands shelf_seen seen new (with_at place w written) then
    stands_one = record {
      told = told ∙ stands.told;
      named = λ q d made. named_stands q (decide q place) d made;
      bare = λ q d none. bare_stands q (decide q place) d none;
      each = λ q d n. each_stands q (decide q place) d n;
    }

  -- the same station, of which no less is known
  pub stands_same : new.units ≡ old.units → ((word : ℕ) → Keeps ((shelf_seen old.shelf).place word) ((shelf_seen new.shelf).place word)) → ((q : Place) → q.disk ≡ new.disk → SameAt then units q) → Stands shelf_seen seen new written then
  stands_same same_units same_files same = record {
    told = told ∙ stands.told;
    named = λ q d made. subst (λ v. IsName (name_at v q)) (sym vid) (stands.named q (d ∙ disk) (sym (same q d).made ∙ made));
    bare = λ q d none.
        let was = stands.bare q (d ∙ disk) (sym (same q d).made ∙ none) in
        record { unreleased = (same q d).released ∙ was.unreleased; settled_ = (same q d).doubt ∙ was.settled_ };
    each = λ q d n.
        other_stands q (unit_at new.units (name_at new.vid q)) written refl (same q d) (same_files (packed (name_at old.vid q)))
        (subst (StandsAt shelf_seen seen old written units q) (ap (λ v. unit_at old.units (name_at v q)) (sym vid) ∙ ap (λ (es : Entries F). unit_at es (name_at new.vid q)) (sym same_units)) (stands.each q (d ∙ disk) (subst (λ v. IsName (name_at v q)) vid n)));
  }

-- ---- a station without units

pub stands_empty : {H F : Type 0} (shelf_seen : H → ShelfView F) (seen : F → FileView) (station : StationOver H F) → station.units ≡ [] → (shelf_seen station.shelf).is_told ≡ true → IsUnused seen station.vid (shelf_seen station.shelf)
    → (written : Place → Written) (units : Units) → HasNone station.disk units → Stands shelf_seen seen station written units
stands_empty shelf_seen seen station none told unused written units bare = record {
  told = told;
  named = λ q d made. absurd (never_both (units.is_made q) (bare q d).0 made);
  bare = λ q d _. (bare q d).1;
  each = λ q d n. subst (λ es. StandsAt shelf_seen seen station written units q (unit_at es (name_at station.vid q))) (sym none) ((bare q d).0, unused (name_at station.vid q) n refl);
}
