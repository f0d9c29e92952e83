-- Bytes stay as begun.
use Rattle.std.proofs.Common.{◌≡◌, ℕ, inl, inr, Bool, true, false, Option, Some, None, refl, sym, ◌∙◌, ap, subst, cond}
use Rattle.std.specs.Prelude.{◌&&◌, ◌==◌}
use Rattle.std.proofs.lemmas.Bool.{eqb-true}
use Rattle.unit_id.specs.Lists.{is_in}
use Rattle.unit_id.specs.Place.{Place, is_place}
use Rattle.unit_id.specs.Request.{Request, Answer, place_of}
use Rattle.unit_id.proofs.Bools.{and_left, and_right}
use Rattle.unit_id.proofs.Places.{is_place_gives}
use Rattle.code_mode.specs.declared.mode.Mode.{Mode}
use Rattle.code_mode.specs.VolumeShape.{VolumeShape}
use Rattle.code_mode.specs.PayloadShard.{PayloadShard, payload_shard}
use Rattle.blob_node.specs.Units.{RowState, UnitRecord, Units, is_live, with_at, with_row, with_record, after_shard, after_mark, after_free}
use Rattle.blob_node.specs.UnitAnswer.{Effect, Answers, view_at, units_after, record_of, started, with_written}
use Rattle.volume_world.specs.State.{Puts, State, Post}
use Rattle.volume_world.specs.BlobStatus.{is_begun}
use Rattle.volume_world.specs.Contents.{Parcel, Contents, begun_shard, with_shard, IsBegunParcel, AreAsBegun, Takes, Handled, Gives}
use Rattle.volume_world.specs.Invariant.{Kept}
use Rattle.volume_world.proofs.HandledRows.{live_begun}
use Rattle.volume_world.proofs.PutsStay.{IsStillBegun, PutsStay}
use Rattle.volume_world.proofs.GivenByUnits.{handled}

-- of a begun blob the shards stay the same
shard_stays : (mode : Mode) (old new : Puts) (p : Place) (b : ℕ) → IsStillBegun old new b → begun_shard mode old p b ≡ begun_shard mode new p b
shard_stays mode old new p b still = ap (λ payload. payload_shard mode payload p.index) (sym still.payload)

parcel_stays : (mode : Mode) (old new : Puts) (x : Parcel) → PutsStay old new → IsBegunParcel mode old x → IsBegunParcel mode new x
parcel_stays mode old new x stay h =
    let still = stay x.bid h.begun in
    record { begun = still.begun; shard = h.shard ∙ shard_stays mode old new x.place x.bid still }

-- what a live row, or a shard in doubt, says of its blob
row_begun : (shape : VolumeShape) (s : State) (p : Place) (b : ℕ) → Kept shape s → is_live (s.units.row p b) ≡ true → is_begun (s.puts.status b) ≡ true
row_begun shape s p b k h = live_begun (is_begun (s.puts.status b)) (is_in b s.manager.asked) (is_in b s.manager.committed) (s.units.row p b) (k.provenance.rows p b) h

doubt_begun : (shape : VolumeShape) (s : State) (p : Place) (b : ℕ) → Kept shape s → s.units.doubt p ≡ Some (UnitRecord.Shard b) → is_begun (s.puts.status b) ≡ true
doubt_begun shape s p b k e = elim (k.authority.releases.unit_doubt_issued p (UnitRecord.Shard b) e) [
  | inl put ↦ (k.authority.requests.issued (Request.Put p b) put).0
  | inr copy ↦ k.authority.requests.issued (Request.Copy p b) copy
]

-- no row is newly live, and no shard newly in doubt
pub record AreFewer (old new : Units) : Type 0 where
  pub rows : (p : Place) (b : ℕ) → is_live (new.row p b) ≡ true → is_live (old.row p b) ≡ true
  pub doubts : (p : Place) (b : ℕ) → new.doubt p ≡ Some (UnitRecord.Shard b) → old.doubt p ≡ Some (UnitRecord.Shard b)

pub same_units : (s t : State) → t.units ≡ s.units → AreFewer s.units t.units
same_units s t e = subst (AreFewer s.units) (sym e) (record { rows = λ p b h. h; doubts = λ p b h. h })

-- contents that don't change stay as begun
pub stays : (shape : VolumeShape) (mode : Mode) (s t : State) (c : Contents) → Kept shape s → AreAsBegun mode s c → PutsStay s.puts t.puts → AreFewer s.units t.units → AreAsBegun mode t c
stays shape mode s t c k h stay fewer = record {
  rows = λ p b live. let before = fewer.rows p b live in h.rows p b before ∙ shard_stays mode s.puts t.puts p b (stay b (row_begun shape s p b k before));
  doubts = λ p b e. let before = fewer.doubts p b e in h.doubts p b before ∙ shard_stays mode s.puts t.puts p b (stay b (doubt_begun shape s p b k before));
  sent = λ x i. parcel_stays mode s.puts t.puts x stay (h.sent x i);
  got = λ x i. parcel_stays mode s.puts t.puts x stay (h.got x i);
}

-- a new value at one place, a property of it there, and of the others; and the same of one row
live_where : (p : Place) (b : ℕ) (new : Option RowState) (rows : Place → ℕ → Option RowState) → (is_live new ≡ true → is_live (rows p b) ≡ true) → (q : Place) (c : ℕ)
    → is_live (with_row p b new rows q c) ≡ true → is_live (rows q c) ≡ true
live_where p b new rows here q c h = go (is_place q p && (c == b)) refl h where
  go : (test : Bool) → is_place q p && (c == b) ≡ test → is_live (cond test new (rows q c)) ≡ true → is_live (rows q c) ≡ true
  go false e x = x
  go true e x =
      let place = is_place_gives q p (and_left (is_place q p) (c == b) e) in
      let blob = eqb-true c b (and_right (is_place q p) (c == b) e) in
      subst (λ r. is_live (rows r c) ≡ true) (sym place) (subst (λ d. is_live (rows p d) ≡ true) (sym blob) (here x))

pub doubt_where : (p : Place) (new : Option UnitRecord) (doubts : Place → Option UnitRecord) → ((b : ℕ) → new ≡ Some (UnitRecord.Shard b) → ⊥) → (q : Place) (b : ℕ)
    → with_at p new doubts q ≡ Some (UnitRecord.Shard b) → doubts q ≡ Some (UnitRecord.Shard b)
doubt_where p new doubts none q b h = go (is_place q p) h where
  go : (test : Bool) → cond test new (doubts q) ≡ Some (UnitRecord.Shard b) → doubts q ≡ Some (UnitRecord.Shard b)
  go true x = absurd (none b x)
  go false x = x

none_live : (p q : Place) (b : ℕ) (rows : Place → ℕ → Option RowState) → is_live (with_at p (λ c. None) rows q b) ≡ true → is_live (rows q b) ≡ true
none_live p q b rows h = go (is_place q p) h where
  go : (test : Bool) → is_live ((cond test (λ c. None) (rows q)) b) ≡ true → is_live (rows q b) ≡ true
  go true x = cc
  go false x = x

mark_live : (row : Option RowState) → is_live (after_mark row) ≡ true → is_live row ≡ true
mark_live None h = cc
mark_live (Some RowState.Live) h = refl
mark_live (Some RowState.Marked) h = cc
mark_live (Some RowState.Gone) h = cc

free_live : (row : Option RowState) → is_live (after_free row) ≡ true → is_live row ≡ true
free_live None h = h
free_live (Some RowState.Live) h = refl
free_live (Some RowState.Marked) h = cc
free_live (Some RowState.Gone) h = cc

-- a record other than a shard
pub other_written : (p : Place) (item : UnitRecord) (units : Units) → ((b : ℕ) → item ≡ UnitRecord.Shard b → ⊥) → AreFewer units (with_record p item units)
other_written p (UnitRecord.Shard b) units none = absurd (none b refl)
other_written p (UnitRecord.Mark b) units none = record { rows = live_where p b (after_mark (units.row p b)) units.row (mark_live (units.row p b)); doubts = λ q c h. h }
other_written p (UnitRecord.Free b) units none = record { rows = live_where p b (after_free (units.row p b)) units.row (free_live (units.row p b)); doubts = λ q c h. h }
other_written p (UnitRecord.Fence n) units none = record { rows = λ q c h. h; doubts = λ q c h. h }
other_written p UnitRecord.Release units none = record { rows = λ q c h. none_live p q c units.row h; doubts = λ q c h. h }

written_fewer : (p : Place) (item : Option UnitRecord) (units : Units) → ((b : ℕ) → item ≡ Some (UnitRecord.Shard b) → ⊥) → AreFewer units (with_written p item units)
written_fewer p None units none = record { rows = λ q c h. h; doubts = λ q c h. h }
written_fewer p (Some item) units none = other_written p item units (λ b e. none b (ap Some e))

-- what a request leaves that carries no shard
effect_fewer : (p : Place) (r : Request) (e : Effect) (units : Units) → ((b : ℕ) → record_of r ≡ Some (UnitRecord.Shard b) → ⊥) → AreFewer units (units_after p r e units)
effect_fewer p r Effect.Nothing units none = record { rows = λ q c h. h; doubts = λ q c h. h }
effect_fewer p r Effect.Made units none = record { rows = λ q c h. none_live p q c units.row h; doubts = λ q c h. doubt_where p None units.doubt (λ b x. cc) q c h }
effect_fewer p r Effect.Started units none = record { rows = λ q c h. h; doubts = λ q c h. h }
effect_fewer p r Effect.Wrote units none = let fewer = written_fewer p (record_of r) (started p units) none in record { rows = fewer.rows; doubts = fewer.doubts }
effect_fewer p r Effect.Doubted units none = record { rows = λ q c h. h; doubts = λ q c h. doubt_where p (record_of r) units.doubt none q c h }

-- the row of one blob holds this shard now, which is the begun one
pub shard_stands : (shape : VolumeShape) (mode : Mode) (s : State) (c : Contents) (p : Place) (b : ℕ) (x : PayloadShard) (units : Units) (post : Post) → Kept shape s → AreAsBegun mode s c
    → x ≡ begun_shard mode s.puts p b → ((q : Place) (d : ℕ) → is_place q p && (d == b) ≡ false → is_live (units.row q d) ≡ true → is_live (s.units.row q d) ≡ true)
    → ((q : Place) (d : ℕ) → units.doubt q ≡ Some (UnitRecord.Shard d) → s.units.doubt q ≡ Some (UnitRecord.Shard d))
    → AreAsBegun mode (record s { units = units; post = post }) (with_shard p b x c)
shard_stands shape mode s c p b x units post k h right rows doubts = record {
  rows = λ q d live. go q d (is_place q p && (d == b)) refl live;
  doubts = λ q d e. h.doubts q d (doubts q d e);
  sent = λ y i. record { begun = (h.sent y i).begun; shard = (h.sent y i).shard };
  got = λ y i. record { begun = (h.got y i).begun; shard = (h.got y i).shard };
} where
  go : (q : Place) (d : ℕ) (test : Bool) → is_place q p && (d == b) ≡ test → is_live (units.row q d) ≡ true → cond test x (c.row q d) ≡ begun_shard mode s.puts q d
  go q d false e live = h.rows q d (rows q d e live)
  go q d true e live =
      let place = is_place_gives q p (and_left (is_place q p) (d == b) e) in
      let blob = eqb-true d b (and_right (is_place q p) (d == b) e) in
      subst (λ r. x ≡ begun_shard mode s.puts r d) (sym place) (subst (λ n. x ≡ begun_shard mode s.puts p n) (sym blob) right)

-- the record in doubt of a unit holds this shard now
shard_doubted : (shape : VolumeShape) (mode : Mode) (s : State) (c : Contents) (p : Place) (b : ℕ) (x : PayloadShard) (post : Post) → Kept shape s → AreAsBegun mode s c
    → x ≡ begun_shard mode s.puts p b
    → AreAsBegun mode (record s { units = record (s.units) { is_shut = with_at p true s.units.is_shut; doubt = with_at p (Some (UnitRecord.Shard b)) s.units.doubt }; post = post }) (record c { doubt = with_at p x c.doubt })
shard_doubted shape mode s c p b x post k h right = record {
  rows = h.rows;
  doubts = λ q d e. go q d (is_place q p) refl e;
  sent = λ y i. record { begun = (h.sent y i).begun; shard = (h.sent y i).shard };
  got = λ y i. record { begun = (h.got y i).begun; shard = (h.got y i).shard };
} where
  go : (q : Place) (d : ℕ) (test : Bool) → is_place q p ≡ test → cond test (Some (UnitRecord.Shard b)) (s.units.doubt q) ≡ Some (UnitRecord.Shard d) → cond test x (c.doubt q) ≡ begun_shard mode s.puts q d
  go q d false e f = h.doubts q d f
  go q d true e f =
      let blob : b ≡ d = cc in
      subst (λ r. x ≡ begun_shard mode s.puts r d) (sym (is_place_gives q p e)) (subst (λ n. x ≡ begun_shard mode s.puts p n) blob right)

-- beside a row that is written all rows are as they were
pub beside : (p : Place) (b : ℕ) (new : Option RowState) (rows : Place → ℕ → Option RowState) (q : Place) (d : ℕ) → is_place q p && (d == b) ≡ false → is_live (with_row p b new rows q d) ≡ true
    → is_live (rows q d) ≡ true
beside p b new rows q d e h = subst (λ test. is_live (cond test new (rows q d)) ≡ true) e h

-- nothing goes with this answer
idle : (shape : VolumeShape) (mode : Mode) (s : State) (c d : Contents) (r : Request) (a : Answer) (e : Effect) → Kept shape s → AreAsBegun mode s c → AreFewer s.units (units_after (place_of r) r e s.units)
    → d ≡ c → AreAsBegun mode (handled s r a e) d
idle shape mode s c d r a e k h fewer same = subst (AreAsBegun mode (handled s r a e)) (sym same) (stays shape mode s (handled s r a e) c k h (λ b x. record { begun = x; payload = refl }) fewer)

-- to a put or a copy
put_fills : (shape : VolumeShape) (mode : Mode) (s : State) (c d : Contents) (p : Place) (b : ℕ) (a : Answer) (e : Effect) → Kept shape s → AreAsBegun mode s c → Takes p b e c d
    → AreAsBegun mode (handled s (Request.Put p b) a e) d
put_fills shape mode s c d p b a Effect.Nothing k h f = idle shape mode s c d (Request.Put p b) a Effect.Nothing k h (record { rows = λ q n x. x; doubts = λ q n x. x }) f
put_fills shape mode s c d p b a Effect.Made k h f = idle shape mode s c d (Request.Put p b) a Effect.Made k h
    (record { rows = λ q n x. none_live p q n s.units.row x; doubts = λ q n x. doubt_where p None s.units.doubt (λ m y. cc) q n x }) f
put_fills shape mode s c d p b a Effect.Started k h f = idle shape mode s c d (Request.Put p b) a Effect.Started k h (record { rows = λ q n x. x; doubts = λ q n x. x }) f
put_fills shape mode s c d p b a Effect.Wrote k h f = subst (AreAsBegun mode (handled s (Request.Put p b) a Effect.Wrote)) (sym f.2)
    (shard_stands shape mode s c p b f.0 (handled s (Request.Put p b) a Effect.Wrote).units (handled s (Request.Put p b) a Effect.Wrote).post k h (h.sent _ f.1).shard
    (beside p b (after_shard (s.units.row p b)) s.units.row) (λ q n x. x))
put_fills shape mode s c d p b a Effect.Doubted k h f = subst (AreAsBegun mode (handled s (Request.Put p b) a Effect.Doubted)) (sym f.2)
    (shard_doubted shape mode s c p b f.0 (handled s (Request.Put p b) a Effect.Doubted).post k h (h.sent _ f.1).shard)

copy_fills : (shape : VolumeShape) (mode : Mode) (s : State) (c d : Contents) (p : Place) (b : ℕ) (a : Answer) (e : Effect) → Kept shape s → AreAsBegun mode s c → Takes p b e c d
    → AreAsBegun mode (handled s (Request.Copy p b) a e) d
copy_fills shape mode s c d p b a Effect.Nothing k h f = idle shape mode s c d (Request.Copy p b) a Effect.Nothing k h (record { rows = λ q n x. x; doubts = λ q n x. x }) f
copy_fills shape mode s c d p b a Effect.Made k h f = idle shape mode s c d (Request.Copy p b) a Effect.Made k h
    (record { rows = λ q n x. none_live p q n s.units.row x; doubts = λ q n x. doubt_where p None s.units.doubt (λ m y. cc) q n x }) f
copy_fills shape mode s c d p b a Effect.Started k h f = idle shape mode s c d (Request.Copy p b) a Effect.Started k h (record { rows = λ q n x. x; doubts = λ q n x. x }) f
copy_fills shape mode s c d p b a Effect.Wrote k h f = subst (AreAsBegun mode (handled s (Request.Copy p b) a Effect.Wrote)) (sym f.2)
    (shard_stands shape mode s c p b f.0 (handled s (Request.Copy p b) a Effect.Wrote).units (handled s (Request.Copy p b) a Effect.Wrote).post k h (h.sent _ f.1).shard
    (beside p b (after_shard (s.units.row p b)) s.units.row) (λ q n x. x))
copy_fills shape mode s c d p b a Effect.Doubted k h f = subst (AreAsBegun mode (handled s (Request.Copy p b) a Effect.Doubted)) (sym f.2)
    (shard_doubted shape mode s c p b f.0 (handled s (Request.Copy p b) a Effect.Doubted).post k h (h.sent _ f.1).shard)

-- a row that is read live
read_live : (s : State) (p : Place) (b : ℕ) (e : Effect) → Answers (view_at s.broken s.units p) (Request.Read p b) Answer.Live e → is_live (s.units.row p b) ≡ true
read_live s p b Effect.Started h = ap is_live h.1.1
read_live s p b e h = absurd h.1.1

read_fills : (shape : VolumeShape) (mode : Mode) (s : State) (c d : Contents) (p : Place) (b : ℕ) (a : Answer) (e : Effect) → Kept shape s → AreAsBegun mode s c
    → Answers (view_at s.broken s.units p) (Request.Read p b) a e → Gives p b a c d → AreAsBegun mode (handled s (Request.Read p b) a e) d
read_fills shape mode s c d p b Answer.Live e k h answers f =
    let live = read_live s p b e answers in
    let fewer = effect_fewer p (Request.Read p b) e s.units (λ n x. cc) in
    let after = stays shape mode s (handled s (Request.Read p b) Answer.Live e) c k h (λ n x. record { begun = x; payload = refl }) fewer in
    subst (AreAsBegun mode (handled s (Request.Read p b) Answer.Live e)) (sym f) (record {
      rows = after.rows;
      doubts = after.doubts;
      sent = after.sent;
      got = λ y i. elim i [ inl here ↦ subst (IsBegunParcel mode s.puts) (sym here) (record { begun = row_begun shape s p b k live; shard = h.rows p b live }) | inr there ↦ after.got y there ];
    })
read_fills shape mode s c d p b a e k h answers f = idle shape mode s c d (Request.Read p b) a e k h (effect_fewer p (Request.Read p b) e s.units (λ n x. cc)) f

pub handle_fills : (shape : VolumeShape) (mode : Mode) (s : State) (c d : Contents) (r : Request) (a : Answer) (e : Effect) → Kept shape s → AreAsBegun mode s c
    → Answers (view_at s.broken s.units (place_of r)) r a e → Handled r a e c d → AreAsBegun mode (handled s r a e) d
handle_fills shape mode s c d (Request.Put p b) a e k h answers f = put_fills shape mode s c d p b a e k h f
handle_fills shape mode s c d (Request.Copy p b) a e k h answers f = copy_fills shape mode s c d p b a e k h f
handle_fills shape mode s c d (Request.Read p b) a e k h answers f = read_fills shape mode s c d p b a e k h answers f
handle_fills shape mode s c d (Request.Create p) a e k h answers f = idle shape mode s c d (Request.Create p) a e k h (effect_fewer p (Request.Create p) e s.units (λ n x. cc)) f
handle_fills shape mode s c d (Request.Fence p n) a e k h answers f = idle shape mode s c d (Request.Fence p n) a e k h (effect_fewer p (Request.Fence p n) e s.units (λ m x. cc)) f
handle_fills shape mode s c d (Request.List p n) a e k h answers f = idle shape mode s c d (Request.List p n) a e k h (effect_fewer p (Request.List p n) e s.units (λ m x. cc)) f
handle_fills shape mode s c d (Request.Mark p b) a e k h answers f = idle shape mode s c d (Request.Mark p b) a e k h (effect_fewer p (Request.Mark p b) e s.units (λ m x. cc)) f
handle_fills shape mode s c d (Request.Free p b) a e k h answers f = idle shape mode s c d (Request.Free p b) a e k h (effect_fewer p (Request.Free p b) e s.units (λ m x. cc)) f
handle_fills shape mode s c d (Request.Release p) a e k h answers f = idle shape mode s c d (Request.Release p) a e k h (effect_fewer p (Request.Release p) e s.units (λ m x. cc)) f
