-- The live row of a current unit stays, while the unit is current and no delete of the blob is asked for.
use Rattle.std.proofs.Common.{◌≡◌, ℕ, ◌<◌, inl, inr, Bool, true, false, cond, List, Option, Some, None, refl, sym, ◌∙◌, ap, subst, arith}
use Rattle.unit_id.specs.Lists.{IsIn, is_in}
use Rattle.unit_id.specs.Place.{Place, is_place}
use Rattle.unit_id.specs.Request.{Request, Answer, place_of}
use Rattle.unit_id.proofs.Bools.{contrary, not_so}
use Rattle.unit_id.proofs.Places.{is_place_gives}
use Rattle.code_mode.specs.VolumeShape.{VolumeShape, IsVolumeShape}
use Rattle.blob_node.specs.Units.{RowState, UnitRecord, Units, is_live, with_at, with_record, after_shard, after_mark, after_free}
use Rattle.blob_node.specs.UnitAnswer.{UnitView, Effect, Answers, view_at, record_of, units_after, with_written, settled_at, started}
use Rattle.blob_node.proofs.Lookups.{at_one, at_one_row}
use Rattle.volume_entry.specs.Manager.{home_at, current}
use Rattle.volume_world.specs.State.{State}
use Rattle.volume_world.specs.Move.{Move, Moves, Handles, SettlesUnit}
use Rattle.volume_world.specs.Authority.{WasIssued}
use Rattle.volume_world.specs.Run.{World, Step, Leads}
use Rattle.volume_world.specs.Invariant.{Kept}
use Rattle.volume_world.proofs.AllMoves.{move_kept}
use Rattle.volume_world.proofs.EntryMoves.{entry_lasts}
use Rattle.volume_world.proofs.Unmoved.{happen_unmoved, settle_unmoved}
use Rattle.blob_access.proofs.Later.{IsLater, later_same, later_on, move_later, between}

-- the record takes no live row of this blob from this unit
abbrev Spares : Place → Place → ℕ → UnitRecord → Type 0
Spares p q b (UnitRecord.Mark c) = c ≡ b → q ≡ p → ⊥
Spares p q b UnitRecord.Release = q ≡ p → ⊥
Spares p q b item = Unit {0}

shard_live : (row : Option RowState) → is_live row ≡ true → is_live (after_shard row) ≡ true
shard_live None h = refl
shard_live (Some row) h = h

free_live : (row : Option RowState) → is_live row ≡ true → is_live (after_free row) ≡ true
free_live None h = h
free_live (Some RowState.Live) h = h
free_live (Some RowState.Marked) h = h
free_live (Some RowState.Gone) h = h

spared : (p q : Place) (b : ℕ) (item : UnitRecord) (units : Units) → Spares p q b item → is_live (units.row q b) ≡ true → is_live ((with_record p item units).row q b) ≡ true
spared p q b (UnitRecord.Shard c) units spares live =
    at_one_row p c (after_shard (units.row p c)) units.row (λ q b now. is_live (units.row q b) ≡ true → is_live now ≡ true) (shard_live (units.row p c)) q b (λ h. h) live
spared p q b (UnitRecord.Free c) units spares live =
    at_one_row p c (after_free (units.row p c)) units.row (λ q b now. is_live (units.row q b) ≡ true → is_live now ≡ true) (free_live (units.row p c)) q b (λ h. h) live
spared p q b (UnitRecord.Mark c) units spares live =
    at_one_row p c (after_mark (units.row p c)) units.row (λ q b now. (c ≡ b → q ≡ p → ⊥) → is_live (units.row q b) ≡ true → is_live now ≡ true) (λ bad. absurd (bad refl refl)) q b (λ s h. h) spares live
spared p q b (UnitRecord.Fence n) units spares live = live
spared p q b UnitRecord.Release units spares live = at_one p (λ c. None) units.row (λ q now. (q ≡ p → ⊥) → is_live (units.row q b) ≡ true → is_live (now b) ≡ true) (λ bad. absurd (bad refl)) q (λ s h. h) spares live

written_spared : (p q : Place) (b : ℕ) (item : Option UnitRecord) (units : Units) → ((x : UnitRecord) → item ≡ Some x → Spares p q b x) → is_live (units.row q b) ≡ true → is_live ((with_written p item units).row q b) ≡ true
written_spared p q b None units spares live = live
written_spared p q b (Some x) units spares live = spared p q b x units (spares x refl) live

-- the unit isn't below the current one of its index
abbrev IsNotBelow : State → Place → Type 0
IsNotBelow s q = q.epoch < (home_at s.manager.homes q.index).epoch → ⊥

-- nothing that was issued takes it
issued_spares : (shape : VolumeShape) (s : State) (p q : Place) (b : ℕ) (item : UnitRecord) → Kept shape s → is_in b s.manager.asked ≡ false → IsNotBelow s q → WasIssued s.post.issued p item → Spares p q b item
issued_spares shape s p q b (UnitRecord.Mark c) k unasked above i = λ same here.
    contrary (is_in b s.manager.asked) (ap (λ n. is_in n s.manager.asked) (sym same) ∙ k.authority.requests.issued (Request.Mark p c) i) unasked
issued_spares shape s p q b UnitRecord.Release k unasked above i = λ here.
    above (subst (λ (x : Place). x.epoch < (home_at s.manager.homes x.index).epoch) (sym here) (k.authority.requests.issued (Request.Release p) i))
issued_spares shape s p q b (UnitRecord.Shard c) k unasked above i = tt
issued_spares shape s p q b (UnitRecord.Free c) k unasked above i = tt
issued_spares shape s p q b (UnitRecord.Fence n) k unasked above i = tt

some_same : (x y : UnitRecord) → Some x ≡ Some y → x ≡ y
some_same x y e = cc

-- a request is issued for the record that it has written
request_issued : (issued : List Request) (r : Request) (item : UnitRecord) → IsIn r issued → record_of r ≡ Some item → WasIssued issued (place_of r) item
request_issued issued (Request.Create p) item i e = cc
request_issued issued (Request.Fence p n) item i e = subst (WasIssued issued p) (some_same (UnitRecord.Fence n) item e) i
request_issued issued (Request.Put p c) item i e = subst (WasIssued issued p) (some_same (UnitRecord.Shard c) item e) (inl i)
request_issued issued (Request.Read p c) item i e = cc
request_issued issued (Request.List p n) item i e = cc
request_issued issued (Request.Copy p c) item i e = subst (WasIssued issued p) (some_same (UnitRecord.Shard c) item e) (inr i)
request_issued issued (Request.Mark p c) item i e = subst (WasIssued issued p) (some_same (UnitRecord.Mark c) item e) i
request_issued issued (Request.Free p c) item i e = subst (WasIssued issued p) (some_same (UnitRecord.Free c) item e) i
request_issued issued (Request.Release p) item i e = subst (WasIssued issued p) (some_same UnitRecord.Release item e) i

-- only a create makes a unit, where there is none
makes : (view : UnitView) (r : Request) (a : Answer) → Answers view r a Effect.Made → view.was_made view.epoch ≡ false
makes view (Request.Create p) Answer.Done h = h.1
makes view (Request.Create p) a h = absurd h.1
makes view (Request.Fence p n) Answer.Done h = absurd h.1.1
makes view (Request.Put p b) Answer.Done h = absurd h.1.1
makes view (Request.Read p b) Answer.Done h = absurd h.1.1
makes view (Request.List p n) Answer.Done h = absurd h.1.1
makes view (Request.Copy p b) Answer.Done h = absurd h.1.1
makes view (Request.Mark p b) Answer.Done h = absurd h.1.1
makes view (Request.Free p b) Answer.Done h = absurd h.1.1
makes view (Request.Release p) Answer.Done h = absurd h.1.1
makes view r a h = absurd h.1.1

made_elsewhere : (shape : VolumeShape) (s : State) (p q : Place) (b : ℕ) → Kept shape s → s.units.is_made p ≡ false → is_live (s.units.row q b) ≡ true → is_live (with_at p (λ c. None) s.units.row q b) ≡ true
made_elsewhere shape s p q b k unmade live = go (is_place q p) refl where
  go : (test : Bool) → is_place q p ≡ test → is_live ((cond test (λ c. None) (s.units.row q)) b) ≡ true
  go true e = absurd (contrary (is_live (s.units.row q b)) live (ap is_live (k.form.units.unmade_has_no_rows q (ap s.units.is_made (is_place_gives q p e) ∙ unmade) b)))
  go false e = live

handled_live : (shape : VolumeShape) (s t : State) (r : Request) (a : Answer) (e : Effect) (q : Place) (b : ℕ) → Kept shape s → Handles s r a e t → is_in b s.manager.asked ≡ false → IsNotBelow s q
    → is_live (s.units.row q b) ≡ true → is_live ((units_after (place_of r) r e s.units).row q b) ≡ true
handled_live shape s t r a Effect.Nothing q b k h unasked above live = live
handled_live shape s t r a Effect.Started q b k h unasked above live = live
handled_live shape s t r a Effect.Doubted q b k h unasked above live = live
handled_live shape s t r a Effect.Made q b k h unasked above live = made_elsewhere shape s (place_of r) q b k (makes (view_at s.broken s.units (place_of r)) r a h.1) live
handled_live shape s t r a Effect.Wrote q b k h unasked above live =
    written_spared (place_of r) q b (record_of r) (started (place_of r) s.units) (λ item e. issued_spares shape s (place_of r) q b item k unasked above (request_issued s.post.issued r item h.0 e)) live

doubt_spares : (shape : VolumeShape) (s : State) (p q : Place) (b : ℕ) (item : UnitRecord) → Kept shape s → is_in b s.manager.asked ≡ false → IsNotBelow s q → s.units.doubt p ≡ Some item → Spares p q b item
doubt_spares shape s p q b item k unasked above e = issued_spares shape s p q b item k unasked above (k.authority.releases.unit_doubt_issued p item e)

settled_live : (shape : VolumeShape) (s t : State) (p : Place) (is_found : Bool) (q : Place) (b : ℕ) → Kept shape s → SettlesUnit p s is_found t → is_in b s.manager.asked ≡ false → IsNotBelow s q
    → is_live (s.units.row q b) ≡ true → is_live (t.units.row q b) ≡ true
settled_live shape s t p true q b k h unasked above live =
    subst (λ (x : State). is_live (x.units.row q b) ≡ true) (sym h.2) (written_spared p q b (s.units.doubt p) (settled_at p s.units) (λ item e. doubt_spares shape s p q b item k unasked above e) live)
settled_live shape s t p false q b k h unasked above live = subst (λ (x : State). is_live (x.units.row q b) ≡ true) (sym h.1) live

live_stays : (shape : VolumeShape) (s : State) (move : Move) (t : State) (q : Place) (b : ℕ) → Kept shape s → Moves shape s move t → is_in b s.manager.asked ≡ false → IsNotBelow s q
    → is_live (s.units.row q b) ≡ true → is_live (t.units.row q b) ≡ true
live_stays shape s (Move.Issue r) t q b k h unasked above live = ap (λ (x : State). is_live (x.units.row q b)) h.2 ∙ live
live_stays shape s (Move.Handle r a e) t q b k h unasked above live =
    subst (λ (x : State). is_live (x.units.row q b) ≡ true) (sym h.2) (handled_live shape s t r a e q b k h unasked above live)
live_stays shape s (Move.Hear r a) t q b k h unasked above live = ap (λ (x : State). is_live (x.units.row q b)) h.1 ∙ live
live_stays shape s (Move.SettleManager is_found) t q b k h unasked above live = let same = settle_unmoved s is_found t h in ap (λ row. is_live (row q b)) same.row ∙ live
live_stays shape s (Move.SettleUnit p is_found) t q b k h unasked above live = settled_live shape s t p is_found q b k h unasked above live
live_stays shape s (Move.Happen event reply) t q b k h unasked above live = let same = happen_unmoved shape s event reply t h in ap (λ row. is_live (row q b)) same.row ∙ live

-- ---- runs

-- what a state owes an earlier one
pub record IsAfter (shape : VolumeShape) (a s : State) : Type 0 where
  pub kept : Kept shape s
  pub later : IsLater a s
  pub rows : (b i : ℕ) → is_in b s.manager.asked ≡ false → s.manager.version ≡ a.manager.version → is_live (a.units.row (current a.manager.homes i) b) ≡ true
      → is_live (s.units.row (current a.manager.homes i) b) ≡ true

pub after_same : (shape : VolumeShape) (a : State) → Kept shape a → IsAfter shape a a
after_same shape a k = record { kept = k; later = later_same a; rows = λ b i unasked same live. live }

move_after : (shape : VolumeShape) (a s : State) (move : Move) (t : State) → IsVolumeShape shape → Moves shape s move t → IsAfter shape a s → IsAfter shape a t
move_after shape a s move t good h after =
    let step = move_later shape s move t h in
    record {
      kept = move_kept shape s move t good after.kept h;
      later = later_on a s t after.later step;
      rows = λ b i unasked same live.
          let before = not_so (is_in b s.manager.asked) (λ x. contrary (is_in b t.manager.asked) (step.manager.asked b x) unasked) in
          let level = between a.manager s.manager t.manager after.later.manager step.manager same in
          live_stays shape s move t (current a.manager.homes i) b after.kept h before
          (λ below. let less = subst (λ homes. (home_at a.manager.homes i).epoch < (home_at homes i).epoch) level.1 below in omega arith)
          (after.rows b i before level.0 live);
    }

pub entry_after : (shape : VolumeShape) (a : State) (w : World) (step : Step) (v : World) → IsVolumeShape shape → Leads shape w step v → IsAfter shape a w.state → IsAfter shape a v.state
entry_after shape a w step v good h after = entry_lasts shape (IsAfter shape a) (λ s move t moved before. move_after shape a s move t good moved before) w step v h after
