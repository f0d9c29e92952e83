-- Every move keeps bytes as begun, and so does every list of moves.
use Rattle.std.proofs.Common.{◌≡◌, ℕ, inl, inr, Bool, true, false, List, [], ◌∷◌, Option, Some, None, refl, sym, ◌∙◌, ap, subst}
use Rattle.unit_id.specs.Place.{Place}
use Rattle.unit_id.specs.Request.{Request}
use Rattle.code_mode.specs.declared.mode.Mode.{Mode}
use Rattle.code_mode.specs.VolumeShape.{VolumeShape, IsVolumeShape}
use Rattle.blob_node.specs.Units.{UnitRecord, after_shard, is_live}
use Rattle.blob_node.specs.UnitAnswer.{with_written, settled_at}
use Rattle.volume_world.specs.State.{State}
use Rattle.volume_world.specs.BlobStatus.{is_begun}
use Rattle.volume_world.specs.Move.{Move, Moves, SettlesUnit, IsSendable}
use Rattle.volume_world.specs.Contents.{Contents, begun_shard, found_shard, Carries, Issued, Fills, MovesWith, IsBegunParcel, AreAsBegun}
use Rattle.volume_world.specs.Invariant.{Kept}
use Rattle.volume_world.specs.Laws.{BytesStayAsBegun}
use Rattle.volume_world.proofs.PutsStay.{move_stay}
use Rattle.volume_world.proofs.ContentsKept.{AreFewer, stays, same_units, shard_stands, beside, other_written, doubt_where, handle_fills}
use Rattle.volume_world.proofs.Unmoved.{IsUnmoved, happen_unmoved, settle_unmoved}
use Rattle.volume_world.proofs.AllMoves.{move_kept}

-- units that don't move have no fewer rows or doubts
unmoved_fewer : (s t : State) → IsUnmoved s t → AreFewer s.units t.units
unmoved_fewer s t h = record {
  rows = λ p b live. ap (λ row. is_live (row p b)) (sym h.row) ∙ live;
  doubts = λ p b e. ap (λ doubt. doubt p) (sym h.doubt) ∙ e;
}

-- a shard that is sent is the begun one
sent_as_begun : (mode : Mode) (s t : State) (c d : Contents) (p : Place) (b : ℕ) → is_begun (t.puts.status b) ≡ true → t.puts ≡ s.puts → AreAsBegun mode t c → Carries mode s.puts p b c d → AreAsBegun mode t d
sent_as_begun mode s t c d p b begun same h f = subst (AreAsBegun mode t) (sym f.2) (record {
  rows = h.rows;
  doubts = h.doubts;
  sent = λ y i. elim i [
    | inl here ↦ subst (IsBegunParcel mode t.puts) (sym here) (record { begun = begun; shard = f.1 ∙ ap (λ puts. begun_shard mode puts p b) (sym same) })
    | inr there ↦ h.sent y there
  ];
  got = h.got;
})

issue_fills : (shape : VolumeShape) (mode : Mode) (s t : State) (c d : Contents) (r : Request) → IsSendable shape.total s.puts.status s.manager r → t.puts ≡ s.puts → AreAsBegun mode t c → Issued mode s.puts r c d
    → AreAsBegun mode t d
issue_fills shape mode s t c d (Request.Put p b) sendable same h f = sent_as_begun mode s t c d p b (ap (λ puts. is_begun (puts.status b)) same ∙ sendable.0) same h f
issue_fills shape mode s t c d (Request.Copy p b) sendable same h f = sent_as_begun mode s t c d p b (ap (λ puts. is_begun (puts.status b)) same ∙ sendable.0) same h f
issue_fills shape mode s t c d r sendable same h f = subst (AreAsBegun mode t) (sym f) h

others : (shape : VolumeShape) (mode : Mode) (s : State) (c : Contents) (p : Place) (item : UnitRecord) → Kept shape s → AreAsBegun mode s c → ((b : ℕ) → item ≡ UnitRecord.Shard b → ⊥)
    → AreAsBegun mode (record s { units = with_written p (Some item) (settled_at p s.units) }) c
others shape mode s c p item k h none =
    let fewer = other_written p item (settled_at p s.units) none in
    stays shape mode s _ c k h (λ b x. record { begun = x; payload = refl }) (record { rows = fewer.rows; doubts = λ q b x. doubt_where p None s.units.doubt (λ n y. cc) q b (fewer.doubts q b x) })

-- a record in doubt that is found
found_fills : (shape : VolumeShape) (mode : Mode) (s : State) (c : Contents) (p : Place) (item : Option UnitRecord) → Kept shape s → AreAsBegun mode s c → s.units.doubt p ≡ item
    → AreAsBegun mode (record s { units = with_written p item (settled_at p s.units) }) (found_shard p item c)
found_fills shape mode s c p None k h e = stays shape mode s _ c k h (λ b x. record { begun = x; payload = refl }) (record { rows = λ q b x. x; doubts = λ q b x. doubt_where p None s.units.doubt (λ m y. cc) q b x })
found_fills shape mode s c p (Some (UnitRecord.Shard b)) k h e =
    shard_stands shape mode s c p b (c.doubt p) (with_written p (Some (UnitRecord.Shard b)) (settled_at p s.units)) s.post k h (h.doubts p b e)
    (beside p b (after_shard (s.units.row p b)) s.units.row) (λ q d x. doubt_where p None s.units.doubt (λ m y. cc) q d x)
found_fills shape mode s c p (Some (UnitRecord.Mark b)) k h e = others shape mode s c p (UnitRecord.Mark b) k h (λ n x. cc)
found_fills shape mode s c p (Some (UnitRecord.Free b)) k h e = others shape mode s c p (UnitRecord.Free b) k h (λ n x. cc)
found_fills shape mode s c p (Some (UnitRecord.Fence n)) k h e = others shape mode s c p (UnitRecord.Fence n) k h (λ m x. cc)
found_fills shape mode s c p (Some UnitRecord.Release) k h e = others shape mode s c p UnitRecord.Release k h (λ n x. cc)

settle_unit_fills : (shape : VolumeShape) (mode : Mode) (s t : State) (c d : Contents) (p : Place) (is_found : Bool) → Kept shape s → AreAsBegun mode s c → SettlesUnit p s is_found t
    → Fills mode s (Move.SettleUnit p is_found) c d → AreAsBegun mode t d
settle_unit_fills shape mode s t c d p true k h m f = subst (λ x. AreAsBegun mode x d) (sym m.2) (subst (AreAsBegun mode _) (sym f) (found_fills shape mode s c p (s.units.doubt p) k h refl))
settle_unit_fills shape mode s t c d p false k h m f =
    subst (λ x. AreAsBegun mode x d) (sym m.1) (subst (AreAsBegun mode _) (sym f)
    (stays shape mode s _ c k h (λ b x. record { begun = x; payload = refl }) (record { rows = λ q b x. x; doubts = λ q b x. doubt_where p None s.units.doubt (λ n y. cc) q b x })))

move_fills : (shape : VolumeShape) (mode : Mode) (s : State) (move : Move) (t : State) (c d : Contents) → Kept shape s → AreAsBegun mode s c → Moves shape s move t → Fills mode s move c d → AreAsBegun mode t d
move_fills shape mode s (Move.Issue r) t c d k h m f =
    let same : t.puts ≡ s.puts = ap (λ (x : State). x.puts) m.2 in
    issue_fills shape mode s t c d r m.1 same (stays shape mode s t c k h (move_stay shape s (Move.Issue r) t m) (same_units s t (ap (λ (x : State). x.units) m.2))) f
move_fills shape mode s (Move.Handle r a e) t c d k h m f = subst (λ x. AreAsBegun mode x d) (sym m.2) (handle_fills shape mode s c d r a e k h m.1 f)
move_fills shape mode s (Move.Hear r a) t c d k h m f =
    subst (AreAsBegun mode t) (sym f) (stays shape mode s t c k h (move_stay shape s (Move.Hear r a) t m) (same_units s t (ap (λ (x : State). x.units) m.1)))
move_fills shape mode s (Move.SettleManager is_found) t c d k h m f =
    subst (AreAsBegun mode t) (sym f) (stays shape mode s t c k h (move_stay shape s (Move.SettleManager is_found) t m) (unmoved_fewer s t (settle_unmoved s is_found t m)))
move_fills shape mode s (Move.SettleUnit p is_found) t c d k h m f = settle_unit_fills shape mode s t c d p is_found k h m f
move_fills shape mode s (Move.Happen event reply) t c d k h m f =
    subst (AreAsBegun mode t) (sym f) (stays shape mode s t c k h (move_stay shape s (Move.Happen event reply) t m) (unmoved_fewer s t (happen_unmoved shape s event reply t m)))

moves_fill : (shape : VolumeShape) (mode : Mode) (s : State) (c : Contents) (moves : List Move) (t : State) (d : Contents) → IsVolumeShape shape → Kept shape s → AreAsBegun mode s c
    → MovesWith shape mode s c moves t d → AreAsBegun mode t d
moves_fill shape mode s c [] t d good k h m = subst (λ x. AreAsBegun mode x d) (sym m.0) (subst (AreAsBegun mode s) (sym m.1) h)
moves_fill shape mode s c (move ∷ moves) t d good k h m = moves_fill shape mode m.0 m.1 moves t d good (move_kept shape s move m.0 good k m.2) (move_fills shape mode s move m.0 c m.1 k h m.2 m.3) m.4

pub bytes_stay_as_begun : BytesStayAsBegun
bytes_stay_as_begun = record {
  start = λ mode homes is_made. record { rows = λ p b h. cc; doubts = λ p b h. cc; sent = λ x i. absurd i; got = λ x i. absurd i };
  moves = λ shape mode s t c d moves good k h m. moves_fill shape mode s c moves t d good k h m;
}
