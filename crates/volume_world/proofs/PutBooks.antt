-- Puts in memory, as they change.
use Rattle.std.proofs.Common.{◌≡◌, ◌∙◌, sym, ap, subst, refl, ℕ, zero, suc, ◌<◌, ◌≤◌, ◌+◌, Bool, true, false, cond, ◌&&◌, ◌||◌, ◌==◌, List, [], ◌∷◌, replicate, get_or, nat_eq, Option, Some, None, IfSome, eqb-true, arith}
use Rattle.unit_id.specs.Lists.{any, count_below}
use Rattle.volume_world.proofs.SameNumbers.{flipped, same_here}
use Rattle.unit_id.specs.Place.{Place}
use Rattle.code_mode.specs.VolumeShape.{VolumeShape}
use Rattle.volume_entry.specs.Reply.{Reply as ToldReply}
use Rattle.volume_world.specs.State.{Status, Puts, State}
use Rattle.volume_world.specs.BlobStatus.{is_open}
use Rattle.volume_world.specs.FixedRows.{most_units}
use Rattle.volume_world.specs.Move.{accepts, opened, accepted_count}
use Rattle.volume_world.specs.PutBook.{Books, EndsWith, IsPut, IsAccepted, opened_put, puts_ended, put_at, status_of, status_told}
use Rattle.volume_world.specs.declared.reply.Reply.{Reply}
use Rattle.volume_world.specs.declared.reply.Reply.TheVariants as replies
use Rattle.volume_world.specs.declared.puts.PutState.{PutState}

-- the put of this blob is as it was
pub record IsSame (puts after : Puts) (bid : ℕ) : Type 0 where
  pub status : after.status bid ≡ puts.status bid
  pub ends : after.end bid ≡ puts.end bid
  pub accepts : (index : ℕ) → after.accepted bid index ≡ puts.accepted bid index

same_put : (total : ℕ) (puts after : Puts) (bid : ℕ) (put : Option PutState) → IsSame puts after bid
    → IfSome put (λ p. IsPut total p (puts.end bid) (puts.accepted bid)) → IfSome put (λ p. IsPut total p (after.end bid) (after.accepted bid))
same_put total puts after bid None same k = k
same_put total puts after bid (Some p) same k =
    record { ends = k.ends ∙ sym same.ends; accepts = λ index h. k.accepts index h ∙ sym (same.accepts index) }

-- the put of one blob is another now
module _ (total bid : ℕ) (put : PutState) (old new : List (ℕ × PutState)) (puts after : Puts)
    (changed : (q : ℕ) → put_at new q ≡ cond (nat_eq bid q) (Some put) (put_at old q))
    (status : status_told put.status ≡ after.status bid) (here : IsPut total put (after.end bid) (after.accepted bid))
    (others : (q : ℕ) → nat_eq bid q ≡ false → IsSame puts after q) (was : Books total old puts) where
  status_after : (q : ℕ) (t : Bool) → nat_eq bid q ≡ t → status_of (cond t (Some put) (put_at old q)) ≡ after.status q
  status_after q true e = status ∙ ap after.status (eqb-true bid q e)
  status_after q false e = was.status q ∙ sym (others q e).status

  put_after : (q : ℕ) (t : Bool) → nat_eq bid q ≡ t → IfSome (cond t (Some put) (put_at old q)) (λ p. IsPut total p (after.end q) (after.accepted q))
  put_after q true e = subst (λ b. IsPut total put (after.end b) (after.accepted b)) (eqb-true bid q e) here
  put_after q false e = same_put total puts after q (put_at old q) (others q e) (was.each q)

  pub changed_books : Books total new after
  changed_books = record {
    status = λ q. ap status_of (changed q) ∙ status_after q (nat_eq bid q) refl;
    each = λ q. subst (λ o. IfSome o (λ p. IsPut total p (after.end q) (after.accepted q))) (sym (changed q)) (put_after q (nat_eq bid q) refl);
  }

-- what memory has of a put that was found
pub found_put : (total bid : ℕ) (put : PutState) (book : List (ℕ × PutState)) (puts : Puts) → put_at book bid ≡ Some put → Books total book puts
    → IsPut total put (puts.end bid) (puts.accepted bid)
found_put total bid put book puts found was = subst (λ o. IfSome o (λ p. IsPut total p (puts.end bid) (puts.accepted bid))) found (was.each bid)

pub found_status : (total bid : ℕ) (put : PutState) (book : List (ℕ × PutState)) (puts : Puts) → put_at book bid ≡ Some put → Books total book puts
    → status_told put.status ≡ puts.status bid
found_status total bid put book puts found was = sym (ap status_of found) ∙ was.status bid

none_in : (flags : List Bool) (index : ℕ) → any (λ b. b) flags ≡ false → get_or flags index false ≡ false
none_in [] index e = refl
none_in (true ∷ flags) index e = cc e
none_in (false ∷ flags) zero e = refl
none_in (false ∷ flags) (suc index) e = none_in flags index e

none_set : (index : ℕ) → get_or (replicate most_units false) index false ≡ false
none_set index = none_in (replicate most_units false) index refl

pub begun_books : (total bid end : ℕ) (payload : List ℕ) (old new : List (ℕ × PutState)) (puts : Puts)
    → ((q : ℕ) → put_at new q ≡ cond (nat_eq bid q) (Some (opened_put end)) (put_at old q)) → Books total old puts → Books total new (opened bid payload end puts)
begun_books total bid end payload old new puts changed was =
    changed_books total bid (opened_put end) old new puts (opened bid payload end puts) changed
    (sym (ap (λ b. cond b Status.Open (puts.status bid)) (same_here bid)))
    (record {
      ends = sym (ap (λ b. cond b end (puts.end bid)) (same_here bid));
      accepts = λ index _. none_set index ∙ sym (ap (λ b. cond b false (puts.accepted bid index)) (same_here bid));
    })
    (λ q e. record {
      status = ap (λ b. cond b Status.Open (puts.status q)) (flipped bid q e);
      ends = ap (λ b. cond b end (puts.end q)) (flipped bid q e);
      accepts = λ index. ap (λ b. cond b false (puts.accepted q index)) (flipped bid q e);
    })
    was

-- one index more accepted a put
pub accepted_books : (total bid index : ℕ) (place : Place) (put after : PutState) (old new : List (ℕ × PutState)) (puts : Puts) → total ≤ most_units → place.index ≡ index
    → put_at old bid ≡ Some put → ((q : ℕ) → put_at new q ≡ cond (nat_eq bid q) (Some after) (put_at old q))
    → IsAccepted index put after → Books total old puts → Books total new (accepts place bid puts)
accepted_books total bid index place put after old new puts few here found changed does was =
    let now : IsPut total put (puts.end bid) (puts.accepted bid) = found_put total bid put old puts found was in
    let stands : status_told put.status ≡ puts.status bid = found_status total bid put old puts found was in
    changed_books total bid after old new puts (accepts place bid puts) changed
    (ap status_told does.status ∙ stands)
    (record {
      ends = does.ends ∙ now.ends;
      accepts = λ i h. does.accepts i (omega arith)
          ∙ ap (λ b. ((i == index) && is_open (status_told put.status)) || b) (now.accepts i h)
          ∙ ap (λ s. ((i == index) && is_open s) || puts.accepted bid i) stands
          ∙ ap (λ n. ((i == n) && is_open (puts.status bid)) || puts.accepted bid i) (sym here)
          ∙ ap (λ b. (b && ((i == place.index) && is_open (puts.status bid))) || puts.accepted bid i) (sym (same_here bid));
    })
    (λ q e. record {
      status = refl;
      ends = refl;
      accepts = λ i. ap (λ b. (b && ((i == place.index) && is_open (puts.status bid))) || puts.accepted q i) (flipped bid q e);
    })
    was

ended_keeps : (bid : ℕ) (reply : Reply) (puts : Puts) → ((puts_ended bid reply puts).end ≡ puts.end) × ((puts_ended bid reply puts).accepted ≡ puts.accepted)
ended_keeps bid (replies.LeaseOver end time) puts = (refl, refl)
ended_keeps bid (replies.Quorum accepted) puts = (refl, refl)
ended_keeps bid (replies.Acked accepted) puts = (refl, refl)
ended_keeps bid reply puts = (refl, refl)

ended_others : (bid q : ℕ) (reply : Reply) (puts : Puts) → (q == bid) ≡ false → (puts_ended bid reply puts).status q ≡ puts.status q
ended_others bid q (replies.LeaseOver end time) puts e = ap (λ b. cond b Status.Failed (puts.status q)) e
ended_others bid q (replies.Quorum accepted) puts e = ap (λ b. cond b Status.Failed (puts.status q)) e
ended_others bid q (replies.Acked accepted) puts e = ap (λ b. cond b Status.Acked (puts.status q)) e
ended_others bid q reply puts e = refl

-- a put has ended
pub ended_books : (total bid : ℕ) (reply : Reply) (put after : PutState) (old new : List (ℕ × PutState)) (puts : Puts)
    → put_at old bid ≡ Some put → ((q : ℕ) → put_at new q ≡ cond (nat_eq bid q) (Some after) (put_at old q))
    → status_told after.status ≡ (puts_ended bid reply puts).status bid → after ≡ record put { status = after.status } → Books total old puts
    → Books total new (puts_ended bid reply puts)
ended_books total bid reply put after old new puts found changed status rest was =
    let now : IsPut total put (puts.end bid) (puts.accepted bid) = found_put total bid put old puts found was in
    let keeps : ((puts_ended bid reply puts).end ≡ puts.end) × ((puts_ended bid reply puts).accepted ≡ puts.accepted) = ended_keeps bid reply puts in
    changed_books total bid after old new puts (puts_ended bid reply puts) changed status
    (record {
      ends = ap (λ p. p.end) rest ∙ now.ends ∙ sym (ap (λ f. f bid) keeps.0);
      accepts = λ i h. ap (λ p. get_or p.accepted i false) rest ∙ now.accepts i h ∙ sym (ap (λ f. f bid i) keeps.1);
    })
    (λ q e. record {
      status = ended_others bid q reply puts (flipped bid q e);
      ends = ap (λ f. f q) keeps.0;
      accepts = λ i. ap (λ f. f q i) keeps.1;
    })
    was

-- ---- what the end of a put replies

pub ends_unopened : (shape : VolumeShape) (bid : ℕ) (s : State) (status : Status) → status ≡ s.puts.status bid → is_open status ≡ false → EndsWith shape bid s replies.NotOpen
ends_unopened shape bid s status stands e = record {
  told = ToldReply.NotOpen;
  tells = λ vid. tt;
  ends = (sym (ap is_open stands) ∙ e, refl);
}

pub ends_late : (shape : VolumeShape) (bid time : ℕ) (s : State) (put : PutState) → s.time ≡ time → status_told put.status ≡ s.puts.status bid
    → IsPut shape.total put (s.puts.end bid) (s.puts.accepted bid) → is_open (status_told put.status) ≡ true → put.end ≤ time → EndsWith shape bid s (replies.LeaseOver put.end time)
ends_late shape bid time s put now stands is e late = record {
  told = ToldReply.LeaseOver put.end time;
  tells = λ vid. (refl, refl);
  ends = (sym (ap is_open stands) ∙ e, is.ends, sym now, late, refl);
}

same_count : (n : ℕ) (f g : ℕ → Bool) → ((i : ℕ) → i < n → f i ≡ g i) → count_below n f ≡ count_below n g
same_count zero f g e = refl
same_count (suc n) f g e =
    ap (λ b. cond b 1 0 + count_below n f) (e n (omega arith)) ∙ ap (λ k. cond (g n) 1 0 + k) (same_count n f g (λ i h. e i (omega arith)))

pub ends_counted : (total : ℕ) (put : PutState) (accepted end bid : ℕ) (puts : Puts) → IsPut total put (puts.end bid) (puts.accepted bid)
    → accepted ≡ count_below total (λ i. get_or put.accepted i false) → accepted ≡ accepted_count total puts bid
ends_counted total put accepted end bid puts is e = e ∙ same_count total (λ i. get_or put.accepted i false) (puts.accepted bid) is.accepts

pub ends_short : (shape : VolumeShape) (bid time accepted : ℕ) (s : State) (put : PutState) → s.time ≡ time → status_told put.status ≡ s.puts.status bid
    → IsPut shape.total put (s.puts.end bid) (s.puts.accepted bid) → is_open (status_told put.status) ≡ true → time < put.end
    → accepted ≡ count_below shape.total (λ i. get_or put.accepted i false) → accepted < shape.quorum → EndsWith shape bid s (replies.Quorum accepted)
ends_short shape bid time accepted s put now stands is e early counted few = record {
  told = ToldReply.Quorum accepted;
  tells = λ vid. refl;
  ends = (sym (ap is_open stands) ∙ e, subst (λ n. s.time < n) is.ends (omega arith), ends_counted shape.total put accepted put.end bid s.puts is counted, few, refl);
}

pub ends_acked : (shape : VolumeShape) (bid time accepted : ℕ) (s : State) (put : PutState) → s.time ≡ time → status_told put.status ≡ s.puts.status bid
    → IsPut shape.total put (s.puts.end bid) (s.puts.accepted bid) → is_open (status_told put.status) ≡ true → time < put.end
    → accepted ≡ count_below shape.total (λ i. get_or put.accepted i false) → shape.quorum ≤ accepted → EndsWith shape bid s (replies.Acked accepted)
ends_acked shape bid time accepted s put now stands is e early counted enough = record {
  told = ToldReply.Acked accepted;
  tells = λ vid. refl;
  ends = (sym (ap is_open stands) ∙ e, subst (λ n. s.time < n) is.ends (omega arith), ends_counted shape.total put accepted put.end bid s.puts is counted, enough, refl);
}
