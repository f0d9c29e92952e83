-- Lemmas on what a sink gained.
use Rattle.std.proofs.Common.{◌≡◌, ℕ, ◌+◌, ◌-◌, ◌<◌, ◌≤◌, List, [], ◌++◌, length, take, drop, Option, Some, None, IfSome, Result, Err, sym, ◌∙◌, ap, append_assoc, subst, arith, length-drop}
use Rattle.std.proofs.lemmas.List.{append-nil, take-append-drop}
use Rattle.std.proofs.Math.Seq.{take-add, take-length}
use Rattle.disk_base.specs.Faults.{Rose}
use Rattle.disk_base.specs.Streams.{SinkView}
use Rattle.node_runner.specs.Run.{Gains, GainsPart}
use Rattle.node_runner.specs.Progress.{PushesAll}

pub gains_nothing : (old new : SinkView) → new.held ≡ old.held → Gains old [] new
gains_nothing old new same = go old.held same where
  go : (held : Option (List ℕ)) → new.held ≡ held → IfSome held (λ before. new.held ≡ Some (before ++ []))
  go None e = tt
  go (Some bytes) e = e ∙ ap Some (sym (append-nil bytes))

pub gains_to : (old between new : SinkView) (bytes : List ℕ) → Gains old bytes between → new.held ≡ between.held → Gains old bytes new
gains_to old between new bytes h same = go old.held h where
  go : (held : Option (List ℕ)) → IfSome held (λ before. between.held ≡ Some (before ++ bytes)) → IfSome held (λ before. new.held ≡ Some (before ++ bytes))
  go None h = tt
  go (Some before) h = same ∙ h

pub gains_more : (old between new : SinkView) (first second both : List ℕ) → Gains old first between → Gains between second new → first ++ second ≡ both → Gains old both new
gains_more old between new first second both h k e = go old.held h where
  go : (held : Option (List ℕ)) → IfSome held (λ before. between.held ≡ Some (before ++ first)) → IfSome held (λ before. new.held ≡ Some (before ++ both))
  go None h = tt
  go (Some before) h =
      let there : IfSome (Some (before ++ first)) (λ b. new.held ≡ Some (b ++ second)) = subst (λ (o : Option (List ℕ)). IfSome o (λ b. new.held ≡ Some (b ++ second))) h k in
      there ∙ ap Some (append_assoc before first second ∙ ap (λ l. before ++ l) e)

-- the slice from a place on
pub slice_from : (place : ℕ) (bytes : List ℕ) → take (length bytes - place) (drop place bytes) ≡ drop place bytes
slice_from place bytes = rw (sym (length-drop place bytes)) (take-length (drop place bytes))

-- what one push more has moved
pub gains_push : (old between new : SinkView) (place n : ℕ) (bytes : List ℕ) → Gains old (take place bytes) between
    → Gains between (take n (take (length bytes - place) (drop place bytes))) new → Gains old (take (place + n) bytes) new
gains_push old between new place n bytes h k =
    let part = ap (take n) (slice_from place bytes) in
    gains_more old between new (take place bytes) (take n (drop place bytes)) (take (place + n) bytes) h
    (subst (λ (m : List ℕ). Gains between m new) part k) (sym (take-add place n bytes))

-- a push that failed inside the bytes
pub gains_part : (old between new : SinkView) (place : ℕ) (bytes : List ℕ) → place < length bytes → Gains old (take place bytes) between → new.held ≡ between.held
    → GainsPart old bytes new
gains_part old between new place bytes inside h same = record {
  front = take place bytes;
  rest = drop place bytes;
  is_whole = sym (take-append-drop place bytes);
  is_part = omega (arith, inside, length-drop place bytes);
  gains = gains_to old between new (take place bytes) h same;
}

pub rose_since : (first before now : ℕ) → first ≤ before → Rose before now → Rose first now
rose_since first before now h k = omega (arith, h, k)

-- .. and the pushing ended so
pub push_failed : {T E : Type 0} (bytes : List ℕ) (old between new : SinkView) (result : Result T E) (fault : E) → result ≡ Err fault → GainsPart old bytes new
    → old.faults ≤ between.faults → between.faults ≤ new.faults → Rose between.faults new.faults → PushesAll bytes old new result
push_failed {T} {E} bytes old between new result fault is part before after rose =
    subst (λ (r : Result T E). PushesAll bytes old new r) (sym is)
    (record { pushed = tt; part = part; cause = record { never_falls = omega (arith, before, after); failed = rose_since old.faults between.faults new.faults before rose } })
