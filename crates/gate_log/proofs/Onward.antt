-- How a start goes on from body to body.
use Rattle.std.proofs.Common.{◌≡◌, ◌≢◌, ◌⊎◌, inl, inr, ◌<◌, ◌≤◌, ◌+◌, ◌-◌, ℕ, true, false, List, [], ◌∷◌, ◌++◌, length, sym, ◌∙◌, ap, subst, arith, slice_index, slice_range, Option, None, Some, Err, IsSomeAnd}
use Rattle.gate_log.specs.LogFile.{holds, bad_chain, contents_of, body_at, next_place, end_place, IsRecord, Walks}
use Rattle.gate_log.specs.GateLog.{FindsAt, IsBroken, NextAnswers, HasCome, ComesOn}
use Rattle.gate_log.specs.declared.fault.LogFault.{LogFault}
use Rattle.gate_log.specs.declared.fault.LogFault.TheVariants.{Fault, BadHead, BadChain, Shut, BadLength, Full, Memory}
use Rattle.gate_log.specs.declared.start.Cursor.{Cursor}
use Rattle.gate_log.proofs.Fetch.{at_some}
use Rattle.gate_log.proofs.Rest.{le_or_lt, short_file, marked_file}
use Rattle.gate_log.proofs.Walk.{walk_says, walk_breaks, walk_end, walk_push, closed_past}

module _ (file : List ℕ) (read : List (List ℕ)) (cursor : Cursor) (come : HasCome file read cursor) where
  -- it ends where a gate isn't open
  stands_shut : 9 < length file → slice_index file cursor.place ≢ 1 → contents_of file ≡ holds read
  stands_shut far shut = marked_file file far (come.head far) ∙ walk_says (length file) file 8 read cursor.place come.walks shut (omega arith)

  stands_short : length file ≤ 9 → contents_of file ≡ holds read
  stands_short short = go read come.walks
    where
      go : (bodies : List (List ℕ)) → Walks file 8 bodies cursor.place → contents_of file ≡ holds bodies
      go [] walks = short_file file short
      go (body ∷ bodies) walks =
          let i = walks.0.inside in
          let n = walks.0.not_empty in
          absurd (omega (arith, i, n, short))

  -- at a closed gate that is found now
  pub comes_closed : (new : Cursor) → 9 < cursor.len → cursor.place < cursor.len → (cursor.len ≤ length file → FindsAt file cursor.len cursor.place None) → new.len ≡ cursor.len → new.place ≡ cursor.place → (contents_of file ≡ holds read) × HasCome file read new
  comes_closed new long inside finds len place =
      let shut = finds (omega (arith, come.len_is)) in (
        stands_shut (omega (arith, long, come.len_is)) shut,
        record {
          len_is = len ∙ come.len_is;
          head = come.head;
          walks = subst (Walks file 8 read) (sym place) come.walks;
          closed = λ _. (omega (arith, place, inside, come.len_is), subst (λ p. slice_index file p ≢ 1) (sym place) shut);
        },
      )

  -- at the end of a short file, at one that was found, or at the end of the file
  pub comes_ended : ((cursor.len ≤ 9) ⊎ ((cursor.is_closed ≡ true) ⊎ (cursor.len ≤ cursor.place))) → (contents_of file ≡ holds read) × HasCome file read cursor
  comes_ended why = (
    elim why [
      | inl short ↦ stands_short (omega (arith, short, come.len_is))
      | inr (inl shut) ↦ long_or_short (λ far. (come.closed shut).1)
      | inr (inr past) ↦ long_or_short (λ far. closed_past file cursor.place (omega (arith, past, come.len_is)))
    ],
    come,
  )
    where
      long_or_short : (9 < length file → slice_index file cursor.place ≢ 1) → contents_of file ≡ holds read
      long_or_short f = elim (le_or_lt (length file) 9) [ inl short ↦ stands_short short | inr far ↦ stands_shut far (f far) ]

  -- at an open gate with no whole record
  pub comes_broken : (content : Option (List ℕ)) (new : Cursor) (cause : LogFault) → content ≡ Some file → 9 < cursor.len → NextAnswers content cursor.len cursor.place (Err cause) → ComesOn file read new (Err cause)
  comes_broken content new (BadChain place) told long a =
      let broken = at_some content file (λ f. cursor.len ≤ length f → IsBroken f cursor.len cursor.place) told a.1 (omega (arith, come.len_is)) in
      let here : IsBroken file (length file) cursor.place = subst (λ n. IsBroken file n cursor.place) come.len_is broken in
      let far : 9 < length file = omega (arith, long, come.len_is) in
      marked_file file far (come.head far) ∙ walk_breaks (length file) file 8 read cursor.place come.walks here.0 here.1 (omega arith) ∙ ap bad_chain (sym a.0)
  comes_broken content new Fault told long a = tt
  comes_broken content new Memory told long a = tt
  comes_broken content new Shut told long a = tt
  comes_broken content new BadHead told long a = tt
  comes_broken content new (BadLength n) told long a = tt
  comes_broken content new (Full n) told long a = tt

  -- over a body
  pub comes_over : (next : ℕ) (body : List ℕ) (found : Option (List ℕ)) (new : Cursor) → cursor.is_closed ≡ false → (cursor.len ≤ length file → FindsAt file cursor.len cursor.place (Some next)) → next ≤ cursor.len
      → found ≡ Some body → (cursor.place + 5 + (next - cursor.place - 5) ≤ length file → IsSomeAnd found (λ piece. piece ≡ slice_range file (cursor.place + 5) (cursor.place + 5 + (next - cursor.place - 5))))
      → new.place ≡ next → new.len ≡ cursor.len → new.is_closed ≡ cursor.is_closed → (cursor.place ≡ end_place read) × HasCome file (read ++ body ∷ []) new
  comes_over next body found new is_open finds inside is piece place len closed =
      let at = finds (omega (arith, come.len_is)) in
      let whole : IsRecord file (length file) cursor.place = subst (λ n. IsRecord file n cursor.place) come.len_is at.0 in
      let to : cursor.place + 5 + (next - cursor.place - 5) ≡ next_place file cursor.place = omega (arith, at.1) in
      let got : body ≡ slice_range file (cursor.place + 5) (cursor.place + 5 + (next - cursor.place - 5)) =
      subst (λ o. IsSomeAnd o (λ p. p ≡ slice_range file (cursor.place + 5) (cursor.place + 5 + (next - cursor.place - 5)))) is (piece (omega (arith, to, at.1, inside, come.len_is))) in
      let same : body_at file cursor.place ≡ body = ap (λ e. slice_range file (cursor.place + 5) e) (sym to) ∙ sym got in (
        walk_end file 8 read cursor.place come.walks,
        record {
          len_is = len ∙ come.len_is;
          head = come.head;
          walks = subst (λ p. Walks file 8 (read ++ body ∷ []) p) (sym (place ∙ at.1)) (subst (λ b. Walks file 8 (read ++ b ∷ []) (next_place file cursor.place)) same (walk_push file 8 read cursor.place come.walks whole));
          closed = λ shut. absurd (apart (sym is_open ∙ sym closed ∙ shut));
        },
      )
    where
      apart : false ≡ true → ⊥
      apart h = cc
