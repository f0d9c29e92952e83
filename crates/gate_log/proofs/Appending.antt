-- The calls on the file that an append makes, one after the other.
use Rattle.std.proofs.Common.{◌≡◌, inl, ◌≤◌, ℕ, ◌+◌, List, [], ◌∷◌, ◌++◌, length, sym, ◌∙◌, ap, subst, arith, Some, Result, Ok, Err, IfSome, IsSomeAnd}
use Rattle.disk_base.specs.Disk.{FileView, IsFile, IsTorn, LeavesExactly, AtEachMoment, Grows, overwritten}
use Rattle.disk_base.specs.Moments.{at_start, joined, weaker, after_grow}
use Rattle.gate_log.specs.LogFile.{longest_body, bodies_of, IsBeforeOrAfter, record_behind}
use Rattle.gate_log.specs.GateLog.{IsStarted, IsSettled, IsThrough, IsAppend}
use Rattle.gate_log.proofs.Fetch.{at_some, some_and}
use Rattle.gate_log.proofs.Begin.{and_map}
use Rattle.gate_log.proofs.Torn.{overwritten_front}
use Rattle.gate_log.proofs.Appends.{untouched, first_torn, second_torn, second_whole}

module _ (was body : List ℕ) (place : ℕ) (old : FileView) (told : old.content ≡ Some was) (file : IsFile old) (started : IsSettled old (Some place)) (some : 1 ≤ length body) (few : length body ≤ longest_body) where
  begun : IsStarted old.images place (bodies_of was) was
  begun = at_some old.content was (λ w. IsStarted old.images place (bodies_of w) w) told started

  is_before : IsBeforeOrAfter (bodies_of was) body was
  is_before = untouched was body place old.images begun some few

  -- nothing was done
  pub not_begun : {T E : Type 0} (e : E) → IsAppend {T = T} (bodies_of was) body place was old old (Err e)
  not_begun e = record {
    appended = tt;
    written = tt;
    stands = some_and old.content was (IsBeforeOrAfter (bodies_of was) body) told is_before;
    moments = at_start (IsBeforeOrAfter (bodies_of was) body) old (λ c left. subst (IsBeforeOrAfter (bodies_of was) body) (sym (begun.exactly c (file.present_alone c left))) is_before);
  }

  abbrev staged : List ℕ
  staged = overwritten was (place + 1) (record_behind body [])

  module _ {U F : Type 0} (end : ℕ) (grown : FileView) (grew : Result U F) (grows : Grows end old grown grew) where
    now : grown.content ≡ Some was
    now = grows.same ∙ told

    exactly : LeavesExactly was grown.images
    exactly c left = begun.exactly c ((grows.same_images c).0 left)

    -- nothing but room was made, if any
    pub not_written : {T E : Type 0} (e : E) → IsAppend {T = T} (bodies_of was) body place was old grown (Err e)
    not_written e = record {
      appended = tt;
      written = tt;
      stands = some_and grown.content was (IsBeforeOrAfter (bodies_of was) body) now is_before;
      moments = record {
        never_falls = omega (arith, grows.same_clock);
        each = λ c left. subst (IsBeforeOrAfter (bodies_of was) body) (sym (begun.exactly c (file.present_alone c ((grows.same_past old.clock c).0 left)))) is_before;
        earlier = λ t c le left. inl ((grows.same_past t c).0 left);
      };
    }

    module _ {V G : Type 0} (bytes : List ℕ) (bytes_are : bytes ≡ record_behind body []) (mid : FileView) (wrote : Result V G) (first : IfSome grown.content (λ w. IsThrough (place + 1) bytes w grown mid wrote)) where
      behind : IsThrough (place + 1) bytes was grown mid wrote
      behind = at_some grown.content was (λ w. IsThrough (place + 1) bytes w grown mid wrote) now first

      first_moments : AtEachMoment old mid (IsBeforeOrAfter (bodies_of was) body)
      first_moments = after_grow (IsBeforeOrAfter (bodies_of was) body) end old grown mid grew grows
          (weaker (IsTorn (place + 1) (length bytes) was) (IsBeforeOrAfter (bodies_of was) body) grown mid (behind.moments exactly) (first_torn was body place old.images begun some few (length bytes)))

      -- the first write or its sync failed
      pub first_failed : {T E : Type 0} (e : E) → IsAppend {T = T} (bodies_of was) body place was old mid (Err e)
      first_failed e = record {
        appended = tt;
        written = tt;
        stands = and_map mid.content (IsTorn (place + 1) (length bytes) was) (IsBeforeOrAfter (bodies_of was) body) (first_torn was body place old.images begun some few (length bytes)) behind.torn;
        moments = first_moments;
      }

    module _ (V G W H : Type 0) (bytes : List ℕ) (bytes_are : bytes ≡ record_behind body []) (mid : FileView) (x : V) (first : IfSome grown.content (λ w. IsThrough {T = V} {E = G} (place + 1) bytes w grown mid (Ok x)))
        (new : FileView) (opened : Result W H) (second : IfSome mid.content (λ w. IsThrough place (1 ∷ []) w mid new opened)) where
      settled : (mid.content ≡ Some staged) × LeavesExactly staged mid.images
      settled = subst (λ b. (mid.content ≡ Some (overwritten was (place + 1) b)) × LeavesExactly (overwritten was (place + 1) b) mid.images) bytes_are
          (behind {V = V} {G = G} bytes bytes_are mid (Ok x) first).settled

      gate : IsThrough place (1 ∷ []) staged mid new opened
      gate = at_some mid.content staged (λ w. IsThrough place (1 ∷ []) w mid new opened) settled.0 second

      gate_stands : IsSomeAnd new.content (IsBeforeOrAfter (bodies_of was) body)
      gate_stands = and_map new.content (IsTorn place 1 staged) (IsBeforeOrAfter (bodies_of was) body) (second_torn was body place old.images begun some few) gate.torn

      gate_moments : AtEachMoment old new (IsBeforeOrAfter (bodies_of was) body)
      gate_moments = joined (IsBeforeOrAfter (bodies_of was) body) old mid new (first_moments {V = V} {G = G} bytes bytes_are mid (Ok x) first)
          (weaker (IsTorn place 1 staged) (IsBeforeOrAfter (bodies_of was) body) mid new (gate.moments settled.1) (second_torn was body place old.images begun some few))

      -- the second write or its sync failed
      pub second_failed : {T E : Type 0} (e : E) → IsAppend {T = T} (bodies_of was) body place was old new (Err e)
      second_failed e = record { appended = tt; written = tt; stands = gate_stands; moments = gate_moments }

    -- nothing failed
    pub all_written : (V G W H : Type 0) (bytes : List ℕ) (bytes_are : bytes ≡ record_behind body []) (mid : FileView) (x : V) (first : IfSome grown.content (λ w. IsThrough {T = V} {E = G} (place + 1) bytes w grown mid (Ok x)))
        (new : FileView) (z : W) (second : IfSome mid.content (λ w. IsThrough {T = W} {E = H} place (1 ∷ []) w mid new (Ok z))) {T E : Type 0} (y : T) → IsAppend {T = T} {E = E} (bodies_of was) body place was old new (Ok y)
    all_written V G W H bytes bytes_are mid x first new z second y =
        let i = begun.at_rest.inside in
        let e = begun.end_is in
        let o = (gate V G W H bytes bytes_are mid x first new (Ok z) second).settled in
        record {
          appended = some_and new.content (overwritten staged place (1 ∷ [])) (IsStarted new.images (place + 5 + length body) (bodies_of was ++ body ∷ [])) o.0
              (second_whole was body place old.images begun some few new.images o.1);
          written = o.0 ∙ ap Some (overwritten_front was place 1 (record_behind body []) (omega arith));
          stands = gate_stands V G W H bytes bytes_are mid x first new (Ok z) second;
          moments = gate_moments V G W H bytes bytes_are mid x first new (Ok z) second;
        }
