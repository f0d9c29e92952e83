-- Lemmas on the lines of an input that ran.
use Rattle.std.proofs.Common.{◌≡◌, ℕ, zero, suc, ◌+◌, ◌-◌, ◌<◌, ◌≤◌, Bool, true, false, ◌&&◌, List, [], ◌∷◌, ◌++◌, length, map, take, Option, Some, None, IfSome, IsSome, IsSomeAnd, option_map, refl, sym, ◌∙◌, ap, subst, arith, append_assoc, append-nil, length-append}
use Rattle.std.specs.Prelude.{if◌then◌else◌}
use Rattle.std.specs.List.{list_all}
use Rattle.std.proofs.lemmas.Bool.{false≢true}
use Rattle.std.proofs.lemmas.List.{length-map}
use Rattle.std.proofs.lemmas.List.Folds.{list_all-append}
use Rattle.std.proofs.lemmas.Option.{same_Some}
use Rattle.std.proofs.Math.Seq.{take-append-add, take-append_seam}
use Rattle.disk_base.specs.Streams.{SourceView}
use Rattle.script_lines.specs.Lines.{Line, content, line_bytes, bytes_of_lines, AreCut, is_too_long, cut_lines, whole_lines, first_line, after_line, HasNoEnd, StillComes, nothing_buffered}
use Rattle.script_lines.specs.Feeding.{FeedView, feed_of, comes, KeepsFeed, Gives}
use Rattle.node_runner.specs.Script.{inside_behind, inside_after}
use Rattle.node_runner.specs.Run.{is_said, is_in_language, most_lines, good_from, good_lines, pulled, RanAll, RanGood, RanPulled, RanFirst}
use Rattle.node_runner.specs.Progress.{are_good, IsAtEnd, IsBehind, NextIsBad, HasMore}
use Rattle.script_lines.proofs.LineSteps.{front_line, front_no_end, cut_front, bytes_front, whole_front}
use Rattle.node_runner.proofs.Objects.{map-last}

-- a line that isn't inside a block is followed by none that is
pub never_inside : (lines : List (List ℕ)) → inside_after false lines ≡ false
never_inside [] = refl
never_inside (line ∷ lines) = never_inside lines

-- good lines at the front, and what is good behind them
good_from-front : (inside : Bool) (ran more : List Line) → are_good inside ran ≡ true → good_from inside (ran ++ more) ≡ ran ++ good_from (inside_after inside (map content ran)) more
good_from-front inside [] more h = refl
good_from-front inside (l ∷ ran) more h = go (is_in_language inside l) h (good_from-front (inside_behind inside (content l)) ran more)
  where
    next : Bool
    next = inside_behind inside (content l)

    go : (b : Bool) → (b && are_good next ran) ≡ true → (are_good next ran ≡ true → good_from next (ran ++ more) ≡ ran ++ good_from (inside_after next (map content ran)) more)
        → (if b then l ∷ good_from next (ran ++ more) else []) ≡ l ∷ (ran ++ good_from (inside_after next (map content ran)) more)
    go true e ih = ap (λ ls. l ∷ ls) (ih e)
    go false e ih = cc

-- one good line more
are_good-snoc : (inside : Bool) (ran : List Line) (line : Line) → are_good inside ran ≡ true → is_in_language (inside_after inside (map content ran)) line ≡ true → are_good inside (ran ++ line ∷ []) ≡ true
are_good-snoc inside [] line h k = rw (k) refl
are_good-snoc inside (l ∷ ran) line h k = go (is_in_language inside l) h (are_good-snoc (inside_behind inside (content l)) ran line)
  where
    next : Bool
    next = inside_behind inside (content l)

    go : (b : Bool) → (b && are_good next ran) ≡ true → (are_good next ran ≡ true → is_in_language (inside_after next (map content ran)) line ≡ true → are_good next (ran ++ line ∷ []) ≡ true)
        → (b && are_good next (ran ++ line ∷ [])) ≡ true
    go true e ih = ih e k
    go false e ih = cc

take-front : (n : ℕ) (ran more : List Line) → length ran ≤ n → take n (ran ++ more) ≡ ran ++ take (n - length ran) more
take-front n ran more h =
    ap (λ k. take k (ran ++ more)) (split n (length ran) h) ∙ take-append-add ran more (n - length ran)
  where
    split : (a b : ℕ) → b ≤ a → a ≡ b + (a - b)
    split a b h = omega arith

-- what is good of an input whose first lines ran
pub good_front : (ran more : List Line) → are_good false ran ≡ true → length ran ≤ most_lines
    → good_lines (ran ++ more) ≡ ran ++ good_from false (take (most_lines - length ran) more)
good_front ran more good few =
    let behind = take (most_lines - length ran) more in
    ap (good_from false) (take-front most_lines ran more few) ∙ good_from-front false ran behind good
    ∙ ap (λ inside. ran ++ good_from inside behind) (never_inside (map content ran))

take_none : (n : ℕ) → take {A = Line} n [] ≡ []
take_none zero = refl
take_none (suc n) = refl

-- all of it
pub good_whole : (ran : List Line) → are_good false ran ≡ true → length ran ≤ most_lines → good_lines ran ≡ ran
good_whole ran good few =
    ap good_lines (sym (append-nil ran)) ∙ good_front ran [] good few ∙ ap (λ ls. ran ++ good_from false ls) (take_none (most_lines - length ran)) ∙ append-nil ran

good_from-stops : (n : ℕ) (line : Line) (more : List Line) → is_in_language false line ≡ false → good_from false (take n (line ∷ more)) ≡ []
good_from-stops zero line more h = refl
good_from-stops (suc n) line more h = ap (λ b. if b then line ∷ good_from false (take n more) else []) h

-- no more than what ran, where the next line isn't in the language
pub good_stops : (ran : List Line) (line : Line) (more : List Line) → are_good false ran ≡ true → length ran ≤ most_lines → is_in_language false line ≡ false
    → good_lines (ran ++ line ∷ more) ≡ ran
good_stops ran line more good few bad =
    good_front ran (line ∷ more) good few ∙ ap (λ ls. ran ++ ls) (good_from-stops (most_lines - length ran) line more bad) ∙ append-nil ran

-- no more than what ran, where as many ran as may
pub good_full : (ran more : List Line) → are_good false ran ≡ true → length ran ≡ most_lines → good_lines (ran ++ more) ≡ ran
good_full ran more good full =
    good_front ran more good (omega (arith, full)) ∙ ap (λ n. ran ++ good_from false (take n more)) nothing ∙ append-nil ran
  where
    nothing : most_lines - length ran ≡ 0
    nothing = omega (arith, full)

next_front : (rest : List ℕ) (line : Line) → first_line rest ≡ Some line → (0 < length rest) × (line ≡ front_line rest)
next_front [] line h = cc
next_front (x ∷ rest) line h = (omega arith, sym (same_Some (front_line (x ∷ rest)) line h))

-- the input in front of a next line
cut_next : (input : List ℕ) (ran : List Line) (rest : List ℕ) (line : Line) → cut_lines input ≡ ran ++ cut_lines rest → first_line rest ≡ Some line
    → cut_lines input ≡ ran ++ line ∷ cut_lines (after_line rest)
cut_next input ran rest line cut next =
    let front = next_front rest line next in
    cut ∙ ap (λ ls. ran ++ ls) (cut_front rest front.0 ∙ ap (λ l. l ∷ cut_lines (after_line rest)) (sym front.1))

bytes_next : (rest : List ℕ) (line : Line) → first_line rest ≡ Some line → rest ≡ line_bytes line ++ after_line rest
bytes_next rest line next =
    let front = next_front rest line next in
    sym (bytes_front rest front.0) ∙ ap (λ l. line_bytes l ++ after_line rest) (sym front.1)

no_end_next : (rest : List ℕ) (line : Line) → first_line rest ≡ Some line → HasNoEnd line.bytes
no_end_next rest line next =
    let front = next_front rest line next in
    subst (λ (l : Line). HasNoEnd l.bytes) (sym front.1) (front_no_end rest)

bytes-append : (first second : List Line) → bytes_of_lines (first ++ second) ≡ bytes_of_lines first ++ bytes_of_lines second
bytes-append [] second = refl
bytes-append (l ∷ first) second = ap (λ b. line_bytes l ++ b) (bytes-append first second) ∙ sym (append_assoc (line_bytes l) (bytes_of_lines first) (bytes_of_lines second))

AreCut-snoc : (ran : List Line) (line : Line) → AreCut ran → HasNoEnd line.bytes → AreCut (ran ++ line ∷ [])
AreCut-snoc [] line h k = (k, tt)
AreCut-snoc (l ∷ ran) line h k = (h.0, AreCut-snoc ran line h.1 k)

all-snoc : (p : Line → Bool) (ran : List Line) (line : Line) → list_all p ran ≡ true → p line ≡ true → list_all p (ran ++ line ∷ []) ≡ true
all-snoc p ran line h k = list_all-append p ran (line ∷ []) ∙ rw (h, k) refl

at_some : (P : List ℕ → Type 0) (o : Option (List ℕ)) (x : List ℕ) → o ≡ Some x → IfSome o P → P x
at_some P o x e h = subst (λ (found : Option (List ℕ)). IfSome found P) e h

language : (line : Line) (bytes : List ℕ) → is_too_long line ≡ false → content line ≡ bytes → is_said false bytes ≡ true → is_in_language false line ≡ true
language line bytes short says said = rw (short, says, said) refl

-- a source that tells has nothing left where it said so
at_end_kept : (old new : FeedView) → KeepsFeed old new → IsSome old.source.left → IsAtEnd old → IsAtEnd new
at_end_kept old new keeps told at over = go old.buffer.is_over refl where
  go : (was : Bool) → old.buffer.is_over ≡ was → IfSome new.source.left (λ bytes. bytes ≡ [])
  go true e = subst (λ (l : Option (List ℕ)). IfSome l (λ bytes. bytes ≡ [])) (sym (keeps.over_stays e).1) (at e)
  go false e = subst (λ (l : Option (List ℕ)). IfSome l (λ bytes. bytes ≡ [])) (sym (keeps.drained e over told)) refl

-- one line more
pub behind_more : (input : List ℕ) (said : List (List ℕ)) (bytes : List ℕ) (old new : FeedView) → IsBehind input said old → IfSome (comes old) (Gives bytes old new)
    → is_said false bytes ≡ true → KeepsFeed old new → IsBehind input (said ++ bytes ∷ []) new
behind_more input said bytes old new b gives is_good keeps =
    let g : Gives bytes old new b.rest = at_some (Gives bytes old new) (comes old) b.rest b.to_come gives in
    record {
      ran = b.ran ++ g.line ∷ [];
      rest = after_line b.rest;
      says = ap (λ s. s ++ bytes ∷ []) b.says ∙ ap (λ x. map content b.ran ++ x ∷ []) (sym g.says) ∙ sym (map-last content b.ran g.line);
      to_come = g.behind;
      cut = cut_next input b.ran b.rest g.line b.cut g.next ∙ sym (append_assoc b.ran (g.line ∷ []) (cut_lines (after_line b.rest)));
      front = b.front ∙ ap (λ f. bytes_of_lines b.ran ++ f) (bytes_next b.rest g.line g.next)
          ∙ sym (append_assoc (bytes_of_lines b.ran) (line_bytes g.line) (after_line b.rest))
          ∙ ap (λ f. (bytes_of_lines b.ran ++ f) ++ after_line b.rest) (sym (append-nil (line_bytes g.line)))
          ∙ ap (λ f. f ++ after_line b.rest) (sym (bytes-append b.ran (g.line ∷ [])));
      are_cut = AreCut-snoc b.ran g.line b.are_cut (no_end_next b.rest g.line g.next);
      good = are_good-snoc false b.ran g.line b.good (ap (λ inside. is_in_language inside g.line) (never_inside (map content b.ran)) ∙ language g.line bytes g.short g.says is_good);
      ended = λ still. all-snoc (λ line. line.is_ended) b.ran g.line (b.ended (g.not_over still).0) (g.not_over still).1;
      told = keeps.told b.told;
      at_end = at_end_kept old new keeps b.told b.at_end;
    }

-- before the first line
pub behind_none : (source : SourceView) → IfSome source.left (λ input. IsBehind input [] (feed_of nothing_buffered source))
behind_none source = go source.left refl where
  go : (left : Option (List ℕ)) → source.left ≡ left → IfSome left (λ input. IsBehind input [] (feed_of nothing_buffered source))
  go None e = tt
  go (Some input) e = record {
    ran = [];
    rest = input;
    says = refl;
    to_come = ap (option_map (λ more. [] ++ more)) e;
    cut = refl;
    front = refl;
    are_cut = tt;
    good = refl;
    ended = λ _. refl;
    told = subst (λ (l : Option (List ℕ)). IsSome l) (sym e) refl;
    at_end = λ over. absurd (false≢true over);
  }

-- as many lines as contents
size_is : (said : List (List ℕ)) (ran : List Line) → said ≡ map content ran → length ran ≡ length said
size_is said ran says = sym (ap length says ∙ length-map ran content)

gone : (feed : FeedView) → feed.buffer.is_over ≡ true → IsSome feed.source.left → IsAtEnd feed → feed.source.left ≡ Some []
gone feed over told at = go feed.source.left told (at over) where
  go : (left : Option (List ℕ)) → IsSome left → IfSome left (λ bytes. bytes ≡ []) → left ≡ Some []
  go None told at = cc
  go (Some bytes) told at = ap Some at

-- the end of input
pub all_ran : (input : List ℕ) (said : List (List ℕ)) (old new : FeedView) → IsBehind input said old → KeepsFeed old new → IfSome (comes old) (λ rest. rest ≡ [])
    → new.buffer.is_over ≡ true → length said ≤ most_lines → RanAll input new.source.left said
all_ran input said old new b keeps none over few =
    let no_rest : b.rest ≡ [] = at_some (λ rest. rest ≡ []) (comes old) b.rest b.to_come none in
    let all : cut_lines input ≡ b.ran = b.cut ∙ ap (λ r. b.ran ++ cut_lines r) no_rest ∙ append-nil b.ran in
    let size = size_is said b.ran b.says in
    let good : good_lines (cut_lines input) ≡ b.ran = ap good_lines all ∙ good_whole b.ran b.good (omega (arith, size, few)) in
    record {
      all_read = gone new over (keeps.told b.told) (at_end_kept old new keeps b.told b.at_end);
      all_good = good ∙ sym all;
      lines = b.says ∙ ap (map content) (sym all);
    }

-- a line that isn't in the language
pub good_ran : (input : List ℕ) (said : List (List ℕ)) (feed : FeedView) → IsBehind input said feed → IfSome (comes feed) NextIsBad → length said ≤ most_lines → RanGood input said
good_ran input said feed b bad few = go (first_line b.rest) refl (at_some NextIsBad (comes feed) b.rest b.to_come bad) where
  go : (first : Option Line) → first_line b.rest ≡ first → IsSomeAnd first (λ line. is_in_language false line ≡ false) → RanGood input said
  go None e h = absurd h
  go (Some line) e h =
      let all = cut_next input b.ran b.rest line b.cut e in
      let size = size_is said b.ran b.says in
      let good : good_lines (cut_lines input) ≡ b.ran = ap good_lines all ∙ good_stops b.ran line (cut_lines (after_line b.rest)) b.good (omega (arith, size, few)) h in
      record {
        lines = b.says ∙ ap (map content) (sym good);
        next = omega (arith, size, ap length all, length-append b.ran (line ∷ cut_lines (after_line b.rest)));
      }

-- a line behind the last that may be
pub full_ran : (input : List ℕ) (said : List (List ℕ)) (feed : FeedView) → IsBehind input said feed → IfSome (comes feed) HasMore → length said ≡ most_lines → RanGood input said
full_ran input said feed b more full =
    let next : 0 < length b.rest = at_some HasMore (comes feed) b.rest b.to_come more in
    let all : cut_lines input ≡ b.ran ++ front_line b.rest ∷ cut_lines (after_line b.rest) = b.cut ∙ ap (λ ls. b.ran ++ ls) (cut_front b.rest next) in
    let size = size_is said b.ran b.says in
    let good : good_lines (cut_lines input) ≡ b.ran = ap good_lines b.cut ∙ good_full b.ran (cut_lines b.rest) b.good (size ∙ full) in
    record {
      lines = b.says ∙ ap (map content) (sym good);
      next = omega (arith, size, ap length all, length-append b.ran (front_line b.rest ∷ cut_lines (after_line b.rest)));
    }

-- the lengths of two parts
part_front : (front rest : List ℕ) (n : ℕ) → n ≡ length (front ++ rest) - length rest → take n (front ++ rest) ≡ front
part_front front rest n e = ap (λ k. take k (front ++ rest)) (e ∙ size) ∙ take-append_seam front rest
  where
    size : length (front ++ rest) - length rest ≡ length front
    size = omega (arith, length-append front rest)

pulled_is : (input front rest : List ℕ) → input ≡ front ++ rest → pulled input rest ≡ front
pulled_is input front rest e = ap (λ i. pulled i rest) e ∙ part_front front rest (length (front ++ rest) - length rest) refl

-- a feed that isn't over has some bytes, and its source the rest
read_rest : (feed : FeedView) (rest : List ℕ) → feed.buffer.is_over ≡ false → comes feed ≡ Some rest → IfSome feed.source.left (λ more. rest ≡ feed.buffer.bytes ++ more)
read_rest feed rest still h = go feed.source.left (rw still at h) where
  go : (left : Option (List ℕ)) → option_map (λ more. feed.buffer.bytes ++ more) left ≡ Some rest → IfSome left (λ more. rest ≡ feed.buffer.bytes ++ more)
  go None e = tt
  go (Some more) e = sym (same_Some (feed.buffer.bytes ++ more) rest e)

-- a failed pull: each whole line that was pulled ran
pub pulled_ran : (input : List ℕ) (said : List (List ℕ)) (old new : FeedView) → IsBehind input said old → StillComes (comes old) (comes new)
    → old.buffer.is_over ≡ false → new.buffer.is_over ≡ false → HasNoEnd new.buffer.bytes → length said ≤ most_lines
    → IfSome new.source.left (λ left. RanPulled input left said)
pulled_ran input said old new b kept was still none few =
    let there : comes new ≡ Some b.rest = subst (λ (o : Option (List ℕ)). StillComes o (comes new)) b.to_come kept in
    go new.source.left (read_rest new b.rest still there)
  where
    go : (left : Option (List ℕ)) → IfSome left (λ more. b.rest ≡ new.buffer.bytes ++ more) → IfSome left (λ left. RanPulled input left said)
    go None e = tt
    go (Some left) e =
        let buffered = new.buffer.bytes in
        let front : input ≡ (bytes_of_lines b.ran ++ buffered) ++ left = b.front ∙ ap (λ r. bytes_of_lines b.ran ++ r) e ∙ sym (append_assoc (bytes_of_lines b.ran) buffered left) in
        let part : pulled input left ≡ bytes_of_lines b.ran ++ buffered = pulled_is input (bytes_of_lines b.ran ++ buffered) left front in
        let whole : whole_lines (pulled input left) ≡ b.ran = ap whole_lines part ∙ whole_front b.ran buffered b.are_cut (b.ended was) none in
        let size = size_is said b.ran b.says in
        record {
          front = front ∙ ap (λ f. f ++ left) (sym part);
          all_good = ap good_lines whole ∙ good_whole b.ran b.good (omega (arith, size, few)) ∙ sym whole;
          lines = b.says ∙ ap (map content) (sym whole);
        }

take-ran : (ran more : List Line) (n : ℕ) → length ran ≡ n → take n (ran ++ more) ≡ ran
take-ran ran more n e = ap (λ k. take k (ran ++ more)) (sym e) ∙ take-append_seam ran more

-- the lines that ran are the first ones
pub first_ran : (input : List ℕ) (said : List (List ℕ)) (feed : FeedView) → IsBehind input said feed → length said ≤ most_lines → RanFirst input said
first_ran input said feed b few =
    let size = size_is said b.ran b.says in
    let more = good_from false (take (most_lines - length b.ran) (cut_lines b.rest)) in
    let good : good_lines (cut_lines input) ≡ b.ran ++ more = ap good_lines b.cut ∙ good_front b.ran (cut_lines b.rest) b.good (omega (arith, size, few)) in
    let ran : take (length said) (good_lines (cut_lines input)) ≡ b.ran = ap (take (length said)) good ∙ take-ran b.ran more (length said) size in
    record {
      within = omega (arith, size, ap length good, length-append b.ran more);
      lines = b.says ∙ ap (map content) (sym ran);
    }
