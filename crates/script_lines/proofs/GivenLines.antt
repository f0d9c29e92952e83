-- Lemmas on what a feed gives.
use Rattle.std.proofs.Common.{◌≡◌, ℕ, ◌≤◌, Bool, true, false, List, [], ◌∷◌, length, Option, Some, None, IfSome, if◌then◌else◌, ◌==◌, Ok, Err, option_map, refl, sym, ◌∙◌, ap, arith}
use Rattle.std.proofs.lemmas.Bool.{le-ltb, false≢true}
use Rattle.std.proofs.lemmas.Option.{none-some, same_Some}
use Rattle.script_lines.specs.Lines.{content, first_line, without_return, longest_line}
use Rattle.script_lines.specs.Cuts.{IsCut}
use Rattle.script_lines.specs.Feeding.{FeedView, comes, KeepsFeed, Gives, GivesLine, FindsNone}
use Rattle.script_lines.specs.declared.feed.LineFault.{LineFault}
use Rattle.script_lines.specs.declared.feed.LineFault.TheVariants as faults
use Rattle.script_lines.proofs.LineCuts.{long_told, given_is}

-- what wasn't over before isn't where it isn't now
was_open : (was over : Bool) → (was ≡ true → over ≡ true) → over ≡ false → was ≡ false
was_open true over stays still = absurd (false≢true (sym still ∙ stays refl))
was_open false over stays still = refl

-- where the input isn't over a line feed ended the line
was_ended : (ended over : Bool) → (ended ≡ false → over ≡ true) → over ≡ false → ended ≡ true
was_ended true over last still = refl
was_ended false over last still = absurd (false≢true (sym still ∙ last refl))

none_is_open : (ended : Bool) (line : List ℕ) → None ≡ (if ended then Some (without_return line) else (if length line == 0 then None else Some line)) → ended ≡ false
none_is_open true line h = absurd (none-some (without_return line) h)
none_is_open false line h = refl

empty_first : (input : List ℕ) → None ≡ option_map content (first_line input) → input ≡ []
empty_first [] h = refl
empty_first (byte ∷ input) h = cc

gives_some : (old : FeedView) (ended : Bool) (line bytes : List ℕ) (new : FeedView) (input : List ℕ)
    → IsCut input ended line (comes new)
    → Some bytes ≡ option_map content (first_line input)
    → length line ≤ longest_line → (old.buffer.is_over ≡ true → new.buffer.is_over ≡ true) → (ended ≡ false → new.buffer.is_over ≡ true)
    → Gives bytes old new input
gives_some old ended line bytes new [] cut given fits stays last = cc
gives_some old ended line bytes new (byte ∷ input) cut given fits stays last = record {
  line = _;
  next = refl;
  says = sym (same_Some bytes _ given);
  short = le-ltb longest_line _ (omega (arith, fits, ap length cut.bytes));
  behind = cut.rest;
  not_over = λ still. (was_open old.buffer.is_over new.buffer.is_over stays still, sym cut.ended ∙ was_ended ended new.buffer.is_over last still);
}

-- the line that was found, or the end of the input
pub gives_found : (old : FeedView) (ended : Bool) (line : List ℕ) (new : FeedView) (result : Option (List ℕ))
    → IfSome (comes old) (λ input. IsCut input ended line (comes new))
    → result ≡ (if ended then Some (without_return line) else (if length line == 0 then None else Some line))
    → length line ≤ longest_line → (old.buffer.is_over ≡ true → new.buffer.is_over ≡ true)
    → (ended ≡ false → (new.buffer.bytes ≡ []) × (new.buffer.is_over ≡ true))
    → GivesLine (Ok result) old new
gives_found old ended line new None cut given fits stays last =
    let done = last (none_is_open ended line given) in
    (go (comes old) cut, done.0, done.1)
  where
    go : (told : Option (List ℕ)) → IfSome told (λ input. IsCut input ended line (comes new)) → IfSome told (λ input. input ≡ [])
    go None c = tt
    go (Some input) c = empty_first input (given_is input ended line (comes new) None c given)
gives_found old ended line new (Some bytes) cut given fits stays last = go (comes old) cut
  where
    go : (told : Option (List ℕ)) → IfSome told (λ input. IsCut input ended line (comes new)) → IfSome told (Gives bytes old new)
    go None c = tt
    go (Some input) c = gives_some old ended line bytes new input c (given_is input ended line (comes new) (Some bytes) c given) fits stays (λ e. (last e).1)

-- no line was found
pub gives_none : (fault : LineFault) (old new : FeedView) → FindsNone old new (Err fault) → KeepsFeed old new → GivesLine (Err fault) old new
gives_none faults.Read old new none keeps =
    let still = none.between refl in
    (none.kept, none.read refl, was_open old.buffer.is_over new.buffer.is_over (λ e. (keeps.over_stays e).0) still.0, still.0, still.1)
gives_none faults.TooLong old new none keeps =
    (none.kept, long_told (comes old) new.buffer.bytes new.buffer.is_over new.source.left none.kept (none.too_long refl), none.too_long refl)
gives_none faults.Memory old new none keeps = none.kept
