-- Lemmas on how far a run has come.
use Rattle.std.proofs.Common.{◌≡◌, ℕ, ◌+◌, ◌<◌, ◌≤◌, ◌⊎◌, inl, inr, List, [], ◌∷◌, ◌++◌, map, Option, Some, None, IfSome, Err, refl, sym, ◌∙◌, ap, subst, arith, append_assoc, length-append}
use Rattle.std.specs.Prelude.{Bool, true, false, ◌&&◌}
use Rattle.std.specs.List.{filter_map}
use Rattle.std.proofs.lemmas.List.Elements.{filter_map-append}
use Rattle.disk_base.specs.Streams.{SourceView, SinkView}
use Rattle.script_lines.specs.Lines.{Buffered, nothing_buffered}
use Rattle.script_lines.specs.Feeding.{FeedView, feed_of, comes, KeepsFeed, Gives}
use Rattle.node_runner.specs.Session.{State, fresh, Turn, AreTurns, commands_of, said_of, handed_out, IsSession}
use Rattle.node_runner.specs.Text.{text_of_reply, text_of}
use Rattle.node_runner.specs.Run.{is_said, are_said, spelled, most_lines, Ran, RanGood, RanFirst, EndsLines, StopsInside}
use Rattle.node_runner.specs.Progress.{RunView, run_of, IsBehind, Progress, KeepsCounts, IsSame, AnswersLine, RunsLine, BreaksLine, StopsInLine, NextIsBad, HasMore, Stops, EndsLine, RunsLines}
use Rattle.node_runner.specs.Script.{inside_behind, inside_after}
use Rattle.node_runner.specs.declared.kept.Kept.{Kept}
use Rattle.node_runner.specs.declared.session.Session.{Session}
use Rattle.node_runner.specs.declared.ending.Ending.{Ending}
use Rattle.node_runner.specs.declared.ending.Ending.TheVariants as endings
use Rattle.node_runner.proofs.Gains.{gains_nothing, gains_to, gains_more, rose_since}
use Rattle.node_runner.proofs.RanLines.{never_inside, behind_more, behind_none, all_ran, good_ran, full_ran, pulled_ran, first_ran}

commands-append : (first second : List Turn) → commands_of (first ++ second) ≡ commands_of first ++ commands_of second
commands-append [] second = refl
commands-append (turn ∷ first) second = ap (λ c. turn.command ∷ c) (commands-append first second)

text-append : (first second : List Turn) → text_of (first ++ second) ≡ text_of first ++ text_of second
text-append [] second = refl
text-append (turn ∷ first) second =
    ap (λ t. text_of_reply turn.reply ++ t) (text-append first second) ∙ sym (append_assoc (text_of_reply turn.reply) (text_of first) (text_of second))

turns-append : (old : State) (first second : List Turn) (between new : State) → AreTurns old first between → AreTurns between second new → AreTurns old (first ++ second) new
turns-append old [] second between new h k = subst (λ (s : State). AreTurns s second new) h k
turns-append old (turn ∷ first) second between new h k = (h.0, h.1, turns-append h.0 first second between new h.2 k)

saids-append : (first second : List Turn) → map said_of (first ++ second) ≡ map said_of first ++ map said_of second
saids-append [] second = refl
saids-append (turn ∷ first) second = ap (λ s. said_of turn ∷ s) (saids-append first second)

are_said-snoc : (inside : Bool) (said : List (List ℕ)) (bytes : List ℕ) → are_said inside said ≡ true → is_said (inside_after inside said) bytes ≡ true → are_said inside (said ++ bytes ∷ []) ≡ true
are_said-snoc inside [] bytes h k = rw (k) refl
are_said-snoc inside (line ∷ said) bytes h k = go (is_said inside line) h (are_said-snoc (inside_behind inside line) said bytes)
  where
    next : Bool
    next = inside_behind inside line

    go : (b : Bool) → (b && are_said next said) ≡ true → (are_said next said ≡ true → is_said (inside_after next said) bytes ≡ true → are_said next (said ++ bytes ∷ []) ≡ true)
        → (b && are_said next (said ++ bytes ∷ [])) ≡ true
    go true e ih = ih e k
    go false e ih = cc

-- one line more in the language
said_more : (said : List (List ℕ)) (bytes : List ℕ) → are_said false said ≡ true → is_said false bytes ≡ true → are_said false (said ++ bytes ∷ []) ≡ true
said_more said bytes h k = are_said-snoc false said bytes h (ap (λ inside. is_said inside bytes) (never_inside said) ∙ k)

-- one line more
ran_more : (said : List (List ℕ)) (bytes : List ℕ) (turns more : List Turn) (old new : Kept) → Ran said turns → AnswersLine bytes more old new
    → Ran (said ++ bytes ∷ []) (turns ++ more)
ran_more said bytes turns more old new r a = record {
  in_language = said_more said bytes r.in_language a.in_language;
  commands = commands-append turns more ∙ ap (λ c. c ++ commands_of more) r.commands ∙ ap (λ c. filter_map spelled said ++ c) a.commands
      ∙ sym (filter_map-append spelled said (bytes ∷ []));
}

-- what is said then
saids_more : (turns more : List Turn) (old new : Kept) → old.turns ≡ map said_of turns → new.turns ≡ old.turns ++ map said_of more → new.turns ≡ map said_of (turns ++ more)
saids_more turns more old new is added = added ∙ ap (λ s. s ++ map said_of more) is ∙ sym (saids-append turns more)

if_then : {A : Type 0} (o : Option A) (P R : A → Type 0) → IfSome o P → ((x : A) → P x → R x) → IfSome o R
if_then None P R h f = tt
if_then (Some x) P R h f = f x h

counts_more : (source : SourceView) (sink : SinkView) (old : RunView) (feed : FeedView) (after : SinkView) → KeepsCounts source old.feed.source sink old.sink → KeepsFeed old.feed feed
    → old.sink.faults ≤ after.faults → KeepsCounts source feed.source sink after
counts_more source sink old feed after counts keeps rises = record {
  source_faults = omega (arith, counts.source_faults, keeps.never_falls);
  sink_faults = omega (arith, counts.sink_faults, rises);
  told = λ told. keeps.told (counts.told told);
}

-- before the first line
pub progress_none : (source : SourceView) (sink : SinkView) (buffer : Buffered) (kept : Kept) → buffer ≡ nothing_buffered → kept.store ≡ fresh → kept.turns ≡ []
    → Progress source sink 0 (run_of (feed_of buffer source) kept sink)
progress_none source sink buffer kept nothing is_fresh is_empty = record {
  said = [];
  turns = [];
  count = refl;
  ran = record { in_language = refl; commands = refl };
  are_turns = is_fresh;
  saids = is_empty;
  gained = gains_nothing sink sink refl;
  lines_are = subst (λ (b : Buffered). IfSome source.left (λ input. IsBehind input [] (feed_of b source))) (sym nothing) (behind_none source);
  counts = record { source_faults = omega arith; sink_faults = omega arith; told = λ told. told };
}

-- one line more
pub progress_more : (source : SourceView) (sink : SinkView) (lines : ℕ) (old new : RunView) → Progress source sink lines old → RunsLine old new → KeepsFeed old.feed new.feed
    → old.sink.faults ≤ new.sink.faults → Progress source sink (lines + 1) new
progress_more source sink lines old new p r keeps rises = record {
  said = p.said ++ r.said ∷ [];
  turns = p.turns ++ r.turns;
  count = length-append p.said (r.said ∷ []) ∙ ap (λ n. n + 1) p.count;
  ran = ran_more p.said r.said p.turns r.turns old.kept new.kept p.ran r.answered;
  are_turns = turns-append fresh p.turns r.turns old.kept.store new.kept.store p.are_turns r.answered.are_turns;
  saids = saids_more p.turns r.turns old.kept new.kept p.saids r.answered.saids;
  gained = gains_more sink old.sink new.sink (text_of p.turns) (text_of r.turns) (text_of (p.turns ++ r.turns)) p.gained r.gained (sym (text-append p.turns r.turns));
  lines_are = if_then source.left (λ input. IsBehind input p.said old.feed) (λ input. IsBehind input (p.said ++ r.said ∷ []) new.feed) p.lines_are
      (λ input b. behind_more input p.said r.said old.feed new.feed b r.given r.answered.in_language keeps);
  counts = counts_more source sink old new.feed new.sink p.counts keeps rises;
}

-- the session that is kept
kept_session : (turns : List Turn) (kept : Kept) → AreTurns fresh turns kept.store → kept.turns ≡ map said_of turns → IsSession (handed_out kept.store kept.turns) turns
kept_session turns kept are_turns saids = record { state = kept.store; are_turns = are_turns; is = ap (handed_out kept.store) saids }

same_session : (turns : List Turn) (old new : Kept) → AreTurns fresh turns old.store → old.turns ≡ map said_of turns → IsSame old new → IsSession (handed_out new.store new.turns) turns
same_session turns old new are_turns saids same =
    kept_session turns new (subst (λ (s : State). AreTurns fresh turns s) (sym same.store) are_turns) (same.turns ∙ saids)

-- where memory ran out
ends_starved : (source : SourceView) (sink : SinkView) (lines : ℕ) (now : RunView) (feed : FeedView) (after : SinkView) (session : Session) (p : Progress source sink lines now)
    → after ≡ now.sink → lines ≤ most_lines → IsSession session p.turns ⊎ StopsInside source session p.said p.turns
    → EndsLines endings.OutOfMemory source feed.source sink after session p.said p.turns
ends_starved source sink lines now feed after session p same few told = (
  told,
  gains_to sink now.sink after (text_of p.turns) p.gained (ap (λ s. s.held) same),
  if_then source.left (λ input. IsBehind input p.said now.feed) _ p.lines_are (λ input b. first_ran input p.said now.feed b (omega (arith, p.count, few))),
)

-- no line more
ends_stopped : (ending : Ending) (source : SourceView) (sink : SinkView) (lines : ℕ) (now : RunView) (feed : FeedView) (after : SinkView) (session : Session) (bad : List ℕ → Type 0)
    (p : Progress source sink lines now) → Stops ending now.feed feed bad → KeepsFeed now.feed feed → after ≡ now.sink → IsSession session p.turns → lines ≤ most_lines
    → ((input : List ℕ) → IsBehind input p.said now.feed → IfSome (comes now.feed) bad → RanGood input p.said)
    → EndsLines ending source feed.source sink after session p.said p.turns
ends_stopped endings.Whole source sink lines now feed after session bad p stops keeps same is few good = (
  is,
  gains_to sink now.sink after (text_of p.turns) p.gained (ap (λ s. s.held) same),
  if_then source.left (λ input. IsBehind input p.said now.feed) _ p.lines_are (λ input b. all_ran input p.said now.feed feed b keeps stops.0 stops.1 (omega (arith, p.count, few))),
)
ends_stopped endings.BadLine source sink lines now feed after session bad p stops keeps same is few good = (
  is,
  gains_to sink now.sink after (text_of p.turns) p.gained (ap (λ s. s.held) same),
  if_then source.left (λ input. IsBehind input p.said now.feed) _ p.lines_are (λ input b. good input b stops),
)
ends_stopped endings.ReadFault source sink lines now feed after session bad p stops keeps same is few good = (
  is,
  gains_to sink now.sink after (text_of p.turns) p.gained (ap (λ s. s.held) same),
  rose_since source.faults now.feed.source.faults feed.source.faults p.counts.source_faults stops.1,
  if_then source.left (λ input. IsBehind input p.said now.feed) _ p.lines_are
      (λ input b. pulled_ran input p.said now.feed feed b stops.0 stops.2 stops.3 stops.4 (omega (arith, p.count, few))),
)
ends_stopped endings.OutOfMemory source sink lines now feed after session bad p stops keeps same is few good =
    ends_starved source sink lines now feed after session p same few (inl is)
ends_stopped endings.Usage source sink lines now feed after session bad p stops keeps same is few good = absurd stops
ends_stopped endings.WriteFault source sink lines now feed after session bad p stops keeps same is few good = absurd stops
ends_stopped endings.RootFault source sink lines now feed after session bad p stops keeps same is few good = absurd stops
ends_stopped endings.RootNotEmpty source sink lines now feed after session bad p stops keeps same is few good = absurd stops

same_counts : (source : SourceView) (sink : SinkView) (old : RunView) (feed : FeedView) (after : SinkView) → KeepsCounts source old.feed.source sink old.sink → KeepsFeed old.feed feed
    → after ≡ old.sink → KeepsCounts source feed.source sink after
same_counts source sink old feed after counts keeps same = counts_more source sink old feed after counts keeps (omega (arith, ap (λ s. s.faults) same))

ran_so_far : (ending : Ending) (source source' : SourceView) (sink sink' : SinkView) (lines : ℕ) (now : RunView) (session : Session) (p : Progress source sink lines now) → lines ≤ most_lines
    → EndsLines ending source source' sink sink' session p.said p.turns → KeepsCounts source source' sink sink' → RunsLines source source' sink sink' ending lines session
ran_so_far ending source source' sink sink' lines now session p few ends counts =
    record { said = p.said; turns = p.turns; count = p.count; few = few; ran = p.ran; ends = ends; counts = counts }

-- where the next line, or none, ended the run
ends_before : (ending : Ending) (source : SourceView) (sink : SinkView) (lines : ℕ) (old new : RunView) → Progress source sink lines old
    → Stops ending old.feed new.feed NextIsBad → new.sink ≡ old.sink → IsSame old.kept new.kept → KeepsFeed old.feed new.feed → lines < most_lines
    → RunsLines source new.feed.source sink new.sink ending lines (handed_out new.kept.store new.kept.turns)
ends_before ending source sink lines old new p stops same stays keeps few =
    let session = handed_out new.kept.store new.kept.turns in
    ran_so_far ending source new.feed.source sink new.sink lines old session p (omega (arith, few))
    (ends_stopped ending source sink lines old new.feed new.sink session NextIsBad p stops keeps same (same_session p.turns old.kept new.kept p.are_turns p.saids stays) (omega (arith, few))
    (λ input b bad. good_ran input p.said old.feed b bad (omega (arith, p.count, few))))
    (same_counts source sink old new.feed new.sink p.counts keeps same)

-- the lines that ran, with one more, are the first ones
first_more : (source : SourceView) (sink : SinkView) (lines : ℕ) (old new : RunView) (bytes : List ℕ) (p : Progress source sink lines old) → IfSome (comes old.feed) (Gives bytes old.feed new.feed)
    → is_said false bytes ≡ true → KeepsFeed old.feed new.feed → lines < most_lines → IfSome source.left (λ input. RanFirst input (p.said ++ bytes ∷ []))
first_more source sink lines old new bytes p given in_language keeps few =
    let size = length-append p.said (bytes ∷ []) in
    if_then source.left (λ input. IsBehind input p.said old.feed) (λ input. RanFirst input (p.said ++ bytes ∷ [])) p.lines_are
    (λ input b. first_ran input (p.said ++ bytes ∷ []) new.feed (behind_more input p.said bytes old.feed new.feed b given in_language keeps) (omega (arith, size, p.count, few)))

ends_inside : (source : SourceView) (sink : SinkView) (lines : ℕ) (old new : RunView) → Progress source sink lines old → BreaksLine old new → KeepsFeed old.feed new.feed
    → old.sink.faults ≤ new.sink.faults → lines < most_lines → RunsLines source new.feed.source sink new.sink endings.WriteFault lines (handed_out new.kept.store new.kept.turns)
ends_inside source sink lines old new p r keeps rises few =
    let turns = p.turns ++ r.turns in
    ran_so_far endings.WriteFault source new.feed.source sink new.sink lines old (handed_out new.kept.store new.kept.turns) p (omega (arith, few)) (
      rose_since sink.faults old.sink.faults new.sink.faults p.counts.sink_faults r.cause,
      (
        old.sink,
        p.gained,
        record {
          line = r.said;
          more = r.turns;
          ran = ran_more p.said r.said p.turns r.turns old.kept new.kept p.ran r.answered;
          is_session = kept_session turns new.kept (turns-append fresh p.turns r.turns old.kept.store new.kept.store p.are_turns r.answered.are_turns)
              (saids_more p.turns r.turns old.kept new.kept p.saids r.answered.saids);
          part = r.part;
          lines = first_more source sink lines old new r.said p r.given r.answered.in_language keeps few;
        },
      ),
    )
    (counts_more source sink old new.feed new.sink p.counts keeps rises)

-- where memory ran out inside the next line
stops_inside : (source : SourceView) (sink : SinkView) (lines : ℕ) (old new : RunView) (p : Progress source sink lines old) → StopsInLine old new → KeepsFeed old.feed new.feed → lines < most_lines
    → StopsInside source (handed_out new.kept.store new.kept.turns) p.said p.turns
stops_inside source sink lines old new p r keeps few = record {
  line = r.said;
  command = r.breaks.command;
  in_language = said_more p.said r.said p.ran.in_language r.breaks.in_language;
  spells = r.breaks.spells;
  is_session = record {
    before = old.kept.store;
    are_turns = p.are_turns;
    last = r.breaks.broken.last;
    state = new.kept.store;
    breaks = r.breaks.broken.breaks;
    is = ap (handed_out new.kept.store) (r.breaks.broken.saids ∙ ap (λ s. s ++ r.breaks.broken.last ∷ []) p.saids);
  };
  lines = first_more source sink lines old new r.said p r.given r.breaks.in_language keeps few;
}

ends_hungry : (source : SourceView) (sink : SinkView) (lines : ℕ) (old new : RunView) → Progress source sink lines old → new.sink ≡ old.sink → IsSame old.kept new.kept ⊎ StopsInLine old new
    → KeepsFeed old.feed new.feed → lines < most_lines → RunsLines source new.feed.source sink new.sink endings.OutOfMemory lines (handed_out new.kept.store new.kept.turns)
ends_hungry source sink lines old new p same broke keeps few =
    let session = handed_out new.kept.store new.kept.turns in
    ran_so_far endings.OutOfMemory source new.feed.source sink new.sink lines old session p (omega (arith, few))
    (ends_starved source sink lines old new.feed new.sink session p same (omega (arith, few)) (told broke))
    (same_counts source sink old new.feed new.sink p.counts keeps same)
  where
    told : IsSame old.kept new.kept ⊎ StopsInLine old new
        → IsSession (handed_out new.kept.store new.kept.turns) p.turns ⊎ StopsInside source (handed_out new.kept.store new.kept.turns) p.said p.turns
    told (inl stays) = inl (same_session p.turns old.kept new.kept p.are_turns p.saids stays)
    told (inr stops) = inr (stops_inside source sink lines old new p stops keeps few)

pub ends_line : (ending : Ending) (source : SourceView) (sink : SinkView) (lines : ℕ) (old new : RunView) → Progress source sink lines old
    → EndsLine {T = Unit {0}} (Err ending) old new → KeepsFeed old.feed new.feed → old.sink.faults ≤ new.sink.faults → lines < most_lines
    → RunsLines source new.feed.source sink new.sink ending lines (handed_out new.kept.store new.kept.turns)
ends_line endings.WriteFault source sink lines old new p line keeps rises few = ends_inside source sink lines old new p line keeps rises few
ends_line endings.OutOfMemory source sink lines old new p line keeps rises few = ends_hungry source sink lines old new p line.0 line.1 keeps few
ends_line endings.Whole source sink lines old new p line keeps rises few = ends_before endings.Whole source sink lines old new p line.0 line.1 line.2 keeps few
ends_line endings.BadLine source sink lines old new p line keeps rises few = ends_before endings.BadLine source sink lines old new p line.0 line.1 line.2 keeps few
ends_line endings.Usage source sink lines old new p line keeps rises few = ends_before endings.Usage source sink lines old new p line.0 line.1 line.2 keeps few
ends_line endings.RootFault source sink lines old new p line keeps rises few = ends_before endings.RootFault source sink lines old new p line.0 line.1 line.2 keeps few
ends_line endings.RootNotEmpty source sink lines old new p line keeps rises few = ends_before endings.RootNotEmpty source sink lines old new p line.0 line.1 line.2 keeps few
ends_line endings.ReadFault source sink lines old new p line keeps rises few = ends_before endings.ReadFault source sink lines old new p line.0 line.1 line.2 keeps few

-- as many lines ran as may
pub ends_last : (ending : Ending) (source : SourceView) (sink : SinkView) (lines : ℕ) (now : RunView) (feed : FeedView) → Progress source sink lines now
    → Stops ending now.feed feed HasMore → KeepsFeed now.feed feed → lines ≡ most_lines
    → RunsLines source feed.source sink now.sink ending lines (handed_out now.kept.store now.kept.turns)
ends_last ending source sink lines now feed p stops keeps full =
    let session = handed_out now.kept.store now.kept.turns in
    ran_so_far ending source feed.source sink now.sink lines now session p (omega (arith, full))
    (ends_stopped ending source sink lines now feed now.sink session HasMore p stops keeps refl (kept_session p.turns now.kept p.are_turns p.saids) (omega (arith, full))
    (λ input b more. full_ran input p.said now.feed b more (p.count ∙ full)))
    (same_counts source sink now feed now.sink p.counts keeps refl)
