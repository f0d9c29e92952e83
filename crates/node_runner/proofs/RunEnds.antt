-- Lemmas on how a run ends.
use Rattle.std.proofs.Common.{◌≡◌, ℕ, ◌≤◌, inl, inr, true, false, List, [], Option, None, Some, IfSome, Ok, Err, refl, sym, ◌∙◌, ap, subst, arith}
use Rattle.std.specs.Prelude.{Bool, Result}
use Rattle.disk_base.specs.Streams.{SourceView, SinkView}
use Rattle.disk_base.specs.Shelves.{ShelfView}
use Rattle.disk_base.specs.Farms.{FarmView}
use Rattle.disk_base.specs.declared.fault.FarmFault.{FarmFault}
use Rattle.disk_base.specs.declared.fault.FarmFault.TheVariants as refusals
use Rattle.node_runner.specs.Session.{fresh, Turn, handed_out}
use Rattle.node_runner.specs.Text.{text_of}
use Rattle.node_runner.specs.Beginning.{are_right_words, ending_of_refusal, ending_of_root, Begins, is_early, is_unread}
use Rattle.node_runner.specs.Run.{RanFirst, EndsLines, DoesNothing, Ends, Runs, is_closed, status_of}
use Rattle.node_runner.specs.Progress.{RunsLines, Closes}
use Rattle.node_runner.specs.declared.session.Session.{Session}
use Rattle.node_runner.specs.declared.script_run.Outcome.{Outcome}
use Rattle.node_runner.specs.declared.ending.Ending.{Ending}
use Rattle.node_runner.specs.declared.ending.Ending.TheVariants as endings
use Rattle.node_runner.proofs.Gains.{gains_nothing, gains_to, rose_since}

-- what holds of the lines, when the sink's text stays as it was
lines_stay : (ending : Ending) (source source' : SourceView) (sink between sink' : SinkView) (session : Session) (said : List (List ℕ)) (turns : List Turn) → is_closed ending ≡ true
    → EndsLines ending source source' sink between session said turns → sink'.held ≡ between.held → EndsLines ending source source' sink sink' session said turns
lines_stay endings.Whole source source' sink between sink' session said turns closed h same = (h.0, gains_to sink between sink' (text_of turns) h.1 same, h.2)
lines_stay endings.BadLine source source' sink between sink' session said turns closed h same = (h.0, gains_to sink between sink' (text_of turns) h.1 same, h.2)
lines_stay endings.ReadFault source source' sink between sink' session said turns closed h same = (h.0, gains_to sink between sink' (text_of turns) h.1 same, h.2, h.3)
lines_stay endings.Usage source source' sink between sink' session said turns closed h same = cc
lines_stay endings.RootFault source source' sink between sink' session said turns closed h same = cc
lines_stay endings.RootNotEmpty source source' sink between sink' session said turns closed h same = cc
lines_stay endings.WriteFault source source' sink between sink' session said turns closed h same = cc
lines_stay endings.OutOfMemory source source' sink between sink' session said turns closed h same = cc

-- lines that ended so, and the sink was closed behind them
ends_closed : (before after : Ending) (source source' : SourceView) (sink between sink' : SinkView) (session : Session) (said : List (List ℕ)) (turns : List Turn)
    → EndsLines before source source' sink between session said turns → sink.faults ≤ between.faults → Closes before after between sink' → Ends after source source' sink sink' session said turns
ends_closed before endings.WriteFault source source' sink between sink' session said turns lines rises (inl here) =
    inl (subst (λ (s : SinkView). EndsLines endings.WriteFault source source' sink s session said turns) (sym here.1)
    (subst (λ (e : Ending). EndsLines e source source' sink between session said turns) here.0 lines))
ends_closed before endings.WriteFault source source' sink between sink' session said turns lines rises (inr failed) =
    inr (record {
      earlier = before;
      closed = failed.0;
      lines = lines_stay before source source' sink between sink' session said turns failed.0 lines failed.1;
      cause = rose_since sink.faults between.faults sink'.faults rises failed.2;
    })
ends_closed before endings.OutOfMemory source source' sink between sink' session said turns lines rises closes =
    subst (λ (s : SinkView). EndsLines endings.OutOfMemory source source' sink s session said turns) (sym closes.1)
    (subst (λ (e : Ending). EndsLines e source source' sink between session said turns) closes.0 lines)
ends_closed before endings.Whole source source' sink between sink' session said turns lines rises closes =
    (subst (λ (e : Ending). EndsLines e source source' sink sink' session said turns) closes.0 (lines_stay before source source' sink between sink' session said turns closes.1 lines closes.2), closes.3)
ends_closed before endings.BadLine source source' sink between sink' session said turns lines rises closes =
    (subst (λ (e : Ending). EndsLines e source source' sink sink' session said turns) closes.0 (lines_stay before source source' sink between sink' session said turns closes.1 lines closes.2), closes.3)
ends_closed before endings.ReadFault source source' sink between sink' session said turns lines rises closes =
    (subst (λ (e : Ending). EndsLines e source source' sink sink' session said turns) closes.0 (lines_stay before source source' sink between sink' session said turns closes.1 lines closes.2), closes.3)
ends_closed before endings.Usage source source' sink between sink' session said turns lines rises closes = absurd (cc (sym (ap is_closed closes.0) ∙ closes.1))
ends_closed before endings.RootFault source source' sink between sink' session said turns lines rises closes = absurd (cc (sym (ap is_closed closes.0) ∙ closes.1))
ends_closed before endings.RootNotEmpty source source' sink between sink' session said turns lines rises closes = absurd (cc (sym (ap is_closed closes.0) ∙ closes.1))

-- lines that ended, ended no run early
lines_are_late : (ending : Ending) (source source' : SourceView) (sink sink' : SinkView) (session : Session) (said : List (List ℕ)) (turns : List Turn)
    → EndsLines ending source source' sink sink' session said turns → is_early ending ≡ false
lines_are_late endings.Usage source source' sink sink' session said turns h = absurd h
lines_are_late endings.RootFault source source' sink sink' session said turns h = absurd h
lines_are_late endings.RootNotEmpty source source' sink sink' session said turns h = absurd h
lines_are_late endings.Whole source source' sink sink' session said turns h = refl
lines_are_late endings.BadLine source source' sink sink' session said turns h = refl
lines_are_late endings.ReadFault source source' sink sink' session said turns h = refl
lines_are_late endings.WriteFault source source' sink sink' session said turns h = refl
lines_are_late endings.OutOfMemory source source' sink sink' session said turns h = refl

pub late_lines : (source source' : SourceView) (sink sink' : SinkView) (ending : Ending) (lines : ℕ) (session : Session) → RunsLines source source' sink sink' ending lines session
    → is_early ending ≡ false
late_lines source source' sink sink' ending lines session r = lines_are_late ending source source' sink sink' session r.said r.turns r.ends

-- the statuses of runs that ended early
pub unread_is_early : (ending : Ending) → is_unread (status_of ending) ≡ is_early ending
unread_is_early endings.Whole = refl
unread_is_early endings.BadLine = refl
unread_is_early endings.Usage = refl
unread_is_early endings.ReadFault = refl
unread_is_early endings.WriteFault = refl
unread_is_early endings.OutOfMemory = refl
unread_is_early endings.RootFault = refl
unread_is_early endings.RootNotEmpty = refl

-- a run that went on to its lines
pub runs_closed : {S F : Type 0} (seen : S → ShelfView F) (words : List (List ℕ)) (source source' : SourceView) (sink between sink' : SinkView) (farm farm' : FarmView S)
    (before after : Ending) (outcome : Outcome) → Begins seen (are_right_words words) farm farm' None → RunsLines source source' sink between before outcome.lines outcome.session
    → Closes before after between sink' → is_early after ≡ false → between.faults ≤ sink'.faults → outcome.status ≡ status_of after
    → Runs seen words source source' sink sink' farm farm' outcome
runs_closed seen words source source' sink between sink' farm farm' before after outcome begins r closes late rises is = record {
  said = r.said;
  turns = r.turns;
  early = None;
  ending = after;
  count = r.count;
  few = r.few;
  ran = r.ran;
  status_is = is;
  begins = begins;
  ends_early = late;
  ends = ends_closed before after source source' sink between sink' outcome.session r.said r.turns r.ends r.counts.sink_faults closes;
  source_faults = r.counts.source_faults;
  sink_faults = omega (arith, r.counts.sink_faults, rises);
  told = r.counts.told;
}

-- before the first line
first_none : (left : Option (List ℕ)) → IfSome left (λ input. RanFirst input [])
first_none None = tt
first_none (Some input) = record { within = omega arith; lines = refl }

module _ (source : SourceView) (sink : SinkView) (session : Session) (empty : session ≡ handed_out fresh []) where
  nothing : DoesNothing source source sink sink session [] []
  nothing = (record { state = fresh; are_turns = refl; is = empty }, refl, refl, refl)

  refused : (refusal : FarmFault) → Ends (ending_of_refusal refusal) source source sink sink session [] []
  refused refusals.NotEmpty = nothing
  refused refusals.Failed = nothing
  refused refusals.Memory = (inl nothing.0, gains_nothing sink sink refl, first_none source.left)

  ends_so : (ending early : Ending) → ending ≡ early → Ends early source source sink sink session [] [] → Ends ending source source sink sink session [] []
  ends_so ending early is ends = subst (λ (e : Ending). Ends e source source sink sink session [] []) (sym is) ends

  by_answer : (ending : Ending) (answer : Result Bool FarmFault) → Some ending ≡ ending_of_root answer → Ends ending source source sink sink session [] []
  by_answer ending (Ok false) is = absurd (cc is)
  by_answer ending (Ok true) is = ends_so ending endings.RootNotEmpty (cc is) nothing
  by_answer ending (Err refusal) is = ends_so ending (ending_of_refusal refusal) (cc is) (refused refusal)

  ends_early : {S F : Type 0} (seen : S → ShelfView F) (farm farm' : FarmView S) (ending : Ending) (right : Bool) → Begins seen right farm farm' (Some ending)
      → Ends ending source source sink sink session [] []
  ends_early seen farm farm' ending false begins = ends_so ending endings.Usage (cc (begins.0)) nothing
  ends_early seen farm farm' ending true begins = by_answer ending begins.answer begins.by_answer

-- a run that ended before its first line
pub runs_unread : {S F : Type 0} (seen : S → ShelfView F) (words : List (List ℕ)) (source : SourceView) (sink : SinkView) (farm farm' : FarmView S) (ending : Ending) (outcome : Outcome)
    → Begins seen (are_right_words words) farm farm' (Some ending) → outcome.status ≡ status_of ending → outcome.lines ≡ 0 → outcome.session ≡ handed_out fresh []
    → Runs seen words source source sink sink farm farm' outcome
runs_unread seen words source sink farm farm' ending outcome begins is none empty = record {
  said = [];
  turns = [];
  early = Some ending;
  ending = ending;
  count = sym none;
  few = omega (arith, none);
  ran = record { in_language = refl; commands = refl };
  status_is = is;
  begins = begins;
  ends_early = (refl, none);
  ends = ends_early source sink outcome.session empty seen farm farm' ending (are_right_words words) begins;
  source_faults = omega arith;
  sink_faults = omega arith;
  told = λ told. told;
}
