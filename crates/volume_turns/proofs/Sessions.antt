-- One turn more.
use Rattle.std.proofs.Common.{◌≡◌, ℕ, zero, suc, ◌+◌, ◌-◌, ◌^◌, ◌<◌, ◌≤◌, min, true, List, [], ◌∷◌, ◌++◌, length, drop, get_or, Result, Ok, Err, Vec, refl, sym, ◌∙◌, ap, subst, append_assoc, append-nil, arith}
use Rattle.std.proofs.lemmas.List.{drop_more, drop_all, map-append}
use Rattle.std.specs.declared.alloc.Global.{Global}
use Rattle.volume_world.specs.declared.fault.StepFault.{StepFault}
use Rattle.volume_world.specs.declared.fault.StepFault.TheVariants as faults
use Rattle.volume_world.specs.declared.trace.Trace.{Trace}
use Rattle.volume_world.specs.Run.{World}
use Rattle.volume_world.specs.Way.{Origin, WayView}
use Rattle.volume_world.specs.Course.{Part, traces_of, Goes, PartsLead}
use Rattle.volume_world.proofs.Stretches.{goes_on, traces_on}
use Rattle.blob_access.proofs.PutLemmas.{goes_nowhere}
use Rattle.volume_turns.proofs.FaultTurns.{faults_are_counted}
use Rattle.volume_turns.specs.declared.command.VolumeCommand.{VolumeCommand}
use Rattle.volume_turns.specs.declared.reply.VolumeReply.{VolumeReply}
use Rattle.volume_turns.specs.Answers.{Replied}
use Rattle.volume_turns.specs.Turn.{FitsCommand, Plays}
use Rattle.volume_turns.specs.Session.{Turn, joined, IsTurn, AreTurns, IsSession, TurnLeads, TurnsLead, OneTurnMore, faulty_turns, AllFitCommands, commands_of, replies_of, told_replies, IsSessionOver, PlaysAll}

-- ---- a list of turns with one behind it

pub joined_more : (turns : List Turn) (turn : Turn) → joined (turns ++ turn ∷ []) ≡ joined turns ++ turn.parts
joined_more [] turn = append-nil turn.parts
joined_more (first ∷ turns) turn = ap (λ parts. first.parts ++ parts) (joined_more turns turn) ∙ sym (append_assoc first.parts (joined turns) turn.parts)

pub turns_more : (origin : Origin) (turns : List Turn) (turn : Turn) → AreTurns origin turns → IsTurn origin turn → AreTurns origin (turns ++ turn ∷ [])
turns_more origin [] turn h one = (one, tt)
turns_more origin (first ∷ turns) turn h one = (h.0, turns_more origin turns turn h.1 one)

pub leads_more : (origin : Origin) (w u v : World) (turns : List Turn) (turn : Turn) → TurnsLead origin w turns u → TurnLeads origin u turn v → TurnsLead origin w (turns ++ turn ∷ []) v
leads_more origin w u v [] turn h one = (v, subst (λ (x : World). TurnLeads origin x turn v) h one, refl)
leads_more origin w u v (first ∷ turns) turn h one = (h.0, h.1, leads_more origin h.0 u v turns turn h.2 one)

pub session_more : (origin : Origin) (turns : List Turn) (turn : Turn) (entries : List Trace) → IsSession origin turns entries → IsTurn origin turn
    → IsSession origin (turns ++ turn ∷ []) (entries ++ traces_of turn.parts)
session_more origin turns turn entries h one = record {
  each = turns_more origin turns turn h.each one;
  whole = ap (λ (es : List Trace). es ++ traces_of turn.parts) h.whole ∙ sym (traces_on (joined turns) turn.parts) ∙ ap traces_of (sym (joined_more turns turn));
}

pub one_turn_more : OneTurnMore
one_turn_more = record { session = session_more; leads = λ origin turns turn w u v h one. leads_more origin w u v turns turn h one }

-- ---- over a way

-- the turn of a command that was played
abbrev pub turn_of : (a b : WayView) (command : VolumeCommand) (result : Replied) → Plays a b command result → Turn
turn_of a b command result h = record { command = command; parts = h.parts; result = result }

pub session_none : (a : WayView) → IsSessionOver a a []
session_none a = record { each = tt; goes = goes_nowhere a; leads = λ told w at. (w, refl, at); faults = omega arith }

leads_further : (a b c : WayView) (turns : List Turn) (command : VolumeCommand) (result : Replied) → IsSessionOver a b turns → (p : Plays b c command result) → a.origin.is_told ≡ true → (w : World) → a.is_at w
    → (v : World) × TurnsLead a.origin w (turns ++ turn_of b c command result p ∷ []) v × c.is_at v
leads_further a b c turns command result h p told w at =
    let one = h.leads told w at in
    let two = p.shows (ap (λ (o : Origin). o.is_told) h.goes.origin ∙ told) one.0 one.2 in
    let lead = subst (λ (o : Origin). PartsLead o one.0 p.parts two.0) h.goes.origin two.1 in
    (two.0, leads_more a.origin w one.0 two.0 turns (turn_of b c command result p) one.1 (record { leads = lead; shows = two.3 }), two.2)

-- no more turns reply that a file failed than files failed
few_faulty : (a b : WayView) (turns : List Turn) → AreTurns a.origin turns → Goes a b (joined turns) → min (a.faults + faulty_turns turns) (2 ^ 64 - 1) ≤ b.faults
few_faulty a b turns each goes = let few = faults_are_counted a.origin turns each in let failed = goes.faults in omega arith

pub session_further : (a b c : WayView) (turns : List Turn) (command : VolumeCommand) (result : Replied) → IsSessionOver a b turns → (p : Plays b c command result)
    → IsSessionOver a c (turns ++ turn_of b c command result p ∷ [])
session_further a b c turns command result h p =
    let turn = turn_of b c command result p in
    let each = turns_more a.origin turns turn h.each (subst (λ (o : Origin). IsTurn o turn) h.goes.origin (record { fits = p.fits; plays = p.turn })) in
    let goes = subst (λ (parts : List Part). Goes a c parts) (sym (joined_more turns turn)) (goes_on a b c (joined turns) p.parts h.goes p.goes) in
    record { each = each; goes = goes; leads = leads_further a b c turns command result h p; faults = few_faulty a c (turns ++ turn ∷ []) each goes }

-- ---- a session behind another

joined_both : (turns more : List Turn) → joined (turns ++ more) ≡ joined turns ++ joined more
joined_both [] more = refl
joined_both (turn ∷ turns) more = ap (λ parts. turn.parts ++ parts) (joined_both turns more) ∙ sym (append_assoc turn.parts (joined turns) (joined more))

turns_both : (origin : Origin) (turns more : List Turn) → AreTurns origin turns → AreTurns origin more → AreTurns origin (turns ++ more)
turns_both origin [] more h k = k
turns_both origin (turn ∷ turns) more h k = (h.0, turns_both origin turns more h.1 k)

leads_both : (origin : Origin) (w u v : World) (turns more : List Turn) → TurnsLead origin w turns u → TurnsLead origin u more v → TurnsLead origin w (turns ++ more) v
leads_both origin w u v [] more h k = subst (λ (x : World). TurnsLead origin x more v) h k
leads_both origin w u v (turn ∷ turns) more h k = (h.0, h.1, leads_both origin h.0 u v turns more h.2 k)

leads_over : (a b c : WayView) (turns more : List Turn) → IsSessionOver a b turns → IsSessionOver b c more → a.origin.is_told ≡ true → (w : World) → a.is_at w
    → (v : World) × TurnsLead a.origin w (turns ++ more) v × c.is_at v
leads_over a b c turns more h k told w at =
    let one = h.leads told w at in
    let two = k.leads (ap (λ (o : Origin). o.is_told) h.goes.origin ∙ told) one.0 one.2 in
    let lead = subst (λ (o : Origin). TurnsLead o one.0 more two.0) h.goes.origin two.1 in
    (two.0, leads_both a.origin w one.0 two.0 turns more one.1 lead, two.2)

pub sessions_join : (a b c : WayView) (turns more : List Turn) → IsSessionOver a b turns → IsSessionOver b c more → IsSessionOver a c (turns ++ more)
sessions_join a b c turns more h k =
    let each = turns_both a.origin turns more h.each (subst (λ (o : Origin). AreTurns o more) h.goes.origin k.each) in
    let goes = subst (λ (parts : List Part). Goes a c parts) (sym (joined_both turns more)) (goes_on a b c (joined turns) (joined more) h.goes k.goes) in
    record { each = each; goes = goes; leads = leads_over a b c turns more h k; faults = few_faulty a c (turns ++ more) each goes }

-- ---- the loop

-- so many commands have their turns, and replies
pub record HasPlayed (a b : WayView) (commands : List VolumeCommand) (place : ℕ) (replies : List VolumeReply) : Type 0 where
  pub turns : List Turn
  pub session : IsSessionOver a b turns
  pub commanded : commands_of turns ++ drop place commands ≡ commands
  pub replied : replies_of turns ≡ told_replies replies

pub played_none : (a : WayView) (commands : List VolumeCommand) (replies : List VolumeReply) → replies ≡ [] → HasPlayed a a commands 0 replies
played_none a commands replies empty = record { turns = []; session = session_none a; commanded = refl; replied = ap told_replies (sym empty) }

-- the command at this place is behind those that were played
commands_further : (turns : List Turn) (turn : Turn) (commands : List VolumeCommand) (place : ℕ) → place < length commands → turn.command ≡ get_or commands place turn.command
    → commands_of turns ++ drop place commands ≡ commands → commands_of (turns ++ turn ∷ []) ++ drop (place + 1) commands ≡ commands
commands_further turns turn commands place below is h =
    ap (λ (cs : List VolumeCommand). cs ++ drop (place + 1) commands) (map-append (λ (t : Turn). t.command) turns (turn ∷ []))
    ∙ append_assoc (commands_of turns) (turn.command ∷ []) (drop (place + 1) commands)
    ∙ ap (λ (c : VolumeCommand). commands_of turns ++ c ∷ drop (place + 1) commands) is
    ∙ ap (λ (cs : List VolumeCommand). commands_of turns ++ cs) (sym (drop_more commands place turn.command below))
    ∙ h

pub played_more : (a b c : WayView) (commands : List VolumeCommand) (place : ℕ) (replies new : List VolumeReply) (command : VolumeCommand) (reply : VolumeReply) → place < length commands
    → command ≡ get_or commands place command → new ≡ replies ++ reply ∷ [] → HasPlayed a b commands place replies → Plays b c command (Ok reply) → HasPlayed a c commands (place + 1) new
played_more a b c commands place replies new command reply below is more h p =
    let turn = turn_of b c command (Ok reply) p in
    record {
      turns = h.turns ++ turn ∷ [];
      session = session_further a b c h.turns command (Ok reply) h.session p;
      commanded = commands_further h.turns turn commands place below is h.commanded;
      replied = map-append (λ (t : Turn). t.result) h.turns (turn ∷ []) ∙ ap (λ (rs : List Replied). rs ++ Ok reply ∷ []) h.replied
          ∙ sym (map-append (λ (r : VolumeReply). Ok r) replies (reply ∷ [])) ∙ ap told_replies (sym more);
    }

-- it breaks off before the first command
pub none_played : (a : WayView) (commands : List VolumeCommand) (result : Result (Vec VolumeReply Global) StepFault) → result ≡ Err faults.Memory → PlaysAll a a commands result
none_played a commands result given =
    subst (λ (r : Result (Vec VolumeReply Global) StepFault). PlaysAll a a commands r) (sym given) (record {
      turns = [];
      session = session_none a;
      answered = (commands, refl);
      full = λ e. absurd (cc e);
    })

-- .. or at a command, which may have its reply
pub play_stops : (a b c : WayView) (commands : List VolumeCommand) (place : ℕ) (replies : List VolumeReply) (command : VolumeCommand) (reply : Replied) (fault : StepFault)
    (result : Result (Vec VolumeReply Global) StepFault) → place < length commands → command ≡ get_or commands place command → HasPlayed a b commands place replies → Plays b c command reply
    → (fault ≡ faults.HistoryFull → reply ≡ Err faults.HistoryFull) → result ≡ Err fault → PlaysAll a c commands result
play_stops a b c commands place replies command reply fault result below is h p cause given =
    let turn = turn_of b c command reply p in
    subst (λ (r : Result (Vec VolumeReply Global) StepFault). PlaysAll a c commands r) (sym given) (record {
      turns = h.turns ++ turn ∷ [];
      session = session_further a b c h.turns command reply h.session p;
      answered = (drop (place + 1) commands, commands_further h.turns turn commands place below is h.commanded);
      full = λ e. p.full (cause (cc e));
    })

pub all_played : (a b : WayView) (commands : List VolumeCommand) (place : ℕ) (replies : Vec VolumeReply Global) → length commands ≤ place → HasPlayed a b commands place replies.items → PlaysAll a b commands (Ok replies)
all_played a b commands place replies over h = record {
  turns = h.turns;
  session = h.session;
  answered = (sym (append-nil (commands_of h.turns)) ∙ ap (λ (cs : List VolumeCommand). commands_of h.turns ++ cs) (sym (drop_all place commands over)) ∙ h.commanded, h.replied);
  full = λ e. absurd (cc e);
}

-- ---- what a command asks for

pub fits_at : (origin : Origin) (commands : List VolumeCommand) (place : ℕ) (other : VolumeCommand) → AllFitCommands origin commands → place < length commands → FitsCommand origin (get_or commands place other)
fits_at origin [] place other h below = absurd (omega arith)
fits_at origin (command ∷ commands) zero other h below = h.0
fits_at origin (command ∷ commands) (suc place) other h below = fits_at origin commands place other h.1 (omega arith)

pub fits_there : (a b : WayView) (commands : List VolumeCommand) (place : ℕ) (replies : List VolumeReply) (command : VolumeCommand) → AllFitCommands a.origin commands → place < length commands
    → command ≡ get_or commands place command → HasPlayed a b commands place replies → FitsCommand b.origin command
fits_there a b commands place replies command fits below is h =
    subst (λ (o : Origin). FitsCommand o command) (sym h.session.goes.origin) (subst (λ (c : VolumeCommand). FitsCommand a.origin c) (sym is) (fits_at a.origin commands place command fits below))

pub origin_there : (a b : WayView) (commands : List VolumeCommand) (place : ℕ) (replies : List VolumeReply) → HasPlayed a b commands place replies → b.origin ≡ a.origin
origin_there a b commands place replies h = h.session.goes.origin
