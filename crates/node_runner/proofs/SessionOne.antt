-- The commands of a session decide its turns.
use Rattle.std.proofs.Common.{◌≡◌, List, [], ◌∷◌, Option, Some, None, refl, sym, ◌∙◌, ap, subst}
use Rattle.node_runner.specs.declared.command.Command.{Command}
use Rattle.node_runner.specs.declared.command.Command.TheVariants as commands
use Rattle.node_runner.specs.declared.reply.Refusal.{Refusal}
use Rattle.node_runner.specs.declared.reply.LineReply.{LineReply}
use Rattle.node_runner.specs.declared.reply.LineReply.TheVariants as replies
use Rattle.node_runner.specs.declared.session.Spot.{Spot}
use Rattle.node_runner.specs.declared.session.Lost.{Lost}
use Rattle.node_runner.specs.Session.{State, Turn, fresh, size_of, named, next_bid, first_volume, disks_refusal, volume_refusal, put_refusal, get_refusal, bytes_in, object_of, with_object, Unless, Answers, Does, AreTurns, commands_of, CommandsDecide}

-- a refusal, or one answer
one_unless : (refusal : Option Refusal) (command : Command) (old : State) (reply other : LineReply) (new behind : State) (done : LineReply) (after : State)
    → Unless refusal command old reply new ((reply ≡ done) × (new ≡ after)) → Unless refusal command old other behind ((other ≡ done) × (behind ≡ after))
    → (reply ≡ other) × (new ≡ behind)
one_unless (Some cause) command old reply other new behind done after h k = (h.0 ∙ sym k.0, h.1 ∙ sym k.1)
one_unless None command old reply other new behind done after h k = (h.0 ∙ sym k.0, h.1 ∙ sym k.1)

one_answer : (old : State) (command : Command) (reply other : LineReply) (new behind : State) → Answers old command reply new → Answers old command other behind
    → (reply ≡ other) × (new ≡ behind)
one_answer old (commands.Disks count) reply other new behind h k =
    one_unless (disks_refusal old count) (commands.Disks count) old reply other new behind (replies.Disks count) (record old { disks = Some count }) h k
one_answer old (commands.Volume mode) reply other new behind h k =
    one_unless (volume_refusal old mode) (commands.Volume mode) old reply other new behind (replies.Volume first_volume mode) (record old { volume = Some mode }) h k
one_answer old (commands.Put name body) reply other new behind h k =
    one_unless (put_refusal old name (size_of body)) (commands.Put name body) old reply other new behind (replies.Put name first_volume (next_bid old) (size_of body))
    (with_object old name (object_of old body)) h k
one_answer old (commands.Get name) reply other new behind h k =
    one_unless (get_refusal (named old name)) (commands.Get name) old reply other new behind (replies.Got name (bytes_in (named old name))) old h k

-- one turn
record Same (turn other : Turn) (new behind : State) : Type 0 where
  turns : turn ≡ other
  states : new ≡ behind

one_turn : (old : State) (command : Command) (own own' : List Spot) (lost lost' : Option Lost) (reply other : LineReply) (new behind : State)
    → Does old command own lost reply new → Does old command own' lost' other behind
    → Same (record { command = command; own = own; lost = lost; reply = reply }) (record { command = command; own = own'; lost = lost'; reply = other }) new behind
one_turn old command [] [] None None reply other new behind h k =
    let one = one_answer old command reply other new behind h k in
    record { turns = ap (λ r. record { command = command; own = []; lost = None; reply = r }) one.0; states = one.1 }
one_turn old command (step ∷ own) own' lost lost' reply other new behind h k = absurd h
one_turn old command [] own' (Some loss) lost' reply other new behind h k = absurd h
one_turn old command [] (step ∷ own') None lost' reply other new behind h k = absurd k
one_turn old command [] [] None (Some loss) reply other new behind h k = absurd k

decide : (old other : State) (first second : List Turn) (state end : State) → old ≡ other → AreTurns old first state → AreTurns other second end
    → commands_of first ≡ commands_of second → first ≡ second
decide old other [] [] state end e h k c = refl
decide old other [] (turn ∷ second) state end e h k c = cc
decide old other (turn ∷ first) [] state end e h k c = cc
decide old other (turn ∷ first) (next ∷ second) state end e h k c =
    let head : next.command ≡ turn.command = cc in
    let rest : commands_of first ≡ commands_of second = cc in
    let back : Does old next.command next.own next.lost next.reply k.0 = subst (λ (s : State). Does s next.command next.own next.lost next.reply k.0) (sym e) k.1 in
    let there : Does old turn.command next.own next.lost next.reply k.0 = subst (λ (x : Command). Does old x next.own next.lost next.reply k.0) head back in
    let same = one_turn old turn.command turn.own next.own turn.lost next.lost turn.reply next.reply h.0 k.0 h.1 there in
    let is_next : record { command = turn.command; own = next.own; lost = next.lost; reply = next.reply } ≡ next = ap (λ x. record { command = x; own = next.own; lost = next.lost; reply = next.reply }) (sym head) in
    ap (λ t. t ∷ first) (same.turns ∙ is_next) ∙ ap (λ ts. next ∷ ts) (decide h.0 k.0 first second state end same.states h.2 k.2 rest)

pub commands_decide : CommandsDecide
commands_decide first second state end h k c = decide fresh fresh first second state end refl h k c
