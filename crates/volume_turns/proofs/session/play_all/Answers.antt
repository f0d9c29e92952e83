use Rattle.std.proofs.Common.{◌≤◌, length, Err, refl, sym, ◌∙◌, ap, rules, arith}
use Rattle.volume_world.specs.declared.fault.StepFault.TheVariants as faults
use Rattle.volume_world.specs.Way.{Origin}
use Rattle.blob_access.specs.Coding.{coder_shape}
use Rattle.volume_turns.proofs.Sessions.{played_none, played_more, none_played, play_stops, all_played, fits_there, origin_there}
use Rattle.volume_turns.proofs.session.play_all.Goals as goal

pub returns-in_err-replies-clause-plays : goal.returns-in_err-replies-clause-plays
returns-in_err-replies-clause-plays g c = none_played _ c.args.commands.now c.from_residual.result (search rules)

pub turns-init : goal.turns-init
turns-init g c = record { coder = refl; gone = played_none _ c.args.commands.now c.in_ok-replies.replies.items c.in_ok-replies.ensures.items }

pub play-requires-clause-coder : goal.play-requires-clause-coder
play-requires-clause-coder g c =
    let origin = origin_there _ _ c.args.commands.now c.turns.command-index c.turns.replies.items c.turns.invariant.gone in
    c.turns.invariant.coder ∙ c.requires.coder ∙ ap (λ (o : Origin). coder_shape o.mode) (sym origin)

pub play-requires-clause-command : goal.play-requires-clause-command
play-requires-clause-command g c =
    fits_there _ _ c.args.commands.now c.turns.command-index c.turns.replies.items c.command-item.result c.requires.commands c.turns-test.true c.command-item.is c.turns.invariant.gone

pub returns-in_err-reply-clause-plays : goal.returns-in_err-reply-clause-plays
returns-in_err-reply-clause-plays g c =
    play_stops _ _ _ c.args.commands.now c.turns.command-index c.turns.replies.items c.command-item.result c.play.result c.in_err-reply.field-0.0 c.from_residual-in_err-reply.result c.turns-test.true c.command-item.is
    c.turns.invariant.gone c.play.ensures.plays (λ e. c.in_err-reply.was ∙ ap Err e) (search rules)

pub returns-in_err-reply-clause-shape : goal.returns-in_err-reply-clause-shape
returns-in_err-reply-clause-shape g c = c.play.ensures.shape ∙ c.turns.invariant.coder

pub returns-in_err-push-clause-plays : goal.returns-in_err-push-clause-plays
returns-in_err-push-clause-plays g c =
    play_stops _ _ _ c.args.commands.now c.turns.command-index c.turns.replies.items c.command-item.result c.play.result faults.Memory c.from_residual-in_err-push.result c.turns-test.true c.command-item.is
    c.turns.invariant.gone c.play.ensures.plays (λ e. absurd (cc e)) (search rules)

pub returns-in_err-push-clause-shape : goal.returns-in_err-push-clause-shape
returns-in_err-push-clause-shape g c = c.play.ensures.shape ∙ c.turns.invariant.coder

pub turns-preserved : goal.turns-preserved
turns-preserved g c = record {
  coder = c.play.ensures.shape ∙ c.turns.invariant.coder;
  gone = played_more _ _ _ c.args.commands.now c.turns.command-index c.turns.replies.items c.push.new.self.items c.command-item.result c.in_ok-reply.reply c.turns-test.true c.command-item.is c.in_ok-push.ensures.items
      c.turns.invariant.gone c.in_ok-reply.ensures.plays;
}

pub returns-clause-plays : goal.returns-clause-plays
returns-clause-plays g c =
    let over : length c.args.commands.now ≤ c.turns.command-index = omega (arith, c.turns-test.false) in
    all_played _ _ c.args.commands.now c.turns.command-index c.turns.replies over c.turns.invariant.gone

pub returns-clause-shape : goal.returns-clause-shape
returns-clause-shape g c = c.turns.invariant.coder
