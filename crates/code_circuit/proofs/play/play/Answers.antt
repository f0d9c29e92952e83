use Rattle.std.proofs.Common.{◌≡◌, arith, length, map}
use Rattle.std.proofs.lemmas.List.{length-map}
use Rattle.code_circuit.specs.declared.step.Step.{Step}
use Rattle.code_circuit.proofs.Moves.{played_more}
use Rattle.code_circuit.proofs.play.play.Goals as goal

pub loop-step-preserved : goal.loop-step-preserved
loop-step-preserved c =
    let was = c.args.registers.now.items in
    let new = c.take_step.new.registers.items in
    let was_long : length (map (λ register. register.items) was) ≡ length was = length-map was (λ register. register.items) in
    let new_long : length (map (λ register. register.items) new) ≡ length new = length-map new (λ register. register.items) in
    let none : Step = record { target = 0; source = 0; factor = 0 } in
    let target_in = (c.requires.allowed c.loop-step.step-index none c.loop-step-test.true).target_in in
    let more = played_more (map (λ register. register.items) was) (map (λ register. register.items) c.loop-step.registers.items) (map (λ register. register.items) new)
    c.args.steps.now c.loop-step.step-index none c.loop-step-test.true (omega (arith, target_in, was_long)) c.loop-step.invariant.played c.take_step.ensures in
    record { count = omega (arith, was_long, new_long, more.long); played = more }
