use Rattle.std.proofs.Common.{refl, rules}
use Rattle.volume_calls.proofs.StandInSteps.{stood_out, stood_answering}
use Rattle.volume_calls.proofs.tests.StandInPort.step.Goals as goal

pub returns-in_default : goal.returns-in_default
returns-in_default c = stood_out c.args.self.now.entries.items c.args.self.now.entries.items c.args.event _ refl refl (search rules)

pub returns-in_err-push : goal.returns-in_err-push
returns-in_err-push c = stood_out c.args.self.now.entries.items c.push.new.self.items c.args.event c.from_residual.result c.in_err-push.ensures.items (search rules) (search rules)

pub returns : goal.returns
returns c = stood_answering c.args.self.now.entries.items c.push.new.self.items c.args.event c.in-Some.reply c.in-Some.trace c.in_ok-push.ensures.items (search rules) (search rules)
