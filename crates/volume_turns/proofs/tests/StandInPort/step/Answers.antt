use Rattle.std.proofs.Common.{refl, rules}
use Rattle.blob_access.proofs.StandInSteps.{stood_out, stood_answering}
use Rattle.volume_turns.proofs.tests.StandInPort.step.Goals as goal

pub returns-in_err-reply : goal.returns-in_err-reply
returns-in_err-reply c = stood_out c.args.self.now.entries.items c.args.self.now.entries.items c.args.event c.from_residual.result refl (search rules) (search rules)

pub returns-in_err-push : goal.returns-in_err-push
returns-in_err-push c = stood_out c.args.self.now.entries.items c.push.new.self.items c.args.event c.from_residual-in_err-push.result c.in_err-push.ensures.items (search rules) (search rules)

pub returns : goal.returns
returns c = stood_answering c.args.self.now.entries.items c.push.new.self.items c.args.event c.in_ok-reply.reply c.in_ok-reply.trace c.in_ok-push.ensures.items (search rules) (search rules)
