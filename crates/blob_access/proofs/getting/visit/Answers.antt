use Rattle.std.proofs.Common.{refl, sym, ap, subst, rules}
use Rattle.unit_id.specs.declared.homes.Home.{Home}
use Rattle.volume_world.specs.Call.{Next}
use Rattle.blob_access.specs.GetCall.{GetStage, GetNext, unbroken, after_read}
use Rattle.blob_access.specs.GetParts.{wanted_of, try_of, heard_on, GetsOn}
use Rattle.blob_access.proofs.GetLemmas.{read_uncut, gets_heard, gets_failed_by, shown_whole}
use Rattle.blob_access.proofs.getting.visit.Goals as goal

pub returns-in_err-reply-clause-visits : goal.returns-in_err-reply-clause-visits
returns-in_err-reply-clause-visits g c = λ versions left.
    let wanted = wanted_of c.args.wanted in
    let t = try_of versions c.args.tried.now in
    let home = c.args.home.now in
    subst (λ (n : GetNext). GetsOn wanted (g.P.Port.seen c.args.port.now) (g.P.Port.seen c.read.new.port) n c.from_residual.result (heard_on wanted versions c.args.tried.now left)) (shown_whole t home left c.if-home.false)
    (gets_failed_by wanted _ _ (Next.Go (GetStage.Read t home (unbroken left))) c.from_residual.result c.in_err-reply.field-0.0 (λ reply. after_read wanted t home (unbroken left) reply) (heard_on wanted versions c.args.tried.now left) (search rules)
    (c.in_err-reply.ensures.reads wanted t (unbroken left) refl))

pub returns-clause-visits : goal.returns-clause-visits
returns-clause-visits g c = λ versions left.
    let wanted = wanted_of c.args.wanted in
    let t = try_of versions c.args.tried.now in
    let home = c.args.home.now in
    subst (λ (n : GetNext). GetsOn wanted (g.P.Port.seen c.args.port.now) (g.P.Port.seen c.read.new.port) n c.hear.result (heard_on wanted versions c.hear.new.tried left)) (shown_whole t home left c.if-home.false)
    (gets_heard wanted _ _ (Next.Go (GetStage.Read t home (unbroken left))) (after_read wanted t home (unbroken left) c.in_ok-reply.reply) c.hear.result (heard_on wanted versions c.hear.new.tried left)
    (read_uncut wanted t home (unbroken left) c.in_ok-reply.reply)
    (c.hear.ensures.hears versions home left (sym (ap (λ (h : Home). h.unit.index) c.home.view_is))) (c.in_ok-reply.ensures.reads wanted t (unbroken left) refl))
