use Rattle.std.proofs.Common.{ap, ◌∙◌, ◌-◌, List, Bool, map, set, is_some}
use Rattle.std.proofs.lemmas.List.{map-set}
use Rattle.cluster_admin.specs.Cluster.{State}
use Rattle.cluster_admin.proofs.admin.Admin.use_placer.Goals as goal

pub returns-in-Some-clause-ok : goal.returns-in-Some-clause-ok
returns-in-Some-clause-ok g c =
    let admin = c.args.self.now in
    let with_waiting : List Bool → State = λ waiting. record { waiting = waiting; disks = admin.disks; volumes = admin.volumes; planned = admin.planned; tasks = admin.tasks.items; names = admin.names } in
    ap with_waiting (map-set is_some admin.waiting.items (c.args.number - 1) c.take.new.self ∙ ap (λ slot. set (map is_some admin.waiting.items) (c.args.number - 1) (is_some slot)) c.take.ensures.after)
