use Rattle.std.proofs.Common.{◌∙◌, sym, ap, subst}
use Rattle.volume_world.specs.Stations.{StationsOver, HasDisk, is_broken_on}
use Rattle.volume_world.proofs.StationsFrame.{broken_on_disk}
use Rattle.volume_world.proofs.stations.Stations.is_broken.Goals as goal

pub returns : goal.returns
returns g c =
    let has : HasDisk c.self.inside.kept.items c.args.disk = subst (λ (s : StationsOver g.row.H.Denot g.row.H-File.Denot). HasDisk s.stations c.args.disk) (sym c.self.view_is) c.requires in
    c.is_broken.ensures
    ∙ sym (broken_on_disk c.self.inside.vid c.args.disk c.self.inside.kept.items c.index.result.now c.self.invariant.on has c.index.ensures)
    ∙ ap (λ (s : StationsOver g.row.H.Denot g.row.H-File.Denot). is_broken_on s.stations c.args.disk) c.self.view_is
