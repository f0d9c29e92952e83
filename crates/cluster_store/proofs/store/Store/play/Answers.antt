use Rattle.std.proofs.Common.{Some, ap, sym, ◌∙◌}
use Rattle.cluster_admin.specs.Inside.{state_of}
use Rattle.cluster_store.proofs.Playing.{fits_there, not_missing, plays_at}
use Rattle.cluster_store.proofs.store.Store.play.Goals as goal

pub play-requires-clause-command : goal.play-requires-clause-command
play-requires-clause-command g c =
    fits_there g.F.Disk.Shelf.seen g.F.Disk.File.Extent.seen c.args.self.now.volumes.items c.args.place c.args.command.now (record { volume = c.opened.inside.volume; shape = _ }) c.index_mut.result.now c.requires.there c.index_mut.ensures.value
    (c.in-Some.is ∙ ap (λ o. Some o) (sym c.opened.view_is))

pub unreachable-requires : goal.unreachable-requires
unreachable-requires g c = not_missing c.args.self.now.volumes.items c.args.place c.requires.there.opened c.index_mut.result.now c.requires.there.there c.index_mut.ensures.value c.in-None.is

pub returns : goal.returns
returns g c =
    plays_at g.F.Disk.Shelf.seen g.F.Disk.File.Extent.seen (state_of c.args.self.now.admin) c.args.self.now.volumes.items c.args.place c.args.command.now c.play.result (record { volume = c.opened.inside.volume; shape = _ })
    (record { volume = c.play.new.port; shape = _ }) c.index_mut.result.now c.requires.there c.index_mut.ensures.value (c.in-Some.is ∙ ap (λ o. Some o) (sym c.opened.view_is)) c.requires.sound c.play.ensures.plays c.play.ensures.shape
