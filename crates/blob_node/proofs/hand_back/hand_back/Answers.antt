-- One file more is back.
use Rattle.std.proofs.Common.{◌∙◌, ap, subst, arith}
use Rattle.disk_base.specs.Shelves.{TakesBack}
use Rattle.chunk_store.specs.Chunk.{ChunkOver}
use Rattle.blob_node.proofs.HandingBack.{all_in_hand, is_out_now, one_back, all_back, none_left}
use Rattle.blob_node.proofs.hand_back.hand_back.Goals as goal

pub loop-word-init : goal.loop-word-init
loop-word-init g c = all_in_hand g.H.Shelf.seen g.H.File.Extent.seen c.args.shelf c.args.units.entries c.requires

pub hold-requires : goal.hold-requires
hold-requires g c =
    is_out_now g.H.Shelf.seen g.H.File.Extent.seen c.args.shelf c.args.units.entries c.loop-word.shelf c.loop-word.units.entries c.loop-word.invariant
    c.pop.new.self.entries c.in-Some.word c.in-Some.held c.in-Some.ensures.entries c.in-Some.ensures.updates.1

pub loop-word-smaller : goal.loop-word-smaller
loop-word-smaller g c = let sum = c.in-Some.ensures.len in omega (arith, sum)

pub loop-word-preserved : goal.loop-word-preserved
loop-word-preserved g c =
    one_back g.H.Shelf.seen g.H.File.Extent.seen c.args.shelf c.args.units.entries c.loop-word.shelf c.loop-word.units.entries c.loop-word.invariant
    c.pop.new.self.entries c.in-Some.word c.in-Some.held c.in-Some.ensures.entries c.in-Some.ensures.updates.1 c.hold.new.self
    (subst (λ f. TakesBack g.H.File.Extent.seen c.in-Some.word f (g.H.Shelf.seen c.loop-word.shelf) (g.H.Shelf.seen c.hold.new.self))
    (c.into_file.ensures ∙ ap (λ (k : ChunkOver g.row.H-File.Denot). k.log.file) c.into_chunk.ensures) c.hold.ensures)

pub returns : goal.returns
returns g c =
    all_back g.H.Shelf.seen g.H.File.Extent.seen c.args.shelf c.args.units.entries c.loop-word.shelf c.loop-word.units.entries c.loop-word.invariant
    (none_left c.loop-word.units.entries c.in_default.ensures.found.1)
