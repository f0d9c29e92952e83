-- The entry's start, clause by clause.
use Rattle.std.proofs.Common.{subst}
use Rattle.volume_world.specs.World.{WorldOver}
use Rattle.volume_world.specs.Opening.{StartsEntry}
use Rattle.volume_world.proofs.parts.Parts.start_entry.Goals as goal

pub returns-clause-starts : goal.returns-clause-starts
returns-clause-starts g c =
    let is = c.start.ensures in
    subst (λ (world : WorldOver g.row.H.Denot g.row.H-File.Denot). StartsEntry g.H.File.Extent.seen world.entry c.start.new.self c.start.result) c.self.view_is
    (record { call = is.call; told = is.told; lasts = is.lasts; bodies = is.bodies; last = is.last; spoiled = is.spoiled; named = is.named })
