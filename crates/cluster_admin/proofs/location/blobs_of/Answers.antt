use Rattle.cluster_admin.proofs.Locations.{one_blob_more}
use Rattle.cluster_admin.proofs.location.blobs_of.Goals as goal

pub loop-place-preserved : goal.loop-place-preserved
loop-place-preserved c =
    one_blob_more c.args.at c.loop-place.place c.loop-place.blobs.items c.push.new.self.items c.in_ok-blob_of.field-0 c.loop-place.invariant c.in_ok-blob_of.ensures c.in_ok-push.ensures.items
