use Rattle.std.proofs.Common.{◌≡◌, map}
use Rattle.std.specs.List.{range_with_len}
use Rattle.serde_json.specs.View.{view}
use Rattle.cluster_admin.specs.Location.{blob_data}
use Rattle.cluster_admin.proofs.location.blobs_of.Given as goal

abbrev pub invariant-loop-place : goal.invariant-loop-place
invariant-loop-place l = map view l.blobs.items ≡ map (blob_data l.at) (range_with_len 0 l.place)
