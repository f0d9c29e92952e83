use Rattle.code_mode.proofs.Pieces.{blob_back}
use Rattle.code_mode.proofs.Joins.{data_held, blob_joined}
use Rattle.code_mode.proofs.stripe.cut_shards_join.Goals as goal

pub returns : goal.returns
returns c = record { pieces = blob_back; held = data_held; joined = blob_joined }
