use Rattle.blob_access.proofs.GivenBlobs.{gets_give_the_blob}
use Rattle.blob_access.proofs.laws.gets_give_the_blob.Goals as goal

pub returns : goal.returns
returns c = gets_give_the_blob
