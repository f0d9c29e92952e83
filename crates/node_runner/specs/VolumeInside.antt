-- How the fields of a volume stand for its state.
use Rattle.std.specs.Prelude.{ℕ, ◌≡◌, List, [], ◌∷◌, map}
use Rattle.std.proofs.Common.{Vec, Global}
use Rattle.code_mode.specs.declared.mode.Mode.{Mode}
use Rattle.rs_code.specs.Shape.{shape}
use Rattle.node_runner.specs.Session.{Object}
use Rattle.node_runner.specs.Volumes.{VolumeState}
use Rattle.node_runner.specs.Stripes.{shape_of, blob_in, IsStripe}
use Rattle.node_runner.specs.declared.volume.StoredObject.{StoredObject}
use Rattle.node_runner.specs.declared.volume.Volume.TheInside.{Inside}

-- the object whose shards are kept
abbrev pub object_of : Mode → StoredObject → Object
object_of mode kept = record { bid = kept.bid; bytes = blob_in mode kept.size kept.shards }

-- of every object all shards are kept
abbrev pub AreWhole : Mode → List (Vec ℕ Global × StoredObject) → Type 0
AreWhole mode [] = Unit {0}
AreWhole mode (entry ∷ entries) = IsStripe mode entry.1.size entry.1.shards × AreWhole mode entries

abbrev pub volume_of : Inside → VolumeState
volume_of inside = record { mode = inside.mode; objects = map (λ entry. (entry.0.items, object_of inside.mode entry.1)) inside.kept.entries }

-- the coder is one of the mode, and each object is whole
pub record IsSound (inside : Inside) : Type 0 where
  pub coder : shape inside.coder ≡ shape_of inside.mode
  pub kept : AreWhole inside.mode inside.kept.entries
