-- What holds of a volume after every list of moves: nine parts, the facts that make them inductive, and the forms of a state.
-- Each part takes the fields that it speaks of, so that a move that leaves them alone keeps it by computing.
use Rattle.code_mode.specs.VolumeShape.{VolumeShape}
use Rattle.volume_world.specs.State.{State}
use Rattle.volume_world.specs.Placement.{Placement}
use Rattle.volume_world.specs.Provenance.{Provenance}
use Rattle.volume_world.specs.Leases.{Leases}
use Rattle.volume_world.specs.Fencing.{Fencing}
use Rattle.volume_world.specs.Durability.{Durability}
use Rattle.volume_world.specs.Deletion.{Deletion}
use Rattle.volume_world.specs.Sight.{Sight}
use Rattle.volume_world.specs.Succession.{Succession}
use Rattle.volume_world.specs.Authority.{Authority}
use Rattle.volume_world.specs.Support.{Support}
use Rattle.volume_world.specs.Form.{Form}

-- what is kept by every move
pub record Kept (shape : VolumeShape) (s : State) : Type 0 where
  pub placement : Placement shape.total s.manager.homes s.manager.greatest s.manager.lock s.broken s.units.is_made
  pub provenance : Provenance s.puts.status s.manager.asked s.manager.committed s.units s.post.given
  pub leases : Leases s.manager.homes s.manager.lease_end s.manager.lock s.puts s.post.given s.time
  pub fencing : Fencing s.manager.homes s.manager.lock s.broken s.units.is_made s.units.fence s.units.is_released s.post.issued
  pub durability : Durability shape s.manager.homes s.broken s.units.row s.puts.status s.manager.asked
  pub deletion : Deletion shape s.manager.homes s.manager.lock s.broken s.units.row s.manager.committed s.manager.doubt
  pub sight : Sight shape s.manager.homes s.manager.lock s.manager.heard s.broken s.units.row s.puts.status s.manager.asked s.manager.committed s.post.given
  pub succession : Succession s.manager.homes s.manager.lock s.manager.doubt s.units.row s.puts.status s.manager.asked s.manager.committed
  pub authority : Authority shape s.manager.homes s.manager.greatest s.manager.lease_end s.manager.granted s.manager.lock s.manager.heard s.manager.asked s.manager.committed s.manager.marks s.manager.doubt
      s.puts.status s.units s.post s.time s.broken
  pub support : Support s.manager.homes s.manager.lease_end s.manager.granted s.manager.lock s.manager.asked s.manager.doubt s.puts.status s.units s.post s.time
  pub form : Form shape.total s.manager.homes s.manager.greatest s.manager.lock s.manager.is_shut s.manager.doubt s.units s.time
