-- The state of a volume.
use Rattle.std.specs.Prelude.{ℕ, Bool, false, List, [], None}
use Rattle.unit_id.specs.Place.{Location, Place}
use Rattle.unit_id.specs.Request.{Request, Given}
use Rattle.blob_node.specs.Units.{Units}
use Rattle.volume_entry.specs.Manager.{Manager, fresh_manager}

pub data Status : Type 0 where
  NotBegun : Status
  Open : Status
  Acked : Status
  Failed : Status

-- by blob: how its put stands, the bytes that it carries, the lease end that its Begin saw, and the indexes that accepted it
pub record Puts : Type 0 where
  pub status : ℕ → Status
  pub payload : ℕ → List ℕ
  pub end : ℕ → ℕ
  pub accepted : ℕ → ℕ → Bool

-- every request ever issued, and every answer ever given
pub record Post : Type 0 where
  pub issued : List Request
  pub given : List Given

pub record State : Type 0 where
  pub manager : Manager
  pub units : Units
  pub puts : Puts
  pub post : Post
  pub time : ℕ
  pub broken : ℕ → Bool

-- a volume as made, with these units, which have no rows
abbrev pub fresh : List Location → (Place → Bool) → State
fresh homes is_made = record {
  manager = fresh_manager homes;
  units = record {
    is_made = is_made;
    row = λ place bid. None;
    fence = λ place. None;
    is_released = λ place. false;
    is_shut = λ place. false;
    doubt = λ place. None;
  };
  puts = record { status = λ bid. Status.NotBegun; payload = λ bid. []; end = λ bid. 0; accepted = λ bid index. false };
  post = record { issued = []; given = [] };
  time = 0;
  broken = λ disk. false;
}
