-- How the tables are kept.
use Rattle.std.specs.Global.{Global}
use Rattle.std.specs.Prelude.{List, map, is_some, Option}
use Rattle.std.specs.declared.dyn_box.DynBox.{DynBox}
use Rattle.cluster_admin.specs.Cluster.{State}
use Rattle.cluster_admin.specs.declared.admin.Admin.{Admin}

module _ {X : Type 0} {V : X → Type 0} where
  -- what an admin knows of the store; the placers themselves are none of it
  abbrev pub state_of : Admin X V → State
  state_of admin = record {
    waiting = map is_some admin.waiting.items;
    disks = admin.disks;
    volumes = admin.volumes;
    planned = admin.planned;
    tasks = admin.tasks.items;
    names = admin.names;
  }

  -- the placer in use
  abbrev pub placer_of : Admin X V → DynBox X Global V
  placer_of admin = admin.in_use

  -- the placers by their numbers, those alone that were never in use
  abbrev pub waiting_of : Admin X V → List (Option (DynBox X Global V))
  waiting_of admin = admin.waiting.items
