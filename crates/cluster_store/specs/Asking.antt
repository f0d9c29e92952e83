-- How far a plan was followed, and what asking all volumes does to it.
use Rattle.std.specs.Prelude.{ℕ, ◌≡◌, List, [], ◌++◌, slice_get, Option, Some, None, Result, Ok, Err, Vec}
use Rattle.std.specs.declared.alloc.Global.{Global}
use Rattle.disk_base.specs.Disk.{FileView}
use Rattle.disk_base.specs.Shelves.{ShelfView}
use Rattle.cluster_admin.specs.declared.picking.Seen.{Seen}
use Rattle.cluster_admin.specs.Cluster.{State}
use Rattle.volume_world.specs.declared.fault.StepFault.{StepFault}
use Rattle.volume_world.specs.declared.fault.StepFault.TheVariants.{Memory}
use Rattle.volume_turns.specs.declared.command.VolumeCommand.{VolumeCommand}
use Rattle.volume_turns.specs.declared.reply.VolumeRefusal.{VolumeRefusal}
use Rattle.volume_turns.specs.Turn.{FitsCommand}
use Rattle.cluster_store.specs.declared.reply.Reply.{Reply}
use Rattle.cluster_store.specs.Plan.{Step, Plan, Follows}
use Rattle.cluster_store.specs.Lines.{asks_each, looks_each}
use Rattle.cluster_store.specs.Store.{OpenedOver, StoreOver, IsStore, AreSessions, way_at}

-- these turns lead to another plan: whatever follows that one is the rest of what follows the first
abbrev pub Stands : Plan → List Step → Plan → Type 0
Stands plan steps now = (rest : List Step) (new : State) (result : Result Reply StepFault) → Follows now rest new result → Follows plan (steps ++ rest) new result

module _ {S E : Type 0} (shelf_seen : S → ShelfView E) (seen : E → FileView) where
  -- turns lead from one plan to another
  pub record Reaches (old new : StoreOver S E) (plan now : Plan) : Type 0 where
    pub steps : List Step
    pub turns_are : AreSessions shelf_seen seen old.volumes new.volumes steps
    pub stands : Stands plan steps now
    pub is : IsStore new

  -- the plan is followed to its end, or as far as it goes
  pub record Played (plan : Plan) (old new : StoreOver S E) (result : Result Reply StepFault) : Type 0 where
    pub steps : List Step
    pub turns_are : AreSessions shelf_seen seen old.volumes new.volumes steps
    pub follows : Follows plan steps new.tables result
    pub is : IsStore new

  -- the command is one for each volume
  abbrev pub FitsEach : List (Option (OpenedOver S E)) → VolumeCommand → Type 0
  FitsEach volumes command = (place : ℕ) (opened : OpenedOver S E) → slice_get volumes place ≡ Some (Some opened) → FitsCommand (way_at shelf_seen seen opened).origin command

  -- each volume was asked, and this refused first
  abbrev pub AsksEach : StoreOver S E → StoreOver S E → VolumeCommand → Result (Option VolumeRefusal) StepFault → Type 0
  AsksEach old new command (Ok first) =
      (new.tables ≡ old.tables) × ((behind : Option VolumeRefusal → Plan) → Reaches old new (asks_each old.tables command 0 old.tables.volumes None behind) (behind first))
  AsksEach old new command (Err fault) =
      (new.tables ≡ old.tables) × ((behind : Option VolumeRefusal → Plan) → Played (asks_each old.tables command 0 old.tables.volumes None behind) old new (Err fault))

  -- what is behind the looks may want memory before anything else
  abbrev pub MayWant : State → (List Seen → Option VolumeRefusal → Plan) → Type 0
  MayWant tables behind = (views : List Seen) (first : Option VolumeRefusal) → Follows (behind views first) [] tables (Err Memory)

  -- it was looked at each volume, and these are the views
  abbrev pub LooksEach : StoreOver S E → StoreOver S E → Result (Vec Seen Global × Option VolumeRefusal) StepFault → Type 0
  LooksEach old new (Ok shown) =
      (new.tables ≡ old.tables)
      × ((behind : List Seen → Option VolumeRefusal → Plan) → Reaches old new (looks_each old.tables 0 old.tables.volumes [] None behind) (behind shown.0.items shown.1))
  LooksEach old new (Err fault) =
      (new.tables ≡ old.tables)
      × ((behind : List Seen → Option VolumeRefusal → Plan) → MayWant old.tables behind → Played (looks_each old.tables 0 old.tables.volumes [] None behind) old new (Err fault))
