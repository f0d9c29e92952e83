-- The entries of a world's step as a stretch of its way: an event, or one before which the manager's log was started.
use Rattle.std.proofs.Common.{◌≡◌, refl, sym, subst, List, [], ◌∷◌}
use Rattle.disk_base.specs.Disk.{FileView}
use Rattle.disk_base.specs.Shelves.{ShelfView}
use Rattle.volume_entry.specs.TableParts.{shape_of}
use Rattle.volume_world.specs.Run.{World}
use Rattle.volume_world.specs.Told.{MayBe}
use Rattle.volume_world.specs.Trace.{trace_of}
use Rattle.volume_world.specs.Way.{Origin}
use Rattle.volume_world.specs.Way as way
use Rattle.volume_world.specs.Course.{Part, PartsLead}
use Rattle.volume_world.specs.World.{WorldOver, Stands}
use Rattle.volume_world.specs.WorldSteps.{LeadsOn}
use Rattle.volume_world.specs.declared.event.Event.{Event}
use Rattle.volume_world.specs.declared.reply.Reply.{Reply}
use Rattle.volume_world.specs.declared.trace.Trace.{Trace}
use Rattle.volume_world.proofs.OneMove.{IsNoSend, done_by}

-- the volume is the one of this world
pub record IsOf {H F : Type 0} (origin : Origin) (world : WorldOver H F) : Type 0 where
  pub vid : origin.vid ≡ world.vid
  pub shape : way.shape_of origin ≡ shape_of world.shape

may_be_of : {H F : Type 0} (origin : Origin) (world : WorldOver H F) (w : World) (trace : Trace) (v : World) → IsOf origin world
    → MayBe world.vid (shape_of world.shape) w trace v
    → MayBe origin.vid (way.shape_of origin) w trace v
may_be_of origin world w trace v of may_be =
    subst (λ vid. MayBe vid (way.shape_of origin) w trace v) (sym of.vid) (subst (λ shape. MayBe world.vid shape w trace v) (sym of.shape) may_be)

module _ {H F : Type 0} (shelf_seen : H → ShelfView F) (seen : F → FileView) (origin : Origin) where
  -- a stretch leads to a state for which the world stands
  abbrev pub LeadsBy : World → List Part → WorldOver H F → Type 0
  LeadsBy w parts new = (v : World) × PartsLead origin w parts v × Stands shelf_seen seen new v

  pub asked : (old new : WorldOver H F) (w : World) (event : Event) (reply : Reply) → IsOf origin old → IsNoSend event
      → LeadsOn shelf_seen seen old w (trace_of event reply) new
      → LeadsBy w (Part.Asking event reply ∷ []) new
  asked old new w event reply of no_send leads =
      (leads.then_, (leads.then_, done_by origin w event reply leads.then_ no_send (may_be_of origin old w (trace_of event reply) leads.then_ of leads.may_be), refl), leads.stands)

  -- a settle stands before what follows
  pub settled_before : (old mid new : WorldOver H F) (w : World) (trace : Trace) (parts : List Part) → IsOf origin old → LeadsOn shelf_seen seen old w trace mid
      → ((u : World) → Stands shelf_seen seen mid u → LeadsBy u parts new) → LeadsBy w (Part.Settling trace ∷ parts) new
  settled_before old mid new w trace parts of leads rest =
      let later = rest leads.then_ leads.stands in
      (later.0, (leads.then_, may_be_of origin old w trace leads.then_ of leads.may_be, later.1), later.2)
