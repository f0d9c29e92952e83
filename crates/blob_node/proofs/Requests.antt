-- The plan of each call on a chunk is what the protocol allows.
use Rattle.std.proofs.Common.{◌≡◌, ◌∙◌, sym, ap, refl, subst, ℕ, Bool, true, false, List, Option, None, Some, Result}
use Rattle.std.specs.Prelude.{◌==◌, if◌then◌else◌}
use Rattle.std.proofs.lemmas.Bool.{eqb-true}
use Rattle.unit_id.specs.Place.{Place}
use Rattle.unit_id.specs.declared.request.Request.TheVariants as requests
use Rattle.unit_id.specs.declared.answer.Answer as answered
use Rattle.disk_base.specs.Disk.{FileView, IsFile}
use Rattle.disk_base.specs.declared.fault.NoMemory.{NoMemory}
use Rattle.shard_record.specs.declared.record.ShardRecord.{ShardRecord}
use Rattle.shard_record.specs.declared.record.ShardRecord.TheVariants.{Shard, Mark, Free, Fence, Release}
use Rattle.chunk_store.specs.Kept.{row_of, kind_of}
use Rattle.chunk_store.specs.Chunk.{ChunkOver, shown, IsSound, Plan, refuse, answer, add, unless_shut, unless_fenced, put_at, mark_at, free_at, fence_at, put_plan, mark_plan, free_plan, fence_plan, release_plan, Does}
use Rattle.chunk_store.specs.declared.index.KeptRow.{KeptRow}
use Rattle.chunk_store.specs.declared.index.KeptRow.TheVariants as kept
use Rattle.chunk_store.specs.declared.fault.ChunkFault.{ChunkFault}
use Rattle.chunk_store.specs.declared.fault.ChunkFault.TheVariants.{Fenced}
use Rattle.chunk_store.specs.declared.answer.Put.{Put}
use Rattle.chunk_store.specs.declared.answer.Put.TheVariants as put
use Rattle.blob_node.specs.Units.{Units, is_deleted}
use Rattle.blob_node.specs.Holding.{Written}
use Rattle.blob_node.specs.HeldUnit.{UnitOver, is_released, Held, doubt_by, Gives, of_put, of_change, of_unit, WorksFrom, UnitCall}
use Rattle.blob_node.specs.declared.held_unit.Doubt.TheVariants as doubts
use Rattle.blob_node.proofs.Working.{IsCalm, IsOpenPlan, call_by, state_of_kind, row_is, fence_is, Fitting, worked}

-- ---- no answer is a fault but the chunk's

pub put_calm : IsCalm of_put
put_calm put.Stored before now same = same
put_calm put.Already before now same = same
put_calm put.Deleted before now same = same

pub change_calm : IsCalm of_change
change_calm true before now same = same
change_calm false before now same = same

pub unit_calm : IsCalm of_unit
unit_calm x before now same = same

-- ---- an open chunk

put_open : (fence : Option ℕ) (row : Option KeptRow) (item : ShardRecord) → IsOpenPlan (unless_fenced fence (put_at row item))
put_open (Some lock) row item = tt
put_open None None item = tt
put_open None (Some (kept.Live place size)) item = tt
put_open None (Some kept.Marked) item = tt
put_open None (Some kept.Gone) item = tt

mark_open : (fence : Option ℕ) (row : Option KeptRow) (item : ShardRecord) → IsOpenPlan (unless_fenced fence (mark_at row item))
mark_open (Some lock) row item = tt
mark_open None None item = tt
mark_open None (Some (kept.Live place size)) item = tt
mark_open None (Some kept.Marked) item = tt
mark_open None (Some kept.Gone) item = tt

free_open : (fence : Option ℕ) (row : Option KeptRow) (item : ShardRecord) → IsOpenPlan (unless_fenced fence (free_at row item))
free_open (Some lock) row item = tt
free_open None None item = tt
free_open None (Some (kept.Live place size)) item = tt
free_open None (Some kept.Marked) item = tt
free_open None (Some kept.Gone) item = tt

fence_test : (test : Bool) (first : ℕ) → IsOpenPlan {T = Unit {0}} (if test then answer tt else refuse (Fenced first))
fence_test true first = tt
fence_test false first = tt

fence_open : (fence : Option ℕ) (lock : ℕ) (item : ShardRecord) → IsOpenPlan (fence_at fence lock item)
fence_open None lock item = tt
fence_open (Some first) lock item = fence_test (first == lock) first

opened : {T : Type 0} (shut : Bool) (plan : Plan T) → shut ≡ false → IsOpenPlan plan → IsOpenPlan (unless_shut shut plan)
opened shut plan e is = subst (λ (b : Bool). IsOpenPlan (unless_shut b plan)) (sym e) is

module _ {E : Type 0} (seen : E → FileView) (old new : ChunkOver E) (open_ : old.is_shut ≡ false) (result : Result answered.Answer NoMemory) where
  pub put_call : (bid size : ℕ) (bytes : List ℕ) (outcome : Result Put ChunkFault) → Does seen (put_plan old bid size bytes) old new outcome → Gives of_put outcome result → UnitCall (seen old.log.file) (seen new.log.file) result
  put_call bid size bytes outcome = call_by seen of_put (put_plan old bid size bytes) old new outcome result put_calm (opened old.is_shut _ open_ (put_open old.kept.fence (row_of old.kept bid) (Shard bid old.unit size bytes)))

  pub mark_call : (bid : ℕ) (outcome : Result Bool ChunkFault) → Does seen (mark_plan old bid) old new outcome → Gives of_change outcome result → UnitCall (seen old.log.file) (seen new.log.file) result
  mark_call bid outcome = call_by seen of_change (mark_plan old bid) old new outcome result change_calm (opened old.is_shut _ open_ (mark_open old.kept.fence (row_of old.kept bid) (Mark bid old.unit)))

  pub free_call : (bid : ℕ) (outcome : Result Bool ChunkFault) → Does seen (free_plan old bid) old new outcome → Gives of_change outcome result → UnitCall (seen old.log.file) (seen new.log.file) result
  free_call bid outcome = call_by seen of_change (free_plan old bid) old new outcome result change_calm (opened old.is_shut _ open_ (free_open old.kept.fence (row_of old.kept bid) (Free bid old.unit)))

  pub fence_call : (lock : ℕ) (outcome : Result (Unit {0}) ChunkFault) → Does seen (fence_plan old lock) old new outcome → Gives of_unit outcome result → UnitCall (seen old.log.file) (seen new.log.file) result
  fence_call lock outcome = call_by seen of_unit (fence_plan old lock) old new outcome result unit_calm (opened old.is_shut _ open_ (fence_open old.kept.fence lock (Fence lock old.unit)))

-- ---- what each request comes to

module _ {E : Type 0} (seen : E → FileView) (old new : UnitOver E) (open_ : old.chunk.is_shut ≡ false) (sound : IsSound (shown seen old.chunk)) (free : is_released old ≡ false) (same_was : new.was_released ≡ old.was_released) (is_file : IsFile (seen new.chunk.log.file))
    (result : Result answered.Answer NoMemory) (written : Written) (units : Units) (place : Place) (held : Held seen old written units place) (disk : ℕ) where
  fence_there : units.fence place ≡ old.chunk.kept.fence
  fence_there = fence_is seen old new written units place held open_ sound

  row_there : (bid : ℕ) → units.row place bid ≡ state_of_kind (kind_of (row_of old.chunk.kept bid))
  row_there bid = row_is seen old new written units place held open_ sound bid

  module _ (bid size : ℕ) (bytes : List ℕ) where
    abbrev FitsPut : Plan Put → Type 0
    FitsPut = Fitting seen old new written units place held open_ sound free (Shard bid old.chunk.unit size bytes) (doubts.Shard bid) refl same_was is_file (requests.Put old.chunk.unit disk bid size bytes) refl refl (λ a. tt) of_put

    put_fits : (fence : Option ℕ) (k : Option KeptRow) → units.fence place ≡ fence → units.row place bid ≡ state_of_kind (kind_of k) → FitsPut (unless_fenced fence (put_at k (Shard bid old.chunk.unit size bytes)))
    put_fits (Some lock) k f r = f
    put_fits None None f r = (refl, (f, r), (f, r), (λ end. (f, r)), r)
    put_fits None (Some (kept.Live place_ size_)) f r = (f, r)
    put_fits None (Some kept.Marked) f r = (f, ap is_deleted r)
    put_fits None (Some kept.Gone) f r = (f, ap is_deleted r)

    pub put_works : (outcome : Result Put ChunkFault) → Does seen (put_plan old.chunk bid size bytes) old.chunk new.chunk outcome → new.doubt ≡ doubt_by (doubts.Shard bid) outcome → Gives of_put outcome result → WorksFrom seen (requests.Put old.chunk.unit disk bid size bytes) written units place old new result
    put_works outcome does doubted gives =
        worked seen old new written units place held open_ sound free (Shard bid old.chunk.unit size bytes) (doubts.Shard bid) refl same_was is_file (requests.Put old.chunk.unit disk bid size bytes) refl refl (λ a. tt) of_put (put_plan old.chunk bid size bytes) outcome result
        (subst (λ (b : Bool). FitsPut (unless_shut b (unless_fenced old.chunk.kept.fence (put_at (row_of old.chunk.kept bid) (Shard bid old.chunk.unit size bytes))))) (sym open_)
        (put_fits old.chunk.kept.fence (row_of old.chunk.kept bid) fence_there (row_there bid))) does doubted gives

    abbrev FitsCopy : Plan Put → Type 0
    FitsCopy = Fitting seen old new written units place held open_ sound free (Shard bid old.chunk.unit size bytes) (doubts.Shard bid) refl same_was is_file (requests.Copy old.chunk.unit disk bid size bytes) refl refl (λ a. tt) of_put

    copy_fits : (fence : Option ℕ) (k : Option KeptRow) → units.fence place ≡ fence → units.row place bid ≡ state_of_kind (kind_of k) → FitsCopy (unless_fenced fence (put_at k (Shard bid old.chunk.unit size bytes)))
    copy_fits (Some lock) k f r = f
    copy_fits None None f r = (refl, (f, r), (f, r), (λ end. (f, r)), r)
    copy_fits None (Some (kept.Live place_ size_)) f r = (f, r)
    copy_fits None (Some kept.Marked) f r = (f, ap is_deleted r)
    copy_fits None (Some kept.Gone) f r = (f, ap is_deleted r)

    pub copy_works : (outcome : Result Put ChunkFault) → Does seen (put_plan old.chunk bid size bytes) old.chunk new.chunk outcome → new.doubt ≡ doubt_by (doubts.Shard bid) outcome → Gives of_put outcome result → WorksFrom seen (requests.Copy old.chunk.unit disk bid size bytes) written units place old new result
    copy_works outcome does doubted gives =
        worked seen old new written units place held open_ sound free (Shard bid old.chunk.unit size bytes) (doubts.Shard bid) refl same_was is_file (requests.Copy old.chunk.unit disk bid size bytes) refl refl (λ a. tt) of_put (put_plan old.chunk bid size bytes) outcome result
        (subst (λ (b : Bool). FitsCopy (unless_shut b (unless_fenced old.chunk.kept.fence (put_at (row_of old.chunk.kept bid) (Shard bid old.chunk.unit size bytes))))) (sym open_)
        (copy_fits old.chunk.kept.fence (row_of old.chunk.kept bid) fence_there (row_there bid))) does doubted gives

  module _ (bid : ℕ) where
    abbrev FitsMark : Plan Bool → Type 0
    FitsMark = Fitting seen old new written units place held open_ sound free (Mark bid old.chunk.unit) (doubts.Mark bid) refl same_was is_file (requests.Mark old.chunk.unit disk bid) refl refl (λ a. tt) of_change

    mark_fits : (fence : Option ℕ) (k : Option KeptRow) → units.fence place ≡ fence → units.row place bid ≡ state_of_kind (kind_of k) → FitsMark (unless_fenced fence (mark_at k (Mark bid old.chunk.unit)))
    mark_fits (Some lock) k f r = f
    mark_fits None None f r = let d = ap is_deleted r in (refl, (f, d), (f, d), (λ end. (f, d)), d)
    mark_fits None (Some (kept.Live place_ size_)) f r = let d = ap is_deleted r in (refl, (f, d), (f, d), (λ end. (f, d)), d)
    mark_fits None (Some kept.Marked) f r = (f, ap is_deleted r)
    mark_fits None (Some kept.Gone) f r = (f, ap is_deleted r)

    pub mark_works : (outcome : Result Bool ChunkFault) → Does seen (mark_plan old.chunk bid) old.chunk new.chunk outcome → new.doubt ≡ doubt_by (doubts.Mark bid) outcome → Gives of_change outcome result → WorksFrom seen (requests.Mark old.chunk.unit disk bid) written units place old new result
    mark_works outcome does doubted gives =
        worked seen old new written units place held open_ sound free (Mark bid old.chunk.unit) (doubts.Mark bid) refl same_was is_file (requests.Mark old.chunk.unit disk bid) refl refl (λ a. tt) of_change (mark_plan old.chunk bid) outcome result
        (subst (λ (b : Bool). FitsMark (unless_shut b (unless_fenced old.chunk.kept.fence (mark_at (row_of old.chunk.kept bid) (Mark bid old.chunk.unit))))) (sym open_)
        (mark_fits old.chunk.kept.fence (row_of old.chunk.kept bid) fence_there (row_there bid))) does doubted gives

    abbrev FitsFree : Plan Bool → Type 0
    FitsFree = Fitting seen old new written units place held open_ sound free (Free bid old.chunk.unit) (doubts.Free bid) refl same_was is_file (requests.Free old.chunk.unit disk bid) refl refl (λ a. tt) of_change

    free_fits : (fence : Option ℕ) (k : Option KeptRow) → units.fence place ≡ fence → units.row place bid ≡ state_of_kind (kind_of k) → FitsFree (unless_fenced fence (free_at k (Free bid old.chunk.unit)))
    free_fits (Some lock) k f r = f
    free_fits None None f r = (f, ap is_deleted r)
    free_fits None (Some (kept.Live place_ size_)) f r = (f, ap is_deleted r)
    free_fits None (Some kept.Marked) f r = (refl, (f, r), (f, r), (λ end. (f, r)), r)
    free_fits None (Some kept.Gone) f r = (f, r)

    pub free_works : (outcome : Result Bool ChunkFault) → Does seen (free_plan old.chunk bid) old.chunk new.chunk outcome → new.doubt ≡ doubt_by (doubts.Free bid) outcome → Gives of_change outcome result → WorksFrom seen (requests.Free old.chunk.unit disk bid) written units place old new result
    free_works outcome does doubted gives =
        worked seen old new written units place held open_ sound free (Free bid old.chunk.unit) (doubts.Free bid) refl same_was is_file (requests.Free old.chunk.unit disk bid) refl refl (λ a. tt) of_change (free_plan old.chunk bid) outcome result
        (subst (λ (b : Bool). FitsFree (unless_shut b (unless_fenced old.chunk.kept.fence (free_at (row_of old.chunk.kept bid) (Free bid old.chunk.unit))))) (sym open_)
        (free_fits old.chunk.kept.fence (row_of old.chunk.kept bid) fence_there (row_there bid))) does doubted gives

  module _ (lock : ℕ) where
    abbrev FitsFence : Plan (Unit {0}) → Type 0
    FitsFence = Fitting seen old new written units place held open_ sound free (Fence lock old.chunk.unit) (doubts.Fence lock) refl same_was is_file (requests.Fence old.chunk.unit disk lock) refl refl (λ a. tt) of_unit

    first_fits : (first : ℕ) (test : Bool) → first == lock ≡ test → units.fence place ≡ Some first → FitsFence (if test then answer tt else refuse (Fenced first))
    first_fits first true e f = f ∙ ap (λ n. Some n) (eqb-true first lock e)
    first_fits first false e f = (f, e)

    fence_fits : (fence : Option ℕ) → units.fence place ≡ fence → FitsFence (fence_at fence lock (Fence lock old.chunk.unit))
    fence_fits None f = (refl, f, f, (λ end. f), f)
    fence_fits (Some first) f = first_fits first (first == lock) refl f

    pub fence_works : (outcome : Result (Unit {0}) ChunkFault) → Does seen (fence_plan old.chunk lock) old.chunk new.chunk outcome → new.doubt ≡ doubt_by (doubts.Fence lock) outcome → Gives of_unit outcome result → WorksFrom seen (requests.Fence old.chunk.unit disk lock) written units place old new result
    fence_works outcome does doubted gives =
        worked seen old new written units place held open_ sound free (Fence lock old.chunk.unit) (doubts.Fence lock) refl same_was is_file (requests.Fence old.chunk.unit disk lock) refl refl (λ a. tt) of_unit (fence_plan old.chunk lock) outcome result
        (subst (λ (b : Bool). FitsFence (unless_shut b (fence_at old.chunk.kept.fence lock (Fence lock old.chunk.unit)))) (sym open_) (fence_fits old.chunk.kept.fence fence_there)) does doubted gives

  abbrev FitsRelease : Plan (Unit {0}) → Type 0
  FitsRelease = Fitting seen old new written units place held open_ sound free (Release old.chunk.unit) doubts.Release refl same_was is_file (requests.Release old.chunk.unit disk) refl refl (λ a. tt) of_unit

  pub release_works : (outcome : Result (Unit {0}) ChunkFault) → Does seen (release_plan old.chunk) old.chunk new.chunk outcome → new.doubt ≡ doubt_by doubts.Release outcome → Gives of_unit outcome result → WorksFrom seen (requests.Release old.chunk.unit disk) written units place old new result
  release_works outcome does doubted gives =
      worked seen old new written units place held open_ sound free (Release old.chunk.unit) doubts.Release refl same_was is_file (requests.Release old.chunk.unit disk) refl refl (λ a. tt) of_unit (release_plan old.chunk) outcome result
      (subst (λ (b : Bool). FitsRelease (unless_shut b (add (Release old.chunk.unit) tt))) (sym open_) (refl, tt, tt, (λ end. tt), sym held.released ∙ free)) does doubted gives
