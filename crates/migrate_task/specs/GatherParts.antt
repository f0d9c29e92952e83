-- The parts of a copy: what is gathered of a blob, and what is written of it.
use Rattle.std.specs.Prelude.{ℕ, ◌≡◌, ◌+◌, ◌≤◌, ◌<◌, suc, true, cond, ◌==◌, List, [], ◌∷◌, length, Option, Some, None, IfSome}
use Rattle.unit_id.specs.declared.homes.Home.{Home}
use Rattle.rs_code.specs.Shape.{Shape}
use Rattle.rs_code.specs.Shards.{shard_at, held_count}
use Rattle.rs_code.specs.ShardValue.{rebuilt}
use Rattle.code_mode.specs.declared.mode.Mode.{Mode}
use Rattle.code_mode.specs.declared.stripe.TheConstants.{BLOB_LIMIT}
use Rattle.code_mode.specs.Mode.{data_count, parity_count, total_count, shard_size}
use Rattle.volume_entry.specs.Manager.{IsBid}
use Rattle.volume_world.specs.Way.{Origin, WayView}
use Rattle.volume_world.specs.Call.{Next}
use Rattle.volume_world.specs.declared.reply.Reply.{Reply}
use Rattle.volume_world.specs.declared.reply.Reply.TheVariants as replies
use Rattle.unit_id.specs.declared.answer.Answer.TheVariants as answers
use Rattle.migrate_task.specs.declared.copying.Errand.{Errand}
use Rattle.migrate_task.specs.declared.copying.Due.{Due}
use Rattle.migrate_task.specs.declared.copying.Due.TheVariants as dues
use Rattle.migrate_task.specs.declared.usable.KnownSize.{KnownSize}
use Rattle.migrate_task.specs.declared.gathering.Gathered.{Gathered}
use Rattle.migrate_task.specs.declared.old_shard.Row.{Row}
use Rattle.migrate_task.specs.declared.old_shard.OldShard.{OldShard}
use Rattle.migrate_task.specs.declared.old_shard.OldShard.TheVariants as olds
use Rattle.migrate_task.specs.Work.{Work}
use Rattle.migrate_task.specs.Copies.{CopyStage, is_usable, knowing, nothing_gathered, reading, with_shard}
use Rattle.migrate_task.specs.AdvanceCall.{TaskStage, TaskNext, copying}
use Rattle.migrate_task.specs.TaskParts.{IsJourney}
use Rattle.migrate_task.specs.Rows.{IsRowRight, AreShardsRight, IsBlobRight}

-- as many data and parity shards as the mode has
abbrev pub coder_shape : Mode → Shape
coder_shape mode = record { data_shards = data_count mode; parity_shards = parity_count mode }

-- ---- errands

abbrev pub IsDue : Due → Type 0
IsDue dues.Mark = Unit {0}
IsDue dues.Copy = Unit {0}
IsDue dues.Left = ⊥

-- a blob that a unit of the volume is to get
pub record IsErrand (origin : Origin) (e : Errand) : Type 0 where
  pub number : IsBid e.bid
  pub due : IsDue e.due
  pub journey : IsJourney origin e.journey

abbrev pub AreErrands : Origin → List Errand → Type 0
AreErrands origin [] = Unit {0}
AreErrands origin (e ∷ es) = IsErrand origin e × AreErrands origin es

-- ---- what is gathered

-- with a blob's shards none is held yet, and so many reads had no answer
abbrev pub none_gathered : Mode → ℕ → Gathered
none_gathered mode unheard = record (nothing_gathered mode) { unheard = unheard }

-- the indexes of these units ascend from this one on, each below the limit
abbrev pub AreFrom : ℕ → ℕ → List Home → Type 0
AreFrom total next [] = Unit {0}
AreFrom total next (home ∷ homes) = (next ≤ home.unit.index) × (home.unit.index < total) × AreFrom total (suc home.unit.index) homes

-- What is heard of the units below this index: a row that can be used has the length of the shards that are held, and these are as many as
-- are counted, too few to rebuild one.
pub record IsGathered (mode : Mode) (known : Option KnownSize) (bid index : ℕ) (gathered : Gathered) : Type 0 where
  pub total : length gathered.shards ≡ total_count mode
  pub free : (k : ℕ) → index ≤ k → shard_at gathered.shards k ≡ None
  pub even : (k : ℕ) → IfSome (shard_at gathered.shards k) (λ held. (size : ℕ) (bytes : List ℕ) → is_usable mode known bid size bytes ≡ true → length held ≡ length bytes)
  pub live : gathered.live ≡ held_count gathered.shards
  pub few : gathered.live < data_count mode
  pub counted : gathered.live + gathered.unheard ≤ index + 1

-- as many as are needed, of a blob of this size
pub record IsEnough (mode : Mode) (size : ℕ) (gathered : Gathered) : Type 0 where
  pub total : length gathered.shards ≡ total_count mode
  pub even : (k : ℕ) → IfSome (shard_at gathered.shards k) (λ held. length held ≡ shard_size mode size)
  pub enough : held_count gathered.shards ≡ data_count mode
  pub some : 1 ≤ size
  pub most : size ≤ BLOB_LIMIT

-- what a live row of this size adds
pub record HasAdded (mode : Mode) (known : Option KnownSize) (bid index size : ℕ) (old new : Gathered) (bytes : List ℕ) : Type 0 where
  pub usable : is_usable mode known bid size bytes ≡ true
  pub adds : new ≡ with_shard old index bytes

-- what a reply adds, where a row of this size can be used, or none
abbrev pub Adds : Mode → Option KnownSize → ℕ → ℕ → Gathered → Gathered → Reply → Option ℕ → Type 0
Adds mode known bid index old new reply None = (new.shards ≡ old.shards) × (new.live ≡ old.live) × (new.unheard ≤ old.unheard + 1)
Adds mode known bid index old new reply (Some size) = (bytes : List ℕ) × (reply ≡ replies.Heard (answers.Live size bytes)) × HasAdded mode known bid index size old new bytes

-- .. over a way
abbrev pub AddsRight : WayView → Mode → Option KnownSize → ℕ → ℕ → Gathered → Gathered → Option ℕ → Type 0
AddsRight way mode known bid index old new None = (new.shards ≡ old.shards) × (new.live ≡ old.live) × (new.unheard ≤ old.unheard + 1)
AddsRight way mode known bid index old new (Some size) = (bytes : List ℕ) × IsRowRight way bid index size bytes × HasAdded mode known bid index size old new bytes

-- ---- what is next

-- the size that is known once a row was heard
abbrev pub known_after : ℕ → Option ℕ → Option KnownSize → Option KnownSize
known_after bid None known = known
known_after bid (Some size) known = knowing bid size

-- the size of a blob of which enough shards are held
abbrev pub enough_by : Mode → ℕ → Option ℕ → Option ℕ
enough_by mode live None = None
enough_by mode live (Some size) = cond (live == data_count mode) (Some size) None

-- the lacking shard is written
abbrev pub rebuilding : Work → Errand → List Errand → Gathered → ℕ → TaskNext
rebuilding work e left gathered size =
    Next.Go (TaskStage.Copying work (CopyStage.Writing (knowing e.bid size) e left size (rebuilt (data_count work.mode) gathered.shards e.journey.index)))

abbrev pub visited : Work → Option KnownSize → Errand → List Errand → Gathered → List Home → Option ℕ → TaskNext
visited work known e left gathered homes None = copying work (reading known e left gathered homes)
visited work known e left gathered homes (Some size) = rebuilding work e left gathered size

abbrev pub writing : Work → Errand → List Errand → Row → TaskNext
writing work e left row = Next.Go (TaskStage.Copying work (CopyStage.Writing (knowing e.bid row.size) e left row.size row.bytes))

-- what stands behind a visit
abbrev pub IsVisited : Mode → Option KnownSize → ℕ → ℕ → Gathered → Option ℕ → Type 0
IsVisited mode known bid index gathered None = IsGathered mode known bid index gathered
IsVisited mode known bid index gathered (Some size) = IsEnough mode size gathered

-- ---- what is written

-- a shard of the length and, where files tell, the bytes that belong to this index
pub record IsRowFor (way : WayView) (mode : Mode) (bid index : ℕ) (row : Row) : Type 0 where
  pub some : 1 ≤ row.size
  pub most : row.size ≤ BLOB_LIMIT
  pub long : length row.bytes ≡ shard_size mode row.size
  pub right : IsRowRight way bid index row.size row.bytes

-- the old unit's row can be used, and is the one that was heard
abbrev pub IsOldRow : Mode → Option KnownSize → ℕ → Reply → OldShard → Type 0
IsOldRow mode known bid reply (olds.Usable row) = (reply ≡ replies.Heard (answers.Live row.size row.bytes)) × (is_usable mode known bid row.size row.bytes ≡ true)
IsOldRow mode known bid reply olds.Useless = Unit {0}
IsOldRow mode known bid reply olds.Unheard = Unit {0}

-- .. over a way
abbrev pub IsOldRight : WayView → Mode → ℕ → ℕ → OldShard → Type 0
IsOldRight way mode bid index (olds.Usable row) = IsRowFor way mode bid index row
IsOldRight way mode bid index olds.Useless = Unit {0}
IsOldRight way mode bid index olds.Unheard = Unit {0}

-- what is right behind a visit
abbrev pub IsRightBy : WayView → ℕ → List (Option (List ℕ)) → Option ℕ → Type 0
IsRightBy way bid shards None = AreShardsRight way bid shards
IsRightBy way bid shards (Some size) = IsBlobRight way bid size shards
