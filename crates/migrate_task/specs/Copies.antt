-- How the destinations of a task get the blobs that they lack: marks, and shards that are read from the old unit or rebuilt from others.
use Rattle.std.specs.Prelude.{ℕ, ◌+◌, Bool, true, cond, not, ◌&&◌, ◌||◌, ◌==◌, nat_le, List, [], ◌∷◌, length, filter, replicate, set, Option, Some, None}
use Rattle.unit_id.specs.declared.homes.Home.{Home}
use Rattle.unit_id.specs.declared.request.Request.{Request}
use Rattle.unit_id.specs.declared.request.Request.TheVariants as requests
use Rattle.unit_id.specs.declared.answer.Answer.TheVariants as answers
use Rattle.rs_code.specs.ShardValue.{rebuilt}
use Rattle.code_mode.specs.declared.mode.Mode.{Mode}
use Rattle.code_mode.specs.declared.stripe.TheConstants.{BLOB_LIMIT}
use Rattle.code_mode.specs.Mode.{data_count, total_count, shard_size}
use Rattle.volume_world.specs.declared.reply.Reply.{Reply}
use Rattle.volume_world.specs.declared.reply.Reply.TheVariants as replies
use Rattle.migrate_task.specs.declared.stage.Why.{Why}
use Rattle.migrate_task.specs.declared.stage.Why.TheVariants as why
use Rattle.migrate_task.specs.declared.copying.Errand.{Errand}
use Rattle.migrate_task.specs.declared.usable.KnownSize.{KnownSize}
use Rattle.migrate_task.specs.declared.gathering.Gathered.{Gathered}
use Rattle.migrate_task.specs.declared.copying.Due.{Due}
use Rattle.migrate_task.specs.declared.copying.Due.TheVariants as dues
use Rattle.migrate_task.specs.Work.{Work, unbroken}

-- Each has the size that is known of a blob, the errand, and those behind it. A read of another unit has those behind it; a write has the size
-- and the bytes.
pub data CopyStage : Type 0 where
  Marking : Option KnownSize → Errand → List Errand → CopyStage
  ReadingOld : Option KnownSize → Errand → List Errand → CopyStage
  ReadingOther : Option KnownSize → Errand → List Errand → Gathered → Home → List Home → CopyStage
  Writing : Option KnownSize → Errand → List Errand → ℕ → List ℕ → CopyStage

pub data CopyNext : Type 0 where
  Asks : CopyStage → CopyNext
  AllDone : CopyNext
  Waits : Why → CopyNext
  Never : CopyNext

abbrev pub copy_asks : CopyStage → Request
copy_asks (CopyStage.Marking known e left) = requests.Mark e.journey.dest.unit e.journey.dest.disk e.bid
copy_asks (CopyStage.ReadingOld known e left) = requests.Read e.journey.old.unit e.journey.old.disk e.bid
copy_asks (CopyStage.ReadingOther known e left gathered home homes) = requests.Read home.unit home.disk e.bid
copy_asks (CopyStage.Writing known e left size bytes) = requests.Copy e.journey.dest.unit e.journey.dest.disk e.bid size bytes

-- the size is that of the first live row of this blob
abbrev pub agrees : Option KnownSize → ℕ → ℕ → Bool
agrees None bid size = true
agrees (Some known) bid size = not (known.bid == bid) || (known.size == size)

-- a live row that has the length of a shard of a blob of its size
abbrev pub is_usable : Mode → Option KnownSize → ℕ → ℕ → List ℕ → Bool
is_usable mode known bid size bytes =
    (nat_le 1 size && nat_le size BLOB_LIMIT) && ((length bytes == shard_size mode size) && agrees known bid size)

abbrev pub knowing : ℕ → ℕ → Option KnownSize
knowing bid size = Some (record { bid = bid; size = size })

abbrev pub nothing_gathered : Mode → Gathered
nothing_gathered mode = record { shards = replicate (total_count mode) None; live = 0; unheard = 0 }

abbrev pub one_unheard : Gathered → Gathered
one_unheard gathered = record gathered { unheard = gathered.unheard + 1 }

-- the current units on unbroken disks but the one of this index
abbrev pub others_than : ℕ → List Home → List Home
others_than index homes = filter (λ (home : Home). not (home.unit.index == index)) (unbroken homes)

-- the next of these units is read; where there is none, the shards are too few
abbrev pub reading : Option KnownSize → Errand → List Errand → Gathered → List Home → CopyNext
reading known e left gathered [] = CopyNext.Waits (why.ShortShards e.bid gathered.live gathered.unheard)
reading known e left gathered (home ∷ homes) = CopyNext.Asks (CopyStage.ReadingOther known e left gathered home homes)

-- a copy begins at the old unit, unless its disk counts as broken
abbrev pub copy_begins : Work → Option KnownSize → Errand → List Errand → CopyNext
copy_begins work known e left =
    cond e.journey.old.broken (reading known e left (nothing_gathered work.mode) (others_than e.journey.index work.homes)) (CopyNext.Asks (CopyStage.ReadingOld known e left))

abbrev pub errand_begins : Work → Option KnownSize → Errand → List Errand → Due → CopyNext
errand_begins work known e left dues.Mark = CopyNext.Asks (CopyStage.Marking known e left)
errand_begins work known e left dues.Copy = copy_begins work known e left
errand_begins work known e left dues.Left = CopyNext.Never

unfoldable pub next_errand : Work → Option KnownSize → List Errand → CopyNext
next_errand work known [] = CopyNext.AllDone
next_errand work known (e ∷ left) = errand_begins work known e left e.due

-- an answer of a destination that is of no use, or none
abbrev pub no_use : ℕ → Reply → CopyNext
no_use disk (replies.Heard answers.Broken) = CopyNext.Waits why.DestBroken
no_use disk (replies.Heard answer) = CopyNext.Waits (why.Sick disk)
no_use disk replies.Unheard = CopyNext.Waits (why.Unheard disk)
no_use disk replies.Barred = CopyNext.Waits (why.Sick disk)
no_use disk reply = CopyNext.Never

abbrev pub after_mark : Work → Option KnownSize → Errand → List Errand → Reply → CopyNext
after_mark work known e left (replies.Heard answers.Done) = next_errand work known left
after_mark work known e left (replies.Heard answers.Already) = next_errand work known left
after_mark work known e left reply = no_use e.journey.dest.disk reply

-- the old unit's shard is taken as it is; where there is none of use, the others are read
abbrev pub after_old : Work → Option KnownSize → Errand → List Errand → Reply → CopyNext
after_old work known e left (replies.Heard (answers.Live size bytes)) =
    cond (is_usable work.mode known e.bid size bytes) (CopyNext.Asks (CopyStage.Writing (knowing e.bid size) e left size bytes))
    (reading known e left (nothing_gathered work.mode) (others_than e.journey.index work.homes))
after_old work known e left (replies.Heard answer) = reading known e left (nothing_gathered work.mode) (others_than e.journey.index work.homes)
after_old work known e left replies.Unheard = reading known e left (one_unheard (nothing_gathered work.mode)) (others_than e.journey.index work.homes)
after_old work known e left replies.Barred = reading known e left (nothing_gathered work.mode) (others_than e.journey.index work.homes)
after_old work known e left reply = CopyNext.Never

-- one shard more: with as many as there are data shards the lacking one is rebuilt
abbrev pub gathering : Work → Errand → List Errand → Gathered → List Home → ℕ → CopyNext
gathering work e left gathered homes size =
    cond (gathered.live == data_count work.mode)
    (CopyNext.Asks (CopyStage.Writing (knowing e.bid size) e left size (rebuilt (data_count work.mode) gathered.shards e.journey.index)))
    (reading (knowing e.bid size) e left gathered homes)

abbrev pub with_shard : Gathered → ℕ → List ℕ → Gathered
with_shard gathered index bytes = record gathered { shards = set gathered.shards index (Some bytes); live = gathered.live + 1 }

abbrev pub after_other : Work → Option KnownSize → Errand → List Errand → Gathered → Home → List Home → Reply → CopyNext
after_other work known e left gathered home homes (replies.Heard (answers.Live size bytes)) =
    cond (is_usable work.mode known e.bid size bytes) (gathering work e left (with_shard gathered home.unit.index bytes) homes size) (reading known e left gathered homes)
after_other work known e left gathered home homes (replies.Heard answer) = reading known e left gathered homes
after_other work known e left gathered home homes replies.Unheard = reading known e left (one_unheard gathered) homes
after_other work known e left gathered home homes replies.Barred = reading known e left gathered homes
after_other work known e left gathered home homes reply = CopyNext.Never

abbrev pub after_write : Work → Option KnownSize → Errand → List Errand → Reply → CopyNext
after_write work known e left (replies.Heard answers.Done) = next_errand work known left
after_write work known e left (replies.Heard answers.Already) = next_errand work known left
after_write work known e left (replies.Heard answers.Deleted) = next_errand work known left
after_write work known e left reply = no_use e.journey.dest.disk reply

abbrev pub copy_after : Work → CopyStage → Reply → CopyNext
copy_after work (CopyStage.Marking known e left) reply = after_mark work known e left reply
copy_after work (CopyStage.ReadingOld known e left) reply = after_old work known e left reply
copy_after work (CopyStage.ReadingOther known e left gathered home homes) reply = after_other work known e left gathered home homes reply
copy_after work (CopyStage.Writing known e left size bytes) reply = after_write work known e left reply
