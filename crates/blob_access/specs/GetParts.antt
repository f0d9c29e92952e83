-- The parts of a get: what each has been asked, and what it needs.
use Rattle.std.specs.Prelude.{ℕ, ◌≡◌, ◌+◌, ◌<◌, ◌≤◌, ◌==◌, Bool, true, false, cond, List, ◌∷◌, length, reverse, replicate, None, IfSome, Result, Ok, Err}
use Rattle.unit_id.specs.declared.homes.Home.{Home}
use Rattle.rs_code.specs.Shards.{shard_at, held_count}
use Rattle.code_mode.specs.declared.mode.Mode.{Mode}
use Rattle.code_mode.specs.Mode.{data_count, total_count, shard_size}
use Rattle.volume_world.specs.declared.fault.StepFault.{StepFault}
use Rattle.volume_world.specs.declared.fault.StepFault.TheVariants as step_faults
use Rattle.volume_world.specs.Way.{WayView, longest_history}
use Rattle.volume_world.specs.Call.{Next}
use Rattle.volume_world.specs.Progress.{Proceeds}
use Rattle.blob_access.specs.declared.getting.Tried.{Tried}
use Rattle.blob_access.specs.declared.getting.Attempt.{Attempt}
use Rattle.blob_access.specs.declared.getting.Attempt.TheVariants as attempts
use Rattle.blob_access.specs.declared.getting.Wanted as asked
use Rattle.blob_access.specs.declared.fault.GetFault.{GetFault}
use Rattle.blob_access.specs.declared.fault.GetFault.TheVariants as faults
use Rattle.blob_access.specs.GetCall.{Wanted, Try, GetStage, GetNext, get_call, reading, unbroken, broken_count, is_last, decoded}

abbrev pub wanted_of : asked.Wanted → Wanted
wanted_of wanted = record { mode = wanted.mode; bid = wanted.bid; size = wanted.size }

-- a step that isn't done breaks the get off
abbrev pub get_broken_off : StepFault → GetFault
get_broken_off step_faults.HistoryFull = faults.HistoryFull
get_broken_off step_faults.Memory = faults.Memory

-- what an answer of a part makes of the get: it goes on, or is over
abbrev pub got : {T : Type 0} → Result T GetFault → (T → GetNext) → GetNext
got (Ok given) then = then given
got (Err fault) then = Next.Over (Err fault)

-- the get has come somewhere
pub record Arrives (wanted : Wanted) (old new : WayView) (from : GetNext) : Type 0 where
  pub to : GetNext
  pub proceeds : Proceeds (get_call wanted) old new from to

-- .. and there the history takes no more entries
pub record IsGetCutOff (wanted : Wanted) (old new : WayView) (from : GetNext) : Type 0 where
  pub to : GetNext
  pub proceeds : Proceeds (get_call wanted) old new from to
  pub full : longest_history ≤ length new.entries

-- a part of a get, from this point on: it goes on as its answer says, or breaks off
abbrev pub GetsOn : {T : Type 0} → Wanted → WayView → WayView → GetNext → Result T GetFault → (T → GetNext) → Type 0
GetsOn wanted old new from (Err faults.HistoryFull) then = IsGetCutOff wanted old new from
GetsOn wanted old new from (Err faults.Memory) then = Arrives wanted old new from
GetsOn wanted old new from result then = Proceeds (get_call wanted) old new from (got result then)

-- a try that saw these versions
abbrev pub try_of : List ℕ → Tried → Try
try_of versions tried = record { versions = versions; broken = tried.broken; shards = tried.shards; live = tried.live; unheard = tried.unheard }

-- enough shards are heard, or the units that are left are read
abbrev pub heard_on : Wanted → List ℕ → Tried → List Home → Bool → GetNext
heard_on wanted versions tried left true = Next.Over (Ok (decoded wanted tried.shards))
heard_on wanted versions tried left false = reading (try_of versions tried) (unbroken left)

-- a try of a volume of this mode at its begin, with these units
abbrev pub starting : Mode → List ℕ → List Home → GetNext
starting mode versions units = reading (record { versions = versions; broken = broken_count units; shards = replicate (total_count mode) None; live = 0; unheard = 0 }) (unbroken units)

-- by the version and the units that another look showed
abbrev pub seen_again : Mode → Try → ℕ → List Home → GetNext
seen_again mode t version units =
    cond (is_last t.versions version) (Next.Over (Err (faults.Short t.live t.unheard t.broken)))
    (cond (length t.versions == 4) (Next.Over (Err (faults.Moving (reverse (version ∷ t.versions))))) (starting mode (version ∷ t.versions) units))

-- what hearing a reply makes of the get, unless memory is out
abbrev pub HearsBy : Result Bool GetFault → (Bool → GetNext) → GetNext → Type 0
HearsBy (Err faults.Memory) then to = Unit {0}
HearsBy result then to = got result then ≡ to

-- the blob is got, or the volume is looked at again
abbrev pub attempted : List ℕ → Attempt → GetNext
attempted versions (attempts.Blob bytes) = Next.Over (Ok bytes)
attempted versions (attempts.Missed tried) = Next.Go (GetStage.Again (try_of versions tried))

-- What is heard of the units below this index: each shard that is held has its length, and as many are held as are counted.
pub record IsHeard (wanted : Wanted) (index : ℕ) (tried : Tried) : Type 0 where
  pub total : length tried.shards ≡ total_count wanted.mode
  pub free : (k : ℕ) → index ≤ k → shard_at tried.shards k ≡ None
  pub even : (k : ℕ) → IfSome (shard_at tried.shards k) (λ bytes. length bytes ≡ shard_size wanted.mode wanted.size)
  pub live : tried.live ≡ held_count tried.shards
  pub few : tried.live < data_count wanted.mode
  pub counted : tried.live + tried.unheard ≤ index

-- enough of them for the blob
pub record IsEnough (wanted : Wanted) (tried : Tried) : Type 0 where
  pub total : length tried.shards ≡ total_count wanted.mode
  pub even : (k : ℕ) → IfSome (shard_at tried.shards k) (λ bytes. length bytes ≡ shard_size wanted.mode wanted.size)
  pub enough : held_count tried.shards ≡ data_count wanted.mode

abbrev pub IsHeardBy : Wanted → ℕ → Tried → Bool → Type 0
IsHeardBy wanted index tried true = IsEnough wanted tried
IsHeardBy wanted index tried false = IsHeard wanted index tried
