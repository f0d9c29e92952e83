-- What is found where the records of a chunk are told.
use Rattle.std.proofs.Common.{◌≡◌, sym, refl, subst, ℕ, List, Option, None, Some, Result, Ok, Err, IfSome, IsSomeAnd}
use Rattle.unit_id.specs.UnitName.{Name}
use Rattle.disk_base.specs.Disk.{FileView}
use Rattle.gate_log.specs.LogFile.{bodies_of, end_place}
use Rattle.gate_log.specs.GateLog.{IsSettled, IsStarted}
use Rattle.shard_record.specs.Spelling.{Spells}
use Rattle.shard_record.specs.declared.record.ShardRecord.TheVariants.{Shard}
use Rattle.shard_record.proofs.Places.{one_to_one}
use Rattle.chunk_store.specs.Reading.{ShardAnswers, FindsShard}
use Rattle.chunk_store.specs.declared.fault.ChunkFault.{ChunkFault}
use Rattle.chunk_store.specs.declared.fault.ChunkFault.TheVariants.{Damaged, Spoiled, Memory}

pub at_some : {A : Type 0} (o : Option A) (x : A) (P : A → Type 0) → o ≡ Some x → IfSome o P → P x
at_some o x P e h = subst (λ p. IfSome p P) e h

pub some_and : {A : Type 0} (o : Option A) (x : A) (P : A → Type 0) → o ≡ Some x → P x → IsSomeAnd o P
some_and o x P e h = subst (λ p. IsSomeAnd p P) (sym e) h

-- a claim on the bodies of a log, carried to another
pub if_started : (end : Option ℕ) (content : Option (List ℕ)) (P Q : List (List ℕ) → Type 0) → ((bodies : List (List ℕ)) → P bodies → Q bodies) → IfSome end (λ _. IfSome content (λ file. P (bodies_of file))) → IfSome end (λ _. IfSome content (λ file. Q (bodies_of file)))
if_started None content P Q f h = tt
if_started (Some end) None P Q f h = tt
if_started (Some end) (Some file) P Q f h = f (bodies_of file) h

-- a claim on the bodies of a log that is started over a file that tells, at that file
pub at_started : (end : Option ℕ) (content : Option (List ℕ)) (place : ℕ) (file : List ℕ) (P : List (List ℕ) → Type 0) → end ≡ Some place → content ≡ Some file → IfSome end (λ _. IfSome content (λ bytes. P (bodies_of bytes))) → P (bodies_of file)
at_started end content place file P ends told h =
    subst (λ o. IfSome o (λ bytes. P (bodies_of bytes))) told (subst (λ o. IfSome o (λ _. IfSome content (λ bytes. P (bodies_of bytes)))) ends h)

pub when_started : (end : Option ℕ) (content : Option (List ℕ)) (P : List (List ℕ) → Type 0) → ((place : ℕ) (file : List ℕ) → end ≡ Some place → content ≡ Some file → P (bodies_of file)) → IfSome end (λ _. IfSome content (λ file. P (bodies_of file)))
when_started None content P f = tt
when_started (Some end) None P f = tt
when_started (Some end) (Some file) P f = f end file refl refl

-- where a log ends
pub ends_at : (file : FileView) (end : Option ℕ) (place : ℕ) (bytes : List ℕ) → end ≡ Some place → file.content ≡ Some bytes → IsSettled file end → place ≡ end_place (bodies_of bytes)
ends_at file end place bytes ends told settled =
    (subst (λ o. IfSome o (λ b. IsStarted file.images place (bodies_of b) b)) told
    (subst (λ o. IfSome o (λ p. IfSome file.content (λ b. IsStarted file.images p (bodies_of b) b))) ends settled)).end_is

-- bytes that spell the shard of a blob are read as it
pub finds : (unit : Name) (bid blob_size place : ℕ) (body spelled bytes : List ℕ) (result : Result (List ℕ) ChunkFault) → body ≡ spelled → Spells (Shard bid unit blob_size bytes) spelled → ShardAnswers unit bid blob_size place body result → FindsShard bytes result
finds unit bid blob_size place body spelled bytes (Ok found) same spells is =
    let one = one_to_one (Shard bid unit blob_size found) (Shard bid unit blob_size bytes) body is (subst (Spells (Shard bid unit blob_size bytes)) (sym same) spells) in
    cc
finds unit bid blob_size place body spelled bytes (Err (Damaged kept computed)) same spells is = absurd (is.1 (Shard bid unit blob_size bytes) (subst (Spells (Shard bid unit blob_size bytes)) (sym same) spells))
finds unit bid blob_size place body spelled bytes (Err (Spoiled at)) same spells is = absurd (is.2 bytes (subst (Spells (Shard bid unit blob_size bytes)) (sym same) spells))
finds unit bid blob_size place body spelled bytes (Err Memory) same spells is = tt
finds unit bid blob_size place body spelled bytes (Err _) same spells is = absurd is
