-- How a put begins, by a look at its volume.
use Rattle.std.specs.Prelude.{ℕ, ◌≡◌, Bool, true, false, List, Option, Some, None, Result, Ok, Err}
use Rattle.disk_base.specs.declared.fault.NoMemory.{NoMemory}
use Rattle.volume_entry.specs.declared.view.LockView.{LockView}
use Rattle.volume_entry.specs.declared.view.View.{View}
use Rattle.volume_world.specs.State.{Puts}
use Rattle.volume_world.specs.BlobStatus.{is_begun}
use Rattle.volume_world.specs.Move.{opened}
use Rattle.volume_world.specs.PutBook.{KeptPuts, Books}
use Rattle.volume_world.specs.declared.reply.Reply.{Reply}
use Rattle.volume_world.specs.declared.reply.Reply.TheVariants as replies

-- the lock is held by this task
abbrev pub IsHeldBy : ℕ → Option LockView → Type 0
IsHeldBy task None = ⊥
IsHeldBy task (Some lock) = task ≡ lock.task

-- memory knows whether a put of the blob was begun
abbrev pub KnowsBegun : ℕ → KeptPuts → Bool → Type 0
KnowsBegun bid kept begun = (total : ℕ) (puts : Puts) → Books total kept.puts puts → is_begun (puts.status bid) ≡ begun

-- the put of a blob is open under the lease that the view shows
pub record IsBegunBy (bid : ℕ) (view : View) (end : ℕ) (old new : KeptPuts) : Type 0 where
  pub free : view.held ≡ None
  pub fresh : KnowsBegun bid old false
  pub lease : end ≡ view.lease
  pub books : (total : ℕ) (puts : Puts) (payload : List ℕ) → Books total old.puts puts → Books total new.puts (opened bid payload end puts)

-- A refusal changes nothing, nor does want of memory.
abbrev pub BeginsBy : ℕ → View → KeptPuts → KeptPuts → Result Reply NoMemory → Type 0
BeginsBy bid view old new (Ok (replies.Locked task)) = IsHeldBy task view.held × (new ≡ old)
BeginsBy bid view old new (Ok replies.BeginTwice) = (view.held ≡ None) × KnowsBegun bid old true × (new ≡ old)
BeginsBy bid view old new (Ok (replies.Begun end units)) = IsBegunBy bid view end old new × (units ≡ view.units)
BeginsBy bid view old new (Ok reply) = ⊥
BeginsBy bid view old new (Err _) = new.puts ≡ old.puts
