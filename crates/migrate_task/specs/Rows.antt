-- What is known of a blob's rows over a way: it holds in each state to which the entries of the way lead.
use Rattle.std.specs.Prelude.{ℕ, ◌≡◌, ◌<◌, true, List, length, Option, IfSome, All}
use Rattle.unit_id.specs.declared.answer.Answer.TheVariants as answers
use Rattle.rs_code.specs.Shards.{shard_at}
use Rattle.code_mode.specs.declared.mode.Mode.{Mode}
use Rattle.code_mode.specs.Stripe.{shard_of}
use Rattle.code_mode.specs.PayloadShard.{payload_shard}
use Rattle.volume_world.specs.BlobStatus.{is_begun}
use Rattle.volume_world.specs.Run.{World}
use Rattle.volume_world.specs.Told.{MayRun}
use Rattle.volume_world.specs.Way.{WayView, shape_of}
use Rattle.volume_world.specs.declared.reply.Reply.{Reply}
use Rattle.volume_world.specs.declared.reply.Reply.TheVariants as replies

-- where files tell, in each state to which the entries lead
abbrev pub InEach : WayView → (World → Type 0) → Type 0
InEach way P = way.origin.is_told ≡ true → (w : World) → MayRun way.origin.vid (shape_of way.origin) way.origin.start way.entries w → P w

-- the blob is begun, with such a payload
abbrev pub IsBegunWith : ℕ → (List ℕ → Type 0) → World → Type 0
IsBegunWith bid P w = (is_begun (w.state.puts.status bid) ≡ true) × P (w.state.puts.payload bid)

-- the row of this index, of a payload of bytes
abbrev pub IsRowOf : Mode → ℕ → ℕ → List ℕ → List ℕ → Type 0
IsRowOf mode index size bytes payload = (record { blob_size = size; bytes = bytes } ≡ payload_shard mode payload index) × All (λ b. b < 256) payload

abbrev pub IsRowRight : WayView → ℕ → ℕ → ℕ → List ℕ → Type 0
IsRowRight way bid index size bytes = InEach way (IsBegunWith bid (IsRowOf way.origin.mode index size bytes))

-- a live row that a read gives
abbrev pub IsReadRight : WayView → ℕ → ℕ → Reply → Type 0
IsReadRight way bid index (replies.Heard (answers.Live size bytes)) = IsRowRight way bid index size bytes
IsReadRight way bid index reply = Unit {0}

-- each shard that is held
abbrev pub AreShardsRight : WayView → ℕ → List (Option (List ℕ)) → Type 0
AreShardsRight way bid shards = InEach way (λ w. (k : ℕ) → IfSome (shard_at shards k) (λ bytes. IsBegunWith bid (λ payload. bytes ≡ shard_of way.origin.mode payload k) w))

-- all of them, of a payload of this size
pub record AreShardsOf (mode : Mode) (size : ℕ) (shards : List (Option (List ℕ))) (payload : List ℕ) : Type 0 where
  pub long : size ≡ length payload
  pub bytes : All (λ b. b < 256) payload
  pub own : (k : ℕ) → IfSome (shard_at shards k) (λ bytes. bytes ≡ shard_of mode payload k)

abbrev pub IsBlobRight : WayView → ℕ → ℕ → List (Option (List ℕ)) → Type 0
IsBlobRight way bid size shards = InEach way (IsBegunWith bid (AreShardsOf way.origin.mode size shards))
