-- The bytes that stand behind a volume's rows. They are kept beside the state, so that the moves speak of rows alone: here is what each
-- move does to them, and what holds of them after every list of moves.
use Rattle.std.specs.Prelude.{ℕ, ◌≡◌, true, cond, ◌&&◌, ◌==◌, List, [], ◌∷◌, Option, Some}
use Rattle.unit_id.specs.Lists.{IsIn}
use Rattle.unit_id.specs.Place.{Place, is_place}
use Rattle.unit_id.specs.Request.{Request, Answer}
use Rattle.code_mode.specs.declared.mode.Mode.{Mode}
use Rattle.code_mode.specs.VolumeShape.{VolumeShape}
use Rattle.code_mode.specs.PayloadShard.{PayloadShard, payload_shard}
use Rattle.blob_node.specs.Units.{UnitRecord, is_live, with_at}
use Rattle.blob_node.specs.UnitAnswer.{Effect}
use Rattle.volume_world.specs.State.{Puts, State}
use Rattle.volume_world.specs.BlobStatus.{is_begun}
use Rattle.volume_world.specs.Move.{Move, Moves}

-- a shard of a blob that goes to a unit, or comes from it
pub record Parcel : Type 0 where
  pub place : Place
  pub bid : ℕ
  pub shard : PayloadShard

-- By place, the shard in each row and in the record in doubt; the shards that puts and copies carried, and those that reads gave.
pub record Contents : Type 0 where
  pub row : Place → ℕ → PayloadShard
  pub doubt : Place → PayloadShard
  pub sent : List Parcel
  pub got : List Parcel

abbrev pub nothing : PayloadShard
nothing = record { blob_size = 0; bytes = [] }

-- a volume as made
abbrev pub no_contents : Contents
no_contents = record { row = λ place bid. nothing; doubt = λ place. nothing; sent = []; got = [] }

-- the shard that belongs to a unit: that of its index, of the payload with which the blob was begun
abbrev pub begun_shard : Mode → Puts → Place → ℕ → PayloadShard
begun_shard mode puts place bid = payload_shard mode (puts.payload bid) place.index

-- the contents with a shard in the row of one blob at one place
abbrev pub with_shard : Place → ℕ → PayloadShard → Contents → Contents
with_shard place bid shard c = record c { row = λ other blob. cond (is_place other place && (blob == bid)) shard (c.row other blob) }

-- A put or a copy that is issued carries a shard; its sender owes that it is the right one.
abbrev pub Carries : Mode → Puts → Place → ℕ → Contents → Contents → Type 0
Carries mode puts place bid c d =
    (shard : PayloadShard) × (shard ≡ begun_shard mode puts place bid) × (d ≡ record c { sent = record { place = place; bid = bid; shard = shard } ∷ c.sent })

abbrev pub Issued : Mode → Puts → Request → Contents → Contents → Type 0
Issued mode puts (Request.Put place bid) c d = Carries mode puts place bid c d
Issued mode puts (Request.Copy place bid) c d = Carries mode puts place bid c d
Issued mode puts request c d = d ≡ c

-- a shard that is written, or left in doubt, is one that was sent
abbrev pub Takes : Place → ℕ → Effect → Contents → Contents → Type 0
Takes place bid Effect.Wrote c d = (shard : PayloadShard) × IsIn (record { place = place; bid = bid; shard = shard }) c.sent × (d ≡ with_shard place bid shard c)
Takes place bid Effect.Doubted c d = (shard : PayloadShard) × IsIn (record { place = place; bid = bid; shard = shard }) c.sent × (d ≡ record c { doubt = with_at place shard c.doubt })
Takes place bid effect c d = d ≡ c

-- a read that answers live gives the shard in the row
abbrev pub Gives : Place → ℕ → Answer → Contents → Contents → Type 0
Gives place bid Answer.Live c d = d ≡ record c { got = record { place = place; bid = bid; shard = c.row place bid } ∷ c.got }
Gives place bid answer c d = d ≡ c

abbrev pub Handled : Request → Answer → Effect → Contents → Contents → Type 0
Handled (Request.Put place bid) answer effect c d = Takes place bid effect c d
Handled (Request.Copy place bid) answer effect c d = Takes place bid effect c d
Handled (Request.Read place bid) answer effect c d = Gives place bid answer c d
Handled request answer effect c d = d ≡ c

-- a shard in doubt that is found written stands in its row
abbrev pub found_shard : Place → Option UnitRecord → Contents → Contents
found_shard place (Some (UnitRecord.Shard bid)) c = with_shard place bid (c.doubt place) c
found_shard place doubt c = c

-- what a move does to the contents; the state is the one before it
abbrev pub Fills : Mode → State → Move → Contents → Contents → Type 0
Fills mode s (Move.Issue request) c d = Issued mode s.puts request c d
Fills mode s (Move.Handle request answer effect) c d = Handled request answer effect c d
Fills mode s (Move.SettleUnit place true) c d = d ≡ found_shard place (s.units.doubt place) c
Fills mode s move c d = d ≡ c

-- these moves in order lead from one state and its contents to the other
abbrev pub MovesWith : VolumeShape → Mode → State → Contents → List Move → State → Contents → Type 0
MovesWith shape mode s c [] t d = (t ≡ s) × (d ≡ c)
MovesWith shape mode s c (move ∷ moves) t d = (u : State) × (e : Contents) × Moves shape s move u × Fills mode s move c e × MovesWith shape mode u e moves t d

-- the parcel is of a begun blob, with the shard of its unit
pub record IsBegunParcel (mode : Mode) (puts : Puts) (parcel : Parcel) : Type 0 where
  pub begun : is_begun (puts.status parcel.bid) ≡ true
  pub shard : parcel.shard ≡ begun_shard mode puts parcel.place parcel.bid

-- Bytes are as begun, in every live row, in every shard in doubt, and in every parcel.
pub record AreAsBegun (mode : Mode) (s : State) (c : Contents) : Type 0 where
  pub rows : (place : Place) (bid : ℕ) → is_live (s.units.row place bid) ≡ true → c.row place bid ≡ begun_shard mode s.puts place bid
  pub doubts : (place : Place) (bid : ℕ) → s.units.doubt place ≡ Some (UnitRecord.Shard bid) → c.doubt place ≡ begun_shard mode s.puts place bid
  pub sent : (parcel : Parcel) → IsIn parcel c.sent → IsBegunParcel mode s.puts parcel
  pub got : (parcel : Parcel) → IsIn parcel c.got → IsBegunParcel mode s.puts parcel
