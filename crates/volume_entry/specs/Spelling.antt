-- A record of a manager's log and its one spelling in bytes. Numbers stand with their highest byte first.
use Rattle.std.specs.Prelude.{ℕ, ◌≡◌, ◌^◌, ◌<◌, List, [], ◌∷◌, ◌++◌, length}
use Rattle.std.specs.List.{flat_map}
use Rattle.std.specs.Int.{w32, w64, to_be_bytes}
use Rattle.code_mode.specs.declared.mode.Mode.{Mode}
use Rattle.code_mode.specs.declared.mode.Mode.TheVariants.{Ec3P3, Ec6P3, Ec6P6, Ec10P4, Ec12P4, Ec12P9, Ec16P4, Ec15P12}
use Rattle.shard_record.specs.Crc.{crc_of}
use Rattle.unit_id.specs.Place.{Location}
use Rattle.volume_entry.specs.Manager.{Grant, ManagerRecord}

-- the byte that stands for a mode
abbrev pub mode_number : Mode → ℕ
mode_number Ec3P3 = 1
mode_number Ec6P3 = 2
mode_number Ec6P6 = 3
mode_number Ec10P4 = 4
mode_number Ec12P4 = 5
mode_number Ec12P9 = 6
mode_number Ec16P4 = 7
mode_number Ec15P12 = 8

-- the byte that tells the kinds apart
abbrev pub kind_of : ManagerRecord → ℕ
kind_of (ManagerRecord.Made homes) = 1
kind_of (ManagerRecord.Leased end) = 2
kind_of (ManagerRecord.Locked task number grants) = 3
kind_of (ManagerRecord.Retargeted grant) = 4
kind_of ManagerRecord.Swapped = 5
kind_of ManagerRecord.Unlocked = 6
kind_of (ManagerRecord.Asked bid) = 7
kind_of (ManagerRecord.Committed bid) = 8

-- a home: epoch and disk
abbrev pub home_bytes : Location → List ℕ
home_bytes home = to_be_bytes w32 home.epoch ++ to_be_bytes w32 home.disk

-- a grant: index, disk and epoch
abbrev pub grant_bytes : Grant → List ℕ
grant_bytes grant = grant.index ∷ (to_be_bytes w32 grant.dest.disk ++ to_be_bytes w32 grant.dest.epoch)

-- What stands behind the kind in a log of this volume and mode.
unfoldable pub fields_of : ℕ → Mode → ManagerRecord → List ℕ
fields_of vid mode (ManagerRecord.Made homes) = to_be_bytes w32 vid ++ (mode_number mode ∷ (length homes ∷ flat_map home_bytes homes))
fields_of vid mode (ManagerRecord.Leased end) = to_be_bytes w64 end
fields_of vid mode (ManagerRecord.Locked task number grants) = to_be_bytes w64 task ++ (to_be_bytes w64 number ++ (length grants ∷ flat_map grant_bytes grants))
fields_of vid mode (ManagerRecord.Retargeted grant) = grant_bytes grant
fields_of vid mode ManagerRecord.Swapped = []
fields_of vid mode ManagerRecord.Unlocked = []
fields_of vid mode (ManagerRecord.Asked bid) = to_be_bytes w64 bid
fields_of vid mode (ManagerRecord.Committed bid) = to_be_bytes w64 bid

-- numbers that fit the bytes that they have
pub record HomeFits (home : Location) : Type 0 where
  pub epoch : home.epoch < 2 ^ 32
  pub disk : home.disk < 2 ^ 32

pub record GrantFits (grant : Grant) : Type 0 where
  pub index : grant.index < 2 ^ 8
  pub dest : HomeFits grant.dest

abbrev pub DoHomesFit : List Location → Type 0
DoHomesFit [] = Unit {0}
DoHomesFit (home ∷ homes) = HomeFits home × DoHomesFit homes

abbrev pub DoGrantsFit : List Grant → Type 0
DoGrantsFit [] = Unit {0}
DoGrantsFit (grant ∷ grants) = GrantFits grant × DoGrantsFit grants

abbrev pub Fits : ManagerRecord → Type 0
Fits (ManagerRecord.Made homes) = (length homes < 2 ^ 8) × DoHomesFit homes
Fits (ManagerRecord.Leased end) = end < 2 ^ 64
Fits (ManagerRecord.Locked task number grants) = (task < 2 ^ 64) × (number < 2 ^ 64) × (length grants < 2 ^ 8) × DoGrantsFit grants
Fits (ManagerRecord.Retargeted grant) = GrantFits grant
Fits ManagerRecord.Swapped = Unit {0}
Fits ManagerRecord.Unlocked = Unit {0}
Fits (ManagerRecord.Asked bid) = bid < 2 ^ 64
Fits (ManagerRecord.Committed bid) = bid < 2 ^ 64

-- all of a spelling but the sum before it
abbrev pub summed_part : ℕ → Mode → ManagerRecord → List ℕ
summed_part vid mode item = kind_of item ∷ fields_of vid mode item

-- these bytes are the spelling of the record in a log of this volume and mode
pub record Spells (vid : ℕ) (mode : Mode) (item : ManagerRecord) (bytes : List ℕ) : Type 0 where
  pub fits : Fits item
  pub spelled : bytes ≡ to_be_bytes w32 (crc_of (summed_part vid mode item)) ++ summed_part vid mode item

-- a byte string is the spelling of one record at most
abbrev pub IsOneToOne : Type 0
IsOneToOne = (vid : ℕ) (mode : Mode) (one other : ManagerRecord) (bytes : List ℕ) → Spells vid mode one bytes → Spells vid mode other bytes → one ≡ other
