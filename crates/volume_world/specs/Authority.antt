-- Every request, every record in doubt and every release was licensed, and still is.
-- Why every move keeps it: a request is issued only where its license holds, and begun, asked, committed, epochs and lock numbers never
-- go back; while the manager's log is shut no other of its steps comes, so what its step found out still holds when the record is found.
use Rattle.std.specs.Prelude.{ℕ, ◌≡◌, ◌+◌, ◌<◌, ◌≤◌, ◌⊎◌, Bool, true, false, List, [], ◌∷◌, Option, Some, None, is_some}
use Rattle.unit_id.specs.Lists.{IsIn, is_in}
use Rattle.unit_id.specs.Place.{Location, Place, at_home}
use Rattle.code_mode.specs.VolumeShape.{VolumeShape, lease_length, last_time}
use Rattle.unit_id.specs.Request.{Request, Answer, Given}
use Rattle.blob_node.specs.Units.{UnitRecord, Units}
use Rattle.volume_entry.specs.Manager.{Transfer, Lock, HeardMark, Heard, Grant, ManagerRecord, home_at, current, transfers_of, is_swapped, has_number, is_destination_there, IsBid, IsLegalLock, IsLegalRetarget, raised, redirected_lock, transfers_to}
use Rattle.volume_world.specs.State.{Status, Post}
use Rattle.volume_world.specs.BlobStatus.{is_begun}
use Rattle.volume_world.specs.Placement.{Placement}

-- what licensed a request when it was issued still does
abbrev pub IsLicensed : ℕ → List Location → Option Lock → ℕ → List ℕ → List ℕ → (ℕ → Status) → (ℕ → Bool) → (Place → Bool) → Request → Type 0
IsLicensed total homes lock granted asked committed status broken is_made (Request.Create p) =
    (broken p.disk ≡ true) ⊎ ((is_made p ≡ true) ⊎ ((p.index < total) × (p ≡ current homes p.index) ⊎ (is_destination_there (transfers_of lock) p ≡ true)))
IsLicensed total homes lock granted asked committed status broken is_made (Request.Fence p number) = Unit {0}
IsLicensed total homes lock granted asked committed status broken is_made (Request.Put p b) = (is_begun (status b) ≡ true) × (p.epoch ≤ (home_at homes p.index).epoch)
IsLicensed total homes lock granted asked committed status broken is_made (Request.Read p b) = Unit {0}
IsLicensed total homes lock granted asked committed status broken is_made (Request.List p number) = number ≤ granted
IsLicensed total homes lock granted asked committed status broken is_made (Request.Copy p b) = is_begun (status b) ≡ true
IsLicensed total homes lock granted asked committed status broken is_made (Request.Mark p b) = is_in b asked ≡ true
IsLicensed total homes lock granted asked committed status broken is_made (Request.Free p b) = is_in b committed ≡ true
IsLicensed total homes lock granted asked committed status broken is_made (Request.Release p) = p.epoch < (home_at homes p.index).epoch

-- a request for this record of a unit was issued
abbrev pub WasIssued : List Request → Place → UnitRecord → Type 0
WasIssued issued p (UnitRecord.Shard b) = IsIn (Request.Put p b) issued ⊎ IsIn (Request.Copy p b) issued
WasIssued issued p (UnitRecord.Mark b) = IsIn (Request.Mark p b) issued
WasIssued issued p (UnitRecord.Free b) = IsIn (Request.Free p b) issued
WasIssued issued p (UnitRecord.Fence number) = IsIn (Request.Fence p number) issued
WasIssued issued p UnitRecord.Release = IsIn (Request.Release p) issued

-- the answers that are heard as a mark, as a fence and as a release
abbrev pub gives_mark : Answer → Bool
gives_mark Answer.Done = true
gives_mark Answer.Already = true
gives_mark answer = false

abbrev pub gives_release : Answer → Bool
gives_release Answer.Done = true
gives_release (Answer.Stale have) = true
gives_release answer = false

pub record WasMarked (pairs : List Given) (mark : HeardMark) : Type 0 where
  pub place : Place
  pub answer : Answer
  pub index : place.index ≡ mark.index
  pub epoch : place.epoch ≡ mark.epoch
  pub marks : gives_mark answer ≡ true
  pub given : IsIn (record { request = Request.Mark place mark.bid; answer = answer }) pairs

pub record WasFenced (lock : Option Lock) (pairs : List Given) (t : Transfer) : Type 0 where
  pub place : Place
  pub number : ℕ
  pub index : place.index ≡ t.index
  pub epoch : place.epoch ≡ t.old.epoch
  pub under : has_number lock number ≡ true
  pub given : IsIn (record { request = Request.Fence place number; answer = Answer.Done }) pairs

pub record WasReleased (pairs : List Given) (t : Transfer) : Type 0 where
  pub answer : Answer
  pub releases : gives_release answer ≡ true
  pub given : IsIn (record { request = Request.Release (at_home t.index t.old); answer = answer }) pairs

-- placement of the state in which a lock's record is found written
abbrev pub PlacementWith : ℕ → List Location → List ℕ → Option Lock → (ℕ → Bool) → (Place → Bool) → List Grant → Type 0
PlacementWith total homes greatest lock broken is_made grants = Placement total homes (raised 0 grants greatest) lock broken is_made

-- What is known of the manager's record in doubt: it is legal, and what the step's tests said of clock, disks and units still holds.
abbrev pub IsDoubtSound : VolumeShape → List Location → List ℕ → ℕ → ℕ → Option Lock → List ℕ → List ℕ → ℕ → (ℕ → Bool) → (Place → Bool) → (Place → Option ℕ) → (Place → Bool) → Option ManagerRecord → Type 0
IsDoubtSound shape homes greatest lease_end granted lock asked committed time broken is_made fence is_released None = Unit {0}
IsDoubtSound shape homes greatest lease_end granted lock asked committed time broken is_made fence is_released (Some (ManagerRecord.Made first)) = ⊥
IsDoubtSound shape homes greatest lease_end granted lock asked committed time broken is_made fence is_released (Some (ManagerRecord.Leased end)) = (lock ≡ None) × (end ≤ last_time + lease_length) × (lease_end ≤ end)
IsDoubtSound shape homes greatest lease_end granted lock asked committed time broken is_made fence is_released (Some (ManagerRecord.Locked task number grants)) =
    IsLegalLock shape homes greatest lease_end granted lock number grants × (lease_end ≤ time)
    × PlacementWith shape.total homes greatest (Some (record { task = task; number = number; transfers = transfers_to grants homes; is_swapped = false })) broken is_made grants
IsDoubtSound shape homes greatest lease_end granted lock asked committed time broken is_made fence is_released (Some (ManagerRecord.Retargeted grant)) =
    IsLegalRetarget shape homes greatest lock grant
    × ((t : Transfer) → IsIn t (transfers_of lock) → t.index ≡ grant.index → broken t.dest.disk ≡ true)
    × PlacementWith shape.total homes greatest (redirected_lock grant lock) broken is_made (grant ∷ [])
IsDoubtSound shape homes greatest lease_end granted lock asked committed time broken is_made fence is_released (Some ManagerRecord.Swapped) =
    (is_some lock ≡ true) × (is_swapped lock ≡ false)
    × ((t : Transfer) → IsIn t (transfers_of lock) → (broken t.old.disk ≡ true) ⊎ (is_some (fence (at_home t.index t.old)) ≡ true))
IsDoubtSound shape homes greatest lease_end granted lock asked committed time broken is_made fence is_released (Some ManagerRecord.Unlocked) =
    (is_swapped lock ≡ true)
    × ((t : Transfer) → IsIn t (transfers_of lock) → (broken t.old.disk ≡ true) ⊎ (is_released (at_home t.index t.old) ≡ true))
IsDoubtSound shape homes greatest lease_end granted lock asked committed time broken is_made fence is_released (Some (ManagerRecord.Asked b)) = IsBid b × (is_in b asked ≡ false)
IsDoubtSound shape homes greatest lease_end granted lock asked committed time broken is_made fence is_released (Some (ManagerRecord.Committed b)) =
    IsBid b × (is_in b asked ≡ true) × (is_in b committed ≡ false) × (lock ≡ None)

-- what was committed was asked, and each request issued is licensed
pub record RequestsLicensed (total : ℕ) (homes : List Location) (lock : Option Lock) (granted : ℕ) (asked committed : List ℕ) (status : ℕ → Status) (broken : ℕ → Bool) (is_made : Place → Bool) (requests : List Request) : Type 0 where
  pub committed_asked : (b : ℕ) → is_in b committed ≡ true → is_in b asked ≡ true
  pub issued : (r : Request) → IsIn r requests → IsLicensed total homes lock granted asked committed status broken is_made r

-- released units, and those whose release is in doubt, are below the current ones; a unit's record in doubt is an issued request's
pub record ReleasesLicensed (homes : List Location) (is_released : Place → Bool) (doubt : Place → Option UnitRecord) (issued : List Request) : Type 0 where
  pub released_below : (p : Place) → is_released p ≡ true → p.epoch < (home_at homes p.index).epoch
  pub doubtful_release_below : (p : Place) → doubt p ≡ Some UnitRecord.Release → p.epoch < (home_at homes p.index).epoch
  pub unit_doubt_issued : (p : Place) (item : UnitRecord) → doubt p ≡ Some item → WasIssued issued p item

-- what was heard was given
pub record HeardGiven (lock : Option Lock) (heard : Heard) (marks : List HeardMark) (pairs : List Given) : Type 0 where
  pub mark_given : (k : HeardMark) → IsIn k marks → WasMarked pairs k
  pub fenced_given : (t : Transfer) → IsIn t (transfers_of lock) → is_in t.index heard.fenced ≡ true → WasFenced lock pairs t
  pub released_given : (t : Transfer) → IsIn t (transfers_of lock) → is_in t.index heard.released ≡ true → WasReleased pairs t

-- every request, doubt and release was licensed
pub record Authority (shape : VolumeShape) (homes : List Location) (greatest : List ℕ) (lease_end granted : ℕ) (lock : Option Lock) (heard : Heard) (asked committed : List ℕ) (marks : List HeardMark) (doubt : Option ManagerRecord)
    (status : ℕ → Status) (units : Units) (post : Post) (time : ℕ) (broken : ℕ → Bool) : Type 0 where
  pub requests : RequestsLicensed shape.total homes lock granted asked committed status broken units.is_made post.issued
  pub releases : ReleasesLicensed homes units.is_released units.doubt post.issued
  pub hearing : HeardGiven lock heard marks post.given
  pub doubt_sound : IsDoubtSound shape homes greatest lease_end granted lock asked committed time broken units.is_made units.fence units.is_released doubt
