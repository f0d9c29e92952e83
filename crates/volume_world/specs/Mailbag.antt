-- What memory keeps of what is planned for messages, and of those that come late.
use Rattle.std.specs.Prelude.{ℕ, ◌≡◌, ◌==◌, List, [], ◌∷◌, map, filter, Option, Some, None}
use Rattle.unit_id.specs.Messages.{request_of, answer_of}
use Rattle.blob_node.specs.declared.fate.Fate.{Fate}
use Rattle.blob_node.specs.Link.{IsDiskOf, fates_of}
use Rattle.volume_world.specs.Run.{Planned, Late}
use Rattle.volume_world.specs.declared.late.LateItem.{LateItem}
use Rattle.volume_world.specs.declared.late.LateItem.TheVariants as items

-- the fates of a disk, in order
abbrev pub fates_for : List Planned → ℕ → List Fate
fates_for planned disk = map (λ (p : Planned). p.fate) (filter (λ (p : Planned). p.disk == disk) planned)

-- the link has for each of its disks what is planned for it
abbrev pub HasPlanned : List (List Fate) → List Planned → Type 0
HasPlanned link planned = (disk : ℕ) → IsDiskOf link disk → fates_of link disk ≡ fates_for planned disk

-- what comes late, in order, and for how much more there is room
pub record KeptLate : Type 0 where
  pub items : List LateItem
  pub spare : ℕ

-- the first of these is taken, and the others are left
abbrev pub TakesFirst : List LateItem → Option LateItem → List LateItem → Type 0
TakesFirst old None new = (old ≡ []) × (new ≡ [])
TakesFirst old (Some item) new = old ≡ item ∷ new

-- a late item as the protocol knows it
abbrev pub late_told : LateItem → Late
late_told (items.Request request) = Late.LateRequest (request_of request)
late_told (items.Answer request answer) = Late.LateAnswer (request_of request) (answer_of answer)
