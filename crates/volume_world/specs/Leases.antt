-- Locks wait for leases, and acceptances are backed by answers.
-- Why every move keeps it: no lease is given under a lock, and none shortens; while a put may still end well there is no lock, so
-- no unit that took it stops being current.
use Rattle.std.specs.Prelude.{ℕ, ◌≡◌, ◌<◌, ◌≤◌, Bool, true, false, ◌==◌, List, Option, is_some}
use Rattle.unit_id.specs.Lists.{IsIn}
use Rattle.unit_id.specs.Place.{Location}
use Rattle.unit_id.specs.Request.{Request, Answer, Given, place_of}
use Rattle.volume_entry.specs.Manager.{Lock, is_current}
use Rattle.volume_world.specs.State.{Puts}
use Rattle.volume_world.specs.BlobStatus.{is_open}

-- the answer accepts a put of this blob
abbrev pub accepts_put : ℕ → Request → Answer → Bool
accepts_put bid (Request.Put place blob) Answer.Done = blob == bid
accepts_put bid (Request.Put place blob) Answer.Already = blob == bid
accepts_put bid request answer = false

-- an answer of a unit of this index accepted a put of this blob
pub record WasAccepted (pairs : List Given) (bid unit : ℕ) : Type 0 where
  pub by : Given
  pub given : IsIn by pairs
  pub accepts : accepts_put bid by.request by.answer ≡ true
  pub index : (place_of by.request).index ≡ unit

-- locks wait for leases, and acceptances are backed by answers
pub record Leases (homes : List Location) (lease_end : ℕ) (lock : Option Lock) (puts : Puts) (given : List Given) (time : ℕ) : Type 0 where
  pub seen_end : (b : ℕ) → is_open (puts.status b) ≡ true → puts.end b ≤ lease_end
  pub locked_after : is_some lock ≡ true → lease_end ≤ time
  pub taken_by_current : (b : ℕ) → is_open (puts.status b) ≡ true → time < puts.end b
      → (g : Given) → IsIn g given → accepts_put b g.request g.answer ≡ true → is_current homes (place_of g.request) ≡ true
  pub acceptance_answered : (b i : ℕ) → is_open (puts.status b) ≡ true → time < puts.end b → puts.accepted b i ≡ true → WasAccepted given b i
