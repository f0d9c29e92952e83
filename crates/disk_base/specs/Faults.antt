-- How often an object has failed, and what that count has to do with the answers of its calls.
use Rattle.std.specs.Prelude.{◌≡◌, true, ℕ, ◌+◌, ◌-◌, ◌/◌, ◌%◌, ◌^◌, ◌≤◌, min, max, Bool, nat_lt, map, if◌then◌else◌, List, length, ◌==◌, ◌&&◌, Result, OnErr}
use Rattle.std.specs.List.{list_any, filter}
use Rattle.std.proofs.lemmas.Bool.{and_parts, eqb-true}

-- a count and so many more, in 64 bits: it stops at its last number and never falls
abbrev pub added : ℕ → ℕ → ℕ
added a b = max a (min (a + b) (2 ^ 64 - 1))

-- one more
abbrev pub one_more : ℕ → ℕ
one_more n = added n 1

-- the count rose; at its last number it counts as risen
abbrev pub Rose : ℕ → ℕ → Type 0
Rose before now = one_more before ≤ now

-- the count never falls, and a call fails only where it rose in that call
pub record HasCause {T E : Type 0} (before now : ℕ) (result : Result T E) : Type 0 where
  pub never_falls : before ≤ now
  pub failed : OnErr result (Rose before now)

-- The calls on an object in memory: the numbers that it was given, up to which number they count as calls of its own,
-- how many calls were made, and how often one failed.
pub record Plan : Type 0 where
  pub fails : List ℕ
  pub reach : ℕ
  pub made : ℕ
  pub faults : ℕ

-- the plan of an object on which no call was made
abbrev pub unused : List ℕ → Plan
unused fails = record { fails = fails; reach = 2 ^ 64 - 1; made = 0; faults = 0 }

-- the same where only the numbers below 2 ^ 32 are calls of its own
abbrev pub unused_shared : List ℕ → Plan
unused_shared fails = record { fails = fails; reach = 2 ^ 32 - 1; made = 0; faults = 0 }

-- the next call is one of those that are to fail
abbrev pub fails_next : Plan → Bool
fails_next plan = nat_lt plan.made plan.reach && list_any (λ call. call == (plan.made + 1)) plan.fails

-- the numbers that belong to this part, as they count there: n is part * size and its number there
abbrev pub part_of : ℕ → ℕ → List ℕ → List ℕ
part_of size part fails = map (λ n. n % size) (filter (λ n. n / size == part) fails)

-- the plan after one more call, which failed or didn't
abbrev pub after_call : Bool → Plan → Plan
after_call failed plan = record {
  fails = plan.fails;
  reach = plan.reach;
  made = one_more plan.made;
  faults = if failed then one_more plan.faults else plan.faults;
}

-- no call is to fail, and none has failed
abbrev pub is_quiet : Plan → Bool
is_quiet plan = (length plan.fails == 0) && (plan.faults == 0)

pub quiet_is_zero : (plan : Plan) → is_quiet plan ≡ true → plan.faults ≡ 0
quiet_is_zero plan quiet = eqb-true plan.faults 0 (and_parts (length plan.fails == 0) (plan.faults == 0) quiet).1
