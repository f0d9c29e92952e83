-- What is known of a source and a sink, and what their calls do.
use Rattle.std.specs.Prelude.{◌≡◌, ◌++◌, ℕ, Bool, true, ◌≤◌, List, [], length, take, drop, Option, Some, is_some, Result, IfOk, OnOk, OnErr, IfSome}
use Rattle.disk_base.specs.Faults.{Plan, HasCause}

-- Of a source: the bytes that are left to read, where it tells them; how often a pull has failed; and whether it says that none ever fails.
pub record SourceView : Type 0 where
  pub left : Option (List ℕ)
  pub faults : ℕ
  pub is_quiet : Bool

-- Of a sink: the bytes that were pushed so far, where it tells them; how often a push or a finish has failed; and whether all that was
-- pushed is handed on. A push may leave bytes waiting, and a finish that answers Ok leaves none.
pub record SinkView : Type 0 where
  pub held : Option (List ℕ)
  pub faults : ℕ
  pub is_handed_on : Bool

-- n bytes came: they are the next ones and are left no longer, and none come only where none are left
pub record Comes (n : ℕ) (out old : List ℕ) (new : Option (List ℕ)) : Type 0 where
  pub within : n ≤ length old
  pub bytes : take n out ≡ take n old
  pub rest : new ≡ Some (drop n old)
  pub end : n ≡ 0 → old ≡ []

-- A pull, by its answer: the next bytes came, or it failed and all is left. What the source tells and promises stays.
pub record Pulls {E : Type 0} (out : List ℕ) (old new : SourceView) (result : Result ℕ E) : Type 0 where
  pub moved : IfOk result (λ n. IfSome old.left (λ bytes. Comes n out bytes new.left))
  pub err : OnErr result (new.left ≡ old.left)
  pub tells : is_some new.left ≡ is_some old.left
  pub quiet : new.is_quiet ≡ old.is_quiet
  pub cause : HasCause old.faults new.faults result

-- A push, by its answer: bytes from the front were taken, or it failed and the sink has what it had.
pub record Pushes {E : Type 0} (bytes : List ℕ) (old new : SinkView) (result : Result ℕ E) : Type 0 where
  pub pushed : IfOk result (λ n. IfSome old.held (λ before. new.held ≡ Some (before ++ take n bytes)))
  pub err : OnErr result (new.held ≡ old.held)
  pub tells : is_some new.held ≡ is_some old.held
  pub cause : HasCause old.faults new.faults result

-- A finish: what was pushed stands, and it is handed on unless the call failed.
pub record Finishes {T E : Type 0} (old new : SinkView) (result : Result T E) : Type 0 where
  pub held : new.held ≡ old.held
  pub handed_on : OnOk result (new.is_handed_on ≡ true)
  pub cause : HasCause old.faults new.faults result

-- a source in memory: the plan of its calls, and the bytes that weren't pulled yet
pub record SourceState : Type 0 where
  pub plan : Plan
  pub left : List ℕ

-- a sink in memory: the plan of its calls, how many bytes it has room for in all, the bytes that were pushed, and
-- whether no push came since it was made or last finished
pub record SinkState : Type 0 where
  pub plan : Plan
  pub room : ℕ
  pub held : List ℕ
  pub is_handed_on : Bool
