-- A blob that is begun stays so, and keeps the bytes with which it was begun.
use Rattle.std.proofs.Common.{◌≡◌, ℕ, ◌⊎◌, Bool, true, false, inl, inr, List, [], ◌∷◌, refl, sym, ◌∙◌, ap, subst, cond}
use Rattle.std.specs.Prelude.{◌==◌, is_some}
use Rattle.std.proofs.lemmas.Bool.{eqb-true}
use Rattle.unit_id.specs.Request.{Request, Answer}
use Rattle.unit_id.proofs.Bools.{contrary}
use Rattle.unit_id.proofs.Tables.{first_fails}
use Rattle.code_mode.specs.VolumeShape.{VolumeShape}
use Rattle.volume_entry.specs.Reply.{Reply}
use Rattle.volume_entry.specs.ManagerStep.{task_of}
use Rattle.volume_world.specs.Event.{Event}
use Rattle.volume_world.specs.State.{Status, Puts, State}
use Rattle.volume_world.specs.BlobStatus.{is_begun, is_open, is_acked}
use Rattle.volume_world.specs.Move.{Move, Moves, Begins, Ends, Happens, Ticks, Breaks, Restarts, RestartsManager, opened, ended, puts_hear, Looks, SettlesManager, SettlesUnit}
use Rattle.unit_id.specs.Place.{Place}

-- the blob is begun, with the bytes that it had
pub record IsStillBegun (old new : Puts) (bid : ℕ) : Type 0 where
  pub begun : is_begun (new.status bid) ≡ true
  pub payload : new.payload bid ≡ old.payload bid

abbrev pub PutsStay : Puts → Puts → Type 0
PutsStay old new = (bid : ℕ) → is_begun (old.status bid) ≡ true → IsStillBegun old new bid

pub same_puts : (s t : State) → t.puts ≡ s.puts → PutsStay s.puts t.puts
same_puts s t e = subst (PutsStay s.puts) (sym e) (λ b h. record { begun = h; payload = refl })

opened_stay : (puts : Puts) (bid : ℕ) (payload : List ℕ) (end : ℕ) → is_begun (puts.status bid) ≡ false → PutsStay puts (opened bid payload end puts)
opened_stay puts bid payload end fresh b h = record { begun = begun (b == bid); payload = same (b == bid) refl } where
  begun : (test : Bool) → is_begun (cond test Status.Open (puts.status b)) ≡ true
  begun true = refl
  begun false = h

  same : (test : Bool) → b == bid ≡ test → cond test payload (puts.payload b) ≡ puts.payload b
  same true e = absurd (contrary (is_begun (puts.status b)) h (ap (λ c. is_begun (puts.status c)) (eqb-true b bid e) ∙ fresh))
  same false e = refl

ended_stay : (puts : Puts) (bid : ℕ) (status : Status) → is_begun status ≡ true → PutsStay puts (ended bid status puts)
ended_stay puts bid status over b h = record { begun = begun (b == bid); payload = refl } where
  begun : (test : Bool) → is_begun (cond test status (puts.status b)) ≡ true
  begun true = over
  begun false = h

-- how a move leaves the puts: as they were, with what was heard, with one more open, or with one ended
pub record IsOpened (s t : State) : Type 0 where
  pub bid : ℕ
  pub payload : List ℕ
  pub fresh : is_begun (s.puts.status bid) ≡ false
  pub puts : t.puts ≡ opened bid payload s.manager.lease_end s.puts

pub record IsEnded (s : State) (move : Move) (t : State) : Type 0 where
  pub bid : ℕ
  pub status : Status
  pub was_open : is_open (s.puts.status bid) ≡ true
  pub over : is_begun status ≡ true
  pub acks : is_acked status ≡ true → (accepted : ℕ) × (move ≡ Move.Happen (Event.End bid) (Reply.Acked accepted))
  pub puts : t.puts ≡ ended bid status s.puts

abbrev pub PutsCases : State → Move → State → Type 0
PutsCases s move t = (t.puts ≡ s.puts) ⊎ ((t.puts.status ≡ s.puts.status) × (t.puts.payload ≡ s.puts.payload)) ⊎ IsOpened s t ⊎ IsEnded s move t

begin_cases : (bid : ℕ) (payload : List ℕ) (s : State) (reply : Reply) (t : State) (move : Move) → Begins bid payload s reply t → PutsCases s move t
begin_cases bid payload s (Reply.Begun end homes flags) t move h =
    let unlocked = first_fails (is_some s.manager.lock) (Reply.Locked (task_of s.manager.lock)) ((is_begun (s.puts.status bid), Reply.BeginTwice) ∷ []) h.0 in
    let fresh = first_fails (is_begun (s.puts.status bid)) Reply.BeginTwice [] unlocked.1 in
    inr (inr (inl (record { bid = bid; payload = payload; fresh = fresh.0; puts = ap (λ (x : State). x.puts) h.4 })))
begin_cases bid payload s reply t move h = inl (ap (λ (x : State). x.puts) h.1)

end_cases : (shape : VolumeShape) (bid : ℕ) (s : State) (reply : Reply) (t : State) → Ends shape bid s reply t → PutsCases s (Move.Happen (Event.End bid) reply) t
end_cases shape bid s Reply.NotOpen t h = inl (ap (λ (x : State). x.puts) h.1)
end_cases shape bid s (Reply.LeaseOver end time) t h = inr (inr (inr (record { bid = bid; status = Status.Failed; was_open = h.0; over = refl; acks = λ x. cc; puts = ap (λ (x : State). x.puts) h.4 })))
end_cases shape bid s (Reply.Quorum n) t h = inr (inr (inr (record { bid = bid; status = Status.Failed; was_open = h.0; over = refl; acks = λ x. cc; puts = ap (λ (x : State). x.puts) h.4 })))
end_cases shape bid s (Reply.Acked n) t h = inr (inr (inr (record { bid = bid; status = Status.Acked; was_open = h.0; over = refl; acks = λ x. (n, refl); puts = ap (λ (x : State). x.puts) h.4 })))
end_cases shape bid s reply t h = absurd h

tick_stay : (by : ℕ) (s : State) (reply : Reply) (t : State) → Ticks by s reply t → t.puts ≡ s.puts
tick_stay by s (Reply.Now time) t h = ap (λ (x : State). x.puts) h.1
tick_stay by s reply t h = absurd h

break_stay : (disk : ℕ) (s : State) (reply : Reply) (t : State) → Breaks disk s reply t → t.puts ≡ s.puts
break_stay disk s Reply.Done t h = ap (λ (x : State). x.puts) h
break_stay disk s reply t h = absurd h

restart_stay : (disk : ℕ) (s : State) (reply : Reply) (t : State) → Restarts disk s reply t → t.puts ≡ s.puts
restart_stay disk s Reply.Done t (inl h) = ap (λ (x : State). x.puts) h.1
restart_stay disk s Reply.Done t (inr h) = ap (λ (x : State). x.puts) h.2
restart_stay disk s Reply.Fault t h = ap (λ (x : State). x.puts) h.2
restart_stay disk s reply t h = absurd h

restart_manager_stay : (s : State) (reply : Reply) (t : State) → RestartsManager s reply t → t.puts ≡ s.puts
restart_manager_stay s Reply.Done t h = ap (λ (x : State). x.puts) h.1
restart_manager_stay s Reply.Fault t h = ap (λ (x : State). x.puts) h
restart_manager_stay s reply t h = absurd h

look_stay : (s : State) (reply : Reply) (t : State) → Looks s reply t → t.puts ≡ s.puts
look_stay s (Reply.Seen view) t h = ap (λ (x : State). x.puts) h.1
look_stay s reply t h = absurd h

happen_cases : (shape : VolumeShape) (s : State) (event : Event) (reply : Reply) (t : State) → Happens shape s event reply t → PutsCases s (Move.Happen event reply) t
happen_cases shape s (Event.Tick by) reply t h = inl (tick_stay by s reply t h)
happen_cases shape s (Event.Plan disk fate count) reply t h = inl (ap (λ (x : State). x.puts) h.1)
happen_cases shape s (Event.Break disk) reply t h = inl (break_stay disk s reply t h)
happen_cases shape s (Event.Restart disk) reply t h = inl (restart_stay disk s reply t h)
happen_cases shape s Event.RestartManager reply t h = inl (restart_manager_stay s reply t h)
happen_cases shape s Event.Lease reply t h = inl (ap (λ (x : State). x.puts) h.1.1)
happen_cases shape s (Event.Begin bid payload) reply t h = begin_cases bid payload s reply t (Move.Happen (Event.Begin bid payload) reply) h.1.1
happen_cases shape s (Event.End bid) reply t h = end_cases shape bid s reply t h.1
happen_cases shape s (Event.Lock task targets) reply t h = inl (ap (λ (x : State). x.puts) h.1.2)
happen_cases shape s (Event.Retarget task index disk) reply t h = inl (ap (λ (x : State). x.puts) h.1.2)
happen_cases shape s (Event.Swap task) reply t h = inl (ap (λ (x : State). x.puts) h.1.1)
happen_cases shape s (Event.Unlock task) reply t h = inl (ap (λ (x : State). x.puts) h.1.1)
happen_cases shape s (Event.Ask bid) reply t h = inl (ap (λ (x : State). x.puts) h.1.2)
happen_cases shape s (Event.Commit bid) reply t h = inl (ap (λ (x : State). x.puts) h.1.2)
happen_cases shape s Event.Look reply t h = inl (look_stay s reply t h.1)
happen_cases shape s event reply t h = absurd h.1

hear_cases : (r : Request) (a : Answer) (puts : Puts) → ((puts_hear r a puts).status ≡ puts.status) × ((puts_hear r a puts).payload ≡ puts.payload)
hear_cases (Request.Put p b) Answer.Done puts = (refl, refl)
hear_cases (Request.Put p b) Answer.Already puts = (refl, refl)
hear_cases r a puts = (refl, refl)

settle_stay : (s : State) (found : Bool) (t : State) → SettlesManager s found t → t.puts ≡ s.puts
settle_stay s true t h = ap (λ (x : State). x.puts) h.2
settle_stay s false t h = ap (λ (x : State). x.puts) h.1

settle_unit_stay : (p : Place) (s : State) (found : Bool) (t : State) → SettlesUnit p s found t → t.puts ≡ s.puts
settle_unit_stay p s true t h = ap (λ (x : State). x.puts) h.2
settle_unit_stay p s false t h = ap (λ (x : State). x.puts) h.1

pub puts_cases : (shape : VolumeShape) (s : State) (move : Move) (t : State) → Moves shape s move t → PutsCases s move t
puts_cases shape s (Move.Issue r) t h = inl (ap (λ (x : State). x.puts) h.2)
puts_cases shape s (Move.Handle r a e) t h = inl (ap (λ (x : State). x.puts) h.2)
puts_cases shape s (Move.Hear r a) t h =
    let same = hear_cases r a s.puts in
    inr (inl (ap (λ (x : State). x.puts.status) h.1 ∙ same.0, ap (λ (x : State). x.puts.payload) h.1 ∙ same.1))
puts_cases shape s (Move.SettleManager found) t h = inl (settle_stay s found t h)
puts_cases shape s (Move.SettleUnit p found) t h = inl (settle_unit_stay p s found t h)
puts_cases shape s (Move.Happen event reply) t h = happen_cases shape s event reply t h

pub move_stay : (shape : VolumeShape) (s : State) (move : Move) (t : State) → Moves shape s move t → PutsStay s.puts t.puts
move_stay shape s move t h = elim (puts_cases shape s move t h) [
  | inl same ↦ same_puts s t same
  | inr (inl heard) ↦ λ b x. record { begun = ap (λ status. is_begun (status b)) heard.0 ∙ x; payload = ap (λ payload. payload b) heard.1 }
  | inr (inr (inl new)) ↦ subst (PutsStay s.puts) (sym new.puts) (opened_stay s.puts new.bid new.payload s.manager.lease_end new.fresh)
  | inr (inr (inr old)) ↦ subst (PutsStay s.puts) (sym old.puts) (ended_stay s.puts old.bid old.status old.over)
]
