-- In each state to which a history leads, each blob that was begun has the number of a blob.
use Rattle.std.proofs.Common.{◌≡◌, ℕ, inl, inr, Bool, true, false, cond, ◌==◌, List, [], ◌∷◌, refl, sym, ◌∙◌, ap, subst}
use Rattle.std.proofs.lemmas.Bool.{eqb-true}
use Rattle.unit_id.specs.Place.{Place}
use Rattle.unit_id.specs.Request.{Request, Answer}
use Rattle.code_mode.specs.VolumeShape.{VolumeShape}
use Rattle.volume_entry.specs.Manager.{IsBid}
use Rattle.volume_entry.specs.Reply.{Reply}
use Rattle.volume_world.specs.Event.{Event}
use Rattle.volume_world.specs.State.{Status, Puts, State}
use Rattle.volume_world.specs.BlobStatus.{is_begun, is_open}
use Rattle.volume_world.specs.Move.{Move, Moves, Begins, Ends, Happens, Ticks, Breaks, Restarts, RestartsManager, puts_hear, Looks, SettlesManager, SettlesUnit}
use Rattle.volume_world.specs.Run.{World}
use Rattle.volume_world.specs.Told.{MayRun}
use Rattle.volume_world.specs.Way.{Origin, shape_of}
use Rattle.volume_world.specs.declared.trace.Trace.{Trace}
use Rattle.volume_world.proofs.EntryMoves.{entry_lasts}
use Rattle.volume_world.specs.Possible.{IsPossible}

abbrev pub AreNumbered : State → Type 0
AreNumbered s = (bid : ℕ) → is_begun (s.puts.status bid) ≡ true → IsBid bid

pub same_numbers : (s t : State) → t.puts ≡ s.puts → AreNumbered s → AreNumbered t
same_numbers s t same h bid begun = h bid (ap (λ (puts : Puts). is_begun (puts.status bid)) (sym same) ∙ begun)

tick_numbers : (by : ℕ) (s : State) (reply : Reply) (t : State) → Ticks by s reply t → AreNumbered s → AreNumbered t
tick_numbers by s (Reply.Now time) t h = same_numbers s t (ap (λ (x : State). x.puts) h.1)
tick_numbers by s reply t h = absurd h

break_numbers : (disk : ℕ) (s : State) (reply : Reply) (t : State) → Breaks disk s reply t → AreNumbered s → AreNumbered t
break_numbers disk s Reply.Done t h = same_numbers s t (ap (λ (x : State). x.puts) h)
break_numbers disk s reply t h = absurd h

restart_numbers : (disk : ℕ) (s : State) (reply : Reply) (t : State) → Restarts disk s reply t → AreNumbered s → AreNumbered t
restart_numbers disk s Reply.Done t (inl h) = same_numbers s t (ap (λ (x : State). x.puts) h.1)
restart_numbers disk s Reply.Done t (inr h) = same_numbers s t (ap (λ (x : State). x.puts) h.2)
restart_numbers disk s Reply.Fault t h = same_numbers s t (ap (λ (x : State). x.puts) h.2)
restart_numbers disk s reply t h = absurd h

manager_numbers : (s : State) (reply : Reply) (t : State) → RestartsManager s reply t → AreNumbered s → AreNumbered t
manager_numbers s Reply.Done t h = same_numbers s t (ap (λ (x : State). x.puts) h.1)
manager_numbers s Reply.Fault t h = same_numbers s t (ap (λ (x : State). x.puts) h)
manager_numbers s reply t h = absurd h

look_numbers : (s : State) (reply : Reply) (t : State) → Looks s reply t → AreNumbered s → AreNumbered t
look_numbers s (Reply.Seen view) t h = same_numbers s t (ap (λ (x : State). x.puts) h.1)
look_numbers s reply t h = absurd h

-- one blob has another status
status_numbers : (s t : State) (bid : ℕ) (status : Status) → t.puts.status ≡ (λ blob. cond (blob == bid) status (s.puts.status blob)) → IsBid bid → AreNumbered s → AreNumbered t
status_numbers s t bid status is number h blob begun = go (blob == bid) refl (ap (λ (f : ℕ → Status). is_begun (f blob)) (sym is) ∙ begun) where
  go : (test : Bool) → blob == bid ≡ test → is_begun (cond test status (s.puts.status blob)) ≡ true → IsBid blob
  go true e begun = subst IsBid (sym (eqb-true blob bid e)) number
  go false e begun = h blob begun

open_begun : (status : Status) → is_open status ≡ true → is_begun status ≡ true
open_begun Status.Open h = refl
open_begun status h = absurd (cc)

begin_numbers : (bid : ℕ) (payload : List ℕ) (s : State) (reply : Reply) (t : State) → IsBid bid → Begins bid payload s reply t → AreNumbered s → AreNumbered t
begin_numbers bid payload s (Reply.Begun end homes flags) t number h = status_numbers s t bid Status.Open (ap (λ (x : State). x.puts.status) h.4) number
begin_numbers bid payload s reply t number h = same_numbers s t (ap (λ (x : State). x.puts) h.1)

end_numbers : (shape : VolumeShape) (bid : ℕ) (s : State) (reply : Reply) (t : State) → Ends shape bid s reply t → AreNumbered s → AreNumbered t
end_numbers shape bid s Reply.NotOpen t h k = same_numbers s t (ap (λ (x : State). x.puts) h.1) k
end_numbers shape bid s (Reply.LeaseOver end time) t h k = status_numbers s t bid Status.Failed (ap (λ (x : State). x.puts.status) h.4) (k bid (open_begun (s.puts.status bid) h.0)) k
end_numbers shape bid s (Reply.Quorum n) t h k = status_numbers s t bid Status.Failed (ap (λ (x : State). x.puts.status) h.4) (k bid (open_begun (s.puts.status bid) h.0)) k
end_numbers shape bid s (Reply.Acked n) t h k = status_numbers s t bid Status.Acked (ap (λ (x : State). x.puts.status) h.4) (k bid (open_begun (s.puts.status bid) h.0)) k
end_numbers shape bid s reply t h k = absurd h

happen_numbers : (shape : VolumeShape) (s : State) (event : Event) (reply : Reply) (t : State) → Happens shape s event reply t → AreNumbered s → AreNumbered t
happen_numbers shape s (Event.Tick by) reply t h = tick_numbers by s reply t h
happen_numbers shape s (Event.Plan disk fate count) reply t h = same_numbers s t (ap (λ (x : State). x.puts) h.1)
happen_numbers shape s (Event.Break disk) reply t h = break_numbers disk s reply t h
happen_numbers shape s (Event.Restart disk) reply t h = restart_numbers disk s reply t h
happen_numbers shape s Event.RestartManager reply t h = manager_numbers s reply t h
happen_numbers shape s Event.Lease reply t h = same_numbers s t (ap (λ (x : State). x.puts) h.1.1)
happen_numbers shape s (Event.Begin bid payload) reply t h = begin_numbers bid payload s reply t h.1.0 h.1.1
happen_numbers shape s (Event.End bid) reply t h = end_numbers shape bid s reply t h.1
happen_numbers shape s (Event.Lock task targets) reply t h = same_numbers s t (ap (λ (x : State). x.puts) h.1.2)
happen_numbers shape s (Event.Retarget task index disk) reply t h = same_numbers s t (ap (λ (x : State). x.puts) h.1.2)
happen_numbers shape s (Event.Swap task) reply t h = same_numbers s t (ap (λ (x : State). x.puts) h.1.1)
happen_numbers shape s (Event.Unlock task) reply t h = same_numbers s t (ap (λ (x : State). x.puts) h.1.1)
happen_numbers shape s (Event.Ask bid) reply t h = same_numbers s t (ap (λ (x : State). x.puts) h.1.2)
happen_numbers shape s (Event.Commit bid) reply t h = same_numbers s t (ap (λ (x : State). x.puts) h.1.2)
happen_numbers shape s Event.Look reply t h = look_numbers s reply t h.1
happen_numbers shape s event reply t h = absurd h.1

hear_status : (r : Request) (a : Answer) (puts : Puts) → (puts_hear r a puts).status ≡ puts.status
hear_status (Request.Put p b) Answer.Done puts = refl
hear_status (Request.Put p b) Answer.Already puts = refl
hear_status r a puts = refl

settle_numbers : (s : State) (found : Bool) (t : State) → SettlesManager s found t → AreNumbered s → AreNumbered t
settle_numbers s true t h = same_numbers s t (ap (λ (x : State). x.puts) h.2)
settle_numbers s false t h = same_numbers s t (ap (λ (x : State). x.puts) h.1)

unit_numbers : (p : Place) (s : State) (found : Bool) (t : State) → SettlesUnit p s found t → AreNumbered s → AreNumbered t
unit_numbers p s true t h = same_numbers s t (ap (λ (x : State). x.puts) h.2)
unit_numbers p s false t h = same_numbers s t (ap (λ (x : State). x.puts) h.1)

move_numbers : (shape : VolumeShape) (s : State) (move : Move) (t : State) → Moves shape s move t → AreNumbered s → AreNumbered t
move_numbers shape s (Move.Issue r) t h = same_numbers s t (ap (λ (x : State). x.puts) h.2)
move_numbers shape s (Move.Handle r a e) t h = same_numbers s t (ap (λ (x : State). x.puts) h.2)
move_numbers shape s (Move.Hear r a) t h = λ k bid begun. k bid (ap (λ (f : ℕ → Status). is_begun (f bid)) (sym (ap (λ (x : State). x.puts.status) h.1 ∙ hear_status r a s.puts)) ∙ begun)
move_numbers shape s (Move.SettleManager found) t h = settle_numbers s found t h
move_numbers shape s (Move.SettleUnit p found) t h = unit_numbers p s found t h
move_numbers shape s (Move.Happen event reply) t h = happen_numbers shape s event reply t h

run_numbers : (vid : ℕ) (shape : VolumeShape) (w : World) (traces : List Trace) (v : World) → AreNumbered w.state → MayRun vid shape w traces v → AreNumbered v.state
run_numbers vid shape w [] v k h = subst (λ (x : World). AreNumbered x.state) (sym h) k
run_numbers vid shape w (trace ∷ traces) v k h = run_numbers vid shape h.0 traces v (entry_lasts shape AreNumbered (move_numbers shape) w h.1.step h.0 h.1.leads k) h.2

-- each begun blob has a number that blobs have
pub begun_numbers : (origin : Origin) (w : World) → IsPossible origin w → AreNumbered w.state
begun_numbers origin w h = run_numbers origin.vid (shape_of origin) origin.start h.entries w (subst (λ (x : World). AreNumbered x.state) (sym h.first.state) (λ bid begun. absurd (cc))) h.led
