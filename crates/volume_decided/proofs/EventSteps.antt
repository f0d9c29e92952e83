-- Events that are one move are decided by the state before them, where nothing fails.
use Rattle.std.proofs.Common.{◌≡◌, ◌∙◌, sym, ap, refl, ℕ, ◌+◌, min, inl, inr, true, ◌||◌, List, [], ◌∷◌, arith}
use Rattle.std.specs.Prelude.{◌==◌}
use Rattle.code_mode.specs.VolumeShape.{VolumeShape, last_time}
use Rattle.volume_entry.specs.Manager.{settled, forgetful}
use Rattle.volume_entry.specs.View.{flags_of}
use Rattle.volume_entry.specs.Reply.{Reply}
use Rattle.volume_world.specs.Event.{Event}
use Rattle.volume_world.specs.State.{State}
use Rattle.volume_world.specs.BlobStatus.{is_begun}
use Rattle.volume_world.specs.Move.{Move, MovesAll, Begins, Ends, Ticks, Breaks, Restarts, RestartsManager, Looks, OnlyManager, Happens, begin_refusal, opened, view_of}
use Rattle.volume_world.specs.Run.{World, Does}
use Rattle.volume_world.proofs.OneMove.{IsOneMove}
use Rattle.volume_decided.proofs.ManagerSteps.{is_sound, IsBy, by_own, by_refusal, both_by, lease_decided, lock_decided, retarget_decided, swap_decided, unlock_decided, ask_decided, commit_decided}

-- ---- puts

begin_is : (bid : ℕ) (payload : List ℕ) (s : State) (r : Reply) (t : State) → Begins bid payload s r t
    → IsBy (begin_refusal (is_begun (s.puts.status bid)) s.manager.lock) (Reply.Begun s.manager.lease_end s.manager.homes (flags_of s.broken s.manager.homes)) s
    (record s { puts = opened bid payload s.manager.lease_end s.puts }) r t
begin_is bid payload s (Reply.Begun end homes flags) t h = by_own _ _ _ _ _ _ h.0 (λ i. Reply.Begun (h.1 i) (h.2 i) (h.3 i)) h.4
begin_is bid payload s r t h = by_refusal _ _ _ _ _ _ h.0 h.1

end_decided : (shape : VolumeShape) (bid : ℕ) (s : State) (r q : Reply) (t u : State) → Ends shape bid s r t → Ends shape bid s q u → (r ≡ q) × (t ≡ u)
end_decided shape bid s Reply.NotOpen Reply.NotOpen t u h k = (refl, h.1 ∙ sym k.1)
end_decided shape bid s Reply.NotOpen (Reply.LeaseOver end time) t u h k = let a = h.0 in let b = k.0 in cc
end_decided shape bid s Reply.NotOpen (Reply.Quorum n) t u h k = let a = h.0 in let b = k.0 in cc
end_decided shape bid s Reply.NotOpen (Reply.Acked n) t u h k = let a = h.0 in let b = k.0 in cc
end_decided shape bid s (Reply.LeaseOver end time) Reply.NotOpen t u h k = let a = h.0 in let b = k.0 in cc
end_decided shape bid s (Reply.LeaseOver end time) (Reply.LeaseOver e m) t u h k = (λ i. Reply.LeaseOver ((h.1 ∙ sym k.1) i) ((h.2 ∙ sym k.2) i), h.4 ∙ sym k.4)
end_decided shape bid s (Reply.LeaseOver end time) (Reply.Quorum n) t u h k = let a = h.1 in let b = h.2 in let c = h.3 in let d = k.1 in absurd (omega (arith, a, b, c, d))
end_decided shape bid s (Reply.LeaseOver end time) (Reply.Acked n) t u h k = let a = h.1 in let b = h.2 in let c = h.3 in let d = k.1 in absurd (omega (arith, a, b, c, d))
end_decided shape bid s (Reply.Quorum n) Reply.NotOpen t u h k = let a = h.0 in let b = k.0 in cc
end_decided shape bid s (Reply.Quorum n) (Reply.LeaseOver end time) t u h k = let a = k.1 in let b = k.2 in let c = k.3 in let d = h.1 in absurd (omega (arith, a, b, c, d))
end_decided shape bid s (Reply.Quorum n) (Reply.Quorum m) t u h k = (ap Reply.Quorum (h.2 ∙ sym k.2), h.4 ∙ sym k.4)
end_decided shape bid s (Reply.Quorum n) (Reply.Acked m) t u h k = let a = h.2 in let b = h.3 in let c = k.2 in let d = k.3 in absurd (omega (arith, a, b, c, d))
end_decided shape bid s (Reply.Acked n) Reply.NotOpen t u h k = let a = h.0 in let b = k.0 in cc
end_decided shape bid s (Reply.Acked n) (Reply.LeaseOver end time) t u h k = let a = k.1 in let b = k.2 in let c = k.3 in let d = h.1 in absurd (omega (arith, a, b, c, d))
end_decided shape bid s (Reply.Acked n) (Reply.Quorum m) t u h k = let a = h.2 in let b = h.3 in let c = k.2 in let d = k.3 in absurd (omega (arith, a, b, c, d))
end_decided shape bid s (Reply.Acked n) (Reply.Acked m) t u h k = (ap Reply.Acked (h.2 ∙ sym k.2), h.4 ∙ sym k.4)
end_decided shape bid s Reply.NotOpen q t u h k = absurd k
end_decided shape bid s (Reply.LeaseOver end time) q t u h k = absurd k
end_decided shape bid s (Reply.Quorum n) q t u h k = absurd k
end_decided shape bid s (Reply.Acked n) q t u h k = absurd k
end_decided shape bid s r q t u h k = absurd h

-- ---- clock, disks and looks

tick_is : (by : ℕ) (s : State) (r : Reply) (t : State) → Ticks by s r t → (r ≡ Reply.Now (min (s.time + by) last_time)) × (t ≡ record s { time = min (s.time + by) last_time })
tick_is by s (Reply.Now time) t h = (ap Reply.Now h.0, h.1 ∙ ap (λ x. record s { time = x }) h.0)
tick_is by s r t h = absurd h

break_is : (disk : ℕ) (s : State) (r : Reply) (t : State) → Breaks disk s r t → (r ≡ Reply.Done) × (t ≡ record s { broken = λ other. (other == disk) || s.broken other })
break_is disk s Reply.Done t h = (refl, h)
break_is disk s r t h = absurd h

look_is : (s : State) (r : Reply) (t : State) → Looks s r t → (r ≡ Reply.Seen (view_of s)) × (t ≡ s)
look_is s (Reply.Seen sight) t h = (ap Reply.Seen h.0, h.1)
look_is s r t h = absurd h

restart_manager_is : (s : State) (r : Reply) (t : State) → RestartsManager s r t → is_sound r ≡ true → (r ≡ Reply.Done) × (t ≡ record s { manager = forgetful (settled s.manager) })
restart_manager_is s Reply.Done t h sound = (refl, h.1)
restart_manager_is s Reply.Fault t h sound = cc
restart_manager_is s r t h sound = absurd h

restart_done : (disk : ℕ) (s t u : State) → Restarts disk s Reply.Done t → Restarts disk s Reply.Done u → t ≡ u
restart_done disk s t u (inl h) (inl k) = h.1 ∙ sym k.1
restart_done disk s t u (inl h) (inr k) = let a = h.0 in let b = k.0 in cc
restart_done disk s t u (inr h) (inl k) = let a = h.0 in let b = k.0 in cc
restart_done disk s t u (inr h) (inr k) = h.2 ∙ sym k.2

restart_decided : (disk : ℕ) (s : State) (r q : Reply) (t u : State) → Restarts disk s r t → Restarts disk s q u → is_sound r ≡ true → is_sound q ≡ true → (r ≡ q) × (t ≡ u)
restart_decided disk s Reply.Done Reply.Done t u h k a b = (refl, restart_done disk s t u h k)
restart_decided disk s Reply.Fault q t u h k a b = cc
restart_decided disk s Reply.Done Reply.Fault t u h k a b = cc
restart_decided disk s Reply.Done q t u h k a b = absurd k
restart_decided disk s r q t u h k a b = absurd h

-- ---- all of them

by_manager : (s : State) (r q : Reply) (t u : State) → OnlyManager s t → OnlyManager s u → (r ≡ q) × (t.manager ≡ u.manager) → (r ≡ q) × (t ≡ u)
by_manager s r q t u h k same = (same.0, h ∙ ap (λ m. record s { manager = m }) same.1 ∙ sym k)

joined : (r q is : Reply) (t u at : State) → (r ≡ is) × (t ≡ at) → (q ≡ is) × (u ≡ at) → (r ≡ q) × (t ≡ u)
joined r q is t u at h k = (h.0 ∙ sym k.0, h.1 ∙ sym k.1)

happens_decided : (shape : VolumeShape) (s : State) (event : Event) (r q : Reply) (t u : State) → IsOneMove event → Happens shape s event r t → Happens shape s event q u → is_sound r ≡ true → is_sound q ≡ true
    → (r ≡ q) × (t ≡ u)
happens_decided shape s (Event.Tick by) r q t u one h k a b = joined r q _ t u _ (tick_is by s r t h) (tick_is by s q u k)
happens_decided shape s (Event.Break disk) r q t u one h k a b = joined r q _ t u _ (break_is disk s r t h) (break_is disk s q u k)
happens_decided shape s (Event.Restart disk) r q t u one h k a b = restart_decided disk s r q t u h k a b
happens_decided shape s Event.RestartManager r q t u one h k a b = joined r q _ t u _ (restart_manager_is s r t h a) (restart_manager_is s q u k b)
happens_decided shape s Event.Lease r q t u one h k a b = by_manager s r q t u h.1.1 k.1.1 (lease_decided s.time s.manager r q t.manager u.manager h.1.0 k.1.0 a b)
happens_decided shape s (Event.Begin bid payload) r q t u one h k a b = both_by _ _ _ _ r q t u (begin_is bid payload s r t h.1.1) (begin_is bid payload s q u k.1.1)
happens_decided shape s (Event.End bid) r q t u one h k a b = end_decided shape bid s r q t u h.1 k.1
happens_decided shape s (Event.Lock task targets) r q t u one h k a b = by_manager s r q t u h.1.2 k.1.2 (lock_decided s.broken s.time task targets s.manager r q t.manager u.manager h.1.1 k.1.1 a b)
happens_decided shape s (Event.Retarget task index disk) r q t u one h k a b = by_manager s r q t u h.1.2 k.1.2 (retarget_decided s.broken task index disk s.manager r q t.manager u.manager h.1.1 k.1.1 a b)
happens_decided shape s (Event.Swap task) r q t u one h k a b = by_manager s r q t u h.1.1 k.1.1 (swap_decided shape s.broken task s.manager r q t.manager u.manager h.1.0 k.1.0 a b)
happens_decided shape s (Event.Unlock task) r q t u one h k a b = by_manager s r q t u h.1.1 k.1.1 (unlock_decided s.broken task s.manager r q t.manager u.manager h.1.0 k.1.0 a b)
happens_decided shape s (Event.Ask bid) r q t u one h k a b = by_manager s r q t u h.1.2 k.1.2 (ask_decided (is_begun (s.puts.status bid)) bid s.manager r q t.manager u.manager h.1.1 k.1.1 a b)
happens_decided shape s (Event.Commit bid) r q t u one h k a b = by_manager s r q t u h.1.2 k.1.2 (commit_decided shape bid s.manager r q t.manager u.manager h.1.1 k.1.1 a b)
happens_decided shape s Event.Look r q t u one h k a b = joined r q _ t u _ (look_is s r t h.1) (look_is s q u k.1)
happens_decided shape s (Event.Plan disk fate count) r q t u one h k a b = absurd one
happens_decided shape s (Event.Send request) r q t u one h k a b = absurd one
happens_decided shape s Event.FlushOne r q t u one h k a b = absurd one
happens_decided shape s (Event.Settle disk is_found) r q t u one h k a b = absurd one

-- only the state changes
pub by_state : (w v u : World) → v ≡ record w { state = v.state } → u ≡ record w { state = u.state } → v.state ≡ u.state → v ≡ u
by_state w v u h k same = h ∙ ap (λ s. record w { state = s }) same ∙ sym k

one_decided : (shape : VolumeShape) (w : World) (event : Event) (r q : Reply) (v u : World) → IsOneMove event
    → MovesAll shape w.state (Move.Happen event r ∷ []) v.state × (v ≡ record w { state = v.state }) → MovesAll shape w.state (Move.Happen event q ∷ []) u.state × (u ≡ record w { state = u.state })
    → is_sound r ≡ true → is_sound q ≡ true → (r ≡ q) × (v ≡ u)
one_decided shape w event r q v u one h k a b =
    let same = happens_decided shape w.state event r q h.0.0 k.0.0 one h.0.1 k.0.1 a b in
    (same.0, by_state w v u h.1 k.1 (h.0.2 ∙ same.1 ∙ sym k.0.2))

pub does_decided : (shape : VolumeShape) (w : World) (event : Event) (r q : Reply) (v u : World) → IsOneMove event → Does shape w event r v → Does shape w event q u → is_sound r ≡ true → is_sound q ≡ true
    → (r ≡ q) × (v ≡ u)
does_decided shape w (Event.Plan disk fate count) r q v u one h k a b = absurd one
does_decided shape w (Event.Send request) r q v u one h k a b = absurd one
does_decided shape w Event.FlushOne r q v u one h k a b = absurd one
does_decided shape w (Event.Settle disk is_found) r q v u one h k a b = absurd one
does_decided shape w event r q v u one h k a b = one_decided shape w event r q v u one h k a b
