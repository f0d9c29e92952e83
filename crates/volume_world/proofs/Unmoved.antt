-- Events leave units alone: rows, releases, records in doubt and answers given are as they were.
use Rattle.std.proofs.Common.{◌≡◌, ℕ, inl, inr, Bool, true, false, List, refl, sym, ◌∙◌, subst}
use Rattle.code_mode.specs.VolumeShape.{VolumeShape}
use Rattle.volume_entry.specs.Reply.{Reply}
use Rattle.volume_world.specs.Event.{Event}
use Rattle.volume_world.specs.State.{State}
use Rattle.volume_world.specs.Move.{Begins, Ends, Ticks, Breaks, Restarts, RestartsManager, Looks, Happens, SettlesManager, OnlyManager}

pub record IsUnmoved (s t : State) : Type 0 where
  pub row : t.units.row ≡ s.units.row
  pub is_released : t.units.is_released ≡ s.units.is_released
  pub doubt : t.units.doubt ≡ s.units.doubt
  pub given : t.post.given ≡ s.post.given

pub unmoved_same : (s : State) → IsUnmoved s s
unmoved_same s = record { row = refl; is_released = refl; doubt = refl; given = refl }

pub unmoved_on : (s u t : State) → IsUnmoved s u → IsUnmoved u t → IsUnmoved s t
unmoved_on s u t h k = record { row = k.row ∙ h.row; is_released = k.is_released ∙ h.is_released; doubt = k.doubt ∙ h.doubt; given = k.given ∙ h.given }

-- a state with the same units and answers
pub unmoved_by : (s t x : State) → t ≡ x → IsUnmoved s x → IsUnmoved s t
unmoved_by s t x e h = subst (IsUnmoved s) (sym e) h

begin_unmoved : (bid : ℕ) (payload : List ℕ) (s : State) (reply : Reply) (t : State) → Begins bid payload s reply t → IsUnmoved s t
begin_unmoved bid payload s (Reply.Begun end homes flags) t h = unmoved_by s t _ h.4 (record { row = refl; is_released = refl; doubt = refl; given = refl })
begin_unmoved bid payload s reply t h = unmoved_by s t s h.1 (unmoved_same s)

end_unmoved : (shape : VolumeShape) (bid : ℕ) (s : State) (reply : Reply) (t : State) → Ends shape bid s reply t → IsUnmoved s t
end_unmoved shape bid s Reply.NotOpen t h = unmoved_by s t s h.1 (unmoved_same s)
end_unmoved shape bid s (Reply.LeaseOver end time) t h = unmoved_by s t _ h.4 (record { row = refl; is_released = refl; doubt = refl; given = refl })
end_unmoved shape bid s (Reply.Quorum n) t h = unmoved_by s t _ h.4 (record { row = refl; is_released = refl; doubt = refl; given = refl })
end_unmoved shape bid s (Reply.Acked n) t h = unmoved_by s t _ h.4 (record { row = refl; is_released = refl; doubt = refl; given = refl })
end_unmoved shape bid s reply t h = absurd h

pub tick_unmoved : (by : ℕ) (s : State) (reply : Reply) (t : State) → Ticks by s reply t → IsUnmoved s t
tick_unmoved by s (Reply.Now time) t h = unmoved_by s t _ h.1 (record { row = refl; is_released = refl; doubt = refl; given = refl })
tick_unmoved by s reply t h = absurd h

break_unmoved : (disk : ℕ) (s : State) (reply : Reply) (t : State) → Breaks disk s reply t → IsUnmoved s t
break_unmoved disk s Reply.Done t h = unmoved_by s t _ h (record { row = refl; is_released = refl; doubt = refl; given = refl })
break_unmoved disk s reply t h = absurd h

restart_unmoved : (disk : ℕ) (s : State) (reply : Reply) (t : State) → Restarts disk s reply t → IsUnmoved s t
restart_unmoved disk s Reply.Done t (inl h) = unmoved_by s t s h.1 (unmoved_same s)
restart_unmoved disk s Reply.Done t (inr h) = unmoved_by s t _ h.2 (record { row = refl; is_released = refl; doubt = refl; given = refl })
restart_unmoved disk s Reply.Fault t h = unmoved_by s t _ h.2
    (subst (λ units. IsUnmoved s (record s { units = units })) (sym h.1.same) (record { row = refl; is_released = refl; doubt = refl; given = refl }))
restart_unmoved disk s reply t h = absurd h

restart_manager_unmoved : (s : State) (reply : Reply) (t : State) → RestartsManager s reply t → IsUnmoved s t
restart_manager_unmoved s Reply.Done t h = unmoved_by s t _ h.1 (record { row = refl; is_released = refl; doubt = refl; given = refl })
restart_manager_unmoved s Reply.Fault t h = unmoved_by s t _ h (record { row = refl; is_released = refl; doubt = refl; given = refl })
restart_manager_unmoved s reply t h = absurd h

look_unmoved : (s : State) (reply : Reply) (t : State) → Looks s reply t → IsUnmoved s t
look_unmoved s (Reply.Seen view) t h = unmoved_by s t s h.1 (unmoved_same s)
look_unmoved s reply t h = absurd h

-- where the manager alone changes
manager_unmoved : (s t : State) → OnlyManager s t → IsUnmoved s t
manager_unmoved s t e = unmoved_by s t _ e (record { row = refl; is_released = refl; doubt = refl; given = refl })

pub happen_unmoved : (shape : VolumeShape) (s : State) (event : Event) (reply : Reply) (t : State) → Happens shape s event reply t → IsUnmoved s t
happen_unmoved shape s (Event.Tick by) reply t h = tick_unmoved by s reply t h
happen_unmoved shape s (Event.Plan disk fate count) reply t h = unmoved_by s t s h.1 (unmoved_same s)
happen_unmoved shape s (Event.Break disk) reply t h = break_unmoved disk s reply t h
happen_unmoved shape s (Event.Restart disk) reply t h = restart_unmoved disk s reply t h
happen_unmoved shape s Event.RestartManager reply t h = restart_manager_unmoved s reply t h
happen_unmoved shape s Event.Lease reply t h = manager_unmoved s t h.1.1
happen_unmoved shape s (Event.Begin bid payload) reply t h = begin_unmoved bid payload s reply t h.1.1
happen_unmoved shape s (Event.End bid) reply t h = end_unmoved shape bid s reply t h.1
happen_unmoved shape s (Event.Lock task targets) reply t h = manager_unmoved s t h.1.2
happen_unmoved shape s (Event.Retarget task index disk) reply t h = manager_unmoved s t h.1.2
happen_unmoved shape s (Event.Swap task) reply t h = manager_unmoved s t h.1.1
happen_unmoved shape s (Event.Unlock task) reply t h = manager_unmoved s t h.1.1
happen_unmoved shape s (Event.Ask bid) reply t h = manager_unmoved s t h.1.2
happen_unmoved shape s (Event.Commit bid) reply t h = manager_unmoved s t h.1.2
happen_unmoved shape s Event.Look reply t h = look_unmoved s reply t h.1
happen_unmoved shape s event reply t h = absurd h.1

pub settle_unmoved : (s : State) (found : Bool) (t : State) → SettlesManager s found t → IsUnmoved s t
settle_unmoved s true t h = unmoved_by s t _ h.2 (record { row = refl; is_released = refl; doubt = refl; given = refl })
settle_unmoved s false t h = unmoved_by s t _ h.1 (record { row = refl; is_released = refl; doubt = refl; given = refl })
