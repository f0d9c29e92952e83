-- All volumes are asked the same, or are looked at.
use Rattle.std.proofs.Common.{◌≡◌, ◌∙◌, sym, ap, refl, subst, get_or, ℕ, ◌+◌, ◌<◌, ◌≤◌, Bool, true, false, List, [], ◌∷◌, ◌++◌, length, drop, Option, Some, None, Result, Ok, Err, Vec}
use Rattle.std.specs.Prelude.{slice_get, is_some}
use Rattle.std.specs.declared.alloc.Global.{Global}
use Rattle.std.proofs.lemmas.List.{drop_all, length-set}
use Rattle.std.proofs.lemmas.Option.{slice_get-get_or}
use Rattle.disk_base.specs.Disk.{FileView}
use Rattle.disk_base.specs.Shelves.{ShelfView}
use Rattle.cluster_admin.specs.declared.picking.Seen.{Seen}
use Rattle.cluster_admin.specs.declared.volumes.Volume.{Volume}
use Rattle.cluster_admin.specs.Cluster.{State}
use Rattle.volume_world.specs.Way.{Origin}
use Rattle.volume_world.specs.declared.fault.StepFault.{StepFault}
use Rattle.volume_world.specs.declared.fault.StepFault.TheVariants.{Memory}
use Rattle.volume_turns.specs.declared.command.VolumeCommand.{VolumeCommand}
use Rattle.volume_turns.specs.declared.command.VolumeCommand.TheVariants as turns
use Rattle.volume_turns.specs.declared.reply.VolumeRefusal.{VolumeRefusal}
use Rattle.volume_turns.specs.declared.reply.VolumeReply.{VolumeReply}
use Rattle.volume_turns.specs.Answers.{Replied}
use Rattle.volume_turns.specs.Session.{Turn}
use Rattle.volume_turns.specs.Turn.{FitsCommand}
use Rattle.cluster_store.specs.Plan.{Step, Plan, Follows}
use Rattle.cluster_store.specs.Lines.{asks_each, looks_each, earlier, refusal_in, seen_by}
use Rattle.cluster_store.specs.Store.{OpenedOver, StoreOver, IsSlot, IsStore, way_at, IsFor, PlaysAt, IsSlotSession, AreSessions, turns_at}
use Rattle.cluster_store.specs.Asking.{Reaches, Played, FitsEach, AsksEach, MayWant, LooksEach}
use Rattle.cluster_store.proofs.Lists.{drop_at}
use Rattle.cluster_store.proofs.Fits.{opened_there}
use Rattle.cluster_store.proofs.OneTurn.{reach_none, reach_more, reach_off, reach_end, same_tables}

module _ {S E : Type 0} where
  none_of : (disks place : ℕ) (slot : Option (Option Volume)) (opened : Option (Option (OpenedOver S E))) → opened ≡ Some None → IsSlot disks place slot opened → slot ≡ Some None
  none_of disks place (Some (Some slot)) (Some (Some opened)) e h = absurd (cc e)
  none_of disks place (Some (Some slot)) (Some None) e h = absurd h
  none_of disks place (Some (Some slot)) None e h = absurd h
  none_of disks place (Some None) opened e h = refl
  none_of disks place None (Some opened) e h = absurd h
  none_of disks place None None e h = absurd (cc e)

  -- where there is no volume, the tables have none
  pub none_there : (store : StoreOver S E) (place : ℕ) → IsStore store → slice_get store.volumes place ≡ Some None → slice_get store.tables.volumes place ≡ Some None
  none_there store place h e = none_of (length store.tables.disks) place (slice_get store.tables.volumes place) (slice_get store.volumes place) e (h.slots place)

  -- what stands at a place, by a test
  pub record StandsThere (volumes : List (Option (OpenedOver S E))) (place : ℕ) : Type 0 where
    pub opened : OpenedOver S E
    pub there : slice_get volumes place ≡ Some (Some opened)

  by_test : (volumes : List (Option (OpenedOver S E))) (place : ℕ) (found : Option (OpenedOver S E)) → slice_get volumes place ≡ Some found → is_some found ≡ true → StandsThere volumes place
  by_test volumes place (Some opened) at e = record { opened = opened; there = at }
  by_test volumes place None at e = absurd (cc e)

  pub stands_there : (volumes : List (Option (OpenedOver S E))) (place : ℕ) (found : Option (OpenedOver S E)) → place < length volumes → found ≡ get_or volumes place found → is_some found ≡ true → StandsThere volumes place
  stands_there volumes place found within value e = by_test volumes place found (slice_get-get_or volumes place found within ∙ ap (λ o. Some o) (sym value)) e

  by_none : (volumes : List (Option (OpenedOver S E))) (place : ℕ) (found : Option (OpenedOver S E)) → slice_get volumes place ≡ Some found → is_some found ≡ false → slice_get volumes place ≡ Some None
  by_none volumes place (Some opened) at e = absurd (cc e)
  by_none volumes place None at e = at

  pub none_stands : (volumes : List (Option (OpenedOver S E))) (place : ℕ) (found : Option (OpenedOver S E)) → place < length volumes → found ≡ get_or volumes place found → is_some found ≡ false → slice_get volumes place ≡ Some None
  none_stands volumes place found within value e = by_none volumes place found (slice_get-get_or volumes place found within ∙ ap (λ o. Some o) (sym value)) e

module _ {S E : Type 0} (shelf_seen : S → ShelfView E) (seen : E → FileView) where
  -- ---- commands that fit

  slot_fits : (command : VolumeCommand) (old : Option (Option (OpenedOver S E))) (now : OpenedOver S E) (turns : List Turn)
      → ((opened : OpenedOver S E) → old ≡ Some (Some opened) → FitsCommand (way_at shelf_seen seen opened).origin command) → IsSlotSession shelf_seen seen old (Some (Some now)) turns → FitsCommand (way_at shelf_seen seen now).origin command
  slot_fits command (Some (Some old)) now turns f h = subst (λ (o : Origin). FitsCommand o command) (sym h.goes.origin) (f old refl)
  slot_fits command (Some None) now turns f h = absurd h
  slot_fits command None now turns f h = absurd h

  fits_now : (old now : List (Option (OpenedOver S E))) (steps : List Step) (command : VolumeCommand) (place : ℕ) (opened : OpenedOver S E) → FitsEach shelf_seen seen old command → AreSessions shelf_seen seen old now steps
      → slice_get now place ≡ Some (Some opened) → FitsCommand (way_at shelf_seen seen opened).origin command
  fits_now old now steps command place opened f h e =
      slot_fits command (slice_get old place) opened (turns_at place steps) (λ o at. f place o at) (subst (λ s. IsSlotSession shelf_seen seen (slice_get old place) s (turns_at place steps)) e (h place))

  -- ---- asked

  pub record HasAsked (old now : StoreOver S E) (command : VolumeCommand) (place : ℕ) (first : Option VolumeRefusal) : Type 0 where
    pub tables_are : now.tables ≡ old.tables
    pub asked : (behind : Option VolumeRefusal → Plan) → Reaches shelf_seen seen old now (asks_each old.tables command 0 old.tables.volumes None behind) (asks_each old.tables command place (drop place old.tables.volumes) first behind)

  pub asked_none : (store : StoreOver S E) (command : VolumeCommand) → IsStore store → HasAsked store store command 0 None
  asked_none store command h = record { tables_are = refl; asked = λ behind. reach_none shelf_seen seen store (asks_each store.tables command 0 store.tables.volumes None behind) h }

  pub asked_is : (old now : StoreOver S E) (command : VolumeCommand) (place : ℕ) (first : Option VolumeRefusal) → HasAsked old now command place first → IsStore now
  asked_is old now command place first h = (h.asked (λ f. Plan.Never)).is

  pub asked_for : (old now : StoreOver S E) (command : VolumeCommand) (place : ℕ) (first : Option VolumeRefusal) → FitsEach shelf_seen seen old.volumes command → HasAsked old now command place first → StandsThere now.volumes place
      → IsFor shelf_seen seen now.volumes place command
  asked_for old now command place first f h s =
      let reached = h.asked (λ f. Plan.Never) in
      record { opened = s.opened; there = s.there; fits = fits_now old.volumes now.volumes reached.steps command place s.opened f reached.turns_are s.there }

  -- the slots from a place on, by what stands there
  slots_from : (old now : StoreOver S E) (place : ℕ) (opened : OpenedOver S E) → now.tables ≡ old.tables → IsStore now → slice_get now.volumes place ≡ Some (Some opened)
      → (slot : Volume) × (drop place old.tables.volumes ≡ Some slot ∷ drop (place + 1) old.tables.volumes)
  slots_from old now place opened same is at =
      let there = opened_there now place opened is at in
      (there.slot, drop_at old.tables.volumes place (Some there.slot) (ap (λ (t : State). slice_get t.volumes place) (sym same) ∙ there.there))

  next_asked : (old now : StoreOver S E) (command : VolumeCommand) (place : ℕ) (first : Option VolumeRefusal) (slot : Volume) → drop place old.tables.volumes ≡ Some slot ∷ drop (place + 1) old.tables.volumes → HasAsked old now command place first
      → (behind : Option VolumeRefusal → Plan)
      → Reaches shelf_seen seen old now (asks_each old.tables command 0 old.tables.volumes None behind)
      (Plan.Ask old.tables place command (λ reply. asks_each old.tables command (place + 1) (drop (place + 1) old.tables.volumes) (earlier first (refusal_in reply)) behind))
  next_asked old now command place first slot cut h behind =
      subst (λ (slots : List (Option Volume)). Reaches shelf_seen seen old now (asks_each old.tables command 0 old.tables.volumes None behind) (asks_each old.tables command place slots first behind)) cut (h.asked behind)

  pub asked_more : (old now new : StoreOver S E) (command : VolumeCommand) (place : ℕ) (first : Option VolumeRefusal) (reply : VolumeReply) (s : StandsThere now.volumes place) → HasAsked old now command place first
      → PlaysAt shelf_seen seen now new place command (Ok reply) → HasAsked old new command (place + 1) (earlier first (refusal_in reply))
  asked_more old now new command place first reply s h p =
      let cut = slots_from old now place s.opened h.tables_are (asked_is old now command place first h) s.there in
      record {
        tables_are = same_tables shelf_seen seen now new place command (Ok reply) p ∙ h.tables_are;
        asked = λ behind. reach_more shelf_seen seen old now new (asks_each old.tables command 0 old.tables.volumes None behind) old.tables place command
            (λ told. asks_each old.tables command (place + 1) (drop (place + 1) old.tables.volumes) (earlier first (refusal_in told)) behind) reply (next_asked old now command place first cut.0 cut.1 h behind) p;
      }

  pub asked_skip : (old now : StoreOver S E) (command : VolumeCommand) (place : ℕ) (first : Option VolumeRefusal) → slice_get now.volumes place ≡ Some None → HasAsked old now command place first → HasAsked old now command (place + 1) first
  asked_skip old now command place first at h =
      let none = none_there now place (asked_is old now command place first h) at in
      let cut = drop_at old.tables.volumes place None (ap (λ (t : State). slice_get t.volumes place) (sym h.tables_are) ∙ none) in
      record {
        tables_are = h.tables_are;
        asked = λ behind. subst (λ (slots : List (Option Volume)). Reaches shelf_seen seen old now (asks_each old.tables command 0 old.tables.volumes None behind) (asks_each old.tables command place slots first behind)) cut (h.asked behind);
      }

  pub asked_off : (old now new : StoreOver S E) (command : VolumeCommand) (place : ℕ) (first : Option VolumeRefusal) (fault : StepFault) (s : StandsThere now.volumes place) → HasAsked old now command place first
      → PlaysAt shelf_seen seen now new place command (Err fault) → AsksEach shelf_seen seen old new command (Err fault)
  asked_off old now new command place first fault s h p =
      let cut = slots_from old now place s.opened h.tables_are (asked_is old now command place first h) s.there in (
        same_tables shelf_seen seen now new place command (Err fault) p ∙ h.tables_are,
        λ behind. reach_off shelf_seen seen old now new (asks_each old.tables command 0 old.tables.volumes None behind) old.tables place command
            (λ told. asks_each old.tables command (place + 1) (drop (place + 1) old.tables.volumes) (earlier first (refusal_in told)) behind) fault (next_asked old now command place first cut.0 cut.1 h behind) h.tables_are p,
      )

  pub asked_all : (old now : StoreOver S E) (command : VolumeCommand) (place : ℕ) (first : Option VolumeRefusal) → length old.tables.volumes ≤ place → HasAsked old now command place first → AsksEach shelf_seen seen old now command (Ok first)
  asked_all old now command place first past h = (
    h.tables_are,
    λ behind. subst (λ (slots : List (Option Volume)). Reaches shelf_seen seen old now (asks_each old.tables command 0 old.tables.volumes None behind) (asks_each old.tables command place slots first behind))
        (drop_all place old.tables.volumes past) (h.asked behind),
  )

  -- .. with what the call gave
  pub asked_on : (old now new : StoreOver S E) (command : VolumeCommand) (place : ℕ) (first next : Option VolumeRefusal) (given : Replied) (reply : VolumeReply) → given ≡ Ok reply → next ≡ earlier first (refusal_in reply) → StandsThere now.volumes place
      → HasAsked old now command place first → PlaysAt shelf_seen seen now new place command given → HasAsked old new command (place + 1) next
  asked_on old now new command place first next given reply is same s h p =
      subst (λ (f : Option VolumeRefusal). HasAsked old new command (place + 1) f) (sym same)
      (asked_more old now new command place first reply s h (subst (λ (r : Replied). PlaysAt shelf_seen seen now new place command r) is p))

  pub asked_broken : (old now new : StoreOver S E) (command : VolumeCommand) (place : ℕ) (first : Option VolumeRefusal) (given : Replied) (fault : StepFault) (result : Result (Option VolumeRefusal) StepFault) → given ≡ Err fault → result ≡ Err fault
      → StandsThere now.volumes place → HasAsked old now command place first → PlaysAt shelf_seen seen now new place command given → AsksEach shelf_seen seen old new command result
  asked_broken old now new command place first given fault result is same s h p =
      subst (λ (r : Result (Option VolumeRefusal) StepFault). AsksEach shelf_seen seen old new command r) (sym same)
      (asked_off old now new command place first fault s h (subst (λ (r : Replied). PlaysAt shelf_seen seen now new place command r) is p))

  pub long_after : (now new : StoreOver S E) (command : VolumeCommand) (place : ℕ) (given : Replied) → PlaysAt shelf_seen seen now new place command given → length new.volumes ≡ length now.volumes
  long_after now new command place given p = ap (λ (s : StoreOver S E). length s.volumes) p.new_is ∙ length-set now.volumes place (Some p.after)

  -- ---- looked at

  pub record HasLooked (old now : StoreOver S E) (place : ℕ) (views : List Seen) (first : Option VolumeRefusal) : Type 0 where
    pub tables_are : now.tables ≡ old.tables
    pub looked : (behind : List Seen → Option VolumeRefusal → Plan) → Reaches shelf_seen seen old now (looks_each old.tables 0 old.tables.volumes [] None behind) (looks_each old.tables place (drop place old.tables.volumes) views first behind)

  pub looked_none : (store : StoreOver S E) (views : List Seen) → views ≡ [] → IsStore store → HasLooked store store 0 views None
  looked_none store views empty h = subst (λ (vs : List Seen). HasLooked store store 0 vs None) (sym empty) (record {
    tables_are = refl;
    looked = λ behind. reach_none shelf_seen seen store (looks_each store.tables 0 store.tables.volumes [] None behind) h;
  })

  pub looked_is : (old now : StoreOver S E) (place : ℕ) (views : List Seen) (first : Option VolumeRefusal) → HasLooked old now place views first → IsStore now
  looked_is old now place views first h = (h.looked (λ v f. Plan.Never)).is

  pub looked_for : (old now : StoreOver S E) (place : ℕ) (views : List Seen) (first : Option VolumeRefusal) → HasLooked old now place views first → StandsThere now.volumes place → IsFor shelf_seen seen now.volumes place turns.Look
  looked_for old now place views first h s = record { opened = s.opened; there = s.there; fits = tt }

  next_looked : (old now : StoreOver S E) (place : ℕ) (views : List Seen) (first : Option VolumeRefusal) (slot : Volume) → drop place old.tables.volumes ≡ Some slot ∷ drop (place + 1) old.tables.volumes → HasLooked old now place views first
      → (behind : List Seen → Option VolumeRefusal → Plan)
      → Reaches shelf_seen seen old now (looks_each old.tables 0 old.tables.volumes [] None behind)
      (Plan.Ask old.tables place turns.Look (λ reply. looks_each old.tables (place + 1) (drop (place + 1) old.tables.volumes) (views ++ seen_by reply ∷ []) (earlier first (refusal_in reply)) behind))
  next_looked old now place views first slot cut h behind =
      subst (λ (slots : List (Option Volume)). Reaches shelf_seen seen old now (looks_each old.tables 0 old.tables.volumes [] None behind) (looks_each old.tables place slots views first behind)) cut (h.looked behind)

  pub looked_more : (old now new : StoreOver S E) (place : ℕ) (views after : List Seen) (first : Option VolumeRefusal) (reply : VolumeReply) (s : StandsThere now.volumes place) → HasLooked old now place views first
      → PlaysAt shelf_seen seen now new place turns.Look (Ok reply) → after ≡ views ++ seen_by reply ∷ [] → HasLooked old new (place + 1) after (earlier first (refusal_in reply))
  looked_more old now new place views after first reply s h p same =
      let cut = slots_from old now place s.opened h.tables_are (looked_is old now place views first h) s.there in
      subst (λ (vs : List Seen). HasLooked old new (place + 1) vs (earlier first (refusal_in reply))) (sym same) (record {
        tables_are = same_tables shelf_seen seen now new place turns.Look (Ok reply) p ∙ h.tables_are;
        looked = λ behind. reach_more shelf_seen seen old now new (looks_each old.tables 0 old.tables.volumes [] None behind) old.tables place turns.Look
            (λ told. looks_each old.tables (place + 1) (drop (place + 1) old.tables.volumes) (views ++ seen_by told ∷ []) (earlier first (refusal_in told)) behind) reply (next_looked old now place views first cut.0 cut.1 h behind) p;
      })

  pub looked_skip : (old now : StoreOver S E) (place : ℕ) (views : List Seen) (first : Option VolumeRefusal) → slice_get now.volumes place ≡ Some None → HasLooked old now place views first → HasLooked old now (place + 1) views first
  looked_skip old now place views first at h =
      let none = none_there now place (looked_is old now place views first h) at in
      let cut = drop_at old.tables.volumes place None (ap (λ (t : State). slice_get t.volumes place) (sym h.tables_are) ∙ none) in
      record {
        tables_are = h.tables_are;
        looked = λ behind. subst (λ (slots : List (Option Volume)). Reaches shelf_seen seen old now (looks_each old.tables 0 old.tables.volumes [] None behind) (looks_each old.tables place slots views first behind)) cut (h.looked behind);
      }

  pub looked_off : (old now new : StoreOver S E) (place : ℕ) (views : List Seen) (first : Option VolumeRefusal) (fault : StepFault) (s : StandsThere now.volumes place) → HasLooked old now place views first
      → PlaysAt shelf_seen seen now new place turns.Look (Err fault) → LooksEach shelf_seen seen old new (Err fault)
  looked_off old now new place views first fault s h p =
      let cut = slots_from old now place s.opened h.tables_are (looked_is old now place views first h) s.there in (
        same_tables shelf_seen seen now new place turns.Look (Err fault) p ∙ h.tables_are,
        λ behind wants. reach_off shelf_seen seen old now new (looks_each old.tables 0 old.tables.volumes [] None behind) old.tables place turns.Look
            (λ told. looks_each old.tables (place + 1) (drop (place + 1) old.tables.volumes) (views ++ seen_by told ∷ []) (earlier first (refusal_in told)) behind) fault (next_looked old now place views first cut.0 cut.1 h behind) h.tables_are p,
      )

  -- memory is wanted before the next look
  wants_here : (tables : State) (place : ℕ) (slots : List (Option Volume)) (views : List Seen) (first : Option VolumeRefusal) (behind : List Seen → Option VolumeRefusal → Plan) → MayWant shelf_seen seen tables behind
      → Follows (looks_each tables place slots views first behind) [] tables (Err Memory)
  wants_here tables place [] views first behind wants = wants views first
  wants_here tables place (None ∷ slots) views first behind wants = wants_here tables (place + 1) slots views first behind wants
  wants_here tables place (Some slot ∷ slots) views first behind wants = (refl, refl)

  pub looked_wants : (old now : StoreOver S E) (place : ℕ) (views : List Seen) (first : Option VolumeRefusal) → HasLooked old now place views first → LooksEach shelf_seen seen old now (Err Memory)
  looked_wants old now place views first h = (
    h.tables_are,
    λ behind wants. reach_end shelf_seen seen old now (looks_each old.tables 0 old.tables.volumes [] None behind) (looks_each old.tables place (drop place old.tables.volumes) views first behind) (Err Memory) (h.looked behind)
        (subst (λ (t : State). Follows (looks_each old.tables place (drop place old.tables.volumes) views first behind) [] t (Err Memory)) (sym h.tables_are) (wants_here old.tables place (drop place old.tables.volumes) views first behind wants)),
  )

  pub looked_all : (old now : StoreOver S E) (place : ℕ) (views : List Seen) (first : Option VolumeRefusal) (shown : Vec Seen Global × Option VolumeRefusal) → shown.0.items ≡ views → shown.1 ≡ first → length old.tables.volumes ≤ place
      → HasLooked old now place views first → LooksEach shelf_seen seen old now (Ok shown)
  looked_all old now place views first shown same_views same_first past h = (
    h.tables_are,
    λ behind. subst (λ (vs : List Seen). Reaches shelf_seen seen old now (looks_each old.tables 0 old.tables.volumes [] None behind) (behind vs shown.1)) (sym same_views)
        (subst (λ (f : Option VolumeRefusal). Reaches shelf_seen seen old now (looks_each old.tables 0 old.tables.volumes [] None behind) (behind views f)) (sym same_first)
        (subst (λ (slots : List (Option Volume)). Reaches shelf_seen seen old now (looks_each old.tables 0 old.tables.volumes [] None behind) (looks_each old.tables place slots views first behind))
        (drop_all place old.tables.volumes past) (h.looked behind))),
  )

  -- .. with what the calls gave
  pub looked_on : (old now new : StoreOver S E) (place : ℕ) (views after : List Seen) (first next : Option VolumeRefusal) (given : Replied) (reply : VolumeReply) → given ≡ Ok reply → next ≡ earlier first (refusal_in reply) → after ≡ views ++ seen_by reply ∷ []
      → StandsThere now.volumes place → HasLooked old now place views first → PlaysAt shelf_seen seen now new place turns.Look given → HasLooked old new (place + 1) after next
  looked_on old now new place views after first next given reply is same more s h p =
      subst (λ (f : Option VolumeRefusal). HasLooked old new (place + 1) after f) (sym same)
      (looked_more old now new place views after first reply s h (subst (λ (r : Replied). PlaysAt shelf_seen seen now new place turns.Look r) is p) more)

  pub looked_broken : (old now new : StoreOver S E) (place : ℕ) (views : List Seen) (first : Option VolumeRefusal) (given : Replied) (fault : StepFault) (result : Result (Vec Seen Global × Option VolumeRefusal) StepFault) → given ≡ Err fault → result ≡ Err fault
      → StandsThere now.volumes place → HasLooked old now place views first → PlaysAt shelf_seen seen now new place turns.Look given → LooksEach shelf_seen seen old new result
  looked_broken old now new place views first given fault result is same s h p =
      subst (λ (r : Result (Vec Seen Global × Option VolumeRefusal) StepFault). LooksEach shelf_seen seen old new r) (sym same)
      (looked_off old now new place views first fault s h (subst (λ (r : Replied). PlaysAt shelf_seen seen now new place turns.Look r) is p))

  -- there is no memory for a view, behind its look
  pub looked_unkept : (old now new : StoreOver S E) (place : ℕ) (views : List Seen) (first : Option VolumeRefusal) (given : Replied) (reply : VolumeReply) (result : Result (Vec Seen Global × Option VolumeRefusal) StepFault) → given ≡ Ok reply → result ≡ Err Memory
      → StandsThere now.volumes place → HasLooked old now place views first → PlaysAt shelf_seen seen now new place turns.Look given → LooksEach shelf_seen seen old new result
  looked_unkept old now new place views first given reply result is same s h p =
      let more = looked_on old now new place views (views ++ seen_by reply ∷ []) first (earlier first (refusal_in reply)) given reply is refl refl s h p in
      subst (λ (r : Result (Vec Seen Global × Option VolumeRefusal) StepFault). LooksEach shelf_seen seen old new r) (sym same)
      (looked_wants old new (place + 1) (views ++ seen_by reply ∷ []) (earlier first (refusal_in reply)) more)
