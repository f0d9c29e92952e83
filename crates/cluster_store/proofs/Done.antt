-- Commands that are played whole, or break off.
use Rattle.std.proofs.Common.{◌≡◌, ◌∙◌, sym, ap, refl, subst, ℕ, inl, inr, ◌+◌, ◌-◌, ◌≤◌, ◌==◌, not, Bool, true, false, cond, List, [], ◌∷◌, length, replicate, Option, Some, None, Result, Ok, Err}
use Rattle.std.specs.Prelude.{is_some, unwrap_or}
use Rattle.disk_base.specs.Disk.{FileView}
use Rattle.disk_base.specs.Shelves.{ShelfView}
use Rattle.cluster_admin.specs.Cluster.{State}
use Rattle.cluster_admin.specs.declared.disks.Disk.{Disk}
use Rattle.cluster_admin.specs.declared.names.Object.{Object}
use Rattle.cluster_admin.specs.declared.volumes.Volume.{Volume}
use Rattle.cluster_admin.specs.declared.fault.AdminFault.{AdminFault}
use Rattle.cluster_admin.specs.declared.fault.AdminFault.TheVariants as faults
use Rattle.cluster_admin.specs.Disks.{disk_at, is_normal, new_disk}
use Rattle.cluster_admin.specs.Refusals.{first_fault, set_disks_fault, state_fault, break_fault}
use Rattle.volume_world.specs.declared.fault.StepFault.{StepFault}
use Rattle.volume_world.specs.declared.fault.StepFault.TheVariants.{Memory}
use Rattle.volume_turns.specs.declared.command.VolumeCommand.{VolumeCommand}
use Rattle.volume_turns.specs.declared.command.VolumeCommand.TheVariants as turns
use Rattle.volume_turns.specs.declared.reply.VolumeRefusal.{VolumeRefusal}
use Rattle.volume_turns.specs.declared.reply.VolumeReply.{VolumeReply}
use Rattle.volume_turns.specs.Answers.{Replied}
use Rattle.cluster_store.specs.declared.reply.Refusal.{Refusal}
use Rattle.cluster_store.specs.declared.reply.Refusal.TheVariants as causes
use Rattle.cluster_store.specs.declared.reply.Reply.{Reply}
use Rattle.cluster_store.specs.declared.reply.Reply.TheVariants as replies
use Rattle.cluster_store.specs.Plan.{Plan, Ends, Follows}
use Rattle.cluster_store.specs.Lines.{by_each, told, unless_refused, refused, done, if_volume, if_disk, disks_plan, disks_refused, disk_refusal, break_plan, breaks_disk, got, get_plan, planned, refusal_in}
use Rattle.cluster_store.specs.Store.{OpenedOver, StoreOver, over, IsStore, IsHeld, IsFor, AreSessions, PlaysAt}
use Rattle.cluster_store.specs.Asking.{Reaches, Played, AsksEach}
use Rattle.cluster_store.proofs.Lists.{tells}
use Rattle.cluster_store.proofs.Stores.{store_first_disks, stands_at}
use Rattle.cluster_store.proofs.Fits.{IsNumber, disk_there, positive, slot_there}
use Rattle.cluster_store.proofs.OneTurn.{reach_none, reach_more, reach_off, reach_end, reach_over, same_tables, sessions_none}

module _ {S E : Type 0} (shelf_seen : S → ShelfView E) (seen : E → FileView) where
  -- ---- each volume is asked

  pub each_done : (old new : StoreOver S E) (command : VolumeCommand) (reply given : Reply) (asked : Result (Option VolumeRefusal) StepFault) (first : Option VolumeRefusal) → asked ≡ Ok first → given ≡ told reply first
      → AsksEach shelf_seen seen old new command asked → Played shelf_seen seen (by_each old.tables command reply) old new (Ok given)
  each_done old new command reply given asked first is same h =
      let all = subst (λ (a : Result (Option VolumeRefusal) StepFault). AsksEach shelf_seen seen old new command a) is h in
      subst (λ (r : Reply). Played shelf_seen seen (by_each old.tables command reply) old new (Ok r)) (sym same)
      (reach_over shelf_seen seen old new (by_each old.tables command reply) old.tables old.tables (told reply first) (all.1 (unless_refused old.tables reply)) all.0)

  pub each_off : (old new : StoreOver S E) (command : VolumeCommand) (reply : Reply) (asked : Result (Option VolumeRefusal) StepFault) (fault : StepFault) (result : Result Reply StepFault) → asked ≡ Err fault → result ≡ Err fault
      → AsksEach shelf_seen seen old new command asked → Played shelf_seen seen (by_each old.tables command reply) old new result
  each_off old new command reply asked fault result is same h =
      subst (λ (r : Result Reply StepFault). Played shelf_seen seen (by_each old.tables command reply) old new r) (sym same)
      ((subst (λ (a : Result (Option VolumeRefusal) StepFault). AsksEach shelf_seen seen old new command a) is h).1 (unless_refused old.tables reply))

  -- ---- no volume is asked

  played_over : (old new : StoreOver S E) (before behind : State) {reply : Reply} (result : Result Reply StepFault) → new.volumes ≡ old.volumes → IsStore new → Ends before behind reply new.tables result
      → Played shelf_seen seen (Plan.Over before behind reply) old new result
  played_over old new before behind {reply} result same is ends =
      record { steps = []; turns_are = subst (λ vs. AreSessions shelf_seen seen old.volumes vs []) (sym same) (sessions_none shelf_seen seen old.volumes); follows = ends; is = is }

  pub over_done : (old new : StoreOver S E) (before behind : State) (reply : Reply) → new.volumes ≡ old.volumes → new.tables ≡ behind → IsStore new → Played shelf_seen seen (Plan.Over before behind reply) old new (Ok reply)
  over_done old new before behind reply same tables is = played_over old new before behind (Ok reply) same is (inl (tables, refl))

  pub over_wants : (old new : StoreOver S E) (before behind : State) (reply : Reply) → new.volumes ≡ old.volumes → new.tables ≡ before → IsStore new → Played shelf_seen seen (Plan.Over before behind reply) old new (Err Memory)
  over_wants old new before behind reply same tables is = played_over old new before behind (Err Memory) same is (inr (tables, refl))

  -- a plan that is at its end
  pub played_here : (store : StoreOver S E) (plan : Plan) (result : Result Reply StepFault) → IsStore store → Follows plan [] store.tables result → Played shelf_seen seen plan store store result
  played_here store plan result is follows = reach_end shelf_seen seen store store plan plan result (reach_none shelf_seen seen store plan is) follows

  pub refused_here : (store : StoreOver S E) (cause : Refusal) (reply : Reply) → reply ≡ replies.Refused cause → IsStore store → Played shelf_seen seen (refused store.tables cause) store store (Ok reply)
  refused_here store cause reply same is =
      played_here store (refused store.tables cause) (Ok reply) is (inl (refl, ap (λ (r : Reply). Ok r) same))

  -- ---- one volume is asked

  pub asks_one : (old new : StoreOver S E) (place : ℕ) (command : VolumeCommand) (next : VolumeReply → Plan) (given : Replied) (reply : VolumeReply) (result : Result Reply StepFault) → IsStore old → given ≡ Ok reply
      → PlaysAt shelf_seen seen old new place command given → Follows (next reply) [] new.tables result → Played shelf_seen seen (Plan.Ask old.tables place command next) old new result
  asks_one old new place command next given reply result is got p follows =
      let plan = Plan.Ask old.tables place command next in
      let reached = reach_more shelf_seen seen old old new plan old.tables place command next reply (reach_none shelf_seen seen old plan is) (subst (λ (r : Replied). PlaysAt shelf_seen seen old new place command r) got p) in
      reach_end shelf_seen seen old new plan (next reply) result reached follows

  pub asks_off : (old new : StoreOver S E) (place : ℕ) (command : VolumeCommand) (next : VolumeReply → Plan) (given : Replied) (fault : StepFault) (result : Result Reply StepFault) → IsStore old → given ≡ Err fault → result ≡ Err fault
      → PlaysAt shelf_seen seen old new place command given → Played shelf_seen seen (Plan.Ask old.tables place command next) old new result
  asks_off old new place command next given fault result is got same p =
      let plan = Plan.Ask old.tables place command next in
      subst (λ (r : Result Reply StepFault). Played shelf_seen seen plan old new r) (sym same)
      (reach_off shelf_seen seen old old new plan old.tables place command next fault (reach_none shelf_seen seen old plan is) refl (subst (λ (r : Replied). PlaysAt shelf_seen seen old new place command r) got p))

  -- the store before, whose volumes were the same
  pub played_from : (old mid new : StoreOver S E) (plan : Plan) (result : Result Reply StepFault) → mid.volumes ≡ old.volumes → Played shelf_seen seen plan mid new result → Played shelf_seen seen plan old new result
  played_from old mid new plan result same p =
      record { steps = p.steps; turns_are = subst (λ vs. AreSessions shelf_seen seen vs new.volumes p.steps) same p.turns_are; follows = p.follows; is = p.is }

  -- the volume of a number is asked, and is done with
  pub one_done : (old new : StoreOver S E) (vid place : ℕ) (command : VolumeCommand) (next : VolumeReply → Plan) (given : Replied) (reply : VolumeReply) (answer : Reply) → place ≡ vid - 1 → IsStore old → given ≡ Ok reply
      → next reply ≡ done old.tables answer → PlaysAt shelf_seen seen old new place command given → Played shelf_seen seen (Plan.Ask old.tables (vid - 1) command next) old new (Ok answer)
  one_done old new vid place command next given reply answer at is got end p =
      subst (λ (q : ℕ). Played shelf_seen seen (Plan.Ask old.tables q command next) old new (Ok answer)) at
      (asks_one old new place command next given reply (Ok answer) is got p
      (subst (λ (plan : Plan). Follows plan [] new.tables (Ok answer)) (sym end) (inl (same_tables shelf_seen seen old new place command given p, refl))))

  pub one_off : (old new : StoreOver S E) (vid place : ℕ) (command : VolumeCommand) (next : VolumeReply → Plan) (given : Replied) (fault : StepFault) (result : Result Reply StepFault) → place ≡ vid - 1 → IsStore old → given ≡ Err fault
      → result ≡ Err fault → PlaysAt shelf_seen seen old new place command given → Played shelf_seen seen (Plan.Ask old.tables (vid - 1) command next) old new result
  one_off old new vid place command next given fault result at is got same p =
      subst (λ (q : ℕ). Played shelf_seen seen (Plan.Ask old.tables q command next) old new result) at (asks_off old new place command next given fault result is got same p)

  pub in_volume : (old new : StoreOver S E) (found : Option Volume) (volume : Volume) (plan : Plan) (result : Result Reply StepFault) → found ≡ Some volume → Played shelf_seen seen plan old new result
      → Played shelf_seen seen (if_volume old.tables found plan) old new result
  in_volume old new found volume plan result is p = subst (λ (f : Option Volume). Played shelf_seen seen (if_volume old.tables f plan) old new result) (sym is) p

  pub no_volume : (store : StoreOver S E) (found : Option Volume) (plan : Plan) → found ≡ None → IsStore store → Played shelf_seen seen (if_volume store.tables found plan) store store (Ok (replies.Refused causes.NoVolume))
  no_volume store found plan is sound =
      subst (λ (f : Option Volume). Played shelf_seen seen (if_volume store.tables f plan) store store (Ok (replies.Refused causes.NoVolume))) (sym is) (refused_here store causes.NoVolume _ refl sound)

  pub in_disk : (old new : StoreOver S E) (disk : ℕ) (plan : Plan) (result : Result Reply StepFault) → is_some (disk_at old.tables.disks disk) ≡ true → Played shelf_seen seen plan old new result → Played shelf_seen seen (if_disk old.tables disk plan) old new result
  in_disk old new disk plan result is p = subst (λ (b : Bool). Played shelf_seen seen (cond b plan (refused old.tables causes.NoDisk)) old new result) (sym is) p

  pub no_disk : (store : StoreOver S E) (disk : ℕ) (plan : Plan) → is_some (disk_at store.tables.disks disk) ≡ false → IsStore store → Played shelf_seen seen (if_disk store.tables disk plan) store store (Ok (replies.Refused causes.NoDisk))
  no_disk store disk plan is sound =
      subst (λ (b : Bool). Played shelf_seen seen (cond b plan (refused store.tables causes.NoDisk)) store store (Ok (replies.Refused causes.NoDisk))) (sym is) (refused_here store causes.NoDisk _ refl sound)

  -- ---- disks

  pub disks_done : (tables after : State) (volumes : List (Option (OpenedOver S E))) (count : ℕ) (fault : Option AdminFault) → fault ≡ None → after ≡ record tables { disks = replicate count new_disk } → length tables.disks ≡ 0 → IsStore (over tables volumes)
      → Played shelf_seen seen (disks_plan tables count fault) (over tables volumes) (over after volumes) (Ok replies.Disks)
  disks_done tables after volumes count fault none is empty sound =
      subst (λ (f : Option AdminFault). Played shelf_seen seen (disks_plan tables count f) (over tables volumes) (over after volumes) (Ok replies.Disks)) (sym none)
      (over_done (over tables volumes) (over after volumes) tables (record tables { disks = replicate count new_disk }) replies.Disks refl is
      (subst (λ (t : State). IsStore (over t volumes)) (sym is) (store_first_disks tables (replicate count new_disk) volumes empty sound)))

  pub disks_off : (tables after : State) (volumes : List (Option (OpenedOver S E))) (count : ℕ) (fault : Option AdminFault) (error : AdminFault) (cause : Refusal) → error ≡ unwrap_or fault faults.Memory → disks_refused error ≡ Some cause → after ≡ tables
      → IsStore (over tables volumes) → Played shelf_seen seen (disks_plan tables count fault) (over tables volumes) (over after volumes) (Ok (replies.Refused cause))
  disks_off tables after volumes count None error cause e c is sound = absurd (let none : None ≡ Some cause = ap disks_refused (sym e) ∙ c in cc)
  disks_off tables after volumes count (Some fault) error cause e c is sound =
      let same : unwrap_or (disks_refused fault) causes.Limit ≡ cause = ap (λ (f : Option Refusal). unwrap_or f causes.Limit) (ap disks_refused (sym e) ∙ c) in
      subst (λ (t : State). Played shelf_seen seen (refused tables (unwrap_or (disks_refused fault) causes.Limit)) (over tables volumes) (over t volumes) (Ok (replies.Refused cause))) (sym is)
      (refused_here (over tables volumes) (unwrap_or (disks_refused fault) causes.Limit) (replies.Refused cause) (ap replies.Refused (sym same)) sound)

  pub break_off : (tables after : State) (volumes : List (Option (OpenedOver S E))) (disk : ℕ) (fault : Option AdminFault) (error : AdminFault) (cause : Refusal) → fault ≡ Some error → cause ≡ disk_refusal error → after ≡ tables → IsStore (over tables volumes)
      → Played shelf_seen seen (break_plan tables disk fault) (over tables volumes) (over after volumes) (Ok (replies.Refused cause))
  break_off tables after volumes disk fault error cause e c is sound =
      subst (λ (f : Option AdminFault). Played shelf_seen seen (break_plan tables disk f) (over tables volumes) (over after volumes) (Ok (replies.Refused cause))) (sym e)
      (subst (λ (t : State). Played shelf_seen seen (refused tables (disk_refusal error)) (over tables volumes) (over t volumes) (Ok (replies.Refused cause))) (sym is)
      (refused_here (over tables volumes) (disk_refusal error) (replies.Refused cause) (ap replies.Refused c) sound))

  pub break_on : (tables after : State) (volumes : List (Option (OpenedOver S E))) (new : StoreOver S E) (disk : ℕ) (fault : Option AdminFault) (result : Result Reply StepFault) → fault ≡ None → after ≡ breaks_disk tables disk
      → Played shelf_seen seen (by_each after (turns.Break disk) replies.Broken) (over after volumes) new result → Played shelf_seen seen (break_plan tables disk fault) (over tables volumes) new result
  break_on tables after volumes new disk fault result none is p =
      subst (λ (f : Option AdminFault). Played shelf_seen seen (break_plan tables disk f) (over tables volumes) new result) (sym none)
      (played_from (over tables volumes) (over (breaks_disk tables disk) volumes) new (by_each (breaks_disk tables disk) (turns.Break disk) replies.Broken) result refl
      (subst (λ (t : State). Played shelf_seen seen (by_each t (turns.Break disk) replies.Broken) (over t volumes) new result) is p))

  -- ---- objects

  pub in_names : (old new : StoreOver S E) (found : Option Object) (object : Object) (result : Result Reply StepFault) → found ≡ Some object
      → Played shelf_seen seen (Plan.Ask old.tables (object.vid - 1) (turns.Get object.bid object.size) (got old.tables)) old new result → Played shelf_seen seen (get_plan old.tables found) old new result
  in_names old new found object result is p = subst (λ (f : Option Object). Played shelf_seen seen (get_plan old.tables f) old new result) (sym is) p

  pub no_name : (store : StoreOver S E) (found : Option Object) → found ≡ None → IsStore store → Played shelf_seen seen (get_plan store.tables found) store store (Ok (replies.Refused causes.NoName))
  no_name store found is sound = subst (λ (f : Option Object). Played shelf_seen seen (get_plan store.tables f) store store (Ok (replies.Refused causes.NoName))) (sym is) (refused_here store causes.NoName _ refl sound)

-- ---- tests

no_disks : (count : ℕ) (b : Bool) → first_fault ((not (count == 0), faults.DisksGiven count) ∷ (b, faults.LimitDisks) ∷ []) ≡ None → count ≡ 0
no_disks count b h = elim (tells count 0) [
  | inl zero_ ↦ zero_.1
  | inr more ↦ absurd (let e : Some (faults.DisksGiven count) ≡ None = sym (ap (λ (t : Bool). first_fault ((not t, faults.DisksGiven count) ∷ (b, faults.LimitDisks) ∷ [])) more.0) ∙ h in cc)
]

pub none_given : (tables : State) (count : ℕ) → set_disks_fault tables count ≡ None → length tables.disks ≡ 0
none_given tables count h = no_disks (length tables.disks) _ h

disk_by : (disks : List Disk) (disk : ℕ) (found : Option Disk) → disk_at disks disk ≡ found → is_some found ≡ true → IsNumber disks disk
disk_by disks disk (Some one) e h = disk_there disks disk one e
disk_by disks disk None e h = absurd (cc h)

pub disk_number : (disks : List Disk) (disk : ℕ) → is_some (disk_at disks disk) ≡ true → IsNumber disks disk
disk_number disks disk h = disk_by disks disk (disk_at disks disk) refl h

unbroken_by : (disks : List Disk) (disk : ℕ) (found : Option Disk) → disk_at disks disk ≡ found → state_fault is_normal found ≡ None → IsNumber disks disk
unbroken_by disks disk (Some one) e h = disk_there disks disk one e
unbroken_by disks disk None e h = absurd (cc h)

pub unbroken_number : (tables : State) (disk : ℕ) → break_fault tables disk ≡ None → IsNumber tables.disks disk
unbroken_number tables disk h = unbroken_by tables.disks disk (disk_at tables.disks disk) refl h

module _ {S E : Type 0} (shelf_seen : S → ShelfView E) (seen : E → FileView) where
  pub get_for : (store : StoreOver S E) (object : Object) → IsStore store → IsHeld store.tables object → IsFor shelf_seen seen store.volumes (object.vid - 1) (turns.Get object.bid object.size)
  get_for store object sound held =
      let at = stands_at store.tables.volumes object.vid held.volume held.there in
      let opened = slot_there store (object.vid - 1) held.volume sound at.there in
      record { opened = opened.opened; there = opened.there; fits = (held.first, held.last, held.bids) }

pub some_vid : (tables : State) (object : Object) → IsHeld tables object → 1 ≤ object.vid
some_vid tables object held = positive object.vid (stands_at tables.volumes object.vid held.volume held.there).first

pub planned_end : (tables : State) (reply : VolumeReply) (refusal : Option VolumeRefusal) (answer : Reply) → refusal ≡ refusal_in reply → answer ≡ told replies.Planned refusal → planned tables reply ≡ done tables answer
planned_end tables reply refusal answer r a = ap (done tables) (ap (told replies.Planned) (sym r) ∙ sym a)
