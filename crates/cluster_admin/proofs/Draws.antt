-- Placers that are shown one list after another.
use Rattle.std.proofs.Common.{◌≡◌, ℕ, ◌<◌, suc, Bool, true, false, if◌then◌else◌, set, List, [], ◌∷◌, ◌++◌, length, get_or, refl, sym, ap, ◌∙◌, ◌+◌, subst, append_assoc, add-one, arith}
use Rattle.std.proofs.lemmas.List.{append-nil}
use Rattle.std.specs.Prelude.{Option, Some, None, slice_get}
use Rattle.std.proofs.lemmas.Option.{slice_get-get_or}
use Rattle.cluster_admin.specs.declared.placer.Place.{Place}
use Rattle.cluster_admin.specs.Placing.{Plan, IsAfter}
use Rattle.unit_id.specs.declared.targets.Target.{Target}
use Rattle.cluster_admin.specs.declared.disks.Disk.{Disk}
use Rattle.cluster_admin.specs.declared.volumes.Volume.{Volume}
use Rattle.cluster_admin.specs.declared.plans.Planned.{Planned}
use Rattle.cluster_admin.specs.Choosing.{options_of}
use Rattle.cluster_admin.specs.Drawing.{choice, shown_after, disk_of, drawn, Aimed, aim_among, aim_target, aim_task, aimed_at, aimed_first, stays, homes_of, with_target}

-- the disk of the option that is picked
pub choice_picked : (plan : Plan) (options : List Place) (pick : ℕ) (d : Place) → pick < length options → pick ≡ plan (options ∷ []) → (get_or options pick d).disk ≡ choice plan [] options
choice_picked plan [] pick d within picked = absurd (omega (arith, within))
choice_picked plan (option ∷ options) pick d within picked =
    sym (ap (λ p. disk_of (slice_get (option ∷ options) p)) (sym picked) ∙ ap disk_of (slice_get-get_or (option ∷ options) pick d within))

-- a placer that was shown lists chooses as the old one did behind them
pub choice_after : (old new : Plan) (shown : List (List Place)) (options : List Place) → IsAfter old shown new → choice new [] options ≡ choice old shown options
choice_after old new shown [] after = refl
choice_after old new shown (option ∷ options) after = ap (λ p. disk_of (slice_get (option ∷ options) p)) (after (option ∷ options) [])

pub shown_is : (shown : List (List Place)) (options : List Place) → shown_after shown options ≡ shown ++ shown_after [] options
shown_is shown [] = sym (append-nil shown)
shown_is shown (option ∷ options) = refl

-- lists that are shown behind lists
pub after_after : (old middle new : Plan) (shown more : List (List Place)) → IsAfter old shown middle → IsAfter middle more new → IsAfter old (shown ++ more) new
after_after old middle new shown [] first second list later = second list later ∙ first list later ∙ ap (λ lists. old (lists ++ list ∷ later)) (sym (append-nil shown))
after_after old middle new shown (one ∷ more) first second list later =
    second list later ∙ first one (more ++ list ∷ later) ∙ ap old (sym (append_assoc shown (one ∷ more) (list ∷ later)))

-- nothing more was shown
pub after_same : (old middle new : Plan) (shown : List (List Place)) → IsAfter old shown middle → IsAfter middle [] new → IsAfter old shown new
after_same old middle new shown first second list later = second list later ∙ first list later

-- options that are shown behind lists
pub after_options : (old middle new : Plan) (shown : List (List Place)) (options : List Place) → IsAfter old shown middle → IsAfter middle (shown_after [] options) new → IsAfter old (shown_after shown options) new
after_options old middle new shown options first second =
    subst (λ lists. IsAfter old lists new) (sym (shown_is shown options)) (after_after old middle new shown (shown_after [] options) first second)

module _ (old middle new : Plan) (disks : List Disk) (volumes : List (Option Volume)) where
  -- one disk more for a new volume
  pub draw_step : (index : ℕ) (homes : List ℕ) → homes ≡ (drawn old disks volumes index).homes → IsAfter old (drawn old disks volumes index).shown middle
      → IsAfter middle (shown_after [] (options_of disks volumes homes [] 0)) new
      → (homes ++ choice middle [] (options_of disks volumes homes [] 0) ∷ [] ≡ (drawn old disks volumes (suc index)).homes) × IsAfter old (drawn old disks volumes (suc index)).shown new
  draw_step index homes is first second =
      let before = drawn old disks volumes index in
      let P : List ℕ → Type 0 = λ hs. IsAfter middle (shown_after [] (options_of disks volumes hs [] 0)) new
      → (hs ++ choice middle [] (options_of disks volumes hs [] 0) ∷ [] ≡ (drawn old disks volumes (suc index)).homes) × IsAfter old (drawn old disks volumes (suc index)).shown new in
      subst P (sym is) (λ s. (
        ap (λ disk. before.homes ++ disk ∷ []) (choice_after old middle before.shown (options_of disks volumes before.homes [] 0) first),
        after_options old middle new before.shown (options_of disks volumes before.homes [] 0) first s,
      )) second

  -- what a later placer does to the tasks is what the old one does behind the lists that were shown
  pub Joins : Aimed → Aimed → Type 0
  Joins part whole = IsAfter middle part.shown new → (part.tasks ≡ whole.tasks) × IsAfter old whole.shown new

  module _ (place number : ℕ) (tasks : List Planned) (shown : List (List Place)) (first : IsAfter old shown middle) where
    join_same : Joins (record { tasks = tasks; shown = [] }) (record { tasks = tasks; shown = shown })
    unfolding Joins
    join_same second = (refl, after_same old middle new shown first second)

    join_target : (task : Planned) (target : Option Target)
        → Joins (aim_target middle disks volumes place (record { tasks = tasks; shown = [] }) number task target) (aim_target old disks volumes place (record { tasks = tasks; shown = shown }) number task target)
    unfolding Joins
    join_target task None = join_same
    join_target task (Some target) = go (stays disks target.disk) where
      go : (test : Bool) → Joins
          (if test then record { tasks = tasks; shown = [] } else aim_among middle disks volumes place (record { tasks = tasks; shown = [] }) number task target (options_of disks volumes (homes_of volumes task.vid) tasks task.vid))
          (if test then record { tasks = tasks; shown = shown } else aim_among old disks volumes place (record { tasks = tasks; shown = shown }) number task target (options_of disks volumes (homes_of volumes task.vid) tasks task.vid))
      go true = join_same
      go false = λ second.
          let options = options_of disks volumes (homes_of volumes task.vid) tasks task.vid in (
            ap (λ disk. set tasks place (with_target task number (record { index = target.index; disk = disk }))) (choice_after old middle shown options first),
            after_options old middle new shown options first second,
          )

    join_task : (found : Option Planned)
        → Joins (aim_task middle disks volumes place (record { tasks = tasks; shown = [] }) number found) (aim_task old disks volumes place (record { tasks = tasks; shown = shown }) number found)
    join_task None = join_same
    join_task (Some task) = join_target task (slice_get task.targets number)

    pub join_aimed : IsAfter middle (aimed_at middle disks volumes place (record { tasks = tasks; shown = [] }) number).shown new
        → ((aimed_at middle disks volumes place (record { tasks = tasks; shown = [] }) number).tasks ≡ (aimed_at old disks volumes place (record { tasks = tasks; shown = shown }) number).tasks)
        × IsAfter old (aimed_at old disks volumes place (record { tasks = tasks; shown = shown }) number).shown new
    unfolding Joins
    join_aimed second = join_task (slice_get tasks place) second

  -- one target more of a task
  pub aim_step : (place number : ℕ) (at_first tasks : List Planned) → tasks ≡ (aimed_first old disks volumes at_first place number).tasks → IsAfter old (aimed_first old disks volumes at_first place number).shown middle
      → IsAfter middle (aimed_at middle disks volumes place (record { tasks = tasks; shown = [] }) number).shown new
      → ((aimed_at middle disks volumes place (record { tasks = tasks; shown = [] }) number).tasks ≡ (aimed_first old disks volumes at_first place (suc number)).tasks)
      × IsAfter old (aimed_first old disks volumes at_first place (suc number)).shown new
  aim_step place number at_first tasks is first second =
      let before = aimed_first old disks volumes at_first place number in
      let P : List Planned → Type 0 = λ ts. IsAfter middle (aimed_at middle disks volumes place (record { tasks = ts; shown = [] }) number).shown new
      → ((aimed_at middle disks volumes place (record { tasks = ts; shown = [] }) number).tasks ≡ (aimed_first old disks volumes at_first place (suc number)).tasks)
      × IsAfter old (aimed_first old disks volumes at_first place (suc number)).shown new in
      subst P (sym is) (λ s. join_aimed place number before.tasks before.shown first s) second

  -- the same, as a loop counts
  pub aim_more : (place number : ℕ) (at_first tasks after : List Planned) → tasks ≡ (aimed_first old disks volumes at_first place number).tasks → IsAfter old (aimed_first old disks volumes at_first place number).shown middle
      → after ≡ (aimed_at middle disks volumes place (record { tasks = tasks; shown = [] }) number).tasks
      → IsAfter middle (aimed_at middle disks volumes place (record { tasks = tasks; shown = [] }) number).shown new
      → (after ≡ (aimed_first old disks volumes at_first place (number + 1)).tasks) × IsAfter old (aimed_first old disks volumes at_first place (number + 1)).shown new
  aim_more place number at_first tasks after is first after_is second =
      let step = aim_step place number at_first tasks is first second in
      let P : ℕ → Type 0 = λ n. (after ≡ (aimed_first old disks volumes at_first place n).tasks) × IsAfter old (aimed_first old disks volumes at_first place n).shown new in
      subst P (sym (add-one number)) (after_is ∙ step.0, step.1)

  pub draw_more : (index : ℕ) (homes after : List ℕ) → homes ≡ (drawn old disks volumes index).homes → IsAfter old (drawn old disks volumes index).shown middle
      → after ≡ homes ++ choice middle [] (options_of disks volumes homes [] 0) ∷ []
      → IsAfter middle (shown_after [] (options_of disks volumes homes [] 0)) new
      → (after ≡ (drawn old disks volumes (index + 1)).homes) × IsAfter old (drawn old disks volumes (index + 1)).shown new
  draw_more index homes after is first after_is second =
      let step = draw_step index homes is first second in
      let P : ℕ → Type 0 = λ n. (after ≡ (drawn old disks volumes n).homes) × IsAfter old (drawn old disks volumes n).shown new in
      subst P (sym (add-one index)) (after_is ∙ step.0, step.1)
