-- Targets of ascending indexes, and those of locks and tasks.
use Rattle.std.proofs.Common.{◌≡◌, subst, sym, refl, ℕ, zero, suc, ◌+◌, ◌<◌, ◌≤◌, inl, inr, Bool, true, false, List, [], ◌∷◌, arith}
use Rattle.unit_id.specs.Lists.{IsIn}
use Rattle.unit_id.specs.declared.targets.Target.{Target}
use Rattle.unit_id.specs.declared.task.Task.{Task}
use Rattle.code_mode.specs.VolumeShape.{VolumeShape}
use Rattle.volume_entry.specs.ManagerStep.{AreTargets, AreTargetsInOrder}
use Rattle.volume_entry.specs.TableParts.{shape_of, Tells}
use Rattle.volume_entry.specs.declared.shape.Shape.{Shape}
use Rattle.volume_entry.proofs.Walks.{tells_map}
use Rattle.volume_world.specs.Run.{World}
use Rattle.migrate_task.specs.TaskParts.{IsTaskOf, IsTaskTarget}
use Rattle.memory_volume.specs.Fitting.{origin_with, IsAtLeast, AreAtLeast, FitsTargets}

-- two facts, of which the first is known
pub tells_both : (P Q : Type 0) (answer : Bool) → P → Tells answer Q → Tells answer (P × Q)
tells_both P Q true p q = (p, q)
tells_both P Q false p not = λ both. not both.1

-- ---- all of them

within : (shape : VolumeShape) (disk index : ℕ) (targets : List Target) → AreAtLeast shape disk index targets → (t : Target) → IsIn t targets → IsAtLeast shape disk index t
within shape disk index [] are t there = absurd there
within shape disk index (target ∷ targets) are t (inl same) = subst (λ (x : Target). IsAtLeast shape disk index x) (sym same) are.0
within shape disk index (target ∷ targets) are t (inr behind) =
    let rest = within shape disk (target.index + 1) targets are.1 t behind in
    let first = are.0.from in
    let later = rest.from in
    record { from = omega (arith, first, later); below = rest.below; first = rest.first; last = rest.last }

order_of : (shape : VolumeShape) (disk index : ℕ) (targets : List Target) → AreAtLeast shape disk index targets → AreTargetsInOrder targets
order_of shape disk index [] are = tt
order_of shape disk index (target ∷ targets) are = (
  (λ v behind. let later = (within shape disk (target.index + 1) targets are.1 v behind).from in omega (arith, later)),
  order_of shape disk (target.index + 1) targets are.1,
)

at_least_of : (shape : VolumeShape) (disk index : ℕ) (targets : List Target) → AreTargetsInOrder targets → ((t : Target) → IsIn t targets → IsAtLeast shape disk index t)
    → AreAtLeast shape disk index targets
at_least_of shape disk index [] order each = tt
at_least_of shape disk index (target ∷ targets) order each = (
  each target (inl refl),
  at_least_of shape disk (target.index + 1) targets order.1
      (λ t behind.
      let is = each t (inr behind) in
      let later : target.index < t.index = order.0 t behind in
      record { from = omega (arith, later); below = is.below; first = is.first; last = is.last }),
)

-- ---- locks and tasks

lock_of : (shape : Shape) (targets : List Target) → FitsTargets shape 1 targets → AreTargets (shape_of shape) targets
lock_of shape targets fits = record {
  some = fits.0.0;
  most = fits.0.1;
  order = order_of (shape_of shape) 1 0 targets fits.1;
  each = λ w there.
      let is = within (shape_of shape) 1 0 targets fits.1 w there in
      record { index = is.below; disk = record { first = is.first; last = is.last } };
}

of_lock : (shape : Shape) (targets : List Target) → AreTargets (shape_of shape) targets → FitsTargets shape 1 targets
of_lock shape targets are = (
  (are.some, are.most),
  at_least_of (shape_of shape) 1 0 targets are.order
      (λ w there. let is = are.each w there in record { from = omega arith; below = is.index; first = is.disk.first; last = is.disk.last }),
)

pub lock_tells : (shape : Shape) (targets : List Target) (answer : Bool) → Tells answer (FitsTargets shape 1 targets) → Tells answer (AreTargets (shape_of shape) targets)
lock_tells shape targets answer tells = tells_map (FitsTargets shape 1 targets) (AreTargets (shape_of shape) targets) answer (lock_of shape targets) (of_lock shape targets) tells

module _ (shape : Shape) (told quiet : Bool) (start : World) (task : Task) (own : task.vid ≡ 1) where
  task_of : FitsTargets shape 0 task.targets → IsTaskOf (origin_with shape told quiet start) task
  task_of fits = record {
    volume = own;
    some = fits.0.0;
    most = fits.0.1;
    order = order_of (shape_of shape) 0 0 task.targets fits.1;
    each = λ t there.
        let is = within (shape_of shape) 0 0 task.targets fits.1 t there in
        record { index = is.below; disk = λ there_is. let last = is.last in record { first = some_of t.disk there_is; last = last } };
  }
    where
      some_of : (disk : ℕ) → (disk ≡ 0 → ⊥) → 1 ≤ disk
      some_of zero not = absurd (not refl)
      some_of (suc disk) not = omega arith

  last_of : (target : Target) → IsTaskTarget (shape_of shape) target → target.disk ≤ shape.disks
  last_of target is = go target.disk (λ not. (is.disk not).last)
    where
      go : (disk : ℕ) → ((disk ≡ 0 → ⊥) → disk ≤ shape.disks) → disk ≤ shape.disks
      go zero h = omega arith
      go (suc disk) h = h (λ e. omega (arith, e))

  of_task : IsTaskOf (origin_with shape told quiet start) task → FitsTargets shape 0 task.targets
  of_task is = (
    (is.some, is.most),
    at_least_of (shape_of shape) 0 0 task.targets is.order
        (λ t there. let each = is.each t there in record { from = omega arith; below = each.index; first = omega arith; last = last_of t each }),
  )

  pub task_tells : (answer : Bool) → Tells answer (FitsTargets shape 0 task.targets) → Tells answer (IsTaskOf (origin_with shape told quiet start) task)
  task_tells answer tells = tells_map (FitsTargets shape 0 task.targets) (IsTaskOf (origin_with shape told quiet start) task) answer task_of of_task tells
