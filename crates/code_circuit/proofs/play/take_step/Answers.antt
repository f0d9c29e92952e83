use Rattle.std.proofs.Common.{arith, ap, sym, ◌∙◌, length}
use Rattle.std.proofs.lemmas.List.{with_items_is}
use Rattle.std.specs.Vec.{with_items}
use Rattle.gf256.specs.Field.{plus_scaled}
use Rattle.gf256.proofs.Scaled.{length-plus_scaled}
use Rattle.code_circuit.proofs.Moves.{source_kept, step_taken, lengths_fit}
use Rattle.code_circuit.proofs.play.take_step.Goals as goal

pub scale_add-requires : goal.scale_add-requires
scale_add-requires c =
    ap length (c.deref_mut.ensures.value ∙ ap (λ v. v.items) c.replace-target.ensures.value)
    ∙ lengths_fit (λ register. register.items) c.args.registers.now.items c.args.step.now c.replace-target.new.dest c.index_mut.result.now c.index.result.now c.requires.allowed c.requires.even
    c.index_mut.ensures.value c.index.ensures
    ∙ sym (ap length c.deref.ensures.value)

pub returns : goal.returns
returns c =
    let held = c.index_mut.result.now in
    let factor = c.args.step.now.factor in
    step_taken (λ register. register.items) c.args.registers.now.items c.args.step.now c.replace-target.new.dest held (with_items c.replace-target.result c.scale_add.new.out) c.requires.allowed c.index_mut.ensures.value
    (with_items_is c.replace-target.result c.scale_add.new.out (omega (arith, ap length c.scale_add.ensures, length-plus_scaled c.deref_mut.result.now factor c.deref.result.now, ap length c.deref_mut.ensures.value, c.replace-target.result.ok.0))
    ∙ c.scale_add.ensures
    ∙ ap (λ xs. plus_scaled xs factor c.deref.result.now) (c.deref_mut.ensures.value ∙ ap (λ v. v.items) c.replace-target.ensures.value)
    ∙ ap (plus_scaled held.items factor) (c.deref.ensures.value ∙ ap (λ v. v.items) c.index.ensures
    ∙ source_kept (λ register. register.items) c.args.registers.now.items c.args.step.now c.replace-target.new.dest c.index.result.now c.requires.allowed))
