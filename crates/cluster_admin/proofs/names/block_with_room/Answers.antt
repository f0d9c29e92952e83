use Rattle.std.proofs.Common.{ℕ, List, [], ◌∷◌, ◌++◌, Vec, Global, sym, ◌∙◌, ap, subst}
use Rattle.cluster_admin.specs.declared.names.Object.{Object}
use Rattle.cluster_admin.specs.Names.{KeepsNames}
use Rattle.cluster_admin.proofs.NameBlocks.{opened, unopened}
use Rattle.cluster_admin.proofs.names.block_with_room.Goals as goal
use Rattle.cluster_admin.proofs.names.block_with_room.Goals.{then-not-has_room+in_ok-push, else-not-has_room}

pub returns-clause-same : goal.returns-clause-same
returns-clause-same c =
    let old = c.args.blocks.now.items in
    elim c.if-not-has_room.branch [
      | then-not-has_room+in_ok-push w ↦
          subst (KeepsNames old) (sym (ap (λ (blocks : Vec (List (List ℕ × Object)) Global). blocks.items) w.blocks-is ∙ w.in_ok-push.ensures.items ∙ ap (λ block. old ++ block ∷ []) w.none.ensures)) (opened old)
      | else-not-has_room w ↦ subst (KeepsNames old) (sym (ap (λ (blocks : Vec (List (List ℕ × Object)) Global). blocks.items) w.blocks-is)) (unopened old)
    ]
