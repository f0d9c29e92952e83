use Rattle.std.proofs.Common.{◌≡◌, ℕ, ◌+◌, List, [], ◌∷◌, ◌++◌, None, set, refl, sym, ◌∙◌, ap, subst, arith}
use Rattle.std.specs.Map.{lookup}
use Rattle.std.specs.Str.{bytes_eq}
use Rattle.std.proofs.lemmas.List.{set-get_or}
use Rattle.cluster_admin.specs.declared.names.Object.{Object}
use Rattle.cluster_admin.specs.Names.{all_names, IsIndexed}
use Rattle.cluster_admin.proofs.NameBlocks.{absent_in, nowhere, unnumbered, kept_index, added, added_names, undone}
use Rattle.cluster_admin.proofs.names.Names.append.Goals as goal

pub add-requires : goal.add-requires
add-requires c =
    let name = c.args.name.now in
    let blocks = c.block_with_room.new.blocks.items in
    let none : lookup (bytes_eq name) (all_names blocks) ≡ None = ap (lookup (bytes_eq name)) (c.in_ok-number.ensures.same.names ∙ c.self.view_is) ∙ c.requires.new in
    absent_in name blocks c.in_ok-number.number c.index_mut.result.now (nowhere name blocks none) (omega (arith, c.in_ok-number.ensures.last)) c.index_mut.ensures.value

pub invariant_of-self-in-Ok : goal.invariant_of-self-in-Ok
invariant_of-self-in-Ok c =
    let name = c.args.name.now in
    let blocks = c.block_with_room.new.blocks.items in
    let number = c.in_ok-number.number in
    let same = c.in_ok-number.ensures.same in
    let none : lookup (bytes_eq name) (all_names blocks) ≡ None = ap (lookup (bytes_eq name)) (same.names ∙ c.self.view_is) ∙ c.requires.new in
    let kept = kept_index c.self.inside.blocks.items blocks c.self.inside.index c.self.inside.index c.self.inside.count c.self.invariant same (λ (name : List ℕ). refl) in
    subst (λ block. IsIndexed (set blocks number block) c.set.new.self (c.self.inside.count + 1)) (sym c.in-Ok.ensures.ok)
    (added name c.args.at blocks c.self.inside.index c.set.new.self c.self.inside.count number c.index_mut.result.now
    kept none c.in_ok-number.ensures.last c.index_mut.ensures.value c.in_ok-set.ensures.ok)

pub invariant_of-self-in-Err : goal.invariant_of-self-in-Err
invariant_of-self-in-Err c =
    let name = c.args.name.now in
    let blocks = c.block_with_room.new.blocks.items in
    let number = c.in_ok-number.number in
    let old = c.self.inside.blocks.items in
    let none = unnumbered name old (nowhere name old (ap (lookup (bytes_eq name)) c.self.view_is ∙ c.requires.new)) in
    let unchanged : set blocks number c.add.new.self ≡ blocks = ap (set blocks number) (c.in-Err.ensures.err ∙ c.index_mut.ensures.value) ∙ set-get_or blocks number c.index_mut.result.now in
    subst (λ after. IsIndexed after c.remove.new.self c.self.inside.count) (sym unchanged)
    (kept_index old blocks c.self.inside.index c.remove.new.self c.self.inside.count c.self.invariant c.in_ok-number.ensures.same
    (undone name number c.self.inside.index c.set.new.self c.remove.new.self (c.self.invariant.blocks_are name ∙ none) c.in_ok-set.ensures.ok c.remove.ensures))

pub returns-in-Ok-clause-ok : goal.returns-in-Ok-clause-ok
returns-in-Ok-clause-ok c =
    let blocks = c.block_with_room.new.blocks.items in
    let number = c.in_ok-number.number in
    let entry : List ℕ × Object = (c.args.name.now, c.args.at) in
    ap (λ block. all_names (set blocks number block)) c.in-Ok.ensures.ok
    ∙ added_names blocks number c.index_mut.result.now entry c.in_ok-number.ensures.last c.index_mut.ensures.value
    ∙ ap (λ names. names ++ entry ∷ []) (c.in_ok-number.ensures.same.names ∙ c.self.view_is)
