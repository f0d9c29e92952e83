use Rattle.std.proofs.Common.{◌-◌, set, sym, ◌∙◌, ap, arith, subst}
use Rattle.std.specs.Map.{lookup, remove_entry}
use Rattle.std.specs.Str.{bytes_eq}
use Rattle.cluster_admin.specs.Names.{all_names, IsIndexed}
use Rattle.cluster_admin.proofs.NameBlocks.{within, stands_in, stands_nowhere, found_in, found_nowhere, some_held, removed, removed_names, remove_none}
use Rattle.cluster_admin.proofs.names.Names.remove.Goals as goal

pub overflow_sub-self : goal.overflow_sub-self
overflow_sub-self c = some_held c.args.name.now c.self.inside.blocks.items c.self.inside.index c.self.inside.count c.in-Some.number c.self.invariant (sym c.in-Some.ensures)

pub index_mut-requires : goal.index_mut-requires
index_mut-requires c =
    let name = c.args.name.now in
    let blocks = c.self.inside.blocks.items in
    let below = within name blocks c.in-Some.number (stands_in name blocks c.in-Some.number (sym (c.self.invariant.blocks_are name) ∙ sym c.in-Some.ensures)) in
    omega arith

pub invariant_of-self : goal.invariant_of-self
invariant_of-self c =
    let blocks = c.self.inside.blocks.items in
    let after = c.remove.new.self in
    subst (λ block. IsIndexed (set blocks c.in-Some.number block) after (c.self.inside.count - 1)) (sym c.remove-in-Some.ensures.rest)
    (removed c.args.name.now blocks c.self.inside.index after c.self.inside.count c.in-Some.number c.index_mut.result.now
    c.self.invariant (sym c.in-Some.ensures) c.index_mut.ensures.value c.remove.ensures)

pub returns-in-Some-clause-found : goal.returns-in-Some-clause-found
returns-in-Some-clause-found c =
    let name = c.args.name.now in
    let blocks = c.self.inside.blocks.items in
    let here = stands_in name blocks c.in-Some.number (sym (c.self.invariant.blocks_are name) ∙ sym c.in-Some.ensures) in
    c.remove-in-Some.ensures.found ∙ sym (found_in name blocks c.in-Some.number c.index_mut.result.now here c.index_mut.ensures.value)
    ∙ ap (lookup (bytes_eq name)) c.self.view_is

pub returns-in-Some-clause-rest : goal.returns-in-Some-clause-rest
returns-in-Some-clause-rest c =
    let name = c.args.name.now in
    let blocks = c.self.inside.blocks.items in
    let here = stands_in name blocks c.in-Some.number (sym (c.self.invariant.blocks_are name) ∙ sym c.in-Some.ensures) in
    ap (λ block. all_names (set blocks c.in-Some.number block)) c.remove-in-Some.ensures.rest
    ∙ removed_names name blocks c.in-Some.number c.index_mut.result.now here c.index_mut.ensures.value
    ∙ ap (remove_entry (bytes_eq name)) c.self.view_is

pub returns-in-None-clause-found : goal.returns-in-None-clause-found
returns-in-None-clause-found c =
    let name = c.args.name.now in
    let blocks = c.self.inside.blocks.items in
    let none = stands_nowhere name blocks (sym (c.self.invariant.blocks_are name) ∙ sym c.in-None.ensures) in
    sym (found_nowhere name blocks none) ∙ ap (lookup (bytes_eq name)) c.self.view_is

pub returns-in-None-clause-rest : goal.returns-in-None-clause-rest
returns-in-None-clause-rest c =
    let name = c.args.name.now in
    let blocks = c.self.inside.blocks.items in
    let none = stands_nowhere name blocks (sym (c.self.invariant.blocks_are name) ∙ sym c.in-None.ensures) in
    sym (remove_none (bytes_eq name) c.args.self.now (ap (lookup (bytes_eq name)) (sym c.self.view_is) ∙ found_nowhere name blocks none))
