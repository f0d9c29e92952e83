use Rattle.std.proofs.Common.{sym, ◌∙◌, ap, arith}
use Rattle.std.specs.Map.{lookup}
use Rattle.std.specs.Str.{bytes_eq}
use Rattle.cluster_admin.proofs.NameBlocks.{within, stands_in, stands_nowhere, found_in, found_nowhere}
use Rattle.cluster_admin.proofs.names.Names.get.Goals as goal

pub index-requires : goal.index-requires
index-requires c =
    let name = c.args.name.now in
    let blocks = c.self.inside.blocks.items in
    let below = within name blocks c.in-Some.number (stands_in name blocks c.in-Some.number (sym (c.self.invariant.blocks_are name) ∙ sym c.in-Some.ensures)) in
    omega arith

pub returns-in-Some : goal.returns-in-Some
returns-in-Some c =
    let name = c.args.name.now in
    let blocks = c.self.inside.blocks.items in
    let here = stands_in name blocks c.in-Some.number (sym (c.self.invariant.blocks_are name) ∙ sym c.in-Some.ensures) in
    c.get-in-Some.ensures ∙ sym (found_in name blocks c.in-Some.number c.index.result.now here c.index.ensures) ∙ ap (lookup (bytes_eq name)) c.self.view_is

pub returns-in-None : goal.returns-in-None
returns-in-None c =
    let name = c.args.name.now in
    let blocks = c.self.inside.blocks.items in
    let none = stands_nowhere name blocks (sym (c.self.invariant.blocks_are name) ∙ sym c.in-None.ensures) in
    sym (found_nowhere name blocks none) ∙ ap (lookup (bytes_eq name)) c.self.view_is
