use Rattle.std.proofs.Common.{◌+◌, ◌++◌, length, drop, sym, ◌∙◌, ap, subst, arith, length-append}
use Rattle.std.specs.List.{IsDistinct}
use Rattle.std.specs.Map.{keys_of}
use Rattle.std.specs.Str.{bytes_eq}
use Rattle.std.proofs.lemmas.List.{append-nil}
use Rattle.cluster_admin.specs.Names.{all_names}
use Rattle.cluster_admin.proofs.NameBlocks.{one_block_more, distinct_front, all_gone}
use Rattle.cluster_admin.proofs.names.Names.packed.Goals as goal

pub loop-block-init : goal.loop-block-init
loop-block-init c =
    ap (λ names. names ++ all_names c.deref-block-items.result.now) c.none-names.ensures ∙ ap all_names c.deref-block-items.ensures.value ∙ c.self.view_is

pub append_all-requires-clause-once : goal.append_all-requires-clause-once
append_all-requires-clause-once c =
    let items = c.deref-block-items.result.now in
    let rest = all_names (drop (c.loop-block.block-index + 1) items) in
    let whole = one_block_more c.loop-block.names c.args.self.now items c.loop-block.block-index c.block-item.result c.loop-block-test.true c.block-item.is c.loop-block.invariant in
    distinct_front (c.loop-block.names ++ c.block-item.result) rest
    (subst (λ names. IsDistinct bytes_eq (keys_of names)) (c.self.view_is ∙ sym whole) c.self.invariant.once)

pub append_all-requires-clause-few : goal.append_all-requires-clause-few
append_all-requires-clause-few c =
    let items = c.deref-block-items.result.now in
    let rest = all_names (drop (c.loop-block.block-index + 1) items) in
    let whole = one_block_more c.loop-block.names c.args.self.now items c.loop-block.block-index c.block-item.result c.loop-block-test.true c.block-item.is c.loop-block.invariant in
    omega (arith, c.requires, ap length whole, length-append (c.loop-block.names ++ c.block-item.result) rest)

pub loop-block-preserved : goal.loop-block-preserved
loop-block-preserved c =
    let items = c.deref-block-items.result.now in
    ap (λ names. names ++ all_names (drop (c.loop-block.block-index + 1) items)) c.in_ok-append_all.ensures
    ∙ one_block_more c.loop-block.names c.args.self.now items c.loop-block.block-index c.block-item.result c.loop-block-test.true c.block-item.is c.loop-block.invariant

pub returns : goal.returns
returns c =
    let gone = all_gone c.deref-block-items.result.now c.loop-block.block-index c.loop-block-test.false in
    sym (append-nil c.loop-block.names) ∙ ap (λ blocks. c.loop-block.names ++ all_names blocks) (sym gone) ∙ c.loop-block.invariant
