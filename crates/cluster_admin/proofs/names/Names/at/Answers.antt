use Rattle.std.proofs.Common.{◌≡◌, ◌+◌, ◌-◌, length, drop, sym, ◌∙◌, ap, arith}
use Rattle.std.specs.Prelude.{slice_get}
use Rattle.cluster_admin.specs.Names.{all_names}
use Rattle.cluster_admin.proofs.NameBlocks.{next_block, get_within, get_behind, all_gone}
use Rattle.cluster_admin.proofs.names.Names.at.Goals as goal

pub loop-block-init : goal.loop-block-init
loop-block-init c = ap (λ blocks. slice_get (all_names blocks) c.args.place) c.deref-block-items.ensures.value ∙ ap (λ names. slice_get names c.args.place) c.self.view_is

pub returns-then-left-len : goal.returns-then-left-len
returns-then-left-len c =
    let items = c.deref-block-items.result.now in
    let block = c.block-item.result in
    let left = c.loop-block.left in
    let next = next_block items c.loop-block.block-index block c.loop-block-test.true c.block-item.is in
    c.at.ensures ∙ sym (get_within block (all_names (drop (c.loop-block.block-index + 1) items)) left (omega (arith, c.len.ensures, c.if-left-len.true)))
    ∙ sym (ap (λ names. slice_get names left) next) ∙ c.loop-block.invariant

pub loop-block-preserved : goal.loop-block-preserved
loop-block-preserved c =
    let items = c.deref-block-items.result.now in
    let block = c.block-item.result in
    let left = c.loop-block.left in
    let next = next_block items c.loop-block.block-index block c.loop-block-test.true c.block-item.is in
    let behind : length block + (left - c.len-left.result) ≡ left = omega (arith, c.len.ensures, c.len-left.ensures, c.if-left-len.false) in
    sym (get_behind block (all_names (drop (c.loop-block.block-index + 1) items)) left (left - c.len-left.result) behind)
    ∙ sym (ap (λ names. slice_get names left) next) ∙ c.loop-block.invariant

pub returns : goal.returns
returns c =
    let gone = all_gone c.deref-block-items.result.now c.loop-block.block-index c.loop-block-test.false in
    sym (ap (λ blocks. slice_get (all_names blocks) c.loop-block.left) gone) ∙ c.loop-block.invariant
