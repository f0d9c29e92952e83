-- The words are those of all units.
use Rattle.std.proofs.Common.{List, ℕ, inr, subst}
use Rattle.unit_id.specs.Lists.{IsIn}
use Rattle.blob_node.specs.Starting.{StartsEach}
use Rattle.blob_node.proofs.Starts.{all_there}
use Rattle.blob_node.proofs.starting.start_all.Goals as goal

pub start_each-requires : goal.start_each-requires
start_each-requires g c = λ word there.
    all_there c.args.units.now c.in_ok-words.words.items c.in_ok-words.ensures.all word (subst (λ (ws : List ℕ). IsIn word ws) c.as_slice.ensures.value there)

pub returns : goal.returns
returns g c = record {
  named = c.in_ok-words.ensures.named;
  starts = inr (
    c.in_ok-words.words.items,
    record { order = c.in_ok-words.ensures.order; all = c.in_ok-words.ensures.all },
    subst (λ (ws : List ℕ). StartsEach g.E.Extent.seen ws c.args.units.now c.start_each.new.units c.args.settled.now.items c.start_each.new.settled.items c.start_each.result) c.as_slice.ensures.value c.start_each.ensures,
  );
}
