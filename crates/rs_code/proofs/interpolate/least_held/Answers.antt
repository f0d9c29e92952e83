use Rattle.std.proofs.Common.{◌∙◌, sym, arith}
use Rattle.rs_code.proofs.Held.{found-first, found-skip, found-full, found-more, found-last}
use Rattle.rs_code.proofs.interpolate.least_held.Goals.{then-len-n+then-holds+in_ok-push, else-len-n, else-len-n-via-then-len-n+else-holds, else-len-n-via-else-len-n}
use Rattle.rs_code.proofs.interpolate.least_held.Goals as goal

pub loop-k-preserved : goal.loop-k-preserved
loop-k-preserved c = elim c.if-len-n.branch [
  | then-len-n+then-holds+in_ok-push w ↦ rw (w.places-is, w.in_ok-push.ensures.items)
      (found-more c.args.n c.args.shards.now c.loop-k.places.items c.loop-k.k (omega arith) (sym w.holds.ensures ∙ w.if-holds.true) (omega arith) ∙ c.loop-k.invariant)
  | else-len-n w ↦ rw w.places-is (elim w.else-len-n.branch [
    | else-len-n-via-then-len-n+else-holds v ↦ found-skip c.args.n c.args.shards.now c.loop-k.places.items c.loop-k.k (omega arith) (sym v.holds.ensures ∙ v.if-holds.false) ∙ c.loop-k.invariant
    | else-len-n-via-else-len-n v ↦ found-full c.args.n c.args.shards.now c.loop-k.places.items c.loop-k.k (omega arith) ∙ c.loop-k.invariant
  ])
]

pub returns : goal.returns
returns c =
    sym (found-last c.args.n c.args.shards.now c.loop-k.places.items c.loop-k.k (omega arith))
    ∙ c.loop-k.invariant
    ∙ found-first c.args.n c.args.shards.now
