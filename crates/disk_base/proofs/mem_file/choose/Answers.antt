use Rattle.std.proofs.Common.{◌≡◌, ◌+◌, ◌<◌, ◌++◌, ℕ, List, true, false, length, take, drop, set, get_or, get_or-drop, ap, ◌∙◌, sym, rules, arith}
use Rattle.std.proofs.lemmas.List.{drop-drop}
use Rattle.disk_base.specs.History.{epoch_of}
use Rattle.disk_base.specs.Images.{is_settled, chosen}
use Rattle.disk_base.proofs.Choices.{chosen-settled, chosen-loose}
use Rattle.disk_base.proofs.mem_file.choose.Goals as goal
use Rattle.disk_base.proofs.mem_file.choose.Goals.{then-not-stands, else-not-stands}

pub loop-place-preserved : goal.loop-place-preserved
loop-place-preserved c =
    let e = epoch_of c.args.bytes.now c.args.settled_end c.args.changes.now in
    let bs = c.loop-place.bytes in
    let p = c.loop-place.place in
    let used = c.loop-place.used in
    let choice : List ℕ = c.args.choice.now in
    let within : p < length bs = omega (arith, c.loop-place.auto.bytes, c.loop-place-test.true) in
    elim c.if-not-stands.branch [
      | then-not-stands w ↦
          let y = w.byte_or_zero.result in
          let loose : is_settled e p ≡ false = search (rules, c.stands.ensures c.args.bytes.now) in
          let at_front : used ≡ used + 0 = omega arith in
          let first : y ≡ get_or (drop used choice) 0 0 = w.byte_or_zero.ensures ∙ ap (λ n. get_or choice n 0) at_front ∙ sym (get_or-drop used choice 0 0) in
          let later = drop-drop 1 used choice ∙ ap (λ n. drop n choice) (sym w.used-is) in (
            c.loop-place.invariant.0 ∙ chosen-loose e p y bs (drop used choice) within loose first
                ∙ ap (λ (l : List ℕ). take (p + 1) (set bs p y) ++ chosen e (p + 1) (drop (p + 1) (set bs p y)) l) later
                ∙ ap (λ (l : List ℕ). take (p + 1) l ++ chosen e (p + 1) (drop (p + 1) l) (drop c.if-not-stands.used choice)) (sym w.bytes-is),
            omega (arith, w.used-is, c.loop-place.invariant.1),
          )
      | else-not-stands w ↦
          let settled : is_settled e p ≡ true = search (rules, c.stands.ensures c.args.bytes.now) in (
            c.loop-place.invariant.0 ∙ chosen-settled e p bs (drop used choice) within settled
                ∙ ap (λ (l : List ℕ). take (p + 1) l ++ chosen e (p + 1) (drop (p + 1) l) (drop used choice)) (sym w.bytes-is)
                ∙ ap (λ (n : ℕ). take (p + 1) c.if-not-stands.bytes ++ chosen e (p + 1) (drop (p + 1) c.if-not-stands.bytes) (drop n choice)) (sym w.used-is),
            omega (arith, w.used-is, c.loop-place.invariant.1),
          )
    ]
