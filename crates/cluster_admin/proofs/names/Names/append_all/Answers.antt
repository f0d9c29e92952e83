use Rattle.std.proofs.Common.{ℕ, ◌+◌, List, [], ◌∷◌, ◌++◌, length, drop, refl, sym, ◌∙◌, ap, subst, arith, length-append, append_assoc}
use Rattle.std.specs.List.{IsDistinct}
use Rattle.std.specs.Map.{keys_of}
use Rattle.std.specs.Str.{bytes_eq}
use Rattle.std.proofs.lemmas.List.{append-nil}
use Rattle.cluster_admin.specs.declared.names.Object.{Object}
use Rattle.cluster_admin.proofs.NameBlocks.{next_left, new_among, all_gone, none_left}
use Rattle.cluster_admin.proofs.names.Names.append_all.Goals as goal

pub loop-place-init : goal.loop-place-init
loop-place-init c = refl

pub append-requires-clause-new : goal.append-requires-clause-new
append-requires-clause-new c =
    let entry : List ℕ × Object = (c.in-Some.name.now, c.in-Some.at) in
    let left = next_left c.args.block.now c.loop-place.place entry (sym c.in-Some.ensures) in
    let whole = sym c.loop-place.invariant ∙ ap (λ rest. c.loop-place.self ++ rest) left in
    new_among c.loop-place.self entry (drop (c.loop-place.place + 1) c.args.block.now) (subst (λ names. IsDistinct bytes_eq (keys_of names)) whole c.requires.once)

pub append-requires-clause-few : goal.append-requires-clause-few
append-requires-clause-few c =
    omega (arith, c.requires.few, ap length c.loop-place.invariant, length-append c.loop-place.self (drop c.loop-place.place c.args.block.now))

pub loop-place-preserved : goal.loop-place-preserved
loop-place-preserved c =
    let entry : List ℕ × Object = (c.in-Some.name.now, c.in-Some.at) in
    let rest = drop (c.loop-place.place + 1) c.args.block.now in
    let left = next_left c.args.block.now c.loop-place.place entry (sym c.in-Some.ensures) in
    ap (λ names. names ++ rest) c.in_ok-append-in-Some.ensures.ok ∙ append_assoc c.loop-place.self (entry ∷ []) rest
    ∙ sym (ap (λ names. c.loop-place.self ++ names) left) ∙ c.loop-place.invariant

pub returns-in-None : goal.returns-in-None
returns-in-None c =
    let gone = none_left c.args.block.now c.loop-place.place (sym c.in-None.ensures) in
    sym (append-nil c.loop-place.self) ∙ ap (λ names. c.loop-place.self ++ names) (sym gone) ∙ c.loop-place.invariant

pub returns-after-loop-place : goal.returns-after-loop-place
returns-after-loop-place c =
    let gone = all_gone c.args.block.now c.loop-place.place (omega (arith, c.loop-place-test.false, c.len-place-end.ensures)) in
    sym (append-nil c.loop-place.self) ∙ ap (λ names. c.loop-place.self ++ names) (sym gone) ∙ c.loop-place.invariant
