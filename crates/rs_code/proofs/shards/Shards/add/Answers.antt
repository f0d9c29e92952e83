use Rattle.std.proofs.Common.{◌≡◌, length, set, Some, sym, ◌∙◌, ap, subst, arith, rules, refl}
use Rattle.std.specs.Prelude.{IfSome}
use Rattle.std.proofs.lemmas.List.{length-set}
use Rattle.rs_code.specs.Shards.{padded, size_of, AreEven}
use Rattle.rs_code.proofs.Places.{same_padded, padded-set, even-set, length-padded}
use Rattle.rs_code.proofs.shards.Shards.add.Goals as goal

pub invariant_of-self : goal.invariant_of-self
invariant_of-self c =
    let same : padded c.self.inside.total c.grow.new.rows.items ≡ c.args.self.now =
    same_padded c.self.inside.total c.self.inside.rows.items c.grow.new.rows.items c.grow.ensures.grown c.grow.ensures.no_less (omega arith) ∙ c.self.view_is in
    (omega arith, subst AreEven (sym same) c.get.ensures.even)

pub returns-in_err-grow-clause-err : goal.returns-in_err-grow-clause-err
returns-in_err-grow-clause-err c =
    let same : padded c.self.inside.total c.grow.new.rows.items ≡ c.args.self.now =
    same_padded c.self.inside.total c.self.inside.rows.items c.grow.new.rows.items c.grow.ensures.grown c.grow.ensures.no_less (omega arith) ∙ c.self.view_is in
    search (rules, same)

pub returns-in_err-grow-clause-even : goal.returns-in_err-grow-clause-even
returns-in_err-grow-clause-even c =
    let same : padded c.self.inside.total c.grow.new.rows.items ≡ c.args.self.now =
    same_padded c.self.inside.total c.self.inside.rows.items c.grow.new.rows.items c.grow.ensures.grown c.grow.ensures.no_less (omega arith) ∙ c.self.view_is in
    subst AreEven (sym same) c.get.ensures.even

set_view : (c : goal.Joined-index_mut) → padded c.self.inside.total (set c.grow.new.rows.items c.args.index (Some c.args.bytes)) ≡ set c.args.self.now c.args.index (Some c.args.bytes)
set_view c =
    padded-set c.self.inside.total c.grow.new.rows.items c.args.index (Some c.args.bytes) (omega (arith, c.in_ok-grow.ensures.enough))
    ∙ ap (λ shards. set shards c.args.index (Some c.args.bytes))
    (same_padded c.self.inside.total c.self.inside.rows.items c.grow.new.rows.items c.grow.ensures.grown c.grow.ensures.no_less (omega arith) ∙ c.self.view_is)

set_even : (c : goal.Joined-index_mut) → AreEven (padded c.self.inside.total (set c.grow.new.rows.items c.args.index (Some c.args.bytes)))
set_even c =
    let long : length c.args.self.now ≡ c.self.inside.total =
    ap length (sym c.self.view_is) ∙ length-padded c.self.inside.total c.self.inside.rows.items c.self.invariant.0 in
    subst AreEven (sym (set_view c))
    (even-set c.args.self.now c.args.index c.args.bytes (omega arith) c.get.ensures.even (subst (λ n. IfSome (size_of c.args.self.now) (λ size. size ≡ n)) c.len.ensures (c.if-not-fits.ensures.yes.0 refl)))

pub invariant_of-self-2 : goal.invariant_of-self-2
invariant_of-self-2 c = (omega (arith, length-set c.grow.new.rows.items c.args.index (Some c.args.bytes)), set_even c)

pub returns-clause-ok : goal.returns-clause-ok
returns-clause-ok c = set_view c

pub returns-clause-even : goal.returns-clause-even
returns-clause-even c = set_even c
