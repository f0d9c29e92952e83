use Rattle.std.proofs.Common.{◌≡◌, ◌∙◌, ap, sym, subst, arith, length}
use Rattle.rs_code.specs.Shards.{padded, completed_at, AreEven}
use Rattle.rs_code.proofs.Places.{completed_at-padded, completed_even, length-padded}
use Rattle.rs_code.proofs.shards.Shards.complete.Goals as goal

view_even : (c : goal.After-drop-self-inside) → AreEven (padded c.self.inside.total c.move_held.new.to.items)
view_even c =
    completed_even c.args.self.now c.args.rows.items (padded c.self.inside.total c.move_held.new.to.items)
    (subst AreEven c.self.view_is c.self.invariant.1)
    c.requires.even
    (λ k. completed_at-padded c.self.inside.total c.self.inside.rows.items c.args.rows.items c.move_held.new.to.items k (c.move_held.ensures.each k)
    ∙ ap (λ s. completed_at s c.args.rows.items k) c.self.view_is)

pub invariant_of-self : goal.invariant_of-self
invariant_of-self c =
    let long : length c.args.self.now ≡ c.self.inside.total =
    ap length (sym c.self.view_is) ∙ length-padded c.self.inside.total c.self.inside.rows.items c.self.invariant.0 in
    (omega arith, view_even c)

pub returns-clause-even : goal.returns-clause-even
returns-clause-even c = view_even c
