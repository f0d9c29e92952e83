-- The unit that is found is replaced by one of its name.
use Rattle.std.proofs.Common.{◌∙◌, ap, sym, nat_eq}
use Rattle.std.specs.Map.{set_value}
use Rattle.blob_node.specs.UnitTable.{TableOver, at_word}
use Rattle.blob_node.proofs.Tables.{still_named}
use Rattle.blob_node.proofs.unit_table.UnitTable.start.Goals as goal

pub invariant_of-self : goal.invariant_of-self
invariant_of-self g c =
    still_named c.self.inside.vid c.self.inside.greatest c.self.inside.units.entries _ c.args.word c.in-Some.held.now c.start_held.new.held
    (sym c.in-Some.ensures.value) c.start_held.ensures.unit (c.get_mut.follows.holds c.start_held.new.held).0 c.self.invariant

pub returns : goal.returns
returns g c = record {
  was = c.in-Some.held.now;
  now = c.start_held.new.held;
  replaces = record {
    found = ap (λ (t : TableOver g.row.E.Denot). at_word c.args.word t.units) (sym c.self.view_is) ∙ sym c.in-Some.ensures.value;
    units = (c.get_mut.follows.holds c.start_held.new.held).0 ∙ ap (λ (t : TableOver g.row.E.Denot). set_value (nat_eq c.args.word) t.units c.start_held.new.held) c.self.view_is;
    unit = c.start_held.ensures.unit;
    vid = ap (λ (t : TableOver g.row.E.Denot). t.vid) c.self.view_is;
  };
  starts = c.start_held.ensures;
}
