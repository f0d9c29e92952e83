-- The unit that is found is replaced by one of its name.
use Rattle.std.proofs.Common.{◌∙◌, ap, sym, nat_eq}
use Rattle.std.specs.Map.{set_value}
use Rattle.unit_id.specs.UnitName.{packed}
use Rattle.blob_node.specs.UnitTable.{TableOver, at_word, unit_at}
use Rattle.blob_node.proofs.Tables.{still_named, named_at, name_by_word}
use Rattle.blob_node.proofs.unit_table.UnitTable.serve.Goals as goal

pub serve-requires-clause-own : goal.serve-requires-clause-own
serve-requires-clause-own g c =
    c.requires.own ∙ sym (name_by_word c.args.unit c.pack.ensures.name _ _ c.in-Some.held.now (named_at c.self.inside.vid c.self.inside.units.entries c.pack.result c.in-Some.held.now c.self.invariant.0 (sym c.in-Some.ensures.value)) c.pack.ensures.word)

pub invariant_of-self : goal.invariant_of-self
invariant_of-self g c =
    still_named c.self.inside.vid c.self.inside.greatest c.self.inside.units.entries _ c.pack.result c.in-Some.held.now c.serve.new.self
    (sym c.in-Some.ensures.value) c.serve.ensures.unit (c.get_mut.follows.holds c.serve.new.self).0 c.self.invariant

pub returns : goal.returns
returns g c = record {
  was = c.in-Some.held.now;
  now = c.serve.new.self;
  replaces = record {
    found = ap (λ (t : TableOver g.row.E.Denot). unit_at t.units c.args.unit) (sym c.self.view_is) ∙ ap (λ w. at_word w c.self.inside.units.entries) (sym c.pack.ensures.word) ∙ sym c.in-Some.ensures.value;
    units =
        (c.get_mut.follows.holds c.serve.new.self).0 ∙ ap (λ w. set_value (nat_eq w) c.self.inside.units.entries c.serve.new.self) c.pack.ensures.word
        ∙ ap (λ (t : TableOver g.row.E.Denot). set_value (nat_eq (packed c.args.unit)) t.units c.serve.new.self) c.self.view_is;
    unit = c.serve.ensures.unit;
    vid = ap (λ (t : TableOver g.row.E.Denot). t.vid) c.self.view_is;
  };
  call = c.serve.ensures.call;
  served = c.serve.ensures.told;
}
