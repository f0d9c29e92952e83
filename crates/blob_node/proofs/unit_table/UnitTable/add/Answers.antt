-- A unit more under the word of its name.
use Rattle.std.proofs.Common.{◌≡◌, ◌∙◌, ◌++◌, ◌∷◌, [], ◌<◌, ap, sym, subst, nat_eq, None, max, slice_index}
use Rattle.indexmap.proofs.CallerLemmas.{insert_entry-new}
use Rattle.unit_id.specs.UnitName.{Name, IsName, packed}
use Rattle.blob_node.specs.UnitTable.{TableOver, Entries, AreNamed, at_word, unit_at}
use Rattle.blob_node.proofs.Tables.{named_snoc, greatest_more, on_ok}
use Rattle.blob_node.proofs.unit_table.UnitTable.add.Goals as goal

pub invariant_of-self : goal.invariant_of-self
invariant_of-self g c =
    let word_is : c.pack.result ≡ packed c.args.held.chunk.unit = c.pack.ensures.word ∙ ap packed c.unit-unit.ensures in
    let none : at_word c.pack.result c.self.inside.units.entries ≡ None =
    ap (λ w. at_word w c.self.inside.units.entries) word_is ∙ ap (λ (t : TableOver g.row.E.Denot). unit_at t.units c.args.held.chunk.unit) c.self.view_is ∙ c.requires.new in
    let entered = on_ok c.insert.result _ (c.insert.ensures.succeeds (subst (λ (t : TableOver g.row.E.Denot). 0 < t.spare) (sym c.self.view_is) c.requires.room)) c.insert.ensures.entries
    ∙ insert_entry-new nat_eq c.self.inside.units c.pack.result c.args.held none in
    let unit_is = c.unit.view_is ∙ c.unit-unit.ensures in
    let index_is = c.from-index.ensures ∙ ap (λ (n : Name). n.index) unit_is in (
      subst (λ (es : Entries g.row.E.Denot). AreNamed c.self.inside.vid es) (sym entered)
          (named_snoc c.self.inside.vid c.self.inside.units.entries c.pack.result c.args.held c.self.invariant.0 (record {
            word_is = word_is;
            name = subst IsName c.unit-unit.ensures c.pack.ensures.name;
            vid_is = c.requires.vid ∙ ap (λ (t : TableOver g.row.E.Denot). t.vid) (sym c.self.view_is);
          })),
      greatest_more c.self.inside.greatest c.self.inside.units.entries c.insert.new.self.entries c.pack.result c.args.held c.from-index.result c.max.result c.self.invariant.1 c.self.told entered
          index_is (subst (λ n. n < 256) (sym c.from-index.ensures) c.unit.invariant.index) (c.max.ensures ∙ ap (λ (n : Name). max (slice_index c.self.inside.greatest c.from-index.result) n.epoch) unit_is),
    )

pub returns-clause-units : goal.returns-clause-units
returns-clause-units g c =
    let word_is : c.pack.result ≡ packed c.args.held.chunk.unit = c.pack.ensures.word ∙ ap packed c.unit-unit.ensures in
    let none : at_word c.pack.result c.self.inside.units.entries ≡ None =
    ap (λ w. at_word w c.self.inside.units.entries) word_is ∙ ap (λ (t : TableOver g.row.E.Denot). unit_at t.units c.args.held.chunk.unit) c.self.view_is ∙ c.requires.new in
    on_ok c.insert.result _ (c.insert.ensures.succeeds (subst (λ (t : TableOver g.row.E.Denot). 0 < t.spare) (sym c.self.view_is) c.requires.room)) c.insert.ensures.entries
    ∙ insert_entry-new nat_eq c.self.inside.units c.pack.result c.args.held none
    ∙ ap (λ w. c.self.inside.units.entries ++ (w, c.args.held) ∷ []) word_is
    ∙ ap (λ (t : TableOver g.row.E.Denot). t.units ++ (packed c.args.held.chunk.unit, c.args.held) ∷ []) c.self.view_is
