-- Without units no index has an epoch.
use Rattle.std.proofs.Common.{◌∙◌, ap, sym, subst}
use Rattle.std.proofs.lemmas.List.{get_or-replicate}
use Rattle.blob_node.specs.UnitTable.{Entries, AreNamed, greatest_of}
use Rattle.blob_node.proofs.unit_table.UnitTable.new.Goals as goal

pub invariant_of-result : goal.invariant_of-result
invariant_of-result g c = (
  subst (λ (es : Entries g.row.E.Denot). AreNamed c.args.vid es) (sym c.new.ensures.empty) tt,
  λ index below. get_or-replicate 256 index 0 0 below ∙ ap (λ (es : Entries g.row.E.Denot). greatest_of es index) (sym c.new.ensures.empty),
)
