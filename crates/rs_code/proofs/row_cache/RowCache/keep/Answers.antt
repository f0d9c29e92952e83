use Rattle.std.proofs.Common.{◌≡◌, ◌∙◌, ap, refl}
use Rattle.std.specs.Prelude.{◌==◌, ◌&&◌}
use Rattle.std.specs.Str.{bytes_eq}
use Rattle.rs_code.specs.RowCache.{found, with_row}
use Rattle.rs_code.specs.declared.row_cache.RowKey.{RowKey}
use Rattle.rs_code.proofs.Kept.{rows_of, put_kept}
use Rattle.rs_code.proofs.row_cache.RowCache.keep.Goals as goal

pub returns-in-Ok-clause-ok : goal.returns-in-Ok-clause-ok
returns-in-Ok-clause-ok c =
    let held = c.args.key.held.items in
    let want = c.args.key.want in
    let old : rows_of (λ (k : RowKey). k.held.items) (λ k. k.want) c.self.inside.rows.cap c.self.inside.rows.entries ≡ c.args.self.now = c.self.view_is in
    ap (λ r. rows_of (λ (k : RowKey). k.held.items) (λ k. k.want) r.cap r.entries) c.in-Ok.ensures.entries
    ∙ put_kept (λ (k : RowKey). k.held.items) (λ k. k.want) (λ a b. bytes_eq a.held.items b.held.items && (a.want == b.want)) c.args.key (λ k. refl) c.self.inside.rows c.args.row
    (ap (λ rows. found held want rows.entries) old ∙ c.requires)
    ∙ ap (with_row held want c.args.row) old
