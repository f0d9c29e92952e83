use Rattle.std.proofs.Common.{ap, refl}
use Rattle.std.specs.Prelude.{◌==◌, ◌&&◌}
use Rattle.std.specs.Str.{bytes_eq}
use Rattle.rs_code.specs.declared.row_cache.RowKey.{RowKey}
use Rattle.rs_code.proofs.Kept.{rows_of, row_renewed_as}
use Rattle.rs_code.proofs.row_cache.RowCache.renew.Goals as goal

pub returns : goal.returns
returns c =
    let held = c.args.key.now.held.items in
    let want = c.args.key.now.want in
    row_renewed_as (λ (k : RowKey). k.held.items) (λ k. k.want) held want (λ k. bytes_eq held k.held.items && (want == k.want)) (λ k. refl) c.self.inside.rows.cap c.self.inside.rows.entries
    c.args.self.now _ c.self.view_is (ap (λ r. rows_of (λ (k : RowKey). k.held.items) (λ k. k.want) r.cap r.entries) c.promote.ensures.entries)
