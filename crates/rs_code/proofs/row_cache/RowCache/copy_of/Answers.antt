use Rattle.std.proofs.Common.{◌∙◌, ap, refl, Some}
use Rattle.std.specs.Prelude.{◌==◌, ◌&&◌, option_map}
use Rattle.std.specs.Str.{bytes_eq}
use Rattle.rs_code.specs.RowCache.{KeptRow, found}
use Rattle.rs_code.specs.declared.row_cache.RowKey.{RowKey}
use Rattle.rs_code.proofs.Kept.{row_kept}
use Rattle.rs_code.proofs.row_cache.RowCache.copy_of.Goals as goal

pub returns-in_ok-copied-in-Some : goal.returns-in_ok-copied-in-Some
returns-in_ok-copied-in-Some c =
    let held = c.args.key.now.held.items in
    let want = c.args.key.now.want in
    ap Some c.in_ok-copied-in-Some.ensures
    ∙ c.in-Some.ensures
    ∙ row_kept (λ (k : RowKey). k.held.items) (λ k. k.want) held want (λ k. bytes_eq held k.held.items && (want == k.want)) (λ k. refl) c.self.inside.rows.entries
    ∙ ap (λ rows. option_map (λ (entry : KeptRow). entry.row) (found held want rows.entries)) c.self.view_is

pub returns-in-None : goal.returns-in-None
returns-in-None c =
    let held = c.args.key.now.held.items in
    let want = c.args.key.now.want in
    c.in-None.ensures
    ∙ row_kept (λ (k : RowKey). k.held.items) (λ k. k.want) held want (λ k. bytes_eq held k.held.items && (want == k.want)) (λ k. refl) c.self.inside.rows.entries
    ∙ ap (λ rows. option_map (λ (entry : KeptRow). entry.row) (found held want rows.entries)) c.self.view_is
