use Rattle.std.proofs.Common.{sym, ◌∙◌, ap, ◌≡◌, ℕ, List, None, rules}
use Rattle.std.specs.Map.{lookup}
use Rattle.std.specs.Str.{bytes_eq}
use Rattle.indexmap.proofs.CallerLemmas.{insert_entry-new}
use Rattle.cluster_admin.proofs.NameLemmas.{lookup_seen, added_seen}
use Rattle.cluster_admin.proofs.name_block.NameBlock.add.Goals as goal

pub returns-clause-ok : goal.returns-clause-ok
returns-clause-ok c =
    let entries = c.self.inside.held.entries in
    let key_is : c.in_ok-key.key.items ≡ c.args.name.now = search rules in
    let none : lookup (λ k. bytes_eq c.args.name.now k.items) entries ≡ None =
    sym (lookup_seen c.args.name.now entries) ∙ ap (lookup (bytes_eq c.args.name.now)) c.self.view_is ∙ c.requires in
    let new_key : lookup (λ k. bytes_eq c.in_ok-key.key.items k.items) entries ≡ None = ap (λ (n : List ℕ). lookup (λ k. bytes_eq n k.items) entries) key_is ∙ none in
    let last = c.in_ok-insert.ensures.entries ∙ insert_entry-new (λ a b. bytes_eq a.items b.items) c.self.inside.held c.in_ok-key.key c.args.at new_key in
    added_seen entries c.insert.new.self.entries _ c.in_ok-key.key c.args.name.now c.args.at c.self.view_is key_is last
