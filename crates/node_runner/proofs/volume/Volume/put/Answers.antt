use Rattle.std.proofs.Common.{◌∙◌, ap, ◌≡◌, ◌+◌, ℕ, List, None, length, rules}
use Rattle.std.specs.Prelude.{map}
use Rattle.std.specs.Map.{lookup}
use Rattle.std.specs.Str.{bytes_eq}
use Rattle.indexmap.proofs.CallerLemmas.{insert_entry-new}
use Rattle.node_runner.specs.declared.volume.StoredObject.{StoredObject}
use Rattle.node_runner.specs.Session.{Object}
use Rattle.node_runner.specs.VolumeInside.{object_of}
use Rattle.node_runner.proofs.Objects.{none-seen, last-seen, last_whole}
use Rattle.node_runner.proofs.volume.Volume.put.Goals as goal

pub returns-clause-entered : goal.returns-clause-entered
returns-clause-entered c =
    let mode = c.self.inside.mode in
    let entries = c.self.inside.kept.entries in
    let kept : StoredObject = record { bid = c.len.result + 1; size = length c.args.bytes.now; shards = c.in_ok-shards.shards } in
    let key_is : c.in_ok-key.key.items ≡ c.args.name.now = search rules in
    let is_seen : map (λ e. (e.0.items, object_of mode e.1)) entries ≡ c.args.self.now.objects = ap (λ v. v.objects) c.self.view_is in
    let new_key : lookup (λ k. bytes_eq c.in_ok-key.key.items k.items) entries ≡ None =
    ap (λ (n : List ℕ). lookup (λ k. bytes_eq n k.items) entries) key_is
    ∙ none-seen (object_of mode) c.args.name.now entries (ap (lookup (bytes_eq c.args.name.now)) is_seen ∙ c.requires.new) in
    let last = c.in_ok-insert.ensures.entries ∙ insert_entry-new (λ a b. bytes_eq a.items b.items) c.self.inside.kept c.in_ok-key.key kept new_key in
    let blob : object_of mode kept ≡ record { bid = c.len.result + 1; bytes = c.args.bytes.now } =
    let with_bytes : List ℕ → Object = λ b. record { bid = c.len.result + 1; bytes = b } in ap with_bytes c.in_ok-shards.ensures.blob in
    last-seen (object_of mode) c.in_ok-key.key c.args.name.now kept _ entries c.insert.new.self.entries _ is_seen key_is blob last

pub invariant_of-self-2 : goal.invariant_of-self-2
invariant_of-self-2 c =
    let mode = c.self.inside.mode in
    let entries = c.self.inside.kept.entries in
    let kept : StoredObject = record { bid = c.len.result + 1; size = length c.args.bytes.now; shards = c.in_ok-shards.shards } in
    let key_is : c.in_ok-key.key.items ≡ c.args.name.now = search rules in
    let is_seen : map (λ e. (e.0.items, object_of mode e.1)) entries ≡ c.args.self.now.objects = ap (λ v. v.objects) c.self.view_is in
    let new_key : lookup (λ k. bytes_eq c.in_ok-key.key.items k.items) entries ≡ None =
    ap (λ (n : List ℕ). lookup (λ k. bytes_eq n k.items) entries) key_is
    ∙ none-seen (object_of mode) c.args.name.now entries (ap (lookup (bytes_eq c.args.name.now)) is_seen ∙ c.requires.new) in
    let last = c.in_ok-insert.ensures.entries ∙ insert_entry-new (λ a b. bytes_eq a.items b.items) c.self.inside.kept c.in_ok-key.key kept new_key in
    record {
      coder = c.in_ok-shards.ensures.shape ∙ c.self.invariant.coder;
      kept = last_whole mode entries c.insert.new.self.entries (c.in_ok-key.key, kept) c.self.invariant.kept c.in_ok-shards.ensures.stripe last;
    }
