use Rattle.std.proofs.Common.{◌≡◌, ◌++◌, [], ◌∷◌, min, length, take, drop, option_map, ap, ◌∙◌, rules, arith}
use Rattle.disk_base.specs.declared.mem_file.Change.TheVariants.{Write}
use Rattle.disk_base.specs.Disk.{overwritten}
use Rattle.disk_base.specs.Images.{after_write}
use Rattle.disk_base.specs.Faults.{fails_next, after_call}
use Rattle.disk_base.proofs.Steps.{wrote_by}
use Rattle.disk_base.proofs.mem_file.MemFileExtent.write_at.Goals as goal

pub returns-clause-after : goal.returns-clause-after
returns-clause-after c =
    let f = c.self.inside in
    let plan : c.count_call-failed.new.self ≡ after_call (fails_next f.plan) f.plan = search rules in
    let size : c.len-end.result ≡ length f.bytes.items = search rules in
    let start : c.min-at.result ≡ min c.args.at (length f.bytes.items) = omega (arith, c.min-at.ensures, size) in
    let bytes : c.put.new.content.items ≡ overwritten f.bytes.items c.min-at.result c.args.bytes.now = c.put.ensures.items in
    let kept : c.keep.new.replaced.items ≡ f.replaced.items ++ take (length c.args.bytes.now) (drop c.min-at.result f.bytes.items) = c.keep.ensures.items ∙ ap (λ b. f.replaced.items ++ take (length c.args.bytes.now) (drop c.min-at.result b)) c.deref.ensures.value in
    let noted : c.note.new.changes.items ≡ f.changes.items ++ Write c.min-at.result (length c.args.bytes.now) c.len-end.result ∷ [] = c.note.ensures.items in
    let log = noted ∙ ap (λ n. f.changes.items ++ Write c.min-at.result (length c.args.bytes.now) n ∷ []) size in
    wrote_by f.plan c.count_call-failed.new.self (option_map (λ lies. lies.items) f.lies) f.bytes.items c.put.new.content.items c.args.bytes.now f.replaced.items c.keep.new.replaced.items f.changes.items c.note.new.changes.items f.settled_end f.room f.spare c.args.at c.min-at.result plan start bytes kept log
    ∙ ap (after_write c.args.at c.args.bytes.now) c.self.view_is
