use Rattle.std.proofs.Common.{◌≡◌, ◌∙◌, sym, ap, subst, []}
use Rattle.std.proofs.lemmas.Result.{IfOk-weaker}
use Rattle.volume_entry.specs.HeardMemory.{Remembers}
use Rattle.volume_entry.specs.Manager.{Manager, nothing_heard, transfers_of}
use Rattle.volume_entry.specs.TableParts.{part_of, shape_of}
use Rattle.volume_entry.specs.BookStart.{IsForgetful}
use Rattle.volume_entry.proofs.rereading.heard_none.Goals as goal

pub returns : goal.returns
returns c =
    IfOk-weaker c.of.result (λ heard. (m : Manager) → m.heard ≡ nothing_heard → m.marks ≡ [] → transfers_of m.lock ≡ c.held.result.now → Remembers c.total.result heard m)
    (IsForgetful (shape_of c.args.shape) (part_of c.args.table.now))
    (λ heard f m h k l. subst (λ n. Remembers n heard m) c.total.ensures.value (f m h k (ap transfers_of l ∙ sym c.held.ensures))) c.of.ensures
