use Rattle.std.proofs.Common.{◌≡◌, ◌∙◌, ap, sym}
use Rattle.std.specs.Prelude.{not}
use Rattle.unit_id.specs.Lists.{any}
use Rattle.volume_entry.specs.Manager.{Transfer}
use Rattle.volume_entry.specs.HeardCounts.{due_by, settled_by, unsettled_by}
use Rattle.volume_entry.specs.HeardMemory.{HeardMemory}
use Rattle.volume_entry.specs.TableParts.{shape_of}
use Rattle.volume_entry.proofs.HeardSettling.{unsettled_tells}
use Rattle.volume_entry.proofs.heard.Heard.is_unsettled.Goals as goal

pub returns-clause-kept : goal.returns-clause-kept
returns-clause-kept c =
    let listings : c.deref.result.now ≡ c.args.self.now.listings = c.deref.ensures.value ∙ ap (λ (h : HeardMemory). h.listings) c.self.view_is in
    let moves : c.deref-2.result.now ≡ c.args.self.now.moves = c.deref-2.ensures.value ∙ ap (λ (h : HeardMemory). h.moves) c.self.view_is in
    let shape = shape_of c.args.shape in
    c.some_lacks.ensures
    ∙ ap (λ due. any (λ (t : Transfer). not (settled_by c.deref-2.result.now c.args.bid due t.index)) c.args.transfers.now) (c.share_of-share.ensures ∙ ap (λ ls. due_by shape ls c.args.homes.now c.args.broken.now c.args.bid) listings)
    ∙ ap (λ ms. any (λ (t : Transfer). not (settled_by ms c.args.bid (due_by shape c.args.self.now.listings c.args.homes.now c.args.broken.now c.args.bid) t.index)) c.args.transfers.now) moves

pub returns-clause-told : goal.returns-clause-told
returns-clause-told c m homes transfers unswapped told =
    let shape = shape_of c.args.shape in
    let bid = c.args.bid in
    returns-clause-kept c
    ∙ (λ j. unsettled_by shape c.args.self.now (sym homes j) c.args.broken.now (transfers j) bid)
    ∙ unsettled_tells shape m c.args.self.now c.args.broken.now unswapped told bid
