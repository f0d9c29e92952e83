use Rattle.std.proofs.Common.{◌≡◌, subst, false}
use Rattle.volume_entry.specs.Manager.{Manager, is_swapped, transfers_of}
use Rattle.volume_entry.specs.Benchmark.{is_unsettled}
use Rattle.volume_entry.specs.HeardCounts.{is_broken, unsettled_by}
use Rattle.volume_entry.specs.HeardMemory.{Remembers}
use Rattle.volume_entry.specs.TableParts.{part_of, shape_of}
use Rattle.volume_entry.specs.Unsettled.{IsLeast}
use Rattle.volume_entry.specs.Book.{BookOver, end_unless}
use Rattle.volume_entry.specs.Entry.{logged}
use Rattle.volume_entry.proofs.SwapRefusals.{least_tells}
use Rattle.volume_entry.proofs.book.Book.least_lacked.Goals as goal

pub returns : goal.returns
returns g c =
    let inside = c.self.inside in
    let book : BookOver g.row.E.Denot = record { vid = inside.vid; shape = inside.shape; log = record { file = inside.log.file; end = end_unless inside.is_shut inside.log.end }; part = part_of inside.table; doubt = inside.doubt } in
    subst (λ (b : BookOver g.row.E.Denot). (m : Manager) → b.part ≡ logged m → is_swapped m.lock ≡ false → Remembers (shape_of b.shape).total c.args.heard.now m
    → IsLeast (is_unsettled (shape_of b.shape) m.homes (is_broken c.args.broken.now) (transfers_of m.lock) m.heard) c.least_lacked.result) c.self.view_is
    (least_tells book c.args.heard.now c.args.broken.now c.least_lacked.result
    (subst (λ ts. IsLeast (unsettled_by (shape_of inside.shape) c.args.heard.now inside.table.homes.items c.args.broken.now ts) c.least_lacked.result) c.held.ensures
    (subst (λ hs. IsLeast (unsettled_by (shape_of inside.shape) c.args.heard.now hs c.args.broken.now c.held.result.now) c.least_lacked.result) c.deref.ensures.value c.least_lacked.ensures)))
