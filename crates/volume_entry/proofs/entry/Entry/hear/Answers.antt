use Rattle.unit_id.specs.Messages.{request_of, answer_of}
use Rattle.volume_entry.specs.Entry.{EntryOver}
use Rattle.volume_entry.proofs.EntryHear.{hears_stands, hears_nothing}
use Rattle.volume_entry.proofs.entry.Entry.hear.Goals as goal

pub returns-clause-told : goal.returns-clause-told
returns-clause-told g c =
    let old : EntryOver g.row.E.Denot = record { book = c.self.inside.book; heard = c.self.inside.heard; broken = c.self.inside.broken } in
    hears_stands g.E.Extent.seen old c.args.self.now c.hear.new.heard (request_of c.args.request.now) (answer_of c.args.answer.now) c.hear.result c.self.view_is c.hear.ensures.heard

pub returns-clause-same : goal.returns-clause-same
returns-clause-same g c =
    let old : EntryOver g.row.E.Denot = record { book = c.self.inside.book; heard = c.self.inside.heard; broken = c.self.inside.broken } in
    hears_nothing g.E.Extent.seen old c.args.self.now c.hear.new.heard c.hear.result c.self.view_is c.hear.ensures.same
