use Rattle.volume_entry.proofs.BookMoments.{crash_still}
use Rattle.volume_entry.specs.Manager.{ManagerRecord}
use Rattle.std.proofs.Common.{◌+◌}
use Rattle.volume_entry.proofs.entry.Entry.lease.Goals as goal

pub returns-in-Some-clause-moments : goal.returns-in-Some-clause-moments
returns-in-Some-clause-moments g c = crash_still g.E.Extent.seen (ManagerRecord.Leased (c.args.now + 10)) c.args.self.now.book (g.met.E.Extent.is_file c.args.self.now.book.log.file)
