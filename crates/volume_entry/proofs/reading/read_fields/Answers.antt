use Rattle.volume_entry.proofs.reading.read_fields.Goals as goal

pub returns-in-2 : goal.returns-in-2
returns-in-2 c = rw c.in-2.is (c.read_leased.ensures c.args.vid c.args.mode)

pub returns-in-3 : goal.returns-in-3
returns-in-3 c = rw c.in-3.is (c.read_locked.ensures c.args.vid c.args.mode)

pub returns-in-4 : goal.returns-in-4
returns-in-4 c = rw c.in-4.is (c.read_retargeted.ensures c.args.vid c.args.mode)

pub returns-in-5 : goal.returns-in-5
returns-in-5 c = rw c.in-5.is (c.read_swapped.ensures c.args.vid c.args.mode)

pub returns-in-6 : goal.returns-in-6
returns-in-6 c = rw c.in-6.is (c.read_unlocked.ensures c.args.vid c.args.mode)

pub returns-in-7 : goal.returns-in-7
returns-in-7 c = rw c.in-7.is (c.read_asked.ensures c.args.vid c.args.mode)

pub returns-in-8 : goal.returns-in-8
returns-in-8 c = rw c.in-8.is (c.read_committed.ensures c.args.vid c.args.mode)
