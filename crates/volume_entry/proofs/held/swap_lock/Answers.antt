use Rattle.std.proofs.Common.{◌∙◌, sym, ap}
use Rattle.volume_entry.specs.Manager.{moved, transfers_of}
use Rattle.volume_entry.proofs.TableLists.{moved-none}
use Rattle.volume_entry.proofs.held.swap_lock.Goals as goal

pub returns-in_default-clause-homes : goal.returns-in_default-clause-homes
returns-in_default-clause-homes c =
    sym (ap (λ o. moved 0 (transfers_of o) c.args.homes.now) c.in_default.is ∙ moved-none 0 c.args.homes.now)
