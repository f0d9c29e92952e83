use Rattle.std.proofs.Common.{sym, subst}
use Rattle.code_mode.specs.Mode.{total_count}
use Rattle.volume_world.specs.PutBook.{Books}
use Rattle.volume_world.proofs.puts.PutBook.end.Goals as goal

pub returns-clause-ends : goal.returns-clause-ends
returns-clause-ends c = λ disks s now was.
    c.end_in.ensures.ends disks s now (subst (λ v. Books (total_count c.args.mode) v.puts s.puts) (sym c.self.view_is) was)
