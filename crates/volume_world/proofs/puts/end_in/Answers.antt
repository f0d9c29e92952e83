use Rattle.std.proofs.Common.{◌≡◌, ◌∙◌, sym, subst, ap, refl, Some, None, IsSome}
use Rattle.code_mode.specs.Mode.{total_count}
use Rattle.code_mode.specs.VolumeShape.{volume_shape}
use Rattle.volume_world.specs.State.{Status}
use Rattle.volume_world.specs.PutBook.{Books, put_at, status_of}
use Rattle.volume_world.proofs.PutBooks.{ended_books, ends_unopened, found_put, found_status}
use Rattle.volume_world.proofs.puts.end_in.Goals as goal

pub returns-in-None-clause-ends : goal.returns-in-None-clause-ends
returns-in-None-clause-ends c = λ disks s now was.
    let missing : put_at c.args.kept.now.entries c.args.bid ≡ None = sym c.in-None.ensures.value in (
      ends_unopened (volume_shape c.args.mode disks) c.args.bid s Status.NotBegun (sym (ap status_of missing) ∙ was.status c.args.bid) refl,
      subst (λ m. Books (total_count c.args.mode) m.entries s.puts) (sym c.get_mut.follows.holds-at-none) was,
    )

pub returns-in-Some-clause-ends : goal.returns-in-Some-clause-ends
returns-in-Some-clause-ends c = λ disks s now was.
    let found : put_at c.args.kept.now.entries c.args.bid ≡ Some c.in-Some.put.now = sym c.in-Some.ensures.value in
    let stands = found_status (total_count c.args.mode) c.args.bid c.in-Some.put.now c.args.kept.now.entries s.puts found was in (
      c.close.ensures.ends disks c.args.bid s now stands (found_put (total_count c.args.mode) c.args.bid c.in-Some.put.now c.args.kept.now.entries s.puts found was),
      ended_books (total_count c.args.mode) c.args.bid c.close.result c.in-Some.put.now c.close.new.self c.args.kept.now.entries (c.get_mut.follows.lender c.close.new.self).entries s.puts
          found ((c.get_mut.follows.holds c.close.new.self).3 (subst (λ o. IsSome o) (sym found) refl)).0 (c.close.ensures.status c.args.bid s.puts stands) c.close.ensures.rest was,
    )
