use Rattle.std.proofs.Common.{◌≡◌, sym, subst, refl, Some, IsSome}
use Rattle.volume_world.specs.PutBook.{put_at}
use Rattle.volume_world.proofs.PutBooks.{accepted_books}
use Rattle.volume_world.proofs.puts.accept_in.Goals as goal

pub returns-in-Some : goal.returns-in-Some
returns-in-Some c = λ total puts place few here was.
    let found : put_at c.args.kept.now.entries c.args.bid ≡ Some c.in-Some.put.now = sym c.in-Some.ensures.value in
    accepted_books total c.args.bid c.args.index place c.in-Some.put.now c.accept.new.self c.args.kept.now.entries (c.get_mut.follows.lender c.accept.new.self).entries puts few here
    found ((c.get_mut.follows.holds c.accept.new.self).3 (subst (λ o. IsSome o) (sym found) refl)).0 c.accept.ensures was
