use Rattle.std.proofs.Common.{◌∙◌, ap, cond, nat_eq, Some}
use Rattle.volume_world.specs.PutBook.{opened_put, put_at}
use Rattle.volume_world.proofs.PutBooks.{begun_books}
use Rattle.volume_world.proofs.puts.PutBook.begin.Goals as goal

pub returns-clause-begun : goal.returns-clause-begun
returns-clause-begun c = λ total puts payload was.
    begun_books total c.args.bid c.args.end payload c.args.self.now.puts c.insert.new.self.entries puts
    (λ q. c.in_ok-insert.ensures.updates.0 q ∙ ap (λ p. cond (nat_eq c.args.bid q) (Some p) (put_at c.self.inside.kept.entries q)) c.opened.ensures
    ∙ ap (λ v. cond (nat_eq c.args.bid q) (Some (opened_put c.args.end)) (put_at v.puts q)) c.self.view_is)
    was
