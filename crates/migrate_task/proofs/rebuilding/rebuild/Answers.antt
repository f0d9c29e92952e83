use Rattle.std.proofs.Common.{refl, arith}
use Rattle.migrate_task.proofs.rebuilding.rebuild.Goals as goal

pub unreachable-requires-in-Err-TooFew : goal.unreachable-requires-in-Err-TooFew
unreachable-requires-in-Err-TooFew c =
    let too_few = rw c.in-Err-TooFew.field-0-is at c.in-Err-TooFew.ensures.too_few in
    let few = (too_few c.in-Err-TooFew.field-0-0).0 refl in
    omega (arith, few.0, few.1, c.requires.enough)
