use Rattle.std.proofs.Common.{sym, subst}
use Rattle.disk_base.specs.Images.{IsImage}
use Rattle.disk_base.proofs.Choices.{chosen-is_image}
use Rattle.disk_base.proofs.mem_file.MemFile.crash.Goals as goal

pub returns-clause-image : goal.returns-clause-image
returns-clause-image c = subst (λ f. IsImage c.args.self.present f.present.bytes) (sym c.left_after.ensures) (chosen-is_image c.args.self.present c.args.choice.now)
