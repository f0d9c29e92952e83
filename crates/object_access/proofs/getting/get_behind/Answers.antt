use Rattle.std.proofs.Common.{rules}
use Rattle.blob_access.specs.declared.fault.GetFault.TheVariants as faults
use Rattle.object_access.proofs.GetLemmas.{gets_forgotten, blob_refused}
use Rattle.object_access.proofs.getting.get_behind.Goals as goal

pub returns-in_err-append-clause-gets : goal.returns-in_err-append-clause-gets
returns-in_err-append-clause-gets g c =
    blob_refused _ _ c.args.number c.args.size c.args.object.now.items c.append.new.object.items c.from_residual-in_err-append.result faults.Memory (search rules)
    (gets_forgotten _ _ c.args.number c.args.size c.in_ok-blob.blob c.in_ok-blob.ensures.gets)
