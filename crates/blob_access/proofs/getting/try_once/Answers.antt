use Rattle.std.proofs.Common.{[], refl, subst, rules}
use Rattle.blob_access.specs.GetCall.{GetNext}
use Rattle.blob_access.specs.GetParts.{wanted_of, heard_on, attempted, GetsOn}
use Rattle.blob_access.proofs.GetLemmas.{gets_failed_by, gets_out_of_memory}
use Rattle.blob_access.proofs.getting.try_once.Goals as goal

pub read_units-requires-clause-heard : goal.read_units-requires-clause-heard
read_units-requires-clause-heard g c = c.fresh-tried.ensures.heard (wanted_of c.args.wanted) refl

pub returns-in_err-read_units-clause-tries : goal.returns-in_err-read_units-clause-tries
returns-in_err-read_units-clause-tries g c = λ versions.
    let wanted = wanted_of c.args.wanted in
    subst (λ (n : GetNext). GetsOn wanted (g.P.Port.seen c.args.port.now) (g.P.Port.seen c.read_units.new.port) n c.from_residual.result (attempted versions)) (c.fresh-tried.ensures.starts versions)
    (gets_failed_by wanted _ _ _ c.from_residual.result c.in_err-read_units.field-0.0 (heard_on wanted versions c.read_units.new.tried []) (attempted versions) (search rules) (c.in_err-read_units.ensures.reads versions))

pub returns-in_err-blob-clause-tries : goal.returns-in_err-blob-clause-tries
returns-in_err-blob-clause-tries g c = λ versions.
    let wanted = wanted_of c.args.wanted in
    subst (λ (n : GetNext). GetsOn wanted (g.P.Port.seen c.args.port.now) (g.P.Port.seen c.read_units.new.port) n c.from_residual-in_err-blob.result (attempted versions)) (c.fresh-tried.ensures.starts versions)
    (gets_out_of_memory wanted _ _ _ _ c.from_residual-in_err-blob.result (attempted versions) (search rules) (c.in_ok-read_units.ensures.reads versions))
