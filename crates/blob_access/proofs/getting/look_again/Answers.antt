use Rattle.std.proofs.Common.{rules}
use Rattle.volume_world.specs.Call.{Next}
use Rattle.blob_access.specs.GetCall.{GetStage}
use Rattle.blob_access.specs.GetParts.{try_of, seen_again}
use Rattle.blob_access.proofs.GetLemmas.{seen_uncut, gets_told, gets_failed_by}
use Rattle.blob_access.proofs.getting.look_again.Goals as goal

pub returns-in_err-sight-clause-again : goal.returns-in_err-sight-clause-again
returns-in_err-sight-clause-again g c = λ wanted.
    let t = try_of c.args.versions.now c.args.tried.now in
    gets_failed_by wanted _ _ (Next.Go (GetStage.Again t)) c.from_residual.result c.in_err-sight.field-0.0 (λ sight. seen_again wanted.mode t sight.version sight.units) _ (search rules) (c.in_err-sight.ensures.again wanted t)

pub returns-clause-again : goal.returns-clause-again
returns-clause-again g c = λ wanted.
    let t = try_of c.args.versions.now c.args.tried.now in
    gets_told wanted _ _ (Next.Go (GetStage.Again t)) (seen_again wanted.mode t c.in_ok-sight.sight.version c.in_ok-sight.sight.units) c.changed.result _ (seen_uncut wanted.mode t c.in_ok-sight.sight.version c.in_ok-sight.sight.units) (c.changed.ensures.again wanted.mode) (c.in_ok-sight.ensures.again wanted t)
