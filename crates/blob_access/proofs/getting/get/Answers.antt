use Rattle.std.proofs.Common.{◌≡◌, ℕ, List, [], ◌∷◌, length, Ok, Err, refl, sym, ◌∙◌, ap, subst, rules, arith}
use Rattle.volume_world.specs.Way.{Origin}
use Rattle.volume_world.specs.Call.{Next}
use Rattle.volume_world.specs.Progress.{Proceeds}
use Rattle.volume_world.proofs.Comings.{proceeds_on}
use Rattle.blob_access.specs.declared.getting.Attempt.{Attempt}
use Rattle.blob_access.specs.declared.getting.Sight.{Sight}
use Rattle.blob_access.specs.GetCall.{Wanted, GetStage, get_call}
use Rattle.blob_access.specs.GetParts.{starting, try_of, attempted}
use Rattle.blob_access.proofs.GetLemmas.{gets_on, gets_failed_by}
use Rattle.blob_access.proofs.GetBytes.{gets_whole}
use Rattle.blob_access.proofs.getting.get.Goals as goal

pub returns-in_err-sight-clause-gets : goal.returns-in_err-sight-clause-gets
returns-in_err-sight-clause-gets g c =
    let wanted : Wanted = record { mode = c.mode-mode.result; bid = c.args.bid; size = c.args.size } in
    gets_whole _ _ c.args.bid c.args.size c.from_residual.result c.mode-mode.result c.mode-mode.ensures c.is_way.ensures
    (gets_failed_by wanted _ _ (Next.Go GetStage.First) c.from_residual.result c.in_err-sight.field-0.0 (λ (sight : Sight). starting wanted.mode (sight.version ∷ []) sight.units) (λ bytes. Next.Over (Ok bytes)) (search rules) (c.in_err-sight.ensures.first wanted))

pub tries-init : goal.tries-init
tries-init g c =
    let wanted : Wanted = record { mode = c.mode-mode.result; bid = c.args.bid; size = c.args.size } in
    let first = c.in_ok-sight.ensures.first wanted in
    let versions : c.push.new.self ≡ c.in_ok-sight.sight.version ∷ [] = c.push.ensures ∙ ap (λ (xs : List ℕ). c.in_ok-sight.sight.version ∷ xs) c.none-versions.ensures in
    let one : length c.push.new.self ≡ 1 = ap length versions in
    record {
      mode = c.mode-mode.ensures ∙ sym (ap (λ (o : Origin). o.mode) first.goes.origin);
      homes = c.in_ok-sight.ensures.homes;
      seen = (omega arith, omega arith);
      coder = refl;
      gone = subst (λ (xs : List ℕ). Proceeds (get_call wanted) (g.P.Port.seen c.args.port.now) (g.P.Port.seen c.look.new.port) (Next.Go GetStage.First) (starting wanted.mode xs c.in_ok-sight.sight.units)) (sym versions) first;
    }

pub returns-in_err-blob-clause-gets : goal.returns-in_err-blob-clause-gets
returns-in_err-blob-clause-gets g c =
    let wanted : Wanted = record { mode = c.mode-mode.result; bid = c.args.bid; size = c.args.size } in
    let fault = c.in_err-blob.field-0.0 in
    gets_whole _ _ c.args.bid c.args.size c.from_residual-in_err-blob.result c.mode-mode.result c.mode-mode.ensures c.is_way.ensures
    (gets_failed_by {T = Attempt} wanted _ _ (Next.Go GetStage.First) c.from_residual-in_err-blob.result fault (attempted c.tries.versions) (λ bytes. Next.Over (Ok bytes)) (search rules)
    (gets_on {T = Attempt} wanted _ _ (g.P.Port.seen c.try_once.new.port) (Next.Go GetStage.First) (starting wanted.mode c.tries.versions c.tries.sight.units) (Err fault) (attempted c.tries.versions) c.tries.invariant.gone (c.in_err-blob.ensures.tries c.tries.versions)))

pub returns-in-Blob-clause-gets : goal.returns-in-Blob-clause-gets
returns-in-Blob-clause-gets g c =
    let wanted : Wanted = record { mode = c.mode-mode.result; bid = c.args.bid; size = c.args.size } in
    let a = g.P.Port.seen c.args.port.now in
    let e = g.P.Port.seen c.try_once.new.port in
    let tried = subst (λ (x : Attempt). Proceeds (get_call wanted) (g.P.Port.seen c.tries.port) e (starting wanted.mode c.tries.versions c.tries.sight.units) (attempted c.tries.versions x)) c.in-Blob.is (c.in_ok-blob.ensures.tries c.tries.versions) in
    gets_whole a e c.args.bid c.args.size (Ok c.in-Blob.blob) c.mode-mode.result c.mode-mode.ensures c.is_way.ensures
    (proceeds_on (get_call wanted) a (g.P.Port.seen c.tries.port) e (Next.Go GetStage.First) (starting wanted.mode c.tries.versions c.tries.sight.units) (Next.Over (Ok c.in-Blob.blob)) c.tries.invariant.gone tried)

pub returns-in_err-sight-in-Missed-clause-gets : goal.returns-in_err-sight-in-Missed-clause-gets
returns-in_err-sight-in-Missed-clause-gets g c =
    let wanted : Wanted = record { mode = c.mode-mode.result; bid = c.args.bid; size = c.args.size } in
    let a = g.P.Port.seen c.args.port.now in
    let d = g.P.Port.seen c.try_once.new.port in
    let e = g.P.Port.seen c.look_again.new.port in
    let fault = c.in_err-sight-in-Missed.field-0.0 in
    let t = try_of c.tries.versions c.in-Missed.tried in
    let tried = subst (λ (x : Attempt). Proceeds (get_call wanted) (g.P.Port.seen c.tries.port) d (starting wanted.mode c.tries.versions c.tries.sight.units) (attempted c.tries.versions x)) c.in-Missed.is (c.in_ok-blob.ensures.tries c.tries.versions) in
    let before = proceeds_on (get_call wanted) a (g.P.Port.seen c.tries.port) d (Next.Go GetStage.First) (starting wanted.mode c.tries.versions c.tries.sight.units) (Next.Go (GetStage.Again t)) c.tries.invariant.gone tried in
    gets_whole a e c.args.bid c.args.size c.from_residual-in_err-sight-in-Missed.result c.mode-mode.result c.mode-mode.ensures c.is_way.ensures
    (gets_failed_by wanted a e (Next.Go GetStage.First) c.from_residual-in_err-sight-in-Missed.result fault (λ (next : Sight). starting wanted.mode c.look_again.new.versions next.units) (λ bytes. Next.Over (Ok bytes)) (search rules)
    (gets_on wanted a d e (Next.Go GetStage.First) (Next.Go (GetStage.Again t)) (Err fault) (λ (next : Sight). starting wanted.mode c.look_again.new.versions next.units) before (c.in_err-sight-in-Missed.ensures.again wanted)))

pub tries-preserved : goal.tries-preserved
tries-preserved g c =
    let wanted : Wanted = record { mode = c.mode-mode.result; bid = c.args.bid; size = c.args.size } in
    let a = g.P.Port.seen c.args.port.now in
    let d = g.P.Port.seen c.try_once.new.port in
    let e = g.P.Port.seen c.look_again.new.port in
    let t = try_of c.tries.versions c.in-Missed.tried in
    let tried = subst (λ (x : Attempt). Proceeds (get_call wanted) (g.P.Port.seen c.tries.port) d (starting wanted.mode c.tries.versions c.tries.sight.units) (attempted c.tries.versions x)) c.in-Missed.is (c.in_ok-blob.ensures.tries c.tries.versions) in
    let before = proceeds_on (get_call wanted) a (g.P.Port.seen c.tries.port) d (Next.Go GetStage.First) (starting wanted.mode c.tries.versions c.tries.sight.units) (Next.Go (GetStage.Again t)) c.tries.invariant.gone tried in
    let all = proceeds_on (get_call wanted) a d e (Next.Go GetStage.First) (Next.Go (GetStage.Again t)) (starting wanted.mode c.look_again.new.versions c.in_ok-sight-in-Missed.sight.units) before (c.in_ok-sight-in-Missed.ensures.again wanted) in
    let grows = c.in_ok-sight-in-Missed.ensures.grows in
    record {
      mode = c.mode-mode.ensures ∙ sym (ap (λ (o : Origin). o.mode) all.goes.origin);
      homes = c.in_ok-sight-in-Missed.ensures.homes;
      seen = (omega (arith, grows.0), grows.1);
      coder = c.try_once.ensures.shape ∙ c.tries.invariant.coder;
      gone = all;
    }
