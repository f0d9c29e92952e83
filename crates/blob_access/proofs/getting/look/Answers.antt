use Rattle.std.proofs.Common.{[], ◌∷◌, refl}
use Rattle.volume_world.specs.declared.event.Event.TheVariants as events
use Rattle.blob_access.specs.GetCall.{GetStage}
use Rattle.blob_access.specs.GetParts.{starting, seen_again}
use Rattle.blob_access.proofs.GetLemmas.{gets_replied, gets_stopped}
use Rattle.blob_access.proofs.getting.look.Goals as goal

pub returns-in-Ok-clause-first : goal.returns-in-Ok-clause-first
returns-in-Ok-clause-first g c = λ wanted.
    gets_replied wanted _ _ GetStage.First events.Look c.in-Ok.reply c.looked.result (λ sight. starting wanted.mode (sight.version ∷ []) sight.units) refl c.in-Ok.ensures (c.looked.ensures.first wanted)

pub returns-in-Ok-clause-again : goal.returns-in-Ok-clause-again
returns-in-Ok-clause-again g c = λ wanted t.
    gets_replied wanted _ _ (GetStage.Again t) events.Look c.in-Ok.reply c.looked.result (λ sight. seen_again wanted.mode t sight.version sight.units) refl c.in-Ok.ensures (c.looked.ensures.again wanted t)

pub returns-in-Err-clause-first : goal.returns-in-Err-clause-first
returns-in-Err-clause-first g c = λ wanted.
    gets_stopped wanted _ _ GetStage.First events.Look c.in-Err.fault c.from.result (λ sight. starting wanted.mode (sight.version ∷ []) sight.units) refl c.in-Err.ensures c.from.ensures

pub returns-in-Err-clause-again : goal.returns-in-Err-clause-again
returns-in-Err-clause-again g c = λ wanted t.
    gets_stopped wanted _ _ (GetStage.Again t) events.Look c.in-Err.fault c.from.result (λ sight. seen_again wanted.mode t sight.version sight.units) refl c.in-Err.ensures c.from.ensures
