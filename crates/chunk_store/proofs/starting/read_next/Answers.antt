use Rattle.std.proofs.Common.{◌≡◌, ◌∙◌, None, Some, Ok, ℕ, List, ap, sym, subst, rules}
use Rattle.gate_log.specs.GateLog.{HasCome, ComesOn}
use Rattle.chunk_store.specs.Kept.{kept_after}
use Rattle.chunk_store.specs.Reading.{RecordAnswers}
use Rattle.chunk_store.proofs.Finding.{at_some}
use Rattle.chunk_store.proofs.Opened.{if_told}
use Rattle.chunk_store.proofs.ReadAll.{read_on, read_ends}
use Rattle.chunk_store.proofs.starting.read_next.Goals as goal

pub returns-in_default-clause-told : goal.returns-in_default-clause-told
returns-in_default-clause-told g c = if_told (g.E.Extent.seen c.args.log.now.file).content _ (λ file told read.
    let none : c.in-Ok.found ≡ None = search rules in
    let comes = at_some (g.E.Extent.seen c.args.log.now.file).content file (λ f. (bodies : List (List ℕ)) → HasCome f bodies c.args.cursor.now → ComesOn f bodies c.next.new.cursor (Ok c.in-Ok.found)) told c.in-Ok.ensures.comes read.bodies read.come in
    read_ends c.args.unit file c.args.cursor.now c.next.new.cursor c.args.index.now.kept read (subst (λ o. ComesOn file read.bodies c.next.new.cursor (Ok o)) none comes))

pub returns-clause-told : goal.returns-clause-told
returns-clause-told g c = if_told (g.E.Extent.seen c.args.log.now.file).content _ (λ file told read.
    let comes = at_some (g.E.Extent.seen c.args.log.now.file).content file (λ f. (bodies : List (List ℕ)) → HasCome f bodies c.args.cursor.now → ComesOn f bodies c.next.new.cursor (Ok c.in-Ok.found)) told c.in-Ok.ensures.comes read.bodies read.come in
    let noted : c.note.new.self.kept ≡ kept_after c.args.index.now.kept c.in-Some.place c.in-Ok-record_in.item = c.note.ensures.kept ∙ ap (λ k. kept_after k c.in-Some.place c.in-Ok-record_in.item) c.in_ok-reserve.ensures.same in
    let is : RecordAnswers c.args.unit c.args.index.now.kept.is_released c.in-Some.place c.as_slice.result.now (Ok c.in-Ok-record_in.item) =
    subst (λ b. RecordAnswers c.args.unit b c.in-Some.place c.as_slice.result.now (Ok c.in-Ok-record_in.item)) c.is_released.ensures c.in-Ok-record_in.ensures in
    read_on c.args.unit file c.args.cursor.now c.next.new.cursor c.args.index.now.kept read c.in-Some.place c.as_slice.result.now c.in-Ok-record_in.item c.note.new.self.kept
    (subst (λ o. ComesOn file read.bodies c.next.new.cursor (Ok o)) (c.in-Some.is ∙ ap (λ b. Some (c.in-Some.place, b)) (sym c.as_slice.ensures)) comes) is noted)
