use Rattle.std.proofs.Common.{◌≡◌, ◌∙◌, sym, subst, rules, Err, Some, None, arith}
use Rattle.volume_entry.specs.Replaying.{MakesTable}
use Rattle.volume_entry.specs.TableParts.{part_of}
use Rattle.volume_entry.specs.BookStart.{FirstAnswers}
use Rattle.volume_entry.proofs.BookReads.{first_missing, first_made, first_unmade, sound_first}
use Rattle.volume_entry.proofs.rereading.read_first.Goals as goal

pub returns-in_err-body-clause-first : goal.returns-in_err-body-clause-first
returns-in_err-body-clause-first g c =
    let e = c.in_err-body.field-0.0 in
    let is : c.from_residual.result ≡ Err e = search rules in
    λ bodies has. subst (FirstAnswers c.args.vid c.args.shape bodies) (sym is)
    (first_missing c.args.vid c.args.shape bodies e (λ before b after are at. c.in_err-body.ensures.in_order bodies has before b after are (c.first-place.ensures ∙ at)))

pub returns-in-Some-clause-sound : goal.returns-in-Some-clause-sound
returns-in-Some-clause-sound g c =
    let makes : MakesTable c.args.vid c.args.shape c.as_slice.result.now (Some c.in-Some.table) = rw c.in-Some.is at c.in_ok-table.ensures in
    (sound_first c.args.shape c.in_ok-body.next makes.0 (part_of c.in-Some.table) (let h = c.in_ok-body.ensures.onward.0 in omega (arith, h)) makes.2 makes.3, c.in_ok-body.ensures.onward.1)

pub returns-in-Some-clause-first : goal.returns-in-Some-clause-first
returns-in-Some-clause-first g c =
    let makes : MakesTable c.args.vid c.args.shape c.as_slice.result.now (Some c.in-Some.table) = rw c.in-Some.is at c.in_ok-table.ensures in
    λ bodies has. first_made c.args.vid c.args.shape bodies c.in_ok-body.body c.in_ok-body.next c.in-Some.table
    (λ before b after are at. c.in_ok-body.ensures.in_order bodies has before b after are (c.first-place.ensures ∙ at))
    (subst (λ b. MakesTable c.args.vid c.args.shape b (Some c.in-Some.table)) c.as_slice.ensures makes)

pub returns-clause-first : goal.returns-clause-first
returns-clause-first g c =
    let makes : MakesTable c.args.vid c.args.shape c.as_slice.result.now None = rw c.in-None.is at c.in_ok-table.ensures in
    λ bodies has. first_unmade c.args.vid c.args.shape bodies c.in_ok-body.body c.in_ok-body.next
    (λ before b after are at. c.in_ok-body.ensures.in_order bodies has before b after are (c.first-place.ensures ∙ at))
    (subst (λ b. MakesTable c.args.vid c.args.shape b None) c.as_slice.ensures makes)
