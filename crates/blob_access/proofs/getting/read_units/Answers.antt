use Rattle.std.proofs.Common.{◌+◌, ◌<◌, Bool, List, [], Ok, Err, length, get_or, drop, sym, ◌∙◌, ap, subst, rules}
use Rattle.unit_id.specs.declared.homes.Home.{Home}
use Rattle.volume_world.specs.Way.{Origin}
use Rattle.volume_world.specs.Replying.{AreHomes}
use Rattle.volume_world.specs.Progress.{Proceeds}
use Rattle.blob_access.specs.GetCall.{get_call, reading, unbroken}
use Rattle.blob_access.specs.GetParts.{wanted_of, try_of, heard_on, IsHeard, IsHeardBy}
use Rattle.blob_access.proofs.PutLemmas.{item_there}
use Rattle.blob_access.proofs.GetLemmas.{stays, item_index, item_within, reads_part, gets_failed_by}
use Rattle.blob_access.proofs.getting.read_units.Goals as goal

pub units-init : goal.units-init
units-init g c = record { mode = c.requires.mode; homes = c.requires.homes; heard = c.requires.heard; gone = λ versions. stays _ _ _ }

pub visit-requires-clause-home : goal.visit-requires-clause-home
visit-requires-clause-home g c =
    let items = c.as_slice-home-items.ensures in
    let home = c.home-item.result in
    let i = c.units.home-index in
    item_there _ c.args.homes.now i home c.units.invariant.homes (subst (λ (xs : List Home). i < length xs) items c.units-test.true) (c.home-item.is ∙ ap (λ (xs : List Home). get_or xs i home) items)

pub visit-requires-clause-within : goal.visit-requires-clause-within
visit-requires-clause-within g c =
    let items = c.as_slice-home-items.ensures in
    let home = c.home-item.result in
    let i = c.units.home-index in
    item_within _ c.args.wanted.mode c.args.homes.now i home c.units.invariant.mode c.units.invariant.homes (subst (λ (xs : List Home). i < length xs) items c.units-test.true)
    (c.home-item.is ∙ ap (λ (xs : List Home). get_or xs i home) items)

pub visit-requires-clause-heard : goal.visit-requires-clause-heard
visit-requires-clause-heard g c =
    let items = c.as_slice-home-items.ensures in
    let home = c.home-item.result in
    let i = c.units.home-index in
    let at = item_index _ c.args.homes.now i home c.units.invariant.homes (subst (λ (xs : List Home). i < length xs) items c.units-test.true) (c.home-item.is ∙ ap (λ (xs : List Home). get_or xs i home) items) in
    subst (λ k. IsHeard (wanted_of c.args.wanted) k c.units.tried) (sym at) c.units.invariant.heard

pub returns-in_err-visit-clause-reads : goal.returns-in_err-visit-clause-reads
returns-in_err-visit-clause-reads g c = λ versions.
    let wanted = wanted_of c.args.wanted in
    let items = c.as_slice-home-items.ensures in
    let home = c.home-item.result in
    let i = c.units.home-index in
    let below = subst (λ (xs : List Home). i < length xs) items c.units-test.true in
    let is = c.home-item.is ∙ ap (λ (xs : List Home). get_or xs i home) items in
    let from = reading (try_of versions c.args.tried.now) (unbroken c.args.homes.now) in
    let fault = c.in_err-visit.field-0.0 in
    let new = c.visit.new.tried in
    gets_failed_by {T = Bool} wanted _ _ from c.from_residual.result fault (heard_on wanted versions new (drop (i + 1) c.args.homes.now)) (heard_on wanted versions new []) (search rules)
    (reads_part wanted _ _ (g.P.Port.seen c.visit.new.port) versions from c.units.tried new c.args.homes.now i home (Err fault) below is (c.units.invariant.gone versions) (c.in_err-visit.ensures.visits versions))

pub returns-then-branch-clause-reads : goal.returns-then-branch-clause-reads
returns-then-branch-clause-reads g c = λ versions.
    let wanted = wanted_of c.args.wanted in
    let items = c.as_slice-home-items.ensures in
    let home = c.home-item.result in
    let i = c.units.home-index in
    let below = subst (λ (xs : List Home). i < length xs) items c.units-test.true in
    let is = c.home-item.is ∙ ap (λ (xs : List Home). get_or xs i home) items in
    let from = reading (try_of versions c.args.tried.now) (unbroken c.args.homes.now) in
    let new = c.visit.new.tried in
    let left = drop (i + 1) c.args.homes.now in
    let whole = reads_part wanted _ _ (g.P.Port.seen c.visit.new.port) versions from c.units.tried new c.args.homes.now i home (Ok c.in_ok-visit.field-0) below is (c.units.invariant.gone versions) (c.in_ok-visit.ensures.visits versions) in
    subst (λ b. Proceeds (get_call wanted) (g.P.Port.seen c.args.port.now) (g.P.Port.seen c.visit.new.port) from (heard_on wanted versions new left b)) c.if-branch.true whole

pub units-preserved : goal.units-preserved
units-preserved g c =
    let wanted = wanted_of c.args.wanted in
    let items = c.as_slice-home-items.ensures in
    let home = c.home-item.result in
    let i = c.units.home-index in
    let below = subst (λ (xs : List Home). i < length xs) items c.units-test.true in
    let is = c.home-item.is ∙ ap (λ (xs : List Home). get_or xs i home) items in
    let new = c.visit.new.tried in
    let left = drop (i + 1) c.args.homes.now in
    let at = item_index _ c.args.homes.now i home c.units.invariant.homes below is in
    let step = c.in_ok-visit.ensures.visits [] [] in
    record {
      mode = c.units.invariant.mode ∙ sym (ap (λ (o : Origin). o.mode) step.goes.origin);
      homes = subst (λ (o : Origin). AreHomes o c.args.homes.now) (sym step.goes.origin) c.units.invariant.homes;
      heard = subst (λ k. IsHeard wanted (k + 1) new) at (subst (λ b. IsHeardBy wanted (home.unit.index + 1) new b) c.if-branch.false c.in_ok-visit.ensures.heard);
      gone = λ versions.
          let from = reading (try_of versions c.args.tried.now) (unbroken c.args.homes.now) in
          let whole = reads_part wanted _ _ (g.P.Port.seen c.visit.new.port) versions from c.units.tried new c.args.homes.now i home (Ok c.in_ok-visit.field-0) below is (c.units.invariant.gone versions) (c.in_ok-visit.ensures.visits versions) in
          subst (λ b. Proceeds (get_call wanted) (g.P.Port.seen c.args.port.now) (g.P.Port.seen c.visit.new.port) from (heard_on wanted versions new left b)) c.if-branch.false whole;
    }
