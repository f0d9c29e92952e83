-- A broken station stays as it is, and any other ends as its units do.
use Rattle.std.proofs.Common.{◌∙◌, sym, ap, subst, refl, inl, List, arith}
use Rattle.blob_node.specs.declared.settled.Settled.{Settled}
use Rattle.blob_node.specs.Starting.{StartsAll}
use Rattle.blob_node.specs.Station.{StationOver, StationCall, Outlasts, Restarted}
use Rattle.blob_node.proofs.Serving.{station_of}
use Rattle.blob_node.proofs.Lasting.{lasts_same}
use Rattle.blob_node.proofs.Restarting.{restart_ends, restart_call, restart_lasts, restarted}
use Rattle.blob_node.proofs.station.Station.restart.Goals as goal

pub returns-then-self-clause-call : goal.returns-then-self-clause-call
returns-then-self-clause-call g c = record { vid = refl; disk = refl; is_broken = refl; counts = omega arith }

pub returns-then-self-clause-told : goal.returns-then-self-clause-told
returns-then-self-clause-told g c =
    inl (ap (λ (s : StationOver g.row.H.Denot g.row.H-File.Denot). s.is_broken) (sym c.self.view_is) ∙ c.if-self.true, c.new-settled.ensures.items, refl, refl)

pub returns-then-self-clause-lasts : goal.returns-then-self-clause-lasts
returns-then-self-clause-lasts g c = lasts_same g.H.Shelf.seen g.H.File.Extent.seen c.args.self.now

pub invariant_of-self : goal.invariant_of-self
invariant_of-self g c = λ word.
    let starts = subst (λ (xs : List Settled). StartsAll g.H.File.Extent.seen c.self.inside.units c.start_all.new.units xs c.start_all.new.settled.items c.start_all.result) c.new-settled.ensures.items c.start_all.ensures in
    let ends = restart_ends g.H.Shelf.seen g.H.File.Extent.seen c.self.inside.shelf c.self.inside.disk c.self.inside.units g.met.H.File.Extent.is_file c.start_all.new.units c.start_all.new.settled.items c.start_all.result c.unit_answer-answer.result starts c.unit_answer-answer.ensures in
    c.self.invariant word ∙ sym (ends.words word)

pub returns-clause-call : goal.returns-clause-call
returns-clause-call g c =
    let sees = g.H.Shelf.seen in
    let seen = g.H.File.Extent.seen in
    let new = c.start_all.new.units in
    let items = c.start_all.new.settled.items in
    let answer = c.unit_answer-answer.result in
    let starts = subst (λ (xs : List Settled). StartsAll seen c.self.inside.units new xs items c.start_all.result) c.new-settled.ensures.items c.start_all.ensures in
    let ends = restart_ends sees seen c.self.inside.shelf c.self.inside.disk c.self.inside.units g.met.H.File.Extent.is_file new items c.start_all.result answer starts c.unit_answer-answer.ensures in
    subst (λ (s : StationOver g.row.H.Denot g.row.H-File.Denot). StationCall sees seen s (station_of c.self.inside.shelf c.self.inside.disk c.self.inside.is_broken new) answer) c.self.view_is
    (subst (λ b. StationCall sees seen (station_of c.self.inside.shelf c.self.inside.disk b c.self.inside.units) (station_of c.self.inside.shelf c.self.inside.disk b new) answer) (sym c.if-self.false)
    (restart_call sees seen c.self.inside.shelf c.self.inside.disk c.self.inside.units g.met.H.File.Extent.is_file new items answer ends))

pub returns-clause-told : goal.returns-clause-told
returns-clause-told g c =
    let sees = g.H.Shelf.seen in
    let seen = g.H.File.Extent.seen in
    let new = c.start_all.new.units in
    let items = c.start_all.new.settled.items in
    let answer = c.unit_answer-answer.result in
    let starts = subst (λ (xs : List Settled). StartsAll seen c.self.inside.units new xs items c.start_all.result) c.new-settled.ensures.items c.start_all.ensures in
    let ends = restart_ends sees seen c.self.inside.shelf c.self.inside.disk c.self.inside.units g.met.H.File.Extent.is_file new items c.start_all.result answer starts c.unit_answer-answer.ensures in
    subst (λ (s : StationOver g.row.H.Denot g.row.H-File.Denot). Restarted sees seen items answer s (station_of c.self.inside.shelf c.self.inside.disk c.self.inside.is_broken new)) c.self.view_is
    (subst (λ b. Restarted sees seen items answer (station_of c.self.inside.shelf c.self.inside.disk b c.self.inside.units) (station_of c.self.inside.shelf c.self.inside.disk b new)) (sym c.if-self.false)
    (restarted sees seen c.self.inside.shelf c.self.inside.disk c.self.inside.units g.met.H.File.Extent.is_file new items answer ends))

pub returns-clause-lasts : goal.returns-clause-lasts
returns-clause-lasts g c =
    let sees = g.H.Shelf.seen in
    let seen = g.H.File.Extent.seen in
    let new = c.start_all.new.units in
    let items = c.start_all.new.settled.items in
    let answer = c.unit_answer-answer.result in
    let starts = subst (λ (xs : List Settled). StartsAll seen c.self.inside.units new xs items c.start_all.result) c.new-settled.ensures.items c.start_all.ensures in
    let ends = restart_ends sees seen c.self.inside.shelf c.self.inside.disk c.self.inside.units g.met.H.File.Extent.is_file new items c.start_all.result answer starts c.unit_answer-answer.ensures in
    subst (λ (s : StationOver g.row.H.Denot g.row.H-File.Denot). Outlasts sees seen s (station_of c.self.inside.shelf c.self.inside.disk c.self.inside.is_broken new)) c.self.view_is
    (subst (λ b. Outlasts sees seen (station_of c.self.inside.shelf c.self.inside.disk b c.self.inside.units) (station_of c.self.inside.shelf c.self.inside.disk b new)) (sym c.if-self.false)
    (restart_lasts sees seen c.self.inside.shelf c.self.inside.disk c.self.inside.units g.met.H.File.Extent.is_file new items answer ends))
