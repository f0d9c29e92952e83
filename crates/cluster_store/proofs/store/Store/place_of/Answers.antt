use Rattle.std.proofs.Common.{◌∙◌, ap, length, get_or, ◌-◌}
use Rattle.cluster_store.proofs.Fits.{is_place, no_place, zero_place, past_place}
use Rattle.cluster_store.specs.Store.{over}
use Rattle.cluster_admin.specs.Inside.{state_of}
use Rattle.cluster_store.proofs.store.Store.place_of.Goals as goal
use Rattle.cluster_store.proofs.store.Store.place_of.Goals.{then-vid-eq0-via-then-vid-eq0, then-vid-eq0-via-else-vid-eq0+then-vid-volumes}

pub returns-then-vid-eq0 : goal.returns-then-vid-eq0
returns-then-vid-eq0 g c = elim c.then-vid-eq0.branch [
  | then-vid-eq0-via-then-vid-eq0 w ↦ zero_place (over (state_of c.args.self.now.admin) c.args.self.now.volumes.items) c.args.vid w.if-vid-eq0.true
  | then-vid-eq0-via-else-vid-eq0+then-vid-volumes w ↦ past_place (over (state_of c.args.self.now.admin) c.args.self.now.volumes.items) c.args.vid (length c.as_slice-volumes.result.now) c.requires w.if-vid-eq0.false w.if-vid-volumes.true (ap length c.as_slice-volumes.ensures.value)
]

pub returns-in-Some : goal.returns-in-Some
returns-in-Some g c =
    is_place (over (state_of c.args.self.now.admin) c.args.self.now.volumes.items) c.args.vid (length c.as_slice-volumes.result.now) c.index-volumes-place.result c.in-Some.field-0 c.requires c.if-vid-eq0.false c.if-vid-volumes.false (ap length c.as_slice-volumes.ensures.value)
    (c.index-volumes-place.is ∙ ap (λ vs. get_or vs (c.args.vid - 1) c.index-volumes-place.result) c.as_slice-volumes.ensures.value) c.in-Some.is

pub returns-in-None : goal.returns-in-None
returns-in-None g c =
    no_place (over (state_of c.args.self.now.admin) c.args.self.now.volumes.items) c.args.vid (length c.as_slice-volumes.result.now) c.index-volumes-place.result c.requires c.if-vid-eq0.false c.if-vid-volumes.false (ap length c.as_slice-volumes.ensures.value)
    (c.index-volumes-place.is ∙ ap (λ vs. get_or vs (c.args.vid - 1) c.index-volumes-place.result) c.as_slice-volumes.ensures.value) c.in-None.is
