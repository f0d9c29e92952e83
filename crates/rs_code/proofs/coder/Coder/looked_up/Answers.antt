use Rattle.std.proofs.Common.{◌≡◌, ◌∙◌, sym, ap, subst, length}
use Rattle.std.specs.Prelude.{unwrap_or}
use Rattle.std.proofs.lemmas.List.{length-map}
use Rattle.gf256.specs.Sums.{sums_of}
use Rattle.rs_code.specs.RowCache.{IsRowOf}
use Rattle.rs_code.specs.Shape.{shape, AreWeights}
use Rattle.rs_code.specs.Shards.{bytes_of, size_of}
use Rattle.rs_code.specs.ShardValue.{weight, weights}
use Rattle.rs_code.proofs.Fitting.{fit_asked, fit_renewed, fit_added, given_as}
use Rattle.rs_code.proofs.Weights.{row_by_weights}
use Rattle.rs_code.proofs.coder.Coder.looked_up.Goals as goal

pub sum-requires-clause-row : goal.sum-requires-clause-row
sum-requires-clause-row c =
    let row : c.in-Some.row ≡ weights c.args.places.now c.args.want =
    fit_asked AreWeights c.in_ok-key.key.held.items c.args.places.now c.in_ok-key.key.want c.args.want c.self.inside.rows c.in-Some.row c.in_ok-key.ensures.held c.in_ok-key.ensures.want
    (sym c.in-Some.is ∙ c.in_ok-row.ensures) c.self.invariant.2 in
    ap length row ∙ length-map c.args.places.now (λ x. weight c.args.places.now x c.args.want)

pub invariant_of-self : goal.invariant_of-self
invariant_of-self c = (
  c.self.invariant.0,
  c.self.invariant.1,
  fit_renewed AreWeights c.in_ok-key.key.held.items c.in_ok-key.key.want c.self.inside.rows c.renew.new.self c.in-Some.row (sym c.in-Some.is ∙ c.in_ok-row.ensures) c.renew.ensures c.self.invariant.2,
)

pub returns-in-Some-clause-value : goal.returns-in-Some-clause-value
returns-in-Some-clause-value c =
    let row : c.in-Some.row ≡ weights c.args.places.now c.args.want =
    fit_asked AreWeights c.in_ok-key.key.held.items c.args.places.now c.in_ok-key.key.want c.args.want c.self.inside.rows c.in-Some.row c.in_ok-key.ensures.held c.in_ok-key.ensures.want
    (sym c.in-Some.is ∙ c.in_ok-row.ensures) c.self.invariant.2 in
    c.in_ok-bytes.ensures
    ∙ ap (λ r. sums_of r (bytes_of c.args.shards.now c.args.places.now) (unwrap_or (size_of c.args.shards.now) 0)) row
    ∙ row_by_weights c.args.shards.now c.args.places.now c.args.want

pub returns-in-Some-clause-rows : goal.returns-in-Some-clause-rows
returns-in-Some-clause-rows c =
    let places = c.args.places.now in
    let want = c.args.want in
    let made = c.self.inside.maker.made in
    let row : c.in-Some.row ≡ weights c.args.places.now c.args.want =
    fit_asked AreWeights c.in_ok-key.key.held.items c.args.places.now c.in_ok-key.key.want c.args.want c.self.inside.rows c.in-Some.row c.in_ok-key.ensures.held c.in_ok-key.ensures.want
    (sym c.in-Some.is ∙ c.in_ok-row.ensures) c.self.invariant.2 in (
      ap shape c.self.view_is,
      subst (λ rows. IsRowOf AreWeights places want rows c.renew.new.self c.args.self.now.made made (weights places want)) (ap (λ s. s.rows) c.self.view_is)
          (subst (λ before. IsRowOf AreWeights places want c.self.inside.rows c.renew.new.self before made (weights places want)) (ap (λ s. s.made) c.self.view_is)
          (subst (λ r. IsRowOf AreWeights places want c.self.inside.rows c.renew.new.self made made r) row
          (given_as AreWeights c.in_ok-key.key.held.items places c.in_ok-key.key.want want made c.self.inside.rows c.renew.new.self c.in-Some.row c.in_ok-key.ensures.held c.in_ok-key.ensures.want
          (sym c.in-Some.is ∙ c.in_ok-row.ensures) c.renew.ensures))),
    )

pub invariant_of-self-2 : goal.invariant_of-self-2
invariant_of-self-2 c = (
  c.self.invariant.0,
  c.self.invariant.1,
  fit_added AreWeights c.in_ok-key.key.held.items c.in_ok-key.key.want c.in_ok-row-2.row c.self.inside.rows c.keep.new.self c.in_ok-keep.ensures.ok
      (c.in_ok-row-2.ensures.fits ∙ ap (λ held. weights held c.args.want) (sym c.in_ok-key.ensures.held) ∙ ap (weights c.in_ok-key.key.held.items) (sym c.in_ok-key.ensures.want)) c.self.invariant.2,
)

pub returns-clause-value : goal.returns-clause-value
returns-clause-value c =
    c.in_ok-bytes-2.ensures
    ∙ ap (λ r. sums_of r (bytes_of c.args.shards.now c.args.places.now) (unwrap_or (size_of c.args.shards.now) 0)) c.in_ok-row-2.ensures.fits
    ∙ row_by_weights c.args.shards.now c.args.places.now c.args.want
