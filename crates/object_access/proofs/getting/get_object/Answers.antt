use Rattle.std.proofs.Common.{◌≡◌, ◌+◌, ◌<◌, Ok, refl, sym, ◌∙◌, ap, subst, rules, arith}
use Rattle.object_access.specs.Pieces.{blob_count, blob_sizes}
use Rattle.object_access.specs.ObjectGet.{ObjectGets}
use Rattle.object_access.proofs.GetLemmas.{got_none, got_next, nothing_got, got_stops, got_all, size_at, place_there}
use Rattle.object_access.proofs.getting.get_object.Goals as goal

pub returns-in_err-object-clause-gets : goal.returns-in_err-object-clause-gets
returns-in_err-object-clause-gets g c =
    let some : 0 < blob_count c.args.size = omega (arith, c.requires.size.0) in
    nothing_got _ c.args.first c.args.size c.from_residual.result some (search rules)

pub blobs-init : goal.blobs-init
blobs-init g c = record { coder = refl; gone = got_none _ c.args.first (blob_sizes c.args.size) c.in_ok-object.object.items c.in_ok-object.ensures }

pub returns-in_err-get_behind-clause-gets : goal.returns-in_err-get_behind-clause-gets
returns-in_err-get_behind-clause-gets g c =
    let within : c.blobs.place < blob_count c.args.size = omega (arith, c.blob_count-place-end.ensures, c.blobs-test.true) in
    let from : c.from.result ≡ c.blobs.place = search rules in
    got_stops _ _ _ c.args.first c.args.size c.blobs.place (c.args.first + c.from.result) c.blob_size.result c.blobs.object.items c.get_behind.new.object.items c.in_err-get_behind.field-0.0 c.from_residual-in_err-get_behind.result
    (place_there c.args.size c.blobs.place within) (c.blob_size.ensures ∙ size_at c.args.size c.blobs.place within) (ap (λ n. c.args.first + n) from) (search rules) c.blobs.invariant.gone c.in_err-get_behind.ensures.gets

pub blobs-preserved : goal.blobs-preserved
blobs-preserved g c =
    let within : c.blobs.place < blob_count c.args.size = omega (arith, c.blob_count-place-end.ensures, c.blobs-test.true) in
    let from : c.from.result ≡ c.blobs.place = search rules in
    record {
      coder = c.in_ok-get_behind.ensures.shape ∙ c.blobs.invariant.coder;
      gone = got_next _ _ _ c.args.first (blob_sizes c.args.size) c.blobs.place (c.args.first + c.from.result) c.blob_size.result c.blobs.object.items c.get_behind.new.object.items c.in_ok-get_behind.field-0
          (place_there c.args.size c.blobs.place within) (c.blob_size.ensures ∙ size_at c.args.size c.blobs.place within) (ap (λ n. c.args.first + n) from) c.blobs.invariant.gone c.in_ok-get_behind.ensures.gets;
    }

pub returns-clause-gets : goal.returns-clause-gets
returns-clause-gets g c =
    let a = g.P.Port.seen c.args.port.now in
    let b = g.P.Port.seen c.blobs.port in
    let all : c.blobs.place ≡ blob_count c.args.size = omega (arith, c.blob_count-place-end.ensures, c.blobs-test.false, c.blobs.auto.place-end) in
    subst (λ bytes. ObjectGets a b c.args.first c.args.size (Ok bytes)) (sym c.from_vec.ensures) (got_all a b c.args.first c.args.size c.blobs.place c.blobs.object.items all c.blobs.invariant.gone)
