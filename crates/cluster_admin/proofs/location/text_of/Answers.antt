use Rattle.std.proofs.Common.{ℕ, List, ap, ◌∙◌, Vec, Global}
use Rattle.serde_json.specs.Written.{has_float, compact_text}
use Rattle.cluster_admin.proofs.Locations.{without_float}
use Rattle.cluster_admin.proofs.location.text_of.Goals as goal

pub returns : goal.returns
returns c =
    let bytes_of : Vec ℕ Global → List ℕ = λ v. v.items in
    c.from_vec.ensures ∙ ap bytes_of c.into_bytes.ensures.value
    ∙ c.in_ok-text.ensures.text (ap has_float c.in_ok-location_of.ensures ∙ without_float c.args.at c.args.mode c.args.homes.now)
    ∙ ap compact_text c.in_ok-location_of.ensures
