use Rattle.rs_code.proofs.Interpolants.{interpolant_exists, interpolant_is_only, value_at_is_value}
use Rattle.rs_code.proofs.laws.one_polynomial_goes_through_points.Goals as goal

pub returns-clause-exists : goal.returns-clause-exists
returns-clause-exists c = interpolant_exists

pub returns-clause-only : goal.returns-clause-only
returns-clause-only c = interpolant_is_only

pub returns-clause-value : goal.returns-clause-value
returns-clause-value c = value_at_is_value
