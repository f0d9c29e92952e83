-- What a volume of a run holds.
use Rattle.std.specs.Prelude.{ℕ, List, [], Option, Some, None, option_map}
use Rattle.code_mode.specs.declared.mode.Mode.{Mode}
use Rattle.node_runner.specs.Session.{Object}

-- a volume's mode, and the objects in it by name, in order of put
pub record VolumeState : Type 0 where
  pub mode : Mode
  pub objects : List (List ℕ × Object)

-- the objects of the volume, where there is one
abbrev pub objects_in : Option VolumeState → List (List ℕ × Object)
objects_in (Some volume) = volume.objects
objects_in None = []

-- its mode
abbrev pub mode_in : Option VolumeState → Option Mode
mode_in = option_map (λ volume. volume.mode)
