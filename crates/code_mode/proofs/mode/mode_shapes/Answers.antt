use Rattle.code_mode.proofs.Numbers.{sound_shapes}
use Rattle.code_mode.proofs.mode.mode_shapes.Goals as goal

pub returns : goal.returns
returns c = sound_shapes
