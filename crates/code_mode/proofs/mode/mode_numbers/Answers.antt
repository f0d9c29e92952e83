use Rattle.code_mode.proofs.Numbers.{sound_numbers}
use Rattle.code_mode.proofs.mode.mode_numbers.Goals as goal

pub returns : goal.returns
returns c = sound_numbers
