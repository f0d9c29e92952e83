-- The coder of a mode.
use Rattle.rs_code.specs.Shape.{Shape}
use Rattle.code_mode.specs.declared.mode.Mode.{Mode}
use Rattle.code_mode.specs.Mode.{data_count, parity_count}

-- as many data and parity shards as the mode has
abbrev pub coder_shape : Mode → Shape
coder_shape mode = record { data_shards = data_count mode; parity_shards = parity_count mode }
