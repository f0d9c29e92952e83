-- What a reader of a part of a line answers.
use Rattle.std.specs.Prelude.{◌≡◌, Option, Some, None, Result, Ok, Err}
use Rattle.node_runner.specs.declared.read.CommandFault.{CommandFault}
use Rattle.node_runner.specs.declared.read.CommandFault.TheVariants.{Bad, Memory}

-- It answers what is spelled, and refuses it exactly where nothing is spelled, unless memory runs out.
abbrev pub Reads : {A : Type 0} → Result A CommandFault → Option A → Type 0
Reads (Ok x) spelled = spelled ≡ Some x
Reads (Err Bad) spelled = spelled ≡ None
Reads (Err Memory) spelled = Unit {0}
