-- The faults of calls that pass on why a step wasn't done.
use Rattle.std.specs.Prelude.{Option, Some, None}
use Rattle.volume_world.specs.declared.fault.StepFault.{StepFault}
use Rattle.volume_world.specs.declared.fault.StepFault.TheVariants as step_faults
use Rattle.volume_calls.specs.declared.fault.LogFault.{LogFault}
use Rattle.volume_calls.specs.declared.fault.LogFault.TheVariants as log_faults
use Rattle.volume_calls.specs.declared.fault.RestartFault.{RestartFault}
use Rattle.volume_calls.specs.declared.fault.RestartFault.TheVariants as restart_faults
use Rattle.volume_calls.specs.declared.fault.AskFault.{AskFault}
use Rattle.volume_calls.specs.declared.fault.AskFault.TheVariants as ask_faults

abbrev pub step_cut : StepFault → Option StepFault
step_cut fault = Some fault

abbrev pub log_cut : LogFault → Option StepFault
log_cut log_faults.HistoryFull = Some step_faults.HistoryFull
log_cut log_faults.Memory = Some step_faults.Memory
log_cut _ = None

abbrev pub restart_cut : RestartFault → Option StepFault
restart_cut restart_faults.HistoryFull = Some step_faults.HistoryFull
restart_cut restart_faults.Memory = Some step_faults.Memory
restart_cut _ = None

abbrev pub ask_cut : AskFault → Option StepFault
ask_cut ask_faults.HistoryFull = Some step_faults.HistoryFull
ask_cut ask_faults.Memory = Some step_faults.Memory
ask_cut _ = None
