pub mod GateLog
pub mod LogFile
pub mod LogLaws
