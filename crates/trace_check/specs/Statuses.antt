-- The exit statuses of a check.
use Rattle.std.specs.Prelude.{ℕ}
use Rattle.std.specs.declared.io.ErrorKind.{ErrorKind as IoErrorKind}
use Rattle.std.specs.declared.io.ErrorKind.TheVariants.{InvalidData}
use Rattle.clap.specs.declared.error.kind.ErrorKind.{ErrorKind}
use Rattle.clap.specs.declared.error.kind.ErrorKind.TheVariants.{DisplayHelp, DisplayVersion, OutOfMemory}
use Rattle.trace_check_core.specs.declared.verdict.Verdict.{Verdict}
use Rattle.trace_check_core.specs.declared.verdict.Verdict.TheVariants.{Yes, No}
use Rattle.trace_check.specs.declared.fault.CheckFault.{CheckFault}
use Rattle.trace_check.specs.declared.fault.CheckFault.TheVariants.{Input, Output, Memory}

abbrev pub verdict_status : Verdict → ℕ
verdict_status (Yes lines) = 0
verdict_status (No line cause) = 1

-- of a check that gives no verdict
abbrev pub status_of : CheckFault → ℕ
status_of Input = 4
status_of Output = 4
status_of Memory = 5

-- of a command line that is wrong, or that asks for help or the version
abbrev pub refusal_status : ErrorKind → ℕ
refusal_status OutOfMemory = 5
refusal_status DisplayHelp = 0
refusal_status DisplayVersion = 0
refusal_status other = 2

-- A word of it is no UTF-8, or there is no memory for it.
abbrev pub unread_status : IoErrorKind → ℕ
unread_status InvalidData = 2
unread_status _ = 5
