-- The exit status of the program for a command line that can't be read, that is wrong, or that asks for help or the version.
use Rattle.std.specs.Prelude.{ℕ}
use Rattle.std.specs.declared.io.ErrorKind.{ErrorKind as IoErrorKind}
use Rattle.std.specs.declared.io.ErrorKind.TheVariants.{InvalidData}
use Rattle.clap.specs.declared.error.kind.ErrorKind.{ErrorKind}
use Rattle.clap.specs.declared.error.kind.ErrorKind.TheVariants.{DisplayHelp, DisplayVersion, OutOfMemory}

abbrev pub refusal_status : ErrorKind → ℕ
refusal_status OutOfMemory = 5
refusal_status DisplayHelp = 0
refusal_status DisplayVersion = 0
refusal_status other = 2

-- A word of it is no UTF-8, or there is no memory for it.
abbrev pub unread_status : IoErrorKind → ℕ
unread_status InvalidData = 2
unread_status _ = 5
