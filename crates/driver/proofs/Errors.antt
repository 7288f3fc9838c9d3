-- The names and the texts of errors are strings.
use Rattle.std.proofs.Common.{◌≡◌, ◌≤◌, false, length, refl, subst, arith}
use Rattle.std.specs.Prelude.{IsUtf8}
use Rattle.names.specs.Texts.{Text}
use Rattle.marshal_core.specs.Spelling.{IsString, has_zero}
use Rattle.driver.specs.Errors.{error_name, error_text}
use Rattle.seq_bus_core.specs.declared.error_kind.ErrorKind.{ErrorKind}
use Rattle.seq_bus_core.specs.declared.error_kind.ErrorKind.TheVariants.{Failed, NoMemory, LimitsExceeded, AccessDenied, InvalidArgs, UnknownMethod, UnknownInterface, ServiceUnknown, NameHasNoOwner, MatchRuleInvalid, MatchRuleNotFound, TimedOut, ExecFailed, ChildExited, ChildSignaled}
use Rattle.names.specs.ErrorName.{IsErrorName}
use Rattle.names.proofs.Faults.{none_interface}

-- what is asked of a name and of a text
pub record Fits (kind : ErrorKind) : Type 0 where
  pub name_short : length (error_name kind) ≤ 64
  pub name_clean : has_zero (error_name kind) ≡ false
  pub text_short : length (error_text kind) ≤ 64
  pub text_clean : has_zero (error_text kind) ≡ false
  pub is_name : IsErrorName (error_name kind)

pub fits : (kind : ErrorKind) → Fits kind
fits Failed = record { name_short = omega arith; name_clean = refl; text_short = omega arith; text_clean = refl; is_name = none_interface (error_name Failed) refl }
fits NoMemory = record { name_short = omega arith; name_clean = refl; text_short = omega arith; text_clean = refl; is_name = none_interface (error_name NoMemory) refl }
fits LimitsExceeded = record { name_short = omega arith; name_clean = refl; text_short = omega arith; text_clean = refl; is_name = none_interface (error_name LimitsExceeded) refl }
fits AccessDenied = record { name_short = omega arith; name_clean = refl; text_short = omega arith; text_clean = refl; is_name = none_interface (error_name AccessDenied) refl }
fits InvalidArgs = record { name_short = omega arith; name_clean = refl; text_short = omega arith; text_clean = refl; is_name = none_interface (error_name InvalidArgs) refl }
fits UnknownMethod = record { name_short = omega arith; name_clean = refl; text_short = omega arith; text_clean = refl; is_name = none_interface (error_name UnknownMethod) refl }
fits UnknownInterface = record { name_short = omega arith; name_clean = refl; text_short = omega arith; text_clean = refl; is_name = none_interface (error_name UnknownInterface) refl }
fits ServiceUnknown = record { name_short = omega arith; name_clean = refl; text_short = omega arith; text_clean = refl; is_name = none_interface (error_name ServiceUnknown) refl }
fits NameHasNoOwner = record { name_short = omega arith; name_clean = refl; text_short = omega arith; text_clean = refl; is_name = none_interface (error_name NameHasNoOwner) refl }
fits MatchRuleInvalid = record { name_short = omega arith; name_clean = refl; text_short = omega arith; text_clean = refl; is_name = none_interface (error_name MatchRuleInvalid) refl }
fits MatchRuleNotFound = record { name_short = omega arith; name_clean = refl; text_short = omega arith; text_clean = refl; is_name = none_interface (error_name MatchRuleNotFound) refl }
fits TimedOut = record { name_short = omega arith; name_clean = refl; text_short = omega arith; text_clean = refl; is_name = none_interface (error_name TimedOut) refl }
fits ExecFailed = record { name_short = omega arith; name_clean = refl; text_short = omega arith; text_clean = refl; is_name = none_interface (error_name ExecFailed) refl }
fits ChildExited = record { name_short = omega arith; name_clean = refl; text_short = omega arith; text_clean = refl; is_name = none_interface (error_name ChildExited) refl }
fits ChildSignaled = record { name_short = omega arith; name_clean = refl; text_short = omega arith; text_clean = refl; is_name = none_interface (error_name ChildSignaled) refl }

pub error_string : (kind : ErrorKind) (text : Text) → text ≡ error_text kind → IsUtf8 text → IsString (error_text kind)
error_string kind text is utf8 = let f = fits kind in (omega (arith, f.text_short), subst IsUtf8 is utf8, f.text_clean)
