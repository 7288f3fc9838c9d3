-- The verdict on a trace: of the causes in their order the first that has a line, with its least line.
use Rattle.std.specs.Prelude.{◌≡◌, ◌↔◌, ℕ, ◌+◌, nat_lt, nat_le, Bool, true, ◌&&◌, not, ◌==◌, Option, Some, None, List, [], ◌∷◌, ◌++◌, length, Result, Ok, Err, if◌then◌else◌}
use Rattle.std.specs.List.{list_all, list_any}
use Rattle.trace_words.specs.Words.{space, parts}
use Rattle.trace_lines.specs.Lines.{Line}
use Rattle.trace_lines.specs.Comparing.{same_words}
use Rattle.trace_check_core.specs.Traces.{Trace, trace_of}
use Rattle.trace_check_core.specs.Legality.{number_made, is_change, changes_in, of_seat, due, IsLegalWithLines}
use Rattle.trace_check_core.specs.declared.verdict.Cause.{Cause}
use Rattle.trace_check_core.specs.declared.verdict.Cause.TheVariants.{Form, Order, Place, Content}
use Rattle.trace_check_core.specs.declared.verdict.Verdict.{Verdict}
use Rattle.trace_check_core.specs.declared.verdict.Verdict.TheVariants.{Yes, No}

abbrev pub cause_code : Cause → ℕ
cause_code Form = 70
cause_code Order = 71
cause_code Place = 72
cause_code Content = 73

-- ## What is wrong with a line, behind those before it

abbrev pub is_behind : ℕ → ℕ → Option ℕ → Bool
is_behind earlier place (Some number) = nat_lt earlier place
is_behind earlier place None = nat_le earlier place

abbrev pub is_next : ℕ → Option ℕ → Bool
is_next changes (Some number) = number == changes + 1
is_next changes None = true

-- a line, behind these lines of its seat
abbrev pub follows : List Line → Line → Bool
follows earlier line =
    list_all (λ other. is_behind other.place line.place (number_made line.subject)) earlier
    && is_next (changes_in earlier) (number_made line.subject)

abbrev pub is_in_order : List Line → Line → Bool
is_in_order before line = follows (of_seat line.seat before) line

abbrev pub is_change_at : ℕ → Line → Bool
is_change_at place line = is_change line && (line.place == place)

-- No line stands above the changes, and no change where another one stands.
abbrev pub is_placed : ℕ → List Line → Line → Bool
is_placed changes before line =
    nat_le line.place changes && not (is_change line && list_any (is_change_at line.place) before)

abbrev pub is_right : Trace → Line → Bool
is_right t line = same_words line.recorded (parts space (due t line))

-- ## The verdict

-- the first line that a test of it and of the lines before it refuses, by a number that counts the lines
abbrev pub first_refused : (List Line → Line → Bool) → ℕ → List Line → List Line → Option ℕ
first_refused test number before [] = None
first_refused test number before (line ∷ lines) =
    if test before line then first_refused test (number + 1) (before ++ line ∷ []) lines else Some number

-- the number of the first line behind the head
abbrev pub first_line : Trace → ℕ
first_line t = length t.services + 3

abbrev pub refused_by : (List Line → Line → Bool) → Trace → Option ℕ
refused_by test t = first_refused test (first_line t) [] t.lines

-- the number of the line that would come next
abbrev pub next_line : Trace → ℕ
next_line t = first_line t + length t.lines

abbrev pub out_of_order : Trace → Option ℕ
out_of_order t = refused_by is_in_order t

abbrev pub misplaced : Trace → Option ℕ
misplaced t = refused_by (is_placed (changes_in t.lines)) t

abbrev pub wrong : Trace → Option ℕ
wrong t = refused_by (λ before line. is_right t line) t

abbrev pub judged : ℕ → Option ℕ → Option ℕ → Option ℕ → Verdict
judged lines (Some line) place content = No line Order
judged lines None (Some line) content = No line Place
judged lines None None (Some line) = No line Content
judged lines None None None = Yes lines

abbrev pub verdict_on : Trace → Verdict
verdict_on t = judged (length t.lines) (out_of_order t) (misplaced t) (wrong t)

abbrev pub verdict_read : Result Trace ℕ → Verdict
verdict_read (Err line) = No line Form
verdict_read (Ok t) = verdict_on t

-- the verdict on a file
abbrev pub verdict_of_file : List ℕ → Verdict
verdict_of_file file = verdict_read (trace_of file)

-- A file gets a yes exactly where it is a legal trace, and is told how many lines stand behind its head.
abbrev pub LegalTracesGetAYes : Type 0
LegalTracesGetAYes = (file : List ℕ) (lines : ℕ) → (verdict_of_file file ≡ Yes lines) ↔ IsLegalWithLines file lines
