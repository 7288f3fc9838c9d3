-- Whole conversations over whole texts. (D-Bus Specification: "Authentication Protocol", "Special credentials-passing nul byte")
use Rattle.std.specs.Prelude.{◌≡◌, ◌≢◌, ℕ, ◌+◌, ◌<◌, nat_lt, Bool, true, false, List, [], ◌∷◌, ◌++◌, length, if◌then◌else◌}
use Rattle.sasl.specs.declared.identity.Identity.{Identity}
use Rattle.sasl.specs.declared.fault.AuthenticationFault.{AuthenticationFault}
use Rattle.sasl.specs.declared.fault.AuthenticationFault.TheVariants.{FirstByte, LineTooLong, Rejections}
use Rattle.sasl.specs.declared.phase.Phase.{Phase}
use Rattle.sasl.specs.declared.phase.Phase.TheVariants.{WaitingForNul, WaitingForAuth, WaitingForData, WaitingForBegin, Done, Closed}
use Rattle.sasl.specs.Settings.{Setting}
use Rattle.sasl.specs.Lines.{words, max_line, has_end, IsFirstLine, IsTooLong}
use Rattle.sasl.specs.declared.server_line.ServerLine.{ServerLine}
use Rattle.sasl.specs.declared.server_line.ServerLine.TheVariants.{Challenge, AskName, Accept, Reject, NotUnderstood, Silence}
use Rattle.sasl.specs.Table.{server_line_text, Answers}

-- How far a conversation has come, and how often the client was rejected.
pub record State : Type 0 where
  pub phase : Phase
  pub rejections : ℕ

abbrev pub at : Phase → ℕ → State
at phase rejections = record { phase = phase; rejections = rejections }

-- before the first byte
abbrev pub opening : State
opening = at WaitingForNul 0

-- lines are awaited
abbrev pub reads_lines : Phase → Bool
reads_lines WaitingForNul = false
reads_lines WaitingForAuth = true
reads_lines (WaitingForData due) = true
reads_lines (WaitingForBegin identity) = true
reads_lines (Done identity) = false
reads_lines (Closed cause) = false

-- the conversation goes on
abbrev pub is_open : Phase → Bool
is_open WaitingForNul = true
is_open WaitingForAuth = true
is_open (WaitingForData due) = true
is_open (WaitingForBegin identity) = true
is_open (Done identity) = false
is_open (Closed cause) = false

-- the rejection that closes
abbrev pub max_rejections : ℕ
max_rejections = 6

-- The state after a reply: rejections are counted, and the sixth closes.
abbrev pub after : ServerLine → Phase → ℕ → State
after Reject next n = if nat_lt (n + 1) max_rejections then at next (n + 1) else at (Closed Rejections) (n + 1)
after Challenge next n = at next n
after AskName next n = at next n
after Accept next n = at next n
after NotUnderstood next n = at next n
after Silence next n = at next n

-- From this state, this text of the client is answered with what is sent, and leads to that state, in which these bytes are left: those of a
-- line that has no end yet; once the conversation is done, those behind its last line; none where it was closed.
pub data Converses (s : Setting) : State → List ℕ → List ℕ → State → List ℕ → Type 0 where
  unopened : (n : ℕ) → Converses s (at WaitingForNul n) [] [] (at WaitingForNul n) []
  opened : (n : ℕ) (text sent : List ℕ) (to : State) (left : List ℕ) → Converses s (at WaitingForAuth n) text sent to left → Converses s (at WaitingForNul n) (0 ∷ text) sent to left
  no_nul : (n b : ℕ) (text : List ℕ) → b ≢ 0 → Converses s (at WaitingForNul n) (b ∷ text) [] (at (Closed FirstByte) n) []
  waits : (phase : Phase) (n : ℕ) (text : List ℕ) → reads_lines phase ≡ true → has_end text ≡ false → length text < max_line → Converses s (at phase n) text [] (at phase n) text
  too_long : (phase : Phase) (n : ℕ) (text : List ℕ) → reads_lines phase ≡ true → IsTooLong text → Converses s (at phase n) text [] (at (Closed LineTooLong) n) []
  answered : (phase : Phase) (n : ℕ) (text line rest : List ℕ) (reply : ServerLine) (next : Phase) (sent : List ℕ) (to : State) (left : List ℕ) → reads_lines phase ≡ true → IsFirstLine text line rest →
      Answers s phase (words line) reply next → Converses s (after reply next n) rest sent to left → Converses s (at phase n) text (server_line_text s reply ++ sent) to left
  done : (identity : Identity) (n : ℕ) (text : List ℕ) → Converses s (at (Done identity) n) text [] (at (Done identity) n) text
  closed : (cause : AuthenticationFault) (n : ℕ) (text : List ℕ) → Converses s (at (Closed cause) n) text [] (at (Closed cause) n) []
