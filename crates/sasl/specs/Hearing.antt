-- The same conversations as functions: they have one outcome, which is found byte by byte.
use Rattle.std.specs.Prelude.{ℕ, ◌-◌, nat_lt, Bool, true, false, ◌&&◌, not, ◌==◌, Option, Some, None, is_some, List, [], ◌∷◌, ◌++◌, length, take, if◌then◌else◌}
use Rattle.std.specs.List.{slice_split}
use Rattle.std.specs.Str.{bytes_eq}
use Rattle.sasl.specs.declared.command.Command.{Command}
use Rattle.sasl.specs.declared.command.Command.TheVariants.{Auth, Data, Error, Cancel, Begin, Other}
use Rattle.sasl.specs.declared.identity.Identity.{Identity}
use Rattle.sasl.specs.declared.identity.Identity.TheVariants.{User, Anonymous}
use Rattle.sasl.specs.declared.fault.AuthenticationFault.TheVariants.{FirstByte, BeginEarly, LineTooLong}
use Rattle.sasl.specs.declared.phase.Awaited.{Awaited}
use Rattle.sasl.specs.declared.phase.Awaited.TheVariants.{Name, Digest}
use Rattle.sasl.specs.declared.phase.Phase.{Phase}
use Rattle.sasl.specs.declared.phase.Phase.TheVariants.{WaitingForNul, WaitingForAuth, WaitingForData, WaitingForBegin, Done, Closed}
use Rattle.sasl.specs.Settings.{Setting, space, challenge_text, cookie_digest}
use Rattle.sasl.specs.Lines.{Word, words, hex_value, max_line, has_end, auth, cancel, begin, response, error, cookie_sha1, anonymous}
use Rattle.sasl.specs.declared.server_line.ServerLine.{ServerLine}
use Rattle.sasl.specs.declared.server_line.ServerLine.TheVariants.{Challenge, AskName, Accept, Reject, NotUnderstood, Silence}
use Rattle.sasl.specs.Table.{server_line_text}
use Rattle.sasl.specs.Conversations.{State, at, after}

-- ## A line

-- a reply, and the state after
abbrev pub Answer : Type 0
Answer = ServerLine × Phase

abbrev pub rejected : Answer
rejected = (Reject, WaitingForAuth)

abbrev pub accepted : Identity → Answer
accepted identity = (Accept, WaitingForBegin identity)

abbrev pub challenged : Answer
challenged = (Challenge, WaitingForData Digest)

-- whether bytes were found, and these
abbrev pub are : List ℕ → Option (List ℕ) → Bool
are bytes (Some found) = bytes_eq found bytes
are bytes None = false

-- no words
abbrev pub is_nil : List Word → Bool
is_nil [] = true
is_nil (word ∷ words) = false

-- AUTH DBUS_COOKIE_SHA1, and the word behind it
abbrev pub named : Setting → Option Word → Answer
named s None = (AskName, WaitingForData Name)
named s (Some name) = if are s.login.user (hex_value name) then challenged else rejected

-- AUTH ANONYMOUS where that is allowed, and the word behind it
abbrev pub traced : Option Word → Answer
traced None = accepted Anonymous
traced (Some trace) = if is_some (hex_value trace) then accepted Anonymous else rejected

-- AUTH with this mechanism, and the word behind that
abbrev pub attempted_by : Setting → Word → Option Word → Answer
attempted_by s mechanism word =
    if bytes_eq mechanism cookie_sha1 then named s word
    else if bytes_eq mechanism anonymous && s.login.allow_anonymous then traced word
    else rejected

-- what AUTH with these words is answered
abbrev pub attempted : Setting → List Word → Answer
attempted s [] = rejected
attempted s (mechanism ∷ []) = attempted_by s mechanism None
attempted s (mechanism ∷ word ∷ []) = attempted_by s mechanism (Some word)
attempted s (mechanism ∷ word ∷ another ∷ others) = rejected

-- a challenge of the client and the right digest
abbrev pub shows_parts : Setting → List Word → Bool
shows_parts s (client ∷ digest ∷ []) = not (bytes_eq client []) && bytes_eq digest (cookie_digest (challenge_text s) client s.login.cookie.secret)
shows_parts s [] = false
shows_parts s (client ∷ []) = false
shows_parts s (client ∷ digest ∷ another ∷ others) = false

-- whether what a client says shows that it knows the cookie
abbrev pub shows_cookie : Setting → Option (List ℕ) → Bool
shows_cookie s (Some said) = shows_parts s (slice_split (λ b. b == space) said)
shows_cookie s None = false

-- DATA with this word behind it
abbrev pub responded_with : Setting → Awaited → Word → Answer
responded_with s Name name = if are s.login.user (hex_value name) then challenged else rejected
responded_with s Digest word = if shows_cookie s (hex_value word) then accepted User else rejected

-- what DATA with these words is answered
abbrev pub responded : Setting → Awaited → List Word → Answer
responded s due [] = rejected
responded s due (word ∷ []) = responded_with s due word
responded s due (word ∷ another ∷ others) = rejected

-- the command that words are
abbrev pub command_of : List Word → Command
command_of [] = Other
command_of (word ∷ words) =
    if bytes_eq word auth then Auth
    else if bytes_eq word response then Data
    else if bytes_eq word error then Error
    else if bytes_eq word cancel && is_nil words then Cancel
    else if bytes_eq word begin && is_nil words then Begin
    else Other

-- what a command, with these words behind it, is answered
abbrev pub answer_command : Setting → Phase → Command → List Word → Answer
answer_command s WaitingForAuth Auth words = attempted s words
answer_command s WaitingForAuth Error words = rejected
answer_command s WaitingForAuth Begin words = (Silence, Closed BeginEarly)
answer_command s (WaitingForData due) Data words = responded s due words
answer_command s (WaitingForData due) Error words = rejected
answer_command s (WaitingForData due) Cancel words = rejected
answer_command s (WaitingForData due) Begin words = (Silence, Closed BeginEarly)
answer_command s (WaitingForBegin identity) Begin words = (Silence, Done identity)
answer_command s (WaitingForBegin identity) Error words = rejected
answer_command s (WaitingForBegin identity) Cancel words = rejected
answer_command s phase command words = (NotUnderstood, phase)

-- the words behind the first
abbrev pub behind : List Word → List Word
behind [] = []
behind (word ∷ words) = words

-- what a line of these words is answered, and the state after
abbrev pub answer : Setting → Phase → List Word → Answer
answer s phase words = answer_command s phase (command_of words) (behind words)

-- ## Bytes

-- What was sent, the state that was reached, and the bytes that are left.
pub record Conversed : Type 0 where
  pub sent : List ℕ
  pub state : State
  pub left : List ℕ

-- where nothing is said
abbrev pub silent : State → List ℕ → Conversed
silent state left = record { sent = []; state = state; left = left }

-- a line, without its end, is answered
abbrev pub heard_line : Setting → Phase → ℕ → List ℕ → Conversed
heard_line s phase n line =
    let turn = answer s phase (words line) in
    record { sent = server_line_text s turn.0; state = after turn.0 turn.1 n; left = [] }

-- a byte that comes behind those of a line that has no end yet
abbrev pub heard_in_line : Setting → Phase → ℕ → List ℕ → Conversed
heard_in_line s phase n line =
    if has_end line then heard_line s phase n (take (length line - 2) line)
    else if nat_lt (length line) max_line then silent (at phase n) line
    else silent (at (Closed LineTooLong) n) []

abbrev pub heard_at : Setting → Phase → ℕ → List ℕ → ℕ → Conversed
heard_at s WaitingForNul n left b = silent (at (if b == 0 then WaitingForAuth else Closed FirstByte) n) []
heard_at s WaitingForAuth n left b = heard_in_line s WaitingForAuth n (left ++ b ∷ [])
heard_at s (WaitingForData due) n left b = heard_in_line s (WaitingForData due) n (left ++ b ∷ [])
heard_at s (WaitingForBegin identity) n left b = heard_in_line s (WaitingForBegin identity) n (left ++ b ∷ [])
heard_at s (Done identity) n left b = silent (at (Done identity) n) (left ++ b ∷ [])
heard_at s (Closed cause) n left b = silent (at (Closed cause) n) []

-- one more byte, behind those that are left
abbrev pub heard : Setting → State → List ℕ → ℕ → Conversed
heard s state left b = heard_at s state.phase state.rejections left b

-- a text, behind the bytes that are left
abbrev pub conversed : Setting → State → List ℕ → List ℕ → Conversed
conversed s state left [] = silent state left
conversed s state left (b ∷ text) =
    let first = heard s state left b in
    let others = conversed s first.state first.left text in
    record { sent = first.sent ++ others.sent; state = others.state; left = others.left }
