-- The table of a server's states: what it answers a line, and the state after, one constructor a row.
-- (D-Bus Specification: "Server states", "AUTH Command" to "NEGOTIATE_UNIX_FD Command", "DBUS_COOKIE_SHA1", "ANONYMOUS")
use Rattle.std.specs.Prelude.{◌≡◌, ◌≢◌, ℕ, codes, true, false, ◌==◌, List, [], ◌∷◌, ◌++◌, if◌then◌else◌}
use Rattle.std.specs.List.{list_any}
use Rattle.hex.specs.Hex.{encode_lower}
use Rattle.sasl.specs.declared.identity.Identity.{Identity}
use Rattle.sasl.specs.declared.identity.Identity.TheVariants.{User, Anonymous}
use Rattle.sasl.specs.declared.fault.AuthenticationFault.TheVariants.{BeginEarly}
use Rattle.sasl.specs.declared.phase.Awaited.{Awaited}
use Rattle.sasl.specs.declared.phase.Awaited.TheVariants.{Name, Digest}
use Rattle.sasl.specs.declared.phase.Phase.{Phase}
use Rattle.sasl.specs.declared.phase.Phase.TheVariants.{WaitingForAuth, WaitingForData, WaitingForBegin, Done, Closed}
use Rattle.sasl.specs.declared.server_line.ServerLine.{ServerLine}
use Rattle.sasl.specs.declared.server_line.ServerLine.TheVariants.{Challenge, AskName, Accept, Reject, NotUnderstood, Silence}
use Rattle.sasl.specs.Settings.{Setting, space, question, challenge_text, cookie_digest}
use Rattle.sasl.specs.Lines.{Word, line_end, IsHexOf, auth, cancel, begin, response, error, cookie_sha1, anonymous}

-- the mechanisms that a server offers
abbrev pub mechanisms : Setting → List ℕ
mechanisms s = cookie_sha1 ++ (if s.login.allow_anonymous then space ∷ anonymous else [])

-- a reply as it is sent
abbrev pub server_line_text : Setting → ServerLine → List ℕ
server_line_text s Challenge = codes "DATA " ++ encode_lower (question s) ++ line_end
server_line_text s AskName = codes "DATA" ++ line_end
server_line_text s Accept = codes "OK " ++ encode_lower s.login.guid ++ line_end
server_line_text s Reject = codes "REJECTED " ++ mechanisms s ++ line_end
server_line_text s NotUnderstood = codes "ERROR" ++ line_end
server_line_text s Silence = []

-- What a client says who knows the cookie: a challenge of its own, without spaces, and the digest.
pub record ShowsCookie (s : Setting) (said : List ℕ) : Type 0 where
  pub client : List ℕ
  pub not_empty : client ≢ []
  pub no_space : list_any (λ b. b == space) client ≡ false
  pub said_is : said ≡ client ++ space ∷ cookie_digest (challenge_text s) client s.login.cookie.secret

-- AUTH, with these words behind it, that the server goes on with.
pub data Attempt (s : Setting) : List Word → ServerLine → Phase → Type 0 where
  as_user : (name : Word) → IsHexOf name s.login.user → Attempt s (cookie_sha1 ∷ name ∷ []) Challenge (WaitingForData Digest)
  as_somebody : Attempt s (cookie_sha1 ∷ []) AskName (WaitingForData Name)
  as_nobody : s.login.allow_anonymous ≡ true → Attempt s (anonymous ∷ []) Accept (WaitingForBegin Anonymous)
  with_trace : (trace : Word) (bytes : List ℕ) → s.login.allow_anonymous ≡ true → IsHexOf trace bytes → Attempt s (anonymous ∷ trace ∷ []) Accept (WaitingForBegin Anonymous)

-- DATA, with these words behind it, that is what the server waits for.
pub data Response (s : Setting) : Awaited → List Word → ServerLine → Phase → Type 0 where
  names_user : (name : Word) → IsHexOf name s.login.user → Response s Name (name ∷ []) Challenge (WaitingForData Digest)
  shows_cookie : (word : Word) (said : List ℕ) → IsHexOf word said → ShowsCookie s said → Response s Digest (word ∷ []) Accept (WaitingForBegin User)

-- The rows: in this state a line of these words is answered so, and the next state is this.
pub data Row (s : Setting) : Phase → List Word → ServerLine → Phase → Type 0 where
  -- while AUTH is awaited
  attempt : (words : List Word) (reply : ServerLine) (next : Phase) → Attempt s words reply next → Row s WaitingForAuth (auth ∷ words) reply next
  other_attempt : (words : List Word) → ((reply : ServerLine) (next : Phase) → Attempt s words reply next → ⊥) → Row s WaitingForAuth (auth ∷ words) Reject WaitingForAuth
  error_of_client : (words : List Word) → Row s WaitingForAuth (error ∷ words) Reject WaitingForAuth
  begin_early : Row s WaitingForAuth (begin ∷ []) Silence (Closed BeginEarly)
  -- while DATA is awaited
  data_right : (due : Awaited) (words : List Word) (reply : ServerLine) (next : Phase) → Response s due words reply next → Row s (WaitingForData due) (response ∷ words) reply next
  other_data : (due : Awaited) (words : List Word) → ((reply : ServerLine) (next : Phase) → Response s due words reply next → ⊥) → Row s (WaitingForData due) (response ∷ words) Reject WaitingForAuth
  data_cancelled : (due : Awaited) → Row s (WaitingForData due) (cancel ∷ []) Reject WaitingForAuth
  data_error : (due : Awaited) (words : List Word) → Row s (WaitingForData due) (error ∷ words) Reject WaitingForAuth
  begin_before_data : (due : Awaited) → Row s (WaitingForData due) (begin ∷ []) Silence (Closed BeginEarly)
  -- while BEGIN is awaited
  begin_at_last : (identity : Identity) → Row s (WaitingForBegin identity) (begin ∷ []) Silence (Done identity)
  begin_cancelled : (identity : Identity) → Row s (WaitingForBegin identity) (cancel ∷ []) Reject WaitingForAuth
  begin_error : (identity : Identity) (words : List Word) → Row s (WaitingForBegin identity) (error ∷ words) Reject WaitingForAuth

-- A line is answered by its row. What has none is not understood, and the state stays.
pub data Answers (s : Setting) (phase : Phase) (words : List Word) : ServerLine → Phase → Type 0 where
  by_row : (reply : ServerLine) (next : Phase) → Row s phase words reply next → Answers s phase words reply next
  anything_else : ((reply : ServerLine) (next : Phase) → Row s phase words reply next → ⊥) → Answers s phase words NotUnderstood phase
