-- What contracts see of a server, and what it makes of a piece of its client's bytes.
use Rattle.std.specs.Prelude.{◌≡◌, ℕ, ◌<◌, true, false, List, [], ◌∷◌, ◌++◌, length}
use Rattle.sasl.specs.declared.fault.AuthenticationFault.TheVariants.{NoMemory}
use Rattle.sasl.specs.declared.phase.Phase.{Phase}
use Rattle.sasl.specs.declared.phase.Phase.TheVariants.{Done, Closed}
use Rattle.sasl.specs.declared.step.Step.{Step}
use Rattle.sasl.specs.declared.step.Progress.{Progress}
use Rattle.sasl.specs.declared.step.Progress.TheVariants as progress
use Rattle.sasl.specs.Settings.{Setting}
use Rattle.sasl.specs.Lines.{max_line, has_end}
use Rattle.sasl.specs.Hearing.{Conversed, heard, heard_in_line, heard_line}
use Rattle.sasl.specs.Conversations.{State, at, opening, is_open, reads_lines, max_rejections, Converses}

-- what it is set up with, how far the conversation has come, and the bytes of a line that has no end yet
pub record Speaker : Type 0 where
  pub setting : Setting
  pub state : State
  pub unfinished : List ℕ

-- What a server keeps between pieces: where lines are awaited, bytes that have no end of a line and may still become one; else none. An open
-- conversation has fewer rejections than close it.
abbrev pub IsKept : Phase → ℕ → List ℕ → Type 0
IsKept phase rejections unfinished =
    (reads_lines phase ≡ true → (has_end unfinished ≡ false) × (length unfinished < max_line))
    × (reads_lines phase ≡ false → unfinished ≡ [])
    × (is_open phase ≡ true → rejections < max_rejections)

-- a server that has heard nothing
abbrev pub newcomer : Setting → Speaker
newcomer setting = record { setting = setting; state = opening; unfinished = [] }

-- how a phase is told
abbrev pub IsTold : Phase → Progress → Type 0
IsTold phase progress.Going = is_open phase ≡ true
IsTold phase (progress.Done identity rest) = phase ≡ Done identity
IsTold phase (progress.Closed cause) = phase ≡ Closed cause

-- Where it is done, these bytes are handed on.
abbrev pub HandsOn : Progress → List ℕ → Type 0
HandsOn progress.Going bytes = Unit {0}
HandsOn (progress.Done identity rest) bytes = rest.now ≡ bytes
HandsOn (progress.Closed cause) bytes = Unit {0}

-- the bytes that are handed on once the conversation is done
abbrev pub handed_on : Progress → List ℕ
handed_on progress.Going = []
handed_on (progress.Done identity rest) = rest.now
handed_on (progress.Closed cause) = []

-- The conversation went on with the piece: this was sent, and the bytes that are left are kept, or handed on once it is done. Only bytes of a
-- line are kept.
pub record GoesOn (old : Speaker) (piece : List ℕ) (step : Step) (new : Speaker) : Type 0 where
  pub converses : Converses old.setting old.state (old.unfinished ++ piece) step.sent.items new.state (new.unfinished ++ handed_on step.progress)
  pub told : IsTold new.state.phase step.progress
  pub setting : new.setting ≡ old.setting
  pub kept : reads_lines new.state.phase ≡ false → new.unfinished ≡ []

-- Want of memory closed it on the way, while it was open. Up to there it went on, and what was sent is what was due.
pub record IsCutOff (old : Speaker) (piece : List ℕ) (step : Step) (new : Speaker) : Type 0 where
  pub front : List ℕ
  pub behind : List ℕ
  pub piece_is : piece ≡ front ++ behind
  pub reached : State
  pub left : List ℕ
  pub converses : Converses old.setting old.state (old.unfinished ++ front) step.sent.items reached left
  pub was_open : is_open reached.phase ≡ true
  pub cause : step.progress ≡ progress.Closed NoMemory
  pub state : new.state ≡ at (Closed NoMemory) reached.rejections
  pub setting : new.setting ≡ old.setting

-- what one more byte brings a server
abbrev pub brought_by : Speaker → ℕ → Conversed
brought_by x b = heard x.setting x.state x.unfinished b

-- the same where lines are awaited
abbrev pub brought_in_line : Speaker → ℕ → Conversed
brought_in_line x b = heard_in_line x.setting x.state.phase x.state.rejections (x.unfinished ++ b ∷ [])

-- what it brings that the unfinished line has ended
abbrev pub brought_by_line : Speaker → Conversed
brought_by_line x = heard_line x.setting x.state.phase x.state.rejections x.unfinished

-- Bytes were heard: this became of the server, and of what is to be sent.
abbrev pub Hears : Speaker → Conversed → List ℕ → Speaker → List ℕ → Type 0
Hears old outcome sent new sent_after =
    (new ≡ record old { state = outcome.state; unfinished = outcome.left }) × (sent_after ≡ sent ++ outcome.sent)

-- Memory was refused: the conversation stands where it stood, and nothing is to be sent.
abbrev pub HearsNothing : Speaker → List ℕ → Speaker → List ℕ → Type 0
HearsNothing old sent new sent_after = (new.setting ≡ old.setting) × (new.state ≡ old.state) × (sent_after ≡ sent)
