-- What holds of every conversation.
use Rattle.std.specs.Prelude.{◌≡◌, ◌↔◌, ℕ, ◌≤◌, Bool, true, false, count_by, List, [], ◌∷◌, ◌++◌}
use Rattle.std.specs.List.{flat_map}
use Rattle.sasl.specs.declared.identity.Identity.{Identity}
use Rattle.sasl.specs.declared.identity.Identity.TheVariants.{User, Anonymous}
use Rattle.sasl.specs.declared.fault.AuthenticationFault.TheVariants.{Rejections}
use Rattle.sasl.specs.declared.phase.Phase.{Phase}
use Rattle.sasl.specs.declared.phase.Phase.TheVariants.{Done, Closed}
use Rattle.sasl.specs.declared.server_line.ServerLine.{ServerLine}
use Rattle.sasl.specs.declared.server_line.ServerLine.TheVariants.{Challenge, AskName, Accept, Reject, NotUnderstood, Silence}
use Rattle.sasl.specs.Settings.{Setting}
use Rattle.sasl.specs.Lines.{Word, words, line_end, IsHexOf, begin, auth, anonymous, response}
use Rattle.sasl.specs.Table.{server_line_text, ShowsCookie, Answers}
use Rattle.sasl.specs.Hearing.{conversed}
use Rattle.sasl.specs.Conversations.{State, at, opening, max_rejections, Converses}

-- In each state, each line has an answer and a state that follows, and only these.
abbrev pub EachLineHasOneAnswer : Type 0
EachLineHasOneAnswer =
    (s : Setting) (phase : Phase) (words : List Word) →
    (reply : ServerLine) × (next : Phase) × Answers s phase words reply next × ((other : ServerLine) (state : Phase) → Answers s phase words other state → (other ≡ reply) × (state ≡ next))

-- From each state, each text has an outcome, that which is heard byte by byte, and only that.
abbrev pub EachTextHasOneOutcome : Type 0
EachTextHasOneOutcome =
    (s : Setting) (from : State) (text : List ℕ) →
    let outcome = conversed s from [] text in
    Converses s from text outcome.sent outcome.state outcome.left
    × ((sent : List ℕ) (to : State) (left : List ℕ) → Converses s from text sent to left → outcome ≡ record { sent = sent; state = to; left = left })

-- However a text is cut, it is one conversation: what is left of the first part stands before the next.
abbrev pub PiecesAreOneText : Type 0
PiecesAreOneText =
    (s : Setting) (from : State) (text sent : List ℕ) (mid : State) (left piece more : List ℕ) (to : State) (rest : List ℕ) →
    Converses s from text sent mid left → Converses s mid (left ++ piece) more to rest → Converses s from (text ++ piece) (sent ++ more) to rest

abbrev pub is_rejection : ServerLine → Bool
is_rejection Reject = true
is_rejection Challenge = false
is_rejection AskName = false
is_rejection Accept = false
is_rejection NotUnderstood = false
is_rejection Silence = false

-- What is sent is replies, one behind another. Of these at most six are rejections, and six are there exactly where they closed the conversation.
abbrev pub RejectionsAreCounted : Type 0
RejectionsAreCounted =
    (s : Setting) (text sent : List ℕ) (to : State) (left : List ℕ) → Converses s opening text sent to left →
    (replies : List ServerLine) × (sent ≡ flat_map (server_line_text s) replies) × (to.rejections ≡ count_by is_rejection replies)
    × (to.rejections ≤ max_rejections) × ((to.phase ≡ Closed Rejections) ↔ (to.rejections ≡ max_rejections))

-- The text has a line of these words.
pub record HasLine (text : List ℕ) (said : List Word) : Type 0 where
  pub before : List ℕ
  pub line : List ℕ
  pub behind : List ℕ
  pub text_is : text ≡ before ++ line ++ line_end ++ behind
  pub words_are : words line ≡ said

-- A user has shown that it knows the cookie; an anonymous client has said that it is one, where those are let in.
abbrev pub HasShown : Setting → List ℕ → Identity → Type 0
HasShown s text User = (word : Word) × (said : List ℕ) × HasLine text (response ∷ word ∷ []) × IsHexOf word said × ShowsCookie s said
HasShown s text Anonymous = (s.login.allow_anonymous ≡ true) × (others : List Word) × HasLine text (auth ∷ anonymous ∷ others)

-- Nobody is let in who has not shown who it is, and what is left stands behind a line BEGIN.
abbrev pub NobodyIsLetInUnknown : Type 0
NobodyIsLetInUnknown =
    (s : Setting) (text sent : List ℕ) (identity : Identity) (n : ℕ) (left : List ℕ) → Converses s opening text sent (at (Done identity) n) left →
    HasShown s text identity × ((before : List ℕ) × (text ≡ before ++ begin ++ line_end ++ left))
