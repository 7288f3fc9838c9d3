-- Each text has one outcome, the one that is found byte by byte.
use Rattle.std.proofs.Common.{◌≡◌, ℕ, ◌+◌, ◌-◌, ◌<◌, ◌≤◌, Bool, true, false, cond, List, [], ◌∷◌, ◌++◌, length, take, drop, refl, sym, ap, subst, ◌∙◌, arith}
use Rattle.std.specs.Prelude.{◌==◌, ◌&&◌, ◌||◌, nat_lt}
use Rattle.std.proofs.lemmas.Bool.{false≢true, true≢false, ltb-true, lt-ltb, le-ltb, ne_eqb}
use Rattle.std.proofs.lemmas.List.{append-nil, append_assoc, length-append, length_push, take_at, take-append-drop, length-take-le}
use Rattle.sasl.specs.declared.fault.AuthenticationFault.{AuthenticationFault}
use Rattle.sasl.specs.declared.fault.AuthenticationFault.TheVariants.{FirstByte, LineTooLong}
use Rattle.sasl.specs.declared.identity.Identity.{Identity}
use Rattle.sasl.specs.declared.phase.Phase.{Phase}
use Rattle.sasl.specs.declared.phase.Phase.TheVariants.{WaitingForNul, WaitingForAuth, WaitingForData, WaitingForBegin, Done, Closed}
use Rattle.sasl.specs.Settings.{Setting}
use Rattle.sasl.specs.Lines.{words, line_end, has_end, max_line}
use Rattle.sasl.specs.Table.{server_line_text}
use Rattle.sasl.specs.Conversations.{State, at, after, reads_lines, Converses, unopened, opened, no_nul, waits, too_long, answered, done, closed}
use Rattle.sasl.specs.Hearing.{Answer, Conversed, answer, silent, heard_line, heard_in_line, heard_at, heard, conversed}
use Rattle.sasl.specs.Words.{ends_with_return}
use Rattle.sasl.proofs.Ends.{front_has_none, has_end-end, has_end-push}
use Rattle.sasl.proofs.Rows.{answer_is}
use Rattle.sasl.proofs.Runs.{conversation_goes_on}
use Rattle.sasl.proofs.Heard.{MayBeLeft, Leads, heard_leads}

-- what is said first, and then the rest
abbrev then_heard : Setting → Conversed → List ℕ → Conversed
then_heard s first text = let others = conversed s first.state first.left text in record { sent = first.sent ++ others.sent; state = others.state; left = others.left }

-- nothing is said where it was closed
pub closed_hears : (s : Setting) (fault : AuthenticationFault) (n : ℕ) (text : List ℕ) → conversed s (at (Closed fault) n) [] text ≡ silent (at (Closed fault) n) []
closed_hears s fault n [] = refl
closed_hears s fault n (b ∷ text) = closed_hears s fault n text

-- nothing is said once it is done, and all is left
pub done_hears : (s : Setting) (identity : Identity) (n : ℕ) (left text : List ℕ) → conversed s (at (Done identity) n) left text ≡ silent (at (Done identity) n) (left ++ text)
done_hears s identity n left [] = ap (silent (at (Done identity) n)) (sym (append-nil left))
done_hears s identity n left (b ∷ text) = done_hears s identity n (left ++ b ∷ []) text ∙ ap (silent (at (Done identity) n)) (append_assoc left (b ∷ []) text)

of_line : (s : Setting) (phase : Phase) (n : ℕ) (left : List ℕ) (b : ℕ) → reads_lines phase ≡ true → heard_at s phase n left b ≡ heard_in_line s phase n (left ++ b ∷ [])
of_line s WaitingForNul n left b reads = absurd (false≢true reads)
of_line s WaitingForAuth n left b reads = refl
of_line s (WaitingForData due) n left b reads = refl
of_line s (WaitingForBegin identity) n left b reads = refl
of_line s (Done identity) n left b reads = absurd (false≢true reads)
of_line s (Closed fault) n left b reads = absurd (false≢true reads)

module _ (s : Setting) (phase : Phase) (n : ℕ) (reads : reads_lines phase ≡ true) where
  abbrev if_whole : List ℕ → Conversed
  if_whole line = heard_line s phase n (take (length line - 2) line)

  abbrev if_too_long : Conversed
  if_too_long = silent (at (Closed LineTooLong) n) []

  abbrev if_short : List ℕ → Bool → Conversed
  if_short line f = cond f (silent (at phase n) line) if_too_long

  -- a byte that completes no end and leaves room for one
  unended : (left : List ℕ) (b : ℕ) → has_end (left ++ b ∷ []) ≡ false → length (left ++ b ∷ []) < max_line → heard_at s phase n left b ≡ silent (at phase n) (left ++ b ∷ [])
  unended left b none short =
      of_line s phase n left b reads ∙ ap (λ (t : Bool). cond t (if_whole (left ++ b ∷ [])) (if_short (left ++ b ∷ []) (nat_lt (length (left ++ b ∷ [])) max_line))) none
      ∙ ap (if_short (left ++ b ∷ [])) (lt-ltb (length (left ++ b ∷ [])) max_line short)

  -- bytes of a line that has no end yet
  within : (line left more : List ℕ) → has_end (left ++ line) ≡ false → length (left ++ line) < max_line → conversed s (at phase n) left (line ++ more) ≡ conversed s (at phase n) (left ++ line) more
  within [] left more none short = ap (λ (x : List ℕ). conversed s (at phase n) x more) (sym (append-nil left))
  within (b ∷ line) left more none short =
      let parts : left ++ b ∷ [] ++ line ≡ left ++ b ∷ line = append_assoc left (b ∷ []) line in
      let none_still : has_end (left ++ b ∷ [] ++ line) ≡ false = ap has_end parts ∙ none in
      let short_still : length (left ++ b ∷ [] ++ line) < max_line = subst (λ (x : List ℕ). length x < max_line) (sym parts) short in
      ap (λ (first : Conversed). then_heard s first (line ++ more)) (unended left b (front_has_none (left ++ b ∷ []) line none_still) (omega (arith, short_still, length-append (left ++ b ∷ []) line)))
      ∙ within line (left ++ b ∷ []) more none_still short_still
      ∙ ap (λ (x : List ℕ). conversed s (at phase n) x more) parts

  -- a line and its end
  line_heard : (line rest : List ℕ) → has_end line ≡ false → length line + 2 ≤ max_line → conversed s (at phase n) [] (line ++ line_end ++ rest) ≡ then_heard s (heard_line s phase n line) rest
  line_heard line rest none fits =
      let returned : has_end (line ++ 13 ∷ []) ≡ false = has_end-push line 13 ∙ no_feed (has_end line) (ends_with_return line) none in
      let size : length (line ++ 13 ∷ []) ≡ length line + 1 = length_push line 13 in
      let short : length (line ++ 13 ∷ []) < max_line = omega (arith, size, fits) in
      let parts : line ++ line_end ++ rest ≡ line ++ 13 ∷ [] ++ 10 ∷ rest = append_assoc line line_end rest ∙ sym (append_assoc line (13 ∷ []) (10 ∷ rest)) in
      let ended : line ++ 13 ∷ [] ++ 10 ∷ [] ≡ line ++ line_end = append_assoc line (13 ∷ []) (10 ∷ []) in
      let count : length line ≡ length (line ++ line_end) - 2 = omega (arith, length-append line line_end) in
      ap (conversed s (at phase n) []) parts ∙ within (line ++ 13 ∷ []) [] (10 ∷ rest) returned short
      ∙ ap (λ (first : Conversed). then_heard s first rest)
      (of_line s phase n (line ++ 13 ∷ []) 10 reads ∙ ap (heard_in_line s phase n) ended
      ∙ ap (λ (t : Bool). cond t (if_whole (line ++ line_end)) (if_short (line ++ line_end) (nat_lt (length (line ++ line_end)) max_line))) (has_end-end line [])
      ∙ ap (heard_line s phase n) (take_at line line_end (length (line ++ line_end) - 2) count))
    where
      no_feed : (t u : Bool) → t ≡ false → (t || (u && (13 == 10))) ≡ false
      no_feed t true e = ap (λ (x : Bool). x || false) e
      no_feed t false e = ap (λ (x : Bool). x || false) e

  -- too many bytes without an end
  long_heard : (front rest : List ℕ) → has_end front ≡ false → length front ≡ max_line → conversed s (at phase n) [] (front ++ rest) ≡ silent (at (Closed LineTooLong) n) []
  long_heard front rest none long =
      let line : List ℕ = take 4095 front in
      let size : length line ≡ 4095 = length-take-le 4095 front (omega (arith, long)) in
      let parts : line ++ drop 4095 front ≡ front = take-append-drop 4095 front in
      last_heard line (drop 4095 front) size parts
    where
      last_heard : (line behind : List ℕ) → length line ≡ 4095 → line ++ behind ≡ front → conversed s (at phase n) [] (front ++ rest) ≡ silent (at (Closed LineTooLong) n) []
      last_heard line [] size parts = absurd (omega (arith, size, long, ap length parts, length-append {A = ℕ} line []))
      last_heard line (b ∷ behind) size parts =
          let joined : line ++ b ∷ behind ++ rest ≡ front ++ rest = ap (λ (x : List ℕ). x ++ rest) parts in
          let split : line ++ b ∷ behind ++ rest ≡ line ++ (b ∷ behind ++ rest) = append_assoc line (b ∷ behind) rest in
          let line_none : has_end line ≡ false = front_has_none line (b ∷ behind) (ap has_end parts ∙ none) in
          let one : line ++ b ∷ [] ++ behind ≡ front = append_assoc line (b ∷ []) behind ∙ parts in
          let none_yet : has_end (line ++ b ∷ []) ≡ false = front_has_none (line ++ b ∷ []) behind (ap has_end one ∙ none) in
          let full : max_line ≤ length (line ++ b ∷ []) = omega (arith, size, length_push line b) in
          ap (conversed s (at phase n) []) (sym joined ∙ split) ∙ within line [] (b ∷ (behind ++ rest)) line_none (omega (arith, size))
          ∙ ap (λ (first : Conversed). then_heard s first (behind ++ rest))
          (of_line s phase n line b reads
          ∙ ap (λ (t : Bool). cond t (if_whole (line ++ b ∷ [])) (if_short (line ++ b ∷ []) (nat_lt (length (line ++ b ∷ [])) max_line))) none_yet
          ∙ ap (if_short (line ++ b ∷ [])) (le-ltb (length (line ++ b ∷ [])) max_line full))
          ∙ closed_hears s LineTooLong n (behind ++ rest)

-- every conversation's outcome is the one that is heard
pub outcome_is : (s : Setting) (from : State) (text sent : List ℕ) (to : State) (left : List ℕ) → Converses s from text sent to left → conversed s from [] text ≡ record { sent = sent; state = to; left = left }
outcome_is s from text sent to left (unopened n) = refl
outcome_is s from text sent to left (opened n t se st le d) = outcome_is s (at WaitingForAuth n) t se st le d
outcome_is s from text sent to left (no_nul n b t other) =
    ap (λ (u : Bool). then_heard s (silent (at (cond u WaitingForAuth (Closed FirstByte)) n) []) t) (ne_eqb b 0 other) ∙ closed_hears s FirstByte n t
outcome_is s from text sent to left (waits phase n t reads none short) =
    ap (conversed s (at phase n) []) (sym (append-nil t)) ∙ within s phase n reads t [] [] none short
outcome_is s from text sent to left (too_long phase n t reads long) =
    ap (conversed s (at phase n) []) long.text_is ∙ long_heard s phase n reads long.front long.rest long.endless long.long
outcome_is s from text sent to left (answered phase n t line rest reply next se st le reads first answers d) =
    ap (conversed s (at phase n) []) first.text_is ∙ line_heard s phase n reads line rest first.first first.fits
    ∙ ap (λ (turn : Answer). then_heard s (record { sent = server_line_text s turn.0; state = after turn.0 turn.1 n; left = [] }) rest) (answer_is s phase (words line) reply next answers)
    ∙ ap (λ (others : Conversed). let all : Conversed = record { sent = server_line_text s reply ++ others.sent; state = others.state; left = others.left } in all) (outcome_is s (after reply next n) rest se st le d)
outcome_is s from text sent to left (done identity n t) = done_hears s identity n [] t
outcome_is s from text sent to left (closed fault n t) = closed_hears s fault n t

-- ## Each text has an outcome

nil_may : (phase : Phase) → MayBeLeft phase []
nil_may phase = record { of_line = λ reads. (refl, omega arith); of_nothing = λ e. refl; of_closed = λ fault e. refl }

reading_may : (phase : Phase) (left : List ℕ) → reads_lines phase ≡ true → has_end left ≡ false → length left < max_line → MayBeLeft phase left
reading_may phase left reads none short = record {
  of_line = λ again. (none, short);
  of_nothing = λ e. absurd (true≢false (sym reads ∙ ap reads_lines e));
  of_closed = λ fault e. absurd (true≢false (sym reads ∙ ap reads_lines e));
}

abbrev MayFollow : Conversed → Type 0
MayFollow outcome = MayBeLeft outcome.state.phase outcome.left

module _ (s : Setting) (phase : Phase) (n : ℕ) (reads : reads_lines phase ≡ true) where
  tests_may : (line : List ℕ) (e f : Bool) → has_end line ≡ e → nat_lt (length line) max_line ≡ f → MayFollow (cond e (if_whole s phase n reads line) (if_short s phase n reads line f))
  tests_may line true f p q = nil_may (after (answer s phase (words (take (length line - 2) line))).0 (answer s phase (words (take (length line - 2) line))).1 n).phase
  tests_may line false true p q = reading_may phase line reads p (ltb-true (length line) max_line q)
  tests_may line false false p q = nil_may (Closed LineTooLong)

  line_may : (line : List ℕ) → MayFollow (heard_in_line s phase n line)
  line_may line = tests_may line (has_end line) (nat_lt (length line) max_line) refl refl

may_follow : (s : Setting) (phase : Phase) (n : ℕ) (left : List ℕ) (b : ℕ) → MayFollow (heard_at s phase n left b)
may_follow s WaitingForNul n left b = nil_may (cond (b == 0) WaitingForAuth (Closed FirstByte))
may_follow s WaitingForAuth n left b = line_may s WaitingForAuth n refl (left ++ b ∷ [])
may_follow s (WaitingForData due) n left b = line_may s (WaitingForData due) n refl (left ++ b ∷ [])
may_follow s (WaitingForBegin identity) n left b = line_may s (WaitingForBegin identity) n refl (left ++ b ∷ [])
may_follow s (Done identity) n left b = record { of_line = λ reads. absurd (false≢true reads); of_nothing = λ e. absurd (cc); of_closed = λ fault e. absurd (cc) }
may_follow s (Closed fault) n left b = nil_may (Closed fault)

stands : (s : Setting) (phase : Phase) (n : ℕ) (left : List ℕ) → MayBeLeft phase left → Converses s (at phase n) left [] (at phase n) left
stands s WaitingForNul n left h = subst (λ (x : List ℕ). Converses s (at WaitingForNul n) x [] (at WaitingForNul n) x) (sym (h.of_nothing refl)) (unopened n)
stands s WaitingForAuth n left h = waits WaitingForAuth n left refl (h.of_line refl).0 (h.of_line refl).1
stands s (WaitingForData due) n left h = waits (WaitingForData due) n left refl (h.of_line refl).0 (h.of_line refl).1
stands s (WaitingForBegin identity) n left h = waits (WaitingForBegin identity) n left refl (h.of_line refl).0 (h.of_line refl).1
stands s (Done identity) n left h = done identity n left
stands s (Closed fault) n left h = subst (λ (x : List ℕ). Converses s (at (Closed fault) n) x [] (at (Closed fault) n) x) (sym (h.of_closed fault refl)) (closed fault n [])

leads : (s : Setting) (text : List ℕ) (state : State) (left : List ℕ) → MayBeLeft state.phase left → Leads s state (left ++ text) (conversed s state left text)
leads s [] state left h = subst (λ (x : List ℕ). Converses s state x [] state left) (sym (append-nil left)) (stands s state.phase state.rejections left h)
leads s (b ∷ text) state left h =
    let first = heard s state left b in
    let others = conversed s first.state first.left text in
    subst (λ (x : List ℕ). Converses s state x (first.sent ++ others.sent) others.state others.left) (append_assoc left (b ∷ []) text)
    (conversation_goes_on s state (left ++ b ∷ []) first.sent first.state first.left (heard_leads s state left b h) text others.sent others.state others.left
    (leads s text first.state first.left (may_follow s state.phase state.rejections left b)))

pub outcome : (s : Setting) (from : State) (text : List ℕ) → Leads s from text (conversed s from [] text)
outcome s from text = leads s text from [] (nil_may from.phase)

-- a text that goes on is one conversation
pub conversed_goes_on : (s : Setting) (from : State) (text piece : List ℕ) →
    let said = conversed s from [] text in
    let more = conversed s said.state [] (said.left ++ piece) in
    conversed s from [] (text ++ piece) ≡ record { sent = said.sent ++ more.sent; state = more.state; left = more.left }
conversed_goes_on s from text piece =
    let said = conversed s from [] text in
    let more = conversed s said.state [] (said.left ++ piece) in
    outcome_is s from (text ++ piece) (said.sent ++ more.sent) more.state more.left
    (conversation_goes_on s from text said.sent said.state said.left (outcome s from text) piece more.sent more.state more.left (outcome s said.state (said.left ++ piece)))
