-- Nobody is let in who has not shown who it is.
use Rattle.std.proofs.Common.{◌≡◌, ℕ, ◌+◌, ◌⊎◌, inl, inr, Bool, true, false, cond, List, [], ◌∷◌, ◌++◌, refl, sym, ap, subst, ◌∙◌}
use Rattle.std.specs.Prelude.{nat_lt, ◌==◌}
use Rattle.std.specs.List.{list_all, slice_split}
use Rattle.std.proofs.lemmas.Bool.{true≢false, false≢true}
use Rattle.std.proofs.lemmas.List.{append_assoc}
use Rattle.sasl.specs.declared.fault.AuthenticationFault.TheVariants.{Rejections}
use Rattle.sasl.specs.declared.identity.Identity.{Identity}
use Rattle.sasl.specs.declared.identity.Identity.TheVariants.{User, Anonymous}
use Rattle.sasl.specs.declared.phase.Awaited.{Awaited}
use Rattle.sasl.specs.declared.phase.Phase.{Phase}
use Rattle.sasl.specs.declared.phase.Phase.TheVariants.{WaitingForNul, WaitingForAuth, WaitingForData, WaitingForBegin, Done, Closed}
use Rattle.sasl.specs.declared.server_line.ServerLine.{ServerLine}
use Rattle.sasl.specs.declared.server_line.ServerLine.TheVariants.{Challenge, AskName, Accept, Reject, NotUnderstood, Silence}
use Rattle.sasl.specs.Settings.{Setting, space}
use Rattle.sasl.specs.Lines.{Word, words, line_end, is_printable, IsHexOf, begin, auth, anonymous, response}
use Rattle.sasl.specs.Table.{ShowsCookie, Attempt, as_user, as_somebody, as_nobody, with_trace, Response, names_user, shows_cookie, Row, attempt, other_attempt, error_of_client, begin_early, data_right, other_data, data_cancelled, data_error, begin_before_data, begin_at_last, begin_cancelled, begin_error, Answers, by_row, anything_else}
use Rattle.sasl.specs.Conversations.{State, at, after, reads_lines, max_rejections, Converses, unopened, opened, no_nul, waits, too_long, answered, done, closed}
use Rattle.sasl.specs.Laws.{HasLine, HasShown}
use Rattle.sasl.proofs.Splitting.{one_part}

-- ## One line

-- whether it is done, or only waits for BEGIN
abbrev is_done : Phase → Bool
is_done WaitingForNul = false
is_done WaitingForAuth = false
is_done (WaitingForData due) = false
is_done (WaitingForBegin identity) = false
is_done (Done identity) = true
is_done (Closed fault) = false

abbrev awaits_begin : Phase → Bool
awaits_begin WaitingForNul = false
awaits_begin WaitingForAuth = false
awaits_begin (WaitingForData due) = false
awaits_begin (WaitingForBegin identity) = true
awaits_begin (Done identity) = false
awaits_begin (Closed fault) = false

-- words by which a client shows who it is
abbrev Shows : Setting → List Word → Identity → Type 0
Shows s said User = (word : Word) × (bytes : List ℕ) × (said ≡ response ∷ word ∷ []) × IsHexOf word bytes × ShowsCookie s bytes
Shows s said Anonymous = (s.login.allow_anonymous ≡ true) × (others : List Word) × (said ≡ auth ∷ anonymous ∷ others)

abbrev begins_as : Identity → Phase
begins_as identity = WaitingForBegin identity

same : (i j : Identity) → begins_as i ≡ begins_as j → i ≡ j
same i j e = cc

abbrev is_in_as : Identity → Phase
is_in_as identity = Done identity

same_in : (i j : Identity) → is_in_as i ≡ is_in_as j → i ≡ j
same_in i j e = cc

after_phase : (reply : ServerLine) (next : Phase) (n : ℕ) → ((after reply next n).phase ≡ next) ⊎ ((after reply next n).phase ≡ Closed Rejections)
after_phase Challenge next n = inl refl
after_phase AskName next n = inl refl
after_phase Accept next n = inl refl
after_phase NotUnderstood next n = inl refl
after_phase Silence next n = inl refl
after_phase Reject next n = go (nat_lt (n + 1) max_rejections)
  where
    go : (t : Bool) → ((cond t (at next (n + 1)) (at (Closed Rejections) (n + 1))).phase ≡ next) ⊎ ((cond t (at next (n + 1)) (at (Closed Rejections) (n + 1))).phase ≡ Closed Rejections)
    go true = inl refl
    go false = inr refl

module _ (s : Setting) (identity : Identity) where
  by_attempt : (words : List Word) (reply : ServerLine) (next : Phase) → Attempt s words reply next → next ≡ WaitingForBegin identity → Shows s (auth ∷ words) identity
  by_attempt words reply next (as_user name h) e = absurd (false≢true (ap awaits_begin e))
  by_attempt words reply next as_somebody e = absurd (false≢true (ap awaits_begin e))
  by_attempt words reply next (as_nobody allowed) e = subst (λ (i : Identity). Shows s (auth ∷ anonymous ∷ []) i) (same Anonymous identity e) (allowed, [], refl)
  by_attempt words reply next (with_trace trace bytes allowed h) e = subst (λ (i : Identity). Shows s (auth ∷ anonymous ∷ trace ∷ []) i) (same Anonymous identity e) (allowed, trace ∷ [], refl)

  by_response : (due : Awaited) (words : List Word) (reply : ServerLine) (next : Phase) → Response s due words reply next → next ≡ WaitingForBegin identity → Shows s (response ∷ words) identity
  by_response due words reply next (names_user name h) e = absurd (false≢true (ap awaits_begin e))
  by_response due words reply next (shows_cookie word said h k) e = subst (λ (i : Identity). Shows s (response ∷ word ∷ []) i) (same User identity e) (word, said, refl, h, k)

  by_answer : (phase : Phase) (words : List Word) (reply : ServerLine) (next : Phase) → Answers s phase words reply next → next ≡ WaitingForBegin identity → (phase ≡ WaitingForBegin identity) ⊎ Shows s words identity
  by_answer phase words reply next (anything_else none) e = inl e
  by_answer phase words reply next (by_row r n row) e = of_row phase words r n row e
    where
      of_row : (phase : Phase) (words : List Word) (reply : ServerLine) (next : Phase) → Row s phase words reply next → next ≡ WaitingForBegin identity → (phase ≡ WaitingForBegin identity) ⊎ Shows s words identity
      of_row phase words reply next (attempt others r n a) e = inr (by_attempt others r n a e)
      of_row phase words reply next (other_attempt others none) e = absurd (false≢true (ap awaits_begin e))
      of_row phase words reply next (error_of_client others) e = absurd (false≢true (ap awaits_begin e))
      of_row phase words reply next begin_early e = absurd (false≢true (ap awaits_begin e))
      of_row phase words reply next (data_right due others r n h) e = inr (by_response due others r n h e)
      of_row phase words reply next (other_data due others none) e = absurd (false≢true (ap awaits_begin e))
      of_row phase words reply next (data_cancelled due) e = absurd (false≢true (ap awaits_begin e))
      of_row phase words reply next (data_error due others) e = absurd (false≢true (ap awaits_begin e))
      of_row phase words reply next (begin_before_data due) e = absurd (false≢true (ap awaits_begin e))
      of_row phase words reply next (begin_at_last i) e = absurd (false≢true (ap awaits_begin e))
      of_row phase words reply next (begin_cancelled i) e = absurd (false≢true (ap awaits_begin e))
      of_row phase words reply next (begin_error i others) e = absurd (false≢true (ap awaits_begin e))

  no_attempt : (words : List Word) (reply : ServerLine) (next : Phase) → Attempt s words reply next → next ≡ Done identity → ⊥
  no_attempt words reply next (as_user name h) e = false≢true (ap is_done e)
  no_attempt words reply next as_somebody e = false≢true (ap is_done e)
  no_attempt words reply next (as_nobody allowed) e = false≢true (ap is_done e)
  no_attempt words reply next (with_trace trace bytes allowed h) e = false≢true (ap is_done e)

  no_response : (due : Awaited) (words : List Word) (reply : ServerLine) (next : Phase) → Response s due words reply next → next ≡ Done identity → ⊥
  no_response due words reply next (names_user name h) e = false≢true (ap is_done e)
  no_response due words reply next (shows_cookie word said h k) e = false≢true (ap is_done e)

  abbrev IsBegin : Phase → List Word → Type 0
  IsBegin phase words = (phase ≡ WaitingForBegin identity) × (words ≡ begin ∷ [])

  row_begins : (phase : Phase) (words : List Word) (reply : ServerLine) (next : Phase) → Row s phase words reply next → next ≡ Done identity → IsBegin phase words
  row_begins phase words reply next (attempt others r n a) e = absurd (no_attempt others r n a e)
  row_begins phase words reply next (other_attempt others none) e = absurd (false≢true (ap is_done e))
  row_begins phase words reply next (error_of_client others) e = absurd (false≢true (ap is_done e))
  row_begins phase words reply next begin_early e = absurd (false≢true (ap is_done e))
  row_begins phase words reply next (data_right due others r n h) e = absurd (no_response due others r n h e)
  row_begins phase words reply next (other_data due others none) e = absurd (false≢true (ap is_done e))
  row_begins phase words reply next (data_cancelled due) e = absurd (false≢true (ap is_done e))
  row_begins phase words reply next (data_error due others) e = absurd (false≢true (ap is_done e))
  row_begins phase words reply next (begin_before_data due) e = absurd (false≢true (ap is_done e))
  row_begins phase words reply next (begin_at_last i) e = (ap (λ (j : Identity). begins_as j) (same_in i identity e), refl)
  row_begins phase words reply next (begin_cancelled i) e = absurd (false≢true (ap is_done e))
  row_begins phase words reply next (begin_error i others) e = absurd (false≢true (ap is_done e))

  begins : (phase : Phase) (words : List Word) (reply : ServerLine) (next : Phase) → reads_lines phase ≡ true → Answers s phase words reply next → next ≡ Done identity → IsBegin phase words
  begins phase words reply next reads (by_row r n row) e = row_begins phase words r n row e
  begins phase words reply next reads (anything_else none) e = absurd (true≢false (sym reads ∙ ap reads_lines e))

-- ## Whole texts

of_parts : (line : List ℕ) (t : Bool) → list_all is_printable line ≡ t → cond t (slice_split (λ b. b == space) line) [] ≡ begin ∷ [] → line ≡ begin
of_parts line true e h = one_part space line begin h
of_parts line false e h = absurd (cc)

is_begin : (line : List ℕ) → words line ≡ begin ∷ [] → line ≡ begin
is_begin line h = of_parts line (list_all is_printable line) refl h

joined : (f a b c d : List ℕ) → f ++ (a ++ b ++ c ++ d) ≡ f ++ a ++ b ++ c ++ d
joined f a b c d =
    sym (append_assoc f (a ++ b ++ c) d) ∙ ap (λ (x : List ℕ). x ++ d) (sym (append_assoc f (a ++ b) c) ∙ ap (λ (x : List ℕ). x ++ c) (sym (append_assoc f a b)))

line_further : (front text : List ℕ) (said : List Word) → HasLine text said → HasLine (front ++ text) said
line_further front text said h = record {
  before = front ++ h.before;
  line = h.line;
  behind = h.behind;
  text_is = ap (λ (x : List ℕ). front ++ x) h.text_is ∙ joined front h.before h.line line_end h.behind;
  words_are = h.words_are;
}

shown_further : (s : Setting) (front text : List ℕ) (identity : Identity) → HasShown s text identity → HasShown s (front ++ text) identity
shown_further s front text User h = (h.0, h.1, line_further front text (response ∷ h.0 ∷ []) h.2, h.3, h.4)
shown_further s front text Anonymous h = (h.0, h.1, line_further front text (auth ∷ anonymous ∷ h.1) h.2)

shown_here : (s : Setting) (text line rest : List ℕ) (identity : Identity) → text ≡ line ++ line_end ++ rest → Shows s (words line) identity → HasShown s text identity
shown_here s text line rest User e h = (h.0, h.1, record { before = []; line = line; behind = rest; text_is = e; words_are = h.2 }, h.3, h.4)
shown_here s text line rest Anonymous e h = (h.0, h.1, record { before = []; line = line; behind = rest; text_is = e; words_are = h.2 })

abbrev Begun : List ℕ → List ℕ → Type 0
Begun text left = (before : List ℕ) × (text ≡ before ++ begin ++ line_end ++ left)

begun_further : (front text left : List ℕ) → Begun text left → Begun (front ++ text) left
begun_further front text left h = (front ++ h.0, ap (λ (x : List ℕ). front ++ x) h.1 ∙ joined front h.0 begin line_end left)

-- It is done already, or this text lets the client in, who had shown who it is or shows it now.
abbrev LetsIn : Setting → Identity → Phase → List ℕ → List ℕ → Type 0
LetsIn s identity phase text left =
    ((phase ≡ Done identity) × (text ≡ left)) ⊎ (((phase ≡ WaitingForBegin identity) ⊎ HasShown s text identity) × Begun text left)

module _ (s : Setting) (identity : Identity) (phase : Phase) (n : ℕ) (text line rest : List ℕ) (reply : ServerLine) (next : Phase) (left : List ℕ)
    (reads : reads_lines phase ≡ true) (text_is : text ≡ line ++ line_end ++ rest) (answers : Answers s phase (words line) reply next) where
  led : (to : Phase) → is_done to ≡ true ⊎ (awaits_begin to ≡ true) → (after reply next n).phase ≡ to → next ≡ to
  led to which e = elim (after_phase reply next n) [
    | inl q ↦ sym q ∙ e
    | inr q ↦ absurd (elim which [ inl d ↦ false≢true (ap is_done (sym q ∙ e) ∙ d) | inr w ↦ false≢true (ap awaits_begin (sym q ∙ e) ∙ w) ])
  ]

  who : (((after reply next n).phase ≡ WaitingForBegin identity) ⊎ HasShown s rest identity) → (phase ≡ WaitingForBegin identity) ⊎ HasShown s text identity
  who (inl e) = elim (by_answer s identity phase (words line) reply next answers (led (WaitingForBegin identity) (inr refl) e)) [
    | inl w ↦ inl w
    | inr shows ↦ inr (shown_here s text line rest identity text_is shows)
  ]
  who (inr shown) = inr (subst (λ (x : List ℕ). HasShown s x identity) (sym text_is) (shown_further s (line ++ line_end) rest identity shown))

  by_line : LetsIn s identity (after reply next n).phase rest left → LetsIn s identity phase text left
  by_line (inl over) =
      let b = begins s identity phase (words line) reply next reads answers (led (Done identity) (inl refl) over.0) in
      inr (inl b.0, ([], text_is ∙ ap (λ (x : List ℕ). x ++ line_end ++ rest) (is_begin line b.1) ∙ ap (λ (x : List ℕ). begin ++ line_end ++ x) over.1))
  by_line (inr on) = inr (who on.0, subst (λ (x : List ℕ). Begun x left) (sym text_is) (begun_further (line ++ line_end) rest left on.1))

by_nul : (s : Setting) (identity : Identity) (text left : List ℕ) → LetsIn s identity WaitingForAuth text left → HasShown s (0 ∷ text) identity × Begun (0 ∷ text) left
by_nul s identity text left (inl over) = absurd (false≢true (ap is_done over.0))
by_nul s identity text left (inr on) = (elim on.0 [ inl w ↦ absurd (false≢true (ap awaits_begin w)) | inr shown ↦ shown_further s (0 ∷ []) text identity shown ], begun_further (0 ∷ []) text left on.1)

lets_in : (s : Setting) (identity : Identity) (from : State) (text sent : List ℕ) (to : State) (left : List ℕ) → Converses s from text sent to left → to.phase ≡ Done identity → LetsIn s identity from.phase text left
lets_in s identity from text sent to left (unopened n) e = absurd (false≢true (ap is_done e))
lets_in s identity from text sent to left (opened n t se st le d) e =
    let on = by_nul s identity t le (lets_in s identity (at WaitingForAuth n) t se st le d e) in
    inr (inr on.0, on.1)
lets_in s identity from text sent to left (no_nul n b t other) e = absurd (false≢true (ap is_done e))
lets_in s identity from text sent to left (waits phase n t reads none short) e = absurd (true≢false (sym reads ∙ ap reads_lines e))
lets_in s identity from text sent to left (too_long phase n t reads long) e = absurd (false≢true (ap is_done e))
lets_in s identity from text sent to left (answered phase n t line rest reply next se st le reads first answers d) e =
    by_line s identity phase n t line rest reply next le reads first.text_is answers (lets_in s identity (after reply next n) rest se st le d e)
lets_in s identity from text sent to left (done i n t) e = inl (e, refl)
lets_in s identity from text sent to left (closed fault n t) e = absurd (false≢true (ap is_done e))

pub let_in : (s : Setting) (identity : Identity) (n m : ℕ) (text sent left : List ℕ) → Converses s (at WaitingForNul n) text sent (at (Done identity) m) left → HasShown s text identity × Begun text left
let_in s identity n m text sent left d =
    elim (lets_in s identity (at WaitingForNul n) text sent (at (Done identity) m) left d refl) [
      | inl over ↦ absurd (false≢true (ap is_done over.0))
      | inr on ↦ (elim on.0 [ inl w ↦ absurd (false≢true (ap awaits_begin w)) | inr shown ↦ shown ], on.1)
    ]
