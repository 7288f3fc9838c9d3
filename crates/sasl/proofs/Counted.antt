-- Rejections are counted.
use Rattle.std.proofs.Common.{◌≡◌, ℕ, ◌+◌, ◌<◌, ◌≤◌, Bool, true, false, cond, List, [], ◌∷◌, ◌++◌, refl, sym, ap, ◌∙◌, arith}
use Rattle.std.specs.Prelude.{◌↔◌, nat_lt, count_by}
use Rattle.std.specs.List.{flat_map}
use Rattle.std.proofs.lemmas.List.Sums.{sum_by-cons}
use Rattle.std.proofs.lemmas.Bool.{true≢false, ltb-true, ltb-false}
use Rattle.sasl.specs.declared.fault.AuthenticationFault.TheVariants.{FirstByte, LineTooLong, Rejections}
use Rattle.sasl.specs.declared.phase.Awaited.{Awaited}
use Rattle.sasl.specs.declared.phase.Phase.{Phase}
use Rattle.sasl.specs.declared.phase.Phase.TheVariants.{WaitingForNul, WaitingForAuth, Done, Closed}
use Rattle.sasl.specs.declared.server_line.ServerLine.{ServerLine}
use Rattle.sasl.specs.declared.server_line.ServerLine.TheVariants.{Challenge, AskName, Accept, Reject, NotUnderstood, Silence}
use Rattle.sasl.specs.Settings.{Setting}
use Rattle.sasl.specs.Lines.{Word}
use Rattle.sasl.specs.Table.{server_line_text, Attempt, as_user, as_somebody, as_nobody, with_trace, Response, names_user, shows_cookie, Row, attempt, other_attempt, error_of_client, begin_early, data_right, other_data, data_cancelled, data_error, begin_before_data, begin_at_last, begin_cancelled, begin_error, Answers, by_row, anything_else}
use Rattle.sasl.specs.Conversations.{State, at, opening, after, reads_lines, is_open, max_rejections, Converses, unopened, opened, no_nul, waits, too_long, answered, done, closed}
use Rattle.sasl.specs.Laws.{is_rejection}

-- no line leads there by itself
no_attempt : (s : Setting) (words : List Word) (reply : ServerLine) (next : Phase) → Attempt s words reply next → next ≡ Closed Rejections → ⊥
no_attempt s words reply next (as_user name h) e = true≢false (ap is_open e)
no_attempt s words reply next as_somebody e = true≢false (ap is_open e)
no_attempt s words reply next (as_nobody allowed) e = true≢false (ap is_open e)
no_attempt s words reply next (with_trace trace bytes allowed h) e = true≢false (ap is_open e)

no_response : (s : Setting) (due : Awaited) (words : List Word) (reply : ServerLine) (next : Phase) → Response s due words reply next → next ≡ Closed Rejections → ⊥
no_response s due words reply next (names_user name h) e = true≢false (ap is_open e)
no_response s due words reply next (shows_cookie word said h k) e = true≢false (ap is_open e)

no_row : (s : Setting) (phase : Phase) (words : List Word) (reply : ServerLine) (next : Phase) → Row s phase words reply next → next ≡ Closed Rejections → ⊥
no_row s phase words reply next (attempt others r n a) e = no_attempt s others r n a e
no_row s phase words reply next (other_attempt others none) e = true≢false (ap is_open e)
no_row s phase words reply next (error_of_client others) e = true≢false (ap is_open e)
no_row s phase words reply next begin_early e = cc
no_row s phase words reply next (data_right due others r n h) e = no_response s due others r n h e
no_row s phase words reply next (other_data due others none) e = true≢false (ap is_open e)
no_row s phase words reply next (data_cancelled due) e = true≢false (ap is_open e)
no_row s phase words reply next (data_error due others) e = true≢false (ap is_open e)
no_row s phase words reply next (begin_before_data due) e = cc
no_row s phase words reply next (begin_at_last identity) e = cc
no_row s phase words reply next (begin_cancelled identity) e = true≢false (ap is_open e)
no_row s phase words reply next (begin_error identity others) e = true≢false (ap is_open e)

no_answer : (s : Setting) (phase : Phase) (words : List Word) (reply : ServerLine) (next : Phase) → reads_lines phase ≡ true → Answers s phase words reply next → next ≡ Closed Rejections → ⊥
no_answer s phase words reply next reads (by_row r n row) e = no_row s phase words r n row e
no_answer s phase words reply next reads (anything_else none) e = true≢false (sym reads ∙ ap reads_lines e)

-- the sixth rejection is where it was closed for that
abbrev IsFine : State → Type 0
IsFine state = (state.rejections ≤ max_rejections) × ((state.phase ≡ Closed Rejections) ↔ (state.rejections ≡ max_rejections))

few : (phase : Phase) (n : ℕ) → (phase ≡ Closed Rejections → ⊥) → IsFine (at phase n) → n < max_rejections
few phase n other fine = below n fine.0 (λ e. other (fine.1.1 e))
  where
    below : (m : ℕ) → m ≤ max_rejections → (m ≡ max_rejections → ⊥) → m < max_rejections
    below m most other = omega arith

fine_below : (phase : Phase) (n : ℕ) → (phase ≡ Closed Rejections → ⊥) → n < max_rejections → IsFine (at phase n)
fine_below phase n other below = (omega (arith, below), (λ e. absurd (other e), λ e. absurd (omega (arith, e, below))))

fine_after : (reply : ServerLine) (next : Phase) (n : ℕ) → (next ≡ Closed Rejections → ⊥) → n < max_rejections → IsFine (after reply next n)
fine_after Challenge next n other below = fine_below next n other below
fine_after AskName next n other below = fine_below next n other below
fine_after Accept next n other below = fine_below next n other below
fine_after NotUnderstood next n other below = fine_below next n other below
fine_after Silence next n other below = fine_below next n other below
fine_after Reject next n other below = go (nat_lt (n + 1) max_rejections) refl
  where
    go : (t : Bool) → nat_lt (n + 1) max_rejections ≡ t → IsFine (cond t (at next (n + 1)) (at (Closed Rejections) (n + 1)))
    go true e = fine_below next (n + 1) other (ltb-true (n + 1) max_rejections e)
    go false e =
        let full : n + 1 ≡ max_rejections = omega (arith, below, ltb-false (n + 1) max_rejections e) in
        (omega (arith, full), (λ _. full, λ _. refl))

counted_once : (reply : ServerLine) (next : Phase) (n : ℕ) (rest : ℕ) → (after reply next n).rejections + rest ≡ n + (cond (is_rejection reply) 1 0 + rest)
counted_once Challenge next n rest = omega arith
counted_once AskName next n rest = omega arith
counted_once Accept next n rest = omega arith
counted_once NotUnderstood next n rest = omega arith
counted_once Silence next n rest = omega arith
counted_once Reject next n rest = go (nat_lt (n + 1) max_rejections)
  where
    go : (t : Bool) → (cond t (at next (n + 1)) (at (Closed Rejections) (n + 1))).rejections + rest ≡ n + (1 + rest)
    go true = omega arith
    go false = omega arith

-- the replies of a conversation, and how many of them are rejections
pub record IsCounted (s : Setting) (from : State) (sent : List ℕ) (to : State) : Type 0 where
  pub replies : List ServerLine
  pub sent_is : sent ≡ flat_map (server_line_text s) replies
  pub count : to.rejections ≡ from.rejections + count_by is_rejection replies
  pub fine : IsFine from → IsFine to

nothing_said : (s : Setting) (state : State) → IsCounted s state [] state
nothing_said s state = record { replies = []; sent_is = refl; count = omega arith; fine = λ h. h }

closes : (s : Setting) (phase : Phase) (n : ℕ) (to : Phase) → (phase ≡ Closed Rejections → ⊥) → (to ≡ Closed Rejections → ⊥) → IsCounted s (at phase n) [] (at to n)
closes s phase n to other another = record { replies = []; sent_is = refl; count = omega arith; fine = λ h. fine_below to n another (few phase n other h) }

pub counted : (s : Setting) (from : State) (text sent : List ℕ) (to : State) (left : List ℕ) → Converses s from text sent to left → IsCounted s from sent to
counted s from text sent to left (unopened n) = nothing_said s (at WaitingForNul n)
counted s from text sent to left (opened n t se st le d) =
    let behind = counted s (at WaitingForAuth n) t se st le d in
    record {
      replies = behind.replies;
      sent_is = behind.sent_is;
      count = behind.count;
      fine = λ h. behind.fine (fine_below WaitingForAuth n (λ e. true≢false (ap is_open e)) (few WaitingForNul n (λ e. true≢false (ap is_open e)) h));
    }
counted s from text sent to left (no_nul n b t other) = closes s WaitingForNul n (Closed FirstByte) (λ e. true≢false (ap is_open e)) (λ e. cc)
counted s from text sent to left (waits phase n t reads none short) = nothing_said s (at phase n)
counted s from text sent to left (too_long phase n t reads long) = closes s phase n (Closed LineTooLong) (λ e. true≢false (sym reads ∙ ap reads_lines e)) (λ e. cc)
counted s from text sent to left (answered phase n t line rest reply next se st le reads first answers d) =
    let behind = counted s (after reply next n) rest se st le d in
    record {
      replies = reply ∷ behind.replies;
      sent_is = ap (λ (x : List ℕ). server_line_text s reply ++ x) behind.sent_is;
      count = behind.count ∙ counted_once reply next n (count_by is_rejection behind.replies) ∙ ap (λ (m : ℕ). n + m) (one_more reply behind.replies);
      fine = λ h. behind.fine (fine_after reply next n (no_answer s phase _ reply next reads answers) (few phase n (λ e. true≢false (sym reads ∙ ap reads_lines e)) h));
    }
  where
    one_more : (reply : ServerLine) (replies : List ServerLine) → cond (is_rejection reply) 1 0 + count_by is_rejection replies ≡ count_by is_rejection (reply ∷ replies)
    one_more reply replies = sym (sum_by-cons (λ r. cond (is_rejection r) 1 0) reply replies)
counted s from text sent to left (done identity n t) = nothing_said s (at (Done identity) n)
counted s from text sent to left (closed fault n t) = nothing_said s (at (Closed fault) n)

pub opening_is_fine : IsFine opening
opening_is_fine = fine_below WaitingForNul 0 (λ e. true≢false (ap is_open e)) (omega arith)
