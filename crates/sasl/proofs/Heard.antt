-- One byte that is heard is a conversation.
use Rattle.std.proofs.Common.{◌≡◌, ℕ, ◌+◌, ◌-◌, ◌<◌, ◌≤◌, Bool, true, false, cond, List, [], ◌∷◌, ◌++◌, length, take, refl, sym, ap, subst, ◌∙◌, arith}
use Rattle.std.specs.Prelude.{◌==◌, nat_lt}
use Rattle.std.proofs.lemmas.Bool.{eqb-true, eqb-false, ltb-true, ltb-false}
use Rattle.std.proofs.lemmas.List.{append-nil, append_assoc, length_push, take_at}
use Rattle.sasl.specs.declared.fault.AuthenticationFault.{AuthenticationFault}
use Rattle.sasl.specs.declared.fault.AuthenticationFault.TheVariants.{FirstByte, LineTooLong}
use Rattle.sasl.specs.declared.phase.Phase.{Phase}
use Rattle.sasl.specs.declared.phase.Phase.TheVariants.{WaitingForNul, WaitingForAuth, WaitingForData, WaitingForBegin, Done, Closed}
use Rattle.sasl.specs.Settings.{Setting}
use Rattle.sasl.specs.Lines.{words, line_end, has_end, max_line, IsFirstLine}
use Rattle.sasl.specs.Table.{server_line_text}
use Rattle.sasl.specs.Conversations.{State, at, after, reads_lines, Converses, opened, no_nul, waits, too_long, answered, done, closed}
use Rattle.sasl.specs.Hearing.{Conversed, answer, silent, heard_line, heard_in_line, heard_at, heard}
use Rattle.sasl.proofs.Ends.{Completed, completed, front_has_none}
use Rattle.sasl.proofs.Rows.{answers}
use Rattle.sasl.proofs.Runs.{nothing_comes}

-- a conversation with this outcome
abbrev pub Leads : Setting → State → List ℕ → Conversed → Type 0
Leads s from text outcome = Converses s from text outcome.sent outcome.state outcome.left

-- what may be left between two bytes
pub record MayBeLeft (phase : Phase) (left : List ℕ) : Type 0 where
  pub of_line : reads_lines phase ≡ true → (has_end left ≡ false) × (length left < max_line)
  pub of_nothing : phase ≡ WaitingForNul → left ≡ []
  pub of_closed : (fault : AuthenticationFault) → phase ≡ Closed fault → left ≡ []

first_byte : (s : Setting) (n b : ℕ) (t : Bool) → (b == 0) ≡ t → Converses s (at WaitingForNul n) (b ∷ []) [] (at (cond t WaitingForAuth (Closed FirstByte)) n) []
first_byte s n b true e = subst (λ (m : ℕ). Converses s (at WaitingForNul n) (m ∷ []) [] (at WaitingForAuth n) []) (sym (eqb-true b 0 e)) (opened n [] [] (at WaitingForAuth n) [] (nothing_comes s (at WaitingForAuth n)))
first_byte s n b false e = no_nul n b [] (eqb-false b 0 e)

module _ (s : Setting) (phase : Phase) (n : ℕ) (reads : reads_lines phase ≡ true) where
  whole_line : (text line : List ℕ) → IsFirstLine text line [] → Leads s (at phase n) text (heard_line s phase n line)
  whole_line text line first =
      let turn = answer s phase (words line) in
      subst (λ (x : List ℕ). Converses s (at phase n) text x (after turn.0 turn.1 n) []) (append-nil (server_line_text s turn.0))
      (answered phase n text line [] turn.0 turn.1 [] (after turn.0 turn.1 n) [] reads first (answers s phase (words line)) (nothing_comes s (after turn.0 turn.1 n)))

  -- the outcome by both tests
  by_tests : List ℕ → Bool → Bool → Conversed
  by_tests line e f = cond e (heard_line s phase n (take (length line - 2) line)) (cond f (silent (at phase n) line) (silent (at (Closed LineTooLong) n) []))

  module _ (left : List ℕ) (b : ℕ) (none : has_end left ≡ false) (short : length left < max_line) where
    line_heard : Completed left b → Leads s (at phase n) (left ++ b ∷ []) (heard_line s phase n (take (length (left ++ b ∷ []) - 2) (left ++ b ∷ [])))
    line_heard c =
        let front = c.line in
        let line_is : left ++ b ∷ [] ≡ front ++ line_end =
        ap (λ (x : List ℕ). x ++ b ∷ []) c.left_is ∙ ap (λ (m : ℕ). front ++ 13 ∷ [] ++ m ∷ []) c.byte_is ∙ append_assoc front (13 ∷ []) (10 ∷ []) in
        let size : length left ≡ length front + 1 = ap length c.left_is ∙ length_push front 13 in
        let count : length front ≡ length (left ++ b ∷ []) - 2 = omega (arith, size, length_push left b) in
        let taken : take (length (left ++ b ∷ []) - 2) (left ++ b ∷ []) ≡ front = ap (take (length (left ++ b ∷ []) - 2)) line_is ∙ take_at front line_end (length (left ++ b ∷ []) - 2) count in
        subst (λ (x : List ℕ). Leads s (at phase n) (left ++ b ∷ []) (heard_line s phase n x)) (sym taken)
        (whole_line (left ++ b ∷ []) front (record {
          text_is = line_is ∙ sym (append-nil (front ++ line_end));
          first = front_has_none front (13 ∷ []) (subst (λ (x : List ℕ). has_end x ≡ false) c.left_is none);
          fits = omega (arith, size, short);
        }))

    tested : (e f : Bool) → has_end (left ++ b ∷ []) ≡ e → nat_lt (length (left ++ b ∷ [])) max_line ≡ f → Leads s (at phase n) (left ++ b ∷ []) (by_tests (left ++ b ∷ []) e f)
    unfolding by_tests
    tested true f p q = line_heard (completed left b none p)
    tested false true p q = waits phase n (left ++ b ∷ []) reads p (ltb-true (length (left ++ b ∷ [])) max_line q)
    tested false false p q =
        let long : max_line ≤ length (left ++ b ∷ []) = ltb-false (length (left ++ b ∷ [])) max_line q in
        too_long phase n (left ++ b ∷ []) reads (record {
          front = left ++ b ∷ [];
          rest = [];
          text_is = sym (append-nil (left ++ b ∷ []));
          long = omega (arith, long, short, length_push left b);
          endless = p;
        })

    in_line : Leads s (at phase n) (left ++ b ∷ []) (heard_in_line s phase n (left ++ b ∷ []))
    unfolding by_tests
    in_line = tested (has_end (left ++ b ∷ [])) (nat_lt (length (left ++ b ∷ [])) max_line) refl refl

byte_heard : (s : Setting) (phase : Phase) (n : ℕ) (left : List ℕ) (b : ℕ) → MayBeLeft phase left → Leads s (at phase n) (left ++ b ∷ []) (heard_at s phase n left b)
byte_heard s WaitingForNul n left b h =
    subst (λ (x : List ℕ). Converses s (at WaitingForNul n) (x ++ b ∷ []) [] (at (cond (b == 0) WaitingForAuth (Closed FirstByte)) n) []) (sym (h.of_nothing refl)) (first_byte s n b (b == 0) refl)
byte_heard s WaitingForAuth n left b h = in_line s WaitingForAuth n refl left b (h.of_line refl).0 (h.of_line refl).1
byte_heard s (WaitingForData due) n left b h = in_line s (WaitingForData due) n refl left b (h.of_line refl).0 (h.of_line refl).1
byte_heard s (WaitingForBegin identity) n left b h = in_line s (WaitingForBegin identity) n refl left b (h.of_line refl).0 (h.of_line refl).1
byte_heard s (Done identity) n left b h = done identity n (left ++ b ∷ [])
byte_heard s (Closed fault) n left b h = closed fault n (left ++ b ∷ [])

-- one more byte
pub heard_leads : (s : Setting) (state : State) (left : List ℕ) (b : ℕ) → MayBeLeft state.phase left → Leads s state (left ++ b ∷ []) (heard s state left b)
heard_leads s state left b h = byte_heard s state.phase state.rejections left b h
