-- What a byte of a line brings, by what stands before it.
use Rattle.std.proofs.Common.{◌≡◌, ℕ, ◌+◌, ◌-◌, ◌<◌, ◌≤◌, Bool, true, false, cond, List, [], ◌∷◌, ◌++◌, length, take, sym, ap, ◌∙◌, arith}
use Rattle.std.specs.Prelude.{◌==◌, ◌&&◌, nat_lt}
use Rattle.std.proofs.lemmas.Bool.{lt-ltb, le-ltb}
use Rattle.std.proofs.lemmas.List.{append_assoc, length-append, length_push, take_at}
use Rattle.sasl.specs.declared.fault.AuthenticationFault.TheVariants.{LineTooLong}
use Rattle.sasl.specs.declared.phase.Phase.{Phase}
use Rattle.sasl.specs.declared.phase.Phase.TheVariants.{Closed}
use Rattle.sasl.specs.Settings.{Setting}
use Rattle.sasl.specs.Lines.{line_end, has_end, max_line}
use Rattle.sasl.specs.Conversations.{State, at}
use Rattle.sasl.specs.Hearing.{Conversed, silent, heard_line, heard_in_line}
use Rattle.sasl.specs.Words.{ends_with_return}
use Rattle.sasl.specs.Servers.{Speaker}
use Rattle.sasl.proofs.Ends.{return_last, has_end-end, still_none}

-- a line, without the carriage return behind it
pub popped : (line left : List ℕ) (n : ℕ) → length line ≡ n → left ≡ take (n - 1) line → ends_with_return line ≡ true → line ≡ left ++ 13 ∷ []
popped line left n size is returned =
    let last = return_last line returned in
    let count : length last.0 ≡ n - 1 = omega (arith, size, ap length last.1, length_push last.0 13) in
    let same : left ≡ last.0 = is ∙ ap (take (n - 1)) last.1 ∙ take_at last.0 (13 ∷ []) (n - 1) count in
    last.1 ∙ ap (λ (x : List ℕ). x ++ 13 ∷ []) (sym same)

module _ (s : Setting) (phase : Phase) (n : ℕ) where
  abbrev if_whole : List ℕ → Conversed
  if_whole line = heard_line s phase n (take (length line - 2) line)

  abbrev if_short : List ℕ → Bool → Conversed
  if_short line f = cond f (silent (at phase n) line) (silent (at (Closed LineTooLong) n) [])

  pub whole_heard : (line front : List ℕ) (b : ℕ) → line ≡ front ++ 13 ∷ [] → b ≡ 10 → heard_in_line s phase n (line ++ b ∷ []) ≡ heard_line s phase n front
  whole_heard line front b is feed =
      let ended : line ++ b ∷ [] ≡ front ++ line_end = ap (λ (x : List ℕ). x ++ b ∷ []) is ∙ ap (λ (m : ℕ). front ++ 13 ∷ [] ++ m ∷ []) feed ∙ append_assoc front (13 ∷ []) (10 ∷ []) in
      let count : length front ≡ length (front ++ line_end) - 2 = omega (arith, length-append front line_end) in
      ap (heard_in_line s phase n) ended
      ∙ ap (λ (t : Bool). cond t (if_whole (front ++ line_end)) (if_short (front ++ line_end) (nat_lt (length (front ++ line_end)) max_line))) (has_end-end front [])
      ∙ ap (heard_line s phase n) (take_at front line_end (length (front ++ line_end) - 2) count)

  pub short_heard : (line : List ℕ) (b : ℕ) → has_end line ≡ false → (ends_with_return line && (b == 10)) ≡ false → length line + 1 < max_line → heard_in_line s phase n (line ++ b ∷ []) ≡ silent (at phase n) (line ++ b ∷ [])
  short_heard line b none other short =
      ap (λ (t : Bool). cond t (if_whole (line ++ b ∷ [])) (if_short (line ++ b ∷ []) (nat_lt (length (line ++ b ∷ [])) max_line))) (still_none line b none other)
      ∙ ap (if_short (line ++ b ∷ [])) (lt-ltb (length (line ++ b ∷ [])) max_line (omega (arith, short, length_push line b)))

  pub long_heard : (line : List ℕ) (b : ℕ) → has_end line ≡ false → (ends_with_return line && (b == 10)) ≡ false → max_line ≤ length line + 1 → heard_in_line s phase n (line ++ b ∷ []) ≡ silent (at (Closed LineTooLong) n) []
  long_heard line b none other long =
      ap (λ (t : Bool). cond t (if_whole (line ++ b ∷ [])) (if_short (line ++ b ∷ []) (nat_lt (length (line ++ b ∷ [])) max_line))) (still_none line b none other)
      ∙ ap (if_short (line ++ b ∷ [])) (le-ltb (length (line ++ b ∷ [])) max_line (omega (arith, long, length_push line b)))

abbrev pub speaker : Setting → State → List ℕ → Speaker
speaker setting state unfinished = record { setting = setting; state = state; unfinished = unfinished }

-- equal parts make equal values
pub same_speaker : (s : Setting) (a b : State) (u v : List ℕ) → a ≡ b → u ≡ v → speaker s a u ≡ speaker s b v
same_speaker s a b u v e f = ap (λ (x : State). speaker s x u) e ∙ ap (speaker s b) f
