-- Conversations that go on. These are for others to cite.
use Rattle.std.proofs.Common.{◌≡◌, ℕ, List, [], ◌∷◌, ◌++◌, refl, sym, ap, subst, ◌∙◌, arith}
use Rattle.std.proofs.lemmas.Bool.{true≢false}
use Rattle.std.proofs.lemmas.List.{append_assoc}
use Rattle.sasl.specs.declared.fault.AuthenticationFault.{AuthenticationFault}
use Rattle.sasl.specs.declared.fault.AuthenticationFault.TheVariants.{FirstByte, LineTooLong}
use Rattle.sasl.specs.declared.phase.Phase.{Phase}
use Rattle.sasl.specs.declared.phase.Phase.TheVariants.{WaitingForNul, WaitingForAuth, WaitingForData, WaitingForBegin, Done, Closed}
use Rattle.sasl.specs.Settings.{Setting}
use Rattle.sasl.specs.Lines.{line_end, IsFirstLine}
use Rattle.sasl.specs.Table.{server_line_text}
use Rattle.sasl.specs.Conversations.{State, at, reads_lines, is_open, Converses, unopened, opened, no_nul, waits, too_long, answered, done, closed}

-- ## What is over

-- nothing is sent, and nothing is left, where it was closed
pub closed_stays : (s : Setting) (from : State) (text sent : List ℕ) (to : State) (left : List ℕ) → Converses s from text sent to left → (fault : AuthenticationFault) → from.phase ≡ Closed fault → (sent ≡ []) × (to ≡ from) × (left ≡ [])
closed_stays s from text sent to left (unopened n) fault e = absurd (true≢false (ap is_open e))
closed_stays s from text sent to left (opened n t se st le d) fault e = absurd (true≢false (ap is_open e))
closed_stays s from text sent to left (no_nul n b t other) fault e = absurd (true≢false (ap is_open e))
closed_stays s from text sent to left (waits phase n t reads none short) fault e = absurd (true≢false (sym reads ∙ ap reads_lines e))
closed_stays s from text sent to left (too_long phase n t reads long) fault e = absurd (true≢false (sym reads ∙ ap reads_lines e))
closed_stays s from text sent to left (answered phase n t line rest reply next se st le reads first answers d) fault e = absurd (true≢false (sym reads ∙ ap reads_lines e))
closed_stays s from text sent to left (done identity n t) fault e = absurd (cc)
closed_stays s from text sent to left (closed cause n t) fault e = (refl, refl, refl)

-- what was closed goes on as it was
over : (s : Setting) (from : State) (text : List ℕ) (fault : AuthenticationFault) (n : ℕ) → Converses s from text [] (at (Closed fault) n) [] →
    (piece more : List ℕ) (to : State) (rest : List ℕ) → Converses s (at (Closed fault) n) piece more to rest → Converses s from text more to rest
over s from text fault n d piece more to rest k =
    let stays = closed_stays s (at (Closed fault) n) piece more to rest k fault refl in
    subst (λ (x : List ℕ). Converses s from text x to rest) (sym stays.0)
    (subst (λ (x : State). Converses s from text [] x rest) (sym stays.1) (subst (λ (x : List ℕ). Converses s from text [] (at (Closed fault) n) x) (sym stays.2) d))

-- ## However a text is cut

pub conversation_goes_on : (s : Setting) (from : State) (text sent : List ℕ) (mid : State) (left : List ℕ) → Converses s from text sent mid left →
    (piece more : List ℕ) (to : State) (rest : List ℕ) → Converses s mid (left ++ piece) more to rest → Converses s from (text ++ piece) (sent ++ more) to rest
conversation_goes_on s from text sent mid left (unopened n) piece more to rest k = k
conversation_goes_on s from text sent mid left (opened n t se st le d) piece more to rest k =
    opened n (t ++ piece) (se ++ more) to rest (conversation_goes_on s (at WaitingForAuth n) t se st le d piece more to rest k)
conversation_goes_on s from text sent mid left (no_nul n b t other) piece more to rest k =
    over s (at WaitingForNul n) (b ∷ (t ++ piece)) FirstByte n (no_nul n b (t ++ piece) other) piece more to rest k
conversation_goes_on s from text sent mid left (waits phase n t reads none short) piece more to rest k = k
conversation_goes_on s from text sent mid left (too_long phase n t reads long) piece more to rest k =
    over s (at phase n) (t ++ piece) LineTooLong n
    (too_long phase n (t ++ piece) reads (record {
      front = long.front;
      rest = long.rest ++ piece;
      text_is = ap (λ (x : List ℕ). x ++ piece) long.text_is ∙ append_assoc long.front long.rest piece;
      long = long.long;
      endless = long.endless;
    })) piece more to rest k
conversation_goes_on s from text sent mid left (answered phase n t line behind reply next se st le reads first answers d) piece more to rest k =
    let first_still : IsFirstLine (t ++ piece) line (behind ++ piece) = record {
      text_is = ap (λ (x : List ℕ). x ++ piece) first.text_is ∙ append_assoc (line ++ line_end) behind piece;
      first = first.first;
      fits = first.fits;
    } in
    subst (λ (x : List ℕ). Converses s (at phase n) (t ++ piece) x to rest) (sym (append_assoc (server_line_text s reply) se more))
    (answered phase n (t ++ piece) line (behind ++ piece) reply next (se ++ more) to rest reads first_still answers (conversation_goes_on s _ behind se st le d piece more to rest k))
conversation_goes_on s from text sent mid left (done identity n t) piece more to rest k = k
conversation_goes_on s from text sent mid left (closed cause n t) piece more to rest k =
    over s (at (Closed cause) n) (t ++ piece) cause n (closed cause n (t ++ piece)) piece more to rest k

-- where nothing comes, nothing is said
quiet : (s : Setting) (phase : Phase) (n : ℕ) → Converses s (at phase n) [] [] (at phase n) []
quiet s WaitingForNul n = unopened n
quiet s WaitingForAuth n = waits WaitingForAuth n [] refl refl (omega arith)
quiet s (WaitingForData due) n = waits (WaitingForData due) n [] refl refl (omega arith)
quiet s (WaitingForBegin identity) n = waits (WaitingForBegin identity) n [] refl refl (omega arith)
quiet s (Done identity) n = done identity n []
quiet s (Closed fault) n = closed fault n []

pub nothing_comes : (s : Setting) (state : State) → Converses s state [] [] state []
nothing_comes s state = quiet s state.phase state.rejections
