-- A piece that is fed byte by byte.
use Rattle.std.proofs.Common.{◌≡◌, ℕ, ◌+◌, ◌<◌, ◌≤◌, true, List, [], ◌∷◌, ◌++◌, length, take, drop, get_or, refl, sym, ap, subst, ◌∙◌}
use Rattle.std.proofs.lemmas.List.{append-nil, append_assoc, take-append-drop, take_all, take_more}
use Rattle.sasl.specs.declared.fault.AuthenticationFault.{AuthenticationFault}
use Rattle.sasl.specs.declared.identity.Identity.{Identity}
use Rattle.sasl.specs.declared.phase.Phase.{Phase}
use Rattle.sasl.specs.declared.phase.Phase.TheVariants.{WaitingForNul, WaitingForAuth, WaitingForData, WaitingForBegin, Done, Closed}
use Rattle.sasl.specs.declared.step.Progress.{Progress}
use Rattle.sasl.specs.declared.step.Progress.TheVariants as progress
use Rattle.sasl.specs.Settings.{Setting}
use Rattle.sasl.specs.Conversations.{State, at, reads_lines, is_open, Converses, unopened, waits, done, closed}
use Rattle.sasl.specs.Hearing.{heard}
use Rattle.sasl.specs.Servers.{Speaker, IsKept, IsTold, HandsOn, handed_on, Hears}
use Rattle.sasl.proofs.Runs.{conversation_goes_on}
use Rattle.sasl.proofs.Heard.{MayBeLeft, heard_leads}

-- what a server keeps may be left
pub kept_may : (phase : Phase) (n : ℕ) (left : List ℕ) → IsKept phase n left → MayBeLeft phase left
kept_may phase n left h = record { of_line = h.0; of_nothing = λ e. h.1 (ap reads_lines e); of_closed = λ fault e. h.1 (ap reads_lines e) }

pub nothing_kept : (phase : Phase) (n : ℕ) (left : List ℕ) → IsKept phase n left → (fault : AuthenticationFault) → phase ≡ Closed fault → left ≡ []
nothing_kept phase n left h fault e = h.1 (ap reads_lines e)

waiting : (s : Setting) (phase : Phase) (n : ℕ) (left : List ℕ) → IsKept phase n left → Converses s (at phase n) left [] (at phase n) left
waiting s WaitingForNul n left h = subst (λ (x : List ℕ). Converses s (at WaitingForNul n) x [] (at WaitingForNul n) x) (sym (h.1 refl)) (unopened n)
waiting s WaitingForAuth n left h = waits WaitingForAuth n left refl (h.0 refl).0 (h.0 refl).1
waiting s (WaitingForData due) n left h = waits (WaitingForData due) n left refl (h.0 refl).0 (h.0 refl).1
waiting s (WaitingForBegin identity) n left h = waits (WaitingForBegin identity) n left refl (h.0 refl).0 (h.0 refl).1
waiting s (Done identity) n left h = done identity n left
waiting s (Closed fault) n left h = subst (λ (x : List ℕ). Converses s (at (Closed fault) n) x [] (at (Closed fault) n) x) (sym (h.1 refl)) (closed fault n [])

-- before the first byte of a piece
pub none_used : (s : Setting) (state : State) (left piece : List ℕ) → IsKept state.phase state.rejections left → Converses s state (left ++ take 0 piece) [] state left
none_used s state left piece h =
    subst (λ (x : List ℕ). Converses s state x [] state left) (sym (append-nil left)) (waiting s state.phase state.rejections left h)

module _ (s : Setting) (from : State) (unfinished piece : List ℕ) (used : ℕ) (sent : List ℕ) (state : State) (left : List ℕ) (said : Converses s from (unfinished ++ take used piece) sent state left) where
  -- one more byte
  pub one_more : (byte : ℕ) → used < length piece → byte ≡ get_or piece used 0 → IsKept state.phase state.rejections left →
      Converses s from (unfinished ++ take (used + 1) piece) (sent ++ (heard s state left byte).sent) (heard s state left byte).state (heard s state left byte).left
  one_more byte within e kept =
      let h = heard s state left byte in
      let on = conversation_goes_on s from (unfinished ++ take used piece) sent state left said (byte ∷ []) h.sent h.state h.left (heard_leads s state left byte (kept_may state.phase state.rejections left kept)) in
      let more : take used piece ++ byte ∷ [] ≡ take (used + 1) piece = ap (λ (x : ℕ). take used piece ++ x ∷ []) e ∙ sym (take_more piece used 0 within) in
      subst (λ (x : List ℕ). Converses s from x (sent ++ h.sent) h.state h.left) (append_assoc unfinished (take used piece) (byte ∷ []) ∙ ap (λ (x : List ℕ). unfinished ++ x) more) on

  whole : unfinished ++ take used piece ++ drop used piece ≡ unfinished ++ piece
  whole = append_assoc unfinished (take used piece) (drop used piece) ∙ ap (λ (x : List ℕ). unfinished ++ x) (take-append-drop used piece)

  ends : (to : State) (rest : List ℕ) → Converses s state (left ++ drop used piece) [] to rest → Converses s from (unfinished ++ piece) sent to rest
  ends to rest d =
      subst (λ (x : List ℕ). Converses s from x sent to rest) whole
      (subst (λ (x : List ℕ). Converses s from (unfinished ++ take used piece ++ drop used piece) x to rest) (append-nil sent) (conversation_goes_on s from (unfinished ++ take used piece) sent state left said (drop used piece) [] to rest d))

  pub ends_done : (identity : Identity) → state.phase ≡ Done identity → Converses s from (unfinished ++ piece) sent state (left ++ drop used piece)
  ends_done identity e =
      ends state (left ++ drop used piece)
      (subst (λ (p : Phase). Converses s (at p state.rejections) (left ++ drop used piece) [] (at p state.rejections) (left ++ drop used piece)) (sym e) (done identity state.rejections (left ++ drop used piece)))

  pub ends_closed : (fault : AuthenticationFault) → state.phase ≡ Closed fault → IsKept state.phase state.rejections left → Converses s from (unfinished ++ piece) sent state (left ++ [])
  ends_closed fault e kept =
      subst (λ (x : List ℕ). Converses s from (unfinished ++ piece) sent state (x ++ [])) (sym (nothing_kept state.phase state.rejections left kept fault e))
      (ends state [] (subst (λ (p : Phase). Converses s (at p state.rejections) (left ++ drop used piece) [] (at p state.rejections) []) (sym e) (closed fault state.rejections (left ++ drop used piece))))

  pub ends_going : length piece ≤ used → Converses s from (unfinished ++ piece) sent state (left ++ [])
  ends_going all =
      subst (λ (x : List ℕ). Converses s from (unfinished ++ x) sent state (left ++ [])) (take_all used piece all)
      (subst (λ (x : List ℕ). Converses s from (unfinished ++ take used piece) sent state x) (sym (append-nil left)) said)

  -- however it stands
  pub ends_told : (told : Progress) → IsTold state.phase told → HandsOn told (drop used piece) → (is_open state.phase ≡ true → length piece ≤ used) → IsKept state.phase state.rejections left →
      Converses s from (unfinished ++ piece) sent state (left ++ handed_on told)
  ends_told progress.Going going rest all kept = ends_going (all going)
  ends_told (progress.Done identity behind) e rest all kept = subst (λ (x : List ℕ). Converses s from (unfinished ++ piece) sent state (left ++ x)) (sym rest) (ends_done identity e)
  ends_told (progress.Closed fault) e rest all kept = ends_closed fault e kept

-- one more byte, as a server hears it
pub fed : (from old new : Speaker) (piece : List ℕ) (used : ℕ) (sent after : List ℕ) (byte : ℕ) → old.setting ≡ from.setting →
    Converses from.setting from.state (from.unfinished ++ take used piece) sent old.state old.unfinished → used < length piece → byte ≡ get_or piece used 0 → IsKept old.state.phase old.state.rejections old.unfinished →
    Hears old (heard old.setting old.state old.unfinished byte) sent new after → Converses from.setting from.state (from.unfinished ++ take (used + 1) piece) after new.state new.unfinished
fed from old new piece used sent after byte same said within e kept hears =
    let s = from.setting in
    let h = heard s old.state old.unfinished byte in
    let heard_so : Hears old h sent new after = subst (λ (x : Setting). Hears old (heard x old.state old.unfinished byte) sent new after) same hears in
    let on = one_more s from.state from.unfinished piece used sent old.state old.unfinished said byte within e kept in
    let text = from.unfinished ++ take (used + 1) piece in
    subst (λ (x : Speaker). Converses s from.state text after x.state x.unfinished) (sym heard_so.0) (subst (λ (x : List ℕ). Converses s from.state text x h.state h.left) (sym heard_so.1) on)
