-- What reached a socket is a beginning of what was pushed.
use Rattle.std.proofs.Common.{◌≡◌, ℕ, List, [], ◌∷◌, ◌++◌, sym, ap, ◌∙◌, append_assoc, append-nil}
use Rattle.outgoing.specs.Laws.{Call, Push, Refusal, Flush, Course, MakesAll, pushed, ReachedBeginsPushed}

abbrev Reaches : List ℕ → Course → Course → Type 0
Reaches more before after = (reached : List ℕ) × (after.taken ≡ before.taken ++ reached) × (before.waits ++ more ≡ reached ++ after.waits)

reaches : (calls : List Call) (before after : Course) → MakesAll calls before after → Reaches (pushed calls) before after
reaches [] before after h = ([], ap (λ (c : Course). c.taken) h ∙ sym (append-nil before.taken), append-nil before.waits ∙ sym (ap (λ (c : Course). c.waits) h))
reaches (Push bytes ∷ calls) before after h =
    let r = reaches calls h.0 after h.2 in (
      r.0,
      r.1 ∙ ap (λ (t : List ℕ). t ++ r.0) h.1.1,
      sym (append_assoc before.waits bytes (pushed calls)) ∙ ap (λ (t : List ℕ). t ++ pushed calls) (sym h.1.0) ∙ r.2,
    )
reaches (Refusal ∷ calls) before after h =
    let r = reaches calls h.0 after h.2 in (
      r.0,
      r.1 ∙ ap (λ (c : Course). c.taken ++ r.0) h.1,
      ap (λ (c : Course). c.waits ++ pushed calls) (sym h.1) ∙ r.2,
    )
reaches (Flush ∷ calls) before after h =
    let r = reaches calls h.0 after h.2 in let f = h.1 in (
      f.reached ++ r.0,
      r.1 ∙ ap (λ (t : List ℕ). t ++ r.0) f.takes ∙ append_assoc before.taken f.reached r.0,
      ap (λ (t : List ℕ). t ++ pushed calls) f.splits ∙ append_assoc f.reached h.0.waits (pushed calls) ∙ ap (λ (t : List ℕ). f.reached ++ t) r.2 ∙ sym (append_assoc f.reached r.0 after.waits),
    )

pub reached_begins_pushed : ReachedBeginsPushed
reached_begins_pushed calls before after none h =
    let r = reaches calls before after h in (r.0, r.1, ap (λ (t : List ℕ). t ++ pushed calls) (sym none) ∙ r.2)
