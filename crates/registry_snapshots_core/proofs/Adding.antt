-- The exchange that adds a publication keeps the rule of the book.
use Rattle.std.proofs.Common.{◌≡◌, ℕ, ◌+◌, ◌<◌, ◌==◌, Bool, true, false, List, [], ◌∷◌, ◌++◌, length, refl, ap, sym, ◌∙◌, subst, arith, inl, length-append, None}
use Rattle.std.proofs.lemmas.List.{append-nil}
use Rattle.std.proofs.lemmas.Bool.Decides.{nat_tests}
use mathlib.Core.List.{IsPrefix}
use prog.Atomic.{either}
use Rattle.logbook.specs.Pages.{Cell, cell, keeps, no_nib, step, Moves, Goes}
use Rattle.seq_bus_core.specs.Histories.{IsLegal}
use Rattle.registry_snapshots_core.specs.Publications.{flat, IsKept, Adds}
use Rattle.registry_snapshots_core.specs.declared.history.Publication.{Publication}
use Rattle.registry_snapshots_core.proofs.Prefixes.{prefix_whole, flat_append, flat_prefix}

abbrev pub shown : List Publication → List Publication
shown log = []

abbrev pub moved : List Publication → List Publication → ℕ → Type 0
moved xs ys n = Unit {0}

-- the entries of publications with one more
flat_more : (log : List Publication) (p : Publication) → flat (log ++ p ∷ []) ≡ flat log ++ p.entries
flat_more log p = flat_append log (p ∷ []) ∙ ap (λ rest. flat log ++ rest) (append-nil p.entries)

pub adds_goes : (log v : List Publication) (p : Publication) (old new : ℕ) → length (flat v) ≡ old → new ≡ old + length p.entries → IsLegal (flat v ++ p.entries) → IsLegal (flat log)
    → IsPrefix v log → (b : Bool) → (length (flat log) == old) ≡ b
    → Goes IsKept shown moved 0 (v, (no_nib, None)) (λ n. either (n == old) new n) (Adds (step 0 old new p) (v, (no_nib, None))) ((length (flat log), true) ∷ (0, true) ∷ []) log
adds_goes log v p old new len more may legal pre true is =
    let here : length (flat log) ≡ old = grind (arith, nat_tests) in
    let same : flat v ≡ flat log = prefix_whole (flat v) (flat log) (flat_prefix v log pre) (omega arith) in
    let now : flat (log ++ p ∷ []) ≡ flat v ++ p.entries = flat_more log p ∙ ap (λ w. w ++ p.entries) (sym same) in
    let legal' : IsLegal (flat (log ++ p ∷ [])) = subst IsLegal (sym now) may in
    let n : either (length (flat log) == old) new (length (flat log)) ≡ length (flat (log ++ p ∷ [])) =
    rw is (omega (arith, more, len, ap length now, length-append (flat v) p.entries)) in (
      keeps,
      p ∷ [],
      None,
      tt,
      record { words = ap (λ (k : ℕ). (k, true) ∷ (0, true) ∷ []) n; legal = legal' },
      inl (refl, refl),
      rw is (now, legal'),
    )
adds_goes log v p old new len more may legal pre false is =
    let all : log ++ [] ≡ log = append-nil log in
    let legal' : IsLegal (flat (log ++ [])) = subst (λ (l : List Publication). IsLegal (flat l)) (sym all) legal in
    let n : either (length (flat log) == old) new (length (flat log)) ≡ length (flat (log ++ [])) = rw is (ap (λ (l : List Publication). length (flat l)) (sym all)) in (
      keeps,
      [],
      None,
      tt,
      record { words = ap (λ (k : ℕ). (k, true) ∷ (0, true) ∷ []) n; legal = legal' },
      inl (refl, refl),
      rw is tt,
    )

-- whatever the book is, the exchange adds the publication to all that was seen, or finds that the history is longer
pub adds_moves : (v : List Publication) (p : Publication) (old new : ℕ) → length (flat v) ≡ old → new ≡ old + length p.entries → IsLegal (flat v ++ p.entries)
    → Moves IsKept shown moved 0 (v, (no_nib, None)) (λ n. either (n == old) new n) (Adds (step 0 old new p) (v, (no_nib, None)))
adds_moves v p old new len more may cs log kept pre away =
    let P : List Cell → Type 0 = λ c. (0 < length c) × ((cell c 0).1 ≡ true)
    × Goes IsKept shown moved 0 (v, (no_nib, None)) (λ n. either (n == old) new n) (Adds (step 0 old new p) (v, (no_nib, None))) c log in
    subst P (sym kept.words) (omega arith, refl, adds_goes log v p old new len more may kept.legal pre (length (flat log) == old) refl)
