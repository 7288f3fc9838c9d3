-- Beginnings of one list, and of one history in publications.
use Rattle.std.proofs.lemmas.Bool.Decides.{nat_tests}
use Rattle.std.specs.Prelude.{MatchBool, leb}
use Rattle.std.proofs.Common.{◌≡◌, ℕ, ◌≤◌, ◌<◌, Bool, true, false, List, [], ◌∷◌, ◌++◌, length, refl, ap, sym, ◌∙◌, arith, append_assoc}
use Rattle.std.proofs.lemmas.List.{append-nil}
use mathlib.Core.List.{IsPrefix}
use Rattle.seq_bus_core.specs.Histories.{History, Begins}
use Rattle.registry_snapshots_core.specs.Publications.{flat}
use Rattle.registry_snapshots_core.specs.declared.history.Publication.{Publication}

-- of two beginnings of one list the shorter begins the longer
pub prefix_shorter : {A : Type 0} (xs ys zs : List A) → IsPrefix xs zs → IsPrefix ys zs → length xs ≤ length ys → IsPrefix xs ys
prefix_shorter [] ys zs p q le = (ys, refl)
prefix_shorter (x ∷ xs) [] zs p q le = absurd (omega arith)
prefix_shorter (x ∷ xs) (y ∷ ys) [] p q le = absurd (cc (p.1))
prefix_shorter (x ∷ xs) (y ∷ ys) (z ∷ zs) p q le =
    let heads : x ≡ y = cc (p.1, q.1) in
    let rest = prefix_shorter xs ys zs (p.0, cc (p.1)) (q.0, cc (q.1)) (omega arith) in
    (rest.0, cc (heads, rest.1))

-- a beginning as long as the whole is the whole
pub prefix_whole : {A : Type 0} (xs ys : List A) → IsPrefix xs ys → length ys ≤ length xs → xs ≡ ys
prefix_whole [] [] p le = refl
prefix_whole [] (y ∷ ys) p le = absurd (omega arith)
prefix_whole (x ∷ xs) [] p le = absurd (cc (p.1))
prefix_whole (x ∷ xs) (y ∷ ys) p le =
    let rest = prefix_whole xs ys (p.0, cc (p.1)) (omega arith) in cc (p.1, rest)

-- comparing the lengths of two beginnings of one list says which begins the other
pub shorter_begins : {A : Type 0} (xs ys zs : List A) (m n : ℕ) → m ≡ length xs → n ≡ length ys → IsPrefix xs zs → IsPrefix ys zs
    → (b : Bool) → leb m n ≡ b → MatchBool b (IsPrefix xs ys) (IsPrefix ys xs × (length ys < length xs))
shorter_begins xs ys zs m n mx ny p q true is = prefix_shorter xs ys zs p q (grind (arith, nat_tests))
shorter_begins xs ys zs m n mx ny p q false is =
    let less : length ys < length xs = grind (arith, nat_tests) in
    (prefix_shorter ys xs zs q p (omega arith), less)

pub flat_append : (ps qs : List Publication) → flat (ps ++ qs) ≡ flat ps ++ flat qs
flat_append [] qs = refl
flat_append (p ∷ ps) qs = ap (λ rest. p.entries ++ rest) (flat_append ps qs) ∙ sym (append_assoc p.entries (flat ps) (flat qs))

-- publications that begin others have entries that begin theirs
pub flat_prefix : (ps qs : List Publication) → IsPrefix ps qs → IsPrefix (flat ps) (flat qs)
flat_prefix ps qs p = (flat p.0, sym (flat_append ps p.0) ∙ ap flat p.1)

pub begins_same : (xs ys : History) → xs ≡ ys → Begins xs ys
begins_same xs ys same = ([], append-nil xs ∙ same)
