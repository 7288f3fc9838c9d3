-- Beginnings of histories.
use Rattle.std.proofs.Common.{◌≡◌, ◌+◌, ◌≤◌, ◌==◌, true, [], ◌∷◌, ◌++◌, length, take, refl, ap, sym, ◌∙◌, arith, length-append}
use Rattle.std.proofs.lemmas.Bool.{and_parts}
use Rattle.std.proofs.lemmas.List.{append-nil}
use Rattle.std.proofs.Math.Seq.{take-append_seam}
use Rattle.seq_bus_core.specs.Histories.{History, Begins, goes_on, has_whole_publications, ends_publication}

pub begins_same : (h : History) → Begins h h
begins_same h = ([], append-nil h)

pub begins_more : (h more : History) → Begins h (h ++ more)
begins_more h more = (more, refl)

pub begins_length : (a b : History) → Begins a b → length a ≤ length b
begins_length a b p = let e : length a + length p.0 ≡ length b = sym (length-append a p.0) ∙ ap length p.1 in omega (arith, e)

-- of two beginnings of a history the shorter begins the longer
pub begins_shorter : (a b h : History) → Begins a h → Begins b h → length a ≤ length b → Begins a b
begins_shorter [] b h p q le = (b, refl)
begins_shorter (x ∷ a) [] h p q le = absurd (omega (arith, le))
begins_shorter (x ∷ a) (y ∷ b) [] p q le = absurd (cc p.1)
begins_shorter (x ∷ a) (y ∷ b) (z ∷ h) p q le =
    let first : x ≡ z = cc p.1 in
    let second : y ≡ z = cc q.1 in
    let front : a ++ p.0 ≡ h = cc p.1 in
    let other : b ++ q.0 ≡ h = cc q.1 in
    let less : length a ≤ length b = omega (arith, le) in
    let rest = begins_shorter a b h (p.0, front) (q.0, other) less in
    (rest.0, λ i. (first ∙ sym second) i ∷ rest.1 i)

-- as many entries as a beginning has are that beginning
pub take_begun : (point h : History) → Begins point h → take (length point) h ≡ point
take_begun point h begun = ap (take (length point)) (sym begun.1) ∙ take-append_seam point begun.0

-- whole publications end one
pub whole_ends : (h : History) → has_whole_publications h ≡ true → ends_publication h ≡ true
whole_ends [] whole = refl
whole_ends (e ∷ []) whole = (and_parts (e.left == 0) true whole).0
whole_ends (e ∷ next ∷ h) whole = whole_ends (next ∷ h) (and_parts (goes_on e (next ∷ h)) (has_whole_publications (next ∷ h)) whole).1
