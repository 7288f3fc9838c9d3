-- Texts one after the other, each at the next multiple of eight.
use Rattle.std.proofs.Common.{◌≡◌, ℕ, zero, suc, ◌+◌, ◌-◌, ◌≤◌, ◌<◌, List, [], ◌∷◌, ◌++◌, length, take, drop, get_or, sym, ap, subst, ◌∙◌, append_assoc, drop-cons, arith}
use Rattle.std.proofs.lemmas.List.{length-append, length-replicate, length-take-le, length-drop}
use Rattle.marshal_core.specs.Spelling.{pad_len, pads}
use Rattle.message_core.specs.declared.field_place.FieldPlace.{FieldPlace}
use Rattle.message.specs.MessageBytes.{lined_up}
use Rattle.message.specs.Layout.{AreWithin, behind, fields_end, text_at, copied, after_sender, before_end, sender_end, sent_end}

pub length-pads : (at : ℕ) → length (pads 8 at) ≡ pad_len 8 at
length-pads at = length-replicate (pad_len 8 at) 0

-- more texts behind the first ones
pub lined_append : (at : ℕ) (xs ys : List (List ℕ)) → lined_up at (xs ++ ys) ≡ lined_up at xs ++ lined_up (at + length (lined_up at xs)) ys
lined_append at [] ys = ap (λ (n : ℕ). lined_up n ys) (omega arith)
lined_append at (x ∷ xs) ys =
    let next : ℕ = at + pad_len 8 at + length x in
    let rest : List ℕ = lined_up next xs in
    let size : next + length rest ≡ at + length (pads 8 at ++ (x ++ rest)) = omega (arith, length-append (pads 8 at) (x ++ rest), length-append x rest, length-pads at) in
    ap (λ (z : List ℕ). pads 8 at ++ (x ++ z)) (lined_append next xs ys) ∙ ap (λ (n : ℕ). pads 8 at ++ (x ++ (rest ++ lined_up n ys))) size
    ∙ ap (λ (z : List ℕ). pads 8 at ++ z) (sym (append_assoc x rest (lined_up (at + length (pads 8 at ++ (x ++ rest))) ys)))
    ∙ sym (append_assoc (pads 8 at) (x ++ rest) (lined_up (at + length (pads 8 at ++ (x ++ rest))) ys))

pub length-text : (bytes : List ℕ) (p : FieldPlace) → p.from ≤ p.to → p.to ≤ length bytes → length (text_at bytes p) ≡ p.to - p.from
length-text bytes p le ends = length-take-le (p.to - p.from) (drop p.from bytes) (omega (arith, length-drop p.from bytes))

-- where copied fields end
pub copied_end : (bytes : List ℕ) (at : ℕ) (ps : List FieldPlace) → AreWithin (length bytes) ps → fields_end at ps ≡ at + length (copied bytes at ps)
copied_end bytes at [] h = omega arith
copied_end bytes at (p ∷ ps) h =
    let size : length (text_at bytes p) ≡ p.to - p.from = length-text bytes p h.0 h.1 in
    let next : behind at (p.to - p.from) ≡ at + pad_len 8 at + length (text_at bytes p) = ap (λ (n : ℕ). at + pad_len 8 at + n) (sym size) in
    let rest : List ℕ = copied bytes (at + pad_len 8 at + length (text_at bytes p)) ps in
    ap (λ (n : ℕ). fields_end n ps) next ∙ copied_end bytes (at + pad_len 8 at + length (text_at bytes p)) ps h.2
    ∙ omega (arith, length-append (pads 8 at) (text_at bytes p ++ rest), length-append (text_at bytes p) rest, length-pads at)

-- fields end behind where they begin
pub end_after : (at : ℕ) (ps : List FieldPlace) → at ≤ fields_end at ps
end_after at [] = omega arith
end_after at (p ∷ ps) = omega (arith, end_after (behind at (p.to - p.from)) ps)

pub within_more : (m n : ℕ) (ps : List FieldPlace) → m ≤ n → AreWithin m ps → AreWithin n ps
within_more m n [] le h = tt
within_more m n (p ∷ ps) le h = (h.0, omega (arith, h.1), within_more m n ps le h.2)

pub within_take : (n k : ℕ) (ps : List FieldPlace) → AreWithin n ps → AreWithin n (take k ps)
within_take n zero ps h = tt
within_take n (suc k) [] h = tt
within_take n (suc k) (p ∷ ps) h = (h.0, h.1, within_take n k ps h.2)

pub within_drop : (n k : ℕ) (ps : List FieldPlace) → AreWithin n ps → AreWithin n (drop k ps)
within_drop n zero ps h = h
within_drop n (suc k) [] h = tt
within_drop n (suc k) (p ∷ ps) h = within_drop n k ps h.2

-- the first of the fields that are left ends before the last
pub first_end : (at i : ℕ) (ps : List FieldPlace) (d : FieldPlace) → i < length ps → behind at ((get_or ps i d).to - (get_or ps i d).from) ≤ fields_end at (drop i ps)
first_end at i ps d h =
    let p : FieldPlace = get_or ps i d in
    subst (λ (qs : List FieldPlace). behind at (p.to - p.from) ≤ fields_end at qs) (sym (drop-cons ps i d h)) (end_after (behind at (p.to - p.from)) (drop (suc i) ps))

-- and stands within the bytes
pub first_within : (n i : ℕ) (ps : List FieldPlace) (d : FieldPlace) → i < length ps → AreWithin n (drop i ps) → ((get_or ps i d).from ≤ (get_or ps i d).to) × ((get_or ps i d).to ≤ n)
first_within n i ps d h k = let w = subst (AreWithin n) (drop-cons ps i d h) k in (w.0, w.1)

pub sent_after : (name : List ℕ) (ps : List FieldPlace) → before_end ps ≤ sent_end name ps
sent_after name ps = omega (arith, end_after (sender_end name ps) (after_sender ps))
