-- The first type of a signature, and the others.
use Rattle.std.proofs.Common.{◌≡◌, ℕ, ◌-◌, ◌<◌, true, false, List, [], ◌++◌, length, take, refl, sym, ap, ◌∙◌, append-nil, length-append, arith}
use Rattle.std.specs.Prelude.{◌&&◌, is_ok, nat_le}
use Rattle.std.proofs.lemmas.List.{take_at}
use Rattle.marshal_core.specs.Types.{Ty, Tys, no_types, more_types, one_type}
use Rattle.marshal_core.specs.Signatures.{code, codes, is_complete, are_complete, IsSignature, signature_of}
use Rattle.marshal_core.proofs.Results.{both_true, both_are, leb-yes, leb_true}
use Rattle.marshal_core.proofs.TypesAgain.{signature_again}
use Rattle.marshal_check.specs.SignatureTexts.{is_signature_text, types_or_none, types_in, BeginsWith}
use Rattle.marshal_check.proofs.Checked.{is_its_text}

first_valid : (t : Ty) (us : Tys) → IsSignature (more_types t us) → IsSignature (one_type t)
first_valid t us h =
    let p = both_true (is_complete false 32 32 t && are_complete 32 32 us) (nat_le (length (code t ++ codes us)) 255) h in
    let q = both_true (is_complete false 32 32 t) (are_complete 32 32 us) p.0 in
    let le = leb-yes (length (code t ++ codes us)) 255 p.1 in
    both_are (is_complete false 32 32 t && true) (nat_le (length (code t ++ [])) 255) (both_are (is_complete false 32 32 t) true q.0 refl)
    (leb_true (length (code t ++ [])) 255 (omega (arith, le, length-append (code t) (codes us), ap length (append-nil (code t)))))

pub others_valid : (t : Ty) (us : Tys) → IsSignature (more_types t us) → IsSignature us
others_valid t us h =
    let p = both_true (is_complete false 32 32 t && are_complete 32 32 us) (nat_le (length (code t ++ codes us)) 255) h in
    let q = both_true (is_complete false 32 32 t) (are_complete 32 32 us) p.0 in
    let le = leb-yes (length (code t ++ codes us)) 255 p.1 in
    both_are (are_complete 32 32 us) (nat_le (length (codes us)) 255) q.1 (leb_true (length (codes us)) 255 (omega (arith, le, length-append (code t) (codes us))))

pub text_types : (text : List ℕ) (ts : Tys) → IsSignature ts → text ≡ codes ts → types_in text ≡ ts
text_types text ts h e = ap types_or_none (ap signature_of e ∙ signature_again ts h)

pub text_valid : (text : List ℕ) (ts : Tys) → IsSignature ts → text ≡ codes ts → is_signature_text text ≡ true
text_valid text ts h e = ap is_ok (ap signature_of e ∙ signature_again ts h)

abbrev Split : Tys → List ℕ → List ℕ → Type 0
Split ts first others = (is_signature_text first ≡ true) × (is_signature_text others ≡ true) × BeginsWith ts (types_in first) (types_in others)

split_types : (ts : Tys) (text first others : List ℕ) → IsSignature ts → text ≡ codes ts → 0 < length text → ((t : Ty) (tail : List ℕ) → text ≡ code t ++ tail → others ≡ tail) → first ≡ take (length text - length others) text → Split ts first others
split_types no_types text first others h e some follows f = absurd (omega (arith, ap length e))
split_types (more_types t us) text first others h e some follows f =
    let o : others ≡ codes us = follows t (codes us) e in
    let n : length text - length others ≡ length (code t) = omega (arith, ap length e, length-append (code t) (codes us), ap length o) in
    let g : first ≡ codes (one_type t) = f ∙ ap (λ (k : ℕ). take k text) n ∙ ap (take (length (code t))) e ∙ take_at (code t) (codes us) (length (code t)) refl ∙ sym (append-nil (code t)) in
    let hf = first_valid t us h in
    let ho = others_valid t us h in
    (text_valid first (one_type t) hf g, text_valid others us ho o, (t, text_types first (one_type t) hf g, ap (more_types t) (sym (text_types others us ho o))))

pub split_text : (text first others : List ℕ) → is_signature_text text ≡ true → 0 < length text → ((t : Ty) (tail : List ℕ) → text ≡ code t ++ tail → others ≡ tail) → first ≡ take (length text - length others) text → Split (types_in text) first others
split_text text first others valid some follows f =
    let p = is_its_text text valid in
    split_types (types_in text) text first others p.0 p.1 some follows f

pub nothing_left : (text : List ℕ) → text ≡ [] → types_in text ≡ no_types
nothing_left text e = text_types text no_types refl e
