-- The strings of bodies, read back.
use Rattle.std.proofs.Common.{◌≡◌, ℕ, ◌+◌, ◌<◌, ◌≤◌, ◌^◌, List, [], ◌∷◌, ◌++◌, length, take, drop, map, append-nil, append_assoc, length-append, length-drop, subst, refl, sym, ap, ◌∙◌, arith}
use Rattle.std.specs.Int.{w32, to_le_bytes, from_le_bytes}
use Rattle.std.proofs.lemmas.List.{drop-drop, length-replicate}
use Rattle.std.proofs.lemmas.Nat.{from_le_bytes-to_le_bytes_4}
use Rattle.std.proofs.lemmas.List.Folds.{drop_split}
use Rattle.std.proofs.Math.Seq.{drop-append_seam, drop-length, take-append_seam}
use Rattle.std.specs.List.{slice_range}
use Rattle.names.specs.Texts.{Text}
use Rattle.marshal_core.specs.declared.data_type.BasicType.TheVariants.{String}
use Rattle.marshal_core.specs.declared.order.Order.TheVariants.{Little}
use Rattle.marshal_core.specs.Types.{basic}
use Rattle.marshal_core.specs.Values.{a_basic, a_string, values}
use Rattle.marshal_core.specs.Spelling.{SpellElements, ended, number_spelling, pad_len, pads, text_spelling}
use Rattle.seq_bus_core.specs.Answers.{NameList, OneName}
use Rattle.bus_view.specs.Bodies.{IsBody}

length_spelling : (at : ℕ) (text : Text) → length (text_spelling Little at text) ≡ pad_len 4 at + 5 + length text
length_spelling at text =
    let padded : length (pads 4 at) ≡ pad_len 4 at = length-replicate (pad_len 4 at) 0 in
    let number : length (number_spelling Little w32 at (length text)) ≡ length (pads 4 at) + 4 = length-append (pads 4 at) (to_le_bytes w32 (length text)) in
    let end : length (ended text) ≡ length text + 1 = length-append text (0 ∷ []) in
    let whole = length-append (number_spelling Little w32 at (length text)) (ended text) in
    omega (arith, padded, number, end, whole)

parted : (at : ℕ) (text rest : List ℕ) → text_spelling Little at text ++ rest ≡ pads 4 at ++ (to_le_bytes w32 (length text) ++ (text ++ (0 ∷ rest)))
parted at text rest =
    let padding = pads 4 at in
    let count = to_le_bytes w32 (length text) in
    append_assoc (padding ++ count) (text ++ (0 ∷ [])) rest ∙ ap (λ (t : List ℕ). padding ++ count ++ t) (append_assoc text (0 ∷ []) rest)
    ∙ append_assoc padding count (text ++ (0 ∷ rest))

-- what stands behind the padding of a string
behind_padding : (body text rest : List ℕ) (at : ℕ) → drop at body ≡ text_spelling Little at text ++ rest →
    drop (at + pad_len 4 at) body ≡ to_le_bytes w32 (length text) ++ (text ++ (0 ∷ rest))
behind_padding body text rest at e =
    let padding = pads 4 at in
    let behind = to_le_bytes w32 (length text) ++ (text ++ (0 ∷ rest)) in
    let padded : length padding ≡ pad_len 4 at = length-replicate (pad_len 4 at) 0 in
    sym (drop-drop (pad_len 4 at) at body) ∙ ap (λ (bs : List ℕ). drop (pad_len 4 at) bs) (e ∙ parted at text rest)
    ∙ ap (λ (n : ℕ). drop n (padding ++ behind)) (sym padded) ∙ drop-append_seam padding behind

-- the part of a list from a place to its end
pub to_the_end : (body : List ℕ) (start : ℕ) → start ≤ length body → slice_range body start (length body) ≡ drop start body
to_the_end body start within =
    sym (drop_split body start (length body) within ∙ ap (λ (bs : List ℕ). slice_range body start (length body) ++ bs) (drop-length body) ∙ append-nil _)

-- where a string is spelled, it is read
pub string_read : (body chunk tail taken text rest : List ℕ) (at start count : ℕ) → length text < 2 ^ 32 → drop at body ≡ text_spelling Little at text ++ rest →
    start ≡ at + pad_len 4 at → chunk ≡ take 4 (drop start body) → tail ≡ drop 4 (drop start body) → count ≡ from_le_bytes w32 chunk → taken ≡ take count tail →
    (taken ≡ text) × (start + 5 + count ≡ at + length (text_spelling Little at text))
string_read body chunk tail taken text rest at start count few e is head behind number part =
    let here : drop start body ≡ to_le_bytes w32 (length text) ++ (text ++ (0 ∷ rest)) = ap (λ (n : ℕ). drop n body) is ∙ behind_padding body text rest at e in
    let counted : count ≡ length text = number ∙ ap (from_le_bytes w32) (head ∙ ap (λ (bs : List ℕ). take 4 bs) here) ∙ from_le_bytes-to_le_bytes_4 (length text) few in
    let there : tail ≡ text ++ (0 ∷ rest) = behind ∙ ap (λ (bs : List ℕ). drop 4 bs) here in
    let size = length_spelling at text in
    (part ∙ (λ i. take (counted i) (there i)) ∙ take-append_seam text (0 ∷ rest), omega (arith, is, counted, size))

-- a body that is a string
pub name_there : (name : Text) (body : List ℕ) → IsBody (OneName name) body → (length name < 2 ^ 32) × (drop 0 body ≡ text_spelling Little 0 name ++ [])
name_there name body is =
    let fields = is.1 in
    (fields.2.1.0, fields.4 ∙ (λ i. fields.2.2 i ++ fields.3 i))

-- these strings, one after the other
abbrev pub AreSpelled : List Text → ℕ → List ℕ → Type 0
AreSpelled names at bytes = SpellElements (values (map (λ name. a_basic (a_string name)) names)) 63 Little at (basic String) bytes

-- a body that is an array of strings
pub names_there : (names : List Text) (body : List ℕ) → IsBody (NameList names) body → AreSpelled names 4 (drop 4 body)
names_there names body is =
    let fields = is.1 in
    let array = fields.2 in
    let inside = array.2 in
    let whole : body ≡ number_spelling Little w32 0 (length inside) ++ inside ++ [] = fields.4 ∙ (λ i. array.5 i ++ fields.3 i) in
    subst (λ (bs : List ℕ). AreSpelled names 4 bs) (sym (ap (λ (bs : List ℕ). drop 4 bs) whole ∙ append-nil inside)) array.4

-- a string more was read
pub next_name : (body : List ℕ) (at next : ℕ) (done left names : List Text) (name : Text) → at < length body → done ++ left ≡ names → AreSpelled left at (drop at body) →
    ((text rest : List ℕ) → length text < 2 ^ 32 → drop at body ≡ text_spelling Little at text ++ rest → (name ≡ text) × (next ≡ at + length (text_spelling Little at text))) →
    (others : List Text) × (done ++ (name ∷ []) ++ others ≡ names) × AreSpelled others next (drop next body)
next_name body at next done [] names name more e are read =
    let size = length-drop at body in
    let empty : length (drop at body) ≡ 0 = ap (λ (bs : List ℕ). length bs) are in
    absurd (omega (arith, more, size, empty))
next_name body at next done (text ∷ texts) names name more e are read =
    let first = are.0 in
    let others = are.1 in
    let spelled = are.2.2 in
    let r = read text others are.2.1.0 (are.4 ∙ ap (λ (bs : List ℕ). bs ++ others) spelled) in
    let place : next ≡ at + length first = r.1 ∙ ap (λ (bs : List ℕ). at + length bs) (sym spelled) in
    let behind : drop next body ≡ others =
    ap (λ (n : ℕ). drop n body) place ∙ sym (drop-drop (length first) at body) ∙ ap (λ (bs : List ℕ). drop (length first) bs) are.4 ∙ drop-append_seam first others in (
      texts,
      append_assoc done (name ∷ []) texts ∙ ap (λ (t : Text). done ++ (t ∷ texts)) r.0 ∙ e,
      subst (λ (bs : List ℕ). AreSpelled texts next bs) (sym behind) (subst (λ (n : ℕ). AreSpelled texts n others) (sym place) are.3),
    )

-- all were read
pub none_left : (left : List Text) (at : ℕ) (body : List ℕ) → length body ≤ at → AreSpelled left at (drop at body) → left ≡ []
none_left [] at body all are = refl
none_left (text ∷ texts) at body all are =
    let size = length-drop at body in
    let parts = ap (λ (bs : List ℕ). length bs) are.4 ∙ length-append are.0 are.1 in
    let first = ap (λ (bs : List ℕ). length bs) are.2.2 ∙ length_spelling at text in
    absurd (omega (arith, all, size, parts, first))
