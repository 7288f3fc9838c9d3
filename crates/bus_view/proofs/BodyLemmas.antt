-- Names as the strings of bodies.
use Rattle.std.proofs.Common.{◌≡◌, ℕ, zero, ◌+◌, ◌-◌, ◌%◌, ◌*◌, ◌<◌, ◌≤◌, ◌^◌, ◌==◌, Bool, true, false, ◌&&◌, List, [], ◌∷◌, ◌++◌, length, take, drop, map, Some, IsUtf8, subst, append_assoc, length-append, refl, sym, ap, ◌∙◌, arith, inl, inr}
use Rattle.std.specs.List.{flat_map, AllByRecursion}
use Rattle.std.proofs.lemmas.Bool.Decides.{nat_tests}
use Rattle.std.proofs.Common.{append-nil}
use Rattle.names.specs.Texts.{Text}
use Rattle.names.specs.Elements.{Style, dot, is_element_byte, IsElement, joined, led_by, AreElements}
use Rattle.names.specs.UniqueName.{unique_style}
use Rattle.names.specs.WellKnown.{well_known_style}
use Rattle.names.specs.BusName.{IsBusName}
use Rattle.marshal_core.specs.declared.order.Order.TheVariants.{Little}
use Rattle.std.proofs.lemmas.List.{length-replicate, length-take-le, length-drop, take-append-le}
use Rattle.std.proofs.lemmas.Nat.{mod_below}
use Rattle.std.proofs.Math.Seq.{take-append_seam, drop-append-add}
use Rattle.std.specs.Int.{w32, to_le_bytes}
use Rattle.marshal_core.specs.declared.data_type.BasicType.TheVariants.{String}
use Rattle.marshal_core.specs.Types.{basic}
use Rattle.marshal_core.specs.Values.{a_basic, a_string, values}
use Rattle.marshal_core.specs.Spelling.{has_zero, text_spelling, number_spelling, pads, pad_len, ended, IsString, SpellElements, max_array_length}
use Rattle.seq_bus_core.specs.Answers.{OneName, NameList}
use Rattle.bus_view.specs.Bodies.{Answers, IsBody, AreListed, AreStrings, HasGrown, strings_from}
use Rattle.bus_view.specs.declared.answer.Asked.TheVariants.{Body}

-- an element has no zero byte
byte_not_zero : (style : Style) (b : ℕ) → is_element_byte style b ≡ true → (b == 0) ≡ false
byte_not_zero style b h = by_test (b == 0) refl
  where
    zero_byte : (hyphen : Bool) → (hyphen && (0 == 45)) ≡ true → ⊥
    zero_byte true e = cc
    zero_byte false e = cc

    by_test : (r : Bool) → (b == 0) ≡ r → (b == 0) ≡ false
    by_test true e = let none : b ≡ 0 = grind (arith, nat_tests) in absurd (zero_byte style.hyphen (rw none at h))
    by_test false e = e

bytes_not_zero : (style : Style) (bytes : Text) → AllByRecursion (λ b. is_element_byte style b ≡ true) bytes → has_zero bytes ≡ false
bytes_not_zero style [] all = refl
bytes_not_zero style (b ∷ bytes) all = rw (byte_not_zero style b all.0) (bytes_not_zero style bytes all.1)

element_not_zero : (style : Style) (element : Text) → IsElement style element → has_zero element ≡ false
element_not_zero style [] is = absurd is
element_not_zero style (b ∷ bytes) is = rw (byte_not_zero style b is.0) (bytes_not_zero style bytes is.2)

zero_append : (a b : List ℕ) → has_zero a ≡ false → has_zero b ≡ false → has_zero (a ++ b) ≡ false
zero_append [] b h k = k
zero_append (x ∷ a) b h k = by_test (x == 0) refl h (λ rest. zero_append a b rest k)
  where
    by_test : (r : Bool) → (x == 0) ≡ r → has_zero (x ∷ a) ≡ false → (has_zero a ≡ false → has_zero (a ++ b) ≡ false) → has_zero (x ∷ (a ++ b)) ≡ false
    by_test true e first others = let never : true ≡ false = rw e at first in absurd cc
    by_test false e first others = rw e (others (rw e at first))

led_not_zero : (style : Style) (separator : ℕ) (elements : List Text) → (separator == 0) ≡ false → AllByRecursion (IsElement style) elements →
    has_zero (flat_map (led_by separator) elements) ≡ false
led_not_zero style separator [] h all = refl
led_not_zero style separator (e ∷ elements) h all =
    zero_append (separator ∷ e) (flat_map (led_by separator) elements) (rw h (element_not_zero style e all.0)) (led_not_zero style separator elements h all.1)

elements_not_zero : (style : Style) (separator fewer : ℕ) (text : Text) → (separator == 0) ≡ false → AreElements style separator fewer text → has_zero text ≡ false
elements_not_zero style separator fewer text h is = ap has_zero is.3 ∙ joined_not_zero is.0 is.2
  where
    joined_not_zero : (elements : List Text) → AllByRecursion (IsElement style) elements → has_zero (joined separator elements) ≡ false
    joined_not_zero [] all = refl
    joined_not_zero (first ∷ others) all = zero_append first (flat_map (led_by separator) others) (element_not_zero style first all.0) (led_not_zero style separator others h all.1)

name_not_zero : (name : Text) → IsBusName name → has_zero name ≡ false
name_not_zero name (inl unique) = ap has_zero unique.1.1 ∙ elements_not_zero unique_style dot 1 unique.1.0 refl unique.1.2
name_not_zero name (inr well_known) = elements_not_zero well_known_style dot 1 name refl well_known.1

name_short : (name : Text) → IsBusName name → length name ≤ 255
name_short name (inl unique) = unique.0
name_short name (inr well_known) = well_known.0

-- the text of a name, as a string at offset 0, is the body of an answer that is the name
pub name_body : (name : Text) → IsBusName name → IsUtf8 name → IsBody (OneName name) (text_spelling Little 0 name)
name_body name is utf8 =
    let short : length name < 2 ^ 32 = omega (arith, name_short name is) in
    (refl, (text_spelling Little 0 name, [], (refl, (short, utf8, name_not_zero name is), refl), refl, sym (append-nil _)))

-- ## Arrays of strings

pads_few : (at : ℕ) → length (pads 4 at) ≤ 3
pads_few at =
    let count : length (pads 4 at) ≡ pad_len 4 at = length-replicate (pad_len 4 at) 0 in
    let positive : 0 < 4 = omega arith in
    let few : (4 - at % 4) % 4 < 4 = mod_below (4 - at % 4) 4 positive in
    omega (arith, count, few)

string_few : (at : ℕ) (text : Text) → IsBusName text → length (text_spelling Little at text) ≤ 264
string_few at text is =
    let short = name_short text is in
    let padded = pads_few at in
    let number : length (number_spelling Little w32 at (length text)) ≡ length (pads 4 at) + 4 = length-append (pads 4 at) (to_le_bytes w32 (length text)) in
    let end : length (ended text) ≡ length text + 1 = length-append text (0 ∷ []) in
    let whole = length-append (number_spelling Little w32 at (length text)) (ended text) in
    omega (arith, short, padded, number, end, whole)

strings_few : (at : ℕ) (texts : List Text) → AllByRecursion (λ text. IsBusName text × IsUtf8 text) texts → length (strings_from at texts) ≤ 264 * length texts
strings_few at [] all = omega arith
strings_few at (text ∷ texts) all =
    let first = string_few at text all.0.0 in
    let rest = strings_few (at + length (text_spelling Little at text)) texts all.1 in
    let whole = length-append (text_spelling Little at text) (strings_from (at + length (text_spelling Little at text)) texts) in
    omega (arith, first, rest, whole)

pub few_bytes : (texts : List Text) (bytes : List ℕ) → AreStrings texts bytes → length texts ≤ 2048 → length bytes ≤ 1048576
few_bytes texts bytes are h =
    let count : length bytes ≡ length (strings_from 4 texts) = ap (λ (bs : List ℕ). length bs) are.0 in
    let few = strings_few 4 texts are.1 in
    omega (arith, count, few, h)

last_string : (at : ℕ) (texts : List Text) (text : Text) → strings_from at (texts ++ text ∷ []) ≡ strings_from at texts ++ text_spelling Little (at + length (strings_from at texts)) text
last_string at [] text = let here : at ≡ at + 0 = omega arith in append-nil (text_spelling Little at text) ∙ ap (λ place. text_spelling Little place text) here
last_string at (t ∷ texts) text =
    let first = text_spelling Little at t in
    let rest = strings_from (at + length first) texts in
    let size = length-append first rest in
    let place : at + length first + length rest ≡ at + length (first ++ rest) = omega (arith, size) in
    ap (λ tail. first ++ tail) (last_string (at + length first) texts text ∙ ap (λ k. rest ++ text_spelling Little k text) place) ∙ sym (append_assoc first rest (text_spelling Little (at + length (first ++ rest)) text))

all_last : (P : Text → Type 0) (texts : List Text) (text : Text) → AllByRecursion P texts → P text → AllByRecursion P (texts ++ text ∷ [])
all_last P [] text all is = (is, tt)
all_last P (t ∷ texts) text all is = (all.0, all_last P texts text all.1 is)

-- one name more
pub more_listed : (before now after : List ℕ) (start : ℕ) (names : List Text) (name : Text) → length before ≡ start → IsBusName name → IsUtf8 name →
    AreListed before names now → after ≡ now ++ text_spelling Little (length now - start) name → AreListed before (names ++ name ∷ []) after
more_listed before now after start names name at is utf8 listed e =
    let strings = listed.0 in
    let next = text_spelling Little (4 + length strings) name in
    let size : length now ≡ length before + length (0 ∷ 0 ∷ 0 ∷ 0 ∷ strings) = ap (λ (bs : List ℕ). length bs) listed.2 ∙ length-append before (0 ∷ 0 ∷ 0 ∷ 0 ∷ strings) in
    let place : length now - start ≡ 4 + length strings = omega (arith, size, at) in
    let same : text_spelling Little (length now - start) name ≡ next = ap (λ k. text_spelling Little k name) place in
    let spelled : strings ≡ strings_from 4 names = listed.1.0 in (
      strings ++ next,
      ((λ i. spelled i ++ text_spelling Little (4 + length (spelled i)) name) ∙ sym (last_string 4 names name), all_last (λ t. IsBusName t × IsUtf8 t) names name listed.1.1 (is, utf8)),
      e ∙ ap (λ (bs : List ℕ). now ++ bs) same ∙ ap (λ (bs : List ℕ). bs ++ next) listed.2 ∙ append_assoc before (0 ∷ 0 ∷ 0 ∷ 0 ∷ strings) next,
    )

name_string : (text : Text) → IsBusName text → IsUtf8 text → IsString text
name_string text is utf8 =
    let short : length text < 2 ^ 32 = omega (arith, name_short text is) in
    (short, utf8, name_not_zero text is)

elements : (at : ℕ) (texts : List Text) → AllByRecursion (λ text. IsBusName text × IsUtf8 text) texts →
    SpellElements (values (map (λ name. a_basic (a_string name)) texts)) 63 Little at (basic String) (strings_from at texts)
elements at [] all = refl
elements at (text ∷ texts) all =
    (text_spelling Little at text, strings_from (at + length (text_spelling Little at text)) texts, (refl, name_string text all.0.0 all.0.1, refl), elements (at + length (text_spelling Little at text)) texts all.1, refl)

-- names as strings behind their length are the body of an answer that is a list of them
pub names_body : (texts : List Text) (bytes : List ℕ) → AreStrings texts bytes → length bytes ≤ 1048576 → IsBody (NameList texts) (number_spelling Little w32 0 (length bytes) ++ bytes)
names_body texts bytes are few =
    let within : length bytes ≤ max_array_length = omega (arith, few) in
    let all = subst (λ (bs : List ℕ). SpellElements (values (map (λ name. a_basic (a_string name)) texts)) 63 Little 4 (basic String) bs) (sym are.0) (elements 4 texts are.1) in
    let positive : 0 < 64 = omega arith in
    (refl, (number_spelling Little w32 0 (length bytes) ++ bytes, [], (positive, refl, bytes, within, all, refl), refl, sym (append-nil _)))

-- what stands before a place stays where something more was written
pub grown_keeps : (start : ℕ) (before now : List ℕ) → start ≤ length before → HasGrown before now → (start ≤ length now) × (take start now ≡ take start before)
grown_keeps start before now within grown =
    let size = ap (λ (bs : List ℕ). length bs) grown.1 ∙ length-append before grown.0 in
    (omega (arith, within, size), ap (λ (bs : List ℕ). take start bs) grown.1 ∙ take-append-le start before grown.0 within)

pub listed_keeps : (before now : List ℕ) (start : ℕ) (names : List Text) → length before ≡ start → AreListed before names now → take start now ≡ before
listed_keeps before now start names at listed = ap (λ k. take k now) (sym at) ∙ ap (λ (bs : List ℕ). take (length before) bs) listed.2 ∙ take-append_seam before (0 ∷ 0 ∷ 0 ∷ 0 ∷ listed.0)

-- the room that so many names take
pub listed_few : (before now : List ℕ) (start : ℕ) (names : List Text) → length before ≡ start → AreListed before names now → length names ≤ 2048 →
    (start + 4 ≤ length now) × (length now ≤ start + 4 + 2 ^ 20)
listed_few before now start names at listed few =
    let short = few_bytes names listed.0 listed.1 few in
    let size : length now ≡ length before + length (0 ∷ 0 ∷ 0 ∷ 0 ∷ listed.0) = ap (λ (bs : List ℕ). length bs) listed.2 ∙ length-append before (0 ∷ 0 ∷ 0 ∷ 0 ∷ listed.0) in
    (omega (arith, size, at), omega (arith, size, at, short))

-- such an array is the body of an answer, once its length was written
pub ended_names : (before now after : List ℕ) (start : ℕ) (names : List Text) → length before ≡ start → AreListed before names now → length names ≤ 2048 →
    after ≡ take start now ++ (to_le_bytes w32 (length now - start - 4) ++ drop (start + 4) now) →
    Answers Body (Some (NameList names)) before after
ended_names before now after start names at listed few e =
    let strings = listed.0 in
    let short = few_bytes names strings listed.1 few in
    let size : length now ≡ length before + length (0 ∷ 0 ∷ 0 ∷ 0 ∷ strings) = ap (λ (bs : List ℕ). length bs) listed.2 ∙ length-append before (0 ∷ 0 ∷ 0 ∷ 0 ∷ strings) in
    let count : length now - start - 4 ≡ length strings = omega (arith, size, at) in
    let front : take start now ≡ before = ap (λ k. take k now) (sym at) ∙ ap (λ bs. take (length before) bs) listed.2 ∙ take-append_seam before (0 ∷ 0 ∷ 0 ∷ 0 ∷ strings) in
    let behind : drop (start + 4) now ≡ strings = ap (λ k. drop (k + 4) now) (sym at) ∙ ap (λ bs. drop (length before + 4) bs) listed.2 ∙ drop-append-add before (0 ∷ 0 ∷ 0 ∷ 0 ∷ strings) 4 in (
      number_spelling Little w32 0 (length strings) ++ strings,
      names_body names strings listed.1 short,
      e ∙ (λ i. front i ++ (to_le_bytes w32 (count i) ++ behind i)),
    )

-- what stands where a length was written
pub length_written : (n start k : ℕ) (items new written : List ℕ) → written ≡ items → length written ≡ n → start + 4 ≤ length items →
    new ≡ take start written ++ to_le_bytes w32 k ++ drop (start + 4) written →
    take n (new ++ drop (length new) items) ≡ take start items ++ (to_le_bytes w32 k ++ drop (start + 4) items)
length_written n start k items new written same size within e =
    let le = to_le_bytes w32 k in
    let front : length (take start written) ≡ start = length-take-le start written (omega (arith, within, ap (λ (bs : List ℕ). length bs) same)) in
    let behind = length-drop (start + 4) written in
    let first = length-append (take start written) le in
    let all = length-append (take start written ++ le) (drop (start + 4) written) in
    let long : length new ≡ length written = omega (arith, ap (λ (bs : List ℕ). length bs) e, front, behind, first, all, within, ap (λ (bs : List ℕ). length bs) same) in
    let here : n ≡ length new = omega (arith, long, size) in
    ap (λ m. take m (new ++ drop (length new) items)) here ∙ take-append_seam new (drop (length new) items) ∙ e
    ∙ append_assoc (take start written) le (drop (start + 4) written) ∙ ap (λ (bs : List ℕ). take start bs ++ (le ++ drop (start + 4) bs)) same
