-- How items and values are read through quotes.
use Rattle.std.proofs.Common.{◌≡◌, ◌≢◌, inl, inr, ℕ, suc, ◌+◌, ◌-◌, Bool, true, false, not, ◌||◌, ◌==◌, Option, Some, None, option_map, List, [], ◌∷◌, ◌++◌, refl, sym, ap, subst, ◌∙◌, arith, take, drop, length}
use Rattle.std.specs.List.{AllByRecursion, flat_map, onto_first, list_all, list_any, before_first, after_first, position_or_len}
use Rattle.std.proofs.lemmas.Bool.{cases_Bool, true≢false, eqb-true, eqb-false, ne_eqb, not-true, or_parts, or_right, and_parts}
use Rattle.std.proofs.Math.Seq.{take-append_seam, drop-append-add}
use Rattle.std.proofs.lemmas.List.{take-append-drop}
use Rattle.std.proofs.lemmas.Slice.Eq.{bytes_eq-Decides}
use Rattle.names.specs.Texts.{Text, text_eq}
use Rattle.match_rules.specs.RuleTexts.{apostrophe, comma, equals, backslash, Part, Quoted, Escaped, Plain, part_text, part_value, AreParts, BeginsWithApostrophe}
use Rattle.match_rules.specs.RuleFaults.{Quoting, Outside, AfterBackslash, Inside, next, ends_item, items_from, meant, value_from, is_equals}

-- The text that is read from a place up to the end of an item, its value, and the items behind it.
abbrev pub Reads : Quoting → Text → Text → Text → List Text → Type 0
Reads q text rest value more = (value_from q text ≡ Some value) × (items_from q (text ++ rest) ≡ text ∷ more)

reads_on :
    (q to : Quoting) (b : ℕ) (adds text rest value : Text) (more : List Text) →
    next q b ≡ to → meant q b ≡ adds → ends_item q b ≡ false → Reads to text rest value more → Reads q (b ∷ text) rest (adds ++ value) more
reads_on Outside to b adds text rest value more n m e r = (rw (n, m, r.0) refl, rw (e, n, r.1) refl)
reads_on AfterBackslash to b adds text rest value more n m e r = (rw (n, m, r.0) refl, rw (e, n, r.1) refl)
reads_on Inside to b adds text rest value more n m e r = (rw (n, m, r.0) refl, rw (n, r.1) refl)

-- What ends an item: nothing behind it, or a comma.
abbrev pub Ends : Text → List Text → Type 0
Ends rest more = (items_from Outside rest ≡ [] ∷ more) × (items_from AfterBackslash rest ≡ [] ∷ more)

quoted_reads :
    (bytes text rest value : Text) (more : List Text) → AllByRecursion (λ b. b ≢ apostrophe) bytes → Reads Outside text rest value more →
    Reads Inside (bytes ++ apostrophe ∷ [] ++ text) rest (bytes ++ value) more
quoted_reads [] text rest value more h r = reads_on Inside Outside apostrophe [] text rest value more refl refl refl r
quoted_reads (b ∷ bytes) text rest value more h r =
    let other : (b == apostrophe) ≡ false = ne_eqb b apostrophe h.0 in
    reads_on Inside Inside b (b ∷ []) (bytes ++ apostrophe ∷ [] ++ text) rest (bytes ++ value) more (rw other refl) (rw other refl) refl (quoted_reads bytes text rest value more h.1 r)

abbrev pub IsOpen : Quoting → List Part → Type 0
IsOpen Outside parts = Unit {0}
IsOpen AfterBackslash parts = ¬ BeginsWithApostrophe parts
IsOpen Inside parts = ⊥

abbrev pub pending : Quoting → Text
pending Outside = []
pending AfterBackslash = backslash ∷ []
pending Inside = []

-- A value that is written in parts is read whole.
pub parts_read :
    (q : Quoting) (parts : List Part) (rest : Text) (more : List Text) → AreParts parts → IsOpen q parts → Ends rest more →
    Reads q (flat_map part_text parts) rest (pending q ++ flat_map part_value parts) more
parts_read Outside [] rest more h open' ends = (refl, ends.0)
parts_read AfterBackslash [] rest more h open' ends = (refl, ends.1)
parts_read Inside parts rest more h open' ends = absurd open'
parts_read Outside (Quoted bytes ∷ parts) rest more h open' ends =
    let later : Reads Outside (flat_map part_text parts) rest (flat_map part_value parts) more = parts_read Outside parts rest more h.1 tt ends in
    reads_on Outside Inside apostrophe [] (bytes ++ apostrophe ∷ [] ++ flat_map part_text parts) rest (bytes ++ flat_map part_value parts) more refl refl refl
    (quoted_reads bytes (flat_map part_text parts) rest (flat_map part_value parts) more h.0 later)
parts_read AfterBackslash (Quoted bytes ∷ parts) rest more h open' ends = absurd (open' tt)
parts_read Outside (Escaped ∷ parts) rest more h open' ends =
    let later : Reads Outside (flat_map part_text parts) rest (flat_map part_value parts) more = parts_read Outside parts rest more h tt ends in
    reads_on Outside AfterBackslash backslash [] (apostrophe ∷ flat_map part_text parts) rest (apostrophe ∷ flat_map part_value parts) more refl refl refl
    (reads_on AfterBackslash Outside apostrophe (apostrophe ∷ []) (flat_map part_text parts) rest (flat_map part_value parts) more refl refl refl later)
parts_read AfterBackslash (Escaped ∷ parts) rest more h open' ends =
    let later : Reads Outside (flat_map part_text parts) rest (flat_map part_value parts) more = parts_read Outside parts rest more h tt ends in
    reads_on AfterBackslash AfterBackslash backslash (backslash ∷ []) (apostrophe ∷ flat_map part_text parts) rest (apostrophe ∷ flat_map part_value parts) more refl refl refl
    (reads_on AfterBackslash Outside apostrophe (apostrophe ∷ []) (flat_map part_text parts) rest (flat_map part_value parts) more refl refl refl later)
parts_read Outside (Plain b ∷ parts) rest more h open' ends =
    elim (cases_Bool (b == backslash)) [
      | inl same ↦
          let e : b ≡ backslash = eqb-true b backslash same in
          let later : Reads AfterBackslash (flat_map part_text parts) rest (backslash ∷ flat_map part_value parts) more = parts_read AfterBackslash parts rest more h.3 (h.2 e) ends in
          subst (λ x. Reads Outside (x ∷ flat_map part_text parts) rest (x ∷ flat_map part_value parts) more) (sym e)
          (reads_on Outside AfterBackslash backslash [] (flat_map part_text parts) rest (backslash ∷ flat_map part_value parts) more refl refl refl later)
      | inr other ↦
          let later : Reads Outside (flat_map part_text parts) rest (flat_map part_value parts) more = parts_read Outside parts rest more h.3 tt ends in
          let plain : (b == apostrophe) ≡ false = ne_eqb b apostrophe h.1 in
          reads_on Outside Outside b (b ∷ []) (flat_map part_text parts) rest (flat_map part_value parts) more (rw (plain, other) refl) (rw (plain, other) refl) (ne_eqb b comma h.0) later
    ]
parts_read AfterBackslash (Plain b ∷ parts) rest more h open' ends =
    elim (cases_Bool (b == backslash)) [
      | inl same ↦
          let e : b ≡ backslash = eqb-true b backslash same in
          let later : Reads AfterBackslash (flat_map part_text parts) rest (backslash ∷ flat_map part_value parts) more = parts_read AfterBackslash parts rest more h.3 (h.2 e) ends in
          subst (λ x. Reads AfterBackslash (x ∷ flat_map part_text parts) rest (backslash ∷ x ∷ flat_map part_value parts) more) (sym e)
          (reads_on AfterBackslash AfterBackslash backslash (backslash ∷ []) (flat_map part_text parts) rest (backslash ∷ flat_map part_value parts) more refl refl refl later)
      | inr other ↦
          let later : Reads Outside (flat_map part_text parts) rest (flat_map part_value parts) more = parts_read Outside parts rest more h.3 tt ends in
          let plain : (b == apostrophe) ≡ false = ne_eqb b apostrophe h.1 in
          reads_on AfterBackslash Outside b (backslash ∷ b ∷ []) (flat_map part_text parts) rest (flat_map part_value parts) more (rw (plain, other) refl) (rw (plain, other) refl) (ne_eqb b comma h.0) later
    ]

-- A part of a text in which no comma ends an item.
abbrev pub IsOneItem : Quoting → Text → Type 0
IsOneItem q [] = Unit {0}
IsOneItem q (b ∷ text) = (ends_item q b ≡ false) × IsOneItem (next q b) text

-- What stands before a place that is read after a backslash.
abbrev pub AreRead : Text → Text → Type 0
AreRead text value = (parts : List Part) × AreParts parts × (text ≡ flat_map part_text parts) × (value ≡ flat_map part_value parts)

abbrev pub IsReadInside : Text → Text → Type 0
IsReadInside text value =
    (bytes : Text) × (parts : List Part) × AllByRecursion (λ b. b ≢ apostrophe) bytes × AreParts parts
    × (text ≡ bytes ++ apostrophe ∷ [] ++ flat_map part_text parts) × (value ≡ bytes ++ flat_map part_value parts)

abbrev pub IsReadFrom : Quoting → Text → Text → Type 0
IsReadFrom Outside text value = AreRead text value
IsReadFrom AfterBackslash text value = AreRead (backslash ∷ text) value
IsReadFrom Inside text value = IsReadInside text value

-- One step of the reading of a value, taken apart.
mapped_some : (front : Text) (o : Option Text) (value : Text) → option_map (λ later. front ++ later) o ≡ Some value → (later : Text) × (o ≡ Some later) × (value ≡ front ++ later)
mapped_some front None value h = absurd cc
mapped_some front (Some later) value h = (later, refl, cc)

read_step : (q : Quoting) (b : ℕ) (text value : Text) → value_from q (b ∷ text) ≡ Some value → (later : Text) × (value_from (next q b) text ≡ Some later) × (value ≡ meant q b ++ later)
read_step Outside b text value h = mapped_some (meant Outside b) (value_from (next Outside b) text) value h
read_step AfterBackslash b text value h = mapped_some (meant AfterBackslash b) (value_from (next AfterBackslash b) text) value h
read_step Inside b text value h = mapped_some (meant Inside b) (value_from (next Inside b) text) value h

backslash_first : (parts : List Part) (text : Text) → backslash ∷ text ≡ flat_map part_text parts → ¬ BeginsWithApostrophe parts
backslash_first [] text h x = x
backslash_first (Quoted bytes ∷ parts) text h x = let e : backslash ≡ apostrophe = cc in omega (arith, e)
backslash_first (Escaped ∷ parts) text h x = x
backslash_first (Plain b ∷ parts) text h x = x

-- What is read as a value is written in parts.
pub value_read : (q : Quoting) (text value : Text) → IsOneItem q text → value_from q text ≡ Some value → IsReadFrom q text value
value_read Outside [] value one h = ([], tt, refl, cc)
value_read AfterBackslash [] value one h = (Plain backslash ∷ [], (omega arith, omega arith, (λ e x. x), tt), refl, cc)
value_read Inside [] value one h = absurd cc
value_read Outside (b ∷ text) value one h =
    let s : (later : Text) × (value_from (next Outside b) text ≡ Some later) × (value ≡ meant Outside b ++ later) = read_step Outside b text value h in
    elim (cases_Bool (b == apostrophe)) [
      | inl same ↦
          let n : next Outside b ≡ Inside = rw same refl in
          let m : meant Outside b ≡ [] = rw same refl in
          let r : IsReadInside text s.0 = value_read Inside text s.0 (subst (λ q. IsOneItem q text) n one.1) (subst (λ q. value_from q text ≡ Some s.0) n s.1) in
          (Quoted r.0 ∷ r.1, (r.2, r.3), ap (λ x. x ∷ text) (eqb-true b apostrophe same) ∙ ap (λ t. apostrophe ∷ t) r.4, s.2 ∙ ap (λ w. w ++ s.0) m ∙ r.5)
      | inr plain ↦ elim (cases_Bool (b == backslash)) [
        | inl same ↦
            let n : next Outside b ≡ AfterBackslash = rw (plain, same) refl in
            let m : meant Outside b ≡ [] = rw (plain, same) refl in
            let r : AreRead (backslash ∷ text) s.0 = value_read AfterBackslash text s.0 (subst (λ q. IsOneItem q text) n one.1) (subst (λ q. value_from q text ≡ Some s.0) n s.1) in
            (r.0, r.1, ap (λ x. x ∷ text) (eqb-true b backslash same) ∙ r.2, s.2 ∙ ap (λ w. w ++ s.0) m ∙ r.3)
        | inr other ↦
            let n : next Outside b ≡ Outside = rw (plain, other) refl in
            let m : meant Outside b ≡ b ∷ [] = rw (plain, other) refl in
            let r : AreRead text s.0 = value_read Outside text s.0 (subst (λ q. IsOneItem q text) n one.1) (subst (λ q. value_from q text ≡ Some s.0) n s.1) in (
              Plain b ∷ r.0,
              (eqb-false b comma one.0, eqb-false b apostrophe plain, (λ e. absurd (eqb-false b backslash other e)), r.1),
              ap (λ t. b ∷ t) r.2,
              s.2 ∙ ap (λ w. w ++ s.0) m ∙ ap (λ v. b ∷ v) r.3,
            )
      ]
    ]
value_read AfterBackslash (b ∷ text) value one h =
    let s : (later : Text) × (value_from (next AfterBackslash b) text ≡ Some later) × (value ≡ meant AfterBackslash b ++ later) = read_step AfterBackslash b text value h in
    elim (cases_Bool (b == apostrophe)) [
      | inl same ↦
          let n : next AfterBackslash b ≡ Outside = rw same refl in
          let m : meant AfterBackslash b ≡ apostrophe ∷ [] = rw same refl in
          let r : AreRead text s.0 = value_read Outside text s.0 (subst (λ q. IsOneItem q text) n one.1) (subst (λ q. value_from q text ≡ Some s.0) n s.1) in (
            Escaped ∷ r.0,
            r.1,
            ap (λ x. backslash ∷ x ∷ text) (eqb-true b apostrophe same) ∙ ap (λ t. backslash ∷ apostrophe ∷ t) r.2,
            s.2 ∙ ap (λ w. w ++ s.0) m ∙ ap (λ v. apostrophe ∷ v) r.3,
          )
      | inr plain ↦ elim (cases_Bool (b == backslash)) [
        | inl same ↦
            let n : next AfterBackslash b ≡ AfterBackslash = rw (plain, same) refl in
            let m : meant AfterBackslash b ≡ backslash ∷ [] = rw (plain, same) refl in
            let r : AreRead (backslash ∷ text) s.0 = value_read AfterBackslash text s.0 (subst (λ q. IsOneItem q text) n one.1) (subst (λ q. value_from q text ≡ Some s.0) n s.1) in (
              Plain backslash ∷ r.0,
              (omega arith, omega arith, (λ e. backslash_first r.0 text r.2), r.1),
              ap (λ x. backslash ∷ x ∷ text) (eqb-true b backslash same) ∙ ap (λ t. backslash ∷ t) r.2,
              s.2 ∙ ap (λ w. w ++ s.0) m ∙ ap (λ v. backslash ∷ v) r.3,
            )
        | inr other ↦
            let n : next AfterBackslash b ≡ Outside = rw (plain, other) refl in
            let m : meant AfterBackslash b ≡ backslash ∷ b ∷ [] = rw (plain, other) refl in
            let r : AreRead text s.0 = value_read Outside text s.0 (subst (λ q. IsOneItem q text) n one.1) (subst (λ q. value_from q text ≡ Some s.0) n s.1) in (
              Plain backslash ∷ Plain b ∷ r.0,
              (omega arith, omega arith, (λ e x. x), (eqb-false b comma one.0, eqb-false b apostrophe plain, (λ e. absurd (eqb-false b backslash other e)), r.1)),
              ap (λ t. backslash ∷ b ∷ t) r.2,
              s.2 ∙ ap (λ w. w ++ s.0) m ∙ ap (λ v. backslash ∷ b ∷ v) r.3,
            )
      ]
    ]
value_read Inside (b ∷ text) value one h =
    let s : (later : Text) × (value_from (next Inside b) text ≡ Some later) × (value ≡ meant Inside b ++ later) = read_step Inside b text value h in
    elim (cases_Bool (b == apostrophe)) [
      | inl same ↦
          let n : next Inside b ≡ Outside = rw same refl in
          let m : meant Inside b ≡ [] = rw same refl in
          let r : AreRead text s.0 = value_read Outside text s.0 (subst (λ q. IsOneItem q text) n one.1) (subst (λ q. value_from q text ≡ Some s.0) n s.1) in
          ([], r.0, tt, r.1, ap (λ x. x ∷ text) (eqb-true b apostrophe same) ∙ ap (λ t. apostrophe ∷ t) r.2, s.2 ∙ ap (λ w. w ++ s.0) m ∙ r.3)
      | inr other ↦
          let n : next Inside b ≡ Inside = rw other refl in
          let m : meant Inside b ≡ b ∷ [] = rw other refl in
          let r : IsReadInside text s.0 = value_read Inside text s.0 (subst (λ q. IsOneItem q text) n one.1) (subst (λ q. value_from q text ≡ Some s.0) n s.1) in
          (b ∷ r.0, r.1, (eqb-false b apostrophe other, r.2), r.3, ap (λ t. b ∷ t) r.4, s.2 ∙ ap (λ w. w ++ s.0) m ∙ ap (λ v. b ∷ v) r.5)
    ]

ends_at_comma : (q : Quoting) (b : ℕ) → ends_item q b ≡ true → b ≡ comma
ends_at_comma Outside b h = eqb-true b comma h
ends_at_comma AfterBackslash b h = eqb-true b comma h
ends_at_comma Inside b h = absurd (true≢false (sym h))

-- A text is its items with commas between them.
pub split_items :
    (q : Quoting) (text : Text) →
    (first : Text) × (others : List Text) × (items_from q text ≡ first ∷ others) × IsOneItem q first × AllByRecursion (IsOneItem Outside) others
    × (text ≡ first ++ flat_map (λ item. comma ∷ item) others)
split_items q [] = ([], [], refl, tt, tt, refl)
split_items q (b ∷ text) =
    elim (cases_Bool (ends_item q b)) [
      | inl ends ↦
          let s = split_items Outside text in
          ([], s.0 ∷ s.1, rw ends (ap (λ r. [] ∷ r) s.2), tt, (s.3, s.4), ap (λ x. x ∷ text) (ends_at_comma q b ends) ∙ ap (λ t. comma ∷ t) s.5)
      | inr goes ↦
          let s = split_items (next q b) text in
          (b ∷ s.0, s.1, rw goes (ap (λ r. onto_first b r) s.2), (goes, s.3), s.4, ap (λ t. b ∷ t) s.5)
    ]

-- Bytes that part nothing: no apostrophe, no comma, no backslash, and no equals sign.
abbrev pub is_key_byte : ℕ → Bool
is_key_byte b = not ((b == apostrophe) || (b == comma) || (b == backslash) || (b == equals))

pub key_byte_parts : (b : ℕ) → is_key_byte b ≡ true → ((b == apostrophe) ≡ false) × ((b == comma) ≡ false) × ((b == backslash) ≡ false) × ((b == equals) ≡ false)
key_byte_parts b h =
    let three = or_parts ((b == apostrophe) || (b == comma) || (b == backslash)) (b == equals) (not-true ((b == apostrophe) || (b == comma) || (b == backslash) || (b == equals)) h) in
    let two = or_parts ((b == apostrophe) || (b == comma)) (b == backslash) three.0 in
    let one = or_parts (b == apostrophe) (b == comma) two.0 in
    (one.0, one.1, two.1, three.1)

pub key_bytes_read :
    (word text first : Text) (more : List Text) → list_all is_key_byte word ≡ true → items_from Outside text ≡ first ∷ more →
    items_from Outside (word ++ text) ≡ (word ++ first) ∷ more
key_bytes_read [] text first more h r = r
key_bytes_read (b ∷ word) text first more h r =
    let a : (is_key_byte b ≡ true) × (list_all is_key_byte word ≡ true) = and_parts (is_key_byte b) (list_all is_key_byte word) h in
    let k = key_byte_parts b a.0 in
    rw (k.1, k.0, k.2, key_bytes_read word text first more a.1 r) refl

-- A key and its equals sign in front of a value.
pub key_part_is_quiet : (word text : Text) → list_all is_key_byte word ≡ true → IsOneItem Outside (word ++ text) → IsOneItem Outside text
key_part_is_quiet [] text h one = one
key_part_is_quiet (b ∷ word) text h one =
    let a : (is_key_byte b ≡ true) × (list_all is_key_byte word ≡ true) = and_parts (is_key_byte b) (list_all is_key_byte word) h in
    let k = key_byte_parts b a.0 in
    let n : next Outside b ≡ Outside = rw (k.0, k.2) refl in
    key_part_is_quiet word text a.1 (subst (λ q. IsOneItem q (word ++ text)) n one.1)

-- Where the first equals sign stands.
pub first_equals : (word text : Text) → list_all is_key_byte word ≡ true → position_or_len is_equals (word ++ equals ∷ text) ≡ length word
first_equals [] text h = refl
first_equals (b ∷ word) text h =
    let a : (is_key_byte b ≡ true) × (list_all is_key_byte word ≡ true) = and_parts (is_key_byte b) (list_all is_key_byte word) h in
    let k = key_byte_parts b a.0 in
    let rest : position_or_len is_equals (word ++ equals ∷ text) ≡ length word = first_equals word text a.1 in
    rw k.3 (omega (arith, rest))

pub has_equals : (word text : Text) → list_any is_equals (word ++ equals ∷ text) ≡ true
has_equals [] text = refl
has_equals (b ∷ word) text = or_right (b == equals) (list_any is_equals (word ++ equals ∷ text)) (has_equals word text)

pub before_equals : (word text : Text) → list_all is_key_byte word ≡ true → before_first is_equals (word ++ equals ∷ text) ≡ word
before_equals word text h = ap (λ n. take n (word ++ equals ∷ text)) (first_equals word text h) ∙ take-append_seam word (equals ∷ text)

pub after_equals : (word text : Text) → list_all is_key_byte word ≡ true → after_first is_equals (word ++ equals ∷ text) ≡ text
after_equals word text h = ap (λ n. drop (n + 1) (word ++ equals ∷ text)) (first_equals word text h) ∙ drop-append-add word (equals ∷ text) 1

pub at_equals : (item : Text) → list_any is_equals item ≡ true → item ≡ before_first is_equals item ++ equals ∷ after_first is_equals item
at_equals [] h = absurd (true≢false (sym h))
at_equals (b ∷ item) h =
    let place : ℕ = position_or_len is_equals item in
    let one : 1 + place ≡ suc place = omega arith in
    let two : suc place + 1 ≡ suc (place + 1) = omega arith in
    elim (cases_Bool (b == equals)) [
      | inl same ↦ rw same (ap (λ x. x ∷ item) (eqb-true b equals same))
      | inr other ↦ rw (other, one, two) (ap (λ t. b ∷ t) (at_equals item (subst (λ x. (x || list_any is_equals item) ≡ true) other h)))
    ]

-- A value between two apostrophes that has none itself.
inside_read : (value : Text) → list_any (λ b. b == apostrophe) value ≡ false → value_from Inside (value ++ apostrophe ∷ []) ≡ Some value
inside_read [] h = refl
inside_read (b ∷ value) h =
    let parts = or_parts (b == apostrophe) (list_any (λ b. b == apostrophe) value) h in
    rw (parts.0, inside_read value parts.1) refl

pub between_read : (value : Text) → list_any (λ b. b == apostrophe) value ≡ false → value_from Outside (apostrophe ∷ value ++ apostrophe ∷ []) ≡ Some value
between_read value h = ap (λ o. option_map (λ later. later) o) (inside_read value h)

pub plain_value_read :
    (text front value : Text) → text_eq (take 1 text) (apostrophe ∷ []) ≡ true → front ≡ drop 1 text → text_eq (drop (length front - 1) front) (apostrophe ∷ []) ≡ true →
    value ≡ take (length front - 1) front → list_any (λ b. b == apostrophe) value ≡ false → value_from Outside text ≡ Some value
plain_value_read text front value opened behind closed before none =
    let whole : text ≡ apostrophe ∷ front = sym (take-append-drop 1 text) ∙ ap (λ t. t ++ drop 1 text) ((bytes_eq-Decides (take 1 text) (apostrophe ∷ [])).0 opened) ∙ ap (λ t. apostrophe ∷ t) (sym behind) in
    let rest : front ≡ value ++ apostrophe ∷ [] =
    sym (take-append-drop (length front - 1) front) ∙ ap (λ t. t ++ drop (length front - 1) front) (sym before) ∙ ap (λ t. value ++ t) ((bytes_eq-Decides (drop (length front - 1) front) (apostrophe ∷ [])).0 closed)
    in
    ap (λ t. value_from Outside t) (whole ∙ ap (λ t. apostrophe ∷ t) rest) ∙ between_read value none
