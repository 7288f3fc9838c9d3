-- A text has no fault exactly where it is elements with separators between them.
use Rattle.std.proofs.Common.{◌≡◌, ℕ, ◌+◌, ◌<◌, ◌≤◌, Bool, true, false, cond, eqb, List, [], ◌∷◌, ◌++◌, length, get_or, drop, Option, Some, None, refl, sym, ap, subst, ◌∙◌, append-nil, arith, inl, inr}
use Rattle.std.proofs.Common.{◌^◌, ◌%◌, lit<}
use Rattle.std.proofs.lemmas.Fmt.{decimal_by_steps, length-decimal-le, decimal_injective}
use Rattle.std.specs.Prelude.{decimal, ◌||◌, ◌&&◌, ◌⊎◌, not, nat_lt, Result, Ok, Err, IsOk, MatchResult}
use Rattle.std.specs.List.{flat_map, AllByRecursion}
use Rattle.std.proofs.lemmas.Bool.{eqb-true}
use Rattle.std.proofs.Common.{eq-eqb}
use Rattle.std.proofs.lemmas.Bool.Decides.{nat_tests}
use Rattle.std.proofs.lemmas.Grind.{common_steps}
use Rattle.std.proofs.lemmas.List.Concat.{flat_map-cons}
use Rattle.names.specs.declared.fault.NameFault.{NameFault}
use Rattle.names.specs.declared.fault.NameFault.TheVariants.{TooLong, BadByte, TooFewElements, DigitFirst}
use Rattle.names.specs.Texts.{Text}
use Rattle.names.specs.Interface.{IsInterface, interface_fault, interface_style}
use Rattle.names.specs.WellKnown.{IsWellKnownName, well_known_fault, well_known_style, IsNamespace, namespace_fault}
use Rattle.names.specs.Member.{IsMember, member_fault, member_style}
use Rattle.names.specs.UniqueName.{IsUniqueName, unique_name_fault, unique_style, after_colon, unique_text}
use Rattle.names.specs.BusName.{IsBusName}
use Rattle.names.specs.ObjectPath.{IsObjectPath, object_path_fault, path_style, after_slash}
use Rattle.names.specs.Elements.{dot, slash, colon, underscore, hyphen_byte, is_letter, Style, is_digit, is_element_byte, IsElement, led_by, joined, AreElements, elements_fault, sized_fault, max_name_length}

-- the styles whose elements have a separator between them
abbrev pub separated : ℕ → Bool → Bool → Style
separated separator h d = record { separator = Some separator; hyphen = h; digit_first = d }

abbrev MoreBytes : Style → Text → Type 0
MoreBytes s cs = AllByRecursion (λ b. is_element_byte s b ≡ true) cs

-- the rest of an element, and elements behind it
abbrev Tail : Style → ℕ → Bool → Text → Type 0
Tail s p enough text = (tail : Text) × (others : List Text) × MoreBytes s tail × AllByRecursion (IsElement s) others × (enough ≡ false → 0 < length others) × (text ≡ tail ++ flat_map (led_by p) others)

-- an element, and elements behind it
abbrev Whole : Style → ℕ → Bool → Text → Type 0
Whole s p enough text = (first : Text) × (others : List Text) × IsElement s first × AllByRecursion (IsElement s) others × (enough ≡ false → 0 < length others) × (text ≡ first ++ flat_map (led_by p) others)

abbrev chosen : (b : Bool) (x y z : Option NameFault) → cond b x y ≡ z → ((b ≡ true) × (x ≡ z)) ⊎ ((b ≡ false) × (y ≡ z))
chosen true x y z e = inl (refl, e)
chosen false x y z e = inr (refl, e)

guard : (b : Bool) (d : NameFault) (x : Option NameFault) → cond b (Some d) x ≡ None → (b ≡ false) × (x ≡ None)
guard true d x e = absurd cc
guard false d x e = (refl, e)

guard_else : (b : Bool) (d : NameFault) (x : Option NameFault) → cond b x (Some d) ≡ None → (b ≡ true) × (x ≡ None)
guard_else true d x e = (refl, e)
guard_else false d x e = absurd cc

first_ok : (d f : Bool) → (d && not f) ≡ false → d ≡ true → f ≡ true
first_ok true true e h = refl
first_ok true false e h = absurd cc
first_ok false f e h = absurd cc

first_no : (d f : Bool) → (d ≡ true → f ≡ true) → (d && not f) ≡ false
first_no true true h = refl
first_no true false h = let e = h refl in absurd cc
first_no false f h = refl

end_enough : (enough : Bool) → cond enough None (Some TooFewElements) ≡ None → enough ≡ true
end_enough true e = refl
end_enough false e = absurd cc

module _ (p : ℕ) (h d : Bool) where
  abbrev s : Style
  s = separated p h d

  mutual
    none_tail : (enough : Bool) (place : ℕ) (text : Text) → elements_fault s false enough place text ≡ None → Tail s p enough text
    none_tail enough place [] e = ([], [], tt, tt, (λ f. let t = end_enough enough e in absurd cc), refl)
    none_tail enough place (c ∷ cs) e =
        elim (chosen (eqb c p) (elements_fault s true true (place + 1) cs) (cond (is_element_byte s c) (elements_fault s false enough (place + 1) cs) (Some (BadByte place))) None e) [
          | inl g ↦
              let w = none_whole true (place + 1) cs g.1 in
              let text_is : c ∷ cs ≡ flat_map (led_by p) (w.0 ∷ w.1) = ap (λ (b : ℕ). b ∷ cs) (eqb-true c p g.0) ∙ ap (λ (y : Text). p ∷ y) w.5 ∙ sym (flat_map-cons (led_by p) w.0 w.1) in
              ([], w.0 ∷ w.1, tt, (w.2, w.3), (λ f. omega arith), text_is)
          | inr g ↦
              let b = guard_else (is_element_byte s c) (BadByte place) (elements_fault s false enough (place + 1) cs) g.1 in
              let w = none_tail enough (place + 1) cs b.1 in
              (c ∷ w.0, w.1, (b.0, w.2), w.3, w.4, ap (λ (y : Text). c ∷ y) w.5)
        ]

    none_whole : (enough : Bool) (place : ℕ) (text : Text) → elements_fault s true enough place text ≡ None → Whole s p enough text
    none_whole enough place [] e = absurd cc
    none_whole enough place (c ∷ cs) e =
        let a = guard (eqb c p) (BadByte place) (cond (is_element_byte s c) (cond (is_digit c && not d) (Some DigitFirst) (elements_fault s false enough (place + 1) cs)) (Some (BadByte place))) e in
        let b = guard_else (is_element_byte s c) (BadByte place) (cond (is_digit c && not d) (Some DigitFirst) (elements_fault s false enough (place + 1) cs)) a.1 in
        let g = guard (is_digit c && not d) DigitFirst (elements_fault s false enough (place + 1) cs) b.1 in
        let w = none_tail enough (place + 1) cs g.1 in
        (c ∷ w.0, w.1, (b.0, first_ok (is_digit c) d g.0, w.2), w.3, w.4, ap (λ (y : Text). c ∷ y) w.5)

  pub none_several : (place : ℕ) (text : Text) → elements_fault s true false place text ≡ None → AreElements s p 1 text
  none_several place text e =
      let w = none_whole false place text e in
      let some : 0 < length w.1 = w.4 refl in
      (w.0 ∷ w.1, omega arith, (w.2, w.3), w.5)

  pub none_elements : (place : ℕ) (text : Text) → elements_fault s true true place text ≡ None → AreElements s p 0 text
  none_elements place text e =
      let w = none_whole true place text e in
      (w.0 ∷ w.1, omega arith, (w.2, w.3), w.5)

-- ---- and back

module _ (p : ℕ) (h d : Bool) (apart : is_element_byte (separated p h d) p ≡ false) where
  abbrev t : Style
  t = separated p h d

  not_separator_at : (c : ℕ) (b : Bool) → eqb c p ≡ b → is_element_byte t c ≡ true → b ≡ false
  not_separator_at c true e g = let f : is_element_byte t p ≡ true = subst (λ (k : ℕ). is_element_byte t k ≡ true) (eqb-true c p e) g in absurd cc
  not_separator_at c false e g = refl

  not_separator : (c : ℕ) → is_element_byte t c ≡ true → eqb c p ≡ false
  not_separator c g = not_separator_at c (eqb c p) refl g

  run : (enough : Bool) (tail more : Text) → MoreBytes t tail → ((place : ℕ) → elements_fault t false enough place more ≡ None) → (place : ℕ) → elements_fault t false enough place (tail ++ more) ≡ None
  run enough [] more g k place = k place
  run enough (c ∷ tail) more g k place = rw (not_separator c g.0, g.0) (run enough tail more g.1 k (place + 1))

  begin_run : (enough : Bool) (first more : Text) → IsElement t first → ((place : ℕ) → elements_fault t false enough place more ≡ None) → (place : ℕ) → elements_fault t true enough place (first ++ more) ≡ None
  begin_run enough [] more g k place = absurd g
  begin_run enough (c ∷ cs) more g k place = rw (not_separator c g.0, g.0, first_no (is_digit c) d g.1) (run enough cs more g.2 k (place + 1))

  others_none : (enough : Bool) (others : List Text) → AllByRecursion (IsElement t) others → (enough ≡ false → 0 < length others) → (place : ℕ) → elements_fault t false enough place (flat_map (led_by p) others) ≡ None
  others_none true [] g some place = refl
  others_none false [] g some place = let e : 0 < 0 = some refl in absurd (omega arith)
  others_none enough (e ∷ es) g some place = ap (elements_fault t false enough place) (flat_map-cons (led_by p) e es) ∙ rw (eq-eqb p p refl) (begin_run true e (flat_map (led_by p) es) g.0 (others_none true es g.1 (λ f. absurd cc)) (place + 1))

  joined_none : (enough : Bool) (elements : List Text) → 0 < length elements → (enough ≡ false → 1 < length elements) → AllByRecursion (IsElement t) elements → (place : ℕ) → elements_fault t true enough place (joined p elements) ≡ None
  joined_none enough [] some two g place = absurd (omega arith)
  joined_none enough (first ∷ others) some two g place = begin_run enough first (flat_map (led_by p) others) g.0 (others_none enough others g.1 (λ f. let more : 1 < length (first ∷ others) = two f in omega arith)) place

  pub several_none : (place : ℕ) (text : Text) → AreElements t p 1 text → elements_fault t true false place text ≡ None
  several_none place text g = let two : 1 < length g.0 = g.1 in rw g.3 (joined_none false g.0 (omega arith) (λ f. two) g.2 place)

  pub elements_none : (place : ℕ) (text : Text) → AreElements t p 0 text → elements_fault t true true place text ≡ None
  elements_none place text g = rw g.3 (joined_none true g.0 g.1 (λ f. absurd cc) g.2 place)

-- ---- one element alone

module _ (h d : Bool) where
  abbrev lone : Style
  lone = record { separator = None; hyphen = h; digit_first = d }

  rest_none : (bytes : Text) → AllByRecursion (λ b. is_element_byte lone b ≡ true) bytes → (place : ℕ) → elements_fault lone false true place bytes ≡ None
  rest_none [] g place = refl
  rest_none (b ∷ bytes) g place = rw g.0 (rest_none bytes g.1 (place + 1))

  none_rest : (bytes : Text) (place : ℕ) → elements_fault lone false true place bytes ≡ None → AllByRecursion (λ b. is_element_byte lone b ≡ true) bytes
  none_rest [] place e = tt
  none_rest (b ∷ bytes) place e = let g = guard_else (is_element_byte lone b) (BadByte place) (elements_fault lone false true (place + 1) bytes) e in (g.0, none_rest bytes (place + 1) g.1)

  pub element_none : (text : Text) (place : ℕ) → IsElement lone text → elements_fault lone true true place text ≡ None
  element_none [] place g = absurd g
  element_none (b ∷ bytes) place g = rw (g.0, first_no (is_digit b) d g.1) (rest_none bytes g.2 (place + 1))

  pub none_element : (text : Text) (place : ℕ) → elements_fault lone true true place text ≡ None → IsElement lone text
  none_element [] place e = absurd cc
  none_element (b ∷ bytes) place e =
      let f = guard_else (is_element_byte lone b) (BadByte place) (cond (is_digit b && not d) (Some DigitFirst) (elements_fault lone false true (place + 1) bytes)) e in
      let g = guard (is_digit b && not d) DigitFirst (elements_fault lone false true (place + 1) bytes) f.1 in
      (f.0, first_ok (is_digit b) d g.0, none_rest bytes (place + 1) g.1)

-- ---- the size of a name

within : (n : ℕ) → nat_lt max_name_length n ≡ false → n ≤ max_name_length
within n e = grind (arith, common_steps, nat_tests)

not_above : (n : ℕ) → n ≤ max_name_length → nat_lt max_name_length n ≡ false
not_above n e = grind (arith, common_steps, nat_tests)

pub sized_none : (fault : Text → Option NameFault) (text : Text) → sized_fault fault text ≡ None → (length text ≤ max_name_length) × (fault text ≡ None)
sized_none fault [] e = absurd cc
sized_none fault (b ∷ bytes) e = let g = guard (nat_lt max_name_length (length (b ∷ bytes))) TooLong (fault (b ∷ bytes)) e in (within (length (b ∷ bytes)) g.0, g.1)

pub none_sized : (fault : Text → Option NameFault) (text : Text) → length text ≤ max_name_length → (fault [] ≡ None → ⊥) → fault text ≡ None → sized_fault fault text ≡ None
none_sized fault [] fits some e = absurd (some e)
none_sized fault (b ∷ bytes) fits some e = rw (not_above (length (b ∷ bytes)) fits) e

-- ---- each kind of name

pub interface_none : (text : Text) → IsInterface text → interface_fault text ≡ None
interface_none text g = none_sized (elements_fault interface_style true false 0) text g.0 (λ e. absurd cc) (several_none dot false false refl 0 text g.1)

pub none_interface : (text : Text) → interface_fault text ≡ None → IsInterface text
none_interface text e = let g = sized_none (elements_fault interface_style true false 0) text e in (g.0, none_several dot false false 0 text g.1)

pub well_known_none : (text : Text) → IsWellKnownName text → well_known_fault text ≡ None
well_known_none text g = none_sized (elements_fault well_known_style true false 0) text g.0 (λ e. absurd cc) (several_none dot true false refl 0 text g.1)

pub none_well_known : (text : Text) → well_known_fault text ≡ None → IsWellKnownName text
none_well_known text e = let g = sized_none (elements_fault well_known_style true false 0) text e in (g.0, none_several dot true false 0 text g.1)

pub namespace_none : (text : Text) → IsNamespace text → namespace_fault text ≡ None
namespace_none text g = none_sized (elements_fault well_known_style true true 0) text g.0 (λ e. absurd cc) (elements_none dot true false refl 0 text g.1)

pub none_namespace : (text : Text) → namespace_fault text ≡ None → IsNamespace text
none_namespace text e = let g = sized_none (elements_fault well_known_style true true 0) text e in (g.0, none_elements dot true false 0 text g.1)

pub member_none : (text : Text) → IsMember text → member_fault text ≡ None
member_none text g = none_sized (elements_fault member_style true true 0) text g.0 (λ e. absurd cc) (element_none false false text 0 g.1)

pub none_member : (text : Text) → member_fault text ≡ None → IsMember text
none_member text e = let g = sized_none (elements_fault member_style true true 0) text e in (g.0, none_element false false text 0 g.1)

after_colon_none : (text rest : Text) → text ≡ colon ∷ rest → AreElements unique_style dot 1 rest → after_colon text ≡ None
after_colon_none text rest e g = rw e (several_none dot true true refl 1 rest g)

none_after_colon : (text : Text) → after_colon text ≡ None → (rest : Text) × (text ≡ colon ∷ rest) × AreElements unique_style dot 1 rest
none_after_colon [] e = absurd cc
none_after_colon (b ∷ bytes) e = let g = guard_else (eqb b colon) (BadByte 0) (elements_fault unique_style true false 1 bytes) e in (bytes, ap (λ (c : ℕ). c ∷ bytes) (eqb-true b colon g.0), none_several dot true true 1 bytes g.1)

pub unique_name_none : (text : Text) → IsUniqueName text → unique_name_fault text ≡ None
unique_name_none text g = none_sized after_colon text g.0 (λ e. absurd cc) (after_colon_none text g.1.0 g.1.1 g.1.2)

pub none_unique_name : (text : Text) → unique_name_fault text ≡ None → IsUniqueName text
none_unique_name text e = let g = sized_none after_colon text e in (g.0, none_after_colon text g.1)

after_slash_none : (rest : Text) → (rest ≡ []) ⊎ AreElements path_style slash 0 rest → after_slash rest ≡ None
after_slash_none [] g = refl
after_slash_none (b ∷ bytes) g = elim g [
  | inl e ↦ absurd cc
  | inr h ↦ elements_none slash false true refl 1 (b ∷ bytes) h
]

none_after_slash : (rest : Text) → after_slash rest ≡ None → (rest ≡ []) ⊎ AreElements path_style slash 0 rest
none_after_slash [] e = inl refl
none_after_slash (b ∷ bytes) e = inr (none_elements slash false true 1 (b ∷ bytes) e)

pub object_path_none : (text : Text) → IsObjectPath text → object_path_fault text ≡ None
object_path_none text g = rw g.1 (after_slash_none g.0 g.2)

pub none_object_path : (text : Text) → object_path_fault text ≡ None → IsObjectPath text
none_object_path [] e = absurd cc
none_object_path (b ∷ bytes) e = let g = guard_else (eqb b slash) (BadByte 0) (after_slash bytes) e in (bytes, ap (λ (c : ℕ). c ∷ bytes) (eqb-true b slash g.0), none_after_slash bytes g.1)

-- nothing is missing and something is
pub none_some : {A : Type 0} (o : Option NameFault) (d : NameFault) → o ≡ None → o ≡ Some d → A
none_some o d e f = absurd cc

-- what is found where nothing is missing alone is found where there is no fault
pub ok_where : {A P : Type 0} (due : Option NameFault) → (due ≡ None → P) → (P → due ≡ None) → (r : Result A NameFault) → MatchResult r (λ _. due ≡ None) (λ fault. due ≡ Some fault) → (IsOk r → P) × (P → IsOk r)
ok_where due is none (Ok x) h = (λ ok. is h, λ p. refl)
ok_where due is none (Err fault) h = (λ ok. absurd cc, λ p. none_some due fault (none p) h)

pub is_unique_name : (text : Text) → length text ≤ max_name_length → 0 < length text → get_or text 0 0 ≡ colon → elements_fault unique_style true false 1 (drop 1 text) ≡ None → IsUniqueName text
is_unique_name [] fits some first e = absurd (omega arith)
is_unique_name (b ∷ bytes) fits some first e = (fits, (bytes, ap (λ (c : ℕ). c ∷ bytes) first, none_several dot true true 1 bytes e))

pub elements_of_unique_name : (text : Text) → IsUniqueName text → elements_fault unique_style true false 1 (drop 1 text) ≡ None
elements_of_unique_name text g = rw g.1.1 (several_none dot true true refl 1 g.1.0 g.1.2)

pub path_of_elements : (text : Text) → 0 < length text → get_or text 0 0 ≡ slash → elements_fault path_style true true 1 (drop 1 text) ≡ None → IsObjectPath text
path_of_elements [] some first e = absurd (omega arith)
path_of_elements (b ∷ bytes) some first e = (bytes, ap (λ (c : ℕ). c ∷ bytes) first, inr (none_elements slash false true 1 bytes e))

elements_behind : (rest : Text) → (length (slash ∷ rest) ≡ 1 → ⊥) → (rest ≡ []) ⊎ AreElements path_style slash 0 rest → elements_fault path_style true true 1 rest ≡ None
elements_behind [] more g = absurd (more refl)
elements_behind (b ∷ bytes) more g = elim g [
  | inl e ↦ absurd cc
  | inr h ↦ elements_none slash false true refl 1 (b ∷ bytes) h
]

pub elements_of_path : (text : Text) → (length text ≡ 1 → ⊥) → IsObjectPath text → elements_fault path_style true true 1 (drop 1 text) ≡ None
elements_of_path text more g =
    let longer : length (slash ∷ g.0) ≡ 1 → ⊥ = λ e. more (ap length g.1 ∙ e) in
    rw g.1 (elements_behind g.0 longer g.2)

-- ---- the names that the bus gives to connections

digit_is : (s : Style) (b : ℕ) → is_digit b ≡ true → is_element_byte s b ≡ true
digit_is s b e = second (is_letter b) (is_digit b) (eqb b underscore) (s.hyphen && eqb b hyphen_byte) e
  where
    second : (w x y z : Bool) → x ≡ true → (w || x || y || z) ≡ true
    second true x y z e = refl
    second false true y z e = refl
    second false false y z e = absurd cc

glyph_is : (n : ℕ) → n < 10 → is_digit (48 + n) ≡ true
glyph_is n e = grind (arith, common_steps, nat_tests)

more_digits : (ds : Text) (n : ℕ) → n < 10 → IsElement unique_style ds → IsElement unique_style (ds ++ ((48 + n) ∷ []))
more_digits [] n e g = absurd g
more_digits (b ∷ bytes) n e g = (g.0, g.1, more bytes g.2)
  where
    more : (bytes : Text) → AllByRecursion (λ c. is_element_byte unique_style c ≡ true) bytes → AllByRecursion (λ c. is_element_byte unique_style c ≡ true) (bytes ++ ((48 + n) ∷ []))
    more [] h = (digit_is unique_style (48 + n) (glyph_is n e), tt)
    more (c ∷ cs) h = (h.0, more cs h.1)

decimal_element : (n : ℕ) → n < 2 ^ 64 → IsElement unique_style (decimal n)
decimal_element n e =
    decimal_by_steps (λ k ds. IsElement unique_style ds)
    (λ k h. (digit_is unique_style (48 + k) (glyph_is k h), (λ f. refl), tt))
    (λ k ds h g. more_digits ds (k % 10) (omega arith) g)
    n e

pub unique_text_name : (n : ℕ) → n < 2 ^ 64 → IsUniqueName (unique_text n)
unique_text_name n e =
    let short : length (decimal n) ≤ 20 = length-decimal-le 20 n (lit< tt) (omega arith) e in
    (omega arith, (49 ∷ 46 ∷ decimal n, refl, ((49 ∷ []) ∷ decimal n ∷ [], omega arith, ((refl, (λ f. refl), tt), (decimal_element n e, tt)), ap (λ (y : Text). 49 ∷ 46 ∷ y) (sym (append-nil (decimal n))))))

pub unique_text_injective : (m n : ℕ) → m < 2 ^ 64 → n < 2 ^ 64 → unique_text m ≡ unique_text n → m ≡ n
unique_text_injective m n e f h = decimal_injective m n e f (cc)

pub short_bus_name : (text : Text) → IsBusName text → length text ≤ max_name_length
short_bus_name text (inl is) = is.0
short_bus_name text (inr is) = is.0
