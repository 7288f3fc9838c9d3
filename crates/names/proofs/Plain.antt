-- Names are ASCII without zero bytes.
use Rattle.std.proofs.Common.{◌≡◌, ℕ, ◌<◌, ◌==◌, true, false, List, [], ◌∷◌, ◌++◌, refl, sym, subst, arith, inl, inr}
use Rattle.std.specs.List.{flat_map, AllByRecursion}
use Rattle.std.specs.Str.{IsAscii}
use Rattle.std.proofs.lemmas.Bool.{ne_eqb}
use Rattle.std.proofs.lemmas.Bool.Decides.{nat_tests}
use Rattle.std.proofs.lemmas.Str.Ascii.{IsAscii-nil, IsAscii-cons}
use Rattle.names.specs.Texts.{Text, has_zero, IsPlain}
use Rattle.names.specs.Elements.{Style, dot, slash, is_element_byte, IsElement, joined, led_by, AreElements, IsShortAndPlain}
use Rattle.names.specs.UniqueName.{unique_style}
use Rattle.names.specs.WellKnown.{well_known_style, IsNamespace}
use Rattle.names.specs.Interface.{interface_style, IsInterface}
use Rattle.names.specs.Member.{member_style, IsMember}
use Rattle.names.specs.BusName.{IsBusName}
use Rattle.names.specs.ObjectPath.{path_style, IsObjectPath}

abbrev IsPlainByte : ℕ → Type 0
IsPlainByte b = (0 < b) × (b < 128)

abbrev ArePlain : Text → Type 0
ArePlain text = AllByRecursion IsPlainByte text

plain : (text : Text) → ArePlain text → IsPlain text
plain text h = (ascii text h, no_zero text h)
  where
    ascii : (text : Text) → ArePlain text → IsAscii text
    ascii [] h = IsAscii-nil
    ascii (b ∷ text) h = IsAscii-cons b text h.0.1 (ascii text h.1)

    not_zero : (b : ℕ) → 0 < b → (b == 0) ≡ false
    not_zero b h = ne_eqb b 0 (λ e. omega (arith, e, h))

    no_zero : (text : Text) → ArePlain text → has_zero text ≡ false
    no_zero [] h = refl
    no_zero (b ∷ text) h = rw (not_zero b h.0.0) (no_zero text h.1)

element_byte : (style : Style) (b : ℕ) → is_element_byte style b ≡ true → IsPlainByte b
element_byte style b h = (grind (arith, nat_tests), grind (arith, nat_tests))

bytes : (style : Style) (text : Text) → AllByRecursion (λ c. is_element_byte style c ≡ true) text → ArePlain text
bytes style [] h = tt
bytes style (b ∷ text) h = (element_byte style b h.0, bytes style text h.1)

element : (style : Style) (text : Text) → IsElement style text → ArePlain text
element style [] h = absurd h
element style (b ∷ text) h = (element_byte style b h.0, bytes style text h.2)

append : (a b : Text) → ArePlain a → ArePlain b → ArePlain (a ++ b)
append [] b ha hb = hb
append (x ∷ a) b ha hb = (ha.0, append a b ha.1 hb)

led : (style : Style) (separator : ℕ) (elements : List Text) → IsPlainByte separator → AllByRecursion (IsElement style) elements → ArePlain (flat_map (led_by separator) elements)
led style separator [] low h = tt
led style separator (first ∷ elements) low h = (low, append first (flat_map (led_by separator) elements) (element style first h.0) (led style separator elements low h.1))

elements : (style : Style) (separator fewer : ℕ) (text : Text) → IsPlainByte separator → AreElements style separator fewer text → ArePlain text
elements style separator fewer text low h = subst (λ t. ArePlain t) (sym h.3) (by h.0 h.2)
  where
    by : (all : List Text) → AllByRecursion (IsElement style) all → ArePlain (joined separator all)
    by [] each = tt
    by (first ∷ others) each = append first (flat_map (led_by separator) others) (element style first each.0) (led style separator others low each.1)

dot_plain : IsPlainByte dot
dot_plain = (omega arith, omega arith)

slash_plain : IsPlainByte slash
slash_plain = (omega arith, omega arith)

pub bus_name_plain : (text : Text) → IsBusName text → IsShortAndPlain text
bus_name_plain text (inl h) = (h.0, plain text (subst (λ t. ArePlain t) (sym h.1.1) ((omega arith, omega arith), elements unique_style dot 1 h.1.0 dot_plain h.1.2)))
bus_name_plain text (inr h) = (h.0, plain text (elements well_known_style dot 1 text dot_plain h.1))

pub namespace_plain : (text : Text) → IsNamespace text → IsShortAndPlain text
namespace_plain text h = (h.0, plain text (elements well_known_style dot 0 text dot_plain h.1))

pub interface_plain : (text : Text) → IsInterface text → IsShortAndPlain text
interface_plain text h = (h.0, plain text (elements interface_style dot 1 text dot_plain h.1))

pub member_plain : (text : Text) → IsMember text → IsShortAndPlain text
member_plain text h = (h.0, plain text (element member_style text h.1))

pub object_path_plain : (text : Text) → IsObjectPath text → IsPlain text
object_path_plain text h =
    plain text (subst (λ t. ArePlain t) (sym h.1) (slash_plain, elim h.2 [ inl none ↦ subst (λ t. ArePlain t) (sym none) tt | inr some ↦ elements path_style slash 0 h.0 slash_plain some ]))
