-- Arguments of other numbers than a method takes.
use Rattle.std.proofs.Common.{◌≡◌, List, [], ◌∷◌, length, ◌==◌, true, false, None, refl}
use Rattle.marshal_core.specs.declared.value.Value.{Value}
use Rattle.marshal_core.specs.Values.{values_of}
use Rattle.driver.specs.Arguments.{text_and_number, elements_and_number}

not_both : true ≡ false → ⊥
not_both e = cc

pub no_text_and_number_of_more : (first second : Value) (others : List Value) → (length others == 0) ≡ false → None ≡ text_and_number (values_of (first ∷ second ∷ others))
no_text_and_number_of_more first second [] h = absurd (not_both h)
no_text_and_number_of_more first second (x ∷ xs) h = refl

pub no_elements_and_number_of_more : (first second : Value) (others : List Value) → (length others == 0) ≡ false → None ≡ elements_and_number (values_of (first ∷ second ∷ others))
no_elements_and_number_of_more first second [] h = absurd (not_both h)
no_elements_and_number_of_more first second (x ∷ xs) h = refl
