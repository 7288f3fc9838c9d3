-- The arguments of calls, by the types that they have.
use Rattle.std.specs.Prelude.{ℕ, ◌+◌, Option, Some, None, option_to_list, List, [], ◌++◌}
use Rattle.names.specs.Texts.{Text}
use Rattle.marshal_core.specs.declared.data_type.BasicType.TheVariants.{String}
use Rattle.marshal_core.specs.Types.{basic}
use Rattle.marshal_core.specs.Values.{a_string, a_uint32, Val, a_basic, an_array, Vals, no_values, more_values}

abbrev pub text_of : Val → Option Text
text_of (a_basic (a_string text)) = Some text
text_of value = None

abbrev pub number_of : Val → Option ℕ
number_of (a_basic (a_uint32 n)) = Some n
number_of value = None

-- the elements of an array of strings
abbrev pub elements_of : Val → Option Vals
elements_of (an_array (basic String) elements) = Some elements
elements_of value = None

-- the one argument, where it is a string
abbrev pub only_text : Vals → Option Text
only_text (more_values value no_values) = text_of value
only_text arguments = None

abbrev pub both : {A B : Type 0} → Option A → Option B → Option (A × B)
both (Some a) (Some b) = Some (a, b)
both (Some a) None = None
both None b = None

-- a string and a number
abbrev pub text_and_number : Vals → Option (Text × ℕ)
text_and_number (more_values text (more_values number no_values)) = both (text_of text) (number_of number)
text_and_number arguments = None

-- an array of strings and a number
abbrev pub elements_and_number : Vals → Option (Vals × ℕ)
elements_and_number (more_values elements (more_values number no_values)) = both (elements_of elements) (number_of number)
elements_and_number arguments = None

-- how many values there are
abbrev pub count_of : Vals → ℕ
count_of no_values = 0
count_of (more_values value values) = 1 + count_of values

-- the texts among values
abbrev pub texts_of : Vals → List Text
texts_of no_values = []
texts_of (more_values value values) = option_to_list (text_of value) ++ texts_of values
