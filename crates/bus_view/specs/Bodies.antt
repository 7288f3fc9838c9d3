-- The body of the reply to a query. (D-Bus Specification: "Message Bus Messages", "Marshaling (Wire Format)")
use Rattle.std.specs.Prelude.{◌≡◌, ℕ, ◌+◌, Option, Some, None, List, [], ◌∷◌, ◌++◌, map, length, IsUtf8}
use Rattle.std.specs.List.{AllByRecursion}
use Rattle.names.specs.Texts.{Text}
use Rattle.names.specs.BusName.{IsBusName}
use Rattle.marshal_core.specs.declared.data_type.BasicType.TheVariants.{Boolean, String}
use Rattle.marshal_core.specs.declared.order.Order.TheVariants.{Little}
use Rattle.marshal_core.specs.Types.{Ty, basic, array, one_type}
use Rattle.marshal_core.specs.Values.{Val, a_basic, a_boolean, a_string, an_array, values}
use Rattle.marshal_core.specs.Spelling.{Spells, text_spelling}
use Rattle.seq_bus_core.specs.Answers.{Answer, OneName, HasOwner, NameList}
use Rattle.bus_view.specs.declared.answer.Asked.{Asked}
use Rattle.bus_view.specs.declared.answer.Asked.TheVariants.{Body, NameHasNoOwner}

abbrev pub answer_type : Answer → Ty
answer_type (OneName name) = basic String
answer_type (HasOwner owned) = basic Boolean
answer_type (NameList names) = array (basic String)

abbrev pub answer_value : Answer → Val
answer_value (OneName name) = a_basic (a_string name)
answer_value (HasOwner owned) = a_basic (a_boolean owned)
answer_value (NameList names) = an_array (basic String) (values (map (λ name. a_basic (a_string name)) names))

-- the strings of an array, one after the other, where they begin at this place
abbrev pub strings_from : ℕ → List Text → List ℕ
strings_from at [] = []
strings_from at (text ∷ texts) = text_spelling Little at text ++ strings_from (at + length (text_spelling Little at text)) texts

-- The bytes are these names as strings, behind the length of an array.
abbrev pub AreStrings : List Text → List ℕ → Type 0
AreStrings texts bytes = (bytes ≡ strings_from 4 texts) × AllByRecursion (λ text. IsBusName text × IsUtf8 text) texts

-- a list of bytes is another followed by something, perhaps by nothing
abbrev pub HasGrown : List ℕ → List ℕ → Type 0
HasGrown before now = (rest : List ℕ) × (now ≡ before ++ rest)

-- Behind what stood before begins an array of these names as strings, with room for its length.
abbrev pub AreListed : List ℕ → List Text → List ℕ → Type 0
AreListed before names now = (strings : List ℕ) × AreStrings names strings × (now ≡ before ++ 0 ∷ 0 ∷ 0 ∷ 0 ∷ strings)

-- The bytes spell the answer, in little-endian order, as a body does: from offset 0 on.
abbrev pub IsBody : Answer → List ℕ → Type 0
IsBody answer bytes = Spells Little 0 (one_type (answer_type answer)) (values (answer_value answer ∷ [])) bytes

-- What a query is told, and what it appends: the body of its answer; nothing where there is none.
abbrev pub Answers : Asked → Option Answer → List ℕ → List ℕ → Type 0
Answers Body (Some answer) before after = (body : List ℕ) × IsBody answer body × (after ≡ before ++ body)
Answers Body None before after = ⊥
Answers NameHasNoOwner (Some answer) before after = ⊥
Answers NameHasNoOwner None before after = after ≡ before
