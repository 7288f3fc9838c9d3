-- The bodies of replies to queries, in bytes.
use Rattle.std.specs.Prelude.{◌≡◌, ℕ, Some, Result, Ok, Err, List, [], ◌∷◌}
use Rattle.names.specs.Texts.{Text as Name}
use Rattle.marshal_core.specs.declared.fault.MarshalFault.{MarshalFault}
use Rattle.marshal_core.specs.declared.order.Order.TheVariants.{Little}
use Rattle.marshal_core.specs.Reading.{decode_at}
use Rattle.marshal_core.specs.Values.{a_basic, a_boolean, a_string, an_array, Vals, no_values, more_values}
use Rattle.seq_bus_core.specs.Answers.{Answer, OneName, HasOwner, NameList, answer}
use Rattle.seq_bus_core.specs.BusState.{BusState}
use Rattle.seq_bus_core.specs.declared.query.Query.{Query}
use Rattle.bus_view.specs.Bodies.{IsBody}
use Rattle.driver.specs.OwnMessages.{types_for}
use Rattle.driver.specs.declared.reply.BodyKind.{BodyKind}
use Rattle.driver.specs.declared.reply.BodyKind.TheVariants as of_kind

-- The query is answered so in some state of the bus, and the bytes are the body of that answer.
pub record IsAnswerTo (query : Query) (bytes : List ℕ) (told : Answer) : Type 0 where
  pub state : BusState
  pub told_so : answer state query ≡ Some told
  pub is_body : IsBody told bytes

-- ## As a body is held

pub record SpelledAnswer : Type 0 where
  pub kind : BodyKind
  pub bytes : List ℕ

abbrev pub kind_of : Answer → BodyKind
kind_of (OneName name) = of_kind.String
kind_of (HasOwner owned) = of_kind.Boolean
kind_of (NameList names) = of_kind.Strings

-- the bytes spell the answer, in little-endian order as from offset 0 on
pub record Carries (body : SpelledAnswer) (answer : Answer) : Type 0 where
  pub kind : body.kind ≡ kind_of answer
  pub spelled : IsBody answer body.bytes

-- ## The answer that a body carries, as a function of it

abbrev pub names_in : Vals → List Name
names_in no_values = []
names_in (more_values (a_basic (a_string name)) vs) = name ∷ names_in vs
names_in (more_values v vs) = names_in vs

abbrev pub answer_in : Vals → Answer
answer_in (more_values (a_basic (a_string name)) vs) = OneName name
answer_in (more_values (a_basic (a_boolean owned)) vs) = HasOwner owned
answer_in (more_values (an_array t names) vs) = NameList (names_in names)
answer_in vs = NameList []

abbrev pub answer_read : Result (Vals × ℕ) MarshalFault → Answer
answer_read (Ok read) = answer_in read.0
answer_read (Err fault) = NameList []

abbrev pub answer_of : SpelledAnswer → Answer
answer_of held = answer_read (decode_at Little (types_for held.kind) 0 held.bytes)
