-- What is seen of an answer that is one string.
use Rattle.std.proofs.Common.{◌≡◌, ℕ, List, [], ◌∷◌, ◌++◌, true, Result, Ok, refl, sym, ap, subst, is_ok}
use mathlib.Core.List.{append-nil}
use Rattle.marshal_core.specs.declared.data_type.BasicType.TheVariants as of_type
use Rattle.marshal_core.specs.declared.fault.MarshalFault.{MarshalFault}
use Rattle.marshal_core.specs.declared.order.Order.TheVariants.{Little}
use Rattle.marshal_core.specs.Signatures.{signature_of}
use Rattle.marshal_core.specs.Spelling.{Spells}
use Rattle.marshal_core.specs.Types.{Tys, basic, one_type}
use Rattle.marshal_core.specs.Values.{Vals, values}
use Rattle.marshal_core.proofs.TypesAgain.{signature_again}
use Rattle.marshal_check.specs.Arguments.{BodyArgument, argument_of, arguments}
use Rattle.message.specs.FactsOf.{as_argument}
use Rattle.marshal_check.specs.SignatureTexts.{types_in, types_or_none, is_signature_text}
use Rattle.seq_bus_core.specs.Answers.{Answer, OneName, HasOwner, NameList}
use Rattle.bus_view.specs.Bodies.{IsBody, answer_value}
use Rattle.driver.specs.declared.reply.BodyKind.TheVariants as of_kind
use Rattle.outbox_core.specs.Answers.{kind_of}

abbrev one_string : Tys
one_string = one_type (basic of_type.String)

same_text : signature_of (115 ∷ []) ≡ Ok one_string
same_text = signature_again one_string refl

pub is_text : is_signature_text (115 ∷ []) ≡ true
is_text = ap (λ (r : Result Tys MarshalFault). is_ok r) same_text

-- what is left of the arguments of a body with this answer
pub left_of : (told : Answer) (bytes : List ℕ) (left : List BodyArgument) → kind_of told ≡ of_kind.String → IsBody told bytes →
    ((vs : Vals) (front rest : List ℕ) → bytes ≡ front ++ rest → Spells Little 0 (types_in (115 ∷ [])) vs front → left ≡ arguments vs) →
    left ≡ argument_of (answer_value told) ∷ []
left_of (OneName name) bytes left kind body all =
    let types : types_in (115 ∷ []) ≡ one_string = ap (λ (r : Result Tys MarshalFault). types_or_none r) same_text in
    let spelled : Spells Little 0 (types_in (115 ∷ [])) (values (answer_value (OneName name) ∷ [])) bytes =
    subst (λ (ts : Tys). Spells Little 0 ts (values (answer_value (OneName name) ∷ [])) bytes) (sym types) body in
    all (values (answer_value (OneName name) ∷ [])) bytes [] (sym (append-nil bytes)) spelled
left_of (HasOwner owned) bytes left kind body all = cc
left_of (NameList names) bytes left kind body all = cc

-- the first of one
pub first_left : (left rest : List BodyArgument) (one other : BodyArgument) → left ≡ one ∷ [] → left ≡ other ∷ rest → as_argument other ≡ as_argument one
first_left left rest one other is was = let same : other ≡ one = cc in ap as_argument same
