-- The body that a bus appended is that of an answer, which is read from it again.
use Rattle.std.proofs.Common.{◌≡◌, ℕ, List, [], ◌∷◌, Option, Some, None, Ok, refl, sym, ap, ◌∙◌, subst, length}
use Rattle.std.specs.Prelude.{map}
use mathlib.Core.List.{append-nil}
use Rattle.names.specs.Texts.{Text as Name}
use Rattle.marshal_core.specs.declared.order.Order.TheVariants.{Little}
use Rattle.marshal_core.specs.Reading.{decode_at}
use Rattle.marshal_core.specs.Types.{one_type}
use Rattle.marshal_core.specs.Values.{a_basic, a_string, values}
use Rattle.marshal.proofs.Decoded.{is_read}
use Rattle.seq_bus_core.specs.Answers.{Answer, OneName, HasOwner, NameList, answer}
use Rattle.seq_bus_core.specs.BusState.{BusState}
use Rattle.seq_bus_core.specs.declared.query.Query.{Query}
use Rattle.bus_view.specs.Bodies.{Answers, IsBody, answer_type, answer_value}
use Rattle.bus_view.specs.declared.answer.Asked.TheVariants.{Body}
use Rattle.driver.specs.declared.reply.BodyKind.{BodyKind}
use Rattle.driver.specs.OwnMessages.{types_for}
use Rattle.outbox_core.specs.Answers.{IsAnswerTo, SpelledAnswer, Carries, kind_of, names_in, answer_in, answer_read, answer_of}

pub same_types : (told : Answer) → types_for (kind_of told) ≡ one_type (answer_type told)
same_types (OneName name) = refl
same_types (HasOwner owned) = refl
same_types (NameList names) = refl

same_names : (names : List Name) → names_in (values (map (λ name. a_basic (a_string name)) names)) ≡ names
same_names [] = refl
same_names (name ∷ names) = ap (λ others. name ∷ others) (same_names names)

in_again : (told : Answer) → answer_in (values (answer_value told ∷ [])) ≡ told
in_again (OneName name) = refl
in_again (HasOwner owned) = refl
in_again (NameList names) = ap NameList (same_names names)

pub carried_again : (body : SpelledAnswer) (told : Answer) → Carries body told → answer_of body ≡ told
carried_again body told carries =
    let types = ap types_for carries.kind ∙ same_types told in
    let read : decode_at Little (one_type (answer_type told)) 0 body.bytes ≡ Ok (values (answer_value told ∷ []), length body.bytes) =
    is_read Little (one_type (answer_type told)) 0 body.bytes body.bytes [] (values (answer_value told ∷ [])) (sym (append-nil body.bytes)) carries.spelled in
    ap (λ ts. answer_read (decode_at Little ts 0 body.bytes)) types ∙ ap answer_read read ∙ in_again told

-- what a body carries is what is read from it
pub carries_read : (body : SpelledAnswer) (told : Answer) → Carries body told → Carries body (answer_of body)
carries_read body told carries = subst (Carries body) (sym (carried_again body told carries)) carries

-- the bytes of the answer to a query carry it, as what this kind says
pub carried_by : (query : Query) (bytes : List ℕ) (told : Answer) → IsAnswerTo query bytes told → (kind : BodyKind) → kind ≡ kind_of told →
    Carries (record { kind = kind; bytes = bytes }) told
carried_by query bytes told answers kind is = record { kind = is; spelled = answers.is_body }

-- what was appended for a query is the body of its answer
pub appended : (state : BusState) (query : Query) (bytes : List ℕ) → Answers Body (answer state query) [] bytes →
    (told : Answer) × IsAnswerTo query bytes told
appended state query bytes put = by_answer (answer state query) refl put
  where
    by_answer : (o : Option Answer) → answer state query ≡ o → Answers Body o [] bytes → (told : Answer) × IsAnswerTo query bytes told
    by_answer None same body = absurd body
    by_answer (Some told) same body = (told, record { state = state; told_so = same; is_body = subst (IsBody told) (sym body.2) body.1 })
