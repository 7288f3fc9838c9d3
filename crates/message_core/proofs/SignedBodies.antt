-- A body under the order and the signature that were read.
use Rattle.std.proofs.Common.{◌≡◌, ℕ, Result, List, sym, ap, subst, ◌∙◌}
use Rattle.marshal_core.specs.declared.fault.MarshalFault.{MarshalFault}
use Rattle.marshal_core.specs.declared.order.Order.{Order}
use Rattle.marshal_core.specs.Types.{Tys}
use Rattle.marshal_core.specs.Values.{Vals}
use Rattle.marshal_core.specs.Signatures.{codes, signature_of, IsSignature}
use Rattle.marshal_core.specs.Spelling.{Spells}
use Rattle.marshal_core.proofs.TypesAgain.{signature_again}
use Rattle.marshal_check.specs.SignatureTexts.{types_in, types_or_none}

-- the types of a signature's text
types_are : (text : List ℕ) (types : Tys) → text ≡ codes types → IsSignature types → types_in text ≡ types
types_are text types e h = ap (λ (r : Result Tys MarshalFault). types_or_none r) (ap signature_of e ∙ signature_again types h)

pub spelled_there : (order read : Order) (text body : List ℕ) (types : Tys) (vs : Vals) → read ≡ order → text ≡ codes types → Spells order 0 types vs body → Spells read 0 (types_in text) vs body
spelled_there order read text body types vs o e h =
    subst (λ (o : Order). Spells o 0 (types_in text) vs body) (sym o) (subst (λ (ts : Tys). Spells order 0 ts vs body) (sym (types_are text types e h.0)) h)
