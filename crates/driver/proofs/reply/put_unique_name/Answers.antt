use Rattle.std.proofs.Common.{◌≡◌, refl, ap, ◌∙◌, List, ℕ, [], ◌∷◌, ◌++◌, length}
use Rattle.names.specs.UniqueName.{unique_text}
use Rattle.marshal_core.specs.declared.order.Order.TheVariants.{Little}
use Rattle.marshal_core.specs.Spelling.{text_spelling}
use Rattle.driver.specs.OwnMessages.{string_types, string_values}
use Rattle.driver.proofs.Written.{one_spelled}
use Rattle.driver.proofs.reply.put_unique_name.Goals as goal

pub returns-clause-ok : goal.returns-clause-ok
returns-clause-ok c =
    let text : List ℕ = unique_text c.args.number in
    let spelled : c.as_slice.result.now ≡ text_spelling Little 0 text =
    c.as_slice.ensures.value ∙ c.put_owner.ensures.put ∙ ap (λ (l : List ℕ). l ++ text_spelling Little (length l) text) c.new-text.ensures in
    c.put_reply.ensures.ok (string_types (text ∷ [])) (string_values (text ∷ [])) refl (one_spelled text c.as_slice.result.now c.put_owner.ensures.string spelled)
