use Rattle.std.proofs.Common.{◌≡◌, sym, ap, ◌∙◌, ◌++◌, List, ℕ, length, [], ◌∷◌}
use Rattle.marshal_core.specs.Spelling.{pads}
use Rattle.marshal_core.proofs.Results.{eqb-yes}
use Rattle.message_core.proofs.Announced.{not_zero}
use Rattle.message_core.proofs.Putting.{no_signature, one_signature}
use Rattle.message_core.proofs.in_room.put_signature.Goals as goal

pub returns-then-is_empty-clause-put : goal.returns-then-is_empty-clause-put
returns-then-is_empty-clause-put c = λ order types sent e valid h.
    no_signature order types sent c.args.signature.now c.args.fields.now.items (eqb-yes (length c.args.signature.now) 0 (sym c.is_empty.ensures ∙ c.if-is_empty.true)) e valid h

pub returns-clause-put : goal.returns-clause-put
returns-clause-put c = λ order types sent e valid h.
    let text : List ℕ = c.args.signature.now in
    let old : List ℕ = c.args.fields.now.items in
    let start : List ℕ = 8 ∷ 1 ∷ 103 ∷ 0 ∷ [] in
    let put : c.put-3.new.output.items ≡ (((old ++ (pads 8 (length old) ++ start)) ++ length text ∷ []) ++ text) ++ 0 ∷ [] =
    c.put-3.ensures.items ∙ ap (λ (x : List ℕ). x ++ 0 ∷ []) (c.put-2.ensures.items ∙ ap (λ (x : List ℕ). x ++ text) (c.put.ensures.items
    ∙ ap (λ (x : List ℕ). x ++ length text ∷ []) (c.put_start.ensures.items ∙ ap (λ (n : ℕ). old ++ (pads 8 n ++ start)) (c.len-at.ensures ∙ c.args.fields.now.ok.0)))) in
    one_signature order types sent text old c.put-3.new.output.items (not_zero (length text) (sym c.is_empty.ensures ∙ c.if-is_empty.false)) e valid h put
