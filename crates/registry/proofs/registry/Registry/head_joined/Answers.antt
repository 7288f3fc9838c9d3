use Rattle.std.proofs.Common.{◌≡◌, ℕ, Bool, Some, None, Option, refl, sym, ap, ◌∙◌, if◌then◌else◌}
use Rattle.names.specs.Texts.{text_eq}
use Rattle.names.specs.UniqueName.{unique_text}
use Rattle.registry_core.specs.ConnectionTables.{newcomer}
use Rattle.registry.proofs.HeadLemmas.{head_joined, head_or}
use Rattle.registry.proofs.registry.Registry.head_joined.Goals as goal

pub returns-in-Some : goal.returns-in-Some
returns-in-Some c privileged =
    let conn = c.args.conn in
    let own : Option ℕ = if text_eq c.args.name.now (unique_text conn.number) then Some conn.number else None in
    sym (head_joined c.args.self.now (newcomer conn privileged) c.args.name.now refl ∙ ap (λ o. head_or o own) (sym c.head.ensures ∙ c.in-Some.is))

pub returns-then-eq : goal.returns-then-eq
returns-then-eq c privileged =
    let conn = c.args.conn in
    let own : Bool → Option ℕ = λ b. if b then Some conn.number else None in
    let its = text_eq c.args.name.now (unique_text conn.number) in
    let same : its ≡ _ = ap (text_eq c.args.name.now) (sym (c.as_str.ensures.value ∙ c.of.ensures)) ∙ sym c.eq.ensures ∙ c.if-eq.true in
    sym (head_joined c.args.self.now (newcomer conn privileged) c.args.name.now refl ∙ ap (λ o. head_or o (own its)) (sym c.head.ensures ∙ c.in-None.is) ∙ ap own same)

pub returns-else-eq : goal.returns-else-eq
returns-else-eq c privileged =
    let conn = c.args.conn in
    let own : Bool → Option ℕ = λ b. if b then Some conn.number else None in
    let its = text_eq c.args.name.now (unique_text conn.number) in
    let same : its ≡ _ = ap (text_eq c.args.name.now) (sym (c.as_str.ensures.value ∙ c.of.ensures)) ∙ sym c.eq.ensures ∙ c.if-eq.false in
    sym (head_joined c.args.self.now (newcomer conn privileged) c.args.name.now refl ∙ ap (λ o. head_or o (own its)) (sym c.head.ensures ∙ c.in-None.is) ∙ ap own same)
