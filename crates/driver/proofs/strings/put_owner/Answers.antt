use Rattle.std.proofs.Common.{◌≡◌, ◌∙◌, inl, subst, sym, ap}
use Rattle.names.specs.UniqueName.{IsUniqueName, unique_text}
use Rattle.marshal_core.specs.Spelling.{IsString}
use Rattle.message_core.proofs.NameTexts.{name_string}
use Rattle.seq_bus_core.specs.Steps.{owner_text}
use Rattle.driver.proofs.strings.put_owner.Goals as goal

pub returns-in-Some-clause-string : goal.returns-in-Some-clause-string
returns-in-Some-clause-string c =
    let e : c.as_str.result.now ≡ unique_text c.in-Some.number = c.as_str.ensures.value ∙ c.of-name.ensures in
    let is : IsUniqueName c.as_str.result.now = subst IsUniqueName (sym c.as_str.ensures.value) c.as_str.ensures.name in
    subst IsString (e ∙ sym (ap owner_text c.in-Some.is)) (name_string _ (inl is) c.as_str.utf8)
