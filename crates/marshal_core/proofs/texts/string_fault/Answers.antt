use Rattle.std.proofs.Common.{nat_eq, sym, ap, ◌∙◌, arith}
use Rattle.std.specs.List.{list_any}
use Rattle.marshal_core.proofs.StringFaults.{any_zero, string_none}
use Rattle.marshal_core.proofs.texts.string_fault.Goals as goal

pub returns : goal.returns
returns c =
    sym (string_none c.args.text.now (
      omega (arith, c.if-text-gt-MAX_STRING_LENGTH.false),
      c.utf8.text,
      sym (any_zero c.args.text.now) ∙ sym (c.contains.ensures.value ∙ ap (λ bytes. list_any (λ b. nat_eq b 0) bytes) c.as_bytes.ensures.value) ∙ c.if-contains.false,
    ))
