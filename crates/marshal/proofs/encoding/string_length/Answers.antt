use Rattle.std.proofs.Common.{ap, sym, ◌∙◌}
use Rattle.marshal_core.specs.Spelling.{has_zero}
use Rattle.marshal_core.proofs.StringFaults.{string_none}
use Rattle.marshal.proofs.encoding.string_length.Goals as goal

pub returns-clause-fine : goal.returns-clause-fine
returns-clause-fine c = string_none c.args.text.now (c.in-Ok.ensures.0, c.utf8.text, sym (c.any_zero.ensures ∙ ap has_zero c.as_bytes.ensures.value) ∙ c.if-any_zero.false)
