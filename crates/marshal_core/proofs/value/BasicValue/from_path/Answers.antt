use Rattle.std.proofs.Common.{sym, ◌∙◌}
use Rattle.marshal_core.proofs.StringFaults.{path_value}
use Rattle.marshal_core.proofs.value.BasicValue.from_path.Goals as goal

pub returns-in_ok-from_str-in-None : goal.returns-in_ok-from_str-in-None
returns-in_ok-from_str-in-None c =
    path_value c.args.path.now c.as_str-text.result.now _ c.as_str-text.ensures.value (sym c.in-None.is ∙ c.string_fault.ensures) c.as_str-text.ensures.name c.in_ok-from_str-in-None.ensures.ok
