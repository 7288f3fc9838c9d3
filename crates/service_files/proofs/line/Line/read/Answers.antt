use Rattle.std.proofs.Common.{ap, ◌∙◌}
use Rattle.std.specs.Prelude.{option_map}
use Rattle.service_files.specs.ServiceFiles.{said_of}
use Rattle.service_files.specs.Lines.{line_said}
use Rattle.service_files.proofs.LineTexts.{text_says, no_text}
use Rattle.service_files.proofs.line.Line.read.Goals as goal

pub returns-in-Ok : goal.returns-in-Ok
returns-in-Ok c = text_says c.args.bytes.now (option_map line_said c.line_of.result) c.in-Ok.ensures.cases.1 (c.line_of.ensures ∙ ap said_of c.in-Ok.ensures.cases.0)

pub returns-in-Err : goal.returns-in-Err
returns-in-Err c = no_text c.args.bytes.now c.in-Err.ensures.cases.0
