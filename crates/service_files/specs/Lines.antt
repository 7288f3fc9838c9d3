-- How contracts see a line, and what stands behind a cut.
use Rattle.std.specs.Prelude.{ℕ, ◌==◌, List, [], Option, Some, None}
use Rattle.std.specs.Borrow.{Bor}
use Rattle.std.specs.List.{slice_split}
use Rattle.service_files.specs.declared.line.Line.{Line}
use Rattle.service_files.specs.declared.line.Line.TheVariants as line
use Rattle.service_files.specs.ServiceFiles.{Said, Silence, Header, Entry, line_feed}

abbrev pub line_said : Line → Said
line_said line.Silent = Silence
line_said (line.Header is_service) = Header is_service
line_said (line.Entry key value) = Entry key.now value.now

-- the lines that are left; none where there was no line feed
abbrev pub lines_left : Option (Bor (List ℕ)) → List (List ℕ)
lines_left None = []
lines_left (Some behind) = slice_split (λ b. b == line_feed) behind.now
