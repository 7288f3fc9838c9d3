-- How contracts see a line that is kept as a text.
use Rattle.std.specs.Prelude.{◌≡◌, ℕ, ◌<◌, ◌≤◌, true, Some, unwrap_or, []}
use Rattle.seq_bus_core.specs.Histories.{max_routers}
use Rattle.seq_bus_core.specs.declared.query.Query.TheVariants.{ListNames}
use Rattle.trace_lines.specs.Lines.{Line, Asked, line, line_of}
use Rattle.trace_check_core.specs.Legality.{is_change, number_made}
use Rattle.trace_check_core.specs.declared.kept_line.KeptLine.TheInside.{Inside}

-- what stands for a text that is no line
abbrev pub no_line : Line
no_line = line 0 0 (Asked ListNames) []

abbrev pub line_in : Inside → Line
line_in k = unwrap_or (line_of k.routers k.text.now) no_line

-- a line has the seat of the main thread or of a router, and a change the place 1 or a later one
pub record IsSeated (routers : ℕ) (l : Line) : Type 0 where
  pub seated : l.seat ≤ routers
  pub placed : is_change l ≡ true → 0 < l.place

-- The text is a line, and what is kept beside it is what it tells.
pub record IsKept (k : Inside) : Type 0 where
  pub few_routers : k.routers ≤ max_routers
  pub read : line_of k.routers k.text.now ≡ Some (line_in k)
  pub place : k.place ≡ (line_in k).place
  pub seat : k.seat ≡ (line_in k).seat
  pub number : k.number ≡ number_made (line_in k).subject
  pub seated : IsSeated k.routers (line_in k)
