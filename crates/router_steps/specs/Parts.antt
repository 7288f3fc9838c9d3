-- Parts of a list.
use Rattle.std.specs.Prelude.{ℕ, ◌-◌, List, take, drop}

-- what stands from one place up to another
abbrev pub part : List ℕ → (start place : ℕ) → List ℕ
part numbers start place = take (place - start) (drop start numbers)
