-- What waits for names, and what was let go.
use Rattle.std.specs.Prelude.{Bool, not, List, filter, map}
use Rattle.names.specs.Texts.{Text, text_eq}
use Rattle.seq_bus_core.specs.declared.ticket.Fate.{Fate}
use Rattle.activation.specs.declared.given.Given.{Given}

-- what waits, and the name that it waits for
pub record Waiting (T : Type 0) : Type 0 where
  pub name : Text
  pub what : T

-- what waits, and what was let go and is not handed out yet, both in order of arrival
pub record Holding (T : Type 0) : Type 0 where
  pub held : List (Waiting T)
  pub given : List (Given T)

abbrev pub waits_for : {T : Type 0} → Text → Waiting T → Bool
waits_for name w = text_eq w.name name

-- what waits for a name
abbrev pub waiting_for : {T : Type 0} → Text → List (Waiting T) → List T
waiting_for name held = map (λ w. w.what) (filter (waits_for name) held)

-- what waits for other names
abbrev pub waiting_for_others : {T : Type 0} → Text → List (Waiting T) → List (Waiting T)
waiting_for_others name held = filter (λ w. not (waits_for name w)) held

-- what was let go, each with what became of it
abbrev pub given_as : {T : Type 0} → Fate → List T → List (Given T)
given_as fate whats = map (λ what. record { fate = fate; what = what }) whats
