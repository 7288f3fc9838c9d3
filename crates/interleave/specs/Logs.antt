-- What is logged in code, beside the log that the world defines.
use Rattle.std.specs.Prelude.{◌≡◌, List, [], ◌∷◌}
use Rattle.bus_view.specs.Bodies.{Answers}
use Rattle.interleave.specs.declared.log.Exchange.{Exchange}
use Rattle.interleave.specs.declared.log.Exchange.TheVariants.{Outcome, Body, Verdict, Presence}
use Rattle.interleave.specs.declared.log.LogLine.{LogLine}
use Rattle.interleave_core.specs.Worlds.{Said, Told, Answered, Routed, Found, Logged}

-- the same question with the same answer; of a query the body that spells it
abbrev pub Says : Exchange → Said → Type 0
Says (Outcome change outcome) (Told c o) = (change.now ≡ c) × (outcome ≡ o)
Says (Body query asked body) (Answered q told) = (query.now ≡ q) × Answers asked told [] body.items
Says (Verdict from facts verdict) (Routed f fs v) = (from ≡ f) × (facts.now ≡ fs) × (verdict.value ≡ v)
Says (Presence number present) (Found n found) = (number ≡ n) × (present ≡ found)
Says (Outcome change outcome) (Answered q told) = ⊥
Says (Outcome change outcome) (Routed f fs v) = ⊥
Says (Outcome change outcome) (Found n found) = ⊥
Says (Body query asked body) (Told c o) = ⊥
Says (Body query asked body) (Routed f fs v) = ⊥
Says (Body query asked body) (Found n found) = ⊥
Says (Verdict from facts verdict) (Told c o) = ⊥
Says (Verdict from facts verdict) (Answered q told) = ⊥
Says (Verdict from facts verdict) (Found n found) = ⊥
Says (Presence number present) (Told c o) = ⊥
Says (Presence number present) (Answered q told) = ⊥
Says (Presence number present) (Routed f fs v) = ⊥

pub record IsLine (line : LogLine) (l : Logged) : Type 0 where
  pub seat : line.seat ≡ l.seat
  pub place : line.place ≡ l.place
  pub said : Says line.exchange l.said

-- the same lines, in order
abbrev pub AreLines : List LogLine → List Logged → Type 0
AreLines [] [] = Unit {0}
AreLines [] (l ∷ log) = ⊥
AreLines (line ∷ lines) [] = ⊥
AreLines (line ∷ lines) (l ∷ log) = IsLine line l × AreLines lines log
