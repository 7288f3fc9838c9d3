-- What stays of what a view knows: its registry, and its seat.
use Rattle.std.proofs.Common.{◌≡◌, ℕ, Bool, Option, List, [], ◌∷◌, ap, ◌∙◌}
use Rattle.match_rules.specs.Facts.{Facts}
use Rattle.seq_bus_core.specs.Answers.{Answer}
use Rattle.seq_bus_core.specs.declared.change.Change.{Change}
use Rattle.seq_bus_core.specs.declared.outcome.Outcome.{Outcome}
use Rattle.seq_bus_core.specs.declared.query.Query.{Query}
use Rattle.seq_bus_core.specs.declared.verdict.Verdict.{Verdict}
use Rattle.bus_view.specs.Views.{Knowledge, IsRead}
use Rattle.router_core.specs.Acts.{Exchange, Changed, ChangedAll, Asked, Routed, AskedPresence, Noted, Framed, Called, Gated, Wanted, IsLawful}
use Rattle.router_core.specs.Answers.{Heard, Says, Refuses, NoMemory, Lost, HearsChange, HearsChanges, HearsAnswer, HearsVerdict, HearsPresent}
use Rattle.router_core.specs.Events.{Occasion}
use Rattle.router_core.specs.OneThread.{Rest}
use Rattle.router_laws.specs.Turns.{AreServedBy, Turn}

pub record Stays (k m : Knowledge) : Type 0 where
  pub registry : m.registry ≡ k.registry
  pub seat : m.seat ≡ k.seat

same : (k m : Knowledge) → m ≡ k → Stays k m
same k m e = record { registry = ap (λ (n : Knowledge). n.registry) e; seat = ap (λ (n : Knowledge). n.seat) e }

both : (k m n : Knowledge) → Stays k m → Stays m n → Stays k n
both k m n a b = record { registry = b.registry ∙ a.registry; seat = b.seat ∙ a.seat }

read : (alone : Bool) (k m : Knowledge) → IsRead alone k m → Stays k m
read alone k m h = record { registry = ap (λ (n : Knowledge). n.registry) h.kept; seat = ap (λ (n : Knowledge). n.seat) h.kept }

change : (alone : Bool) (c : Change) (heard : Heard Outcome) (k m : Knowledge) → HearsChange alone c k heard m → Stays k m
change alone c (Says o) k m h = record { registry = ap (λ (n : Knowledge). n.registry) h.added; seat = ap (λ (n : Knowledge). n.seat) h.added }
change alone c (Refuses r) k m h = same k m h.0

change_all : (alone : Bool) (changes : List Change) (heard : Heard (List Outcome)) (k m : Knowledge) → HearsChanges alone changes k heard m → Stays k m
change_all alone changes (Says os) k m h = record { registry = ap (λ (n : Knowledge). n.registry) h.added; seat = ap (λ (n : Knowledge). n.seat) h.added }
change_all alone changes (Refuses r) k m h = same k m h.0

answer : (alone : Bool) (query : Query) (heard : Heard (Option Answer)) (k m : Knowledge) → HearsAnswer alone query k heard m → Stays k m
answer alone query (Says told) k m h = read alone k m h.0
answer alone query (Refuses NoMemory) k m h = read alone k m h
answer alone query (Refuses Lost) k m h = same k m h.0

verdict : (alone : Bool) (from : ℕ) (facts : Facts) (heard : Heard Verdict) (k m : Knowledge) → HearsVerdict alone from facts k heard m → Stays k m
verdict alone from facts (Says v) k m h = read alone k m h.0
verdict alone from facts (Refuses r) k m h = same k m h.0

present : (alone : Bool) (number : ℕ) (heard : Heard Bool) (k m : Knowledge) → HearsPresent alone number k heard m → Stays k m
present alone number (Says there) k m h = read alone k m h.0
present alone number (Refuses r) k m h = same k m h.0

pub lawful_keeps : (alone : Bool) (asked : List Exchange) (k m : Knowledge) → IsLawful alone k asked m → Stays k m
lawful_keeps alone [] k m h = same k m h
lawful_keeps alone (Changed c heard ∷ later) k m h = both k h.0 m (change alone c heard k h.0 h.1) (lawful_keeps alone later h.0 m h.2)
lawful_keeps alone (ChangedAll changes heard ∷ later) k m h = both k h.0 m (change_all alone changes heard k h.0 h.1) (lawful_keeps alone later h.0 m h.2)
lawful_keeps alone (Asked query heard ∷ later) k m h = both k h.0 m (answer alone query heard k h.0 h.1) (lawful_keeps alone later h.0 m h.2)
lawful_keeps alone (Routed from facts heard ∷ later) k m h = both k h.0 m (verdict alone from facts heard k h.0 h.1) (lawful_keeps alone later h.0 m h.2)
lawful_keeps alone (AskedPresence number heard ∷ later) k m h = both k h.0 m (present alone number heard k h.0 h.1) (lawful_keeps alone later h.0 m h.2)
lawful_keeps alone (Noted told ∷ later) k m h =
    both k h.0 m (record { registry = ap (λ (n : Knowledge). n.registry) h.1.kept; seat = ap (λ (n : Knowledge). n.seat) h.1.kept }) (lawful_keeps alone later h.0 m h.2)
lawful_keeps alone (Framed bytes incoming ∷ later) k m h = lawful_keeps alone later k m h.1
lawful_keeps alone (Called m reading ∷ later) k n h = lawful_keeps alone later k n h.1
lawful_keeps alone (Gated seen call ∷ later) k m h = lawful_keeps alone later k m h.1
lawful_keeps alone (Wanted granted ∷ later) k m h = lawful_keeps alone later k m h

pub turns_keep : (alone : Bool) (before after : Rest) (occasions : List Occasion) (turns : List Turn) → AreServedBy alone before occasions turns after → Stays before.view after.view
turns_keep alone before after [] [] h = same before.view after.view (ap (λ (r : Rest). r.view) h)
turns_keep alone before after [] (turn ∷ turns) h = absurd h
turns_keep alone before after (occasion ∷ occasions) [] h = absurd h
turns_keep alone before after (occasion ∷ occasions) (turn ∷ turns) h =
    both before.view (h.0).view after.view (lawful_keeps alone turn.asked before.view (h.0).view h.1.lawful) (turns_keep alone h.0 after occasions turns h.2)
