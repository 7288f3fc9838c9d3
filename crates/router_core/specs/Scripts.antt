-- Scripts: what is done one thing after another, where answers decide what comes next.
use Rattle.std.specs.Prelude.{◌≡◌, ℕ, Bool, true, Option, List, [], ◌∷◌, ◌++◌}
use Rattle.match_rules.specs.Facts.{Facts}
use Rattle.seq_bus_core.specs.Answers.{Answer}
use Rattle.seq_bus_core.specs.Histories.{History}
use Rattle.seq_bus_core.specs.declared.change.Change.{Change}
use Rattle.seq_bus_core.specs.declared.connection.Conn.{Conn}
use Rattle.seq_bus_core.specs.declared.outcome.Outcome.{Outcome}
use Rattle.seq_bus_core.specs.declared.query.Query.{Query}
use Rattle.seq_bus_core.specs.declared.signal.AddressedSignal.{AddressedSignal}
use Rattle.seq_bus_core.specs.declared.verdict.Verdict.{Verdict}
use Rattle.message_core.specs.Messages.{Message}
use Rattle.driver.specs.declared.call.Call.{Call}
use Rattle.driver.specs.Calls.{Reading, IsCall}
use Rattle.bus_view.specs.Views.{Knowledge, IsNoted}
use Rattle.bus_view.specs.declared.view.BusView.{Ghosts as BusView}
use Rattle.router_core.specs.declared.gate.Gate.{Ghosts as Gate}
use Rattle.router_core.specs.Answers.{Heard, HearsChange, HearsChanges, HearsAnswer, HearsVerdict, HearsPresent}
use Rattle.outbox_core.specs.Contents.{Said}
use Rattle.router_core.specs.declared.action.Action.{Action}
use Rattle.router_core.specs.Deeds.{Deed, Puts, GatedCall, IsDoneBy, announcement, IsFurthest, CarriesFurthest}
use Rattle.router_core.specs.Incoming.{Incoming, IsIncoming}

-- A script comes to a result in the end.
pub data Script (X : Type 0) : Type 0 where
  Gives : X → Script X
  -- the bus is asked to make a change, to make several together, to answer a query, where a message goes, whether a connection is there
  Changing : Change → (Heard Outcome → Script X) → Script X
  ChangingAll : List Change → (Heard (List Outcome) → Script X) → Script X
  Asking : Query → (Heard (Option Answer) → Script X) → Script X
  Routing : (from : ℕ) → Facts → (Heard Verdict → Script X) → Script X
  AskingPresence : (number : ℕ) → (Heard Bool → Script X) → Script X
  -- what another router told is taken in
  Noting : History → Script X → Script X
  -- the front of bytes is read
  Framing : (bytes : List ℕ) → (Incoming → Script X) → Script X
  -- a call to the bus is read
  Calling : Message → (Reading Call → Script X) → Script X
  -- the gate is shown a call
  Gating : Call → Script X → Script X
  -- memory is wanted, which is granted or not
  Wanting : (Bool → Script X) → Script X
  -- it goes on only where this holds; else the event is refused whole
  Requiring : (holds : Bool) → Script X → Script X
  Doing : Deed → Script X → Script X
  -- the signals of a change are put
  Announcing : List AddressedSignal → Script X → Script X

abbrev pub and_then : {X Y : Type 0} → Script X → (X → Script Y) → Script Y
and_then (Gives x) next = next x
and_then (Changing change goes_on) next = Changing change (λ heard. and_then (goes_on heard) next)
and_then (ChangingAll changes goes_on) next = ChangingAll changes (λ heard. and_then (goes_on heard) next)
and_then (Asking query goes_on) next = Asking query (λ heard. and_then (goes_on heard) next)
and_then (Routing from facts goes_on) next = Routing from facts (λ heard. and_then (goes_on heard) next)
and_then (AskingPresence number goes_on) next = AskingPresence number (λ heard. and_then (goes_on heard) next)
and_then (Noting told s) next = Noting told (and_then s next)
and_then (Framing bytes goes_on) next = Framing bytes (λ incoming. and_then (goes_on incoming) next)
and_then (Calling m goes_on) next = Calling m (λ reading. and_then (goes_on reading) next)
and_then (Gating call s) next = Gating call (and_then s next)
and_then (Wanting goes_on) next = Wanting (λ granted. and_then (goes_on granted) next)
and_then (Requiring holds s) next = Requiring holds (and_then s next)
and_then (Doing deed s) next = Doing deed (and_then s next)
and_then (Announcing signals s) next = Announcing signals (and_then s next)

-- A message that nobody gets is not put.
abbrev pub putting : {X : Type 0} → List Conn → Said → Script X → Script X
putting [] said s = s
putting (conn ∷ conns) said s = Doing (Puts (conn ∷ conns) said) s

-- ## What comes of a script

-- what the view knows, the gate, and the actions so far
pub record World (N G : Type 0) : Type 0 where
  pub view : Knowledge
  pub gate : G
  pub actions : List (Action N)

abbrev pub knowing : {N G : Type 0} → World N G → Knowledge → World N G
knowing w k = record w { view = k }

abbrev pub having_done : {N G : Type 0} → World N G → List (Action N) → World N G
having_done w actions = record w { actions = w.actions ++ actions }

-- ## One step, from one world to the next. `alone` says that nobody else makes changes of the bus.

pub record Changes {N G : Type 0} (alone : Bool) (change : Change) (w : World N G) (heard : Heard Outcome) (m : World N G) : Type 0 where
  pub hears : HearsChange alone change w.view heard m.view
  pub rest : m ≡ knowing w m.view

pub record ChangesAll {N G : Type 0} (alone : Bool) (changes : List Change) (w : World N G) (heard : Heard (List Outcome)) (m : World N G) : Type 0 where
  pub hears : HearsChanges alone changes w.view heard m.view
  pub rest : m ≡ knowing w m.view

pub record Asks {N G : Type 0} (alone : Bool) (query : Query) (w : World N G) (heard : Heard (Option Answer)) (m : World N G) : Type 0 where
  pub hears : HearsAnswer alone query w.view heard m.view
  pub rest : m ≡ knowing w m.view

pub record Routes {N G : Type 0} (alone : Bool) (from : ℕ) (facts : Facts) (w : World N G) (heard : Heard Verdict) (m : World N G) : Type 0 where
  pub hears : HearsVerdict alone from facts w.view heard m.view
  pub rest : m ≡ knowing w m.view

pub record AsksPresence {N G : Type 0} (alone : Bool) (number : ℕ) (w : World N G) (heard : Heard Bool) (m : World N G) : Type 0 where
  pub hears : HearsPresent alone number w.view heard m.view
  pub rest : m ≡ knowing w m.view

pub record Takes {N G : Type 0} (alone : Bool) (told : History) (w m : World N G) : Type 0 where
  pub noted : IsNoted alone w.view told m.view
  pub rest : m ≡ knowing w m.view

-- the gate is shown a call; `passes` says what it may be then
pub record Passes {N G : Type 0} (passes : G → GatedCall → G → Type 0) (call : Call) (w m : World N G) : Type 0 where
  pub shown : passes w.gate (record { seat = w.view.seat; call = call; seen = w.view.seen }) m.gate
  pub rest : m ≡ record w { gate = m.gate }

-- an action is taken, which carries the furthest note; `told` says which history a note tells, and `registry_of` which registry it is of
pub record Does {N G : Type 0} (told : N → History) (registry_of : N → ℕ) (alone : Bool) (deed : Deed) (w m : World N G) : Type 0 where
  pub action : Action N
  pub done : IsDoneBy action deed
  pub carries : CarriesFurthest told registry_of alone w.view action
  pub rest : m ≡ having_done w (action ∷ [])

pub record Announces {N G : Type 0} (told : N → History) (registry_of : N → ℕ) (alone : Bool) (signals : List AddressedSignal) (w m : World N G) : Type 0 where
  pub note : Option N
  pub carries : IsFurthest told registry_of alone w.view note
  pub rest : m ≡ having_done w (announcement signals note)

-- ## All of it

-- The script, begun in one world, comes to this result in another.
abbrev pub Comes : {N G : Type 0} → (N → History) → (N → ℕ) → (G → GatedCall → G → Type 0) → Bool → {X : Type 0} → Script X → World N G → X → World N G → Type 0
Comes told registry_of passes alone (Gives y) w x v = (x ≡ y) × (v ≡ w)
Comes {N = N} {G = G} told registry_of passes alone (Changing change goes_on) w x v =
    (heard : Heard Outcome) × (m : World N G) × Changes alone change w heard m × Comes told registry_of passes alone (goes_on heard) m x v
Comes {N = N} {G = G} told registry_of passes alone (ChangingAll changes goes_on) w x v =
    (heard : Heard (List Outcome)) × (m : World N G) × ChangesAll alone changes w heard m × Comes told registry_of passes alone (goes_on heard) m x v
Comes {N = N} {G = G} told registry_of passes alone (Asking query goes_on) w x v =
    (heard : Heard (Option Answer)) × (m : World N G) × Asks alone query w heard m × Comes told registry_of passes alone (goes_on heard) m x v
Comes {N = N} {G = G} told registry_of passes alone (Routing from facts goes_on) w x v =
    (heard : Heard Verdict) × (m : World N G) × Routes alone from facts w heard m × Comes told registry_of passes alone (goes_on heard) m x v
Comes {N = N} {G = G} told registry_of passes alone (AskingPresence number goes_on) w x v =
    (heard : Heard Bool) × (m : World N G) × AsksPresence alone number w heard m × Comes told registry_of passes alone (goes_on heard) m x v
Comes {N = N} {G = G} told registry_of passes alone (Noting history s) w x v = (m : World N G) × Takes alone history w m × Comes told registry_of passes alone s m x v
Comes told registry_of passes alone (Framing bytes goes_on) w x v = (incoming : Incoming) × IsIncoming bytes incoming × Comes told registry_of passes alone (goes_on incoming) w x v
Comes told registry_of passes alone (Calling m goes_on) w x v = (reading : Reading Call) × IsCall m reading × Comes told registry_of passes alone (goes_on reading) w x v
Comes {N = N} {G = G} told registry_of passes alone (Gating call s) w x v = (m : World N G) × Passes passes call w m × Comes told registry_of passes alone s m x v
Comes told registry_of passes alone (Wanting goes_on) w x v = (granted : Bool) × Comes told registry_of passes alone (goes_on granted) w x v
Comes told registry_of passes alone (Requiring holds s) w x v = (holds ≡ true) × Comes told registry_of passes alone s w x v
Comes {N = N} {G = G} told registry_of passes alone (Doing deed s) w x v = (m : World N G) × Does told registry_of alone deed w m × Comes told registry_of passes alone s m x v
Comes {N = N} {G = G} told registry_of passes alone (Announcing signals s) w x v = (m : World N G) × Announces told registry_of alone signals w m × Comes told registry_of passes alone s m x v

-- ## The same by a view and a gate

-- The script, begun in one world, runs to this result in another.
abbrev pub RunsTo : {V N R G X : Type 0} → BusView V N R → Gate G → Script X → World N G → X → World N G → Type 0
RunsTo view gate s w x v = Comes view.told view.registry_of gate.passes view.alone s w x v

abbrev pub Performs : {V N R G : Type 0} → BusView V N R → Deed → World N G → World N G → Type 0
Performs view deed w m = Does view.told view.registry_of view.alone deed w m

abbrev pub Emits : {V N R G : Type 0} → BusView V N R → List AddressedSignal → World N G → World N G → Type 0
Emits view signals w m = Announces view.told view.registry_of view.alone signals w m
