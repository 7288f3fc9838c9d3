-- How the engine of a router serves the stream of one connection.
use Rattle.std.specs.Prelude.{◌≡◌, ◌⊎◌, ℕ, Bool, true, Option, None, Result, Ok, Err, List, [], ◌∷◌, ◌++◌}
use Rattle.std.proofs.Common.{inl, inr}
use Rattle.std.specs.Io.KnownBytes.{Consumes, Appends}
use Rattle.std.specs.List.{flat_map, AllByRecursion}
use Rattle.seq_bus_core.specs.Histories.{History}
use Rattle.bus_view.specs.Views.{Knowledge}
use Rattle.bus_view.specs.declared.view.BusView.{Ghosts as BusView}
use Rattle.router_core.specs.declared.event.Event.{Event}
use Rattle.router_core.specs.declared.event.Event.TheVariants.{Opened, Bytes, Next, Closed}
use Rattle.router_core.specs.declared.gate.Gate.{Ghosts as Gate}
use Rattle.router_core.specs.Acts.{Exchange, IsGranted, IsNextKey, State}
use Rattle.router_core.specs.Deeds.{GatedCall}
use Rattle.router_core.specs.Standing.{fresh}
use Rattle.router.specs.OneEvent.{rest_in}
use Rattle.router.specs.Upcoming.{HasNoNext}
use Rattle.busd_core.specs.declared.run_fault.RunFault.{RunFault}
use Rattle.busd_core.specs.declared.run_fault.RunFault.TheVariants as fault
use Rattle.busd_core.specs.Readings.{Reading, reading_of, Notes}
use Rattle.busd_core.specs.Happenings.{AllHappen, Happens, Closes, Breaks, IsTimely, AreTimely, asked_all}

abbrev pub piece_of : {N : Type 0} → Event N → List ℕ
piece_of (Bytes key piece) = piece.items
piece_of other = []

-- Bytes of the connection come, or its next message is served.
abbrev pub IsServing : {N : Type 0} → ℕ → Event N → Type 0
IsServing key (Bytes of piece) = of ≡ key
IsServing key (Next of) = of ≡ key
IsServing key other = ⊥

-- The connection comes, and is served from then on; nobody asks it who it is.
abbrev pub IsLife : {N : Type 0} → ℕ → List (Event N) → Type 0
IsLife key [] = Unit {0}
IsLife key (event ∷ events) = (event ≡ Opened key None) × AllByRecursion (IsServing key) events

-- what happens to the connection
abbrev pub IsOf : {N : Type 0} → ℕ → Event N → Type 0
IsOf key (Opened of challenge) = (of ≡ key) × (challenge ≡ None)
IsOf key (Closed of) = of ≡ key
IsOf key event = IsServing key event

module _ {N G : Type 0} (told : N → History) (passes : G → GatedCall → G → Type 0) (alone : Bool) (seat key : ℕ) where
  -- What was read for events, each piece when all was written that those before it bring; the writer held these bytes at first.
  abbrev pub readings_for : (held : List ℕ) (before : State G) (events : List (Event N)) (written : List ℕ) (after : State G) → AllHappen told passes alone seat key before events written after → List Reading
  readings_for held before [] written after happen = []
  readings_for held before (event ∷ events) written after happen = reading_of held (piece_of event) ++ readings_for (held ++ happen.1) happen.0 events happen.2 after happen.4

  -- So far these events happened to the connection, by which these bytes were read and these written, and more were read only where nothing
  -- of them was left to be served. Where nobody else makes changes of the bus and nothing is refused, what is written is a function of the
  -- events: wherever they happen to an engine that is the same, these bytes are written, and the engine is left the same.
  pub record Serves (before : State G) (events : List (Event N)) (read written : List ℕ) (after : State G) : Type 0 where
    pub life : IsLife key events
    pub happen : AllHappen told passes alone seat key before events written after
    pub timely : AreTimely told passes alone seat key before events written after happen
    pub reads : read ≡ flat_map piece_of events
    pub one_thread : alone ≡ true → IsGranted (asked_all told passes alone seat key before events written after happen) →
        (start end : State G) (others : List ℕ) (again : AllHappen told passes alone seat key start events others end) → rest_in start ≡ rest_in before →
        IsGranted (asked_all told passes alone seat key start events others end again) → (others ≡ written) × (rest_in end ≡ rest_in after)

  -- all that was asked and answered until then
  abbrev pub asked_in : {before after : State G} {events : List (Event N)} {read written : List ℕ} → Serves before events read written after → List Exchange
  asked_in {before = before} {after = after} {events = events} {written = written} serves = asked_all told passes alone seat key before events written after serves.happen

  -- all that was read until then
  abbrev pub readings_in : {before after : State G} {events : List (Event N)} {read written : List ℕ} → (held : List ℕ) → Serves before events read written after → List Reading
  readings_in {before = before} {after = after} {events = events} {written = written} held serves = readings_for held before events written after serves.happen

  -- The run ends at an event, so.
  pub record EndsAt (so : State G → Event N → List ℕ → State G → Type 0) (before : State G) (read written : List ℕ) (after : State G) : Type 0 where
    pub events : List (Event N)
    pub event : Event N
    pub between : State G
    pub fed : List ℕ
    pub first : List ℕ
    pub last : List ℕ
    pub serves : Serves before events fed first between
    pub is_of : IsOf key event
    pub timely : IsTimely key between event
    pub ends : so between event last after
    pub reads : read ≡ fed ++ piece_of event
    pub writes : written ≡ first ++ last

  -- At the end of the input nothing is left to be served, and the connection goes.
  pub record Goes (before : State G) (read written : List ℕ) (after : State G) : Type 0 where
    pub later : List (Event N)
    pub between : State G
    pub first : List ℕ
    pub last : List ℕ
    pub serves : Serves before (Opened key None ∷ later) read first between
    pub quiet : HasNoNext between.standing key
    pub goes : Happens told passes alone seat key between (Closed key) last after
    pub writes : written ≡ first ++ last

  -- Nothing more is done. What was read last may be lost, where nothing else was left to be served.
  abbrev pub Rests : State G → (read written : List ℕ) → State G → Type 0
  Rests before read written after =
      (events : List (Event N)) × (fed lost : List ℕ) × Serves before events fed written after × (read ≡ fed ++ lost) × ((lost ≡ []) ⊎ HasNoNext after.standing key)

  -- How a run ends: with the input; by a close; by a device that fails; or for want of memory, perhaps in the midst of an event.
  abbrev pub Ends : (before after : State G) → (read written : List ℕ) → Result (Unit {0}) RunFault → Type 0
  Ends before after read written (Ok u) = Goes before read written after
  Ends before after read written (Err (fault.Closed cause)) = EndsAt (λ s event last t. Closes told passes alone seat key s event cause last t) before read written after
  Ends before after read written (Err fault.Input) = (later : List (Event N)) × Serves before (Opened key None ∷ later) read written after × HasNoNext after.standing key
  Ends before after read written (Err fault.Output) = EndsAt (λ s event last t. (missing : List ℕ) × Breaks told passes alone seat key s event last missing t) before read written after
  Ends before after read written (Err fault.Memory) = Rests before read written after ⊎ EndsAt (λ s event last t. Breaks told passes alone seat key s event last [] t) before read written after

  abbrev readings_to : (held : List ℕ) {so : State G → Event N → List ℕ → State G → Type 0} {before after : State G} {read written : List ℕ} → EndsAt so before read written after → List Reading
  readings_to held ends = readings_in held ends.serves ++ reading_of (held ++ ends.first) (piece_of ends.event)

  -- all that was read until a run ended
  abbrev pub readings_until : (held : List ℕ) (before after : State G) (read written : List ℕ) (result : Result (Unit {0}) RunFault) → Ends before after read written result → List Reading
  readings_until held before after read written (Ok u) goes = readings_in held goes.serves
  readings_until held before after read written (Err (fault.Closed cause)) ends = readings_to held ends
  readings_until held before after read written (Err fault.Input) ends = readings_in held ends.1
  readings_until held before after read written (Err fault.Output) ends = readings_to held ends
  readings_until held before after read written (Err fault.Memory) (inl rests) = readings_in held rests.3 ++ reading_of (held ++ written) rests.2
  readings_until held before after read written (Err fault.Memory) (inr ends) = readings_to held ends

-- A run over a reader and a writer, by the bytes that they are known to have. What is known to have been read was read when all was written
-- that the events before it bring.
abbrev pub Runs : {N G : Type 0} → (N → History) → (G → GatedCall → G → Type 0) → Bool → (seat : ℕ) → (before after : State G)
    → (read_old read_new : Option (List ℕ)) (noted_old noted_new : Option (List Reading)) (wrote_old wrote_new : Option (List ℕ)) → Result (Unit {0}) RunFault → Type 0
Runs told passes alone seat before after read_old read_new noted_old noted_new wrote_old wrote_new result =
    (key : ℕ) × (read written : List ℕ) × IsNextKey before key × Consumes read_old read_new read × Appends wrote_old wrote_new written
    × (ends : Ends told passes alone seat key before after read written result)
    × Notes wrote_old noted_old noted_new (λ held. readings_until told passes alone seat key held before after read written result ends)

-- the same by a view and a gate
abbrev pub RunsBy : {V N R G : Type 0} → BusView V N R → Gate G → (seat : ℕ) → (before after : State G) → (read_old read_new : Option (List ℕ)) (noted_old noted_new : Option (List Reading))
    (wrote_old wrote_new : Option (List ℕ)) → Result (Unit {0}) RunFault → Type 0
RunsBy view gate seat before after read_old read_new noted_old noted_new wrote_old wrote_new result =
    Runs view.told gate.passes view.alone seat before after read_old read_new noted_old noted_new wrote_old wrote_new result

-- ## By a new engine

-- an engine that has no connections, over a view that knows this, behind a gate
abbrev pub new_engine : {G : Type 0} → Knowledge → G → State G
new_engine knows gate = record { standing = fresh None; next_key = 0; view = knows; gate = gate }

-- A run by a new engine. Where there is no memory for one, it is as if one did nothing.
abbrev pub RunsAnew : {N G : Type 0} → (N → History) → (G → GatedCall → G → Type 0) → Bool → Knowledge → (read_old read_new : Option (List ℕ)) (noted_old noted_new : Option (List Reading))
    (wrote_old wrote_new : Option (List ℕ)) → Result (Unit {0}) RunFault → Type 0
RunsAnew {G = G} told passes alone knows read_old read_new noted_old noted_new wrote_old wrote_new result =
    (gate : G) × (after : State G) × Runs told passes alone knows.seat (new_engine knows gate) after read_old read_new noted_old noted_new wrote_old wrote_new result
