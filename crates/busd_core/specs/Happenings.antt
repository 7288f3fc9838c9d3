-- What becomes of the events of a connection, and of the mail that they bring.
use Rattle.std.specs.Prelude.{◌≡◌, ℕ, Bool, ◌==◌, Option, Some, None, List, [], ◌∷◌, ◌++◌, if◌then◌else◌}
use Rattle.std.specs.List.{flat_map}
use Rattle.std.specs.Option.{option_or}
use Rattle.seq_bus_core.specs.Histories.{History}
use Rattle.seq_bus_core.specs.declared.connection.Conn.{Conn}
use Rattle.outbox_core.specs.Contents.{Said, said_of}
use Rattle.outbox_core.specs.Deliveries.{deliveries_of}
use Rattle.outbox_core.specs.declared.envelope.Envelope.{Envelope}
use Rattle.router_core.specs.declared.action.Action.{Action}
use Rattle.router_core.specs.declared.action.Action.TheVariants.{Write, Put, Close}
use Rattle.router_core.specs.declared.cause.CloseCause.{CloseCause}
use Rattle.router_core.specs.declared.event.Event.{Event}
use Rattle.router_core.specs.declared.event.Event.TheVariants.{Bytes, Mail, Closed}
use Rattle.router_core.specs.Acts.{Exchange, State}
use Rattle.router_core.specs.Deeds.{GatedCall}
use Rattle.router.specs.OneEvent.{IsServedWell}
use Rattle.router.specs.Upcoming.{HasNoNext}

-- ## What actions do to the connection of a key

abbrev pub bytes_for : {N : Type 0} → ℕ → Action N → List ℕ
bytes_for key (Write to bytes) = if to == key then bytes else []
bytes_for key other = []

-- all that is written to it
abbrev pub written_to : {N : Type 0} → ℕ → List (Action N) → List ℕ
written_to key actions = flat_map (bytes_for key) actions

abbrev pub close_of : {N : Type 0} → ℕ → Action N → Option CloseCause
close_of key (Close closed cause) = if closed == key then Some cause else None
close_of key other = None

-- why it is closed, if it is
abbrev pub closed_by : {N : Type 0} → ℕ → List (Action N) → Option CloseCause
closed_by key [] = None
closed_by key (action ∷ actions) = option_or (close_of key action) (closed_by key actions)

-- ## Mail

-- what is on its way to the connection of this number, in this slot
pub record Delivery : Type 0 where
  pub slot : ℕ
  pub number : ℕ
  pub said : Said

-- A connection gets it that is of the router of this seat.
abbrev pub mail_to : ℕ → Said → Conn → List Delivery
mail_to seat said conn = if conn.router == seat then record { slot = conn.slot; number = conn.number; said = said } ∷ [] else []

abbrev pub mail_to_all : ℕ → Said → List Conn → List Delivery
mail_to_all seat said conns = flat_map (mail_to seat said) conns

abbrev pub mail_of : {N : Type 0} → ℕ → Action N → List Delivery
mail_of seat (Put to carried content) = mail_to_all seat (said_of content) (deliveries_of to.to to.monitors)
mail_of seat other = []

-- all that the actions put, in order
abbrev pub mails_of : {N : Type 0} → ℕ → List (Action N) → List Delivery
mails_of seat actions = flat_map (mail_of seat) actions

-- the envelope carries it, without a note
pub record Carries {N : Type 0} (envelope : Envelope N) (delivery : Delivery) : Type 0 where
  pub number : envelope.number ≡ delivery.number
  pub note : envelope.note ≡ None
  pub said : said_of envelope.content ≡ delivery.said

module _ {N G : Type 0} (told : N → History) (passes : G → GatedCall → G → Type 0) (alone : Bool) (seat key : ℕ) where
  -- The delivery comes as mail, and what that brings is written. It puts nothing, and closes nothing.
  pub record IsMailed (before : State G) (delivery : Delivery) (written : List ℕ) (after : State G) : Type 0 where
    pub envelope : Envelope N
    pub actions : List (Action N)
    pub carries : Carries envelope delivery
    pub serves : IsServedWell told passes alone before (Mail delivery.slot envelope) actions after
    pub nothing : mails_of seat actions ≡ []
    pub is_open : closed_by key actions ≡ None
    pub writes : written ≡ written_to key actions

  -- one after the other
  abbrev pub AreMailed : State G → List Delivery → List ℕ → State G → Type 0
  AreMailed before [] written after = (after ≡ before) × (written ≡ [])
  AreMailed before (delivery ∷ deliveries) written after =
      (between : State G) × (first later : List ℕ)
      × IsMailed before delivery first between × AreMailed between deliveries later after × (written ≡ first ++ later)

  -- ## Events

  -- The event happens: what its actions write is written, then what they put comes as mail, and the connection stays open.
  pub record Happens (before : State G) (event : Event N) (written : List ℕ) (after : State G) : Type 0 where
    pub actions : List (Action N)
    pub between : State G
    pub later : List ℕ
    pub serves : IsServedWell told passes alone before event actions between
    pub is_open : closed_by key actions ≡ None
    pub mailed : AreMailed between (mails_of seat actions) later after
    pub writes : written ≡ written_to key actions ++ later

  -- one after the other
  abbrev pub AllHappen : State G → List (Event N) → List ℕ → State G → Type 0
  AllHappen before [] written after = (after ≡ before) × (written ≡ [])
  AllHappen before (event ∷ events) written after =
      (between : State G) × (first later : List ℕ)
      × Happens before event first between × AllHappen between events later after × (written ≡ first ++ later)

  -- The event closes the connection.
  pub record Closes (before : State G) (event : Event N) (cause : CloseCause) (written : List ℕ) (after : State G) : Type 0 where
    pub actions : List (Action N)
    pub serves : IsServedWell told passes alone before event actions after
    pub closes : closed_by key actions ≡ Some cause
    pub writes : written ≡ written_to key actions

  -- The event happens in part: some of the mail does not come, and of what is written the last bytes are missing.
  pub record Breaks (before : State G) (event : Event N) (written missing : List ℕ) (after : State G) : Type 0 where
    pub actions : List (Action N)
    pub between : State G
    pub come : List Delivery
    pub left : List Delivery
    pub later : List ℕ
    pub serves : IsServedWell told passes alone before event actions between
    pub put : mails_of seat actions ≡ come ++ left
    pub mailed : AreMailed between come later after
    pub writes : written ++ missing ≡ written_to key actions ++ later

-- ## When more is read

-- Bytes come, and the end of the input, only where nothing of the connection is left to be served.
abbrev pub IsTimely : {N G : Type 0} → ℕ → State G → Event N → Type 0
IsTimely key before (Bytes of piece) = HasNoNext before.standing key
IsTimely key before (Closed of) = HasNoNext before.standing key
IsTimely key before other = Unit {0}

module _ {N G : Type 0} (told : N → History) (passes : G → GatedCall → G → Type 0) (alone : Bool) (seat key : ℕ) where
  -- So it is at each of the events.
  abbrev pub AreTimely : (before : State G) (events : List (Event N)) (written : List ℕ) (after : State G) → AllHappen told passes alone seat key before events written after → Type 0
  AreTimely before [] written after happen = Unit {0}
  AreTimely before (event ∷ events) written after happen = IsTimely key before event × AreTimely happen.0 events happen.2 after happen.4

-- ## What was asked and answered

module _ {N G : Type 0} (told : N → History) (passes : G → GatedCall → G → Type 0) (alone : Bool) (seat key : ℕ) where
  abbrev pub asked_mailed : (before : State G) (deliveries : List Delivery) (written : List ℕ) (after : State G) → AreMailed told passes alone seat key before deliveries written after → List Exchange
  asked_mailed before [] written after mailed = []
  asked_mailed before (delivery ∷ deliveries) written after mailed = mailed.3.serves.served.asked ++ asked_mailed mailed.0 deliveries mailed.2 after mailed.4

  abbrev pub asked_all : (before : State G) (events : List (Event N)) (written : List ℕ) (after : State G) → AllHappen told passes alone seat key before events written after → List Exchange
  asked_all before [] written after happen = []
  asked_all before (event ∷ events) written after happen =
      (happen.3.serves.served.asked ++ asked_mailed happen.3.between (mails_of seat happen.3.actions) happen.3.later happen.0 happen.3.mailed) ++ asked_all happen.0 events happen.2 after happen.4
