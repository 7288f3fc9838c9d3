-- What a router does, in the terms of the definitions.
use Rattle.std.specs.Prelude.{◌≡◌, ℕ, Bool, false, Option, option_map, IfSome, List, [], ◌∷◌, ◌++◌}
use Rattle.names.specs.Texts.{Text}
use Rattle.seq_bus_core.specs.Histories.{History}
use Rattle.seq_bus_core.specs.declared.connection.Conn.{Conn}
use Rattle.seq_bus_core.specs.declared.signal.AddressedSignal.{AddressedSignal}
use Rattle.message_core.specs.Messages.{Message, IsWritten}
use Rattle.driver.specs.declared.call.Call.{Call}
use Rattle.bus_view.specs.Views.{Knowledge}
use Rattle.outbox_core.specs.Contents.{Said, Tells, Signals, said_of}
use Rattle.outbox_core.specs.Deliveries.{deliveries_of}
use Rattle.outbox_core.specs.declared.content.Content.TheVariants.{Own}
use Rattle.outbox_core.specs.declared.bus_message.BusMessage.TheVariants.{Signal}
use Rattle.router_core.specs.declared.action.Action.{Action}
use Rattle.router_core.specs.declared.action.Action.TheVariants.{Write, Put, Close, Run}
use Rattle.router_core.specs.declared.cause.CloseCause.{CloseCause}

-- a call, the seat that serves it, and what that had seen of the bus when the gate was shown the call
pub record GatedCall : Type 0 where
  pub seat : ℕ
  pub call : Call
  pub seen : History

-- A gate was shown these calls, one after the other; `passes` says what it may be once it was shown one.
abbrev pub PassesAll : {G : Type 0} → (G → GatedCall → G → Type 0) → G → List GatedCall → G → Type 0
PassesAll passes before [] after = after ≡ before
PassesAll {G = G} passes before (call ∷ calls) after = (gate : G) × passes before call gate × PassesAll passes gate calls after

pub data Deed : Type 0 where
  -- a message of another connection, or what it is answered while it says who it is, is written to the connection with this key
  Writes : (key : ℕ) → (bytes : List ℕ) → Deed
  -- a message of the bus is written to it
  Sends : (key : ℕ) → Message → Deed
  -- a message is put to connections
  Puts : List Conn → Said → Deed
  Closes : (key : ℕ) → CloseCause → Deed
  -- the program of a service is to be run, for a start of this number
  Runs : Text → (start : ℕ) → Deed

-- a message that nobody gets is not put
abbrev pub put_to : List Conn → Said → List Deed
put_to [] said = []
put_to (conn ∷ conns) said = Puts (conn ∷ conns) said ∷ []

-- the signals of a change, in order
abbrev pub puts_of_signals : List AddressedSignal → List Deed
puts_of_signals [] = []
puts_of_signals (s ∷ signals) = put_to (deliveries_of s.to s.monitors) (Tells (Signals s.signal)) ++ puts_of_signals signals

-- ## What an action does

abbrev pub IsWriting : ℕ → List ℕ → Deed → Type 0
IsWriting key bytes (Writes k written) = (k ≡ key) × (written ≡ bytes)
IsWriting key bytes (Sends k message) = (k ≡ key) × IsWritten bytes message
IsWriting key bytes deed = ⊥

-- the one deed that the action does
abbrev pub IsDoneBy : {N : Type 0} → Action N → Deed → Type 0
IsDoneBy (Write key bytes) deed = IsWriting key bytes deed
IsDoneBy (Put to carried content) deed = deed ≡ Puts (deliveries_of to.to to.monitors) (said_of content)
IsDoneBy (Close key cause) deed = deed ≡ Closes key cause
IsDoneBy (Run name start) deed = deed ≡ Runs name.value start

-- a signal of a change, by those who get it or are shown it; where there are none, it is not put
abbrev pub put_of : {N : Type 0} → Option N → AddressedSignal → List Conn → List (Action N)
put_of carried s [] = []
put_of carried s (conn ∷ conns) = Put (record { to = s.to; monitors = s.monitors }) carried (Own (Signal s.signal)) ∷ []

-- the signals of a change, in order
abbrev pub announcement : {N : Type 0} → List AddressedSignal → Option N → List (Action N)
announcement [] carried = []
announcement (s ∷ signals) carried = put_of carried s (deliveries_of s.to s.monitors) ++ announcement signals carried

-- ## What actions carry

-- the note, if there is one, is of this registry
abbrev pub IsOwnNote : {N : Type 0} → (N → ℕ) → (registry : ℕ) → Option N → Type 0
IsOwnNote registry_of registry carried = IfSome carried (λ note. registry_of note ≡ registry)

-- It is the furthest note that the view held, and of the view's registry. Where nobody else makes changes, notes tell nothing.
pub record IsFurthest {N : Type 0} (told : N → History) (registry_of : N → ℕ) (alone : Bool) (view : Knowledge) (carried : Option N) : Type 0 where
  pub own : IsOwnNote registry_of view.registry carried
  pub tells : alone ≡ false → option_map told carried ≡ view.held

abbrev pub CarriesFurthest : {N : Type 0} → (N → History) → (N → ℕ) → Bool → Knowledge → Action N → Type 0
CarriesFurthest told registry_of alone view (Put to carried content) = IsFurthest told registry_of alone view carried
CarriesFurthest told registry_of alone view other = Unit {0}

-- what an action carries is of this registry
abbrev pub CarriesOwn : {N : Type 0} → (N → ℕ) → (registry : ℕ) → Action N → Type 0
CarriesOwn registry_of registry (Put to carried content) = IsOwnNote registry_of registry carried
CarriesOwn registry_of registry other = Unit {0}

-- ## What actions do

-- the actions do these deeds, in order
abbrev pub AreDoneBy : {N : Type 0} → List (Action N) → List Deed → Type 0
AreDoneBy [] deeds = deeds ≡ []
AreDoneBy (action ∷ actions) deeds = (deed : Deed) × (later : List Deed) × IsDoneBy action deed × AreDoneBy actions later × (deeds ≡ deed ∷ later)
