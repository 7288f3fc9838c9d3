-- What a script may give.
use Rattle.std.proofs.Common.{ℕ, Bool, true, false, List, [], ◌∷◌, sym, subst, if◌then◌else◌}
use Rattle.seq_bus_core.specs.Histories.{History}
use Rattle.seq_bus_core.specs.declared.connection.Conn.{Conn}
use Rattle.outbox_core.specs.Contents.{Said}
use Rattle.router_core.specs.Deeds.{GatedCall}
use Rattle.router_core.specs.Scripts.{Script, Gives, Changing, ChangingAll, Asking, Routing, AskingPresence, Noting, Framing, Calling, Gating, Wanting, Requiring, Doing, Announcing, and_then, putting, World, Comes}

-- whatever it gives is such
abbrev pub AllGive : {X : Type 0} → (X → Type 0) → Script X → Type 0
AllGive P (Gives x) = P x
AllGive P (Changing change goes_on) = (heard : _) → AllGive P (goes_on heard)
AllGive P (ChangingAll changes goes_on) = (heard : _) → AllGive P (goes_on heard)
AllGive P (Asking query goes_on) = (heard : _) → AllGive P (goes_on heard)
AllGive P (Routing from facts goes_on) = (heard : _) → AllGive P (goes_on heard)
AllGive P (AskingPresence number goes_on) = (heard : _) → AllGive P (goes_on heard)
AllGive P (Noting history s) = AllGive P s
AllGive P (Framing bytes goes_on) = (incoming : _) → AllGive P (goes_on incoming)
AllGive P (Calling message goes_on) = (reading : _) → AllGive P (goes_on reading)
AllGive P (Gating call s) = AllGive P s
AllGive P (Wanting goes_on) = (granted : Bool) → AllGive P (goes_on granted)
AllGive P (Requiring holds s) = AllGive P s
AllGive P (Doing deed s) = AllGive P s
AllGive P (Announcing signals s) = AllGive P s

-- so what comes of it is such
module _ {N G : Type 0} (told : N → History) (registry_of : N → ℕ) (passes : G → GatedCall → G → Type 0) (alone : Bool) {X : Type 0} (P : X → Type 0) (x : X) (v : World N G) where
  pub given : (s : Script X) (w : World N G) → AllGive P s → Comes told registry_of passes alone s w x v → P x
  given (Gives y) w all p = subst P (sym p.0) all
  given (Changing change goes_on) w all p = given (goes_on p.0) p.1 (all p.0) p.3
  given (ChangingAll changes goes_on) w all p = given (goes_on p.0) p.1 (all p.0) p.3
  given (Asking query goes_on) w all p = given (goes_on p.0) p.1 (all p.0) p.3
  given (Routing from facts goes_on) w all p = given (goes_on p.0) p.1 (all p.0) p.3
  given (AskingPresence number goes_on) w all p = given (goes_on p.0) p.1 (all p.0) p.3
  given (Noting history s) w all p = given s p.0 all p.2
  given (Framing bytes goes_on) w all p = given (goes_on p.0) w (all p.0) p.2
  given (Calling message goes_on) w all p = given (goes_on p.0) w (all p.0) p.2
  given (Gating call s) w all p = given s p.0 all p.2
  given (Wanting goes_on) w all p = given (goes_on p.0) w (all p.0) p.1
  given (Requiring holds s) w all p = given s w all p.1
  given (Doing deed s) w all p = given s p.0 all p.2
  given (Announcing signals s) w all p = given s p.0 all p.2

-- one script after another
module _ {X Y : Type 0} (Q : X → Type 0) (P : Y → Type 0) (next : X → Script Y) (later : (x : X) → Q x → AllGive P (next x)) where
  pub then_give : (s : Script X) → AllGive Q s → AllGive P (and_then s next)
  then_give (Gives x) all = later x all
  then_give (Changing change goes_on) all = λ heard. then_give (goes_on heard) (all heard)
  then_give (ChangingAll changes goes_on) all = λ heard. then_give (goes_on heard) (all heard)
  then_give (Asking query goes_on) all = λ heard. then_give (goes_on heard) (all heard)
  then_give (Routing from facts goes_on) all = λ heard. then_give (goes_on heard) (all heard)
  then_give (AskingPresence number goes_on) all = λ heard. then_give (goes_on heard) (all heard)
  then_give (Noting history s) all = then_give s all
  then_give (Framing bytes goes_on) all = λ incoming. then_give (goes_on incoming) (all incoming)
  then_give (Calling message goes_on) all = λ reading. then_give (goes_on reading) (all reading)
  then_give (Gating call s) all = then_give s all
  then_give (Wanting goes_on) all = λ granted. then_give (goes_on granted) (all granted)
  then_give (Requiring holds s) all = then_give s all
  then_give (Doing deed s) all = then_give s all
  then_give (Announcing signals s) all = then_give s all

-- what holds of everything holds of what a script gives
module _ {X : Type 0} (P : X → Type 0) (each : (x : X) → P x) where
  pub all_give : (s : Script X) → AllGive P s
  all_give (Gives x) = each x
  all_give (Changing change goes_on) = λ heard. all_give (goes_on heard)
  all_give (ChangingAll changes goes_on) = λ heard. all_give (goes_on heard)
  all_give (Asking query goes_on) = λ heard. all_give (goes_on heard)
  all_give (Routing from facts goes_on) = λ heard. all_give (goes_on heard)
  all_give (AskingPresence number goes_on) = λ heard. all_give (goes_on heard)
  all_give (Noting history s) = all_give s
  all_give (Framing bytes goes_on) = λ incoming. all_give (goes_on incoming)
  all_give (Calling message goes_on) = λ reading. all_give (goes_on reading)
  all_give (Gating call s) = all_give s
  all_give (Wanting goes_on) = λ granted. all_give (goes_on granted)
  all_give (Requiring holds s) = all_give s
  all_give (Doing deed s) = all_give s
  all_give (Announcing signals s) = all_give s

module _ {X : Type 0} (P Q : X → Type 0) (weaker : (x : X) → P x → Q x) where
  pub weaker_give : (s : Script X) → AllGive P s → AllGive Q s
  weaker_give (Gives x) all = weaker x all
  weaker_give (Changing change goes_on) all = λ heard. weaker_give (goes_on heard) (all heard)
  weaker_give (ChangingAll changes goes_on) all = λ heard. weaker_give (goes_on heard) (all heard)
  weaker_give (Asking query goes_on) all = λ heard. weaker_give (goes_on heard) (all heard)
  weaker_give (Routing from facts goes_on) all = λ heard. weaker_give (goes_on heard) (all heard)
  weaker_give (AskingPresence number goes_on) all = λ heard. weaker_give (goes_on heard) (all heard)
  weaker_give (Noting history s) all = weaker_give s all
  weaker_give (Framing bytes goes_on) all = λ incoming. weaker_give (goes_on incoming) (all incoming)
  weaker_give (Calling message goes_on) all = λ reading. weaker_give (goes_on reading) (all reading)
  weaker_give (Gating call s) all = weaker_give s all
  weaker_give (Wanting goes_on) all = λ granted. weaker_give (goes_on granted) (all granted)
  weaker_give (Requiring holds s) all = weaker_give s all
  weaker_give (Doing deed s) all = weaker_give s all
  weaker_give (Announcing signals s) all = weaker_give s all

pub if_give : {X : Type 0} (P : X → Type 0) (b : Bool) (s t : Script X) → AllGive P s → AllGive P t → AllGive P (if b then s else t)
if_give P true s t all other = all
if_give P false s t all other = other

pub putting_give : {X : Type 0} (P : X → Type 0) (to : List Conn) (said : Said) (s : Script X) → AllGive P s → AllGive P (putting to said s)
putting_give P [] said s all = all
putting_give P (conn ∷ conns) said s all = all
