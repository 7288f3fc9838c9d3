-- The signals of a change, one after the other.
use Rattle.std.proofs.Common.{◌≡◌, Option, not, List, [], ◌∷◌, ◌++◌, filter, refl, sym, ap, ◌∙◌, append_assoc}
use mathlib.Core.List.{append-nil}
use Rattle.seq_bus_core.specs.Steps.{is_among}
use Rattle.seq_bus_core.specs.declared.connection.Conn.{Conn}
use Rattle.seq_bus_core.specs.declared.signal.AddressedSignal.{AddressedSignal}
use Rattle.outbox_core.specs.declared.bus_message.BusMessage.TheVariants.{Signal}
use Rattle.outbox_core.specs.declared.content.Content.TheVariants.{Own}
use Rattle.outbox_core.specs.Deliveries.{deliveries_of}
use Rattle.router_core.specs.declared.action.Action.{Action}
use Rattle.router_core.specs.declared.action.Action.TheVariants.{Put}
use Rattle.router_core.specs.Deeds.{announcement, put_of}
use Rattle.router_core.specs.Scripts.{World, having_done}

pub nothing_done : {N G : Type 0} (w : World N G) → having_done w [] ≡ w
nothing_done {N = N} w = ap (λ (actions : List (Action N)). record w { actions = actions }) (append-nil w.actions)

module _ {N : Type 0} (note : Option N) (s : AddressedSignal) where
  pub put_to_none : (s.to ≡ []) × (s.monitors ≡ []) → put_of note s (deliveries_of s.to s.monitors) ≡ []
  put_to_none none = ap (λ (to : List Conn). put_of note s (deliveries_of to s.monitors)) none.0 ∙ ap (λ (monitors : List Conn). put_of note s (deliveries_of [] monitors)) none.1

  pub put_to_some : (to monitors : List Conn) → ((to ≡ []) × (monitors ≡ []) → ⊥) → put_of note s (deliveries_of to monitors) ≡ Put (record { to = s.to; monitors = s.monitors }) note (Own (Signal s.signal)) ∷ []
  put_to_some (conn ∷ conns) monitors some = by (filter (λ m. not (is_among (conn ∷ conns) m)) monitors)
    where
      by : (shown : List Conn) → put_of note s (shown ++ (conn ∷ conns)) ≡ Put (record { to = s.to; monitors = s.monitors }) note (Own (Signal s.signal)) ∷ []
      by [] = refl
      by (m ∷ shown) = refl
  put_to_some [] (conn ∷ conns) some = refl
  put_to_some [] [] some = absurd (some (refl, refl))

  -- one signal more
  pub puts_more : {G : Type 0} (w m : World N G) (rest left : List AddressedSignal) → left ≡ s ∷ rest → m ≡ having_done w (put_of note s (deliveries_of s.to s.monitors)) →
      having_done m (announcement rest note) ≡ having_done w (announcement left note)
  puts_more {G = G} w m rest left is done =
      ap (λ (x : World N G). having_done x (announcement rest note)) done
      ∙ ap (λ (actions : List (Action N)). record w { actions = actions }) (append_assoc w.actions (put_of note s (deliveries_of s.to s.monitors)) (announcement rest note))
      ∙ ap (λ (all : List AddressedSignal). having_done w (announcement all note)) (sym is)
