-- Mail puts nothing, and closes nothing.
use Rattle.std.proofs.Common.{◌≡◌, ℕ, Bool, Option, Some, None, option_map, position, List, [], ◌∷◌, ◌++◌, refl, sym, ap, ◌∙◌, subst, append-nil}
use Rattle.seq_bus_core.specs.Histories.{History}
use Rattle.message_core.specs.Messages.{Message}
use Rattle.outbox_core.specs.Contents.{Said, Relays, Tells, said_of}
use Rattle.outbox_core.specs.declared.envelope.Envelope.{Envelope}
use Rattle.router_core.specs.declared.action.Action.{Action}
use Rattle.router_core.specs.declared.action.Action.TheVariants.{Write, Put, Close, Run}
use Rattle.router_core.specs.declared.event.Event.TheVariants.{Mail}
use Rattle.router_core.specs.Acts.{State, Brings}
use Rattle.router_core.specs.Deeds.{GatedCall, Writes, Sends, IsDoneBy}
use Rattle.router_core.specs.Events.{writing, for_peer, mail_delivery, after_note}
use Rattle.router_core.specs.Scripts.{World, Comes}
use Rattle.router_core.specs.Standing.{Peer, Standing, peer_at, is_conn}
use Rattle.busd_core.specs.Happenings.{mails_of, closed_by}

module _ {N : Type 0} (seat key : ℕ) where
  abbrev pub IsQuiet : List (Action N) → Type 0
  IsQuiet actions = (mails_of seat actions ≡ []) × (closed_by key actions ≡ None)

  writes : (action : Action N) (to : ℕ) (bytes : List ℕ) → IsDoneBy action (Writes to bytes) → IsQuiet (action ∷ [])
  writes (Write k held) to bytes h = (refl, refl)
  writes (Put conns carried content) to bytes h = absurd (cc)
  writes (Close k cause) to bytes h = absurd (cc)
  writes (Run name start) to bytes h = absurd (cc)

  sends : (action : Action N) (to : ℕ) (message : Message) → IsDoneBy action (Sends to message) → IsQuiet (action ∷ [])
  sends (Write k held) to message h = (refl, refl)
  sends (Put conns carried content) to message h = absurd (cc)
  sends (Close k cause) to message h = absurd (cc)
  sends (Run name start) to message h = absurd (cc)

module _ {N G : Type 0} (told : N → History) (registry_of : N → ℕ) (passes : G → GatedCall → G → Type 0) (alone : Bool) (seat key : ℕ) where
  -- what was done between is quiet
  pub record Adds (w v : World N G) : Type 0 where
    pub more : List (Action N)
    pub quiet : IsQuiet seat key more
    pub grown : v.actions ≡ w.actions ++ more

  nothing : (w v : World N G) → v ≡ w → Adds w v
  nothing w v same = record { more = []; quiet = (refl, refl); grown = ap (λ (k : World N G). k.actions) same ∙ sym (append-nil w.actions) }

  by_peer : (s t : Standing) (to : ℕ) (said : Said) (peer : Option Peer) (w v : World N G) → Comes told registry_of passes alone (for_peer s to peer (writing to said)) w t v → Adds w v
  by_peer s t to said None w v comes = nothing w v comes.1
  by_peer s t to (Relays bytes) (Some p) w v comes =
      let does = comes.1 in
      record { more = does.action ∷ []; quiet = writes seat key does.action to bytes does.done; grown = ap (λ (k : World N G). k.actions) (comes.2.1 ∙ does.rest) }
  by_peer s t to (Tells own) (Some p) w v comes =
      let does = comes.1 in
      record { more = does.action ∷ []; quiet = sends seat key does.action to _ does.done; grown = ap (λ (k : World N G). k.actions) (comes.2.1 ∙ does.rest) }

  by_found : (s t : Standing) (said : Said) (found : Option ℕ) (w v : World N G) → Comes told registry_of passes alone (mail_delivery s said found) w t v → Adds w v
  by_found s t said None w v comes = nothing w v comes.1
  by_found s t said (Some to) w v comes = by_peer s t to said (peer_at s to) w v comes

  pub mail_is_quiet : (before after : State G) (slot : ℕ) (envelope : Envelope N) (actions : List (Action N)) → envelope.note ≡ None → Brings told registry_of passes alone before (Mail slot envelope) actions after → IsQuiet seat key actions
  mail_is_quiet before after slot envelope actions none brings =
      let s = before.standing in
      let said = said_of envelope.content in
      let found : Option ℕ = position (is_conn slot envelope.number) s.peers in
      let w : World N G = record { view = before.view; gate = before.gate; actions = [] } in
      let comes = subst (λ (note : Option N). Comes told registry_of passes alone (after_note (option_map told note) (mail_delivery s said found)) w after.standing brings.ends) none brings.comes in
      let adds = by_found s after.standing said found w brings.ends comes in
      subst (IsQuiet seat key) (sym (brings.done ∙ adds.grown)) adds.quiet
