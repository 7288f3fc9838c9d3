-- What comes of a Hello.
use Rattle.std.proofs.Common.{◌≡◌, ℕ, Bool, false, Option, Some, None, position, refl, sym, subst}
use Rattle.seq_bus_core.specs.Histories.{History}
use Rattle.seq_bus_core.specs.declared.connection.Conn.{Conn}
use Rattle.seq_bus_core.specs.declared.outcome.Outcome.{Outcome}
use Rattle.seq_bus_core.specs.declared.outcome.Reply.{Reply}
use Rattle.seq_bus_core.specs.declared.outcome.Reply.TheVariants.{Welcome}
use Rattle.message_core.specs.Messages.{Message}
use Rattle.router_core.specs.declared.cause.CloseCause.TheVariants as cause
use Rattle.router_core.specs.Deeds.{GatedCall}
use Rattle.router_core.specs.Events.{closing, for_entry, for_peer, closing_if_found, closing_former, greeting, dismissal, after_hello_by}
use Rattle.router_core.specs.Scripts.{Gives, World, Comes, and_then}
use Rattle.router_core.specs.Standing.{Stage, Authenticating, Unnamed, Named, Closing, Peer, Standing, SpeaksDBus, peer_at, with_peer, has_slot}
use Rattle.router_steps.proofs.Sequels.{comes_then}
use Rattle.router.specs.Indexed.{IsNameless, AwaitsHello}
use Rattle.router.specs.Welcomes.{welcome_conn}

-- one without a name has begun its messages
pub speaks : (stage : Stage) → AwaitsHello stage → SpeaksDBus stage
speaks (Authenticating setting state) unnamed = absurd unnamed
speaks (Unnamed privileged) unnamed = tt
speaks (Named conn) unnamed = absurd unnamed
speaks (Closing conn) unnamed = absurd unnamed

-- the connection that is there
pub nameless_peer : (o : Option Peer) → IsNameless o → (p : Peer) × (o ≡ Some p)
nameless_peer None nameless = absurd nameless
nameless_peer (Some p) nameless = (p, refl)

-- it has begun its messages
pub nameless_speaks : (p : Peer) → IsNameless (Some p) → SpeaksDBus p.stage
nameless_speaks p nameless = speaks p.stage nameless

-- it has no slot
pub nameless_slot : (slot : ℕ) (o : Option Peer) → IsNameless o → has_slot slot o ≡ false
nameless_slot slot None nameless = refl
nameless_slot slot (Some p) nameless = by_stage p.stage nameless
  where
    by_stage : (stage : Stage) → AwaitsHello stage → has_slot slot (Some (record p { stage = stage })) ≡ false
    by_stage (Authenticating setting state) unnamed = absurd unnamed
    by_stage (Unnamed privileged) unnamed = refl
    by_stage (Named conn) unnamed = absurd unnamed
    by_stage (Closing conn) unnamed = absurd unnamed

module _ {N G : Type 0} (told : N → History) (registry_of : N → ℕ) (passes : G → GatedCall → G → Type 0) (alone : Bool) where
  -- whoever had the slot is closed
  pub closes_former : (s : Standing) (conn : Conn) (key : ℕ) (q : Option Peer) (w n : World N G) → position (has_slot conn.slot) s.peers ≡ Some key →
      Comes told registry_of passes alone (for_entry (peer_at s key) (λ (p : Peer). closing key cause.Left p)) w q n → Comes told registry_of passes alone (closing_former s conn) w (with_peer s key q) n
  closes_former s conn key q w n some done =
      subst (λ (found : Option ℕ). Comes told registry_of passes alone (closing_if_found s found) w (with_peer s key q) n) (sym some)
      (comes_then told registry_of passes alone (λ (o : Option Peer). Gives (with_peer s key o)) q n (with_peer s key q) n (refl, refl) (for_entry (peer_at s key) (λ (p : Peer). closing key cause.Left p)) w done)

  module _ (s : Standing) (key : ℕ) (m : Message) (p : Peer) (o : Outcome) (w : World N G) (t : Standing) (v : World N G) where
    pub is_welcome : (reply : Reply) (conn : Conn) → welcome_conn reply ≡ Some conn → Comes told registry_of passes alone (and_then (closing_former s conn) (λ (u : Standing). greeting key m p o conn u)) w t v →
        Comes told registry_of passes alone (after_hello_by s key m p o reply) w t v
    is_welcome (Welcome c) conn is done =
        let same : conn ≡ c = cc in
        subst (λ (d : Conn). Comes told registry_of passes alone (and_then (closing_former s d) (λ (u : Standing). greeting key m p o d u)) w t v) same done
    is_welcome other conn is done = let never : ⊥ = cc in absurd never

    pub is_turned_away : (reply : Reply) → welcome_conn reply ≡ None → Comes told registry_of passes alone (for_peer s key (Some p) (dismissal key m)) w t v → Comes told registry_of passes alone (after_hello_by s key m p o reply) w t v
    is_turned_away (Welcome c) is done = let never : ⊥ = cc in absurd never
    is_turned_away other is done = done
