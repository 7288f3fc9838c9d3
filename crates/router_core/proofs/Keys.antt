-- Keys of connections.
use Rattle.std.proofs.Common.{◌≡◌, ◌≢◌, ℕ, Option, None, Some, List, get_or, refl, sym, ap, ◌∙◌}
use Rattle.seq_bus_core.specs.declared.connection.Conn.{Conn}
use Rattle.seq_bus_core.specs.declared.outcome.Outcome.{Outcome}
use Rattle.bus_view.specs.declared.view.BusView.{Ghosts as BusView}
use Rattle.router_core.specs.declared.gate.Gate.{Ghosts as Gate}
use Rattle.router_core.specs.Answers.{Heard, Says, Refuses}
use Rattle.router_core.specs.Events.{after_leave, leaving_of, removing}
use Rattle.router_core.specs.Laws.{ComersHaveTheirKeys, GoneKeysAreFree}
use Rattle.router_core.specs.Scripts.{World, RunsTo}
use Rattle.router_core.specs.Standing.{Peer, Standing, IsFree, peer_at, without_peer, vacated, newcomer, first_stage, conn_of}
use Rattle.router_core.proofs.Trimmed.{get-placed, get-placed_other, get-vacated, get-vacated_other}

pub comers_have_their_keys : ComersHaveTheirKeys
comers_have_their_keys s key challenge =
    let new = newcomer (first_stage s.login challenge) in
    (get-placed s.peers key new, λ other differs. get-placed_other s.peers key other new differs)

module _ {V N R G : Type 0} (view : BusView V N R) (gate : Gate G) (s t : Standing) (key : ℕ) (v : World N G) where
  abbrev IsGone : Type 0
  IsGone = IsFree t key × ((other : ℕ) → other ≢ key → peer_at t other ≡ peer_at s other)

  gone_by : t.peers ≡ vacated s.peers key → IsGone
  gone_by is = (
    ap (λ (os : List (Option Peer)). get_or os key None) is ∙ get-vacated s.peers key,
    λ other differs. ap (λ (os : List (Option Peer)). get_or os other None) is ∙ get-vacated_other s.peers key other differs,
  )

  gone_heard : (number : ℕ) (w : World N G) (heard : Heard Outcome) → RunsTo view gate (after_leave (without_peer s key) number heard) w t v → IsGone
  gone_heard number w (Says o) comes = gone_by (ap (λ (x : Standing). x.peers) comes.2.0)
  gone_heard number w (Refuses refusal) comes = gone_by (ap (λ (x : Standing). x.peers) comes.0)

  gone_of : (w : World N G) (conn : Option Conn) → RunsTo view gate (leaving_of (without_peer s key) conn) w t v → IsGone
  gone_of w None comes = gone_by (ap (λ (x : Standing). x.peers) comes.0)
  gone_of w (Some conn) comes = gone_heard conn.number comes.1 comes.0 comes.3

  gone_from : (w : World N G) (peer : Option Peer) → peer_at s key ≡ peer → RunsTo view gate (removing s key peer) w t v → IsGone
  gone_from w None none comes =
      let same : t.peers ≡ s.peers = ap (λ (x : Standing). x.peers) comes.0 in
      (ap (λ (os : List (Option Peer)). get_or os key None) same ∙ none, λ other differs. ap (λ (os : List (Option Peer)). get_or os other None) same)
  gone_from w (Some p) there comes = gone_of w (conn_of p.stage) comes

pub gone_keys_are_free : {V N R G : Type 0} (view : BusView V N R) (gate : Gate G) → GoneKeysAreFree view gate
gone_keys_are_free view gate s t key w v comes = gone_from view gate s t key v w (peer_at s key) refl comes
