-- Who comes, bytes and mail ask for no change.
use Rattle.std.proofs.Common.{◌≡◌, ℕ, Bool, true, false, Option, Some, None, List, [], ◌∷◌, ◌++◌, position, option_map, sym}
use Rattle.std.proofs.lemmas.Bool.{true≢false}
use Rattle.seq_bus_core.specs.Histories.{History}
use Rattle.sasl.specs.declared.phase.Phase.{Phase}
use Rattle.sasl.specs.declared.phase.Phase.TheVariants.{WaitingForNul, WaitingForAuth, WaitingForData, WaitingForBegin, Done, Closed}
use Rattle.sasl.specs.Settings.{Setting}
use Rattle.sasl.specs.Hearing.{Conversed, conversed}
use Rattle.outbox_core.specs.Contents.{Said, Relays, Tells, said_of}
use Rattle.bus_view.specs.declared.view.BusView.{Ghosts as BusView}
use Rattle.router_core.specs.declared.event.Event.{Event}
use Rattle.router_core.specs.declared.event.Event.TheVariants as event
use Rattle.router_core.specs.Changing.{may_change, AsksForNoChange, OthersChangeNothing}
use Rattle.router_core.specs.Events.{OfPeer, Stands, for_entry, for_peer, answering, after_conversing, conversing_if, hearing, writing, mail_delivery, after_note, occasion_of, script}
use Rattle.router_core.specs.Scripts.{Script, Gives, Changing, ChangingAll, Asking, Routing, AskingPresence, Noting, Framing, Calling, Gating, Wanting, Requiring, Doing, Announcing, and_then}
use Rattle.router_core.specs.Standing.{Stage, Authenticating, Unnamed, Named, Closing, Peer, Standing, peer_at, with_peer, is_conn}

quiet_then : {X Y : Type 0} (s : Script X) (next : X → Script Y) → AsksForNoChange s → ((x : X) → AsksForNoChange (next x)) → AsksForNoChange (and_then s next)
quiet_then (Gives x) next quiet then_quiet = then_quiet x
quiet_then (Changing change goes_on) next quiet then_quiet = absurd quiet
quiet_then (ChangingAll changes goes_on) next quiet then_quiet = absurd quiet
quiet_then (Asking query goes_on) next quiet then_quiet = λ heard. quiet_then (goes_on heard) next (quiet heard) then_quiet
quiet_then (Routing from facts goes_on) next quiet then_quiet = λ heard. quiet_then (goes_on heard) next (quiet heard) then_quiet
quiet_then (AskingPresence number goes_on) next quiet then_quiet = λ heard. quiet_then (goes_on heard) next (quiet heard) then_quiet
quiet_then (Noting told s) next quiet then_quiet = quiet_then s next quiet then_quiet
quiet_then (Framing bytes goes_on) next quiet then_quiet = λ incoming. quiet_then (goes_on incoming) next (quiet incoming) then_quiet
quiet_then (Calling m goes_on) next quiet then_quiet = λ reading. quiet_then (goes_on reading) next (quiet reading) then_quiet
quiet_then (Gating call s) next quiet then_quiet = quiet_then s next quiet then_quiet
quiet_then (Wanting goes_on) next quiet then_quiet = λ granted. quiet_then (goes_on granted) next (quiet granted) then_quiet
quiet_then (Requiring holds s) next quiet then_quiet = quiet_then s next quiet then_quiet
quiet_then (Doing deed s) next quiet then_quiet = quiet_then s next quiet then_quiet
quiet_then (Announcing signals s) next quiet then_quiet = quiet_then s next quiet then_quiet

-- what is done for a connection asks for no change, if it is there
quiet_for : (s : Standing) (key : ℕ) (peer : Option Peer) (work : Peer → OfPeer) → ((p : Peer) → AsksForNoChange (work p)) → AsksForNoChange (for_peer s key peer work)
quiet_for s key None work quiet = tt
quiet_for s key (Some p) work quiet =
    quiet_then (for_entry (Some p) work) (λ q. Gives (with_peer s key q)) (quiet_then (work p) (λ q. Gives (Some q)) (quiet p) (λ q. tt)) (λ q. tt)

quiet_answer : (key : ℕ) (bytes : List ℕ) (s : OfPeer) → AsksForNoChange s → AsksForNoChange (answering key bytes s)
quiet_answer key [] s quiet = quiet
quiet_answer key (b ∷ bytes) s quiet = quiet

quiet_conversation : (key : ℕ) (setting : Setting) (said : Conversed) (phase : Phase) (p : Peer) → AsksForNoChange (after_conversing key setting said phase p)
quiet_conversation key setting said WaitingForNul p = tt
quiet_conversation key setting said WaitingForAuth p = tt
quiet_conversation key setting said (WaitingForData awaited) p = tt
quiet_conversation key setting said (WaitingForBegin identity) p = tt
quiet_conversation key setting said (Done identity) p = tt
quiet_conversation key setting said (Closed fault) p = tt

quiet_lines : (key : ℕ) (setting : Setting) (said : Conversed) (p : Peer) (granted : Bool) → AsksForNoChange (conversing_if key setting said p granted)
quiet_lines key setting said p true =
    quiet_answer key said.sent (after_conversing key setting said said.state.phase p) (quiet_conversation key setting said said.state.phase p)
quiet_lines key setting said p false = tt

quiet_hearing : (key : ℕ) (piece : List ℕ) (p : Peer) (stage : Stage) → AsksForNoChange (hearing key piece p stage)
quiet_hearing key piece p (Authenticating setting state) = λ granted. quiet_lines key setting (conversed setting state [] (p.unread ++ piece)) p granted
quiet_hearing key piece p (Unnamed privileged) = tt
quiet_hearing key piece p (Named conn) = tt
quiet_hearing key piece p (Closing conn) = tt

quiet_writing : (key : ℕ) (said : Said) (p : Peer) → AsksForNoChange (writing key said p)
quiet_writing key (Relays bytes) p = tt
quiet_writing key (Tells own) p = tt

quiet_mail : (s : Standing) (said : Said) (key : Option ℕ) → AsksForNoChange (mail_delivery s said key)
quiet_mail s said None = tt
quiet_mail s said (Some key) = quiet_for s key (peer_at s key) (writing key said) (quiet_writing key said)

quiet_note : (told : Option History) (s : Stands) → AsksForNoChange s → AsksForNoChange (after_note told s)
quiet_note None s quiet = quiet
quiet_note (Some told) s quiet = quiet

pub others_change_nothing : {V N R : Type 0} (view : BusView V N R) → OthersChangeNothing view
others_change_nothing {N = N} view s e other = by_event e other
  where
    by_event : (e : Event N) → may_change e ≡ false → AsksForNoChange (script s (occasion_of view.told e))
    by_event (event.Opened key challenge) is = tt
    by_event (event.Bytes key piece) is = quiet_for s key (peer_at s key) (λ p. hearing key piece.items p p.stage) (λ p. quiet_hearing key piece.items p p.stage)
    by_event (event.Mail slot envelope) is =
        quiet_note (option_map view.told envelope.note) (mail_delivery s (said_of envelope.content) (position (is_conn slot envelope.number) s.peers))
        (quiet_mail s (said_of envelope.content) (position (is_conn slot envelope.number) s.peers))
    by_event (event.Next key) is = absurd (true≢false is)
    by_event (event.Turn keys) is = absurd (true≢false is)
    by_event (event.Closed key) is = absurd (true≢false is)
    by_event (event.Full number) is = absurd (true≢false is)
    by_event (event.Child end) is = absurd (true≢false is)
    by_event event.Tick is = absurd (true≢false is)
