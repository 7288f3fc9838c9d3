-- What comes of a Hello that is answered an error.
use Rattle.std.proofs.Common.{◌≡◌, ℕ, Bool, true, Some, List, [], ◌∷◌, refl, sym, ◌∙◌, subst, if◌then◌else◌}
use Rattle.seq_bus_core.specs.Histories.{History}
use Rattle.seq_bus_core.specs.declared.connection.Conn.{Conn}
use Rattle.seq_bus_core.specs.declared.error_kind.ErrorKind.{ErrorKind}
use Rattle.seq_bus_core.specs.declared.verdict.Verdict.{Verdict}
use Rattle.message_core.specs.Messages.{Message}
use Rattle.message.specs.FactsOf.{facts_of}
use Rattle.driver.specs.Calls.{expects_reply}
use Rattle.outbox_core.specs.Contents.{Said, Own, Tells, Errs, bus_message}
use Rattle.outbox_core.specs.Deliveries.{deliveries_of}
use Rattle.router_core.specs.Answers.{Heard}
use Rattle.router_core.specs.Deeds.{GatedCall, Sends}
use Rattle.router_core.specs.Events.{OfPeer, for_entry, refusing_routed, refusing_hello}
use Rattle.router_core.specs.Scripts.{Gives, Routing, World, Routes, Does, Comes, putting}
use Rattle.router_core.specs.Serving.{nothing, monitors_in}
use Rattle.router_core.specs.Standing.{Peer, next_serial}
use Rattle.router_steps.specs.Refusing.{hello_of}
use Rattle.router_steps.proofs.Sequels.{comes_then}
use Rattle.router_steps.proofs.Signing.{deliveries_of_none}

module _ {N G : Type 0} (told : N → History) (registry_of : N → ℕ) (passes : G → GatedCall → G → Type 0) (alone : Bool) where
  put_then : (to : List Conn) (said : Said) (q : Peer) (w n : World N G) → Comes told registry_of passes alone (putting to said nothing) w tt n → Comes told registry_of passes alone (putting to said (Gives q)) w q n
  put_then [] said q w n p = (refl, p.1)
  put_then (conn ∷ conns) said q w n p = (p.0, p.1, (refl, p.2.1))

  -- the error is written, and put to the monitors
  pub refused : (key : ℕ) (own : Own) (p : Peer) (w r s n : World N G) (heard : Heard Verdict) (monitors : List Conn) → Routes alone 0 (facts_of (bus_message 1 own)) w heard r → monitors ≡ monitors_in heard →
      Does told registry_of alone (Sends key (bus_message (next_serial p.serial) own)) r s → Comes told registry_of passes alone (putting (deliveries_of [] monitors) (Tells own) nothing) s tt n →
      Comes told registry_of passes alone (Routing 0 (facts_of (bus_message 1 own)) (λ (h : Heard Verdict). refusing_routed key own p h)) w (record p { serial = next_serial p.serial }) n
  refused key own p w r s n heard monitors routes are does put =
      let to_monitors = subst (λ (to : List Conn). Comes told registry_of passes alone (putting to (Tells own) nothing) s tt n) (deliveries_of_none monitors ∙ are) put in
      (heard, r, routes, (s, does, put_then (monitors_in heard) (Tells own) (record p { serial = next_serial p.serial }) s n to_monitors))

  -- a Hello that wants an answer
  pub refused_with : (key : ℕ) (m : Message) (error : ErrorKind) (own : Own) (p q : Peer) (w n : World N G) → expects_reply m ≡ true → own ≡ Errs (hello_of m) error →
      Comes told registry_of passes alone (Routing 0 (facts_of (bus_message 1 own)) (λ (h : Heard Verdict). refusing_routed key own p h)) w q n → Comes told registry_of passes alone (refusing_hello key m error p) w q n
  refused_with key m error own p q w n wants is done =
      subst (λ (b : Bool). Comes told registry_of passes alone (if b then Routing 0 (facts_of (bus_message 1 (Errs (hello_of m) error))) (λ (h : Heard Verdict). refusing_routed key (Errs (hello_of m) error) p h) else Gives p) w q n) (sym wants)
      (subst (λ (o : Own). Comes told registry_of passes alone (Routing 0 (facts_of (bus_message 1 o)) (λ (h : Heard Verdict). refusing_routed key o p h)) w q n) is done)

  pub for_there : (p q : Peer) (work : Peer → OfPeer) (w n : World N G) → Comes told registry_of passes alone (work p) w q n → Comes told registry_of passes alone (for_entry (Some p) work) w (Some q) n
  for_there p q work w n done = comes_then told registry_of passes alone (λ (r : Peer). Gives (Some r)) q n (Some q) n (refl, refl) (work p) w done
