-- One turn of what is done for each of several.
use Rattle.std.proofs.Common.{◌≡◌, ℕ, ◌+◌, ◌<◌, Bool, List, ◌∷◌, length, get_or, drop, sym, subst}
use Rattle.std.proofs.lemmas.List.{drop_more}
use Rattle.seq_bus_core.specs.Histories.{History}
use Rattle.seq_bus_core.specs.declared.connection.Conn.{Conn}
use Rattle.seq_bus_core.specs.declared.error_kind.ErrorKind.{ErrorKind}
use Rattle.seq_bus_core.specs.declared.ticket.SettledTicket.{SettledTicket}
use Rattle.router_core.specs.Deeds.{GatedCall}
use Rattle.router_core.specs.Events.{leaving, leaving_each}
use Rattle.router_core.specs.Scripts.{World, Comes}
use Rattle.router_core.specs.Serving.{failing, failing_all, releasing, releasing_all}
use Rattle.router_core.specs.Standing.{Standing}
use Rattle.router_steps.proofs.Sequels.{comes_then}

module _ {N G : Type 0} (told : N → History) (registry_of : N → ℕ) (passes : G → GatedCall → G → Type 0) (alone : Bool) (w m v : World N G) where
  -- the Leave of the next number, then those of the rest
  pub leaves_more : (numbers : List ℕ) (i : ℕ) → i < length numbers → (before after end : Standing) →
      Comes told registry_of passes alone (leaving before (get_or numbers i 0)) w after m → Comes told registry_of passes alone (leaving_each (drop (i + 1) numbers) after) m end v →
      Comes told registry_of passes alone (leaving_each (drop i numbers) before) w end v
  leaves_more numbers i inside before after end this later =
      subst (λ ns. Comes told registry_of passes alone (leaving_each ns before) w end v) (sym (drop_more numbers i 0 inside))
      (comes_then told registry_of passes alone (λ t. leaving_each (drop (i + 1) numbers) t) after m end v later (leaving before (get_or numbers i 0)) w this)

  -- the next call that waited is released, then the rest
  pub releases_more : (owner : Conn) (t : SettledTicket) (rest tickets : List SettledTicket) → tickets ≡ t ∷ rest →
      Comes told registry_of passes alone (releasing owner t.ticket t.ticket.message) w tt m → Comes told registry_of passes alone (releasing_all owner rest) m tt v →
      Comes told registry_of passes alone (releasing_all owner tickets) w tt v
  releases_more owner t rest tickets is this later =
      subst (λ ts. Comes told registry_of passes alone (releasing_all owner ts) w tt v) (sym is)
      (comes_then told registry_of passes alone (λ done. releasing_all owner rest) tt m tt v later (releasing owner t.ticket t.ticket.message) w this)

  -- the next call that waited is answered an error, then the rest
  pub fails_more : (error : ErrorKind) (t : SettledTicket) (rest tickets : List SettledTicket) → tickets ≡ t ∷ rest →
      Comes told registry_of passes alone (failing error t.ticket) w tt m → Comes told registry_of passes alone (failing_all error rest) m tt v →
      Comes told registry_of passes alone (failing_all error tickets) w tt v
  fails_more error t rest tickets is this later =
      subst (λ ts. Comes told registry_of passes alone (failing_all error ts) w tt v) (sym is)
      (comes_then told registry_of passes alone (λ done. failing_all error rest) tt m tt v later (failing error t.ticket) w this)
