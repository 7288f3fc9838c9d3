-- One delivery.
use Rattle.std.proofs.Common.{◌≡◌, ℕ, Bool, Option, List, [], ◌∷◌, ◌++◌, if◌then◌else◌, Ok, Err, refl, sym, ap, subst, append-nil}
use Rattle.std.proofs.KnownBytes.{Appends-nil}
use Rattle.std.proofs.lemmas.Bool.{ne_eqb, eq-eqb}
use Rattle.seq_bus_core.specs.Histories.{History}
use Rattle.seq_bus_core.specs.declared.connection.Conn.{Conn}
use Rattle.outbox_core.specs.Contents.{Said}
use Rattle.outbox_core.specs.declared.envelope.Envelope.{Envelope}
use Rattle.router_core.specs.declared.action.Action.{Action}
use Rattle.router_core.specs.declared.event.Event.TheVariants.{Mail}
use Rattle.router_core.specs.Acts.{State, Brings}
use Rattle.router_core.specs.Deeds.{GatedCall}
use Rattle.router.specs.OneEvent.{IsServedWell}
use Rattle.busd_core.specs.declared.run_fault.RunFault.{RunFault}
use Rattle.busd_core.specs.declared.run_fault.RunFault.TheVariants as fault
use Rattle.busd_core.specs.Happenings.{written_to, Delivery, mail_to, Carries, IsMailed, AreMailed}
use Rattle.busd_core.specs.Parts.{IsBrought, IsCutShort, Delivers}
use Rattle.busd_core.proofs.Quiet.{mail_is_quiet}

abbrev pub for_conn : Said → Conn → Delivery
for_conn said conn = record { slot = conn.slot; number = conn.number; said = said }

here : (seat : ℕ) (said : Said) (conn : Conn) → conn.router ≡ seat → mail_to seat said conn ≡ for_conn said conn ∷ []
here seat said conn same = ap (λ (b : Bool). if b then for_conn said conn ∷ [] else []) (eq-eqb conn.router seat same)

elsewhere : (seat : ℕ) (said : Said) (conn : Conn) → (conn.router ≡ seat → ⊥) → mail_to seat said conn ≡ []
elsewhere seat said conn other = ap (λ (b : Bool). if b then for_conn said conn ∷ [] else []) (ne_eqb conn.router seat other)

module _ {N G : Type 0} (told : N → History) (passes : G → GatedCall → G → Type 0) (alone : Bool) (seat key : ℕ) where
  pub not_here : (a : State G) (o : Option (List ℕ)) (said : Said) (conn : Conn) → (conn.router ≡ seat → ⊥) → Delivers told passes alone seat key a (mail_to seat said conn) o o a (Ok tt)
  not_here a o said conn other =
      subst (λ (ds : List Delivery). Delivers told passes alone seat key a ds o o a (Ok tt)) (sym (elsewhere seat said conn other)) ([], Appends-nil o, (refl, refl))

  -- there is no memory for it
  pub not_sent : (a : State G) (o : Option (List ℕ)) (ds : List Delivery) → Delivers told passes alone seat key a ds o o a (Err fault.Memory)
  not_sent a o ds = ([], Appends-nil o, ([], ds, refl, (refl, refl)))

  module _ (registry_of : N → ℕ) (a b : State G) (o p : Option (List ℕ)) (said : Said) (conn : Conn) (envelope : Envelope N) (carries : Carries envelope (for_conn said conn)) where
    mailed : (actions : List (Action N)) (written : List ℕ) → Brings told registry_of passes alone a (Mail conn.slot envelope) actions b →
        IsServedWell told passes alone a (Mail conn.slot envelope) actions b → written ≡ written_to key actions → AreMailed told passes alone seat key a (for_conn said conn ∷ []) written b
    mailed actions written brings serves is =
        let quiet = mail_is_quiet told registry_of passes alone seat key a b conn.slot envelope actions carries.note brings in
        let one : IsMailed told passes alone seat key a (for_conn said conn) written b =
        record { envelope = envelope; actions = actions; carries = carries; serves = serves; nothing = quiet.0; is_open = quiet.1; writes = is } in
        (b, written, [], one, (refl, refl), sym (append-nil written))

    pub sent : conn.router ≡ seat → (actions : List (Action N)) → IsBrought told registry_of passes alone key a (Mail conn.slot envelope) actions o p b → Delivers told passes alone seat key a (mail_to seat said conn) o p b (Ok tt)
    sent same actions brought =
        subst (λ (ds : List Delivery). Delivers told passes alone seat key a ds o p b (Ok tt)) (sym (here seat said conn same))
        (written_to key actions, brought.appends, mailed actions (written_to key actions) brought.brings brought.serves refl)

    pub sent_in_part : conn.router ≡ seat → (e : RunFault) → IsCutShort told registry_of passes alone key a (Mail conn.slot envelope) o p b e → Delivers told passes alone seat key a (mail_to seat said conn) o p b (Err e)
    sent_in_part same fault.Memory h = ([], h.1, ([], mail_to seat said conn, refl, (h.0, refl)))
    sent_in_part same fault.Output h =
        subst (λ (ds : List Delivery). Delivers told passes alone seat key a ds o p b (Err fault.Output)) (sym (here seat said conn same))
        (h.1, h.6, (h.2, (for_conn said conn ∷ [], [], refl, mailed h.0 (h.1 ++ h.2) h.3 h.4 (sym h.5))))
    sent_in_part same fault.Input h = absurd h
    sent_in_part same (fault.Closed cause) h = absurd h
