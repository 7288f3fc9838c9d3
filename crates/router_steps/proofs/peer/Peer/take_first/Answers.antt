use Rattle.std.proofs.Common.{◌≡◌, ◌++◌, List, ℕ, sym, ap, ◌∙◌, subst}
use Rattle.message_core.specs.Said.{said}
use Rattle.router_core.specs.Standing.{Peer, next_serial}
use Rattle.router_steps.specs.Pending.{pending_bytes}
use Rattle.router_steps.specs.Refusing.{AreRefusals}
use Rattle.router_steps.specs.Stages.{unread_at}
use Rattle.router_steps.proofs.Pendings.{incoming_taken, rest_is}
use Rattle.router_steps.proofs.peer.Peer.take_first.Goals as goal

pub returns-in-Ok-clause-ok : goal.returns-in-Ok-clause-ok
returns-in-Ok-clause-ok c =
    let p = c.args.self.now in
    let at = c.self.inside.stage in
    let bytes : List ℕ = pending_bytes c.self.inside.pending.items ++ c.self.inside.unread.bytes in
    let serial = c.self.inside.serial in
    let watches = c.self.inside.watches in
    let pending = c.fill.new.pending.items in
    let unread = c.fill.new.unread.bytes in
    let left = c.pop_front.new.self.items in
    let incoming = incoming_taken at bytes serial watches p c.self.view_is c.requires pending left c.in-Some.message unread c.fill.ensures.bytes c.in-Some.ensures.items c.fill.ensures.within in
    let serial_is : c.serial_after.result ≡ next_serial p.serial = c.serial_after.ensures.value ∙ ap (λ (x : Peer). next_serial x.serial) c.self.view_is in (
      incoming,
      rest_is at bytes serial watches p c.self.view_is c.requires (unread_at at (pending_bytes left ++ unread)),
      sym c.if-not-is_hello.ensures,
      subst (λ (n : ℕ). AreRefusals (said c.in-Some.message) n c.in-Ok.errors) serial_is c.in-Ok.ensures,
    )
