use Rattle.std.proofs.Common.{◌++◌, List, ℕ, IfOk, sym, subst}
use Rattle.router_core.specs.Incoming.{Waits, Faulty}
use Rattle.router_steps.specs.declared.incoming.More.{More}
use Rattle.router_steps.specs.Pending.{pending_bytes}
use Rattle.router_steps.specs.Reading.{HasMore}
use Rattle.router_steps.specs.Upcoming.{IsComing}
use Rattle.router_steps.proofs.Pendings.{incoming_is, incoming_pending, fault_is_there}
use Rattle.router_steps.proofs.peer.Peer.is_coming.Goals as goal
use Rattle.router_steps.proofs.peer.Peer.is_coming.Goals.{in-Waits, in-Faulty, in-Pending}

pub returns-clause-ok : goal.returns-clause-ok
returns-clause-ok c =
    let p = c.args.self.now in
    let at = c.self.inside.stage in
    let bytes : List ℕ = pending_bytes c.self.inside.pending.items ++ c.self.inside.unread.bytes in
    let serial = c.self.inside.serial in
    let watches = c.self.inside.watches in
    let pending = c.fill.new.pending.items in
    let unread = c.fill.new.unread.bytes in
    let now : List ℕ = pending_bytes pending ++ unread in
    let more = c.in_ok-fill.ensures.more in
    elim c.match-branch-2.branch [
      | in-Waits w ↦
          let there = subst (λ (m : More). HasMore m pending now) w.in-Waits.is more in
          subst (λ r. IfOk r (λ coming. IsComing coming p)) (sym w.result-is) (incoming_is at bytes serial watches p c.self.view_is c.requires now Waits c.fill.ensures.bytes there)
      | in-Faulty w ↦
          let fault = w.in-Faulty.field-0 in
          let there = subst (λ (m : More). HasMore m pending now) w.in-Faulty.is more in
          subst (λ r. IfOk r (λ coming. IsComing coming p)) (sym w.result-is) (Faulty fault, incoming_is at bytes serial watches p c.self.view_is c.requires now (Faulty fault) c.fill.ensures.bytes there, fault_is_there fault)
      | in-Pending w ↦
          let some = subst (λ (m : More). HasMore m pending now) w.in-Pending.is more in
          subst (λ r. IfOk r (λ coming. IsComing coming p)) (sym w.result-is) (incoming_pending at bytes serial watches p c.self.view_is c.requires pending unread c.fill.ensures.bytes c.fill.ensures.within some)
    ]
