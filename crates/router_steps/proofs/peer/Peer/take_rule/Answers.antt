use Rattle.std.proofs.Common.{◌≡◌, ◌++◌, List, ℕ, sym, ap, ◌∙◌, subst}
use Rattle.router_core.specs.Incoming.{Whole, Faulty}
use Rattle.router_core.specs.Standing.{Peer}
use Rattle.router_steps.specs.declared.incoming.More.{More}
use Rattle.router_steps.specs.Pending.{pending_bytes}
use Rattle.router_steps.specs.Reading.{HasMore}
use Rattle.router_steps.specs.Stages.{unread_at}
use Rattle.router_steps.proofs.Pendings.{taken, begun_at, incoming_is, incoming_taken, rest_is, kept_is, whole_is_there, fault_is_there}
use Rattle.router_steps.proofs.Stages.{messages_silent}
use Rattle.router_steps.proofs.peer.Peer.take_rule.Goals as goal

pub invariant_of-self-in-Some-read_rule_call : goal.invariant_of-self-in-Some-read_rule_call
invariant_of-self-in-Some-read_rule_call c =
    let p = c.args.self.now in
    let at = c.self.inside.stage in
    let bytes : List ℕ = pending_bytes c.self.inside.pending.items ++ c.self.inside.unread.bytes in
    let serial = c.self.inside.serial in
    let watches = c.self.inside.watches in
    let pending = c.fill.new.pending.items in
    let unread = c.fill.new.unread.bytes in
    let left = c.pop_front.new.self.items in (
      c.fill.ensures.fine,
      (taken pending left c.in-Some.message unread c.in-Some.ensures.items c.fill.ensures.within).within,
      messages_silent at (pending_bytes left ++ unread) (begun_at at bytes serial watches p c.self.view_is c.requires),
    )

pub returns-in-Faulty-clause-ok : goal.returns-in-Faulty-clause-ok
returns-in-Faulty-clause-ok c =
    let p = c.args.self.now in
    let at = c.self.inside.stage in
    let bytes : List ℕ = pending_bytes c.self.inside.pending.items ++ c.self.inside.unread.bytes in
    let serial = c.self.inside.serial in
    let watches = c.self.inside.watches in
    let pending = c.fill.new.pending.items in
    let unread = c.fill.new.unread.bytes in
    let now : List ℕ = pending_bytes pending ++ unread in
    let fault = c.in-Faulty.field-0 in
    let there = subst (λ (m : More). HasMore m pending now) c.in-Faulty.is c.in_ok-fill.ensures.more in
    ((Faulty fault, incoming_is at bytes serial watches p c.self.view_is c.requires now (Faulty fault) c.fill.ensures.bytes there, fault_is_there fault), kept_is at bytes serial watches p c.self.view_is c.requires now c.fill.ensures.bytes)

pub returns-in-Some-read_rule_call-clause-ok : goal.returns-in-Some-read_rule_call-clause-ok
returns-in-Some-read_rule_call-clause-ok c =
    let p = c.args.self.now in
    let at = c.self.inside.stage in
    let bytes : List ℕ = pending_bytes c.self.inside.pending.items ++ c.self.inside.unread.bytes in
    let serial = c.self.inside.serial in
    let watches = c.self.inside.watches in
    let pending = c.fill.new.pending.items in
    let unread = c.fill.new.unread.bytes in
    let left = c.pop_front.new.self.items in
    let incoming = incoming_taken at bytes serial watches p c.self.view_is c.requires pending left c.in-Some.message unread c.fill.ensures.bytes c.in-Some.ensures.items c.fill.ensures.within in
    let call = c.in-Some-read_rule_call.ensures in (
      incoming,
      rest_is at bytes serial watches p c.self.view_is c.requires (unread_at at (pending_bytes left ++ unread)),
      sym (ap (λ (x : Peer). x.watches) c.self.view_is) ∙ call.client,
      call.joins,
      call.call,
      call.rule,
    )

pub returns-in-None-clause-ok : goal.returns-in-None-clause-ok
returns-in-None-clause-ok c =
    let p = c.args.self.now in
    let at = c.self.inside.stage in
    let bytes : List ℕ = pending_bytes c.self.inside.pending.items ++ c.self.inside.unread.bytes in
    let serial = c.self.inside.serial in
    let watches = c.self.inside.watches in
    let pending = c.fill.new.pending.items in
    let unread = c.fill.new.unread.bytes in
    let left = c.pop_front.new.self.items in
    let message = c.in-Some.message in
    let back = c.push_front_reserved.new.self.items in
    let behind : List ℕ = unread_at at (pending_bytes left ++ unread) in
    let incoming = incoming_taken at bytes serial watches p c.self.view_is c.requires pending left message unread c.fill.ensures.bytes c.in-Some.ensures.items c.fill.ensures.within in
    let same : back ≡ pending = c.push_front_reserved.ensures.items ∙ sym c.in-Some.ensures.items in
    let bytes_same = ap (λ (m : List (List ℕ)). pending_bytes m ++ unread) same ∙ c.fill.ensures.bytes in
    ((Whole message behind, incoming, whole_is_there message behind), kept_is at bytes serial watches p c.self.view_is c.requires (pending_bytes back ++ unread) bytes_same)
