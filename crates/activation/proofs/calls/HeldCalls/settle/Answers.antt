use Rattle.std.proofs.Common.{◌≡◌, ◌<◌, ◌≤◌, ◌++◌, List, length, map, ap, ◌∙◌, arith}
use Rattle.activation.specs.Holding.{Holding}
use Rattle.seq_bus_core.specs.declared.ticket.SettledTicket.{SettledTicket}
use Rattle.seq_bus_core.specs.declared.ticket.Ticket.{Ticket}
use Rattle.activation.specs.Holdings.{Calls}
use Rattle.activation.specs.Rooms.{CallRoom}
use Rattle.activation.specs.Settling.{calls_after, new_call, once_told, settled_as}
use Rattle.activation.proofs.Following.{holds_on, told_so, few_let_go, one_fits}
use Rattle.activation.proofs.calls.HeldCalls.settle.Goals as goal

pub let_go_told-requires-clause-room : goal.let_go_told-requires-clause-room
let_go_told-requires-clause-room c =
    let change = c.args.change.now in
    let few : length (once_told change c.args.told.tickets c.self.inside.holder.held).given ≤ length c.args.told.tickets = rw c.self.view_is (few_let_go change c.args.caller c.args.told c.args.self.now c.requires.step) in
    let empty = ap (λ (r : CallRoom). length r.settled.tickets) c.room.view_is ∙ ap (λ (ts : List SettledTicket). length ts) c.requires.room.empty in
    let enough = ap (λ (r : CallRoom). r.settled.room) c.room.view_is in
    omega (arith, few, empty, enough, c.requires.room.enough)

pub hold-requires-clause-room : goal.hold-requires-clause-room
hold-requires-clause-room c is number held =
    let change = c.args.change.now in
    let left = c.let_go_told.ensures.left in
    let fits : length (once_told change c.args.told.tickets c.self.inside.holder.held).held < 512 = rw c.self.view_is (one_fits change c.args.caller c.args.told c.args.self.now c.requires.step is number held) in
    omega (arith, fits, ap (λ (h : Holding Ticket). length h.held) left, ap (λ (h : Holding Ticket). length h.given) left)

pub returns : goal.returns
returns c b seat at_step =
    let change = c.args.change.now in
    let calls : Calls = c.args.self.now in
    let held : Holding Ticket → Calls = λ h. h.held in
    let after : c.hold.new.holder.held ≡ calls_after change c.args.caller c.args.told calls =
    ap held c.hold.ensures ∙ ap (λ (h : Holding Ticket). h.held ++ new_call change c.args.told.reply c.args.caller) c.let_go_told.ensures.left
    ∙ ap (λ (cs : Calls). (once_told change c.args.told.tickets cs).held ++ new_call change c.args.told.reply c.args.caller) c.self.view_is in
    let tickets : c.into_tickets.result ≡ map settled_as (once_told change c.args.told.tickets calls).given =
    c.into_tickets.ensures ∙ c.let_go_told.ensures.tickets
    ∙ ap (λ (ts : List SettledTicket). ts ++ map settled_as (once_told change c.args.told.tickets c.self.inside.holder.held).given) (ap (λ (r : CallRoom). r.settled.tickets) c.room.view_is ∙ c.requires.room.empty)
    ∙ ap (λ (cs : Calls). map settled_as (once_told change c.args.told.tickets cs).given) c.self.view_is in
    (rw after (holds_on b seat change c.args.caller c.args.told calls at_step), (λ i. record { reply = c.args.told.reply; signals = c.args.told.signals; tickets = tickets i; start = c.args.told.start }) ∙ told_so b seat change c.args.caller c.args.told calls at_step)
