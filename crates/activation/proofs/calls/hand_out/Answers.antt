use Rattle.std.proofs.Common.{◌≡◌, ◌<◌, List, [], ◌∷◌, Some, length, sym, ap, arith, length-append}
use Rattle.std.specs.Prelude.{slice_get}
use Rattle.std.proofs.lemmas.List.{length-map}
use Rattle.seq_bus_core.specs.declared.ticket.SettledTicket.{SettledTicket}
use Rattle.activation.specs.Settling.{settled_as}
use Rattle.activation.proofs.calls.hand_out.Goals as goal

some_left : {X : Type 0} (xs : List X) (x : X) → slice_get xs 0 ≡ Some x → 0 < length xs
some_left [] x e = cc
some_left (y ∷ ys) x e = omega arith

pub push-requires : goal.push-requires
push-requires c =
    let now = c.loop-given in
    let count = simp length-append at (ap (λ (ts : List SettledTicket). length ts) now.invariant.all) in
    omega (arith, count, length-map now.holder.given settled_as, length-map c.args.holder.now.given settled_as, some_left now.holder.given c.in-Some.given (sym c.in-Some.ensures.first), now.invariant.room, c.requires)
