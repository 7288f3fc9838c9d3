use Rattle.std.proofs.Common.{◌∙◌, ap}
use Rattle.registry.specs.PreparedChanges.{PreparedChange}
use Rattle.settling.proofs.settling.prepare_only.Goals as goal

pub returns-clause-prepared : goal.returns-clause-prepared
returns-clause-prepared c =
    let taken = c.in_ok-settling.ensures in
    record {
      seat_is = taken.same_seat ∙ ap (λ (q : PreparedChange). q.seat) c.in_ok-prepared.ensures;
      change_is = taken.same_change ∙ ap (λ (q : PreparedChange). q.change) c.in_ok-prepared.ensures;
    }

pub returns-clause-settles : goal.returns-clause-settles
returns-clause-settles c = c.in_ok-settling.ensures.settles c.args.registry.now c.args.seat c.in_ok-prepared.ensures
