use Rattle.std.proofs.Common.{List, inr, ap, sym, ◌∙◌}
use Rattle.std.specs.Prelude.{Option}
use Rattle.std.proofs.lemmas.Bool.{false≢true}
use Rattle.router_host_core.specs.declared.put_out.FullConn.{FullConn}
use Rattle.router_host_core.specs.declared.put_out.Refusal.TheVariants.{NoMemory, NoRoom}
use Rattle.router_host_core.proofs.carrier.Carrier.put_to.Goals as goal

pub returns-in_default-clause-done : goal.returns-in_default-clause-done
returns-in_default-clause-done g c =
    let noted = ap (λ (full : List (Option FullConn)). record { lines = c.self.inside.lines; post = c.self.inside.post; full = full }) c.add.ensures in
    rw (← c.self.view_is) (inr ((λ noted. false≢true (sym c.if-contains.false ∙ c.contains.ensures.1 noted)), inr (NoMemory, (tt, noted))))

pub returns-in-Err-clause-done : goal.returns-in-Err-clause-done
returns-in-Err-clause-done g c =
    let refused = ap (λ (post : g.row.P.Denot). record { lines = c.self.inside.lines; post = post; full = c.add-in-Err.new.self }) c.in-Err.ensures.refused in
    let noted = ap (λ (full : List (Option FullConn)). record { lines = c.self.inside.lines; post = c.self.inside.post; full = full }) c.add-in-Err.ensures in
    rw (← c.self.view_is) (inr ((λ noted. false≢true (sym c.if-contains.false ∙ c.contains.ensures.1 noted)), inr (NoRoom, (c.in-Err.ensures.full, refused ∙ noted))))
