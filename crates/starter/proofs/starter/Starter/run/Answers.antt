use Rattle.std.proofs.Common.{true, false, refl}
use Rattle.starter.proofs.starter.Starter.run.Goals as goal

pub returns-then-run : goal.returns-then-run
returns-then-run g c = rw (← c.self.view_is) (true, rw (c.if-run.true) at c.run.ensures, refl, refl)

pub returns : goal.returns
returns g c =
    let untold = rw (← c.self.view_is) at c.requires in
    rw (← c.self.view_is) (false, rw (c.if-run.false) at c.run.ensures, (untold, refl), refl)
