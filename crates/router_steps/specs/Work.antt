-- What is at hand while an event is served.
use Rattle.std.specs.Prelude.{ℕ}
use Rattle.router_core.specs.Scripts.{World}

pub record Work (N G : Type 0) : Type 0 where
  pub world : World N G
  -- so many more actions fit
  pub room : ℕ
  -- so many of them may have several recipients
  pub spare_verdicts : ℕ
