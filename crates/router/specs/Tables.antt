-- The connections, and what is at hand.
use Rattle.std.specs.Prelude.{ℕ}
use Rattle.router_core.specs.Standing.{Standing}
use Rattle.router_steps.specs.Work.{Work}

-- the key of the next connection, and how many connections fit with no more memory
pub record Keys : Type 0 where
  pub next : ℕ
  pub capacity : ℕ

pub record Table (N G : Type 0) : Type 0 where
  pub standing : Standing
  pub keys : Keys
  pub work : Work N G
