-- Connections that had no name in time.
use Rattle.std.specs.Prelude.{◌≡◌, ℕ, None, List}
use Rattle.router.specs.Numbers.{number_at}
use Rattle.router_host_core.specs.Carrying.{Each, line_at, ended_at}
use Rattle.router_host_core.specs.declared.ending.EndCause.TheVariants.{Silent}
use Rattle.router_host.specs.Doing.{with_lines}
use Rattle.router_host.specs.States.{Hosted}

module _ {P G N : Type 0} where
  -- The connection of this key has no name, and is over.
  abbrev pub IsExpired : ℕ → Hosted P G N → Hosted P G N → Type 0
  IsExpired key before after =
      (number_at before.engine.standing key ≡ None)
      × (after ≡ with_lines before
      (ended_at before.carried.lines key Silent (line_at before.carried.lines key)))

  -- The time in which who connects is to have a name has passed: some connections that have none are over, and nothing else is done.
  pub record LoginTimeEnds (before after : Hosted P G N) : Type 0 where
    pub keys : List ℕ
    pub expired : Each IsExpired keys before after
