-- What the monitors of a bus are shown.
use Rattle.std.proofs.Common.{◌≡◌, Bool, true, false, cond, Option, Some, None, List, [], ◌∷◌, map, filter, refl, ap}
use Rattle.match_rules.specs.Facts.{Facts}
use Rattle.match_rules.specs.Fitting.{Heads}
use Rattle.match_rules.specs.Rules.{Rule}
use Rattle.seq_bus_core.specs.BusState.{Connection, conn_of, head_of}
use Rattle.seq_bus_core.specs.Recipients.{conns_that, watched, watches_by}
use Rattle.monitor.specs.Monitors.{Monitor, conns_shown}
use Rattle.monitor.specs.Laws.{monitors_of, ShownAreThoseOfTheBus}

pub shown_in : (heads : Heads) (facts : Facts) (cs : List Connection) → conns_shown heads facts (monitors_of cs) ≡ conns_that (watches_by heads facts) cs
shown_in heads facts [] = refl
shown_in heads facts (c ∷ cs) = by_monitor c.monitor (shown_in heads facts cs)
  where
    monitors : List Monitor
    monitors = filter (λ m. watched heads facts m.rules) (monitors_of cs)

    watchers : List Connection
    watchers = filter (watches_by heads facts) cs

    by_monitor : (o : Option (List Rule)) → conns_shown heads facts (monitors_of cs) ≡ conns_that (watches_by heads facts) cs →
        conns_shown heads facts (monitors_of (record c { monitor = o } ∷ cs)) ≡ conns_that (watches_by heads facts) (record c { monitor = o } ∷ cs)
    by_monitor None others = others
    by_monitor (Some rules) others = by_test (watched heads facts rules)
      where
        by_test : (b : Bool) → map (λ m. m.conn) (cond b (record { conn = conn_of c; rules = rules } ∷ monitors) monitors) ≡ map conn_of (cond b (record c { monitor = Some rules } ∷ watchers) watchers)
        by_test true = ap (λ conns. conn_of c ∷ conns) others
        by_test false = others

pub shown_are_those_of_the_bus : ShownAreThoseOfTheBus
shown_are_those_of_the_bus s facts = shown_in (head_of s) facts s.connections
