-- How a call comes to join others.
use Rattle.std.specs.Prelude.{◌≡◌, []}
use Rattle.message_core.specs.Messages.{Message}
use Rattle.seq_bus_core.specs.declared.connection.Conn.{Conn}
use Rattle.seq_bus_core.specs.declared.outcome.Outcome.{Outcome}
use Rattle.router_core.specs.Serving.{OfFate, routing}
use Rattle.router_core.specs.Together.{Joining as Joins_in, Joins, Parts}
use Rattle.router_steps.specs.Hearing.{heard_verdict}
use Rattle.router_steps.specs.OncePut.{after_relay_fault}
use Rattle.router.specs.declared.joining.Joining.{Joining}
use Rattle.router.specs.declared.joining.Joining.TheVariants as joining
use Rattle.router.specs.declared.joining.Parting.{Parting}
use Rattle.router.specs.declared.joining.Parting.TheVariants as parting

-- what is done for it instead
abbrev pub parting_of : Message → Conn → Parting → OfFate
parting_of m caller (parting.Routed heard verdict) = routing m caller (heard_verdict heard verdict.value)
parting_of m caller (parting.NotPut fault) = after_relay_fault fault m caller

abbrev pub joining_of : Message → Conn → Joining → Joins_in
joining_of m caller joining.Joins = Joins
joining_of m caller (joining.Parts parting) = Parts (parting_of m caller parting)

-- What adds or removes a rule brings no signals, and lets no call go that waited.
pub record RepliesAlone (outcome : Outcome) : Type 0 where
  pub signals : outcome.signals ≡ []
  pub tickets : outcome.tickets ≡ []
