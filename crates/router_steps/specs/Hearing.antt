-- What is heard of a bus, as its view tells it.
use Rattle.std.specs.Prelude.{◌≡◌, ℕ, Bool, Option, Some, None, Result, Ok, Err, List, [], Vec}
use Rattle.seq_bus_core.specs.Answers.{Answer}
use Rattle.seq_bus_core.specs.declared.outcome.Outcome.{Outcome}
use Rattle.seq_bus_core.specs.declared.verdict.Verdict.{Verdict}
use Rattle.bus_view.specs.Bodies.{IsBody}
use Rattle.bus_view.specs.declared.answer.AskFault.{AskFault}
use Rattle.bus_view.specs.declared.answer.Asked.{Asked}
use Rattle.bus_view.specs.declared.answer.Asked.TheVariants.{Body, NameHasNoOwner}
use Rattle.bus_view.specs.declared.refusal.Cause.{Cause}
use Rattle.bus_view.specs.declared.refusal.Gone.{Gone}
use Rattle.bus_view.specs.declared.refusal.RefusedAll.{RefusedAll}
use Rattle.router_core.specs.Answers.{Heard, Says, Refuses, Lost, refusal_of, refusal_of_batch, refusal_of_query}

abbrev pub heard_change : Result Outcome Cause → Heard Outcome
heard_change (Ok outcome) = Says outcome
heard_change (Err why) = Refuses (refusal_of why)

abbrev pub heard_changes : {A : Type 0} → Result (Vec Outcome A) RefusedAll → Heard (List Outcome)
heard_changes (Ok outcomes) = Says outcomes.items
heard_changes (Err refused) = Refuses (refusal_of_batch refused.cause)

-- a verdict that is told where there was none
abbrev pub heard_verdict : {A : Type 0} → Result A Gone → Verdict → Heard Verdict
heard_verdict (Ok done) verdict = Says verdict
heard_verdict (Err gone) verdict = Refuses Lost

abbrev pub heard_present : Result Bool Gone → Heard Bool
heard_present (Ok present) = Says present
heard_present (Err gone) = Refuses Lost

-- what a query is told, and the bytes of its reply's body
abbrev pub IsTold : Result Asked AskFault → Heard (Option Answer) → List ℕ → Type 0
IsTold (Ok Body) heard bytes = (answer : Answer) × (heard ≡ Says (Some answer)) × IsBody answer bytes
IsTold (Ok NameHasNoOwner) heard bytes = (heard ≡ Says None) × (bytes ≡ [])
IsTold (Err fault) heard bytes = (heard ≡ Refuses (refusal_of_query fault)) × (bytes ≡ [])
