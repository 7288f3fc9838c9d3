use Rattle.std.proofs.Common.{◌≡◌, List, map, refl, sym, ap, subst, ◌∙◌}
use Rattle.match_rules.specs.Facts.{Argument, Facts}
use Rattle.match_rules.specs.FactsView.{argument_of}
use Rattle.message.specs.FactsOf.{facts_of}
use Rattle.outbox_core.specs.Contents.{own_of, bus_message}
use Rattle.router_core.specs.Answers.{Says, Refuses, Lost}
use Rattle.router_core.specs.Scripts.{World, Routes}
use Rattle.seq_bus_core.specs.Recipients.{recipients}
use Rattle.seq_bus_core.specs.declared.verdict.Verdict.{Verdict}
use Rattle.bus_view.specs.Views.{bus_seen}
use Rattle.router_steps.proofs.Unwatched.{unwatched}
use Rattle.router_steps.proofs.context.Context.ask_monitors.Goals as goal

-- what was looked at, with its own arguments
seen_as : (own : Facts) (seen : List Argument) → seen ≡ own.arguments → record own { arguments = seen } ≡ own
seen_as own seen are = ap (λ (xs : List Argument). record own { arguments = xs }) are

pub returns-in-Ok-clause-routes : goal.returns-in-Ok-clause-routes
returns-in-Ok-clause-routes g c =
    let facts = facts_of (bus_message 1 (own_of c.args.own.now)) in
    let lent = c.facts-facts.ensures ∙ seen_as facts (map argument_of c.as_slice.result.now) (ap (map argument_of) c.as_slice.ensures.value ∙ c.arguments-arguments.ensures) in
    let told = c.route.new.verdict in
    let n = c.route.new.self.world in
    let asked = subst (λ (f : Facts). Routes g.V.BusView.alone 0 f c.take_verdict-verdict.new.self.world (Says told) n) lent c.in-Ok.ensures.routes in
    (Says told, subst (λ (w : World g.row.V-Note.Denot g.row.G.Denot). Routes g.V.BusView.alone 0 facts w (Says told) n) c.take_verdict-verdict.ensures.world asked, refl)

pub returns-in-Err-clause-routes : goal.returns-in-Err-clause-routes
returns-in-Err-clause-routes g c =
    let facts = facts_of (bus_message 1 (own_of c.args.own.now)) in
    let lent = c.facts-facts.ensures ∙ seen_as facts (map argument_of c.as_slice.result.now) (ap (map argument_of) c.as_slice.ensures.value ∙ c.arguments-arguments.ensures) in
    let n = c.route.new.self.world in
    let asked = subst (λ (f : Facts). Routes g.V.BusView.alone 0 f c.take_verdict-verdict.new.self.world (Refuses Lost) n) lent c.in-Err.ensures.routes in
    (Refuses Lost, subst (λ (w : World g.row.V-Note.Denot g.row.G.Denot). Routes g.V.BusView.alone 0 facts w (Refuses Lost) n) c.take_verdict-verdict.ensures.world asked, ap (λ (v : Verdict). v.monitors) c.tell_no_monitors-in-Err.ensures)

pub returns-then-not-is_watched-clause-routes : goal.returns-then-not-is_watched-clause-routes
returns-then-not-is_watched-clause-routes g c =
    let facts = facts_of (bus_message 1 (own_of c.args.own.now)) in
    let w = c.take_verdict-verdict.new.self.world in
    let bus = (bus_seen w.view).state in
    let told = recipients bus 0 facts in
    let quiet = c.if-not-is_watched.true in
    let there : Routes g.V.BusView.alone 0 facts w (Says told) w = record { hears = (c.is_watched.ensures.read quiet, refl); rest = refl } in (
      Says told,
      subst (λ (u : World g.row.V-Note.Denot g.row.G.Denot). Routes g.V.BusView.alone 0 facts u (Says told) w) c.take_verdict-verdict.ensures.world there,
      ap (λ (v : Verdict). v.monitors) c.tell_no_monitors.ensures ∙ sym (unwatched bus 0 facts (c.is_watched.ensures.none quiet)),
    )
