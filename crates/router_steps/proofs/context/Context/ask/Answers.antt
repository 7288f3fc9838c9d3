use Rattle.std.proofs.Common.{Option, refl, subst}
use Rattle.seq_bus_core.specs.Answers.{Answer}
use Rattle.router_core.specs.Answers.{Heard}
use Rattle.router_core.specs.Scripts.{World, Asks}
use Rattle.router_steps.specs.Hearing.{IsTold}
use Rattle.router_steps.specs.Work.{Work}
use Rattle.router_steps.proofs.Asking.{asks_told}
use Rattle.router_steps.proofs.context.Context.ask.Goals as goal

pub returns-clause-asks : goal.returns-clause-asks
returns-clause-asks g c =
    let alone = g.V.BusView.alone in
    let before : World g.row.V-Note.Denot g.row.G.Denot = record { view = g.V.BusView.knows c.self.inside.view; gate = c.self.inside.gate; actions = c.self.inside.actions.items } in
    let after : World g.row.V-Note.Denot g.row.G.Denot = record before { view = g.V.BusView.knows c.ask.new.self } in
    subst
    (λ (k : Work g.row.V-Note.Denot g.row.G.Denot). (heard : Heard (Option Answer)) × Asks alone c.args.query.now k.world heard after × IsTold c.ask.result heard c.ask.new.body.items)
    c.self.view_is
    (asks_told alone c.args.query.now before after refl c.args.body.now.items c.ask.new.body.items c.requires c.ask.result c.ask.ensures.answered c.ask.ensures.read c.ask.ensures.unanswered c.ask.ensures.read_no_less c.ask.ensures.gone c.ask.ensures.there)
