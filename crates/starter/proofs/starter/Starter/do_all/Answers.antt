use Rattle.std.proofs.Common.{◌≡◌, ◌++◌, ◌∷◌, [], reverse, ap, sym, ◌∙◌, subst, rules}
use Rattle.router_host_core.proofs.Steps.{last_first}
use Rattle.starter.specs.States.{AreInOrder, IsNotRun}
use Rattle.starter.proofs.Orders.{all_are_reports}
use Rattle.starter.proofs.Steps.{all_done, left_undone, may_be_done, none_done, one_more_done}
use Rattle.starter.proofs.starter.Starter.do_all.Goals as goal

pub loop-deed-init : goal.loop-deed-init
loop-deed-init g c =
    none_done g.Q.Programs.runs g.Q.Programs.gives g.V.BusView.told g.V.BusView.registry_of g.G.Gate.passes g.V.BusView.alone g.P.Post.puts g.P.Post.refuses g.P.Post.starts g.P.Post.takes
    (reverse c.args.deeds.items) c.args.self.now c.requires.idle c.requires.order

pub do_one-requires : goal.do_one-requires
do_one-requires g c =
    may_be_done g.Q.Programs.runs g.Q.Programs.gives g.V.BusView.told g.V.BusView.registry_of g.G.Gate.passes g.V.BusView.alone g.P.Post.puts g.P.Post.refuses g.P.Post.starts g.P.Post.takes
    (reverse c.args.deeds.items) c.loop-deed.deeds.items c.pop.new.self.items c.in-Some.deed c.in-Some.ensures.items c.loop-deed.self c.args.self.now c.loop-deed.invariant

pub loop-deed-preserved : goal.loop-deed-preserved
loop-deed-preserved g c =
    one_more_done g.Q.Programs.runs g.Q.Programs.gives g.V.BusView.told g.V.BusView.registry_of g.G.Gate.passes g.V.BusView.alone g.P.Post.puts g.P.Post.refuses g.P.Post.starts g.P.Post.takes
    (reverse c.args.deeds.items) c.loop-deed.deeds.items c.pop.new.self.items c.in-Some.deed c.in-Some.ensures.items c.loop-deed.self c.do_one.new.self c.args.self.now
    c.loop-deed.invariant c.in_default-do_one.ensures.done

pub returns-in-Err-clause-steps : goal.returns-in-Err-clause-steps
returns-in-Err-clause-steps g c =
    let items = c.push_back.ensures ∙ ap (λ d. c.pop.new.self.items ++ d ∷ []) c.in-Err.ensures.back ∙ sym c.in-Some.ensures.items in
    rw (items)
    (left_undone g.Q.Programs.runs g.Q.Programs.gives g.V.BusView.told g.V.BusView.registry_of g.G.Gate.passes g.V.BusView.alone g.P.Post.puts g.P.Post.refuses g.P.Post.starts g.P.Post.takes
    (reverse c.args.deeds.items) (reverse c.loop-deed.deeds.items) c.loop-deed.self c.do_one.new.self _ c.args.self.now c.loop-deed.invariant c.in-Err.ensures.err c.in-Err.ensures.same c.self.view_is)

pub returns-in-Err-clause-told : goal.returns-in-Err-clause-told
returns-in-Err-clause-told g c = λ reports.
    ap (λ s. s.untold) (c.self.view_is ∙ c.in-Err.ensures.same) ∙ (c.loop-deed.invariant.reports reports).1

pub returns-in-Err-clause-not_run : goal.returns-in-Err-clause-not_run
returns-in-Err-clause-not_run g c = λ not_run.
    subst (λ u. IsNotRun u) (sym (ap (λ s. s.untold) (c.self.view_is ∙ c.in-Err.ensures.same))) (c.loop-deed.invariant.not_run not_run)

pub returns-clause-steps : goal.returns-clause-steps
returns-clause-steps g c =
    let none : c.loop-deed.deeds.items ≡ [] = search rules in
    all_done g.Q.Programs.runs g.Q.Programs.gives g.V.BusView.told g.V.BusView.registry_of g.G.Gate.passes g.V.BusView.alone g.P.Post.puts g.P.Post.refuses g.P.Post.starts g.P.Post.takes
    (reverse c.args.deeds.items) (reverse c.loop-deed.deeds.items) c.loop-deed.self c.args.self.now c.loop-deed.invariant (ap reverse none)

pub invariant_of-self : goal.invariant_of-self
invariant_of-self g c =
    let items = c.push_back.ensures ∙ ap (λ d. c.pop.new.self.items ++ d ∷ []) c.in-Err.ensures.back ∙ sym c.in-Some.ensures.items in
    let first = last_first c.loop-deed.deeds.items c.pop.new.self.items c.in-Some.deed c.in-Some.ensures.items in
    rw (items, first) (all_are_reports c.in-Some.deed (reverse c.pop.new.self.items) c.loop-deed.self.untold (subst (λ l. AreInOrder l c.loop-deed.self.untold) first c.loop-deed.invariant.order) c.in-Err.ensures.report)
