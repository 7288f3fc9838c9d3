use Rattle.std.proofs.Common.{ℕ, List, [], ◌∷◌, map, rules, sym, ap, ◌∙◌, subst}
use Rattle.std.specs.Iterator.Adapters.{enumerate_source, enumerate_count}
use Rattle.std.specs.Vec.Iter.{into_iter_items}
use Rattle.std.proofs.lemmas.Iterator.Adapters.{YieldsList-from_vec}
use Rattle.std.proofs.lemmas.Iterator.Consumers.{YieldsList-from_enumerate, YieldsList-so_far, YieldsList-turn, YieldsList-end}
use Rattle.std.proofs.lemmas.List.{map-append}
use Rattle.std.proofs.lemmas.Result.{err_from_is_err_and}
use Rattle.seq_bus.specs.PlainViews.{knowledge_of}
use Rattle.router_core.specs.declared.event.Event.{Event}
use Rattle.router_core.specs.Acts.{State}
use Rattle.router_core.specs.Standing.{fresh}
use Rattle.router_laws.specs.Outputs.{IsCourse, Output, no_output}
use Rattle.router_laws.specs.Runs.{CanCome, IsRunOf, fresh_over, occasions_of, ungated}
use Rattle.router_laws.proofs.Counting.{counted_turn, counted_all}
use Rattle.router_laws.proofs.Courses.{course_begins, course_more, course_ends, course_faults, course_leads, course_registry}
use Rattle.router_laws.proofs.session.run.Goals as goal

pub loop-index-init : goal.loop-index-init
loop-index-init g c =
    let start : State g.row.G.Denot = record { standing = fresh c.args.login; next_key = 0; view = knowledge_of c.args.bus; gate = c.args.gate } in
    subst (λ (sent : Output). IsCourse g.G.Gate.passes start [] c.in_ok-session.session.engine sent) (sym c.in_ok-session.ensures.outlets)
    (subst (λ (now : State g.row.G.Denot). IsCourse g.G.Gate.passes start [] now no_output) (sym c.in_ok-session.ensures.engine) (course_begins g.G.Gate.passes start))

pub serve-requires : goal.serve-requires
serve-requires g c =
    let start : State g.row.G.Denot = record { standing = fresh c.args.login; next_key = 0; view = knowledge_of c.args.bus; gate = c.args.gate } in
    course_registry g.G.Gate.passes start c.loop-index.session.engine (map (λ turn. turn.1) c.loop-index.yielded) c.loop-index.session.outlets c.loop-index.invariant

pub loop-index-preserved : goal.loop-index-preserved
loop-index-preserved g c =
    let start : State g.row.G.Denot = record { standing = fresh c.args.login; next_key = 0; view = knowledge_of c.args.bus; gate = c.args.gate } in
    let before : List (Event (Unit {0})) = map (λ turn. turn.1) c.loop-index.yielded in
    subst (λ (events : List (Event (Unit {0}))). IsCourse g.G.Gate.passes start events c.serve.new.self.engine c.serve.new.self.outlets)
    (sym (map-append (λ turn. turn.1) c.loop-index.yielded ((c.in-Some.index, c.in-Some.event) ∷ [])))
    (course_more g.G.Gate.passes start c.loop-index.session.engine c.serve.new.self.engine before c.in-Some.event c.loop-index.session.outlets c.serve.new.self.outlets c.loop-index.invariant c.in_ok-serve.ensures.turn)

pub returns-in_err-serve-clause-fault : goal.returns-in_err-serve-clause-fault
returns-in_err-serve-clause-fault g c =
    let start : State g.row.G.Denot = record { standing = fresh c.args.login; next_key = 0; view = knowledge_of c.args.bus; gate = c.args.gate } in
    let events : List (Event (Unit {0})) = c.args.events.items in
    let there = c.into_iter-index-iterator.ensures.into_iter_gives in
    let source = ap (λ s. enumerate_source s) there ∙ c.enumerate-index-items.ensures.source in
    let road = YieldsList-from_enumerate {s = c.into_iter-index-iterator.result}
    (YieldsList-from_vec events (ap (λ s. into_iter_items s) source ∙ c.into_iter.ensures.rest) (search rules))
    (ap (λ s. enumerate_count s) there ∙ c.enumerate-index-items.ensures.count) in
    let so_far = YieldsList-so_far road c.loop-index.yielded _ c.loop-index.yielded_by in
    let turn = YieldsList-turn road c.loop-index.yielded _ c.loop-index.yielded_by c.next.result c.next.new.self (c.in-Some.index, c.in-Some.event) c.in-Some.is c.next.ensures.steps in
    let counted = counted_turn events c.loop-index.yielded c.in-Some.index c.in-Some.event so_far turn.0 turn.1 in
    let course = subst (λ (done : List (Event (Unit {0}))). IsCourse g.G.Gate.passes start done c.loop-index.session.engine c.loop-index.session.outlets) counted.0 c.loop-index.invariant in
    let p = err_from_is_err_and c.from_residual-in_err-serve.result c.from_residual-in_err-serve.ensures.1 in
    rw (p.1, p.2) (course_faults g.G.Gate.passes start c.loop-index.session.engine events c.in-Some.index c.in-Some.event c.loop-index.session.outlets c.in_err-serve.field-0.0 course counted.1 c.in_err-serve.ensures.fault)

pub returns-clause-run : goal.returns-clause-run
returns-clause-run g c =
    let start : State g.row.G.Denot = record { standing = fresh c.args.login; next_key = 0; view = knowledge_of c.args.bus; gate = c.args.gate } in
    let events : List (Event (Unit {0})) = c.args.events.items in
    let there = c.into_iter-index-iterator.ensures.into_iter_gives in
    let source = ap (λ s. enumerate_source s) there ∙ c.enumerate-index-items.ensures.source in
    let road = YieldsList-from_enumerate {s = c.into_iter-index-iterator.result}
    (YieldsList-from_vec events (ap (λ s. into_iter_items s) source ∙ c.into_iter.ensures.rest) (search rules))
    (ap (λ s. enumerate_count s) there ∙ c.enumerate-index-items.ensures.count) in
    let end = YieldsList-end road c.loop-index.yielded _ c.loop-index.yielded_by c.next.result c.next.new.self c.in-None.is c.next.ensures.steps in
    let all = counted_all events c.loop-index.yielded end.0 in
    let done : List (Event (Unit {0})) = map (λ turn. turn.1) c.loop-index.yielded in
    let ended = course_ends g.G.Gate.passes start c.loop-index.session.engine done c.loop-index.session.outlets c.loop-index.invariant in
    subst (λ (bytes : List (List ℕ)). IsRunOf g.G.Gate.passes c.args.gate (fresh_over c.args.login c.args.bus) (occasions_of events) bytes) (sym c.in_ok-into_bytes.ensures)
    (subst (λ (es : List (Event (Unit {0}))). IsRunOf g.G.Gate.passes c.args.gate (fresh_over c.args.login c.args.bus) (occasions_of es) c.loop-index.session.outlets.written) all ended)

pub returns-clause-keys : goal.returns-clause-keys
returns-clause-keys g c =
    let start : State g.row.G.Denot = record { standing = fresh c.args.login; next_key = 0; view = knowledge_of c.args.bus; gate = c.args.gate } in
    let events : List (Event (Unit {0})) = c.args.events.items in
    let there = c.into_iter-index-iterator.ensures.into_iter_gives in
    let source = ap (λ s. enumerate_source s) there ∙ c.enumerate-index-items.ensures.source in
    let road = YieldsList-from_enumerate {s = c.into_iter-index-iterator.result}
    (YieldsList-from_vec events (ap (λ s. into_iter_items s) source ∙ c.into_iter.ensures.rest) (search rules))
    (ap (λ s. enumerate_count s) there ∙ c.enumerate-index-items.ensures.count) in
    let end = YieldsList-end road c.loop-index.yielded _ c.loop-index.yielded_by c.next.result c.next.new.self c.in-None.is c.next.ensures.steps in
    let all = counted_all events c.loop-index.yielded end.0 in
    let done : List (Event (Unit {0})) = map (λ turn. turn.1) c.loop-index.yielded in
    subst (λ (es : List (Event (Unit {0}))). CanCome (ungated start) es) all (course_leads g.G.Gate.passes start c.loop-index.session.engine done c.loop-index.session.outlets c.loop-index.invariant)

pub returns-in_err-into_bytes-clause-fault : goal.returns-in_err-into_bytes-clause-fault
returns-in_err-into_bytes-clause-fault g c =
    let p = err_from_is_err_and c.from_residual-in_err-into_bytes.result c.from_residual-in_err-into_bytes.ensures.1 in
    rw (p.1, p.2) tt
