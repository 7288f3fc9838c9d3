use Rattle.std.proofs.Common.{◌≡◌, ◌++◌, ◌∷◌, OnOk, Option, Some, ap, subst, sym}
use Rattle.names.specs.BusName.{bus_text}
use Rattle.seq_bus_core.specs.Answers.{Answer, answer, names_there, queue_names}
use Rattle.seq_bus_core.specs.declared.query.Query.{Query}
use Rattle.trace_lines.specs.Texts.{query_line_text}
use Rattle.bus_trace.proofs.Told.{name_answered, names_answered, whether_answered}
use Rattle.bus_trace.proofs.writing.write_told.Goals as goal

pub returns-in-GetNameOwner : goal.returns-in-GetNameOwner
returns-in-GetNameOwner c s h =
    let told = name_answered s c.args.query.now c.in-GetNameOwner.field-0 c.args.body.now c.in-GetNameOwner.is h in
    subst
    (λ (a : Option Answer). OnOk c.write_name.result (c.write_name.new.draft ≡ c.args.draft.now ++ query_line_text c.args.place c.args.seat c.args.query.now a))
    (sym told.1) (c.write_name.ensures told.0 told.2)

pub returns-in-NameHasOwner : goal.returns-in-NameHasOwner
returns-in-NameHasOwner c s h =
    let told = whether_answered s c.args.query.now c.in-NameHasOwner.field-0 c.args.body.now c.in-NameHasOwner.is h in
    subst
    (λ (a : Option Answer). OnOk c.write_whether.result (c.write_whether.new.draft ≡ c.args.draft.now ++ query_line_text c.args.place c.args.seat c.args.query.now a))
    (sym told.1) (c.write_whether.ensures told.0 told.2)

pub returns-in-ListNames : goal.returns-in-ListNames
returns-in-ListNames c s h =
    let told = names_answered s c.args.query.now (Some (bus_text ∷ names_there s)) c.args.body.now (ap (λ (q : Query). answer s q) c.in-ListNames.is) h in
    subst
    (λ (a : Option Answer). OnOk c.write_names.result (c.write_names.new.draft ≡ c.args.draft.now ++ query_line_text c.args.place c.args.seat c.args.query.now a))
    (sym told.1) (c.write_names.ensures told.0 told.2)

pub returns-in-ListActivatableNames : goal.returns-in-ListActivatableNames
returns-in-ListActivatableNames c s h =
    let told = names_answered s c.args.query.now (Some (bus_text ∷ s.services)) c.args.body.now (ap (λ (q : Query). answer s q) c.in-ListActivatableNames.is) h in
    subst
    (λ (a : Option Answer). OnOk c.write_names-in-ListActivatableNames.result
    (c.write_names-in-ListActivatableNames.new.draft ≡ c.args.draft.now ++ query_line_text c.args.place c.args.seat c.args.query.now a))
    (sym told.1) (c.write_names-in-ListActivatableNames.ensures told.0 told.2)

pub returns-in-ListQueuedOwners : goal.returns-in-ListQueuedOwners
returns-in-ListQueuedOwners c s h =
    let told =
    names_answered s c.args.query.now (queue_names s c.in-ListQueuedOwners.field-0) c.args.body.now (ap (λ (q : Query). answer s q) c.in-ListQueuedOwners.is) h in
    subst
    (λ (a : Option Answer). OnOk c.write_names-in-ListQueuedOwners.result
    (c.write_names-in-ListQueuedOwners.new.draft ≡ c.args.draft.now ++ query_line_text c.args.place c.args.seat c.args.query.now a))
    (sym told.1) (c.write_names-in-ListQueuedOwners.ensures told.0 told.2)
