use Rattle.std.proofs.Common.{◌≤◌, sym, subst, ◌∙◌}
use Rattle.seq_bus_core.specs.BusState.{max_queued}
use Rattle.registry_core.specs.NameTables.{NamesRise, IsAt, WouldStand, SearchGives}
use Rattle.seq_bus_core.proofs.NameLemmas.{with_queue_rises}
use Rattle.registry_core.proofs.NameTableLemmas.{requeued_places, added_is}
use Rattle.registry_core.proofs.name_table.NameTable.set_queue_at.Goals as goal

pub requeue-requires-clause-few_places : goal.requeue-requires-clause-few_places
requeue-requires-clause-few_places c front back n is place_is =
    let names = c.args.self.now in
    let name = c.args.name.now in
    let at : IsAt names name c.in-Ok.place = subst (SearchGives names name) c.in-Ok.is c.requires.found in
    subst (λ k. k ≤ max_queued) (sym (requeued_places names front back n name c.in-Ok.place c.args.queue.now at is place_is)) c.requires.few_places

pub add-requires-clause-rise : goal.add-requires-clause-rise
add-requires-clause-rise c =
    let names = c.args.self.now in
    let name = c.args.name.now in
    let queue = c.args.queue.now in
    let at : WouldStand names name c.in-Err.place = subst (SearchGives names name) c.in-Err.is c.requires.found in
    let is = added_is names name c.in-Err.place queue at (sym c.is_empty-in-Err.ensures ∙ c.if-not-is_empty.true) in
    subst NamesRise (sym is) (with_queue_rises name queue names (subst NamesRise c.self.view_is c.self.invariant.0.rise))

pub returns-then-not-is_empty : goal.returns-then-not-is_empty
returns-then-not-is_empty c =
    let names = c.args.self.now in
    let name = c.args.name.now in
    let at : WouldStand names name c.in-Err.place = subst (SearchGives names name) c.in-Err.is c.requires.found in
    c.add.ensures ∙ added_is names name c.in-Err.place c.args.queue.now at (sym c.is_empty-in-Err.ensures ∙ c.if-not-is_empty.true)
