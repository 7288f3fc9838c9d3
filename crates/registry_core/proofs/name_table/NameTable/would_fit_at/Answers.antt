use Rattle.std.proofs.Common.{◌≡◌, ◌+◌, ◌-◌, not, if◌then◌else◌, length, sym, ap, ◌∙◌, subst, arith}
use Rattle.owner_queues.specs.Queues.{is_in, is_free}
use Rattle.seq_bus_core.specs.BusState.{queued_in, with_queue}
use Rattle.registry_core.specs.NameTables.{IsAt, WouldStand, SearchGives}
use Rattle.registry_core.proofs.NameTableLemmas.{at_most_absent, queued_found, queued_absent, count_found, count_absent, length_found, length_absent, within_by, within_more}
use Rattle.registry_core.proofs.CountLemmas.{one_if_in}
use Rattle.registry_core.proofs.name_table.NameTable.would_fit_at.Goals as goal

pub returns-then-are_within : goal.returns-then-are_within
returns-then-are_within c name found =
    let queue = c.args.queue.now in
    let names = c.args.self.now in
    let more : c.count.result ≡ (if not (is_free queue) then 1 else 0) = c.count.ensures ∙ ap (λ b. if not b then 1 else 0) c.is_empty.ensures in
    let counted : c.self.inside.queued ≡ queued_in names = c.self.invariant.0.counted ∙ ap queued_in c.self.view_is in
    let places : length c.as_slice.result.now ≡ length queue = ap length c.as_slice.ensures.value in
    let its : c.count-2.result ≡ one_if_in c.args.connection queue = c.count-2.ensures ∙ ap (λ b. if b then 1 else 0) c.contains.ensures in
    let most = at_most_absent names name c.args.found queue c.args.connection found in
    sym (within_more (with_queue name queue names) c.args.connection (c.len.result + c.count.result) (c.self.inside.queued + length c.as_slice.result.now) (c.count_of.result + c.count-2.result)
    (omega (arith, most.0, c.len.ensures.value)) (omega (arith, most.1)) (omega (arith, most.2, c.count_of.ensures)) (sym c.are_within.ensures ∙ c.if-are_within.true))

pub returns-in-Ok : goal.returns-in-Ok
returns-in-Ok c name found =
    let queue = c.args.queue.now in
    let names = c.args.self.now in
    let place = c.in-Ok.place in
    let at : IsAt names name place = subst (SearchGives names name) c.in-Ok.is found in
    let old_is : c.queue_at-old.result.now ≡ at.queue = c.queue_at-old.ensures name at ∙ at.between.queue_is in
    let more : c.count.result ≡ (if not (is_free queue) then 1 else 0) = c.count.ensures ∙ ap (λ b. if not b then 1 else 0) c.is_empty.ensures in
    let counted : c.self.inside.queued ≡ queued_in names = c.self.invariant.0.counted ∙ ap queued_in c.self.view_is in
    let places : length c.as_slice.result.now ≡ length queue = ap length c.as_slice.ensures.value in
    let places_before : length c.as_slice-in-Ok.result.now ≡ length at.queue = ap length (c.as_slice-in-Ok.ensures.value ∙ old_is) in
    let all_places = queued_found names name place queue at in
    let its : c.count-2.result ≡ one_if_in c.args.connection queue = c.count-2.ensures ∙ ap (λ b. if b then 1 else 0) c.contains.ensures in
    let its_before : c.count-in-Ok.result ≡ one_if_in c.args.connection at.queue =
    c.count-in-Ok.ensures ∙ ap (λ b. if b then 1 else 0) (c.contains-in-Ok.ensures ∙ ap (is_in c.args.connection) old_is) in
    let all_its = count_found names name place queue c.args.connection at in
    let all_names = length_found names name place queue at in
    c.are_within-in-Ok.ensures
    ∙ within_by (with_queue name queue names) c.args.connection (c.len.result + c.count.result - 1) (c.self.inside.queued + length c.as_slice.result.now - length c.as_slice-in-Ok.result.now) (c.count_of.result + c.count-2.result - c.count-in-Ok.result)
    (omega (arith, all_names, c.len.ensures.value)) (omega (arith, all_places)) (omega (arith, all_its, c.count_of.ensures))

pub returns-in-Err : goal.returns-in-Err
returns-in-Err c name found =
    let queue = c.args.queue.now in
    let names = c.args.self.now in
    let place = c.in-Err.field-0 in
    let at : WouldStand names name place = subst (SearchGives names name) c.in-Err.is found in
    let more : c.count.result ≡ (if not (is_free queue) then 1 else 0) = c.count.ensures ∙ ap (λ b. if not b then 1 else 0) c.is_empty.ensures in
    let counted : c.self.inside.queued ≡ queued_in names = c.self.invariant.0.counted ∙ ap queued_in c.self.view_is in
    let places : length c.as_slice.result.now ≡ length queue = ap length c.as_slice.ensures.value in
    let its : c.count-2.result ≡ one_if_in c.args.connection queue = c.count-2.ensures ∙ ap (λ b. if b then 1 else 0) c.contains.ensures in
    let all_names = length_absent names name place queue at in
    let all_places = queued_absent names name place queue at in
    let all_its = count_absent names name place queue c.args.connection at in
    sym c.if-are_within.false ∙ c.are_within.ensures
    ∙ within_by (with_queue name queue names) c.args.connection (c.len.result + c.count.result) (c.self.inside.queued + length c.as_slice.result.now) (c.count_of.result + c.count-2.result)
    (omega (arith, all_names, c.len.ensures.value)) (omega (arith, all_places)) (omega (arith, all_its, c.count_of.ensures))
