use Rattle.std.proofs.Common.{◌≡◌, length, ap, ◌∙◌, subst, arith, Box, Global}
use Rattle.owner_queues.specs.Queues.{IsQueue}
use Rattle.seq_bus_core.specs.BusState.{OwnedName}
use Rattle.registry_core.specs.NameTables.{owned_name}
use Rattle.registry_core.specs.declared.name_table.NameEntry.{NameEntry}
use Rattle.registry_core.proofs.NameTableLemmas.{map_at, still_owned, last_leaves, kept_shorter, kept_none}
use Rattle.registry_core.proofs.name_table.NameTable.leave_at.Goals as goal

abbrev name_in : Box NameEntry Global → OwnedName
name_in b = owned_name b.value

pub shorten-requires-clause-owned : goal.shorten-requires-clause-owned
shorten-requires-clause-owned c front back n is place_is =
    let items = c.self.inside.entries.items in
    let b : Box NameEntry Global = c.index.result.now in
    let at : name_in b ≡ n = ap name_in c.index.ensures ∙ map_at name_in items c.args.place b front back n (c.self.view_is ∙ is) place_is in
    let old_is : c.deref.result.now.queue ≡ n.queue = ap (λ (e : NameEntry). e.queue) c.deref.ensures ∙ ap (λ (m : OwnedName). m.queue) at in
    let long : length c.as_slice.result.now ≡ length n.queue = ap length (c.as_slice.ensures.value ∙ old_is) in
    still_owned c.args.connection n.queue (subst IsQueue old_is c.as_slice.ensures.once) (c.requires.waits front back n is place_is) (omega (arith, long, c.if-as_slice-gt1.true))

pub returns-then-as_slice-gt1 : goal.returns-then-as_slice-gt1
returns-then-as_slice-gt1 c front back n is place_is =
    let items = c.self.inside.entries.items in
    let b : Box NameEntry Global = c.index.result.now in
    let at : name_in b ≡ n = ap name_in c.index.ensures ∙ map_at name_in items c.args.place b front back n (c.self.view_is ∙ is) place_is in
    let old_is : c.deref.result.now.queue ≡ n.queue = ap (λ (e : NameEntry). e.queue) c.deref.ensures ∙ ap (λ (m : OwnedName). m.queue) at in
    let long : length c.as_slice.result.now ≡ length n.queue = ap length (c.as_slice.ensures.value ∙ old_is) in
    c.shorten.ensures front back n is place_is
    ∙ kept_shorter c.args.connection front back n (still_owned c.args.connection n.queue (subst IsQueue old_is c.as_slice.ensures.once) (c.requires.waits front back n is place_is) (omega (arith, long, c.if-as_slice-gt1.true)))

pub returns-else-as_slice-gt1 : goal.returns-else-as_slice-gt1
returns-else-as_slice-gt1 c front back n is place_is =
    let items = c.self.inside.entries.items in
    let b : Box NameEntry Global = c.index.result.now in
    let at : name_in b ≡ n = ap name_in c.index.ensures ∙ map_at name_in items c.args.place b front back n (c.self.view_is ∙ is) place_is in
    let old_is : c.deref.result.now.queue ≡ n.queue = ap (λ (e : NameEntry). e.queue) c.deref.ensures ∙ ap (λ (m : OwnedName). m.queue) at in
    let short : length c.as_slice.result.now ≡ length n.queue = ap length (c.as_slice.ensures.value ∙ old_is) in
    c.remove_at.ensures front back n is place_is
    ∙ kept_none c.args.connection front back n (last_leaves c.args.connection n.queue (subst IsQueue old_is c.as_slice.ensures.once) (c.requires.waits front back n is place_is) (omega (arith, short, c.if-as_slice-gt1.false)))
