use Rattle.std.proofs.Common.{◌≡◌, ◌==◌, count_by, ap, ◌∙◌, arith}
use Rattle.owner_queues.specs.Queues.{Queue}
use Rattle.registry_core.proofs.CountLemmas.{once, one_if_in}
use Rattle.registry_core.proofs.name_index.NameIndex.replace.Goals as goal

pub take_all-requires : goal.take_all-requires
take_all-requires c number =
    let old : count_by (λ o. o.connection == number) c.as_slice.result.now ≡ one_if_in number c.args.old.now =
    ap (λ (q : Queue). count_by (λ o. o.connection == number) q) c.as_slice.ensures.value ∙ once number c.args.old.now c.as_slice.ensures.once in
    omega (arith, old, c.requires.held number)

pub returns-clause-its : goal.returns-clause-its
returns-clause-its c number =
    let old : count_by (λ o. o.connection == number) c.as_slice.result.now ≡ one_if_in number c.args.old.now =
    ap (λ (q : Queue). count_by (λ o. o.connection == number) q) c.as_slice.ensures.value ∙ once number c.args.old.now c.as_slice.ensures.once in
    let new : count_by (λ o. o.connection == number) c.as_slice-2.result.now ≡ one_if_in number c.args.new.now =
    ap (λ (q : Queue). count_by (λ o. o.connection == number) q) c.as_slice-2.ensures.value ∙ once number c.args.new.now c.as_slice-2.ensures.once in
    omega (arith, old, new, c.take_all.ensures.its number, c.add_all.ensures.its number)
