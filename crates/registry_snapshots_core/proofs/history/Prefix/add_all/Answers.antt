use Rattle.std.proofs.Common.{◌≡◌, ◌+◌, length, sym, ◌∙◌, ap, subst, ◌++◌, arith, length-append, rules}
use Rattle.seq_bus_core.specs.Batches.{entries_of}
use Rattle.seq_bus_core.specs.Histories.{History, IsLegal}
use Rattle.seq_bus_core.proofs.Extending.{entries_length}
use Rattle.registry_snapshots_core.specs.Copies.{PrefixView}
use Rattle.registry_snapshots_core.specs.Publications.{flat, publication_of_batch}
use Rattle.registry_snapshots_core.proofs.Adding.{adds_moves}
use Rattle.registry_snapshots_core.proofs.history.Prefix.add_all.Goals as goal

pub compare_exchange-found-requires : goal.compare_exchange-found-requires
compare_exchange-found-requires c =
    let h = c.head.invariant in
    let offer = c.plain-offer.ensures in
    let pen = c.no_pen-pen.ensures in
    let seen = c.again-seen.ensures in
    let book = ap (λ s. s.book) seen ∙ (ap (λ (v : PrefixView). v.book) c.self.view_is ∙ (sym c.requires.book ∙ sym c.head.view_is)) in
    let logs = ap (λ (v : PrefixView). v.log) c.self.view_is in
    let batch = c.args.batch.now in
    let changes = batch.changes.items in
    let more = entries_of batch.seat batch.first changes in
    let count : c.len.result ≡ length changes = search rules in
    let next = ap (λ n. c.self.inside.count + n) (count ∙ sym (entries_length batch.seat batch.first changes)) in
    let may : IsLegal (flat c.self.inside.seen.log ++ more) = subst (λ (l : History). IsLegal (l ++ more)) (sym logs) c.requires.legal in (
      ap (λ w. w.tracked) h,
      book,
      pen.0 ∙ book,
      offer.0,
      rw (ap (λ w. w.key) h, ap (λ s. s.log) seen, pen.1, offer.1, offer.3)
          (adds_moves c.self.inside.seen.log (publication_of_batch batch) c.self.inside.count (c.self.inside.count + c.len.result) (sym c.self.invariant.0) next may),
    )

pub invariant_of-result : goal.invariant_of-result
invariant_of-result c =
    let batch = c.args.batch.now in
    let changes = batch.changes.items in
    let before : History = c.args.self.now.log in
    let more : History = entries_of batch.seat batch.first changes in
    let now : flat c.compare_exchange-found.new.seen.log ≡ before ++ more = search rules in
    let same : flat c.self.inside.seen.log ≡ before = ap (λ (v : PrefixView). v.log) c.self.view_is in
    let count : c.len.result ≡ length changes = search rules in (
      omega (arith, c.self.invariant.0, ap length same, ap length now, length-append before more, count, entries_length batch.seat batch.first changes),
      subst IsLegal (sym now) c.requires.legal,
    )
