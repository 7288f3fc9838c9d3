use Rattle.std.proofs.Common.{◌+◌, sym, ◌∙◌, ap, subst, refl, [], ◌∷◌, ◌++◌}
use Rattle.seq_bus_core.specs.Histories.{History, IsLegal}
use Rattle.registry_snapshots_core.specs.Copies.{PrefixView}
use Rattle.registry_snapshots_core.specs.Publications.{flat, publication_of}
use Rattle.registry_snapshots_core.proofs.Adding.{adds_moves}
use Rattle.registry_snapshots_core.proofs.history.Prefix.add.Goals as goal

pub compare_exchange-found-requires : goal.compare_exchange-found-requires
compare_exchange-found-requires c =
    let h = c.head.invariant in
    let offer = c.plain-offer.ensures in
    let pen = c.no_pen-pen.ensures in
    let seen = c.again-seen.ensures in
    let book = ap (λ s. s.book) seen ∙ (ap (λ (v : PrefixView). v.book) c.self.view_is ∙ (sym c.requires.book ∙ sym c.head.view_is)) in
    let logs = ap (λ (v : PrefixView). v.log) c.self.view_is in
    let e = c.args.entry.now in
    let may : IsLegal (flat c.self.inside.seen.log ++ e ∷ []) = subst (λ (l : History). IsLegal (l ++ e ∷ [])) (sym logs) c.requires.legal in (
      ap (λ w. w.tracked) h,
      book,
      pen.0 ∙ book,
      offer.0,
      rw (ap (λ w. w.key) h, ap (λ s. s.log) seen, pen.1, offer.1, offer.3)
          (adds_moves c.self.inside.seen.log (publication_of e) c.self.inside.count (c.self.inside.count + 1) (sym c.self.invariant.0) refl may),
    )
