use Rattle.std.proofs.Common.{◌≡◌, ◌*◌, ◌++◌, ◌∷◌, [], ℕ, List, length, ap, subst, sym, ◌∙◌, append-nil, arith, All}
use Rattle.std.specs.Prelude.{Vec}
use Rattle.std.proofs.lemmas.List.{length-append, take-append-drop, nil_from_length}
use Rattle.std.proofs.lemmas.List.Elements.{All-push}
use Rattle.outbox.specs.Lanes.{End, all_of}
use Rattle.outbox.proofs.Grouping.{fits, fits_after, all_of-push}
use Rattle.outbox.proofs.opening.grouped.Goals as goal

pub split_off-requires : goal.split_off-requires
split_off-requires g c = omega (arith, fits c.loop-group.group c.args.groups c.args.places (length c.loop-group.taps.items) c.loop-group-test.true c.loop-group.invariant.fits)

pub loop-group-preserved : goal.loop-group-preserved
loop-group-preserved g c =
    let inv = c.loop-group.invariant in let rows = c.loop-group.rows.items in let taps = c.loop-group.taps.items in
    let row = c.split_off.new.self in let rest = c.in_ok-rest.rest in let places = c.args.places in
    let cut : row.items ++ rest.items ≡ taps = (λ i. c.in_ok-rest.ensures.items i ++ c.in_ok-rest.ensures.tail i) ∙ take-append-drop places taps in
    let long : length row.items ≡ places = omega (arith, c.in_ok-rest.ensures.len, row.ok.0) in
    let more = ap length c.in_ok-push.ensures.items in record {
      all =
          ap (λ (r : List (Vec (End _) _)). all_of r ++ rest.items) c.in_ok-push.ensures.items
          ∙ all_of-push rows row rest.items c.args.taps.items (ap (λ (t : List (End _)). all_of rows ++ t) cut ∙ inv.all);
      fits = fits_after c.loop-group.group places (length taps) (length rest.items) _ (omega (arith, c.in_ok-rest.ensures.tail_len, rest.ok.0, c.loop-group.taps.ok.0)) inv.fits;
      grouped = record {
        many = omega (arith, more, length-append rows (row ∷ []), inv.grouped.many);
        each =
            subst (λ (r : List (Vec (End _) _)). All (λ (x : Vec (End _) _). length x.items ≡ places) r) (sym c.in_ok-push.ensures.items)
            (All-push (λ (x : Vec (End _) _). length x.items ≡ places) rows row inv.grouped.each long);
      };
      within = omega (arith, c.loop-group-test.true);
    }

pub returns-clause-taps : goal.returns-clause-taps
returns-clause-taps g c =
    let inv = c.loop-group.invariant in let rows = c.loop-group.rows.items in let taps = c.loop-group.taps.items in
    let is : c.loop-group.group ≡ c.args.groups = omega (arith, c.loop-group-test.false, inv.within) in
    let same = ap (λ (k : ℕ). k * c.args.places) is in
    let none : length taps ≡ 0 = omega (arith, same, inv.fits) in
    sym (append-nil (all_of rows)) ∙ ap (λ (t : List (End _)). all_of rows ++ t) (sym (nil_from_length taps none)) ∙ inv.all
