use Rattle.std.proofs.Common.{◌≡◌, ◌+◌, ◌<◌, ℕ, List, [], length, length-take, take, true, false, sym, ap, ◌∙◌, arith}
use Rattle.trace_lines.specs.Lines.{Line}
use Rattle.trace_check_core.specs.Legality.{changes_in}
use Rattle.trace_check_core.specs.Placing.{numbered, place_seen, placed_lines, with_line_there}
use Rattle.trace_check_core.specs.Verdicts.{first_line, first_refused, is_placed}
use Rattle.trace_check_core.specs.declared.places.PlaceLines.{PlaceLines}
use Rattle.trace_check_core.proofs.PlaceLemmas.{IsAt, above_all, free_passes, placed_none, placed_with, same_there, taken_refused}
use Rattle.trace_check_core.proofs.Refusals.{one_more, passed_at, refused_at}
use Rattle.trace_check_core.proofs.trace.Trace.places.Goals as goal
use Rattle.trace_check_core.proofs.trace.Trace.places.Goals.{then-place-len-via-then-place-len, then-place-len-via-else-place-len+then-is_taken}

pub loop-line-init : goal.loop-line-init
loop-line-init c =
    let lines : List Line = c.lines-lines.result.now in
    let count : c.changes.result ≡ changes_in lines = c.changes.ensures.value ∙ ap changes_in (sym c.lines-lines.ensures.value) in
    record {
      count = omega (arith, c.head_lines-number.ensures);
      places = c.in_ok-places.ensures ∙ placed_none (changes_in lines) (c.changes.result + 1) 0 (ap (λ (n : ℕ). n + 1) count);
      found = ap (λ (n : ℕ). first_refused (is_placed (changes_in lines)) n [] lines) (sym c.head_lines-number.ensures);
    }

pub returns-then-place-len-clause-misplaced : goal.returns-then-place-len-clause-misplaced
returns-then-place-len-clause-misplaced c =
    let lines : List Line = c.lines-lines.result.now in
    let i : ℕ = c.loop-line.line-index in
    let line : Line = c.line-item.result in
    let first : ℕ = first_line c.args.self.now in
    let within : i < length lines = omega arith in
    let refused : is_placed (changes_in lines) (take i lines) line ≡ false = elim c.then-place-len.branch [
      | then-place-len-via-then-place-len w ↦
          above_all (changes_in lines) first (take i lines) line c.loop-line.places.items c.place-place.result c.loop-line.invariant.places c.place-place.ensures.value (omega (arith, w.if-place-len.true, c.len.ensures, c.loop-line.places.ok.0))
      | then-place-len-via-else-place-len+then-is_taken w ↦
          let at : IsAt (changes_in lines) first (take i lines) c.loop-line.places.items c.place-place.result w.index.result.now = record { seen = c.loop-line.invariant.places; inside = omega (arith, w.if-place-len.false, c.len.ensures, c.loop-line.places.ok.0); is = w.index.ensures } in
          taken_refused (changes_in lines) first (take i lines) line c.loop-line.places.items c.place-place.result w.index.result.now at c.place-place.ensures.value (sym w.if-is_taken.ensures)
    ] in
    ap (λ (ls : List Line). first_refused (is_placed (changes_in ls)) first [] ls) (sym c.lines-lines.ensures.value)
    ∙ refused_at (is_placed (changes_in lines)) lines (c.loop-line.number + 1) i line _ within c.line-item.is refused c.loop-line.invariant.found

pub loop-line-preserved : goal.loop-line-preserved
loop-line-preserved c =
    let lines : List Line = c.lines-lines.result.now in
    let i : ℕ = c.loop-line.line-index in
    let line : Line = c.line-item.result in
    let first : ℕ = first_line c.args.self.now in
    let within : i < length lines = omega arith in
    let at : IsAt (changes_in lines) first (take i lines) c.loop-line.places.items c.place-place.result c.index.result.now = record { seen = c.loop-line.invariant.places; inside = omega (arith, c.if-place-len.false, c.len.ensures, c.loop-line.places.ok.0); is = c.index.ensures } in
    let free = sym c.if-is_taken.ensures in
    let passes : is_placed (changes_in lines) (take i lines) line ≡ true =
    free_passes (changes_in lines) first (take i lines) line c.loop-line.places.items c.place-place.result c.index.result.now at c.place-place.ensures.value free in
    let counted : c.loop-line.number + 1 ≡ first + length (take i lines) = let count = length-take i lines in omega (arith, c.loop-line.invariant.count, count, within) in
    record {
      count = omega (arith, c.loop-line.invariant.count);
      places =
          placed_with (changes_in lines) first (take i lines) line (c.loop-line.number + 1) c.loop-line.places.items c.place-place.result c.index.result.now c.take.new.self at
          c.place-place.ensures.value free counted (c.in_ok-take.ensures
          ∙ ap (λ (p : PlaceLines). with_line_there (place_seen p) (record { number = c.loop-line.number + 1; line = line }))
          (same_there c.loop-line.places.items c.place-place.result c.index_mut.result.now c.index.result.now at.inside c.index_mut.ensures.value c.index.ensures))
          ∙ ap (λ (before : List Line). placed_lines (changes_in lines) (numbered first before)) (sym (one_more lines i line within c.line-item.is));
      found = passed_at (is_placed (changes_in lines)) lines (c.loop-line.number + 1) i line _ within c.line-item.is passes c.loop-line.invariant.found;
    }
