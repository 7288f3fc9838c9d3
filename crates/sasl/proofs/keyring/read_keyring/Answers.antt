use Rattle.std.proofs.Common.{◌≡◌, ℕ, ◌+◌, ◌<◌, List, ◌∷◌, length, refl, sym, ap, subst, ◌∙◌, arith, inl}
use Rattle.std.specs.Prelude.{option_map}
use Rattle.sasl.specs.Keyrings.{lines_of}
use Rattle.sasl.specs.Entries.{cookie_said}
use Rattle.sasl.proofs.KeyringLines.{bytes_behind, line_cut, line_shortens, line_reads, line_is_bad, rest_is, not_empty}
use Rattle.sasl.proofs.keyring.read_keyring.Goals as goal

pub returns-in_default : goal.returns-in_default
returns-in_default c =
    let rest = c.loop-last.rest.now in
    let line = c.cut.result.0.now in
    let behind = c.cut.result.1 in
    let some : 0 < length rest = not_empty rest c.is_empty.result c.is_empty.ensures c.loop-last-test.true in
    let cut : lines_of rest ≡ line ∷ lines_of (bytes_behind behind) = line_cut rest line behind some c.cut.ensures in
    inl (sym (c.loop-last.invariant.cookie ∙ line_is_bad (option_map cookie_said c.loop-last.last) (c.loop-last.lines + 1) rest line (bytes_behind behind) cut c.in_default.ensures))

pub loop-last-smaller : goal.loop-last-smaller
loop-last-smaller c =
    let rest = c.loop-last.rest.now in
    let some : 0 < length rest = not_empty rest c.is_empty.result c.is_empty.ensures c.loop-last-test.true in
    let is : c.unwrap_or-rest.result.now ≡ bytes_behind c.cut.result.1 = rest_is c.cut.result.1 _ c.unwrap_or-rest.result c.unwrap_or-rest.ensures refl in
    let shorter : length (bytes_behind c.cut.result.1) < length rest = line_shortens rest c.cut.result.0.now c.cut.result.1 some c.cut.ensures in
    subst (λ (x : List ℕ). length x < length rest) (sym is) shorter

pub loop-last-preserved : goal.loop-last-preserved
loop-last-preserved c =
    let rest = c.loop-last.rest.now in
    let line = c.cut.result.0.now in
    let behind = c.cut.result.1 in
    let some : 0 < length rest = not_empty rest c.is_empty.result c.is_empty.ensures c.loop-last-test.true in
    let is : c.unwrap_or-rest.result.now ≡ bytes_behind behind = rest_is behind _ c.unwrap_or-rest.result c.unwrap_or-rest.ensures refl in
    let shorter : length (bytes_behind behind) < length rest = line_shortens rest line behind some c.cut.ensures in
    let cut : lines_of rest ≡ line ∷ lines_of c.unwrap_or-rest.result.now = line_cut rest line behind some c.cut.ensures ∙ ap (λ (x : List ℕ). line ∷ lines_of x) (sym is) in
    record {
      cookie = c.loop-last.invariant.cookie ∙ line_reads (option_map cookie_said c.loop-last.last) (c.loop-last.lines + 1) rest line c.unwrap_or-rest.result.now cut (cookie_said c.in-Some.entry) c.in-Some.ensures;
      few = omega (arith, shorter, ap length is, c.loop-last.invariant.few);
    }
