use Rattle.std.proofs.Common.{◌≡◌, true, length, sym, ap, ◌∙◌, rules, tests, arith}
use Rattle.std.specs.Prelude.{◌==◌, nat_lt, vec_len}
use Rattle.std.specs.List.{list_all}
use Rattle.std.proofs.lemmas.Bool.{true≢false}
use Rattle.std.proofs.lemmas.Bool.Decides.{nat_tests}
use Rattle.std.proofs.lemmas.Iterator.{YieldsList-from_slice}
use Rattle.std.proofs.lemmas.Iterator.Search.{all_from_yields_List}
use Rattle.names.specs.Texts.{text_lt}
use Rattle.seq_bus_core.specs.declared.limits.TheConstants.{MAX_SERVICES}
use Rattle.trace_check_core.specs.Traces.{Trace}
use Rattle.trace_check_core.proofs.HeldTraces.{takes_last}
use Rattle.trace_check_core.proofs.trace.Trace.takes_service.Goals as goal
use Rattle.trace_check_core.proofs.trace.Trace.takes_service.Goals.{then-is_empty, else-is_empty}

pub returns-then-len-lt-MAX_SERVICES : goal.returns-then-len-lt-MAX_SERVICES
returns-then-len-lt-MAX_SERVICES c =
    let t : Trace = c.args.self.now in
    let all : c.all.result ≡ list_all (λ service. text_lt service c.args.name.now) t.services =
    all_from_yields_List (λ service. text_lt service c.args.name.now) _ _ c.all.result c.all.ensures.ran (YieldsList-from_slice t.services cc) (λ x b q k. search (rules, tests)) in
    let services : length t.services ≡ length c.self.inside.services.items = ap (λ (s : Trace). length s.services) (sym c.self.view_is) in
    let lines : length t.lines ≡ length c.self.inside.lines.items = ap (λ (s : Trace). length s.lines) (sym c.self.view_is) in
    let alone : ((length t.lines == 0) ≡ true) × (nat_lt (length t.services) MAX_SERVICES ≡ true) = elim c.if-is_empty.branch [
      | then-is_empty w ↦
          let few : nat_lt w.len.result 256 ≡ true = sym w.value-is ∙ c.if-len-lt-MAX_SERVICES.true in
          let empty : (vec_len c.self.inside.lines == 0) ≡ true = sym w.if-is_empty.ensures in
          (grind (arith, nat_tests, lines, empty, c.self.inside.lines.ok.0), grind (arith, nat_tests, services, few, w.len.ensures, c.self.inside.services.ok.0))
      | else-is_empty w ↦ absurd (true≢false (sym c.if-len-lt-MAX_SERVICES.true ∙ w.value-is ∙ w.if-is_empty.false))
    ] in
    takes_last t c.args.name.now c.all.result alone.0 alone.1 all
