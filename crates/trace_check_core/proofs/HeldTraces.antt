-- Traces with one line more.
use Rattle.std.proofs.Common.{◌≡◌, ℕ, ◌+◌, ◌<◌, ◌≤◌, Bool, true, false, List, [], ◌∷◌, ◌++◌, length, length-append, refl, sym, ap, ◌∙◌, subst, arith}
use Rattle.std.specs.Prelude.{◌==◌, ◌&&◌, nat_lt}
use Rattle.std.specs.List.{list_all, AllByRecursion as Each}
use Rattle.std.proofs.lemmas.Bool.{and_parts}
use Rattle.std.proofs.lemmas.Bool.Decides.{nat_tests}
use Rattle.names.specs.Texts.{Text, text_lt}
use Rattle.seq_bus_core.specs.Histories.{CanOpen, max_routers}
use Rattle.seq_bus_core.specs.Steps.{is_reserved}
use Rattle.seq_bus_core.specs.declared.limits.TheConstants.{MAX_SERVICES}
use Rattle.trace_lines.specs.Lines.{Line}
use Rattle.trace_check_core.specs.KeptLines.{IsSeated}
use Rattle.trace_check_core.specs.Traces.{Trace, is_last, takes_service}
use Rattle.trace_check_core.specs.TraceViews.{IsHeld, trace_said}
use Rattle.trace_check_core.specs.declared.trace.Trace.TheInside.{Inside}
use Rattle.trace_check_core.proofs.Openings.{headed_opens, service_opens}

pub held_headed : (t : Inside) → (1 ≤ t.routers) × (t.routers ≤ max_routers) → t.services.items ≡ [] → t.lines.items ≡ [] → t.count ≡ 2 → IsHeld t
held_headed t within services lines count =
    let no_services : length t.services.items ≡ 0 = ap length services in
    let no_lines : length t.lines.items ≡ 0 = ap length lines in
    record {
      opened = subst (CanOpen t.routers) (sym services) (headed_opens t.routers within);
      lines_seated = subst (Each (IsSeated t.routers)) (sym lines) tt;
      counted = omega (arith, no_services, no_lines, count);
    }

-- ## One service more

all_before : (services : List Text) (name : Text) → list_all (λ service. text_lt service name) services ≡ is_last services name
all_before [] name = refl
all_before (service ∷ services) name = ap (λ (b : Bool). text_lt service name && b) (all_before services name)

pub takes_last : (t : Trace) (name : Text) (last : Bool) → (length t.lines == 0) ≡ true → nat_lt (length t.services) MAX_SERVICES ≡ true →
    last ≡ list_all (λ service. text_lt service name) t.services → last ≡ takes_service t name
takes_last t name last alone few is =
    is ∙ all_before t.services name ∙ ap (λ (b : Bool). b && is_last t.services name) (sym few)
    ∙ ap (λ (b : Bool). (b && nat_lt (length t.services) MAX_SERVICES) && is_last t.services name) (sym alone)

pub held_service : (t u : Inside) (name : Text) → IsHeld t → takes_service (trace_said t) name ≡ true → is_reserved name ≡ false →
    u.routers ≡ t.routers → u.services.items ≡ t.services.items ++ name ∷ [] → u.lines.items ≡ t.lines.items → u.count ≡ t.count + 1 → IsHeld u
held_service t u name held takes ownable routers services lines count =
    let last = and_parts ((length t.lines.items == 0) && nat_lt (length t.services.items) MAX_SERVICES) (is_last t.services.items name) takes in
    let both = and_parts (length t.lines.items == 0) (nat_lt (length t.services.items) MAX_SERVICES) last.0 in
    let few : length t.services.items < MAX_SERVICES = grind (arith, nat_tests, both.1) in
    let more : length u.services.items ≡ length t.services.items + 1 = ap length services ∙ length-append t.services.items (name ∷ []) in
    let same : length u.lines.items ≡ length t.lines.items = ap length lines in
    record {
      opened =
          subst (λ (r : ℕ). CanOpen r u.services.items) (sym routers)
          (subst (CanOpen t.routers) (sym services) (service_opens t.routers t.services.items name held.opened few last.1 ownable));
      lines_seated = subst (λ (r : ℕ). Each (IsSeated r) u.lines.items) (sym routers) (subst (Each (IsSeated t.routers)) (sym lines) held.lines_seated);
      counted = omega (arith, held.counted, more, same, count);
    }

-- ## One line more

pub seated_more : (routers : ℕ) (lines : List Line) (line : Line) → Each (IsSeated routers) lines → IsSeated routers line → Each (IsSeated routers) (lines ++ line ∷ [])
seated_more routers [] line all one = (one, tt)
seated_more routers (l ∷ lines) line all one = (all.0, seated_more routers lines line all.1 one)

pub held_line : (t u : Inside) (line : Line) → IsHeld t → IsSeated t.routers line →
    u.routers ≡ t.routers → u.services.items ≡ t.services.items → u.lines.items ≡ t.lines.items ++ line ∷ [] → u.count ≡ t.count + 1 → IsHeld u
held_line t u line held seated routers services lines count =
    let more : length u.lines.items ≡ length t.lines.items + 1 = ap length lines ∙ length-append t.lines.items (line ∷ []) in
    let same : length u.services.items ≡ length t.services.items = ap length services in
    record {
      opened = subst (λ (r : ℕ). CanOpen r u.services.items) (sym routers) (subst (CanOpen t.routers) (sym services) held.opened);
      lines_seated =
          subst (λ (r : ℕ). Each (IsSeated r) u.lines.items) (sym routers)
          (subst (Each (IsSeated t.routers)) (sym lines) (seated_more t.routers t.lines.items line held.lines_seated seated));
      counted = omega (arith, held.counted, more, same, count);
    }
