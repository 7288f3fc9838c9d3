use Rattle.std.proofs.Common.{◌≡◌, ℕ, ◌==◌, Bool, Option, Some, None, List, sym, ap, ◌∙◌, arith}
use Rattle.std.specs.List.{position}
use Rattle.monitor.specs.Monitors.{Monitor, without}
use Rattle.monitor.proofs.Places.{first_removed, all_stay}
use Rattle.monitor.proofs.monitors.Monitors.drop_owner.Goals as goal

pub loop-place-preserved : goal.loop-place-preserved
loop-place-preserved c =
    let test : Monitor → Bool = λ m. m.conn.number == c.args.number in
    let items : List Monitor = c.loop-place.self-inside.monitors.items in
    let found : ◌≡◌ {A = Option ℕ} (position test items) (Some c.in-Some.place) = ap (position test) (sym c.deref.ensures.value) ∙ sym c.place_of.ensures ∙ c.in-Some.is in
    record {
      same = ap (without c.args.number) c.remove-monitor.ensures.items ∙ first_removed test items c.in-Some.place found ∙ c.loop-place.invariant.same;
      all = omega (arith, c.loop-place.invariant.all, c.remove-monitor.ensures.len, c.push_reserved.ensures.len);
      has_room = omega (arith, c.loop-place.invariant.has_room, c.remove-monitor.ensures.capacity);
      has_spare_room = omega (arith, c.loop-place.invariant.has_spare_room, c.push_reserved.ensures.capacity);
    }

pub returns : goal.returns
returns c =
    let test : Monitor → Bool = λ m. m.conn.number == c.args.number in
    let items : List Monitor = c.loop-place.self-inside.monitors.items in
    let none : ◌≡◌ {A = Option ℕ} (position test items) None = ap (position test) (sym c.deref.ensures.value) ∙ sym c.place_of.ensures ∙ c.in_default.is in
    sym (all_stay test items none) ∙ c.loop-place.invariant.same
