use Rattle.std.proofs.Common.{◌≡◌, ◌+◌, ◌-◌, suc, true, List, [], ◌++◌, take, drop, get_or, refl, sym, ap, ◌∙◌, subst, arith}
use Rattle.owner_queues.specs.Queues.{is_in, without}
use Rattle.seq_bus_core.specs.BusState.{OwnedName, names_of, kept_name}
use Rattle.seq_bus_core.specs.Steps.{names_without}
use Rattle.registry_core.specs.NameTables.{AreOwned}
use Rattle.registry_core.proofs.NameTableLemmas.{leave_next, leave_counts, leave_ended, owned_kept, parts_at, between_at, nth_waits}
use Rattle.registry_core.proofs.name_table.NameTable.leave.Goals as goal

nobody : OwnedName
nobody = record { name = []; queue = [] }

pub loop-left-init : goal.loop-left-init
loop-left-init c = record { left = c.count_of-left.ensures; same = refl; owned = subst AreOwned c.self.view_is c.self.invariant.0.owned }

pub place_of_nth-place-requires : goal.place_of_nth-place-requires
place_of_nth-place-requires c = omega (arith, c.loop-left.invariant.left, c.loop-left-test.true)

pub leave_at-requires-clause-waits : goal.leave_at-requires-clause-waits
leave_at-requires-clause-waits c front back n is place_is =
    let place = c.place_of_nth-place.result in
    let at : get_or c.loop-left.self place nobody ≡ n = ap (λ (ns : List OwnedName). get_or ns place nobody) is ∙ between_at front back n nobody place place_is in
    ap (λ (m : OwnedName). is_in c.args.connection m.queue) (sym at)
    ∙ nth_waits c.args.connection (c.loop-left.left - 1) place c.loop-left.self nobody (omega (arith, c.loop-left.invariant.left, c.loop-left-test.true)) (c.place_of_nth-place.ensures.value nobody)

pub loop-left-preserved : goal.loop-left-preserved
loop-left-preserved c =
    let names : List OwnedName = c.loop-left.self in
    let number = c.args.connection in
    let place = c.place_of_nth-place.result in
    let n : OwnedName = get_or names place nobody in
    let front : List OwnedName = take place names in
    let back : List OwnedName = drop (suc place) names in
    let parts = parts_at names place nobody c.place_of_nth-place.ensures.there in
    let waits : is_in number n.queue ≡ true = nth_waits number (c.loop-left.left - 1) place names nobody (omega (arith, c.loop-left.invariant.left, c.loop-left-test.true)) (c.place_of_nth-place.ensures.value nobody) in
    let new_is : c.leave_at.new.self ≡ front ++ kept_name n.name (without number n.queue) ++ back = c.leave_at.ensures front back n parts.0 parts.1 in
    let fewer : names_of number names ≡ names_of number c.leave_at.new.self + 1 = ap (names_of number) parts.0 ∙ leave_counts number front back n waits ∙ ap (λ ns. names_of number ns + 1) (sym new_is) in
    record {
      left = omega (arith, fewer, c.loop-left.invariant.left);
      same = ap (names_without number) new_is ∙ leave_next number front back n ∙ ap (names_without number) (sym parts.0) ∙ c.loop-left.invariant.same;
      owned = subst AreOwned (sym new_is) (owned_kept front back n (without number n.queue) (subst AreOwned parts.0 c.loop-left.invariant.owned));
    }

pub returns : goal.returns
returns c =
    sym (leave_ended c.args.connection c.loop-left.self c.loop-left.invariant.owned (omega (arith, c.loop-left.invariant.left, c.loop-left-test.false))) ∙ c.loop-left.invariant.same
