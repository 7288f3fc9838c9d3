use Rattle.std.proofs.Common.{◌≡◌, ◌<◌, ◌+◌, ◌∷◌, ℕ, List, length, take, drop, get_or, sym, subst, arith, drop-set-lt}
use Rattle.std.proofs.lemmas.List.{drop_more, take_all, take_more_set}
use Rattle.registry.specs.PreparedChanges.{ArePreparedFor, PreparedChange}
use Rattle.match_index.proofs.Lists.{done_is, next_is}
use Rattle.seq_bus_core.specs.BusState.{BusState}
use Rattle.seq_bus_core.specs.declared.change.Change.{Change}
use Rattle.settling.specs.Batches.{SettleAlong}
use Rattle.settling.specs.Settlings.{Settling}
use Rattle.settling.proofs.Along.{AreTakenTo, taken_more}
use Rattle.settling.proofs.batch.Settlings.take.Goals as goal

-- the same of equal lists
taken_as : (s : BusState) (seat : ℕ) (left : List Change) {done more : List Change} {first all rest later : List PreparedChange} {settlings each : List Settling} → more ≡ done → all ≡ first → later ≡ rest → each ≡ settlings
    → AreTakenTo s seat done left first rest settlings → AreTakenTo s seat more left all later each
taken_as s seat left {more = more} {first = first} {all = all} {rest = rest} {later = later} {settlings = settlings} same_done same_first same_rest same_settlings so_far =
    subst (λ (xs : List Settling). AreTakenTo s seat more left all later xs) (sym same_settlings)
    (subst (λ (ps : List PreparedChange). AreTakenTo s seat more left all ps settlings) (sym same_rest)
    (subst (λ (ps : List PreparedChange). AreTakenTo s seat more left ps rest settlings) (sym same_first)
    (subst (λ (cs : List Change). AreTakenTo s seat cs left first rest settlings) (sym same_done) so_far)))

pub loop-i-preserved : goal.loop-i-preserved
loop-i-preserved c =
    let i = c.loop-i.i in
    let inv = c.loop-i.invariant in
    let changes : List Change = c.args.changes.now in
    let all : List PreparedChange = c.loop-i.prepared in
    let each : List Settling = c.loop-i.each.items in
    let change : Change = c.index-changes-i.result in
    let p : PreparedChange = get_or all i c.index-prepared-i.result in
    let q : PreparedChange = c.take.new.prepared in
    let x : Settling = c.in_ok-take.field-0 in
    let taken = c.in_ok-take.ensures in
    let here : i < length all = omega (arith, c.loop-i-test.true, c.loop-i.auto.prepared) in
    let there : i < length changes = omega (arith, c.loop-i-test.true, c.requires) in
    let left : drop i changes ≡ change ∷ drop (i + 1) changes = next_is changes i change there c.index-changes-i.is in
    let rest : drop i all ≡ p ∷ drop (i + 1) all = drop_more all i c.index-prepared-i.result here in
    record {
      taken = λ s seat along.
          let so_far =
          subst (λ (ps : List PreparedChange). AreTakenTo s seat (take i changes) (change ∷ drop (i + 1) changes) (take i all) ps each) rest
          (subst (λ (cs : List Change). AreTakenTo s seat (take i changes) cs (take i all) (drop i all) each) left (inv.taken s seat along)) in
          taken_as s seat (drop (i + 1) changes) (done_is changes i change there c.index-changes-i.is) (take_more_set all i q here) (drop-set-lt (i + 1) all i q (omega arith)) c.push_back_reserved.ensures.items
          (taken_more s seat (take i changes) change (drop (i + 1) changes) (take i all) p q (drop (i + 1) all) each x so_far taken.same_seat taken.same_change taken.settles);
      as_many = omega (arith, inv.as_many, c.push_back_reserved.ensures.len);
      room = omega (arith, inv.room, c.push_back_reserved.ensures.capacity);
      room_told = inv.room_told;
    }

pub returns : goal.returns
returns c s seat along =
    let i = c.loop-i.i in
    let changes : List Change = c.args.changes.now in
    let all : List PreparedChange = c.loop-i.prepared in
    let so_far = c.loop-i.invariant.taken s seat along in
    let every : take i changes ≡ changes = take_all i changes (omega (arith, c.loop-i-test.false, c.requires)) in
    let whole : take i all ≡ all = take_all i all (omega (arith, c.loop-i-test.false, c.loop-i.auto.prepared)) in (
      subst (λ (cs : List Change). ArePreparedFor seat cs all) every (subst (λ (ps : List PreparedChange). ArePreparedFor seat (take i changes) ps) whole so_far.prepared),
      subst (λ (cs : List Change). SettleAlong s seat cs c.loop-i.each.items) every so_far.settles,
    )
