use Rattle.std.proofs.Common.{◌≡◌, ◌<◌, ℕ, Bool, Option, Some, None, List, length, get_or, sym, ap, ◌∙◌, arith, subst}
use Rattle.std.specs.List.{position}
use Rattle.match_rules.specs.OwnedRules.{is_rule_of, without_first}
use Rattle.match_index.specs.Entries.{by_connection, has_rule, live, positions}
use Rattle.match_index.specs.Indexes.{AreShaped}
use Rattle.match_index.specs.declared.entries.Entry.{Entry}
use Rattle.match_index.specs.declared.place_index.KeyedPlace.{KeyedPlace}
use Rattle.match_index.proofs.EntryLemmas.{first_place-map, length_marked, none_taken, nth_position, taken_all, taken_first}
use Rattle.match_index.proofs.IndexLemmas.{shaped_marked}
use Rattle.match_index.proofs.Lists.{first_place, place_passes, position_is}
use Rattle.match_index.proofs.index.Index.remove_first.Goals.{In-Some}
use Rattle.match_index.proofs.index.Index.remove_first.Goals as goal

-- where the first rule stands, of those of the connection
found : (c : In-Some) → first_place (has_rule c.args.rule.now c.self.inside.entries.items) (positions by_connection c.args.connection c.self.inside.entries.items) ≡ Some c.in-Some.n
found c =
    let entries : List Entry = c.self.inside.entries.items in
    let n = c.args.connection in
    let rule = c.args.rule.now in
    let places : List KeyedPlace = c.of-places.result.now in
    let test : KeyedPlace → Bool = λ p. has_rule rule entries p.place in
    ap (first_place (has_rule rule entries)) (sym (c.of-places.ensures ∙ c.self.invariant.indexed.owned.places_are n)) ∙ first_place-map (has_rule rule entries) (λ (p : KeyedPlace). p.place) places ∙ sym (position_is test places)
    ∙ ap (λ (es : List Entry). position (λ p. has_rule rule es p.place) places) (sym c.deref.ensures.value) ∙ sym c.place_of.ensures ∙ c.in-Some.is

its_length : (c : In-Some) → c.in-Some.n < length (positions by_connection c.args.connection c.self.inside.entries.items)
its_length c = (place_passes (has_rule c.args.rule.now c.self.inside.entries.items) (positions by_connection c.args.connection c.self.inside.entries.items) c.in-Some.n (found c)).0

pub take_out-requires-clause-there : goal.take_out-requires-clause-there
take_out-requires-clause-there c = its_length (goal.at.take_out-requires-clause-there c).In-Some

pub sweep_if_due-requires-clause-has_moves : goal.sweep_if_due-requires-clause-has_moves
sweep_if_due-requires-clause-has_moves c =
    let as_many = ap length c.take_out.ensures.items ∙ length_marked c.self.inside.entries.items _ in
    omega (arith, as_many, c.self.invariant.few_gone, c.self.invariant.few, c.self.invariant.has_moves)

pub invariant_of-self : goal.invariant_of-self
invariant_of-self c =
    let entries : List Entry = c.self.inside.entries.items in
    let n = c.args.connection in
    let lt = its_length (goal.at.invariant_of-self c).In-Some in
    let left = ap length (c.sweep_if_due.ensures.live ∙ ap live c.take_out.ensures.items) in
    let fewer = taken_all by_connection n c.in-Some.n entries (get_or (positions by_connection n entries) c.in-Some.n 0) (nth_position by_connection n c.in-Some.n entries lt) in
    record {
      indexed = c.sweep_if_due.ensures.indexed;
      shaped = c.sweep_if_due.ensures.shaped _ (subst (AreShaped _) (sym c.take_out.ensures.items) (shaped_marked _ entries _ c.self.invariant.shaped));
      few_gone = c.sweep_if_due.ensures.few_gone;
      few = omega (arith, left, fewer, c.self.invariant.few);
      has_room = omega (arith, c.self.invariant.has_room, c.take_out.ensures.capacity, c.sweep_if_due.ensures.capacity);
      has_moves = omega (arith, c.self.invariant.has_moves, c.sweep_if_due.ensures.moves);
      connections_room = c.sweep_if_due.ensures.owner_room ∙ c.take_out.ensures.owner_room ∙ c.self.invariant.connections_room;
      codes_room = c.sweep_if_due.ensures.bucket_room ∙ c.take_out.ensures.bucket_room ∙ c.self.invariant.codes_room;
    }

pub returns-in-Some : goal.returns-in-Some
returns-in-Some c =
    let entries : List Entry = c.self.inside.entries.items in
    let n = c.args.connection in
    let some = (goal.at.returns-in-Some c).In-Some in
    c.sweep_if_due.ensures.live ∙ ap live c.take_out.ensures.items
    ∙ taken_first c.args.rule.now n c.in-Some.n entries (get_or (positions by_connection n entries) c.in-Some.n 0) (nth_position by_connection n c.in-Some.n entries (its_length some)) (found some)
    ∙ ap (without_first (is_rule_of n c.args.rule.now)) c.self.view_is

pub returns-in_default : goal.returns-in_default
returns-in_default c =
    let entries : List Entry = c.self.inside.entries.items in
    let n = c.args.connection in
    let rule = c.args.rule.now in
    let places : List KeyedPlace = c.of-places.result.now in
    let test : KeyedPlace → Bool = λ p. has_rule rule entries p.place in
    let none : ◌≡◌ {A = Option ℕ} (first_place (has_rule rule entries) (positions by_connection n entries)) None =
    ap (first_place (has_rule rule entries)) (sym (c.of-places.ensures ∙ c.self.invariant.indexed.owned.places_are n)) ∙ first_place-map (has_rule rule entries) (λ (p : KeyedPlace). p.place) places ∙ sym (position_is test places)
    ∙ ap (λ (es : List Entry). position (λ p. has_rule rule es p.place) places) (sym c.deref.ensures.value) ∙ sym c.place_of.ensures ∙ c.in_default.is in
    sym c.self.view_is ∙ sym (none_taken n rule entries none) ∙ ap (without_first (is_rule_of n rule)) c.self.view_is
