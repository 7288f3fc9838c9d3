use Rattle.std.proofs.Common.{◌≡◌, ◌<◌, ◌+◌, ℕ, Bool, false, ◌==◌, length, sym, ap, subst, ◌∙◌, arith, length-drop}
use Rattle.std.proofs.lemmas.Bool.{eqb-false}
use Rattle.std.proofs.lemmas.Grind.{merely}
use Rattle.std.proofs.lemmas.List.{length-take}
use Rattle.match_rules.proofs.ParseLemmas.{IsReadTo, reads_fault, reads_last, reads_on}
use Rattle.match_rules.proofs.rule.Rule.parse.Goals as goal

some_bytes : (n m : ℕ) (empty : Bool) → empty ≡ (n == 0) → empty ≡ false → n ≡ m → 0 < m
some_bytes n m empty is other same = omega (arith, eqb-false n 0 (sym is ∙ other), same)

pub returns-in-Err : goal.returns-in-Err
returns-in-Err c =
    let same = ap (λ bytes. length bytes) c.as_bytes-rest.ensures.value in
    reads_fault c.args.text.now c.items.rest.now c.items.entries c.item_length-length.result c.in-Err.fault (some_bytes _ _ _ c.is_empty.ensures c.if-is_empty.false same) (omega (arith, same, c.if-rest-gt-MAX_RULE_LENGTH.false))
    c.items.invariant.read c.item_length-length.ensures.value c.in-Err.ensures.fault

pub returns-then-length-rest : goal.returns-then-length-rest
returns-then-length-rest c =
    let same = ap (λ bytes. length bytes) c.as_bytes-rest.ensures.value in
    reads_last c.args.text.now c.items.rest.now c.items.entries c.read_item.new.self c.item_length-length.result (some_bytes _ _ _ c.is_empty.ensures c.if-is_empty.false same) (omega (arith, same, c.if-rest-gt-MAX_RULE_LENGTH.false))
    c.items.invariant.read c.item_length-length.ensures.value c.if-length-rest.true c.in_default.ensures.fault c.in_default.ensures.rule

pub items-preserved : goal.items-preserved
items-preserved c =
    let less : c.item_length-length.result < length c.items.rest.now = omega (arith, c.item_length-length.ensures.within, c.if-length-rest.false) in
    let on = reads_on c.args.text.now c.items.rest.now c.items.entries c.read_item.new.self c.item_length-length.result c.items.invariant.read c.item_length-length.ensures.value less c.in_default.ensures.fault c.in_default.ensures.rule in
    let behind = ap (λ bytes. length bytes) c.behind-rest.ensures in
    record {
      read = subst (λ bytes. IsReadTo c.args.text.now bytes c.read_item.new.self) (sym c.behind-rest.ensures) on;
      room = omega (arith, c.items.invariant.room, c.in_default.ensures.room, behind, length-take c.item_length-length.result c.items.rest.now, length-drop (c.item_length-length.result + 1) c.items.rest.now, less);
    }

pub invariant_of-result-then-length-rest : goal.invariant_of-result-then-length-rest
invariant_of-result-then-length-rest c =
    let same = ap (λ bytes. length bytes) c.as_bytes-rest.ensures.value in
    merely (
      c.args.text.now,
      reads_last c.args.text.now c.items.rest.now c.items.entries c.read_item.new.self c.item_length-length.result (some_bytes _ _ _ c.is_empty.ensures c.if-is_empty.false same) (omega (arith, same, c.if-rest-gt-MAX_RULE_LENGTH.false))
          c.items.invariant.read c.item_length-length.ensures.value c.if-length-rest.true c.in_default.ensures.fault c.in_default.ensures.rule,
    )
