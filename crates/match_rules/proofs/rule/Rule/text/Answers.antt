use Rattle.std.proofs.Common.{◌≤◌, length, ap, subst, sym, ◌∙◌, arith, length-append, [], ◌∷◌}
use Rattle.match_rules.specs.declared.room.TheConstants.{MAX_RULE_LENGTH}
use Rattle.match_rules.specs.EntryView.{pair_of, entries_left}
use Rattle.match_rules.specs.CanonicalTexts.{rule_text}
use Rattle.match_rules.proofs.CanonicalTextLaws.{text_has_room, first_has_room, next_has_room}
use Rattle.match_rules.proofs.rule.Rule.text.Goals as goal

pub append_to-requires : goal.append_to-requires
append_to-requires c =
    first_has_room c.self.inside.entries (entries_left c.next.new.self) (pair_of c.in-Some.first) c.new-text.result (sym c.entries-entries.ensures.value ∙ c.in-Some.ensures.steps) c.new-text.ensures
    (text_has_room c.self.inside.entries c.self.invariant)

pub append-requires : goal.append-requires
append-requires c =
    let fits : length (rule_text c.args.self.now) ≤ MAX_RULE_LENGTH = subst (λ r. length (rule_text r) ≤ MAX_RULE_LENGTH) c.self.view_is (text_has_room c.self.inside.entries c.self.invariant) in
    omega (arith, next_has_room c.loop-entry.text (rule_text c.args.self.now) (entries_left c.loop-entry.entry-iterator) (entries_left c.next-in-loop-entry.new.self) (pair_of c.in-Some-entry.entry) c.loop-entry.invariant c.in-Some-entry.ensures.steps fits)

pub append_to-requires-in-loop-entry : goal.append_to-requires-in-loop-entry
append_to-requires-in-loop-entry c =
    let fits : length (rule_text c.args.self.now) ≤ MAX_RULE_LENGTH = subst (λ r. length (rule_text r) ≤ MAX_RULE_LENGTH) c.self.view_is (text_has_room c.self.inside.entries c.self.invariant) in
    omega (
      arith,
      next_has_room c.loop-entry.text (rule_text c.args.self.now) (entries_left c.loop-entry.entry-iterator) (entries_left c.next-in-loop-entry.new.self) (pair_of c.in-Some-entry.entry) c.loop-entry.invariant c.in-Some-entry.ensures.steps fits,
      ap (λ t. length t) c.append.ensures,
      length-append c.loop-entry.text (44 ∷ []),
    )
