use Rattle.std.proofs.Common.{◌≡◌, true, false, sym, ap, ◌∙◌}
use Rattle.names.specs.Texts.{text_eq}
use Rattle.registry.proofs.QueueLemmas.{requeued_unique, requeued_bus, requeued_same, requeued_other}
use Rattle.registry.proofs.registry.Registry.head_requeued.Goals as goal

pub returns-then-is_unique : goal.returns-then-is_unique
returns-then-is_unique c = c.head.ensures ∙ sym (requeued_unique c.args.self.now c.args.changed.now c.args.queue.now c.args.name.now (sym c.if-is_unique.ensures))

pub returns-then-eq : goal.returns-then-eq
returns-then-eq c = sym (requeued_bus c.args.self.now c.args.changed.now c.args.queue.now c.args.name.now (sym c.if-is_unique.ensures) (sym c.if-eq.ensures))

pub returns-then-eq-2 : goal.returns-then-eq-2
returns-then-eq-2 c =
    let same : text_eq c.args.name.now c.args.changed.now ≡ true = ap (text_eq c.args.name.now) (sym c.as_str.ensures.value) ∙ sym c.if-eq-2.ensures in
    c.head-then-eq-2.ensures ∙ sym (requeued_same c.args.self.now c.args.changed.now c.args.queue.now c.args.name.now (sym c.if-is_unique.ensures) (sym c.if-eq.ensures) same)

pub returns : goal.returns
returns c =
    let other : text_eq c.args.name.now c.args.changed.now ≡ false = ap (text_eq c.args.name.now) (sym c.as_str.ensures.value) ∙ sym c.if-eq-2.ensures in
    c.head-2.ensures ∙ sym (requeued_other c.args.self.now c.args.changed.now c.args.queue.now c.args.name.now other)
