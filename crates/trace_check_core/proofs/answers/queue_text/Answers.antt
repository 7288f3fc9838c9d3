use Rattle.std.proofs.Common.{◌≡◌, ◌∙◌, ◌∷◌, sym, ap}
use Rattle.std.specs.Prelude.{string_bytes}
use Rattle.names.specs.Texts.{Text}
use Rattle.seq_bus_core.specs.BusState.{queue_of}
use Rattle.trace_check_core.proofs.Listings.{queue_told}
use Rattle.trace_check_core.proofs.answers.queue_text.Goals as goal

pub returns : goal.returns
returns c =
    let queue : queue_of c.args.registry.now.names c.args.name.now ≡ c.in-Some.owner.now ∷ c.in-Some.waiting.now =
    sym (c.queue.ensures ∙ ap (λ (n : Text). queue_of c.args.registry.now.names n) c.as_str.ensures.value) ∙ c.in-Some.ensures.cases.0 in
    queue_told c.args.registry.now c.args.name.now c.in-Some.owner.now c.in-Some.waiting.now _ (string_bytes c.push_waiting.new.text)
    (sym c.if-has_no_queue.ensures) queue (c.in_ok-text.ensures.ok ∙ c.as_str-2.ensures.value ∙ c.of.ensures) c.in_ok-push_waiting.ensures
