use Rattle.std.proofs.Common.{◌≡◌, ◌+◌, ◌≤◌, ℕ, List, IsUtf8, length, arith, sym, ap, subst, ◌∙◌}
use Rattle.std.proofs.lemmas.Result.{err_from_is_err_and}
use Rattle.message_core.specs.Said.{said}
use Rattle.message.specs.MessageBytes.{fields_bytes, body_bytes, message_bytes}
use Rattle.message.specs.Senders.{sent_by}
use Rattle.message.specs.Layout.{behind, sent_end, known_places, last_end}
use Rattle.message.proofs.PartLemmas.{facts, sent_facts, length_is}
use Rattle.message.proofs.Refusals.{length_refused, length_told}
use Rattle.message.proofs.relaying.relayed_length.Goals as goal

pub layout_of-requires-clause-within : goal.layout_of-requires-clause-within
layout_of-requires-clause-within c =
    let ps = c.parts_of-parts.result.fields.now in
    let body = c.parts_of-parts.result.body.now in
    let f = facts c.args.message.now body ps c.parts_of-parts.ensures.lies in
    f.within

pub returns-in_err-layout : goal.returns-in_err-layout
returns-in_err-layout c =
    let ps = c.parts_of-parts.result.fields.now in
    let body = c.parts_of-parts.result.body.now in
    let f = facts c.args.message.now body ps c.parts_of-parts.ensures.lies in
    let bytes = c.args.message.now in
    let name = c.args.sender.now in
    let m = sent_by name (said bytes) in
    let seen = c.as_str.result.now in
    let e : seen ≡ name = c.as_str.ensures.value in
    let s = sent_facts bytes body name ps c.as_str.ensures.name (subst IsUtf8 e c.as_str.utf8) c.parts_of-parts.ensures.lies in
    let last : sent_end seen (known_places ps) ≡ 16 + length (fields_bytes m) = ap (λ (x : List ℕ). sent_end x (known_places ps)) e ∙ s.end in
    let p = err_from_is_err_and c.from_residual.result c.from_residual.ensures.1 in
    length_refused m (sent_end seen (known_places ps)) c.from_residual.result p.0 c.in_err-layout.field-0.0 last p.1 p.2 c.in_err-layout.ensures.too_long

pub whole_length-requires-clause-small : goal.whole_length-requires-clause-small
whole_length-requires-clause-small c =
    let ps = c.parts_of-parts.result.fields.now in
    let body = c.parts_of-parts.result.body.now in
    let f = facts c.args.message.now body ps c.parts_of-parts.ensures.lies in
    omega (arith, f.body_short)

pub returns : goal.returns
returns c =
    let ps = c.parts_of-parts.result.fields.now in
    let body = c.parts_of-parts.result.body.now in
    let f = facts c.args.message.now body ps c.parts_of-parts.ensures.lies in
    let bytes = c.args.message.now in
    let name = c.args.sender.now in
    let m = sent_by name (said bytes) in
    let seen = c.as_str.result.now in
    let e : seen ≡ name = c.as_str.ensures.value in
    let s = sent_facts bytes body name ps c.as_str.ensures.name (subst IsUtf8 e c.as_str.utf8) c.parts_of-parts.ensures.lies in
    let last : sent_end seen (known_places ps) ≡ 16 + length (fields_bytes m) = ap (λ (x : List ℕ). sent_end x (known_places ps)) e ∙ s.end in
    let layout = c.in_ok-layout.layout in
    let end : layout.end ≡ 16 + length (fields_bytes m) = c.in_ok-layout.ensures.end ∙ last in
    let short : layout.end ≤ last_end = omega (arith, c.in_ok-layout.ensures.end, c.in_ok-layout.ensures.too_long) in
    let body_is : body_bytes m ≡ body = s.body ∙ f.body_is in
    let size : behind layout.end (length body) ≡ length (message_bytes m) = sym (length_is m body layout.end body_is end) in
    c.whole_length.ensures ∙ length_told m layout.end (behind layout.end (length body)) end size short
