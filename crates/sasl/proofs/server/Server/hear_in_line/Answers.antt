use Rattle.std.proofs.Common.{◌≡◌, ℕ, ◌+◌, ◌<◌, ◌≤◌, true, false, List, [], ◌∷◌, ◌++◌, length, refl, sym, ap, subst, ◌∙◌, arith}
use Rattle.std.specs.Prelude.{◌==◌, ◌&&◌, OnOk}
use Rattle.std.proofs.lemmas.Bool.{true≢false, and_parts, eqb-true}
use Rattle.std.proofs.lemmas.List.{append-nil, length_push}
use Rattle.sasl.specs.declared.fault.AuthenticationFault.TheVariants.{LineTooLong}
use Rattle.sasl.specs.declared.phase.Phase.TheVariants.{Closed}
use Rattle.sasl.specs.Lines.{has_end}
use Rattle.sasl.specs.Conversations.{at, reads_lines}
use Rattle.sasl.specs.Hearing.{Conversed}
use Rattle.sasl.specs.Servers.{Speaker, Hears}
use Rattle.sasl.specs.Words.{ends_with_return}
use Rattle.sasl.proofs.Ends.{front_has_none, still_none}
use Rattle.sasl.proofs.InLine.{popped, whole_heard, short_heard, long_heard, speaker, same_speaker}
use Rattle.sasl.proofs.server.Server.hear_in_line.Goals as goal

pub invariant_of-self : goal.invariant_of-self
invariant_of-self c =
    let line = c.self.inside.line.items in
    let left = c.pop.new.self.items in
    let reads : reads_lines c.self.inside.phase ≡ true = ap (λ (x : Speaker). reads_lines x.state.phase) c.self.view_is ∙ c.requires in
    let parts = and_parts (ends_with_return line) (c.args.byte == 10) (rw c.deref.ensures.value at (sym c.completes_end.ensures ∙ c.if-completes_end.true)) in
    let is : line ≡ left ++ 13 ∷ [] = popped line left c.self.inside.line.len (sym c.self.inside.line.ok.0) c.pop.ensures.rest parts.0 in
    let kept = c.self.invariant.0 reads in (
      λ again. (front_has_none left (13 ∷ []) (subst (λ (x : List ℕ). has_end x ≡ false) is kept.0), omega (arith, kept.1, ap length is, length_push left 13)),
      λ other. absurd (true≢false (sym reads ∙ other)),
      c.self.invariant.2,
    )

pub returns-then-completes_end-clause-ok : goal.returns-then-completes_end-clause-ok
returns-then-completes_end-clause-ok c =
    let line = c.self.inside.line.items in
    let left = c.pop.new.self.items in
    let parts = and_parts (ends_with_return line) (c.args.byte == 10) (rw c.deref.ensures.value at (sym c.completes_end.ensures ∙ c.if-completes_end.true)) in
    let is : line ≡ left ++ 13 ∷ [] = popped line left c.self.inside.line.len (sym c.self.inside.line.ok.0) c.pop.ensures.rest parts.0 in
    let whole = whole_heard c.self.inside.setting c.self.inside.phase c.self.inside.rejections line left c.args.byte is (eqb-true c.args.byte 10 parts.1) in
    rw (← c.self.view_is) (subst (λ (o : Conversed). OnOk c.hear_line.result (Hears (speaker c.self.inside.setting (at c.self.inside.phase c.self.inside.rejections) line) o c.args.sent.now.items c.hear_line.new.self c.hear_line.new.sent.items)) (sym whole) c.hear_line.ensures.ok)

pub invariant_of-self-in-Continue-1 : goal.invariant_of-self-in-Continue-1
invariant_of-self-in-Continue-1 c =
    let line = c.self.inside.line.items in
    let reads : reads_lines c.self.inside.phase ≡ true = ap (λ (x : Speaker). reads_lines x.state.phase) c.self.view_is ∙ c.requires in
    let other : (ends_with_return line && (c.args.byte == 10)) ≡ false = rw c.deref.ensures.value at (sym c.completes_end.ensures ∙ c.if-completes_end.false) in
    let kept = c.self.invariant.0 reads in
    let is : c.push.new.self.items ≡ line ++ c.args.byte ∷ [] = c.in_ok-push.ensures.items in (
      λ again. (ap has_end is ∙ still_none line c.args.byte kept.0 other, omega (arith, ap length is, length_push line c.args.byte, c.if-len-lt-MAX_LINE.true, c.len.ensures, c.self.inside.line.ok.0)),
      λ none. absurd (true≢false (sym reads ∙ none)),
      c.self.invariant.2,
    )

pub returns-in_ok-push-clause-ok : goal.returns-in_ok-push-clause-ok
returns-in_ok-push-clause-ok c =
    let s = c.self.inside.setting in
    let state = at c.self.inside.phase c.self.inside.rejections in
    let line = c.self.inside.line.items in
    let reads : reads_lines c.self.inside.phase ≡ true = ap (λ (x : Speaker). reads_lines x.state.phase) c.self.view_is ∙ c.requires in
    let other : (ends_with_return line && (c.args.byte == 10)) ≡ false = rw c.deref.ensures.value at (sym c.completes_end.ensures ∙ c.if-completes_end.false) in
    let short : length line + 1 < 4096 = omega (arith, c.if-len-lt-MAX_LINE.true, c.len.ensures, c.self.inside.line.ok.0) in
    let heard = short_heard s c.self.inside.phase c.self.inside.rejections line c.args.byte (c.self.invariant.0 reads).0 other short in
    let sent = c.args.sent.now.items in
    rw (← c.self.view_is)
    (subst (λ (o : Conversed). (speaker s state c.push.new.self.items ≡ speaker s o.state o.left) × (sent ≡ sent ++ o.sent)) (sym heard)
    (same_speaker s state state _ _ refl c.in_ok-push.ensures.items, sym (append-nil sent)))

pub returns-else-len-lt-MAX_LINE-clause-ok : goal.returns-else-len-lt-MAX_LINE-clause-ok
returns-else-len-lt-MAX_LINE-clause-ok c =
    let s = c.self.inside.setting in
    let line = c.self.inside.line.items in
    let reads : reads_lines c.self.inside.phase ≡ true = ap (λ (x : Speaker). reads_lines x.state.phase) c.self.view_is ∙ c.requires in
    let other : (ends_with_return line && (c.args.byte == 10)) ≡ false = rw c.deref.ensures.value at (sym c.completes_end.ensures ∙ c.if-completes_end.false) in
    let long : 4096 ≤ length line + 1 = omega (arith, c.if-len-lt-MAX_LINE.false, c.len.ensures, c.self.inside.line.ok.0) in
    let heard = long_heard s c.self.inside.phase c.self.inside.rejections line c.args.byte (c.self.invariant.0 reads).0 other long in
    let sent = c.args.sent.now.items in
    rw (← c.self.view_is)
    (subst (λ (o : Conversed). (c.close.new.self ≡ speaker s o.state o.left) × (sent ≡ sent ++ o.sent)) (sym heard)
    (c.close.ensures ∙ ap (λ (x : Speaker). speaker x.setting (at (Closed LineTooLong) x.state.rejections) []) (sym c.self.view_is), sym (append-nil sent)))
