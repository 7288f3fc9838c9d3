use Rattle.std.proofs.Common.{◌≡◌, ℕ, ◌+◌, List, ◌++◌, length, drop, None, sym, ap, subst, ◌∙◌, arith}
use Rattle.std.proofs.lemmas.Result.{err_from_is_err_and}
use Rattle.message_core.proofs.Announced.{announced_facts}
use Rattle.message.specs.Framing.{Unread, IsFound}
use Rattle.message.proofs.Front.{taken, none_begins, all_there, all_taken, all_judged, all_none}
use Rattle.message.proofs.framer.Framer.take_front.Goals as goal

pub take-requires-clause-whole : goal.take-requires-clause-whole
take-requires-clause-whole c =
    let items = c.self.inside.buffer.items in
    let from = c.self.inside.from in
    let found = subst (λ (u : Unread). IsFound 134217728 c.args.size u.bytes) (sym c.self.view_is) c.requires.found in
    let all = all_there 134217728 items from c.args.size (omega (arith, c.if-self-eq0.true)) (omega (arith, c.if-size-len.true, c.len.ensures, c.self.inside.buffer.ok.0)) found in
    all.1

pub returns-then-size-len-clause-taken : goal.returns-then-size-len-clause-taken
returns-then-size-len-clause-taken c =
    let items = c.self.inside.buffer.items in
    let from = c.self.inside.from in
    let found = subst (λ (u : Unread). IsFound 134217728 c.args.size u.bytes) (sym c.self.view_is) c.requires.found in
    let all = all_there 134217728 items from c.args.size (omega (arith, c.if-self-eq0.true)) (omega (arith, c.if-size-len.true, c.len.ensures, c.self.inside.buffer.ok.0)) found in
    let fine : c.self.inside.fault ≡ None = ap (λ (u : Unread). u.fault) c.self.view_is ∙ c.requires.fine in
    let a = announced_facts 134217728 items (length items) all.1 in
    all_taken 134217728 items c.args.self.now (ap (λ (u : Unread). u.bytes) (sym c.self.view_is) ∙ all.0) all.1 all.2 c.take.result c.take.new.buffer.items from c.self.inside.fault c.if-self-eq0.true fine c.requires.fine a.within c.take.ensures.bytes
    c.take.ensures.message c.take.ensures.emptied

pub returns-then-size-len-clause-fault : goal.returns-then-size-len-clause-fault
returns-then-size-len-clause-fault c =
    let items = c.self.inside.buffer.items in
    let from = c.self.inside.from in
    let found = subst (λ (u : Unread). IsFound 134217728 c.args.size u.bytes) (sym c.self.view_is) c.requires.found in
    let all = all_there 134217728 items from c.args.size (omega (arith, c.if-self-eq0.true)) (omega (arith, c.if-size-len.true, c.len.ensures, c.self.inside.buffer.ok.0)) found in
    all_judged 134217728 items c.args.self.now (ap (λ (u : Unread). u.bytes) (sym c.self.view_is) ∙ all.0) all.1 all.2 c.take.result c.take.ensures.fault

pub returns-then-size-len-clause-no_message : goal.returns-then-size-len-clause-no_message
returns-then-size-len-clause-no_message c =
    let items = c.self.inside.buffer.items in
    let from = c.self.inside.from in
    let found = subst (λ (u : Unread). IsFound 134217728 c.args.size u.bytes) (sym c.self.view_is) c.requires.found in
    let all = all_there 134217728 items from c.args.size (omega (arith, c.if-self-eq0.true)) (omega (arith, c.if-size-len.true, c.len.ensures, c.self.inside.buffer.ok.0)) found in
    all_none 134217728 items c.args.self.now (ap (λ (u : Unread). u.bytes) (sym c.self.view_is) ∙ all.0) all.1 all.2 c.take.result c.take.ensures.none

pub read-requires-clause-whole : goal.read-requires-clause-whole
read-requires-clause-whole c =
    let items = c.self.inside.buffer.items in
    let from = c.self.inside.from in
    let whole = c.in_ok-whole.whole.items in
    let found = subst (λ (u : Unread). IsFound 134217728 c.args.size u.bytes) (sym c.self.view_is) c.requires.found in
    let t = taken 134217728 items whole from c.args.size (rw (← c.deref.ensures.value) c.in_ok-whole.ensures.items) found in
    t.announced_whole

pub returns-in_err-message-clause-no_message : goal.returns-in_err-message-clause-no_message
returns-in_err-message-clause-no_message c =
    let items = c.self.inside.buffer.items in
    let from = c.self.inside.from in
    let whole = c.in_ok-whole.whole.items in
    let found = subst (λ (u : Unread). IsFound 134217728 c.args.size u.bytes) (sym c.self.view_is) c.requires.found in
    let t = taken 134217728 items whole from c.args.size (rw (← c.deref.ensures.value) c.in_ok-whole.ensures.items) found in
    let p = err_from_is_err_and c.from_residual-in_err-message.result c.from_residual-in_err-message.ensures.1 in
    rw (p.1, p.2) (λ other. rw (← c.self.view_is) (none_begins 134217728 (drop from items) whole (drop (from + c.args.size) items) t.split t.announced_whole (omega (arith, t.size, found.0)) (c.in_err-message.ensures.none other)))

pub returns-clause-taken : goal.returns-clause-taken
returns-clause-taken c =
    let items = c.self.inside.buffer.items in
    let from = c.self.inside.from in
    let whole = c.in_ok-whole.whole.items in
    let found = subst (λ (u : Unread). IsFound 134217728 c.args.size u.bytes) (sym c.self.view_is) c.requires.found in
    let t = taken 134217728 items whole from c.args.size (rw (← c.deref.ensures.value) c.in_ok-whole.ensures.items) found in
    let fine : c.self.inside.fault ≡ None = ap (λ (u : Unread). u.fault) c.self.view_is ∙ c.requires.fine in
    let a = announced_facts 134217728 whole (length whole) t.announced_whole in
    let message = c.in_ok-message.ensures.bytes in
    rw (← c.self.view_is) (record {
      fine = fine;
      is_message = c.in_ok-message.ensures.message;
      within = rw message a.within;
      taken = t.split ∙ ap (λ (x : List ℕ). x ++ drop (from + c.args.size) items) (sym message);
      still_fine = fine;
    })
