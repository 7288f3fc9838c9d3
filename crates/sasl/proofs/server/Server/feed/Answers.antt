use Rattle.std.proofs.Common.{◌≡◌, ℕ, ◌≤◌, true, List, [], ◌++◌, length, take, drop, refl, sym, ap, subst, ◌∙◌, arith, inl, inr}
use Rattle.std.proofs.lemmas.Bool.{true≢false}
use Rattle.std.proofs.lemmas.List.{take-append-drop, take_rest}
use Rattle.sasl.specs.declared.fault.AuthenticationFault.TheVariants.{NoMemory}
use Rattle.sasl.specs.declared.phase.Phase.TheVariants.{Closed}
use Rattle.sasl.specs.Conversations.{State, at, is_open, Converses}
use Rattle.sasl.specs.Servers.{Speaker, IsKept, HandsOn}
use Rattle.sasl.proofs.Feeding.{none_used, fed, ends_told}
use Rattle.sasl.proofs.server.Server.feed.Goals as goal
use Rattle.sasl.proofs.server.Server.feed.Goals.{then-loop-used-test+else-is_open, else-loop-used-test}

abbrev IsKeptBy : Speaker → Type 0
IsKeptBy x = IsKept x.state.phase x.state.rejections x.unfinished

pub loop-used-init : goal.loop-used-init
loop-used-init c =
    let from = c.args.self.now in
    record {
      within = omega arith;
      setting = refl;
      goes_on = subst (λ (x : List ℕ). Converses from.setting from.state (from.unfinished ++ []) x from.state from.unfinished) (sym c.new-sent.ensures.items)
          (none_used from.setting from.state from.unfinished c.args.piece.now (subst (λ (x : Speaker). IsKeptBy x) c.self.view_is c.self.invariant));
    }

pub loop-used-preserved : goal.loop-used-preserved
loop-used-preserved c =
    let from = c.args.self.now in
    let old = c.loop-used.self in
    let inv = c.loop-used.invariant in
    let kept : IsKeptBy old = subst (λ (x : Speaker). IsKeptBy x) c.self-in-loop-used.view_is c.self-in-loop-used.invariant in
    record {
      within = omega (arith, c.loop-used-test.true);
      setting = ap (λ (x : Speaker). x.setting) c.in-Ok.ensures.ok.0 ∙ inv.setting;
      goes_on = fed from old c.hear.new.self c.args.piece.now c.loop-used.used c.loop-used.sent.items c.hear.new.sent.items _ inv.setting inv.goes_on c.loop-used-test.true refl kept c.in-Ok.ensures.ok;
    }

pub returns-in-Err : goal.returns-in-Err
returns-in-Err c =
    let from = c.args.self.now in
    let old = c.loop-used.self in
    let inv = c.loop-used.invariant in
    let piece = c.args.piece.now in
    let used = c.loop-used.used in
    let nothing = c.in-Err.ensures.err in
    inr (record {
      front = take used piece;
      behind = drop used piece;
      piece_is = sym (take-append-drop used piece);
      reached = old.state;
      left = old.unfinished;
      converses = subst (λ (x : List ℕ). Converses from.setting from.state (from.unfinished ++ take used piece) x old.state old.unfinished) (sym nothing.2) inv.goes_on;
      was_open = sym (ap (λ (x : Speaker). is_open x.state.phase) c.self-in-loop-used.view_is) ∙ (sym c.is_open.ensures ∙ c.if-is_open.true);
      cause = refl;
      state = ap (λ (x : Speaker). x.state) c.close.ensures ∙ ap (λ (x : State). at (Closed NoMemory) x.rejections) nothing.1;
      setting = ap (λ (x : Speaker). x.setting) c.close.ensures ∙ nothing.0 ∙ inv.setting;
    })

pub returns : goal.returns
returns c =
    let from = c.args.self.now in
    let new = c.loop-used.self in
    let inv = c.loop-used.invariant in
    let kept : IsKeptBy new = subst (λ (x : Speaker). IsKeptBy x) c.self-in-loop-used.view_is c.self-in-loop-used.invariant in
    let piece = c.args.piece.now in
    let used = c.loop-used.used in
    let handed : HandsOn c.progress-progress.result (drop used piece) = subst (λ (x : List ℕ). HandsOn c.progress-progress.result x) (take_rest piece used) c.progress-progress.ensures.rest in
    let all : is_open new.state.phase ≡ true → length piece ≤ used = λ going. elim c.loop-used-test.branch [
      | then-loop-used-test+else-is_open w ↦ absurd (true≢false (sym (ap (λ (x : Speaker). is_open x.state.phase) c.self-in-loop-used.view_is ∙ going) ∙ (sym w.is_open.ensures ∙ w.if-is_open.false)))
      | else-loop-used-test w ↦ omega (arith, w.loop-used-test.false)
    ] in
    inl (record {
      converses = ends_told from.setting from.state from.unfinished piece used c.loop-used.sent.items new.state new.unfinished inv.goes_on c.progress-progress.result c.progress-progress.ensures.told handed all kept;
      told = c.progress-progress.ensures.told;
      setting = inv.setting;
      kept = kept.1;
    })
