use Rattle.std.proofs.Common.{◌≡◌, ◌+◌, ◌<◌, ◌∙◌, length, sym, subst, slice_set, OnOk, OnErr}
use Rattle.routers_core.specs.Posts.{IsFullFor, Sends, Ways, Waited}
use Rattle.routers_core.proofs.Ways.{is_kept, is_full}
use Rattle.routers_core.proofs.post.LanePost.put_own.Goals as goal
use Rattle.routers_core.proofs.post.LanePost.put_own.Goals.{in-Ok, in-Err}

pub returns-clause-put : goal.returns-clause-put
returns-clause-put g c =
    let ways : Ways _ _ = record { lane = c.self.inside.lane; places = c.self.inside.places.items; first = c.self.inside.first; starts = c.self.inside.starts } in
    let same : ways ≡ c.args.self.now = c.self.view_is ∙ c.waiting-waiting.ensures.same in
    let at = subst (λ (w : Ways _ _). c.args.slot ≡ w.first + c.args.place) (sym same) c.requires.0 in
    let within = subst (λ (w : Ways _ _). c.args.place < length w.places) (sym same) c.requires.1 in
    let waited = subst (λ (w : Ways _ _). Waited w c.args.slot c.waiting-waiting.result) (sym same) c.waiting-waiting.ensures.count in
    elim c.match-put.branch [
      | in-Ok w ↦
          subst (λ r. OnOk r (Sends c.args.self.now c.args.slot c.args.envelope (record ways { places = slice_set ways.places c.args.place c.put.new.self }))) (sym w.result-is)
          (subst (λ (before : Ways _ _). Sends before c.args.slot c.args.envelope (record ways { places = slice_set ways.places c.args.place c.put.new.self })) same
          (is_kept ways c.args.slot c.args.place c.index_mut.result.now at within c.index_mut.ensures.value c.put.new.self c.waiting-waiting.result c.args.envelope w.in-Ok.ensures.0 waited w.in-Ok.ensures.1))
      | in-Err w ↦
          subst (λ r. OnOk r (Sends c.args.self.now c.args.slot c.args.envelope (record ways { places = slice_set ways.places c.args.place c.put.new.self }))) (sym w.result-is) tt
    ]

pub returns-clause-full : goal.returns-clause-full
returns-clause-full g c =
    let ways : Ways _ _ = record { lane = c.self.inside.lane; places = c.self.inside.places.items; first = c.self.inside.first; starts = c.self.inside.starts } in
    let same : ways ≡ c.args.self.now = c.self.view_is ∙ c.waiting-waiting.ensures.same in
    let at = subst (λ (w : Ways _ _). c.args.slot ≡ w.first + c.args.place) (sym same) c.requires.0 in
    let within = subst (λ (w : Ways _ _). c.args.place < length w.places) (sym same) c.requires.1 in
    elim c.match-put.branch [
      | in-Ok w ↦ subst (λ r. OnErr r (IsFullFor c.args.self.now c.args.slot)) (sym w.result-is) tt
      | in-Err w ↦
          subst (λ r. OnErr r (IsFullFor c.args.self.now c.args.slot)) (sym w.result-is)
          (subst (λ (ways : Ways _ _). IsFullFor ways c.args.slot) same
          (is_full ways c.args.slot c.args.place c.index_mut.result.now at within c.index_mut.ensures.value w.in-Err.ensures.2))
    ]
