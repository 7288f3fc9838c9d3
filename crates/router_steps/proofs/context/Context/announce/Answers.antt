use Rattle.std.proofs.Common.{◌≡◌, ◌∷◌, [], List, length, sym, ap, ◌∙◌, arith}
use Rattle.std.proofs.lemmas.List.{nil_from_length}
use Rattle.std.specs.Vec.Iter.{into_iter_items}
use Rattle.seq_bus_core.specs.declared.signal.AddressedSignal.{AddressedSignal}
use Rattle.outbox_core.specs.Deliveries.{deliveries_of}
use Rattle.router_core.specs.Deeds.{announcement, put_of}
use Rattle.router_core.specs.Scripts.{having_done}
use Rattle.router_steps.proofs.Signals.{nothing_done, puts_more}
use Rattle.router_steps.proofs.context.Context.announce.Goals as goal

pub loop-addressed-preserved : goal.loop-addressed-preserved
loop-addressed-preserved g c =
    let at = c.loop-addressed in
    let s = c.in-Some.addressed in
    let w = at.self.world in
    let steps : into_iter_items at.addressed-iterator ≡ s ∷ into_iter_items c.next.new.self = c.in-Some.ensures.steps.0 in
    let long = ap length steps in
    let done = c.put_signal.ensures.world ∙ ap (λ note. having_done w (put_of note s (deliveries_of s.to s.monitors))) c.copy.ensures in
    record {
      room = omega (arith, long, at.invariant.room, c.put_signal.ensures.room);
      acted = omega (arith, long, at.invariant.acted, c.put_signal.ensures.room);
      put = puts_more c.note-note.result s w c.put_signal.new.self.world (into_iter_items c.next.new.self) (into_iter_items at.addressed-iterator) steps done ∙ at.invariant.put;
      spare = c.put_signal.ensures.spare_verdicts ∙ at.invariant.spare;
    }

pub returns-clause-announces : goal.returns-clause-announces
returns-clause-announces g c =
    let at = c.loop-addressed in
    let note = c.note-note.result in
    let none : length (into_iter_items at.addressed-iterator) ≡ 0 = sym at.addressed-iterator.rest.ok.0 ∙ c.in-None.ensures.steps.0 in
    let empty : into_iter_items at.addressed-iterator ≡ [] = nil_from_length _ none in
    record {
      note = note;
      carries = c.note-note.ensures;
      rest = sym (nothing_done at.self.world) ∙ ap (λ (all : List AddressedSignal). having_done at.self.world (announcement all note)) (sym empty)
          ∙ at.invariant.put ∙ ap (λ (all : List AddressedSignal). having_done c.args.self.now.world (announcement all note)) c.into_iter-addressed-iterator.ensures.into_iter_gives.0;
    }
