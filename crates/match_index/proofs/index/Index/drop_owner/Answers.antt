use Rattle.std.proofs.Common.{length, ap, ◌∙◌, arith}
use Rattle.match_index.specs.Entries.{live}
use Rattle.match_index.proofs.IndexLemmas.{fewer_without}
use Rattle.match_index.proofs.index.Index.drop_owner.Goals as goal

pub invariant_of-self : goal.invariant_of-self
invariant_of-self c =
    let rules = live c.self.inside.entries.items in
    let left = ap length (c.sweep_if_due.ensures.live ∙ c.take_out_all.ensures.live) in
    let fewer = fewer_without c.args.connection rules in
    record {
      indexed = c.sweep_if_due.ensures.indexed;
      shaped = c.sweep_if_due.ensures.shaped _ (c.take_out_all.ensures.shaped _ c.self.invariant.shaped);
      few_gone = c.sweep_if_due.ensures.few_gone;
      few = omega (arith, left, fewer, c.self.invariant.few);
      has_room = omega (arith, c.self.invariant.has_room, c.take_out_all.ensures.capacity, c.sweep_if_due.ensures.capacity);
      has_moves = omega (arith, c.self.invariant.has_moves, c.sweep_if_due.ensures.moves);
      connections_room = c.sweep_if_due.ensures.owner_room ∙ c.take_out_all.ensures.owner_room ∙ c.self.invariant.connections_room;
      codes_room = c.sweep_if_due.ensures.bucket_room ∙ c.take_out_all.ensures.bucket_room ∙ c.self.invariant.codes_room;
    }
