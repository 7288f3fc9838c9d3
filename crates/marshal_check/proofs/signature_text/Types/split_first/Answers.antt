use Rattle.std.proofs.Common.{◌<◌, length}
use Rattle.std.proofs.lemmas.List.{nil_from_length}
use Rattle.marshal.proofs.Loops.{some_left, none_left}
use Rattle.marshal_check.proofs.Splits.{split_text, nothing_left}
use Rattle.marshal_check.proofs.signature_text.Types.split_first.Goals as goal

pub returns-then-is_empty : goal.returns-then-is_empty
returns-then-is_empty c = nothing_left c.args.self.text.now (nil_from_length c.args.self.text.now (none_left c.is_empty.result (length c.args.self.text.now) c.is_empty.ensures c.if-is_empty.true))

pub invariant_of-result : goal.invariant_of-result
invariant_of-result c =
    let some : 0 < length c.args.self.text.now = some_left c.is_empty.result (length c.args.self.text.now) c.is_empty.ensures c.if-is_empty.false in
    record { valid = (split_text c.args.self.text.now c.split_at.result.0.now c.skip_type-others.result.now c.args.self.valid some c.skip_type-others.ensures.rest c.split_at.ensures.front).0 }

pub invariant_of-result-2 : goal.invariant_of-result-2
invariant_of-result-2 c =
    let some : 0 < length c.args.self.text.now = some_left c.is_empty.result (length c.args.self.text.now) c.is_empty.ensures c.if-is_empty.false in
    record { valid = (split_text c.args.self.text.now c.split_at.result.0.now c.skip_type-others.result.now c.args.self.valid some c.skip_type-others.ensures.rest c.split_at.ensures.front).1 }

pub returns : goal.returns
returns c =
    let some : 0 < length c.args.self.text.now = some_left c.is_empty.result (length c.args.self.text.now) c.is_empty.ensures c.if-is_empty.false in
    (split_text c.args.self.text.now c.split_at.result.0.now c.skip_type-others.result.now c.args.self.valid some c.skip_type-others.ensures.rest c.split_at.ensures.front).2
