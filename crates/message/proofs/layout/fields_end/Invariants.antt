use Rattle.std.proofs.Common.{◌≡◌, ◌<◌, ◌^◌, drop}
use Rattle.message.specs.Layout.{AreWithin, fields_end as end_of}
use Rattle.message.proofs.layout.fields_end.Given as goal

abbrev pub invariant-loop-field : goal.invariant-loop-field
invariant-loop-field l = record {
  small : l.end < 2 ^ 34;
  within : AreWithin (2 ^ 33) (drop l.field-index l.fields);
  rest : end_of l.end (drop l.field-index l.fields) ≡ end_of l.at l.fields;
}
