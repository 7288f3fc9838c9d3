use Rattle.std.proofs.Common.{◌≡◌, ◌<◌, ◌≤◌, ◌^◌, ◌+◌, ◌++◌, drop, length, vec_capacity}
use Rattle.message.specs.Layout.{AreWithin, fields_end as end_of, copied}
use Rattle.message.proofs.putting.put_fields.Given as goal

abbrev pub invariant-loop-field : goal.invariant-loop-field
invariant-loop-field l = record {
  within : AreWithin (length l.bytes) (drop l.field-index l.fields);
  small : end_of l.end (drop l.field-index l.fields) < 2 ^ 63;
  room : length l.output.items + end_of l.end (drop l.field-index l.fields) ≤ vec_capacity l.output + l.end;
  items : l.output.items ++ copied l.bytes l.end (drop l.field-index l.fields) ≡ l.fn.output.items ++ copied l.bytes l.at l.fields;
  capacity : vec_capacity l.fn.output ≤ vec_capacity l.output;
}
