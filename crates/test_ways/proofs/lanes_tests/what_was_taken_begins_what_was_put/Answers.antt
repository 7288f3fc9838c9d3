use Rattle.std.proofs.Common.{rules}
use Rattle.outbox.specs.Lanes.{lane_end}
use Rattle.test_ways.proofs.lanes_tests.what_was_taken_begins_what_was_put.Goals as goal

-- src/lanes_tests.rt: the end that put is of the tap's queue still
pub compare-requires-clause-end : goal.compare-requires-clause-end
compare-requires-clause-end g c = λ e is.
    let put = c.put.ensures.rule (lane_end 0 c.in-Some.tap) (search rules) in
    search (put, is, rules)
