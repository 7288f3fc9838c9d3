use Rattle.std.proofs.Common.{subst}
use Rattle.registry_snapshots.specs.Seats.{SeatView, knowledge_of}
use Rattle.busd.proofs.Streams.{Served}
use Rattle.busd.proofs.stream.run_at_seat.Goals as goal

pub returns-clause-runs : goal.returns-clause-runs
returns-clause-runs g c =
    let contents = g.W.Write.contents in
    let remaining = g.R.ReadBeside.remaining in
    let readings = g.R.ReadBeside.readings in
    let reader = c.args.reader.now in
    let left = c.run_over.new.reader in
    subst (λ (seat : SeatView). Served (knowledge_of g.J.Naming.book g.J.Naming.opening seat) (remaining reader) (remaining left) (readings reader) (readings left) (contents c.args.writer.now) (contents c.run_over.new.writer) c.run_over.result)
    c.new.ensures c.run_over.ensures.runs
