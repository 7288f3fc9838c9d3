use Rattle.std.proofs.Common.{◌≡◌, List, [], ◌∷◌, ◌++◌, sym, subst}
use Rattle.std.proofs.lemmas.List.{same_from_push}
use Rattle.seq_bus_core.specs.Tickets.{WholeBus}
use Rattle.registry_snapshots.specs.Seats.{SeatView, fresh, fresh_to, knowledge_of}
use Rattle.busd.specs.Streams.{first_knowledge}
use Rattle.busd.proofs.Streams.{Served, never_served}
use Rattle.busd.proofs.stream.run_over_registry.Goals as goal
use Rattle.busd.proofs.stream.run_over_registry.Goals.{in-Some, in-None}

pub returns-in_default-clause-runs : goal.returns-in_default-clause-runs
returns-in_default-clause-runs g c =
    never_served (first_knowledge g.J.Naming.book.number) (g.R.ReadBeside.remaining c.args.reader.now) (g.R.ReadBeside.readings c.args.reader.now) (g.W.Write.contents c.args.writer.now)

pub returns-clause-runs : goal.returns-clause-runs
returns-clause-runs g c =
    let contents = g.W.Write.contents in
    let remaining = g.R.ReadBeside.remaining in
    let readings = g.R.ReadBeside.readings in
    let reader = c.args.reader.now in
    let writer = c.args.writer.now in
    let book = g.J.Naming.book in
    let knows = first_knowledge book.number in
    elim c.match-pop.branch [
      | in-Some w ↦
          let left = w.run_at_seat-end.new.reader in
          let wrote = w.run_at_seat-end.new.writer in
          let result = w.run_at_seat-end.result in
          let seats : fresh_to 1 ++ fresh 1 ∷ [] ≡ c.pop.new.self.items ++ w.in-Some.router ∷ [] =
          subst (λ (seats : List SeatView). seats ≡ c.pop.new.self.items ++ w.in-Some.router ∷ []) c.in-Ok.ensures.seats w.in-Some.ensures.items in
          let is_first : fresh 1 ≡ w.in-Some.router = (same_from_push (fresh_to 1) c.pop.new.self.items (fresh 1) w.in-Some.router seats).1 in
          let at_first = subst (λ (seat : SeatView). Served (knowledge_of book g.J.Naming.opening seat) (remaining reader) (remaining left) (readings reader) (readings left) (contents writer) (contents wrote) result) (sym is_first)
          w.run_at_seat-end.ensures.runs in
          let served = subst (λ (opening : WholeBus). Served (knowledge_of book opening (fresh 1)) (remaining reader) (remaining left) (readings reader) (readings left) (contents writer) (contents wrote) result) c.requires.1 at_first in
          subst (λ q. Served knows (remaining reader) (remaining q) (readings reader) (readings q) (contents writer) (contents c.match-pop.writer) c.match-pop.end) (sym w.reader-is)
          (subst (λ v. Served knows (remaining reader) (remaining left) (readings reader) (readings left) (contents writer) (contents v) c.match-pop.end) (sym w.writer-is)
          (subst (Served knows (remaining reader) (remaining left) (readings reader) (readings left) (contents writer) (contents wrote)) (sym w.end-is) served))
      | in-None w ↦
          subst (λ q. Served knows (remaining reader) (remaining q) (readings reader) (readings q) (contents writer) (contents c.match-pop.writer) c.match-pop.end) (sym w.reader-is)
          (subst (λ v. Served knows (remaining reader) (remaining reader) (readings reader) (readings reader) (contents writer) (contents v) c.match-pop.end) (sym w.writer-is)
          (subst (Served knows (remaining reader) (remaining reader) (readings reader) (readings reader) (contents writer) (contents writer)) (sym w.end-is) (never_served knows (remaining reader) (readings reader) (contents writer))))
    ]
