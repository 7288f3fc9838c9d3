-- What was asked in two parts was granted and read in each.
use Rattle.std.proofs.Common.{true, false, List, [], ◌∷◌, ◌++◌}
use Rattle.router_core.specs.Acts.{Exchange, Changed, ChangedAll, Asked, Routed, AskedPresence, Noted, Framed, Called, Gated, Wanted, IsGranted}
use Rattle.router_core.specs.Answers.{Says, Refuses}
use Rattle.router_core.proofs.Alone.{AreReadBy, Readers}

pub granted_parts : (first later : List Exchange) → IsGranted (first ++ later) → IsGranted first × IsGranted later
granted_parts [] later h = (tt, h)
granted_parts (Changed change (Says o) ∷ first) later h = granted_parts first later h
granted_parts (ChangedAll changes (Says os) ∷ first) later h = granted_parts first later h
granted_parts (Changed change (Refuses r) ∷ first) later h = absurd h
granted_parts (ChangedAll changes (Refuses r) ∷ first) later h = absurd h
granted_parts (Asked query (Says told) ∷ first) later h = granted_parts first later h
granted_parts (Asked query (Refuses r) ∷ first) later h = absurd h
granted_parts (Routed from facts (Says v) ∷ first) later h = granted_parts first later h
granted_parts (Routed from facts (Refuses r) ∷ first) later h = absurd h
granted_parts (AskedPresence number (Says there) ∷ first) later h = granted_parts first later h
granted_parts (AskedPresence number (Refuses r) ∷ first) later h = absurd h
granted_parts (Noted told ∷ first) later h = granted_parts first later h
granted_parts (Framed bytes incoming ∷ first) later h = granted_parts first later h
granted_parts (Called m reading ∷ first) later h = granted_parts first later h
granted_parts (Gated seen call ∷ first) later h = granted_parts first later h
granted_parts (Wanted true ∷ first) later h = granted_parts first later h
granted_parts (Wanted false ∷ first) later h = absurd h

pub read_parts : (readers : Readers) (first later : List Exchange) → AreReadBy readers (first ++ later) → AreReadBy readers first × AreReadBy readers later
read_parts readers [] later h = (tt, h)
read_parts readers (Changed change heard ∷ first) later h = read_parts readers first later h
read_parts readers (ChangedAll changes heard ∷ first) later h = read_parts readers first later h
read_parts readers (Asked query heard ∷ first) later h = read_parts readers first later h
read_parts readers (Routed from facts heard ∷ first) later h = read_parts readers first later h
read_parts readers (AskedPresence number heard ∷ first) later h = read_parts readers first later h
read_parts readers (Noted told ∷ first) later h = read_parts readers first later h
read_parts readers (Framed bytes incoming ∷ first) later h = let parts = read_parts readers first later h.1 in ((h.0, parts.0), parts.1)
read_parts readers (Called m reading ∷ first) later h = let parts = read_parts readers first later h.1 in ((h.0, parts.0), parts.1)
read_parts readers (Gated seen call ∷ first) later h = read_parts readers first later h
read_parts readers (Wanted granted ∷ first) later h = read_parts readers first later h
