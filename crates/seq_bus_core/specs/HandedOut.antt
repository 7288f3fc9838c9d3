-- Lists whose elements are handed out one by one.
use Rattle.std.specs.Prelude.{◌≡◌, ◌<◌, ◌^◌, List}
use Rattle.std.specs.Iterator.Runs.{EveryRun, ItemsAre}
use Rattle.std.specs.Vec.Iter.{into_iter_items, into_iter_len, into_iter_steps}
use Rattle.std.specs.declared.alloc.Global.{Global}
use Rattle.std.specs.declared.vec.IntoIter.{IntoIter}

-- the iterator hands out what is in the list, in order
abbrev pub IsHandedOut : {X : Type 0} → List X → IntoIter X Global → Type 0
IsHandedOut {X = X} list iter =
    (into_iter_items iter ≡ list) × (into_iter_len iter < 2 ^ 64) × EveryRun (into_iter_steps {X = X} {Z = Global}) (λ p. ItemsAre p (into_iter_items p.from))
