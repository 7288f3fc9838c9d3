use Rattle.std.proofs.Common.{refl, ap, subst, List}
use mathlib.Core.List.{IsPrefix}
use Rattle.registry_snapshots_core.specs.Publications.{flat}
use Rattle.registry_snapshots_core.specs.declared.history.Publication.{Publication}
use Rattle.registry_snapshots_core.proofs.Prefixes.{shorter_begins, flat_prefix}
use Rattle.registry_snapshots_core.proofs.history.Prefix.begins.Goals as goal

pub returns : goal.returns
returns c =
    let both = c.learn.new.self.log in
    let this : IsPrefix c.self.inside.seen.log both = subst (λ (l : List Publication). IsPrefix l both) (ap (λ s. s.log) c.again-both.ensures) c.learn.ensures.2 in
    rw (← c.self.view_is, ← c.other.view_is)
    (shorter_begins (flat c.self.inside.seen.log) (flat c.other.inside.seen.log) (flat both) c.self.inside.count c.other.inside.count c.self.invariant.0 c.other.invariant.0
    (flat_prefix _ both this) (flat_prefix _ both c.learn.ensures.3) _ refl)
