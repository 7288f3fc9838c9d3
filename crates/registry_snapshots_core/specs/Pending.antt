-- What is pending while a change is published.
use Rattle.std.specs.Prelude.{◌≡◌, List, fold}
use Rattle.logbook.specs.Pages.{Book}
use Rattle.seq_bus_core.specs.Tickets.{WholeBus}
use Rattle.registry_snapshots_core.specs.Copies.{SnapView, IsSnapOf, absorbed, absorbed_all}
use Rattle.registry_snapshots_core.specs.declared.snap.Op.{Op}
use Rattle.registry_snapshots_core.specs.declared.snap.Op.TheVariants.{Rest, Made, MadeAll}

abbrev pub brought_up : SnapView → Op → SnapView
brought_up s Rest = s
brought_up s (Made seat number prepared prefix) = absorbed s seat number prepared prefix
brought_up s (MadeAll seat number prepared prefix) = absorbed_all s seat number prepared.items prefix

-- the copy that has what is pending stands for a beginning of this book's history too
abbrev pub IsReady : Book → WholeBus → SnapView → List Op → Type 0
IsReady book opening shown pending = IsSnapOf book opening (fold brought_up shown pending)

-- the next copy has what was pending
abbrev pub Shows : SnapView → List Op → SnapView → Type 0
Shows shown pending next = next ≡ fold brought_up shown pending
