-- The one history of a registry, in its publications: the entries of a publication are seen together.
use Rattle.std.specs.Prelude.{ℕ, ◌≡◌, ◌==◌, true, List, [], ◌∷◌, ◌++◌, length, MatchBool}
use Rattle.logbook.specs.Pages.{Cell, Step, View, Book, Named}
use Rattle.seq_bus_core.specs.Batches.{entries_of}
use Rattle.seq_bus_core.specs.Histories.{History, IsLegal}
use Rattle.seq_bus_core.specs.declared.entry.Entry.{Entry}
use Rattle.registry_snapshots_core.specs.declared.history.Batch.{Batch}
use Rattle.registry_snapshots_core.specs.declared.history.Publication.{Publication}

-- the entries of all publications, in order
abbrev pub flat : List Publication → History
flat [] = []
flat (p ∷ ps) = p.entries ++ flat ps

-- the publication of one entry
abbrev pub publication_of : Entry → Publication
publication_of e = record { entries = e ∷ [] }

-- the publication of a batch
abbrev pub publication_of_batch : Batch → Publication
publication_of_batch b = record { entries = entries_of b.seat b.first b.changes.items }

-- The first word of the book is the length of the history, which is legal. A book has two words; this one leaves the second at 0.
pub record IsKept (cells : List Cell) (log : List Publication) : Type 0 where
  pub words : cells ≡ (length (flat log), true) ∷ (0, true) ∷ []
  pub legal : IsLegal (flat log)

abbrev pub head_of : Book → Named
head_of b = record { tracked = true; key = 0; book = b }

-- where the length found is the one expected, the publication was added to all that had been seen
abbrev pub Adds : Step Publication → View Publication ℕ → ℕ → View Publication ℕ → Type 0
Adds s v found w = MatchBool (found == s.old) ((flat w.0 ≡ flat v.0 ++ s.ask.entries) × IsLegal (flat w.0)) (Unit {0})
