-- What the one knows who uses a plain bus: its whole history.
use Rattle.std.specs.Prelude.{Option, Some, None, [], ◌∷◌, length}
use Rattle.seq_bus.specs.PlainBus.{PlainBus}
use Rattle.seq_bus.specs.declared.TheConstants.{SEAT}
use Rattle.seq_bus_core.specs.Histories.{History, numbers_of}
use Rattle.bus_view.specs.Views.{Knowledge}

-- a note was made with each change
abbrev pub noted : History → Option History
noted [] = None
noted (e ∷ history) = Some (e ∷ history)

-- all changes are its own, so the last one is too
abbrev pub knowledge_of : PlainBus → Knowledge
knowledge_of bus = record {
  registry = 0;
  opening = bus.opening;
  seat = SEAT;
  seen = bus.seen;
  made = length (numbers_of SEAT bus.seen);
  last = length bus.seen;
  held = noted bus.seen;
}
