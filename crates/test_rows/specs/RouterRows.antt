-- The places of the routers.
use Rattle.std.specs.Prelude.{◌≡◌, ℕ, ◌+◌, true, None, [], map, replicate}
use Rattle.std.specs.List.{range_with_len}
use Rattle.owner_queues.specs.declared.request.Profile.TheVariants.{One}
use Rattle.seq_bus_core.specs.BusState.{BusState}
use Rattle.seq_bus_core.specs.Steps.{step}
use Rattle.seq_bus_core.specs.Histories.{opening, after}
use Rattle.seq_bus_core.specs.declared.entry.Entry.{Entry}
use Rattle.seq_bus_core.specs.declared.change.Change.TheVariants.{Hello}
use Rattle.seq_bus_core.specs.declared.outcome.Reply.{Reply}
use Rattle.seq_bus_core.specs.declared.outcome.Reply.TheVariants.{LimitsExceeded, Welcome}

abbrev pub hello_of : ℕ → Entry
hello_of seat = record { seat = seat; number = 1; change = Hello true; left = 0 }

-- what a Hello is told after so many of the same seat
abbrev pub reply_after : ℕ → ℕ → ℕ → Reply
reply_after routers seat hellos = (step (after (opening One routers []) (replicate hellos (hello_of seat))) seat (Hello true)).1.reply

abbrev pub EighthHas32Places : Type 0
EighthHas32Places = (reply_after 8 2 31 ≡ Welcome (record { number = 32; slot = 63; router = 2 })) × (reply_after 8 2 32 ≡ LimitsExceeded)

abbrev pub ThirdHas85Places : Type 0
ThirdHas85Places = (reply_after 3 3 84 ≡ Welcome (record { number = 85; slot = 254; router = 3 })) × (reply_after 3 3 85 ≡ LimitsExceeded)

-- neither the main thread's seat nor a seat above the routers has a place
abbrev pub OtherSeatsHaveNone : Type 0
OtherSeatsHaveNone = (reply_after 3 0 0 ≡ LimitsExceeded) × (reply_after 3 4 0 ≡ LimitsExceeded)

-- one router whose slots are taken, but for the last
abbrev pub filled : ℕ → BusState
filled places = record (opening One 1 []) {
  connections = map (λ slot. record { number = slot + 1; router = 1; slot = slot; privileged = true; monitor = None }) (range_with_len 0 places);
  next_number = places + 1;
}

abbrev pub OneRouterHas256Places : Type 0
OneRouterHas256Places = ((step (filled 255) 1 (Hello true)).1.reply ≡ Welcome (record { number = 256; slot = 255; router = 1 })) × ((step (filled 256) 1 (Hello true)).1.reply ≡ LimitsExceeded)
