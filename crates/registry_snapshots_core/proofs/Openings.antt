-- A copy of a bus that was just opened.
use Rattle.std.proofs.Common.{◌≡◌, ◌<◌, ◌∙◌, ap, sym, subst, ℕ, List, [], length, slice_index, replicate}
use Rattle.std.proofs.lemmas.List.{get_or-replicate, length-replicate}
use Rattle.logbook.specs.Pages.{Book}
use Rattle.seq_bus_core.specs.Histories.{History, numbers_of}
use Rattle.seq_bus_core.specs.Tickets.{WholeBus, bus_after}
use Rattle.registry_snapshots_core.specs.Copies.{IsSnapOf, IsLastOf, SnapView}

pub just_opened : (book : Book) (opening : WholeBus) (s : SnapView) (seats : ℕ) → s.prefix.book ≡ book → s.prefix.log ≡ [] → s.bus ≡ opening.state → s.last ≡ replicate seats 0 → IsSnapOf book opening s
just_opened book opening s seats of_book log bus last =
    let numbers : IsLastOf s.last s.prefix.log = λ seat below.
    ap (λ (l : List ℕ). slice_index l seat) last ∙ get_or-replicate seats seat 0 0 (subst (λ (n : ℕ). seat < n) (ap (λ (l : List ℕ). length l) last ∙ length-replicate seats 0) below)
    ∙ ap (λ (h : History). length (numbers_of seat h)) (sym log) in
    record { book_is = of_book; bus_is = bus ∙ ap (λ (h : History). (bus_after opening h).state) (sym log); last_is = numbers }
