use Rattle.std.proofs.Common.{◌≡◌, ◌∙◌, ◌<◌, ◌≤◌, true, false, List, Some, length, map, take, drop, slice_get, sym, refl, subst, rules}
use Rattle.std.proofs.lemmas.List.{get_or-set_same}
use Rattle.std.proofs.lemmas.Option.{slice_get_read}
use Rattle.interleave.specs.declared.seat.Made.{Made}
use Rattle.interleave.specs.declared.seat.Seat.{Seat}
use Rattle.interleave.specs.Logs.{Says}
use Rattle.interleave.specs.Playing.{bus_along, making}
use Rattle.interleave_core.specs.Worlds.{may_read, said_of}
use Rattle.interleave.proofs.PlayLemmas.{no_read, one_read}
use Rattle.interleave.proofs.play.Play.read.Goals as goal

pub returns-then-not-may_read : goal.returns-then-not-may_read
returns-then-not-may_read c m log beginnings played =
    let none : c.may_read.result ≡ false = search rules in
    let is : may_read m c.args.place (slice_get m.seen c.args.seat) ≡ false = sym (c.may_read.ensures.right m log played) ∙ none in
    no_read m log c.args.self.now c.args.seat c.args.place c.args.question.now played (slice_get m.seen c.args.seat) is

pub returns : goal.returns
returns c m log beginnings played =
    let play = c.args.self.now in
    let seats = play.seats.items in
    let seat = c.args.seat in
    let place = c.args.place in
    let s = c.index_mut.result.now in
    let now = c.catch_up.new.self in
    let lt : seat < length seats = search rules in
    let there : slice_get seats seat ≡ Some s = slice_get_read seats (length seats) seat s refl lt c.index_mut.ensures.value in
    let caught : s.seen ≤ place → place ≤ length play.published.items → now ≡ record { seen = place; bus = bus_along s.bus (map making (drop s.seen (take place play.published.items))) } =
    subst (λ (all : List Made). s.seen ≤ place → place ≤ length all → now ≡ record { seen = place; bus = bus_along s.bus (map making (drop s.seen (take place all))) }) c.as_slice.ensures.value c.in_ok-catch_up.ensures in
    let lent : c.index.result.now ≡ now = c.index.ensures ∙ get_or-set_same seats seat now c.index.result.now lt in
    let said : Says c.in_ok-exchange.exchange (said_of now.bus c.args.question.now) = subst (λ (x : Seat). Says c.in_ok-exchange.exchange (said_of x.bus c.args.question.now)) lent c.in_ok-exchange.ensures in
    let is : may_read m place (slice_get m.seen seat) ≡ true = sym (c.if-not-may_read.ensures.right m log played) in
    one_read m log play _ seat place c.args.question.now s now _ beginnings played there caught refl refl refl c.in_ok-push.ensures.items refl refl said (slice_get m.seen seat) refl is
