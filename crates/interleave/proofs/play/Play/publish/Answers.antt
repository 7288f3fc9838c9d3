use Rattle.std.proofs.Common.{◌≡◌, ◌∙◌, ◌<◌, ◌≤◌, ◌++◌, ◌∷◌, [], ℕ, true, false, List, Some, length, map, take, drop, slice_get, ap, sym, refl, subst, rules}
use Rattle.std.proofs.lemmas.List.{get_or-set_same}
use Rattle.std.proofs.lemmas.Option.{slice_get_read}
use Rattle.interleave.specs.declared.seat.Made.{Made}
use Rattle.interleave.specs.declared.seat.Seat.{Seat}
use Rattle.interleave.specs.Logs.{AreLines}
use Rattle.interleave.specs.Playing.{bus_along, making, makings}
use Rattle.interleave_core.specs.Worlds.{Logged, may_publish, told_from}
use Rattle.interleave.proofs.PlayLemmas.{no_publication, one_publication}
use Rattle.interleave.proofs.play.Play.publish.Goals as goal

pub returns-then-not-may_publish : goal.returns-then-not-may_publish
returns-then-not-may_publish c m log beginnings played =
    let none : c.may_publish.result ≡ false = search rules in
    let is : may_publish c.args.changes.now (slice_get m.seen c.args.seat) ≡ false = sym (c.may_publish.ensures.right m log played) ∙ none in
    no_publication m log c.args.self.now c.args.seat c.args.changes.now played (slice_get m.seen c.args.seat) is

pub returns : goal.returns
returns c m log beginnings played =
    let play = c.args.self.now in
    let seats = play.seats.items in
    let seat = c.args.seat in
    let changes = c.args.changes.now in
    let s = c.index_mut.result.now in
    let now = c.catch_up.new.self in
    let later = c.publish.new.self in
    let lt : seat < length seats = search rules in
    let there : slice_get seats seat ≡ Some s = slice_get_read seats (length seats) seat s refl lt c.index_mut.ensures.value in
    let place : c.len-place.result ≡ length play.published.items = search rules in
    let caught : s.seen ≤ c.len-place.result → c.len-place.result ≤ length play.published.items → now ≡ record { seen = c.len-place.result; bus = bus_along s.bus (map making (drop s.seen (take c.len-place.result play.published.items))) } =
    subst (λ (all : List Made). s.seen ≤ c.len-place.result → c.len-place.result ≤ length all → now ≡ record { seen = c.len-place.result; bus = bus_along s.bus (map making (drop s.seen (take c.len-place.result all))) }) c.as_slice.ensures.value c.in_ok-catch_up.ensures in
    let caught_up = subst (λ (n : ℕ). s.seen ≤ n → n ≤ length play.published.items → now ≡ record { seen = n; bus = bus_along s.bus (map making (drop s.seen (take n play.published.items))) }) place caught in
    let lent : c.index_mut-2.result.now ≡ now = c.index_mut-2.ensures.value ∙ get_or-set_same seats seat now c.index_mut-2.result.now lt in
    let bus : later.bus ≡ bus_along now.bus (makings seat changes) = c.in_ok-publish.ensures.bus ∙ ap (λ (x : Seat). bus_along x.bus (makings seat changes)) lent in
    let end : c.len-end.result ≡ length c.publish.new.published.items = search rules in
    let ends : c.push.new.self.items ≡ play.ends.items ++ length c.publish.new.published.items ∷ [] = c.in_ok-push.ensures.items ∙ ap (λ n. play.ends.items ++ n ∷ []) end in
    let logged : (lines : List Logged) → AreLines play.log.items lines → AreLines c.publish.new.log.items (lines ++ told_from now.bus seat (length play.published.items) changes) =
    λ lines at. subst (λ (x : Seat). AreLines c.publish.new.log.items (lines ++ told_from x.bus seat (length play.published.items) changes)) lent (c.in_ok-publish.ensures.logged lines at) in
    let is : may_publish changes (slice_get m.seen seat) ≡ true = sym (c.if-not-may_publish.ensures.right m log played) in
    one_publication m log play _ seat changes s now later beginnings played there caught_up bus c.in_ok-publish.ensures.seen c.in_ok-publish.ensures.published ends refl logged (slice_get m.seen seat) refl is
