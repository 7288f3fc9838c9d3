use Rattle.std.proofs.Common.{◌≡◌, ◌∙◌, ◌==◌, ◌&&◌, nat_le, true, List, Option, Some, None, length, slice_get, ap, sym, refl}
use Rattle.std.specs.List.{list_any}
use Rattle.std.proofs.lemmas.Option.{slice_get_past, slice_get_read}
use Rattle.interleave.specs.declared.seat.Seat.{Seat}
use Rattle.interleave.proofs.PlayLemmas.{may_read_there, may_read_missing}
use Rattle.interleave.proofs.play.Play.may_read.Goals as goal

pub returns-then-is_end-clause-right : goal.returns-then-is_end-clause-right
returns-then-is_end-clause-right c m log played =
    let play = c.args.self.now in
    let seats = c.deref.result.now in
    let found = c.in-Some.found.now in
    let look = c.in-Some.ensures.lookup in
    let there : slice_get play.seats.items c.args.seat ≡ Some found = ap (λ (xs : List Seat). slice_get xs c.args.seat) (sym c.deref.ensures.value) ∙ slice_get_read seats (length seats) c.args.seat found refl look.3.0 look.1 in
    let end : list_any (λ e. e == c.args.place) play.ends.items ≡ true = sym c.is_end.ensures ∙ c.if-is_end.true in
    ap (λ b. b && nat_le found.seen c.args.place) (sym end) ∙ may_read_there m log play c.args.seat c.args.place found played there

pub returns-in-None-clause-right : goal.returns-in-None-clause-right
returns-in-None-clause-right c m log played =
    let play = c.args.self.now in
    let seats = c.deref.result.now in
    let missing : ◌≡◌ {A = Option Seat} (slice_get play.seats.items c.args.seat) None = ap (λ (xs : List Seat). slice_get xs c.args.seat) (sym c.deref.ensures.value) ∙ slice_get_past seats c.args.seat c.in-None.ensures.lookup.3 in
    may_read_missing m log play c.args.seat c.args.place played missing
