use Rattle.std.proofs.Common.{◌≡◌, ◌==◌, false, sym, ap, ◌∙◌, arith}
use Rattle.registry_core.specs.declared.connection_entry.ConnectionEntry.{ConnectionEntry}
use Rattle.match_index.proofs.Lists.{position_is}
use Rattle.registry_core.proofs.ConnectionEntries.{first_at, none_at}
use Rattle.registry_core.proofs.connection_entry.find_place.Goals as goal

pub returns-then-entry-number : goal.returns-then-entry-number
returns-then-entry-number c =
    let ms = c.args.entries.now in
    let look = c.in-Some.ensures.lookup in
    let number_is : (c.in-Some.entry.now).conn.number ≡ c.args.number = c.if-entry-number.true in
    sym (position_is (λ (m : ConnectionEntry). m.conn.number == c.args.number) ms ∙ first_at c.args.number c.place_among-place.result c.in-Some.entry.now ms c.place_among-place.ensures.before look.3.0 (ap (λ (m : ConnectionEntry). m.conn.number) (sym look.1) ∙ number_is))

pub returns-else-entry-number : goal.returns-else-entry-number
returns-else-entry-number c =
    let ms = c.args.entries.now in
    let look = c.in-Some.ensures.lookup in
    sym (position_is (λ (m : ConnectionEntry). m.conn.number == c.args.number) ms
    ∙ none_at c.args.number c.place_among-place.result c.in-Some.entry.now ms c.requires c.place_among-place.ensures.before c.place_among-place.ensures.behind (λ lt same. c.if-entry-number.false (ap (λ (m : ConnectionEntry). m.conn.number) look.1 ∙ same)))

pub returns-in-None : goal.returns-in-None
returns-in-None c =
    let ms = c.args.entries.now in
    let none : ConnectionEntry = record { conn = record { number = 0; slot = 0; router = 0 }; privileged = false; is_monitor = false } in
    sym (position_is (λ (m : ConnectionEntry). m.conn.number == c.args.number) ms
    ∙ none_at c.args.number c.place_among-place.result none ms c.requires c.place_among-place.ensures.before c.place_among-place.ensures.behind (λ lt same. omega (arith, lt, c.in-None.ensures.lookup.3)))
