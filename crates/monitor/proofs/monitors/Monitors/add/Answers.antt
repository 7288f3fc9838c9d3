use Rattle.std.proofs.Common.{◌≡◌, ℕ, nat_lt, Bool, Option, List, insert, sym, ap, ◌∙◌}
use Rattle.std.specs.Prelude.{unwrap_or}
use Rattle.std.specs.List.{position, position_or_len}
use Rattle.monitor.specs.Monitors.{Monitor, inserted}
use Rattle.seq_bus_core.proofs.Inserting.{inserted_above}
use Rattle.monitor.proofs.Places.{place_or_end}
use Rattle.monitor.proofs.monitors.Monitors.add.Goals as goal

pub returns : goal.returns
returns c =
    let test : Monitor → Bool = λ m. nat_lt c.args.conn.number m.conn.number in
    let items : List Monitor = c.self.inside.monitors.items in
    let monitor : Monitor = record { conn = c.args.conn; rules = c.args.rules.now } in
    let found : c.place_above.result ≡ position test items = c.place_above.ensures ∙ ap (position test) c.deref.ensures.value in
    let place_is : c.unwrap_or-place.result ≡ position_or_len test items =
    c.unwrap_or-place.ensures ∙ ap (λ (place : Option ℕ). unwrap_or place c.len-end.result) found ∙ ap (unwrap_or (position test items)) (c.len-end.ensures ∙ c.self.inside.monitors.ok.0) ∙ place_or_end test items in
    let rules_are : ◌≡◌ {A = Monitor} (record { conn = c.args.conn; rules = c.as_slice.result.now }) monitor = ap (λ rules. record { conn = c.args.conn; rules = rules }) c.as_slice.ensures.value in
    c.insert.ensures ∙ ap (insert c.args.self.now c.unwrap_or-place.result) rules_are ∙ ap (λ (ms : List Monitor). insert ms c.unwrap_or-place.result monitor) (sym c.self.view_is)
    ∙ ap (λ n. insert items n monitor) place_is ∙ inserted_above (λ (m : Monitor). m.conn.number) monitor items ∙ ap (inserted monitor) c.self.view_is
