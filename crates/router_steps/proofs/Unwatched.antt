-- Where there are no monitors, nobody is shown a message.
use Rattle.std.proofs.Common.{◌≡◌, ℕ, Bool, true, false, Option, Some, None, List, [], ◌∷◌, filter, map, refl, ap, if◌then◌else◌}
use Rattle.std.specs.Prelude.{is_some, not, ◌||◌}
use Rattle.std.specs.List.{list_any}
use Rattle.match_rules.specs.Facts.{Facts}
use Rattle.match_rules.specs.Rules.{Rule}
use Rattle.seq_bus_core.specs.BusState.{BusState, Connection, is_monitor, conn_of}
use Rattle.seq_bus_core.specs.Recipients.{watches, monitors_shown, recipients, may_send, is_for_bus, destination_head, may_start, is_signal}
use Rattle.seq_bus_core.specs.declared.verdict.Verdict.{Verdict}

neither : (a b : Bool) → (a || b) ≡ false → (a ≡ false) × (b ≡ false)
neither true b e = absurd cc
neither false b e = (refl, e)

watches_not : (s : BusState) (facts : Facts) (c : Connection) → is_monitor c ≡ false → watches s facts c ≡ false
watches_not s facts c none = by_rules c.monitor refl
  where
    by_rules : (rules : Option (List Rule)) → c.monitor ≡ rules → watches s facts c ≡ false
    by_rules None is = rw is refl
    by_rules (Some rules) is = let there : is_monitor c ≡ true = rw is refl in absurd cc

none_shown : (s : BusState) (facts : Facts) (cs : List Connection) → list_any is_monitor cs ≡ false → filter (watches s facts) cs ≡ []
none_shown s facts [] none = refl
none_shown s facts (c ∷ cs) none =
    let both = neither (is_monitor c) (list_any is_monitor cs) none in
    rw (watches_not s facts c both.0) (none_shown s facts cs both.1)

pub nobody_shown : (s : BusState) (facts : Facts) → list_any is_monitor s.connections ≡ false → monitors_shown s facts ≡ []
nobody_shown s facts none = ap (map conn_of) (none_shown s facts s.connections none)

either : (b : Bool) (x y : Verdict) → x.monitors ≡ [] → y.monitors ≡ [] → (if b then x else y).monitors ≡ []
either true x y hx hy = hx
either false x y hx hy = hy

pub unwatched : (s : BusState) (from : ℕ) (facts : Facts) → list_any is_monitor s.connections ≡ false → (recipients s from facts).monitors ≡ []
unwatched s from facts none =
    let f : Facts = record facts { sender = from } in
    let shown : monitors_shown s f ≡ [] = nobody_shown s f none in
    either (not (may_send s f.sender)) _ _ refl
    (either (is_for_bus f) _ _ shown (either (is_some (destination_head s f)) _ _ shown (either (may_start s f) _ _ shown (either (is_some f.destination) _ _ shown (either (is_signal f.kind) _ _ shown shown)))))
