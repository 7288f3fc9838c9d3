-- Rules of few connections, and who wants a message by them.
use Rattle.std.proofs.Common.{◌≡◌, ℕ, ◌<◌, ◌≤◌, ◌==◌, ◌&&◌, not, true, Option, List, [], ◌∷◌, map, filter, length, ap, ◌∙◌, subst}
use Rattle.std.specs.List.{AllByRecursion as Each}
use Rattle.std.proofs.lemmas.List.{length-map}
use Rattle.match_rules.specs.Facts.{Facts}
use Rattle.match_rules.specs.Fitting.{Heads}
use Rattle.match_rules.specs.OwnedRules.{OwnedRule, has_fitting}
use Rattle.match_index.specs.Collecting.{connections_of}
use Rattle.match_index.specs.Sets.{is_in}
use Rattle.match_index.proofs.LawProofs.{few_connections}
use Rattle.match_index.proofs.Lists.{list_any-map}
use Rattle.seq_bus_core.proofs.Lists.{pairs_map}
use Rattle.registry_core.specs.declared.connection_entry.ConnectionEntry.{ConnectionEntry}
use Rattle.registry_core.specs.Listening.{Rising, has_number, entry_wants, stays}
use Rattle.registry_core.proofs.ConnectionEntries.{filter_alike}

abbrev numbers_of : List ConnectionEntry → List ℕ
numbers_of entries = map (λ m. m.conn.number) entries

numbers_have : (entries : List ConnectionEntry) (rules : List OwnedRule) → Each (λ r. has_number entries r.connection ≡ true) rules → Each (λ r. is_in r.connection (numbers_of entries) ≡ true) rules
numbers_have entries [] h = tt
numbers_have entries (r ∷ rules) h = (list_any-map (λ n. n == r.connection) (λ (m : ConnectionEntry). m.conn.number) entries ∙ h.0, numbers_have entries rules h.1)

pub few_owners : (entries : List ConnectionEntry) (rules : List OwnedRule) → Rising entries → Each (λ r. has_number entries r.connection ≡ true) rules → length (connections_of rules) ≤ length entries
few_owners entries rules rising owned =
    subst (λ n. length (connections_of rules) ≤ n) (length-map entries (λ (m : ConnectionEntry). m.conn.number))
    (few_connections (numbers_of entries) rules (pairs_map (λ a b. a.conn.number < b.conn.number) (λ m n. m < n) (λ (m : ConnectionEntry). m.conn.number) (λ a b less. less) entries rising) (numbers_have entries rules owned))

-- those that are found want the message
pub found_entries : (heads : Heads) (facts : Facts) (leaver : Option ℕ) (rules : List OwnedRule) (found : List ℕ) → ((c : ℕ) → is_in c found ≡ has_fitting heads rules facts c) → (entries : List ConnectionEntry) →
    map (λ (m : ConnectionEntry). m.conn) (filter (λ (m : ConnectionEntry). stays leaver m.conn.number && (not m.is_monitor && is_in m.conn.number found)) entries)
    ≡ map (λ (m : ConnectionEntry). m.conn) (filter (λ (m : ConnectionEntry). stays leaver m.conn.number && entry_wants heads rules facts m) entries)
found_entries heads facts leaver rules found fitting entries =
    ap (map (λ (m : ConnectionEntry). m.conn))
    (filter_alike (λ (m : ConnectionEntry). stays leaver m.conn.number && (not m.is_monitor && is_in m.conn.number found)) (λ (m : ConnectionEntry). stays leaver m.conn.number && entry_wants heads rules facts m) entries
    (λ m. ap (λ fits. stays leaver m.conn.number && (not m.is_monitor && fits)) (fitting m.conn.number)))
