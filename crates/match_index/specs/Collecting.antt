-- How the connections that a message is for are found.
use Rattle.std.specs.Prelude.{◌≡◌, ℕ, zero, suc, nat_lt, ◌==◌, Bool, true, ◌&&◌, List, [], ◌∷◌}
use Rattle.std.specs.List.{AllByRecursion, flat_map}
use Rattle.match_rules.specs.Facts.{Facts}
use Rattle.match_rules.specs.Fitting.{Heads, fits}
use Rattle.match_rules.specs.OwnedRules.{OwnedRule, is_of}
use Rattle.match_index.specs.Buckets.{shape_of}
use Rattle.match_index.specs.Near.{is_near}
use Rattle.match_index.specs.Sets.{AreRising, is_in, with_number}
use Rattle.match_index.specs.declared.collecting.Tested.{Tested}
use Rattle.match_index.specs.declared.entries.Entry.{Entry}

-- the connections that have rules, which rise
abbrev pub connections_of : List OwnedRule → List ℕ
connections_of [] = []
connections_of (r ∷ rules) = with_number r.connection (connections_of rules)

-- a set of connections that have rules
abbrev pub AreAmong : List OwnedRule → List ℕ → Type 0
AreAmong rules found = AreRising found × AllByRecursion (λ n. is_in n (connections_of rules) ≡ true) found

-- each is of a connection that has rules
abbrev pub AreOwned : List OwnedRule → List Entry → Type 0
AreOwned rules entries = AllByRecursion (λ e. is_in e.connection (connections_of rules) ≡ true) entries

-- the entry at a place, if there is one
abbrev pub entry_at : List Entry → ℕ → List Entry
entry_at [] place = []
entry_at (e ∷ entries) zero = e ∷ []
entry_at (e ∷ entries) (suc place) = entry_at entries place

abbrev pub entries_at : List Entry → List ℕ → List Entry
entries_at entries places = flat_map (entry_at entries) places

-- whether a rule may be tested by a message, where rules of a shape are looked at
abbrev pub is_tested : ℕ → Facts → Entry → Bool
is_tested shape facts e = (e.bucket.shape == shape) && is_near facts e.rule

-- whether a rule is tested and fits
abbrev pub is_wanted : Heads → ℕ → Facts → Entry → Bool
is_wanted heads shape facts e = is_tested shape facts e && fits heads e.rule facts

-- What is kept of a rule that was tested is what came of the test.
abbrev pub IsKnown : Heads → ℕ → Facts → Tested → Type 0
IsKnown heads shape facts t = t.is_wanted ≡ is_wanted heads shape facts t.entry.now

abbrev pub is_wanting : Heads → ℕ → Facts → ℕ → Entry → Bool
is_wanting heads shape facts connection e = (e.connection == connection) && is_wanted heads shape facts e

-- the rules of the shapes below this one that are near
abbrev pub is_near_below : ℕ → Facts → OwnedRule → Bool
is_near_below shape facts r = nat_lt (shape_of r.rule) shape && is_near facts r.rule

abbrev pub is_wanting_below : Heads → ℕ → Facts → ℕ → OwnedRule → Bool
is_wanting_below heads shape facts connection r = is_of connection r && (is_near_below shape facts r && fits heads r.rule facts)
