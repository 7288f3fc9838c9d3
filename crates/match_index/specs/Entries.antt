-- Match rules as they stand in an index. Those that were taken out stand there until they are swept out.
use Rattle.std.specs.Prelude.{◌≡◌, ℕ, zero, suc, ◌==◌, ◌&&◌, Bool, true, false, not, List, [], ◌∷◌, map, filter, length, if◌then◌else◌}
use Rattle.match_rules.specs.Rules.{Rule, same_rule}
use Rattle.match_rules.specs.OwnedRules.{OwnedRule}
use Rattle.match_index.specs.PlaceIndexes.{places_of}
use Rattle.match_index.specs.declared.entries.Entry.{Entry}
use Rattle.match_index.specs.declared.place_index.KeyedPlace.{KeyedPlace}

abbrev pub owned_rule : Entry → OwnedRule
owned_rule e = record { connection = e.connection; rule = e.rule }

abbrev pub is_there : Entry → Bool
is_there e = not e.is_gone

-- the rules that are there, in order
abbrev pub live : List Entry → List OwnedRule
live entries = map owned_rule (filter is_there entries)

-- what entries are found by
abbrev pub Key : Type 0
Key = Entry → ℕ

abbrev pub by_connection : Key
by_connection e = e.connection

abbrev pub by_code : Key
by_code e = e.bucket.code

-- whether a rule is there, and has a key
abbrev pub has_key : Key → ℕ → Entry → Bool
has_key key k e = is_there e && (key e == k)

-- the places of the rules that have a key, in order
abbrev pub positions : Key → ℕ → List Entry → List ℕ
positions key k [] = []
positions key k (e ∷ entries) = if has_key key k e then 0 ∷ map suc (positions key k entries) else map suc (positions key k entries)

-- whether a rule stands at a place
abbrev pub has_rule : Rule → List Entry → ℕ → Bool
has_rule rule [] place = false
has_rule rule (e ∷ entries) zero = same_rule e.rule rule
has_rule rule (e ∷ entries) (suc place) = has_rule rule entries place

-- the rule at a place, if there is one
abbrev pub rule_at : List Entry → ℕ → List Rule
rule_at [] place = []
rule_at (e ∷ entries) zero = e.rule ∷ []
rule_at (e ∷ entries) (suc place) = rule_at entries place

-- the rule at a place is taken out
abbrev pub marked : List Entry → ℕ → List Entry
marked [] place = []
marked (e ∷ entries) zero = record e { is_gone = true } ∷ entries
marked (e ∷ entries) (suc place) = e ∷ marked entries place

-- where each stands once those that are gone are swept out, the first at n
abbrev pub new_places : ℕ → List Entry → List ℕ
new_places n [] = []
new_places n (e ∷ entries) = n ∷ new_places (if e.is_gone then n else suc n) entries

-- an index by a key has the place of each rule that is there, and no other
pub record ArePlaced (key : Key) (entries : List Entry) (places : List KeyedPlace) : Type 0 where
  pub places_are : (k : ℕ) → places_of k places ≡ positions key k entries
  pub all : length places ≡ length (live entries)
