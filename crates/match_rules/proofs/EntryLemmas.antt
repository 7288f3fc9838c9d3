-- Lemmas on the reading of entries from bytes, and on what stands in the entries of a rule.
use Rattle.std.proofs.Common.{◌≡◌, ◌⊎◌, ℕ, zero, suc, ◌+◌, ◌-◌, ◌*◌, ◌<◌, ◌≤◌, min, Bool, true, false, ◌&&◌, ◌==◌, [], ◌∷◌, ◌++◌, length, take, drop, get_or, refl, sym, ap, ◌∙◌, arith, length-drop, inl, inr, List}
use Rattle.std.specs.List.{AllByRecursion}
use Rattle.std.proofs.Math.Seq.{take-length}
use Rattle.std.proofs.lemmas.List.{take_min, drop_min}
use Rattle.std.proofs.lemmas.Bool.{and_from, eq-eqb, ne_eqb, and_parts}
use Rattle.names.specs.Texts.{Text}
use Rattle.match_rules.specs.declared.key.Key.{Key}
use Rattle.match_rules.specs.declared.key.Key.TheVariants.{Eavesdrop}
use Rattle.match_rules.specs.Keys.{IsKey, all_keys}
use Rattle.match_rules.specs.Rules.{Rule, IsEntry}
use Rattle.match_rules.specs.RuleBytes.{entries_in, rule_in}
use Rattle.match_rules.specs.EntryView.{all_taken}
use Rattle.match_rules.specs.RuleFaults.{takes}
use Rattle.match_rules.specs.Fitting.{begins}
use Rattle.match_rules.proofs.KeyTexts.{takes_tested, tested_takes, all_are_keys}

entries_in-short : (more : ℕ) (bytes : Text) → length bytes < 3 → entries_in more bytes ≡ []
entries_in-short zero bytes h = refl
entries_in-short (suc more) [] h = refl
entries_in-short (suc more) (a ∷ []) h = refl
entries_in-short (suc more) (a ∷ b ∷ []) h = refl
entries_in-short (suc more) (a ∷ b ∷ c ∷ bytes) h = absurd (omega (arith, h))

-- The number of entries that may be read is large enough anyway.
entries_in-more : (n m : ℕ) (bytes : Text) → length bytes ≤ n → length bytes ≤ m → entries_in n bytes ≡ entries_in m bytes
entries_in-more zero m bytes hn hm = sym (entries_in-short m bytes (omega (arith, hn)))
entries_in-more (suc n) zero bytes hn hm = entries_in-short (suc n) bytes (omega (arith, hm))
entries_in-more (suc n) (suc m) [] hn hm = refl
entries_in-more (suc n) (suc m) (a ∷ []) hn hm = refl
entries_in-more (suc n) (suc m) (a ∷ b ∷ []) hn hm = refl
entries_in-more (suc n) (suc m) (place ∷ low ∷ high ∷ bytes) hn hm =
    let left = length-drop (low + 256 * high) bytes in
    ap (λ entries. (get_or all_keys place Eavesdrop, take (low + 256 * high) bytes) ∷ entries)
    (entries_in-more n m (drop (low + 256 * high) bytes) (omega (arith, hn, left)) (omega (arith, hm, left)))

pub rule_in-short : (bytes : Text) → length bytes < 3 → rule_in bytes ≡ []
rule_in-short bytes h = entries_in-short (length bytes) bytes h

pub rule_in-step :
    (bytes : Text) → 3 ≤ length bytes →
    rule_in bytes
    ≡ (get_or all_keys (get_or bytes 0 0) Eavesdrop, take (min (get_or bytes 1 0 + 256 * get_or bytes 2 0) (length bytes - 3)) (drop 3 bytes))
    ∷ rule_in (drop (min (get_or bytes 1 0 + 256 * get_or bytes 2 0) (length bytes - 3)) (drop 3 bytes))
rule_in-step [] h = absurd (omega (arith, h))
rule_in-step (a ∷ []) h = absurd (omega (arith, h))
rule_in-step (a ∷ b ∷ []) h = absurd (omega (arith, h))
rule_in-step (place ∷ low ∷ high ∷ bytes) h =
    let left = length-drop (low + 256 * high) bytes in
    let room : length (place ∷ low ∷ high ∷ bytes) - 3 ≡ length bytes = omega arith in
    rw (room, take_min (low + 256 * high) bytes, drop_min (low + 256 * high) bytes)
    (ap (λ entries. (get_or all_keys place Eavesdrop, take (low + 256 * high) bytes) ∷ entries)
    (entries_in-more (length (low ∷ high ∷ bytes)) (length (drop (low + 256 * high) bytes)) (drop (low + 256 * high) bytes) (omega (arith, left)) (omega arith)))

-- what stands behind the head of an entry
pub behind_head : (bytes : Text) → take (length bytes - 3) (drop 3 bytes) ≡ drop 3 bytes
behind_head bytes = ap (λ n. take n (drop 3 bytes)) (sym (length-drop 3 bytes)) ∙ take-length (drop 3 bytes)

pub entries_taken : (rule : Rule) → AllByRecursion IsEntry rule → all_taken rule ≡ true
entries_taken [] h = refl
entries_taken (entry ∷ rule) h = and_from _ _ (takes_tested entry.0 entry.1 h.0.1) (entries_taken rule h.1)

-- Texts that begin with another and a byte behind it.
pub begins-on : (front : Text) (b : ℕ) (text : Text) → length front < length text → get_or text (length front) 0 ≡ b → begins front text ≡ begins (front ++ b ∷ []) text
begins-on front b [] short same = absurd (omega (arith, short))
begins-on [] b (y ∷ text) short same = sym (and_from (b == y) true (eq-eqb b y (sym same)) refl)
begins-on (x ∷ front) b (y ∷ text) short same = ap (λ rest. (x == y) && rest) (begins-on front b text (omega (arith, short)) same)

both_false : (a b : Bool) → b ≡ false → (a && b) ≡ false
both_false true b h = h
both_false false b h = refl

begins-nothing : (front : Text) (b : ℕ) → begins (front ++ b ∷ []) [] ≡ false
begins-nothing [] b = refl
begins-nothing (x ∷ front) b = refl

pub begins-not : (front : Text) (b : ℕ) (text : Text) → (length text ≤ length front) ⊎ (get_or text (length front) 0 ≡ b → ⊥) → begins (front ++ b ∷ []) text ≡ false
begins-not front b [] h = begins-nothing front b
begins-not [] b (y ∷ text) (inl h) = absurd (omega (arith, h))
begins-not [] b (y ∷ text) (inr h) = rw (ne_eqb b y (λ e. h (sym e))) refl
begins-not (x ∷ front) b (y ∷ text) (inl h) = both_false (x == y) (begins (front ++ b ∷ []) text) (begins-not front b text (inl (omega (arith, h))))
begins-not (x ∷ front) b (y ∷ text) (inr h) = both_false (x == y) (begins (front ++ b ∷ []) text) (begins-not front b text (inr h))

-- What is read from bytes has keys, whatever the bytes are.
key_at : (keys : List Key) (place : ℕ) → AllByRecursion IsKey keys → IsKey (get_or keys place Eavesdrop)
key_at [] place h = tt
key_at (key ∷ keys) zero h = h.0
key_at (key ∷ keys) (suc place) h = key_at keys place h.1

entries_in-keys : (more : ℕ) (bytes : Text) → AllByRecursion (λ entry. IsKey entry.0) (entries_in more bytes)
entries_in-keys zero bytes = tt
entries_in-keys (suc more) [] = tt
entries_in-keys (suc more) (a ∷ []) = tt
entries_in-keys (suc more) (a ∷ b ∷ []) = tt
entries_in-keys (suc more) (place ∷ low ∷ high ∷ bytes) = (key_at all_keys place all_are_keys, entries_in-keys more (drop (low + 256 * high) bytes))

pub rule_in-keys : (bytes : Text) → AllByRecursion (λ entry. IsKey entry.0) (rule_in bytes)
rule_in-keys bytes = entries_in-keys (length bytes) bytes

are_entries : (rule : Rule) → AllByRecursion (λ entry. IsKey entry.0) rule → all_taken rule ≡ true → AllByRecursion IsEntry rule
are_entries [] keys taken = tt
are_entries (entry ∷ rule) keys taken =
    let both = and_parts (takes entry.0 entry.1) (all_taken rule) taken in
    ((keys.0, tested_takes entry.0 entry.1 both.0), are_entries rule keys.1 both.1)

pub rule_in-entries : (bytes : Text) → all_taken (rule_in bytes) ≡ true → AllByRecursion IsEntry (rule_in bytes)
rule_in-entries bytes taken = are_entries (rule_in bytes) (entries_in-keys (length bytes) bytes) taken
