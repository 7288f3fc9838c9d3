-- Entries that are put where their keys belong, in rules and in their bytes.
use Rattle.std.proofs.Common.{◌≡◌, inl, inr, ℕ, ◌+◌, ◌-◌, ◌/◌, ◌%◌, ◌≤◌, Bool, true, false, ◌||◌, cond, nat_lt, Some, None, Result, Ok, Err, List, [], ◌∷◌, ◌++◌, length, take, drop, refl, sym, ap, subst, ◌∙◌, arith, append_assoc, length-append, length-drop}
use Rattle.std.specs.List.{AllByRecursion}
use Rattle.std.specs.Result.{OnOk}
use Rattle.std.proofs.Math.Seq.{take-append-add, drop-append-add, take-append_seam, drop-append_seam, take-append-le, drop-append-le}
use Rattle.std.proofs.lemmas.Bool.{le-ltb, cases_Bool, cond_both, or_parts, eqb-true}
use Rattle.std.proofs.lemmas.List.Sums.{sum_by-cons}
use Rattle.std.proofs.lemmas.List.Sorted.{sum_by-IsPermutation}
use Rattle.std.proofs.Math.Logic.{∥∥₁_elim}
use Rattle.std.proofs.lemmas.Grind.{merely}
use Rattle.std.proofs.Props.{props}
use Rattle.names.specs.Texts.{Text}
use Rattle.match_rules.specs.declared.key.Key.{Key}
use Rattle.match_rules.specs.declared.key.Key.TheVariants.{Path, PathNamespace}
use Rattle.match_rules.specs.Keys.{IsKey, key_place, same_key}
use Rattle.match_rules.specs.Rules.{Rule, IsRule, IsEntry, HasOnePath, value_at}
use Rattle.match_rules.specs.RuleBytes.{rule_bytes, entry_bytes, rule_in}
use Rattle.match_rules.specs.RuleFaults.{is_among, is_excluded, takes}
use Rattle.match_rules.specs.EntryView.{all_taken}
use Rattle.match_rules.proofs.EntryLemmas.{entries_taken, rule_in-entries}
use Rattle.match_rules.specs.Reading.{keys_of, put, bytes_before}
use Rattle.match_rules.proofs.KeyTexts.{tested_takes}
use Rattle.match_rules.proofs.KeyLemmas.{key_by_place}
use Rattle.match_rules.proofs.RuleLemmas.{length-rule_bytes, rule_in-rule_bytes}
use Rattle.match_rules.proofs.RuleOrder.{all_move, same_key_swapped, put_moves, put_rises}

pub bytes_before-within : (place : ℕ) (rule : Rule) → bytes_before place rule ≤ length (rule_bytes rule)
bytes_before-within place [] = omega arith
bytes_before-within place (first ∷ rule) =
    let rest = bytes_before-within place rule in
    let whole = length-append first.1 (rule_bytes rule) in
    cond_both (nat_lt place (key_place first.0)) 0 (3 + length first.1 + bytes_before place rule) (λ n. n ≤ length (rule_bytes (first ∷ rule))) (λ _. omega arith) (λ _. omega (arith, rest, whole))

pub bytes_before-behind : (place : ℕ) (first : Key × Text) (rule : Rule) → key_place first.0 ≤ place → bytes_before place (first ∷ rule) ≡ 3 + length first.1 + bytes_before place rule
bytes_before-behind place first rule h = rw (le-ltb place (key_place first.0) h) refl

behind_first :
    (first : Key × Text) (bytes new : Text) (n : ℕ) →
    take (3 + length first.1 + n) (entry_bytes first ++ bytes) ++ new ++ drop (3 + length first.1 + n) (entry_bytes first ++ bytes) ≡ entry_bytes first ++ (take n bytes ++ new ++ drop n bytes)
behind_first first bytes new n =
    let size : 3 + length first.1 + n ≡ length (entry_bytes first) + n = omega arith in
    rw (size, take-append-add (entry_bytes first) bytes n, drop-append-add (entry_bytes first) bytes n) (ap (λ t. t ++ drop n bytes) (append_assoc (entry_bytes first) (take n bytes) new) ∙ append_assoc (entry_bytes first) (take n bytes ++ new) (drop n bytes))

pub rule_bytes-put :
    (entry : Key × Text) (rule : Rule) →
    rule_bytes (put entry rule) ≡ take (bytes_before (key_place entry.0) rule) (rule_bytes rule) ++ entry_bytes entry ++ drop (bytes_before (key_place entry.0) rule) (rule_bytes rule)
rule_bytes-put entry [] = refl
rule_bytes-put entry (first ∷ rule) =
    elim (cases_Bool (nat_lt (key_place entry.0) (key_place first.0))) [
      | inl below ↦ rw below refl
      | inr above ↦ rw above (ap (λ bytes. entry_bytes first ++ bytes) (rule_bytes-put entry rule) ∙ sym (behind_first first (rule_bytes rule) (entry_bytes entry) (bytes_before (key_place entry.0) rule)))
    ]

pub length-put : (entry : Key × Text) (rule : Rule) → length (rule_bytes (put entry rule)) ≡ 3 + length entry.1 + length (rule_bytes rule)
length-put entry rule =
    let same = sum_by-IsPermutation (λ e. 3 + length e.1) (entry ∷ rule) (put entry rule) (put_moves entry rule) in
    omega (arith, same, length-rule_bytes rule, length-rule_bytes (put entry rule), sum_by-cons (λ e. 3 + length e.1) entry rule)

-- What is among the keys.
or_swapped : (a b c : Bool) → (a || (b || c)) ≡ (b || (a || c))
or_swapped true true c = refl
or_swapped true false c = refl
or_swapped false b c = refl

pub among-put : (key : Key) (entry : Key × Text) (rule : Rule) → is_among key (keys_of (put entry rule)) ≡ (same_key entry.0 key || is_among key (keys_of rule))
among-put key entry [] = refl
among-put key entry (first ∷ rule) =
    cond_both (nat_lt (key_place entry.0) (key_place first.0)) (entry ∷ first ∷ rule) (first ∷ put entry rule)
    (λ r. is_among key (keys_of r) ≡ (same_key entry.0 key || is_among key (keys_of (first ∷ rule))))
    (λ _. refl)
    (λ _. ap (λ later. same_key first.0 key || later) (among-put key entry rule) ∙ or_swapped (same_key first.0 key) (same_key entry.0 key) (is_among key (keys_of rule)))

-- A rule stays a rule.
pub new_differs : (key : Key) (keys : List Key) → is_among key keys ≡ false → AllByRecursion (λ k. same_key key k ≡ false) keys
new_differs key [] h = tt
new_differs key (k ∷ keys) h =
    let parts = or_parts (same_key k key) (is_among key keys) h in
    (same_key_swapped key k ∙ parts.0, new_differs key keys parts.1)

value_at-put : (key : Key) (entry : Key × Text) (rule : Rule) → same_key entry.0 key ≡ false → value_at key rule ≡ None → value_at key (put entry rule) ≡ None
value_at-put key entry [] other none = rw other refl
value_at-put key entry (first ∷ rule) other none =
    cond_both (nat_lt (key_place entry.0) (key_place first.0)) (entry ∷ first ∷ rule) (first ∷ put entry rule) (λ r. value_at key r ≡ None)
    (λ _. rw other none)
    (λ _. behind (same_key first.0 key) none (λ h. value_at-put key entry rule other h))
  where
    behind : (b : Bool) → cond b (Some first.1) (value_at key rule) ≡ None → (value_at key rule ≡ None → value_at key (put entry rule) ≡ None) → cond b (Some first.1) (value_at key (put entry rule)) ≡ None
    behind true h later = absurd cc
    behind false h later = later h

lacks_value : (key : Key) (rule : Rule) → is_among key (keys_of rule) ≡ false → value_at key rule ≡ None
lacks_value key [] h = refl
lacks_value key (first ∷ rule) h = let parts = or_parts (same_key first.0 key) (is_among key (keys_of rule)) h in rw parts.0 (lacks_value key rule parts.1)

one_path : (entry : Key × Text) (rule : Rule) → IsKey entry.0 → is_excluded entry.0 (keys_of rule) ≡ false → HasOnePath rule → HasOnePath (put entry rule)
one_path entry rule key apart h =
    elim (cases_Bool (same_key entry.0 Path)) [
      | inl path ↦
          let e : entry.0 ≡ Path = key_by_place entry.0 Path key tt (eqb-true (key_place entry.0) (key_place Path) path) in
          inr (value_at-put PathNamespace entry rule (ap (λ k. same_key k PathNamespace) e) (lacks_value PathNamespace rule (subst (λ k. is_excluded k (keys_of rule) ≡ false) e apart)))
      | inr other ↦ elim (cases_Bool (same_key entry.0 PathNamespace)) [
        | inl namespace ↦
            let e : entry.0 ≡ PathNamespace = key_by_place entry.0 PathNamespace key tt (eqb-true (key_place entry.0) (key_place PathNamespace) namespace) in
            inl (value_at-put Path entry rule (ap (λ k. same_key k Path) e) (lacks_value Path rule (subst (λ k. is_excluded k (keys_of rule) ≡ false) e apart)))
        | inr neither ↦ elim h [ inl none ↦ inl (value_at-put Path entry rule other none) | inr none ↦ inr (value_at-put PathNamespace entry rule neither none) ]
      ]
    ]

pub rule-put :
    (entry : Key × Text) (rule : Rule) → IsKey entry.0 → takes entry.0 entry.1 ≡ true → is_among entry.0 (keys_of rule) ≡ false → is_excluded entry.0 (keys_of rule) ≡ false →
    IsRule rule → IsRule (put entry rule)
rule-put entry rule key taken new apart h = (
  put_rises entry rule h.0 (new_differs entry.0 (keys_of rule) new),
  all_move IsEntry (entry ∷ rule) (put entry rule) (put_moves entry rule) ((key, tested_takes entry.0 entry.1 taken), h.1),
  one_path entry rule key apart h.2,
)

-- The bytes of a rule with one more entry.
pub bytes_put : (bytes : Text) (entry : Key × Text) (rule : Rule) → bytes ≡ rule_bytes rule →
    take (bytes_before (key_place entry.0) rule) bytes ++ entry_bytes entry ++ drop (bytes_before (key_place entry.0) rule) bytes ≡ rule_bytes (put entry rule)
bytes_put bytes entry rule same = ap (λ b. take (bytes_before (key_place entry.0) rule) b ++ entry_bytes entry ++ drop (bytes_before (key_place entry.0) rule) b) same ∙ sym (rule_bytes-put entry rule)

pub rule_in-put : (entry : Key × Text) (rule : Rule) → IsKey entry.0 → takes entry.0 entry.1 ≡ true → AllByRecursion IsEntry rule → rule_in (rule_bytes (put entry rule)) ≡ put entry rule
rule_in-put entry rule key taken entries =
    rule_in-rule_bytes (put entry rule) (all_move IsEntry (entry ∷ rule) (put entry rule) (put_moves entry rule) ((key, tested_takes entry.0 entry.1 taken), entries))

-- The bytes with one more entry are those of a rule again.
pub put_kept :
    (items new : Text) (old : Rule) (entry : Key × Text) → rule_in items ≡ old → ∥ IsRule (rule_in items) ∥₁ → items ≡ rule_bytes (rule_in items) → IsKey entry.0 → takes entry.0 entry.1 ≡ true →
    is_among entry.0 (keys_of old) ≡ false → is_excluded entry.0 (keys_of old) ≡ false →
    new ≡ take (bytes_before (key_place entry.0) old) items ++ entry_bytes entry ++ drop (bytes_before (key_place entry.0) old) items →
    ∥ IsRule (rule_in new) ∥₁ × (new ≡ rule_bytes (rule_in new)) × (rule_in new ≡ put entry old)
put_kept items new old entry view is_rule kept key taken new_key apart bytes =
    let all : all_taken (rule_in items) ≡ true = ∥∥₁_elim is_rule (hlevel props) (λ h. entries_taken (rule_in items) h.1) in
    let entries : AllByRecursion IsEntry old = subst (λ r. AllByRecursion IsEntry r) view (rule_in-entries items all) in
    let stored : new ≡ rule_bytes (put entry old) = bytes ∙ bytes_put items entry old (kept ∙ ap (λ r. rule_bytes r) view) in
    let again : rule_in new ≡ put entry old = ap (λ b. rule_in b) stored ∙ rule_in-put entry old key taken entries in
    let old_rule : ∥ IsRule old ∥₁ = subst (λ r. ∥ IsRule r ∥₁) view is_rule in
    let new_rule : ∥ IsRule (put entry old) ∥₁ = ∥∥₁_elim old_rule (hlevel props) (λ h. merely (rule-put entry old key taken new_key apart h)) in
    (subst (λ r. ∥ IsRule r ∥₁) (sym again) new_rule, stored ∙ ap (λ r. rule_bytes r) (sym again), again)

-- Bytes that are added behind the others and moved to a place before them.
pub moved_in :
    (items head both new value : Text) (at : ℕ) (entry : Key × Text) → at ≤ length items → value ≡ entry.1 → head ≡ items ++ (key_place entry.0 ∷ length entry.1 % 256 ∷ length entry.1 / 256 ∷ []) → both ≡ head ++ value →
    new ≡ take at both ++ (drop (length both - (3 + length value)) both ++ take (length both - (3 + length value) - at) (drop at both)) →
    new ≡ take at items ++ entry_bytes entry ++ drop at items
moved_in items head both new value at entry within same headed whole moved =
    let all : both ≡ items ++ entry_bytes entry = whole ∙ ap (λ h. h ++ value) headed ∙ ap (λ v. (items ++ (key_place entry.0 ∷ length entry.1 % 256 ∷ length entry.1 / 256 ∷ [])) ++ v) same ∙ append_assoc items (key_place entry.0 ∷ length entry.1 % 256 ∷ length entry.1 / 256 ∷ []) entry.1 in
    let long : length both - (3 + length value) ≡ length items = omega (arith, ap (λ t. length t) all, length-append items (entry_bytes entry), ap (λ t. length t) same) in
    let last : drop (length both - (3 + length value)) both ≡ entry_bytes entry = ap (λ n. drop n both) long ∙ ap (λ t. drop (length items) t) all ∙ drop-append_seam items (entry_bytes entry) in
    let front : take at both ≡ take at items = ap (λ t. take at t) all ∙ take-append-le at items (entry_bytes entry) within in
    let behind : drop at both ≡ drop at items ++ entry_bytes entry = ap (λ t. drop at t) all ∙ drop-append-le at items (entry_bytes entry) within in
    let left : length both - (3 + length value) - at ≡ length (drop at items) = omega (arith, long, length-drop at items) in
    let rest : take (length both - (3 + length value) - at) (drop at both) ≡ drop at items = ap (λ n. take n (drop at both)) left ∙ ap (λ t. take (length (drop at items)) t) behind ∙ take-append_seam (drop at items) (entry_bytes entry) in
    moved ∙ ap (λ t. t ++ (drop (length both - (3 + length value)) both ++ take (length both - (3 + length value) - at) (drop at both))) front
    ∙ ap (λ t. take at items ++ (t ++ take (length both - (3 + length value) - at) (drop at both))) last ∙ ap (λ t. take at items ++ (entry_bytes entry ++ t)) rest
    ∙ sym (append_assoc (take at items) (entry_bytes entry) (drop at items))

pub room_after :
    {E : Type 0} (r : Result (Unit {0}) E) (old new : Rule) (entry : Key × Text) (n : ℕ) → OnOk r (new ≡ put entry old) → 3 + length entry.1 ≤ n → OnOk r (length (rule_bytes new) ≤ length (rule_bytes old) + n)
room_after {E} (Ok done) old new entry n h fits = omega (arith, fits, ap (λ rule. length (rule_bytes rule)) h, length-put entry old)
room_after {E} (Err fault) old new entry n h fits = tt
