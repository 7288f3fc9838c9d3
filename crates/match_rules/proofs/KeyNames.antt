-- The key that is named is the key that is found.
use Rattle.std.proofs.Common.{◌≡◌, ◌⊎◌, inl, inr, ℕ, ◌+◌, ◌-◌, ◌*◌, ◌/◌, ◌%◌, ◌<◌, ◌≤◌, Bool, true, false, ◌&&◌, ◌==◌, nat_lt, nat_le, cond, Option, Some, None, [], ◌∷◌, ◌++◌, take, drop, refl, sym, ap, subst, ◌∙◌, arith, codes, decimal, append-nil, if◌then◌else◌}
use Rattle.std.specs.Fmt.{digits}
use Rattle.std.proofs.lemmas.Bool.{cases_Bool, eqb-true, leb-true, ltb-true, le-ltb, lt-ltb, and_parts, agree_below_at}
use Rattle.std.proofs.lemmas.List.{take-append-drop}
use Rattle.names.specs.Texts.{Text, text_eq}
use Rattle.names.specs.Elements.{is_digit}
use Rattle.match_rules.specs.declared.key.Key.{Key}
use Rattle.match_rules.specs.declared.key.Key.TheVariants.{«Type» as MessageType, Sender, Interface, Member, Path, PathNamespace, Destination, Argument, ArgumentPath, Argument0Namespace, Eavesdrop}
use Rattle.match_rules.specs.Keys.{IsKey, key_text, key_place, max_arguments}
use Rattle.match_rules.specs.Fitting.{begins}
use Rattle.match_rules.specs.Reading.{numbered, number_named, argument_named, key_named}
use Rattle.match_rules.proofs.RuleLemmas.{text_eq-true}
use Rattle.match_rules.proofs.KeyTexts.{found, found_key, key_found, place_of, found_by_place, small_place, IsFoundKey}

abbrev IsNamed : Text → Key → Type 0
IsNamed text key = (key_text key ≡ text) × IsKey key

chosen : (b : Bool) (k key : Key) (o : Option Key) → cond b (Some k) o ≡ Some key → ((b ≡ true) × (k ≡ key)) ⊎ ((b ≡ false) × (o ≡ Some key))
chosen true k key o h = inl (refl, cc)
chosen false k key o h = inr (refl, h)

named_by : (text word : Text) (k key : Key) → IsKey k → key_text k ≡ word → text_eq text word ≡ true → k ≡ key → IsNamed text key
named_by text word k key is_key written same e = subst (λ x. IsNamed text x) e (written ∙ sym (text_eq-true text word same), is_key)

-- How numbers below the limit are written.
abbrev written : ℕ → Text
written n = if nat_lt n 10 then (48 + n) ∷ [] else (48 + n / 10) ∷ (48 + n % 10) ∷ []

decimal_written : (n : ℕ) → n < max_arguments → decimal n ≡ written n
unfolding digits
decimal_written n h = text_eq-true (decimal n) (written n) (agree_below_at (λ n. text_eq (decimal n) (written n)) (λ n. true) max_arguments n refl h)

numbered_is : (n : ℕ) (front text : Text) (key : Key) → n < max_arguments → decimal n ≡ front → numbered n text ≡ Some key → IsNamed (codes "arg" ++ (front ++ text)) key
unfolding digits
numbered_is n front text key low same h =
    elim (chosen (text_eq text []) (Argument n) key _ h) [
      | inl e ↦ subst (λ k. IsNamed (codes "arg" ++ (front ++ text)) k) e.1 (ap (λ t. codes "arg" ++ t) (same ∙ sym (append-nil front) ∙ ap (λ t. front ++ t) (sym (text_eq-true text [] e.0))), low)
      | inr h2 ↦ elim (chosen (text_eq text (codes "path")) (ArgumentPath n) key _ h2.1) [
        | inl e ↦ subst (λ k. IsNamed (codes "arg" ++ (front ++ text)) k) e.1 (ap (λ t. codes "arg" ++ t) (ap (λ d. d ++ codes "path") same ∙ ap (λ t. front ++ t) (sym (text_eq-true text (codes "path") e.0))), low)
        | inr h3 ↦ elim (chosen ((n == 0) && text_eq text (codes "namespace")) Argument0Namespace key None h3.1) [
          | inl e ↦
              let both = and_parts (n == 0) (text_eq text (codes "namespace")) e.0 in
              let zero_front : codes "0" ≡ front = sym (ap (λ x. decimal x) (eqb-true n 0 both.0)) ∙ same in
              subst (λ k. IsNamed (codes "arg" ++ (front ++ text)) k) e.1
              (ap (λ f. codes "arg" ++ (f ++ codes "namespace")) zero_front ∙ ap (λ t. codes "arg" ++ (front ++ t)) (sym (text_eq-true text (codes "namespace") both.1)), tt)
          | inr h4 ↦ let e : None ≡ Some key = h4.1 in absurd (none_some e)
        ]
      ]
    ]
  where
    none_some : {k : Key} → None ≡ Some k → ⊥
    none_some {k} e = cc

number_is : (b : ℕ) (bytes : Text) (key : Key) → 48 ≤ b → b ≤ 57 → number_named (b - 48) bytes ≡ Some key → IsNamed (codes "arg" ++ (b ∷ bytes)) key
number_is b bytes key low high h = by bytes h
  where
    small : nat_lt (b - 48) 10 ≡ true
    small = lt-ltb (b - 48) 10 (omega (arith, low, high))

    one : decimal (b - 48) ≡ b ∷ []
    one = decimal_written (b - 48) (omega (arith, low, high)) ∙ rw small (let e : 48 + (b - 48) ≡ b = omega (arith, low) in ap (λ x. x ∷ []) e)

    two : (c : ℕ) → 48 ≤ c → c ≤ 57 → 0 < b - 48 → 10 * (b - 48) + (c - 48) < max_arguments → decimal (10 * (b - 48) + (c - 48)) ≡ b ∷ c ∷ []
    two c lc hc some below =
        let large : nat_lt (10 * (b - 48) + (c - 48)) 10 ≡ false = le-ltb (10 * (b - 48) + (c - 48)) 10 (omega (arith, some)) in
        let tens : 48 + (10 * (b - 48) + (c - 48)) / 10 ≡ b = omega (arith, low, lc, hc) in
        let ones : 48 + (10 * (b - 48) + (c - 48)) % 10 ≡ c = omega (arith, low, lc, hc) in
        decimal_written (10 * (b - 48) + (c - 48)) below ∙ rw large (ap (λ x. x ∷ (48 + (10 * (b - 48) + (c - 48)) % 10) ∷ []) tens ∙ ap (λ x. b ∷ x ∷ []) ones)

    by : (bytes : Text) → number_named (b - 48) bytes ≡ Some key → IsNamed (codes "arg" ++ (b ∷ bytes)) key
    by [] h = numbered_is (b - 48) (b ∷ []) [] key (omega (arith, low, high)) one h
    by (c ∷ more) h =
        let test : Bool = is_digit c && (nat_lt 0 (b - 48) && nat_lt (10 * (b - 48) + (c - 48)) max_arguments) in
        elim (cases_Bool (is_digit c && (nat_lt 0 (b - 48) && nat_lt (10 * (b - 48) + (c - 48)) max_arguments))) [
          | inl yes' ↦
              let both = and_parts (is_digit c) (nat_lt 0 (b - 48) && nat_lt (10 * (b - 48) + (c - 48)) max_arguments) yes' in
              let bounds = and_parts (nat_lt 0 (b - 48)) (nat_lt (10 * (b - 48) + (c - 48)) max_arguments) both.1 in
              let ends = and_parts (nat_le 48 c) (nat_le c 57) both.0 in
              let below = ltb-true _ _ bounds.1 in
              numbered_is (10 * (b - 48) + (c - 48)) (b ∷ c ∷ []) more key below (two c (leb-true 48 c ends.0) (leb-true c 57 ends.1) (ltb-true _ _ bounds.0) below)
              (subst (λ t. cond t (numbered (10 * (b - 48) + (c - 48)) more) (numbered (b - 48) (c ∷ more)) ≡ Some key) yes' h)
          | inr other ↦
              numbered_is (b - 48) (b ∷ []) (c ∷ more) key (omega (arith, low, high)) one
              (subst (λ t. cond t (numbered (10 * (b - 48) + (c - 48)) more) (numbered (b - 48) (c ∷ more)) ≡ Some key) other h)
        ]

guarded : (b : Bool) (o : Option Key) (key : Key) → cond b o None ≡ Some key → (b ≡ true) × (o ≡ Some key)
guarded true o key h = (refl, h)
guarded false o key h = absurd cc

argument_is : (text : Text) (key : Key) → argument_named text ≡ Some key → IsNamed (codes "arg" ++ text) key
argument_is [] key h = absurd cc
argument_is (b ∷ bytes) key h =
    let g = guarded (is_digit b) (number_named (b - 48) bytes) key h in
    let ends = and_parts (nat_le 48 b) (nat_le b 57) g.0 in
    number_is b bytes key (leb-true 48 b ends.0) (leb-true b 57 ends.1) g.1

pub named_is : (text : Text) (key : Key) → key_named text ≡ Some key → IsNamed text key
named_is text key h =
    elim (chosen (text_eq text (codes "type")) MessageType key _ h) [
      | inl e ↦ named_by text (codes "type") MessageType key tt refl e.0 e.1
      | inr h ↦ elim (chosen (text_eq text (codes "sender")) Sender key _ h.1) [
        | inl e ↦ named_by text (codes "sender") Sender key tt refl e.0 e.1
        | inr h ↦ elim (chosen (text_eq text (codes "interface")) Interface key _ h.1) [
          | inl e ↦ named_by text (codes "interface") Interface key tt refl e.0 e.1
          | inr h ↦ elim (chosen (text_eq text (codes "member")) Member key _ h.1) [
            | inl e ↦ named_by text (codes "member") Member key tt refl e.0 e.1
            | inr h ↦ elim (chosen (text_eq text (codes "path")) Path key _ h.1) [
              | inl e ↦ named_by text (codes "path") Path key tt refl e.0 e.1
              | inr h ↦ elim (chosen (text_eq text (codes "path_namespace")) PathNamespace key _ h.1) [
                | inl e ↦ named_by text (codes "path_namespace") PathNamespace key tt refl e.0 e.1
                | inr h ↦ elim (chosen (text_eq text (codes "destination")) Destination key _ h.1) [
                  | inl e ↦ named_by text (codes "destination") Destination key tt refl e.0 e.1
                  | inr h ↦ elim (chosen (text_eq text (codes "eavesdrop")) Eavesdrop key _ h.1) [
                    | inl e ↦ named_by text (codes "eavesdrop") Eavesdrop key tt refl e.0 e.1
                    | inr h ↦
                        let g = guarded (begins (codes "arg") text) (argument_named (drop 3 text)) key h.1 in
                        let front : codes "arg" ≡ take 3 text = text_eq-true (codes "arg") (take 3 text) g.0 in
                        subst (λ t. IsNamed t key) (ap (λ f. f ++ drop 3 text) front ∙ take-append-drop 3 text) (argument_is (drop 3 text) key g.1)
                  ]
                ]
              ]
            ]
          ]
        ]
      ]
    ]

named_key : (text : Text) (o : Option Key) → key_named text ≡ o → IsFoundKey o
named_key text None e = tt
named_key text (Some key) e = (named_is text key e).1

arguments_named : (n : ℕ) → n < max_arguments → (place_of (key_named (key_text (Argument n))) == 7 + n) ≡ true
unfolding digits
arguments_named n h = agree_below_at (λ n. place_of (key_named (key_text (Argument n))) == 7 + n) (λ n. true) max_arguments n refl h

paths_named : (n : ℕ) → n < max_arguments → (place_of (key_named (key_text (ArgumentPath n))) == 7 + max_arguments + n) ≡ true
unfolding digits
paths_named n h = agree_below_at (λ n. place_of (key_named (key_text (ArgumentPath n))) == 7 + max_arguments + n) (λ n. true) max_arguments n refl h

named_place : (key : Key) → IsKey key → place_of (key_named (key_text key)) ≡ key_place key
named_place MessageType h = refl
named_place Sender h = refl
named_place Interface h = refl
named_place Member h = refl
named_place Path h = refl
named_place PathNamespace h = refl
named_place Destination h = refl
named_place (Argument n) h = eqb-true (place_of (key_named (key_text (Argument n)))) (7 + n) (arguments_named n h)
named_place (ArgumentPath n) h = eqb-true (place_of (key_named (key_text (ArgumentPath n)))) (7 + max_arguments + n) (paths_named n h)
named_place Argument0Namespace h = refl
named_place Eavesdrop h = refl

named_again : (key : Key) → IsKey key → key_named (key_text key) ≡ Some key
named_again key h = found_by_place (key_named (key_text key)) key (named_key (key_text key) (key_named (key_text key)) refl) h (named_place key h) (small_place key h)

pub named_found : (text : Text) → key_named text ≡ found text
named_found text = by (key_named text) (found text) refl refl
  where
    by : (o p : Option Key) → key_named text ≡ o → found text ≡ p → o ≡ p
    by (Some key) p named there = let is = named_is text key named in sym (sym there ∙ ap (λ t. found t) (sym is.0) ∙ found_key key is.1)
    by None None named there = refl
    by None (Some key) named there = let is = key_found text key there in sym named ∙ ap (λ t. key_named t) (sym is.0) ∙ named_again key is.1
