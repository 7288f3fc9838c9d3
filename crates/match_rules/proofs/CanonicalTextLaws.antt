-- The canonical text of a rule is a text of the rule, and none is shorter.
use Rattle.std.proofs.Common.{◌≡◌, ◌≢◌, inl, inr, ℕ, suc, ◌+◌, ◌<◌, ◌≤◌, Bool, true, false, not, ◌==◌, cond, List, [], ◌∷◌, ◌++◌, map, length, take, drop, sum_by, refl, sym, ap, subst, ◌∙◌, arith, length-append, append-nil}
use Rattle.std.specs.List.{AllByRecursion, flat_map, list_any, onto_first, position_or_len, slice_split}
use Rattle.std.specs.List.Sorted.{IsPermutation}
use Rattle.std.proofs.lemmas.Bool.{cases_Bool, cases_lt, eqb-true, eqb-false, ne_eqb, or_parts}
use Rattle.std.proofs.Math.Logic.{∥∥₁_elim}
use Rattle.std.proofs.Math.Seq.{take-length}
use Rattle.std.proofs.Props.{props}
use Rattle.std.proofs.lemmas.List.Sums.{sum_by-cons}
use Rattle.std.proofs.lemmas.List.Sorted.{IsPermutation-refl, sum_by-IsPermutation}
use Rattle.names.specs.Texts.{Text}
use Rattle.match_rules.specs.declared.key.Key.{Key}
use Rattle.match_rules.specs.declared.room.TheConstants.{MAX_RULE_LENGTH}
use Rattle.match_rules.specs.Keys.{key_text}
use Rattle.match_rules.specs.Rules.{Rule}
use Rattle.match_rules.specs.RuleTexts.{apostrophe, comma, equals, backslash, Part, Quoted, Escaped, Plain, part_text, part_value, BeginsWithApostrophe, AreParts, Item, item_text, entry_of, joined, HasText}
use Rattle.match_rules.specs.CanonicalTexts.{is_apostrophe, is_comma, piece_text, pieces_text, value_text, entry_text, rule_text}
use Rattle.match_rules.specs.Laws.{CanonicalTextsAreTexts, CanonicalTextsAreShortest}

-- A value and the parts between its apostrophes.
abbrev behind_apostrophe : Text → Text
behind_apostrophe piece = apostrophe ∷ piece

abbrev written_behind : Text → Text
written_behind piece = backslash ∷ apostrophe ∷ piece_text piece

abbrev HasNone : Text → Type 0
HasNone piece = AllByRecursion (λ b. b ≢ apostrophe) piece

record IsSplit (value first : Text) (others : List Text) : Type 0 where
  split : slice_split is_apostrophe value ≡ first ∷ others
  whole : value ≡ first ++ flat_map behind_apostrophe others
  first_has_none : HasNone first
  others_have_none : AllByRecursion HasNone others

split_value : (value : Text) → (first : Text) × (others : List Text) × IsSplit value first others
split_value [] = ([], [], record { split = refl; whole = refl; first_has_none = tt; others_have_none = tt })
split_value (b ∷ value) =
    let rest = split_value value in
    let is : IsSplit value rest.0 rest.1 = rest.2 in
    elim (cases_Bool (b == apostrophe)) [
      | inl same ↦ (
        [],
        rest.0 ∷ rest.1,
        record {
          split = rw same (ap (λ pieces. [] ∷ pieces) is.split);
          whole = ap (λ x. x ∷ value) (eqb-true b apostrophe same) ∙ ap (λ t. apostrophe ∷ t) is.whole;
          first_has_none = tt;
          others_have_none = (is.first_has_none, is.others_have_none);
        },
      )
      | inr other ↦ (
        b ∷ rest.0,
        rest.1,
        record {
          split = rw other (ap (λ pieces. onto_first b pieces) is.split);
          whole = ap (λ t. b ∷ t) is.whole;
          first_has_none = (eqb-false b apostrophe other, is.first_has_none);
          others_have_none = is.others_have_none;
        },
      )
    ]

-- The parts in which a value is written.
abbrev piece_parts : Text → List Part
piece_parts piece = cond (list_any is_comma piece) (Quoted piece ∷ []) (map Plain piece)

abbrev parts_behind : Text → List Part
parts_behind piece = Escaped ∷ piece_parts piece

abbrev pub parts_of : List Text → List Part
parts_of [] = []
parts_of (piece ∷ others) = piece_parts piece ++ flat_map parts_behind others

plain_no_apostrophe : (piece : Text) (tail : List Part) → ¬ BeginsWithApostrophe tail → ¬ BeginsWithApostrophe (map Plain piece ++ tail)
plain_no_apostrophe [] tail h = h
plain_no_apostrophe (b ∷ piece) tail h = λ x. x

plain_are_parts : (piece : Text) (tail : List Part) → list_any is_comma piece ≡ false → HasNone piece → AreParts tail → ¬ BeginsWithApostrophe tail → AreParts (map Plain piece ++ tail)
plain_are_parts [] tail none apart h begins = h
plain_are_parts (b ∷ piece) tail none apart h begins =
    let parts = or_parts (b == comma) (list_any is_comma piece) none in
    (eqb-false b comma parts.0, apart.0, (λ e. plain_no_apostrophe piece tail begins), plain_are_parts piece tail parts.1 apart.1 h begins)

piece_are_parts : (piece : Text) (tail : List Part) → HasNone piece → AreParts tail → ¬ BeginsWithApostrophe tail → AreParts (piece_parts piece ++ tail)
piece_are_parts piece tail apart h begins =
    elim (cases_Bool (list_any is_comma piece)) [
      | inl some ↦ subst (λ b. AreParts (cond b (Quoted piece ∷ []) (map Plain piece) ++ tail)) (sym some) (apart, h)
      | inr none ↦ subst (λ b. AreParts (cond b (Quoted piece ∷ []) (map Plain piece) ++ tail)) (sym none) (plain_are_parts piece tail none apart h begins)
    ]

others_no_apostrophe : (others : List Text) → ¬ BeginsWithApostrophe (flat_map parts_behind others)
others_no_apostrophe [] = λ x. x
others_no_apostrophe (piece ∷ others) = λ x. x

others_are_parts : (others : List Text) → AllByRecursion HasNone others → AreParts (flat_map parts_behind others)
others_are_parts [] h = tt
others_are_parts (piece ∷ others) h = piece_are_parts piece (flat_map parts_behind others) h.0 (others_are_parts others h.1) (others_no_apostrophe others)

plain_texts : (piece : Text) (tail : List Part) → flat_map part_text (map Plain piece ++ tail) ≡ piece ++ flat_map part_text tail
plain_texts [] tail = refl
plain_texts (b ∷ piece) tail = ap (λ t. b ∷ t) (plain_texts piece tail)

plain_values : (piece : Text) (tail : List Part) → flat_map part_value (map Plain piece ++ tail) ≡ piece ++ flat_map part_value tail
plain_values [] tail = refl
plain_values (b ∷ piece) tail = ap (λ t. b ∷ t) (plain_values piece tail)

piece_texts : (piece : Text) (tail : List Part) → flat_map part_text (piece_parts piece ++ tail) ≡ piece_text piece ++ flat_map part_text tail
piece_texts piece tail =
    elim (cases_Bool (list_any is_comma piece)) [
      | inl some ↦ rw some refl
      | inr none ↦ rw none (plain_texts piece tail)
    ]

piece_values : (piece : Text) (tail : List Part) → flat_map part_value (piece_parts piece ++ tail) ≡ piece ++ flat_map part_value tail
piece_values piece tail =
    elim (cases_Bool (list_any is_comma piece)) [
      | inl some ↦ rw some refl
      | inr none ↦ rw none (plain_values piece tail)
    ]

others_texts : (others : List Text) → flat_map part_text (flat_map parts_behind others) ≡ flat_map written_behind others
others_texts [] = refl
others_texts (piece ∷ others) = ap (λ t. backslash ∷ apostrophe ∷ t) (piece_texts piece (flat_map parts_behind others) ∙ ap (λ t. piece_text piece ++ t) (others_texts others))

others_values : (others : List Text) → flat_map part_value (flat_map parts_behind others) ≡ flat_map behind_apostrophe others
others_values [] = refl
others_values (piece ∷ others) = ap (λ t. apostrophe ∷ t) (piece_values piece (flat_map parts_behind others) ∙ ap (λ t. piece ++ t) (others_values others))

abbrev value_parts : Text → List Part
value_parts value = parts_of (slice_split is_apostrophe value)

value_are_parts : (value : Text) → AreParts (value_parts value)
value_are_parts value =
    let s = split_value value in
    let is : IsSplit value s.0 s.1 = s.2 in
    subst (λ pieces. AreParts (parts_of pieces)) (sym is.split) (piece_are_parts s.0 (flat_map parts_behind s.1) is.first_has_none (others_are_parts s.1 is.others_have_none) (others_no_apostrophe s.1))

value_is_text : (value : Text) → flat_map part_text (value_parts value) ≡ value_text value
value_is_text value =
    let s = split_value value in
    let is : IsSplit value s.0 s.1 = s.2 in
    ap (λ pieces. flat_map part_text (parts_of pieces)) is.split ∙ piece_texts s.0 (flat_map parts_behind s.1) ∙ ap (λ t. piece_text s.0 ++ t) (others_texts s.1) ∙ ap (λ pieces. pieces_text pieces) (sym is.split)

value_is_value : (value : Text) → flat_map part_value (value_parts value) ≡ value
value_is_value value =
    let s = split_value value in
    let is : IsSplit value s.0 s.1 = s.2 in
    ap (λ pieces. flat_map part_value (parts_of pieces)) is.split ∙ piece_values s.0 (flat_map parts_behind s.1) ∙ ap (λ t. s.0 ++ t) (others_values s.1) ∙ sym is.whole

-- What the writing of a value costs: two bytes more for the first comma of each part that its apostrophes part, and one for each apostrophe.
abbrev cost : Bool → Text → ℕ
cost quoted [] = 0
cost quoted (b ∷ value) = cond (b == apostrophe) (2 + cost false value) (cond (b == comma) (cond quoted (1 + cost true value) (3 + cost true value)) (1 + cost quoted value))

length-piece : (b : ℕ) (piece : Text) → (b == comma) ≡ false → length (piece_text (b ∷ piece)) ≡ 1 + length (piece_text piece)
length-piece b piece other =
    elim (cases_Bool (list_any is_comma piece)) [
      | inl some ↦ rw (other, some) (omega arith)
      | inr none ↦ rw (other, none) (omega arith)
    ]

length-quoted : (b : ℕ) (piece : Text) → (b == comma) ≡ true → length (piece_text (b ∷ piece)) ≡ 3 + length piece
length-quoted b piece same = rw same (omega (arith, length-append piece (apostrophe ∷ [])))

record IsCost (value first : Text) (others : List Text) : Type 0 where
  outside : cost false value ≡ length (piece_text first) + length (flat_map written_behind others)
  inside : cost true value ≡ length first + length (flat_map written_behind others)

cost_is : (value : Text) → (first : Text) × (others : List Text) × (slice_split is_apostrophe value ≡ first ∷ others) × IsCost value first others
cost_is [] = ([], [], refl, record { outside = refl; inside = refl })
cost_is (b ∷ value) =
    let rest = cost_is value in
    let is : IsCost value rest.0 rest.1 = rest.3 in
    elim (cases_Bool (b == apostrophe)) [
      | inl same ↦ (
        [],
        rest.0 ∷ rest.1,
        rw same (ap (λ pieces. [] ∷ pieces) rest.2),
        let here : length (flat_map written_behind (rest.0 ∷ rest.1)) ≡ 2 + length (piece_text rest.0) + length (flat_map written_behind rest.1) = omega (arith, length-append (written_behind rest.0) (flat_map written_behind rest.1)) in
            record { outside = rw same (omega (arith, is.outside, here)); inside = rw same (omega (arith, is.outside, here)) },
      )
      | inr apart ↦ elim (cases_Bool (b == comma)) [
        | inl same ↦ (
          b ∷ rest.0,
          rest.1,
          rw apart (ap (λ pieces. onto_first b pieces) rest.2),
          let here = length-quoted b rest.0 same in
              record { outside = subst (λ n. n ≡ length (piece_text (b ∷ rest.0)) + length (flat_map written_behind rest.1)) (sym (cost_comma false b value apart same)) (omega (arith, is.inside, here)); inside = subst (λ n. n ≡ length (b ∷ rest.0) + length (flat_map written_behind rest.1)) (sym (cost_comma true b value apart same)) (omega (arith, is.inside)) },
        )
        | inr other ↦ (
          b ∷ rest.0,
          rest.1,
          rw apart (ap (λ pieces. onto_first b pieces) rest.2),
          let here = length-piece b rest.0 other in
              record { outside = subst (λ n. n ≡ length (piece_text (b ∷ rest.0)) + length (flat_map written_behind rest.1)) (sym (cost_plain false b value apart other)) (omega (arith, is.outside, here)); inside = subst (λ n. n ≡ length (b ∷ rest.0) + length (flat_map written_behind rest.1)) (sym (cost_plain true b value apart other)) (omega (arith, is.inside)) },
        )
      ]
    ]
  where
    cost_comma : (quoted : Bool) (b : ℕ) (value : Text) → (b == apostrophe) ≡ false → (b == comma) ≡ true → cost quoted (b ∷ value) ≡ cond quoted (1 + cost true value) (3 + cost true value)
    cost_comma quoted b value apart same = rw (apart, same) refl

    cost_plain : (quoted : Bool) (b : ℕ) (value : Text) → (b == apostrophe) ≡ false → (b == comma) ≡ false → cost quoted (b ∷ value) ≡ 1 + cost quoted value
    cost_plain quoted b value apart other = rw (apart, other) refl

length-value : (value : Text) → length (value_text value) ≡ cost false value
length-value value =
    let c = cost_is value in
    let is : IsCost value c.0 c.1 = c.3 in
    ap (λ pieces. length (pieces_text pieces)) c.2 ∙ length-append (piece_text c.0) (flat_map written_behind c.1) ∙ sym is.outside

-- No other writing of a value is shorter.
cost_cases : (quoted : Bool) (b : ℕ) (value : Text) → (b ≡ apostrophe → ⊥) → (b ≡ comma → ⊥) → cost quoted (b ∷ value) ≡ 1 + cost quoted value
cost_cases quoted b value apart other = rw (ne_eqb b apostrophe apart, ne_eqb b comma other) refl

cost_less : (value : Text) → cost false value ≤ 2 + cost true value
cost_less [] = omega arith
cost_less (b ∷ value) =
    let rest = cost_less value in
    elim (cases_Bool (b == apostrophe)) [
      | inl same ↦ rw same (omega arith)
      | inr apart ↦ elim (cases_Bool (b == comma)) [
        | inl same ↦ rw (apart, same) (omega arith)
        | inr other ↦ rw (apart, other) (omega (arith, rest))
      ]
    ]

cost_inside : (bytes value : Text) → HasNone bytes → cost true (bytes ++ value) ≡ length bytes + cost true value
cost_inside [] value h = omega arith
cost_inside (b ∷ bytes) value h =
    let rest = cost_inside bytes value h.1 in
    let apart : (b == apostrophe) ≡ false = ne_eqb b apostrophe h.0 in
    elim (cases_Bool (b == comma)) [
      | inl same ↦ rw (apart, same) (omega (arith, rest))
      | inr other ↦ rw (apart, other) (omega (arith, rest))
    ]

cost_quoted : (bytes value : Text) → HasNone bytes → cost false (bytes ++ value) ≤ 2 + length bytes + cost true value
cost_quoted [] value h = omega (arith, cost_less value)
cost_quoted (b ∷ bytes) value h =
    let rest = cost_quoted bytes value h.1 in
    let inside = cost_inside bytes value h.1 in
    let apart : (b == apostrophe) ≡ false = ne_eqb b apostrophe h.0 in
    elim (cases_Bool (b == comma)) [
      | inl same ↦ rw (apart, same) (omega (arith, inside))
      | inr other ↦ rw (apart, other) (omega (arith, rest))
    ]

cost_more : (value : Text) → cost true value ≤ cost false value
cost_more [] = omega arith
cost_more (b ∷ value) =
    let rest = cost_more value in
    elim (cases_Bool (b == apostrophe)) [
      | inl same ↦ rw same (omega arith)
      | inr apart ↦ elim (cases_Bool (b == comma)) [
        | inl same ↦ rw (apart, same) (omega arith)
        | inr other ↦ rw (apart, other) (omega (arith, rest))
      ]
    ]

parts_cost : (parts : List Part) → AreParts parts → cost false (flat_map part_value parts) ≤ length (flat_map part_text parts)
parts_cost [] h = omega arith
parts_cost (Quoted bytes ∷ parts) h =
    let rest = parts_cost parts h.1 in
    omega (
      arith,
      rest,
      cost_quoted bytes (flat_map part_value parts) h.0,
      cost_more (flat_map part_value parts),
      length-append bytes (apostrophe ∷ []),
      length-append (bytes ++ apostrophe ∷ []) (flat_map part_text parts),
    )
parts_cost (Escaped ∷ parts) h = let rest = parts_cost parts h in omega (arith, rest)
parts_cost (Plain b ∷ parts) h =
    let rest = parts_cost parts h.3 in
    omega (arith, rest, cost_cases false b (flat_map part_value parts) h.1 h.0)

-- The items of the canonical text.
abbrev item_of : Key × Text → Item
item_of entry = record { key = entry.0; parts = value_parts entry.1 }

abbrev items_of : Rule → List Item
items_of rule = map item_of rule

item_is_text : (entry : Key × Text) → entry_text entry ≡ item_text (item_of entry)
item_is_text entry = ap (λ t. key_text entry.0 ++ equals ∷ t) (sym (value_is_text entry.1))

item_is_entry : (entry : Key × Text) → entry_of (item_of entry) ≡ entry
item_is_entry entry = ap (λ value. (entry.0, value)) (value_is_value entry.1)

items_are_entries : (rule : Rule) → map entry_of (items_of rule) ≡ rule
items_are_entries [] = refl
items_are_entries (entry ∷ rule) = ap (λ e. e ∷ map entry_of (items_of rule)) (item_is_entry entry) ∙ ap (λ r. entry ∷ r) (items_are_entries rule)

items_have_parts : (rule : Rule) → AllByRecursion (λ item. AreParts item.parts) (items_of rule)
items_have_parts [] = tt
items_have_parts (entry ∷ rule) = (value_are_parts entry.1, items_have_parts rule)

others_are_joined : (rule : Rule) → flat_map (λ entry. comma ∷ entry_text entry) rule ≡ flat_map (λ item. comma ∷ item_text item) (items_of rule)
others_are_joined [] = refl
others_are_joined (entry ∷ rule) =
    ap (λ t. comma ∷ t ++ flat_map (λ e. comma ∷ entry_text e) rule) (item_is_text entry) ∙ ap (λ t. comma ∷ item_text (item_of entry) ++ t) (others_are_joined rule)

text_is_joined : (rule : Rule) → rule_text rule ≡ joined (items_of rule)
text_is_joined [] = refl
text_is_joined (entry ∷ rule) =
    ap (λ t. t ++ flat_map (λ e. comma ∷ entry_text e) rule) (item_is_text entry) ∙ ap (λ t. item_text (item_of entry) ++ t) (others_are_joined rule)

-- How long texts are, a comma for each item.
abbrev entry_size : Key × Text → ℕ
entry_size entry = 1 + length (entry_text entry)

length-others : (rule : Rule) → length (flat_map (λ entry. comma ∷ entry_text entry) rule) ≡ sum_by entry_size rule
length-others [] = refl
length-others (entry ∷ rule) =
    omega (arith, length-append (comma ∷ entry_text entry) (flat_map (λ e. comma ∷ entry_text e) rule), length-others rule, sum_by-cons entry_size entry rule)

length-text : (entry : Key × Text) (rule : Rule) → 1 + length (rule_text (entry ∷ rule)) ≡ sum_by entry_size (entry ∷ rule)
length-text entry rule =
    omega (arith, length-append (entry_text entry) (flat_map (λ e. comma ∷ entry_text e) rule), length-others rule, sum_by-cons entry_size entry rule)

item_is_no_shorter : (item : Item) → AreParts item.parts → length (entry_text (entry_of item)) ≤ length (item_text item)
item_is_no_shorter item h =
    let value = length-value (flat_map part_value item.parts) in
    omega (
      arith,
      value,
      parts_cost item.parts h,
      length-append (key_text item.key) (equals ∷ value_text (flat_map part_value item.parts)),
      length-append (key_text item.key) (equals ∷ flat_map part_text item.parts),
    )

others_are_no_shorter : (items : List Item) → AllByRecursion (λ item. AreParts item.parts) items → sum_by entry_size (map entry_of items) ≤ length (flat_map (λ item. comma ∷ item_text item) items)
others_are_no_shorter [] h = omega arith
others_are_no_shorter (item ∷ items) h =
    omega (
      arith,
      others_are_no_shorter items h.1,
      item_is_no_shorter item h.0,
      sum_by-cons entry_size (entry_of item) (map entry_of items),
      length-append (comma ∷ item_text item) (flat_map (λ i. comma ∷ item_text i) items),
    )

items_are_no_shorter : (items : List Item) → AllByRecursion (λ item. AreParts item.parts) items → sum_by entry_size (map entry_of items) ≤ 1 + length (joined items)
items_are_no_shorter [] h = omega arith
items_are_no_shorter (item ∷ items) h =
    omega (
      arith,
      others_are_no_shorter items h.1,
      item_is_no_shorter item h.0,
      sum_by-cons entry_size (entry_of item) (map entry_of items),
      length-append (item_text item) (flat_map (λ i. comma ∷ item_text i) items),
    )

text_is_no_longer : (rule : Rule) (items : List Item) → AllByRecursion (λ item. AreParts item.parts) items → IsPermutation (map entry_of items) rule → length (rule_text rule) ≤ length (joined items)
text_is_no_longer [] items h moves = omega arith
text_is_no_longer (entry ∷ rule) items h moves = omega (arith, length-text entry rule, items_are_no_shorter items h, sum_by-IsPermutation entry_size (map entry_of items) (entry ∷ rule) moves)

pub canonical_is_shortest : CanonicalTextsAreShortest
canonical_is_shortest text rule h = subst (λ t. length (rule_text rule) ≤ length t) (sym h.2.3) (text_is_no_longer rule h.2.0 h.2.1 h.2.2)

pub canonical_is_text : CanonicalTextsAreTexts
canonical_is_text text rule h = (
  h.0,
  omega (arith, h.1, canonical_is_shortest text rule h),
  (
    items_of rule,
    items_have_parts rule,
    subst (λ entries. IsPermutation entries rule) (sym (items_are_entries rule)) (IsPermutation-refl rule),
    text_is_joined rule,
  ),
)

-- The first part of a value, and what stands behind its apostrophe.
pub one_piece : (value : Text) → position_or_len is_apostrophe value ≡ length value → slice_split is_apostrophe value ≡ value ∷ []
one_piece [] h = refl
one_piece (b ∷ value) h =
    elim (cases_Bool (b == apostrophe)) [
      | inl same ↦ let e : 0 ≡ length (b ∷ value) = subst (λ t. cond (not t) (1 + position_or_len is_apostrophe value) 0 ≡ length (b ∷ value)) same h in absurd (omega (arith, e))
      | inr other ↦
          let e : 1 + position_or_len is_apostrophe value ≡ length (b ∷ value) = subst (λ t. cond (not t) (1 + position_or_len is_apostrophe value) 0 ≡ length (b ∷ value)) other h in
          rw (other, one_piece value (omega (arith, e))) refl
    ]

more_pieces : (value : Text) (n : ℕ) → n ≡ position_or_len is_apostrophe value → n < length value → slice_split is_apostrophe value ≡ take n value ∷ slice_split is_apostrophe (drop (n + 1) value)
more_pieces [] n e h = absurd (omega (arith, h))
more_pieces (b ∷ value) n e h =
    elim (cases_Bool (b == apostrophe)) [
      | inl same ↦ let none : n ≡ 0 = e ∙ rw same refl in rw (same, none) refl
      | inr other ↦
          let some : n ≡ suc (position_or_len is_apostrophe value) = e ∙ rw other (omega arith) in
          let rest = more_pieces value (position_or_len is_apostrophe value) refl (omega (arith, h, some)) in
          let more : suc (position_or_len is_apostrophe value) + 1 ≡ suc (position_or_len is_apostrophe value + 1) = omega arith in
          rw (other, some, rest, more) refl
    ]

pub last_piece_text : (value : Text) (n : ℕ) → n ≡ position_or_len is_apostrophe value → n ≡ length value → piece_text (take n value) ≡ value_text value
last_piece_text value n e all =
    ap (λ k. piece_text (take k value)) all ∙ ap (λ t. piece_text t) (take-length value) ∙ sym (ap (λ pieces. pieces_text pieces) (one_piece value (sym e ∙ all)) ∙ append-nil (piece_text value))

pub next_piece_text : (value : Text) (n : ℕ) → n ≡ position_or_len is_apostrophe value → n < length value → piece_text (take n value) ++ backslash ∷ apostrophe ∷ value_text (drop (n + 1) value) ≡ value_text value
next_piece_text value n e less =
    let s = split_value (drop (n + 1) value) in
    let is : IsSplit (drop (n + 1) value) s.0 s.1 = s.2 in
    ap (λ pieces. piece_text (take n value) ++ backslash ∷ apostrophe ∷ pieces_text pieces) is.split
    ∙ ap (λ pieces. piece_text (take n value) ++ flat_map written_behind pieces) (sym is.split)
    ∙ ap (λ pieces. pieces_text pieces) (sym (more_pieces value n e less))

pub piece_within : (value : Text) (n : ℕ) → n ≡ position_or_len is_apostrophe value → n ≤ length value → length (piece_text (take n value)) ≤ length (value_text value)
piece_within value n e within =
    elim (cases_lt n (length value)) [
      | inl less ↦ omega (arith, ap (λ t. length t) (next_piece_text value n e less), length-append (piece_text (take n value)) (backslash ∷ apostrophe ∷ value_text (drop (n + 1) value)))
      | inr past ↦ omega (arith, ap (λ t. length t) (last_piece_text value n e (omega (arith, within, past))))
    ]

-- There is room for the canonical text of a rule.
pub text_has_room : (rule : Rule) → ∥ HasText rule ∥₁ → length (rule_text rule) ≤ MAX_RULE_LENGTH
text_has_room rule h = ∥∥₁_elim h (hlevel props) (λ t. omega (arith, canonical_is_shortest t.0 rule t.1, t.1.1))

abbrev behind_comma : Key × Text → Text
behind_comma entry = comma ∷ entry_text entry

pub first_has_room : (rule others : Rule) (first : Key × Text) (text : Text) → rule ≡ first ∷ others → text ≡ [] → length (rule_text rule) ≤ MAX_RULE_LENGTH → length text + length (entry_text first) ≤ MAX_RULE_LENGTH
first_has_room rule others first text steps none fits =
    omega (arith, ap (λ t. length t) none, ap (λ r. length (rule_text r)) steps, length-append (entry_text first) (flat_map behind_comma others), fits)

pub next_has_room :
    (text whole : Text) (left others : Rule) (entry : Key × Text) → text ++ flat_map behind_comma left ≡ whole → left ≡ entry ∷ others → length whole ≤ MAX_RULE_LENGTH →
    length text + 1 + length (entry_text entry) ≤ MAX_RULE_LENGTH
next_has_room text whole left others entry h steps fits =
    omega (
      arith,
      ap (λ t. length t) h,
      ap (λ r. length (flat_map behind_comma r)) steps,
      length-append text (flat_map behind_comma left),
      length-append (entry_text entry) (flat_map behind_comma others),
      fits,
    )
