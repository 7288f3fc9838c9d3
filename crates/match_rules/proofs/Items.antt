-- The items of a rule's text.
use Rattle.std.proofs.Common.{◌≡◌, Bool, true, false, cond, Option, Some, None, option_to_list, List, [], ◌∷◌, ◌++◌, map, refl, sym, ap, subst, ◌∙◌, append_assoc}
use Rattle.std.specs.List.{AllByRecursion, flat_map, list_any, onto_first, before_first, after_first}
use Rattle.std.specs.Option.{option_or}
use Rattle.names.specs.Texts.{Text}
use Rattle.match_rules.specs.declared.fault.RuleFault.{RuleFault}
use Rattle.match_rules.specs.declared.fault.RuleFault.TheVariants.{Twice, Both, Value}
use Rattle.match_rules.specs.declared.key.Key.{Key}
use Rattle.match_rules.specs.Keys.{IsKey, key_text}
use Rattle.match_rules.specs.RuleTexts.{comma, equals, part_text, part_value, AreParts, Item, item_text, joined}
use Rattle.match_rules.specs.RuleFaults.{Outside, items_from, value_from, is_equals, item_key, item_value, takes, is_among, is_excluded, value_fault, item_fault, items_fault}
use Rattle.match_rules.proofs.Quotes.{Ends, parts_read, IsOneItem, AreRead, value_read, key_bytes_read, key_part_is_quiet, has_equals, before_equals, after_equals, at_equals}
use Rattle.match_rules.proofs.KeyTexts.{found, found_key, key_found, keys_part_nothing}

abbrev pub value_of : Item → Text
value_of item = flat_map part_value item.parts

abbrev pub IsGood : Item → Type 0
IsGood item = IsKey item.key × AreParts item.parts × (takes item.key (value_of item) ≡ true)

-- The reading of what is written.
item_is_read : (item : Item) (rest : Text) (more : List Text) → IsGood item → Ends rest more → items_from Outside (item_text item ++ rest) ≡ item_text item ∷ more
item_is_read item rest more h ends =
    let parts = parts_read Outside item.parts rest more h.1 tt ends in
    ap (λ t. items_from Outside t) (append_assoc (key_text item.key) (equals ∷ flat_map part_text item.parts) rest)
    ∙ key_bytes_read (key_text item.key) (equals ∷ flat_map part_text item.parts ++ rest) (equals ∷ flat_map part_text item.parts) more (keys_part_nothing item.key h.0)
    (ap (λ r. onto_first equals r) parts.1)

others_end : (items : List Item) → AllByRecursion IsGood items → Ends (flat_map (λ item. comma ∷ item_text item) items) (map item_text items)
others_end [] h = (refl, refl)
others_end (item ∷ items) h =
    let read = item_is_read item (flat_map (λ i. comma ∷ item_text i) items) (map item_text items) h.0 (others_end items h.1) in
    (ap (λ r. [] ∷ r) read, ap (λ r. [] ∷ r) read)

pub joined_is_read : (item : Item) (items : List Item) → AllByRecursion IsGood (item ∷ items) → items_from Outside (joined (item ∷ items)) ≡ map item_text (item ∷ items)
joined_is_read item items h = item_is_read item (flat_map (λ i. comma ∷ item_text i) items) (map item_text items) h.0 (others_end items h.1)

pub item_key_read : (item : Item) → IsKey item.key → item_key (item_text item) ≡ Some item.key
item_key_read item h =
    rw (has_equals (key_text item.key) (flat_map part_text item.parts), before_equals (key_text item.key) (flat_map part_text item.parts) (keys_part_nothing item.key h))
    (found_key item.key h)

pub item_value_read : (item : Item) → IsKey item.key → AreParts item.parts → item_value (item_text item) ≡ Some (value_of item)
item_value_read item h parts =
    ap (λ t. value_from Outside t) (after_equals (key_text item.key) (flat_map part_text item.parts) (keys_part_nothing item.key h))
    ∙ (parts_read Outside item.parts [] [] parts tt (refl, refl)).0

-- Items behind others with these keys: no key twice, and none that the others exclude.
abbrev pub AreApart : List Key → List Item → Type 0
AreApart before [] = Unit {0}
AreApart before (item ∷ items) = (is_among item.key before ≡ false) × (is_excluded item.key before ≡ false) × AreApart (item.key ∷ before) items

pub good_items : (before : List Key) (items : List Item) → AllByRecursion IsGood items → AreApart before items → items_fault before (map item_text items) ≡ None
good_items before [] h apart = refl
good_items before (item ∷ items) h apart =
    rw (item_key_read item h.0.0, apart.0, apart.1, item_value_read item h.0.0 h.0.1, h.0.2) (good_items (item.key ∷ before) items h.1 apart.2)

-- What the absence of a fault says.
either_none : (a b : Option RuleFault) → option_or a b ≡ None → (a ≡ None) × (b ≡ None)
either_none None b h = (refl, h)
either_none (Some fault) b h = absurd cc

guarded_none : (test : Bool) (fault : RuleFault) (later : Option RuleFault) → cond test (Some fault) later ≡ None → (test ≡ false) × (later ≡ None)
guarded_none true fault later h = absurd cc
guarded_none false fault later h = (refl, h)

value_none : (key : Key) (o : Option Text) → value_fault key o ≡ None → (value : Text) × (o ≡ Some value) × (takes key value ≡ true)
value_none key None h = absurd cc
value_none key (Some value) h = (value, refl, kept (takes key value) h)
  where
    kept : (b : Bool) → cond b None (Some Value) ≡ None → b ≡ true
    kept true e = refl
    kept false e = absurd cc

pub key_none : (item : Text) (key : Key) → item_key item ≡ Some key → (list_any is_equals item ≡ true) × (found (before_first is_equals item) ≡ Some key)
key_none item key h = by (list_any is_equals item) (found (before_first is_equals item)) h
  where
    by : (b : Bool) (o : Option Key) → cond b o None ≡ Some key → (b ≡ true) × (o ≡ Some key)
    by true o e = (refl, e)
    by false o e = absurd cc

item_none :
    (before : List Key) (text : Text) (key : Key) → IsOneItem Outside text → item_key text ≡ Some key → item_fault before text (Some key) ≡ None →
    (item : Item) × (text ≡ item_text item) × (item.key ≡ key) × IsGood item × (is_among item.key before ≡ false) × (is_excluded item.key before ≡ false)
item_none before text key one named h =
    let first = guarded_none (is_among key before) Twice (cond (is_excluded key before) (Some Both) (value_fault key (item_value text))) h in
    let second = guarded_none (is_excluded key before) Both (value_fault key (item_value text)) first.1 in
    let value = value_none key (item_value text) second.1 in
    let there = key_none text key named in
    let word = key_found (before_first is_equals text) key there.1 in
    let whole : text ≡ key_text key ++ equals ∷ after_first is_equals text = at_equals text there.0 ∙ ap (λ w. w ++ equals ∷ after_first is_equals text) (sym word.0) in
    let quiet = key_part_is_quiet (key_text key) (equals ∷ after_first is_equals text) (keys_part_nothing key word.1) (subst (λ t. IsOneItem Outside t) whole one) in
    let parts : AreRead (after_first is_equals text) value.0 = value_read Outside (after_first is_equals text) value.0 quiet.1 value.1 in (
      record { key = key; parts = parts.0 },
      whole ∙ ap (λ t. key_text key ++ equals ∷ t) parts.2,
      refl,
      (word.1, parts.1, subst (λ v. takes key v ≡ true) parts.3 value.2),
      first.0,
      second.0,
    )

pub texts_read :
    (before : List Key) (texts : List Text) → AllByRecursion (IsOneItem Outside) texts → items_fault before texts ≡ None →
    (items : List Item) × (texts ≡ map item_text items) × AllByRecursion IsGood items × AreApart before items
texts_read before [] ones h = ([], refl, tt, tt)
texts_read before (text ∷ texts) ones h = by (λ key none. texts_read (key ∷ before) texts ones.1 none) (item_key text) refl h
  where
    by :
        ((key : Key) → items_fault (key ∷ before) texts ≡ None → (items : List Item) × (texts ≡ map item_text items) × AllByRecursion IsGood items × AreApart (key ∷ before) items) →
        (o : Option Key) → item_key text ≡ o → option_or (item_fault before text o) (items_fault (option_to_list o ++ before) texts) ≡ None →
        (items : List Item) × (text ∷ texts ≡ map item_text items) × AllByRecursion IsGood items × AreApart before items
    by read None named e = absurd cc
    by read (Some key) named e =
        let both = either_none (item_fault before text (Some key)) (items_fault (key ∷ before) texts) e in
        let item = item_none before text key ones.0 named both.0 in
        let rest = read key both.1 in (
          item.0 ∷ rest.0,
          ap (λ t. t ∷ texts) item.1 ∙ ap (λ ts. item_text item.0 ∷ ts) rest.1,
          (item.3, rest.2),
          (item.4, item.5, subst (λ k. AreApart (k ∷ before) rest.0) (sym item.2) rest.3),
        )
