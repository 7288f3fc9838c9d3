-- The heads of names.
use Rattle.std.proofs.Common.{◌≡◌, ℕ, ◌<◌, ◌^◌, ◌↔◌, ◌==◌, ◌&&◌, ◌||◌, not, Bool, true, false, cond, Option, Some, None, is_some, option_map, List, [], ◌∷◌, refl, sym, ap, ◌∙◌, subst, arith, if◌then◌else◌}
use Rattle.std.specs.List.{AllByRecursion as Each, find}
use Rattle.std.specs.Cmp.Lexicographic.{other_text}
use Rattle.std.proofs.lemmas.Bool.Decides.{nat_tests}
use Rattle.names.specs.Texts.{Text, text_eq}
use Rattle.names.specs.BusName.{bus_text, is_bus, is_unique}
use Rattle.names.specs.UniqueName.{unique_text}
use Rattle.owner_queues.specs.Queues.{queue_head}
use Rattle.seq_bus_core.specs.BusState.{BusState, Connection, is_client, is_monitor, client_named, head_of, queue_of}
use Rattle.seq_bus_core.specs.Steps.{with_connection}
use Rattle.seq_bus_core.proofs.TextLemmas.{text_eq-true}
use Rattle.registry.proofs.Lists.{find_push}

false_of : (b : Bool) → (b ≡ true → ⊥) → b ≡ false
false_of true h = absurd (h refl)
false_of false h = refl

pub is_other : (a b : Text) → (a ≡ b → ⊥) → text_eq a b ≡ false
is_other a b h = false_of (text_eq a b) (λ same. h (text_eq-true a b same))

pub is_itself : (a b : Text) → a ≡ b → text_eq a b ≡ true
is_itself a b same = by_test (text_eq a b) refl
  where
    by_test : (r : Bool) → r ≡ text_eq a b → text_eq a b ≡ true
    by_test true e = sym e
    by_test false e = absurd (other_text a b e same)

equal : (n m : ℕ) → (n == m) ≡ true → n ≡ m
equal n m e = grind (arith, nat_tests)

differ : (n m : ℕ) → (n == m) ≡ false → n ≡ m → ⊥
differ n m e same = grind (arith, nat_tests)

same_number : (m n : ℕ) → ◌≡◌ {A = Option ℕ} (Some m) (Some n) → m ≡ n
same_number m n e = cc

-- the one number to which the bus gives a name
pub named : (name : Text) (m n : ℕ) → ((k : ℕ) → k < 2 ^ 64 → (◌≡◌ {A = Option ℕ} (Some m) (Some k)) ↔ (name ≡ unique_text k)) → n < 2 ^ 64 → text_eq name (unique_text n) ≡ (n == m)
named name m n names fits = by_test (n == m) refl
  where
    by_test : (b : Bool) → (n == m) ≡ b → text_eq name (unique_text n) ≡ b
    by_test true e = is_itself name (unique_text n) ((names n fits).0 (ap (λ k. Some k) (sym (equal n m e))))
    by_test false e = is_other name (unique_text n) (λ is. differ n m e (sym (same_number m n ((names n fits).1 is))))

-- the client of a unique name is that of its number
pub client_of_number : (name : Text) (m : ℕ) (cs : List Connection) → Each (λ c. c.number < 2 ^ 64) cs →
    ((k : ℕ) → k < 2 ^ 64 → (◌≡◌ {A = Option ℕ} (Some m) (Some k)) ↔ (name ≡ unique_text k)) →
    client_named cs name ≡ (if is_client cs m then Some m else None)
client_of_number name m [] given names = refl
client_of_number name m (c ∷ cs) given names =
    ap (λ b. option_map number_of (cond (not (is_monitor c) && b) (Some c) (find test cs))) (named name m c.number names given.0)
    ∙ by_test (c.number == m) (is_monitor c) refl (client_of_number name m cs given.1 names)
  where
    number_of : Connection → ℕ
    number_of d = d.number

    test : Connection → Bool
    test d = not (is_monitor d) && text_eq name (unique_text d.number)

    by_test : (b monitor : Bool) → (c.number == m) ≡ b → option_map number_of (find test cs) ≡ (if is_client cs m then Some m else None) →
        option_map number_of (cond (not monitor && b) (Some c) (find test cs)) ≡ (if (b && not monitor) || is_client cs m then Some m else None)
    by_test true true e others = others
    by_test true false e others = ap (λ n. Some n) (equal c.number m e)
    by_test false true e others = others
    by_test false false e others = others

never : (n : ℕ) → ◌≡◌ {A = Option ℕ} None (Some n) → ⊥
never n e = cc

pub no_client_of_name : (name : Text) (cs : List Connection) → Each (λ c. c.number < 2 ^ 64) cs →
    ((k : ℕ) → k < 2 ^ 64 → (◌≡◌ {A = Option ℕ} None (Some k)) ↔ (name ≡ unique_text k)) →
    ◌≡◌ {A = Option ℕ} (client_named cs name) None
no_client_of_name name [] given names = refl
no_client_of_name name (c ∷ cs) given names =
    let other : text_eq name (unique_text c.number) ≡ false = is_other name (unique_text c.number) (λ is. never c.number ((names c.number given.0).1 is)) in
    ap (λ b. option_map number_of (cond (not (is_monitor c) && b) (Some c) (find test cs))) other ∙ by_monitor (is_monitor c) (no_client_of_name name cs given.1 names)
  where
    number_of : Connection → ℕ
    number_of d = d.number

    test : Connection → Bool
    test d = not (is_monitor d) && text_eq name (unique_text d.number)

    by_monitor : (monitor : Bool) → ◌≡◌ {A = Option ℕ} (option_map number_of (find test cs)) None →
        ◌≡◌ {A = Option ℕ} (option_map number_of (cond (not monitor && false) (Some c) (find test cs))) None
    by_monitor true others = others
    by_monitor false others = others

-- a unique name is not the bus's
pub unique_not_bus : (name : Text) → is_unique name ≡ true → is_bus name ≡ false
unique_not_bus name h = is_other name bus_text (λ same. no_colon (subst (λ t. is_unique t ≡ true) same h))
  where
    no_colon : is_unique bus_text ≡ true → ⊥
    no_colon e = cc

pub head_of_unique : (s : BusState) (name : Text) → is_unique name ≡ true → head_of s name ≡ client_named s.connections name
head_of_unique s name h = rw (unique_not_bus name h, h) refl

pub head_of_other : (s : BusState) (name : Text) → is_unique name ≡ false → head_of s name ≡ (if is_bus name then None else queue_head (queue_of s.names name))
head_of_other s name h = rw h refl

-- ## A connection that has said Hello

abbrev pub head_or : Option ℕ → Option ℕ → Option ℕ
head_or None other = other
head_or (Some n) other = Some n

-- the head of a name once a connection is there
pub head_joined : (s : BusState) (c : Connection) (name : Text) → is_monitor c ≡ false →
    head_of (with_connection s c) name ≡ head_or (head_of s name) (if text_eq name (unique_text c.number) then Some c.number else None)
head_joined s c name client = by_kind (is_unique name) refl
  where
    not_its : is_unique name ≡ false → text_eq name (unique_text c.number) ≡ false
    not_its h = is_other name (unique_text c.number) (λ same. no_colon (sym h ∙ ap is_unique same))
      where
        no_colon : false ≡ true → ⊥
        no_colon e = cc

    test : Connection → Bool
    test d = not (is_monitor d) && text_eq name (unique_text d.number)

    number_of : Connection → ℕ
    number_of d = d.number

    pushed : (o : Option Connection) (b : Bool) → option_map number_of (if is_some o then o else if b then Some c else None) ≡ head_or (option_map number_of o) (if b then Some c.number else None)
    pushed None true = refl
    pushed None false = refl
    pushed (Some d) b = refl

    own : (b monitor : Bool) → monitor ≡ false → (not monitor && b) ≡ b
    own b true e = cc
    own b false e = refl

    none_more : (o : Option ℕ) → o ≡ head_or o None
    none_more None = refl
    none_more (Some n) = refl

    by_kind : (u : Bool) → is_unique name ≡ u → head_of (with_connection s c) name ≡ head_or (head_of s name) (if text_eq name (unique_text c.number) then Some c.number else None)
    by_kind true e =
        head_of_unique (with_connection s c) name e ∙ ap (option_map number_of) (find_push test s.connections c)
        ∙ ap (λ b. option_map number_of (if is_some (find test s.connections) then find test s.connections else if b then Some c else None)) (own (text_eq name (unique_text c.number)) (is_monitor c) client)
        ∙ pushed (find test s.connections) (text_eq name (unique_text c.number))
        ∙ ap (λ o. head_or o (if text_eq name (unique_text c.number) then Some c.number else None)) (sym (head_of_unique s name e))
    by_kind false e =
        head_of_other (with_connection s c) name e ∙ sym (head_of_other s name e) ∙ none_more (head_of s name)
        ∙ ap (λ b. head_or (head_of s name) (if b then Some c.number else None)) (sym (not_its e))

-- ## The head of a name, by the number that it stands for

pub head_client : (s : BusState) (name : Text) (m : ℕ) → is_unique name ≡ true → Each (λ c. c.number < 2 ^ 64) s.connections →
    ((k : ℕ) → k < 2 ^ 64 → (◌≡◌ {A = Option ℕ} (Some m) (Some k)) ↔ (name ≡ unique_text k)) →
    head_of s name ≡ (if is_client s.connections m then Some m else None)
head_client s name m unique given names = head_of_unique s name unique ∙ client_of_number name m s.connections given names

pub head_nobody : (s : BusState) (name : Text) → is_unique name ≡ true → Each (λ c. c.number < 2 ^ 64) s.connections →
    ((k : ℕ) → k < 2 ^ 64 → (◌≡◌ {A = Option ℕ} None (Some k)) ↔ (name ≡ unique_text k)) → ◌≡◌ {A = Option ℕ} (head_of s name) None
head_nobody s name unique given names = head_of_unique s name unique ∙ no_client_of_name name s.connections given names
