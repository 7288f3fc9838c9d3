-- Who gets a message, and how often.
use Rattle.std.proofs.Common.{◌≡◌, Bool, true, false, not, ◌||◌, ◌==◌, List, [], ◌∷◌, ◌++◌, filter, if◌then◌else◌, refl, sym, ap, ◌∙◌}
use Rattle.std.proofs.lemmas.Bool.{true≢false, eqb-true, eq-eqb}
use Rattle.std.specs.List.{AllByRecursion as Each, IsDistinct, list_any}
use Rattle.seq_bus_core.specs.Steps.{is_among}
use Rattle.seq_bus_core.specs.declared.connection.Conn.{Conn}
use Rattle.outbox_core.specs.Deliveries.{is_same, EachGetsItOnce, NobodyElseGetsIt}

module _ {X : Type 0} where
  -- of those that are kept each passes the test
  each_kept : (Q P : X → Type 0) (p : X → Bool) → ((x : X) → p x ≡ true → Q x → P x) → (xs : List X) → Each Q xs → Each P (filter p xs)
  each_kept Q P p f [] h = tt
  each_kept Q P p f (x ∷ xs) h = by (p x) refl (each_kept Q P p f xs h.1)
    where
      by : (b : Bool) → p x ≡ b → Each P (filter p xs) → Each P (if b then x ∷ filter p xs else filter p xs)
      by true is rest = (f x is h.0, rest)
      by false is rest = rest

  each_of : (P : X → Type 0) → ((x : X) → P x) → (xs : List X) → Each P xs
  each_of P f [] = tt
  each_of P f (x ∷ xs) = (f x, each_of P f xs)

  each_both : (P : X → Type 0) (xs ys : List X) → Each P xs → Each P ys → Each P (xs ++ ys)
  each_both P [] ys f g = g
  each_both P (x ∷ xs) ys f g = (f.0, each_both P xs ys f.1 g)

  each_as : (Q P : X → Type 0) → ((x : X) → Q x → P x) → (xs : List X) → Each Q xs → Each P xs
  each_as Q P f [] h = tt
  each_as Q P f (x ∷ xs) h = (f x h.0, each_as Q P f xs h.1)

  distinct_if : (e : X → X → Bool) (x : X) (xs : List X) (b : Bool) → Each (λ y. e x y ≡ false) xs → IsDistinct e xs → IsDistinct e (if b then x ∷ xs else xs)
  unfolding IsDistinct
  distinct_if e x xs true apart rest = (apart, rest)
  distinct_if e x xs false apart rest = rest

  distinct_kept : (e : X → X → Bool) (p : X → Bool) (xs : List X) → IsDistinct e xs → IsDistinct e (filter p xs)
  unfolding IsDistinct
  distinct_kept e p [] h = tt
  distinct_kept e p (x ∷ xs) h =
      distinct_if e x (filter p xs) (p x) (each_kept (λ y. e x y ≡ false) (λ y. e x y ≡ false) p (λ y is was. was) xs h.0) (distinct_kept e p xs h.1)

  distinct_both : (e : X → X → Bool) (xs ys : List X) → IsDistinct e xs → IsDistinct e ys → Each (λ x. Each (λ y. e x y ≡ false) ys) xs → IsDistinct e (xs ++ ys)
  unfolding IsDistinct
  distinct_both e [] ys f g h = g
  distinct_both e (x ∷ xs) ys f g h = (each_both (λ y. e x y ≡ false) xs ys f.0 h.0, distinct_both e xs ys f.1 g h.1)

  none_passes : (p : X → Bool) (xs : List X) → list_any p xs ≡ false → Each (λ x. p x ≡ false) xs
  none_passes p [] is = tt
  none_passes p (x ∷ xs) is = by (p x) refl is (none_passes p xs)
    where
      by : (b : Bool) → p x ≡ b → (b || list_any p xs) ≡ false → (list_any p xs ≡ false → Each (λ y. p y ≡ false) xs) → (p x ≡ false) × Each (λ y. p y ≡ false) xs
      by true first any rest = absurd (true≢false any)
      by false first any rest = (first, rest any)

  any_both : (p : X → Bool) (xs ys : List X) → list_any p (xs ++ ys) ≡ (list_any p xs || list_any p ys)
  any_both p [] ys = refl
  any_both p (x ∷ xs) ys = by (p x) (any_both p xs ys)
    where
      by : (b : Bool) → list_any p (xs ++ ys) ≡ (list_any p xs || list_any p ys) → (b || list_any p (xs ++ ys)) ≡ ((b || list_any p xs) || list_any p ys)
      by true rest = refl
      by false rest = rest

is_none : (b : Bool) → not b ≡ true → b ≡ false
is_none true is = absurd (true≢false (sym is))
is_none false is = refl

either_way : (a b : Bool) → (a || b) ≡ (b || a)
either_way true true = refl
either_way true false = refl
either_way false true = refl
either_way false false = refl

other_way : (a b : Conn) → is_same a b ≡ false → is_same b a ≡ false
other_way a b apart = by (is_same b a) refl
  where
    by : (q : Bool) → is_same b a ≡ q → q ≡ false
    by true same = absurd (true≢false (sym (eq-eqb a.number b.number (sym (eqb-true b.number a.number same))) ∙ apart))
    by false same = refl

pub each_gets_it_once : EachGetsItOnce
each_gets_it_once to monitors once shown =
    let test : Conn → Bool = λ m. not (is_among to m) in
    let apart = each_kept (λ (m : Conn). Unit {0}) (λ m. Each (λ c. is_same m c ≡ false) to) test
    (λ m is was. each_as (λ c. is_same c m ≡ false) (λ c. is_same m c ≡ false) (λ c. other_way c m) to (none_passes (λ c. is_same c m) to (is_none (is_among to m) is))) monitors (each_of (λ (m : Conn). Unit {0}) (λ m. tt) monitors) in
    distinct_both is_same (filter test monitors) to (distinct_kept is_same test monitors shown) once apart

-- a monitor that is a recipient is found among those
found : (to monitors : List Conn) (conn : Conn) → (is_among to conn || is_among (filter (λ m. not (is_among to m)) monitors) conn) ≡ (is_among to conn || is_among monitors conn)
found to [] conn = refl
found to (m ∷ monitors) conn = by (is_among to m) (m.number == conn.number) refl refl (found to monitors conn)
  where
    left : List Conn
    left = filter (λ m. not (is_among to m)) monitors

    by : (t q : Bool) → is_among to m ≡ t → (m.number == conn.number) ≡ q →
        (is_among to conn || is_among left conn) ≡ (is_among to conn || is_among monitors conn) →
        (is_among to conn || is_among (if not t then m ∷ left else left) conn) ≡ (is_among to conn || (q || is_among monitors conn))
    by true true among same again =
        let one : is_among to conn ≡ true = ap (λ n. list_any (λ c. c.number == n) to) (sym (eqb-true m.number conn.number same)) ∙ among in
        ap (λ b. b || is_among left conn) one ∙ sym (ap (λ b. b || true) one)
    by true false among same again = again
    by false true among same again = ap (λ q. is_among to conn || (q || is_among left conn)) same
    by false false among same again = ap (λ q. is_among to conn || (q || is_among left conn)) same ∙ again

pub nobody_else_gets_it : NobodyElseGetsIt
nobody_else_gets_it to monitors conn =
    let shown = filter (λ m. not (is_among to m)) monitors in
    any_both (λ c. c.number == conn.number) shown to ∙ either_way (is_among shown conn) (is_among to conn) ∙ found to monitors conn
