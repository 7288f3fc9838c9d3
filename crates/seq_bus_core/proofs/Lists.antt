-- Lists each of whose elements, or each pair of whose elements, has a property.
use Rattle.std.proofs.Common.{◌≡◌, Bool, true, false, Some, None, List, [], ◌∷◌, ◌++◌, map, refl, sym, ap, ◌∙◌, subst, inl, inr}
use Rattle.std.specs.List.{AllByRecursion as Each, filter, list_all, list_any, find}
use Rattle.std.proofs.lemmas.Bool.{cond_both, true≢false, or_from, or_parts, or_left, or_right, or_cases, and_parts, and_from}
pub use Rattle.match_rules.proofs.Lists.{each_weaker}
use Rattle.seq_bus_core.specs.Consistency.{Pairwise}

pub each_both : {X : Type 0} (P Q S : X → Type 0) → ((x : X) → P x → Q x → S x) → (xs : List X) → Each P xs → Each Q xs → Each S xs
each_both P Q S both [] h k = tt
each_both P Q S both (x ∷ xs) h k = (both x h.0 k.0, each_both P Q S both xs h.1 k.1)

pub each_append : {X : Type 0} (P : X → Type 0) (xs ys : List X) → Each P xs → Each P ys → Each P (xs ++ ys)
each_append P [] ys h k = k
each_append P (x ∷ xs) ys h k = (h.0, each_append P xs ys h.1 k)

pub each_push : {X : Type 0} (P : X → Type 0) (xs : List X) (y : X) → Each P xs → P y → Each P (xs ++ y ∷ [])
each_push P xs y h k = each_append P xs (y ∷ []) h (k, tt)

pub each_filter : {X : Type 0} (P : X → Type 0) (test : X → Bool) (xs : List X) → Each P xs → Each P (filter test xs)
each_filter P test [] h = tt
each_filter P test (x ∷ xs) h = cond_both (test x) (x ∷ filter test xs) (filter test xs) (Each P) (λ _. (h.0, each_filter P test xs h.1)) (λ _. each_filter P test xs h.1)

-- what holds of those that pass the test
pub each_passing : {X : Type 0} (P Q : X → Type 0) (test : X → Bool) → ((x : X) → P x → test x ≡ true → Q x) → (xs : List X) → Each P xs → Each Q (filter test xs)
each_passing P Q test gives [] h = tt
each_passing P Q test gives (x ∷ xs) h = cond_both (test x) (x ∷ filter test xs) (filter test xs) (Each Q) (λ passes. (gives x h.0 passes, each_passing P Q test gives xs h.1)) (λ _. each_passing P Q test gives xs h.1)

pub each_map : {X Y : Type 0} (P : X → Type 0) (Q : Y → Type 0) (f : X → Y) → ((x : X) → P x → Q (f x)) → (xs : List X) → Each P xs → Each Q (map f xs)
each_map P Q f gives [] h = tt
each_map P Q f gives (x ∷ xs) h = (gives x h.0, each_map P Q f gives xs h.1)

pub each_always : {X : Type 0} (P : X → Type 0) → ((x : X) → P x) → (xs : List X) → Each P xs
each_always P always [] = tt
each_always P always (x ∷ xs) = (always x, each_always P always xs)

pub pairs_filter : {X : Type 0} (R : X → X → Type 0) (test : X → Bool) (xs : List X) → Pairwise R xs → Pairwise R (filter test xs)
pairs_filter R test [] h = tt
pairs_filter R test (x ∷ xs) h = cond_both (test x) (x ∷ filter test xs) (filter test xs) (Pairwise R) (λ _. (each_filter (R x) test xs h.0, pairs_filter R test xs h.1)) (λ _. pairs_filter R test xs h.1)

pub pairs_append : {X : Type 0} (R : X → X → Type 0) (xs ys : List X) → Pairwise R xs → Pairwise R ys → Each (λ x. Each (R x) ys) xs → Pairwise R (xs ++ ys)
pairs_append R [] ys h k across = k
pairs_append R (x ∷ xs) ys h k across = (each_append (R x) xs ys h.0 across.0, pairs_append R xs ys h.1 k across.1)

pub pairs_push : {X : Type 0} (R : X → X → Type 0) (xs : List X) (y : X) → Pairwise R xs → Each (λ x. R x y) xs → Pairwise R (xs ++ y ∷ [])
pairs_push R xs y h across = pairs_append R xs (y ∷ []) h (tt, tt) (each_weaker (λ x. R x y) (λ x. Each (R x) (y ∷ [])) (λ x r. (r, tt)) xs across)

pub pairs_map : {X Y : Type 0} (R : X → X → Type 0) (S : Y → Y → Type 0) (f : X → Y) → ((a b : X) → R a b → S (f a) (f b)) → (xs : List X) → Pairwise R xs → Pairwise S (map f xs)
pairs_map R S f gives [] h = tt
pairs_map R S f gives (x ∷ xs) h = (each_map (R x) (S (f x)) f (λ y r. gives x y r) xs h.0, pairs_map R S f gives xs h.1)

-- an element that a search finds passes its test
pub find_passes : {X : Type 0} (test : X → Bool) (xs : List X) (x : X) → find test xs ≡ Some x → test x ≡ true
find_passes test [] x e = cc
find_passes test (y ∷ ys) x e = cond_both (test y) (Some y) (find test ys) (λ o. o ≡ Some x → test x ≡ true) (λ passes found. let same : y ≡ x = cc in ap test (sym same) ∙ passes) (λ _ found. find_passes test ys x found) e

-- and so some element does
pub find_any : {X : Type 0} (test : X → Bool) (xs : List X) (x : X) → find test xs ≡ Some x → list_any test xs ≡ true
find_any test [] x e = cc
find_any test (y ∷ ys) x e = cond_both (test y) (Some y) (find test ys) (λ o. o ≡ Some x → list_any test (y ∷ ys) ≡ true) (λ passes found. or_left (test y) (list_any test ys) passes) (λ _ found. or_right (test y) (list_any test ys) (find_any test ys x found)) e

-- nothing passes the test of a search that finds nothing
pub find_none : {X : Type 0} (test : X → Bool) (xs : List X) → find test xs ≡ None → Each (λ x. test x ≡ false) xs
find_none test [] e = tt
find_none test (y ∷ ys) e =
    cond_both (test y) (Some y) (find test ys) (λ o. o ≡ None → Each (λ x. test x ≡ false) (y ∷ ys)) (λ _ found. absurd cc) (λ fails found. (fails, find_none test ys found)) e

-- a test that some element passes is passed by some element of a list with more of them
pub any_passing : {X : Type 0} (test keep : X → Bool) → ((x : X) → test x ≡ true → keep x ≡ true) → (xs : List X) → list_any test xs ≡ true → list_any test (filter keep xs) ≡ true
any_passing test keep keeps [] h = h
any_passing test keep keeps (x ∷ xs) h =
    cond_both (keep x) (x ∷ filter keep xs) (filter keep xs) (λ ys. list_any test ys ≡ true)
    (λ _. elim (or_cases (test x) (list_any test xs) h) [ inl passes ↦ or_left (test x) _ passes | inr later ↦ or_right (test x) _ (any_passing test keep keeps xs later) ])
    (λ drops. elim (or_cases (test x) (list_any test xs) h) [ inl passes ↦ absurd (true≢false (sym (keeps x passes) ∙ drops)) | inr later ↦ any_passing test keep keeps xs later ])

pub any_append : {X : Type 0} (test : X → Bool) (xs ys : List X) → list_any test xs ≡ true → list_any test (xs ++ ys) ≡ true
any_append test [] ys h = absurd (true≢false (sym h))
any_append test (x ∷ xs) ys h = elim (or_cases (test x) (list_any test xs) h) [ inl passes ↦ or_left (test x) _ passes | inr later ↦ or_right (test x) _ (any_append test xs ys later) ]

pub any_map : {X Y : Type 0} (test : X → Bool) (other : Y → Bool) (f : X → Y) → ((x : X) → test x ≡ true → other (f x) ≡ true) → (xs : List X) → list_any test xs ≡ true → list_any other (map f xs) ≡ true
any_map test other f gives [] h = absurd (true≢false (sym h))
any_map test other f gives (x ∷ xs) h = elim (or_cases (test x) (list_any test xs) h) [ inl passes ↦ or_left (other (f x)) _ (gives x passes) | inr later ↦ or_right (other (f x)) _ (any_map test other f gives xs later) ]

pub all_weaker : {X : Type 0} (test other : X → Bool) → ((x : X) → test x ≡ true → other x ≡ true) → (xs : List X) → list_all test xs ≡ true → list_all other xs ≡ true
all_weaker test other weaker [] h = refl
all_weaker test other weaker (x ∷ xs) h =
    let parts : (test x ≡ true) × (list_all test xs ≡ true) = and_parts (test x) (list_all test xs) h in
    and_from (other x) (list_all other xs) (weaker x parts.0) (all_weaker test other weaker xs parts.1)

-- what holds of those that pass a test
pub all_passing : {X : Type 0} (test other keep : X → Bool) → ((x : X) → test x ≡ true → keep x ≡ true → other x ≡ true) → (xs : List X) → list_all test xs ≡ true → list_all other (filter keep xs) ≡ true
all_passing test other keep gives [] h = refl
all_passing test other keep gives (x ∷ xs) h =
    let parts : (test x ≡ true) × (list_all test xs ≡ true) = and_parts (test x) (list_all test xs) h in
    cond_both (keep x) (x ∷ filter keep xs) (filter keep xs) (λ ys. list_all other ys ≡ true)
    (λ keeps. and_from (other x) (list_all other (filter keep xs)) (gives x parts.0 keeps) (all_passing test other keep gives xs parts.1))
    (λ _. all_passing test other keep gives xs parts.1)

-- no element passes a test that none passes
pub any_none : {X : Type 0} (test : X → Bool) (xs : List X) → list_any test xs ≡ false → Each (λ x. test x ≡ false) xs
any_none test [] h = tt
any_none test (x ∷ xs) h =
    let parts : (test x ≡ false) × (list_any test xs ≡ false) = or_parts (test x) (list_any test xs) h in
    (parts.0, any_none test xs parts.1)

pub none_any : {X : Type 0} (test : X → Bool) (xs : List X) → Each (λ x. test x ≡ false) xs → list_any test xs ≡ false
none_any test [] h = refl
none_any test (x ∷ xs) h = or_from (test x) (list_any test xs) h.0 (none_any test xs h.1)

-- an element that passes a test, of a list each of whose elements has a property
pub any_having : {X : Type 0} (P : X → Type 0) (test : X → Bool) (Q : Type 0) → ((x : X) → test x ≡ true → P x → Q) → (xs : List X) → list_any test xs ≡ true → Each P xs → Q
any_having P test Q gives [] any h = absurd (true≢false (sym any))
any_having P test Q gives (x ∷ xs) any h = elim (or_cases (test x) (list_any test xs) any) [ inl passes ↦ gives x passes h.0 | inr later ↦ any_having P test Q gives xs later h.1 ]

-- an element that a search finds is there for another test, if it passes that too
pub found_any : {X : Type 0} (test other : X → Bool) (xs : List X) (x : X) → find test xs ≡ Some x → other x ≡ true → list_any other xs ≡ true
found_any test other [] x e passes = cc
found_any test other (y ∷ ys) x e passes =
    cond_both (test y) (Some y) (find test ys) (λ o. o ≡ Some x → list_any other (y ∷ ys) ≡ true)
    (λ _ found. let same : y ≡ x = cc in or_left (other y) (list_any other ys) (ap other same ∙ passes)) (λ _ found. or_right (other y) (list_any other ys) (found_any test other ys x found passes)) e

-- what holds of each element holds of one that a search finds
pub found_having : {X : Type 0} (P : X → Type 0) (test : X → Bool) (xs : List X) (x : X) → find test xs ≡ Some x → Each P xs → P x
found_having P test [] x e h = cc
found_having P test (y ∷ ys) x e h = cond_both (test y) (Some y) (find test ys) (λ o. o ≡ Some x → P x) (λ _ found. let same : y ≡ x = cc in subst P same h.0) (λ _ found. found_having P test ys x found h.1) e

-- a pair of which each element has a property
pub pairs_with : {X : Type 0} (P : X → Type 0) (R S : X → X → Type 0) → ((a b : X) → P a → P b → R a b → S a b) → (xs : List X) → Each P xs → Pairwise R xs → Pairwise S xs
pairs_with P R S gives [] h pairs = tt
pairs_with P R S gives (x ∷ xs) h pairs = (each_both P (R x) (S x) (λ y p r. gives x y h.0 p r) xs h.1 pairs.0, pairs_with P R S gives xs h.1 pairs.1)

pub pairs_both : {X : Type 0} (R S : X → X → Type 0) (xs : List X) → Pairwise R xs → Pairwise S xs → Pairwise (λ a b. R a b × S a b) xs
pairs_both R S [] h k = tt
pairs_both R S (x ∷ xs) h k = (each_both (R x) (S x) (λ y. R x y × S x y) (λ y r s. (r, s)) xs h.0 k.0, pairs_both R S xs h.1 k.1)

pub each_swap : {X Y : Type 0} (R : X → Y → Type 0) (xs : List X) (ys : List Y) → Each (λ x. Each (R x) ys) xs → Each (λ y. Each (λ x. R x y) xs) ys
each_swap R xs [] h = tt
each_swap R xs (y ∷ ys) h = (each_weaker (λ x. Each (R x) (y ∷ ys)) (λ x. R x y) (λ x r. r.0) xs h, each_swap R xs ys (each_weaker (λ x. Each (R x) (y ∷ ys)) (λ x. Each (R x) ys) (λ x r. r.1) xs h))

pub any_append_right : {X : Type 0} (test : X → Bool) (xs ys : List X) → list_any test ys ≡ true → list_any test (xs ++ ys) ≡ true
any_append_right test [] ys h = h
any_append_right test (x ∷ xs) ys h = or_right (test x) (list_any test (xs ++ ys)) (any_append_right test xs ys h)

-- a search for what some element passes finds one
pub any_finds : {X : Type 0} (test : X → Bool) (xs : List X) → list_any test xs ≡ true → (x : X) × (find test xs ≡ Some x)
any_finds test [] h = absurd (true≢false (sym h))
any_finds {X} test (x ∷ xs) h =
    cond_both (test x) (Some x) (find test xs) (λ o. (y : X) × (o ≡ Some y)) (λ _. (x, refl))
    (λ fails. elim (or_cases (test x) (list_any test xs) h) [ inl passes ↦ absurd (true≢false (sym passes ∙ fails)) | inr later ↦ any_finds test xs later ])
