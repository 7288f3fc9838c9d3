-- Leaves that are gathered.
use Rattle.std.proofs.Common.{◌≡◌, ℕ, suc, ◌+◌, ◌-◌, ◌<◌, ◌≤◌, ◌==◌, Bool, true, false, List, [], ◌∷◌, ◌++◌, length, get_or, take, drop, if◌then◌else◌, refl, sym, ap, ◌∙◌, subst, arith, length-drop}
use Rattle.std.proofs.lemmas.List.{drop_more, take_more, get_or-drop, length-take-le}
use Rattle.std.proofs.lemmas.Bool.Decides.{nat_tests}
use Rattle.seq_bus_core.specs.Batches.{max_batch, outcomes_of}
use Rattle.seq_bus_core.specs.Histories.{History}
use Rattle.seq_bus_core.specs.Tickets.{WholeBus, bus_step}
use Rattle.seq_bus_core.specs.declared.change.Change.{Change}
use Rattle.router_core.specs.Deeds.{GatedCall}
use Rattle.router_core.specs.Events.{leaving_by, leaving_if, leaving_together}
use Rattle.router_core.specs.Scripts.{World, Comes, and_then}
use Rattle.router_core.specs.Standing.{Standing}
use Rattle.router_steps.specs.Parts.{part}
use Rattle.router_steps.proofs.Sequels.{comes_then}

-- so many
pub length_part : (numbers : List ℕ) (start place : ℕ) → start ≤ place → place < length numbers → length (part numbers start place) ≡ place - start
length_part numbers start place within there =
    let inside : place - start ≤ length (drop start numbers) = omega (arith, length-drop start numbers) in
    length-take-le (place - start) (drop start numbers) inside

less_than_all : (n : ℕ) → n < max_batch → (n == max_batch) ≡ false
less_than_all n few = grind (arith, nat_tests)

just_all : (n : ℕ) → n ≡ max_batch → (n == max_batch) ≡ true
just_all n all = grind (arith, nat_tests)

pub few_yet : (numbers : List ℕ) (start place : ℕ) → start ≤ place → place < length numbers → place - start < max_batch → (length (part numbers start place) == max_batch) ≡ false
few_yet numbers start place within there few = let long = length_part numbers start place within there in less_than_all (length (part numbers start place)) (omega arith)

pub full_now : (numbers : List ℕ) (start place : ℕ) → start ≤ place → place < length numbers → max_batch ≤ place - start → place ≤ start + max_batch → (length (part numbers start place) == max_batch) ≡ true
full_now numbers start place within there many few = let long = length_part numbers start place within there in just_all (length (part numbers start place)) (omega arith)

-- Each change is told something.
pub as_many : (b : WholeBus) (seat : ℕ) (changes : List Change) → length (outcomes_of b seat changes) ≡ length changes
as_many b seat [] = refl
as_many b seat (change ∷ changes) = ap suc (as_many (bus_step b seat change).0 seat changes)

-- one more
pub part_more : (numbers : List ℕ) (start place : ℕ) → start ≤ place → place < length numbers → part numbers start (place + 1) ≡ part numbers start place ++ get_or numbers place 0 ∷ []
part_more numbers start place within there =
    let longer : place + 1 - start ≡ (place - start) + 1 = omega arith in
    let same : start + (place - start) ≡ place = omega arith in
    let inside : place - start < length (drop start numbers) = omega (arith, length-drop start numbers) in
    ap (λ n. take n (drop start numbers)) longer
    ∙ take_more (drop start numbers) (place - start) 0 inside
    ∙ ap (λ x. part numbers start place ++ x ∷ []) (get_or-drop start numbers (place - start) 0 ∙ ap (λ n. get_or numbers n 0) same)

-- the first
pub part_first : (numbers : List ℕ) (place : ℕ) → place < length numbers → part numbers place (place + 1) ≡ get_or numbers place 0 ∷ []
part_first numbers place there =
    let same : place ≤ place = omega arith in
    let none : place - place ≡ 0 = omega arith in
    part_more numbers place place same there ∙ ap (λ n. take n (drop place numbers) ++ get_or numbers place 0 ∷ []) none

module _ {N G : Type 0} (told : N → History) (registry_of : N → ℕ) (passes : G → GatedCall → G → Type 0) (alone : Bool) (end : Standing) (v : World N G) (numbers : List ℕ) (start place : ℕ) (there : place < length numbers) (within : start ≤ place) where
  -- they are not as many yet as may be
  pub gathers_more : (s : Standing) (w : World N G) → (length (part numbers start place) == max_batch) ≡ false →
      Comes told registry_of passes alone (leaving_by (part numbers start (place + 1)) (drop (place + 1) numbers) s) w end v → Comes told registry_of passes alone (leaving_by (part numbers start place) (drop place numbers) s) w end v
  gathers_more s w few later =
      let next : ℕ = get_or numbers place 0 in
      let rest : List ℕ = drop (place + 1) numbers in
      let here = subst (λ ns. Comes told registry_of passes alone (leaving_by ns rest s) w end v) (part_more numbers start place within there) later in
      subst (λ ns. Comes told registry_of passes alone (leaving_by (part numbers start place) ns s) w end v) (sym (drop_more numbers place 0 there))
      (subst (λ b. Comes told registry_of passes alone
      (if b then and_then (leaving_together s (part numbers start place)) (λ t. leaving_by (next ∷ []) rest t) else leaving_by (part numbers start place ++ next ∷ []) rest s) w end v) (sym few) here)

  -- they are, and are made together
  pub gathers_anew : (before after : Standing) (w m : World N G) → (length (part numbers start place) == max_batch) ≡ true → Comes told registry_of passes alone (leaving_together before (part numbers start place)) w after m →
      Comes told registry_of passes alone (leaving_by (part numbers place (place + 1)) (drop (place + 1) numbers) after) m end v → Comes told registry_of passes alone (leaving_by (part numbers start place) (drop place numbers) before) w end v
  gathers_anew before after w m full made later =
      let next : ℕ = get_or numbers place 0 in
      let rest : List ℕ = drop (place + 1) numbers in
      let here = subst (λ ns. Comes told registry_of passes alone (leaving_by ns rest after) m end v) (part_first numbers place there) later in
      let both = comes_then told registry_of passes alone (λ t. leaving_by (next ∷ []) rest t) after m end v here (leaving_together before (part numbers start place)) w made in
      subst (λ ns. Comes told registry_of passes alone (leaving_by (part numbers start place) ns before) w end v) (sym (drop_more numbers place 0 there))
      (subst (λ b. Comes told registry_of passes alone
      (if b then and_then (leaving_together before (part numbers start place)) (λ t. leaving_by (next ∷ []) rest t) else leaving_by (part numbers start place ++ next ∷ []) rest before) w end v) (sym full) both)

-- what is wanted for several, if there are any
pub together_wants : {N G : Type 0} (told : N → History) (registry_of : N → ℕ) (passes : G → GatedCall → G → Type 0) (alone : Bool) (s end : Standing) (w v : World N G) (numbers : List ℕ) (granted : Bool) → (length numbers ≡ 0 → ⊥) →
    Comes told registry_of passes alone (leaving_if s numbers granted) w end v → Comes told registry_of passes alone (leaving_together s numbers) w end v
together_wants told registry_of passes alone s end w v [] granted some h = absurd (some refl)
together_wants told registry_of passes alone s end w v (number ∷ numbers) granted some h = (granted, h)
