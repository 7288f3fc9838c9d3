-- Where a line stands.
use Rattle.std.proofs.Common.{◌≡◌, ℕ, ◌<◌, ◌≤◌, Bool, true, false, Option, Some, None, List, [], ◌∷◌, refl, sym, subst, arith}
use Rattle.std.specs.Prelude.{◌||◌, ◌&&◌, ◌==◌, nat_le, IfSome, codes, option_map, if◌then◌else◌}
use Rattle.std.specs.Option.{option_and_then}
use Rattle.std.proofs.lemmas.Bool.{and_parts, cond_both, or_parts}
use Rattle.std.proofs.lemmas.Bool.Decides.{nat_tests}
use Rattle.names.specs.Texts.{Text, text_eq}
use Rattle.match_rules.specs.Facts.{Facts}
use Rattle.seq_bus_core.specs.declared.change.Change.{Change}
use Rattle.seq_bus_core.specs.declared.query.Query.{Query}
use Rattle.trace_words.specs.Words.{space, parts, number_of}
use Rattle.seq_bus_core.specs.Histories.{max_routers}
use Rattle.seq_bus_core.specs.declared.limits.TheConstants.{MAX_ROUTERS}
use Rattle.trace_lines.specs.Heads.{routers_from, routers_of, routers_within}
use Rattle.trace_words.specs.Changes.{change_from}
use Rattle.trace_words.specs.Queries.{query_from}
use Rattle.trace_words.specs.Routes.{route_from}
use Rattle.trace_words.specs.Recorded.{is_outcome, is_verdict}
use Rattle.trace_lines.specs.Lines.{Line, Made, Asked, Routed, line, recorded_where, is_answer_alone, change_line, change_line_from, query_line_from, route_line_from, line_of_kind, seat_of, line_from, line_of}
use Rattle.trace_check_core.specs.KeptLines.{IsSeated}
use Rattle.trace_check_core.specs.Legality.{is_change}

-- ## What holds of all that may be read

and_then_all : {A B : Type 0} (Q : A → Type 0) (P : B → Type 0) (f : A → Option B) (o : Option A) → IfSome o Q → ((x : A) → Q x → IfSome (f x) P) → IfSome (option_and_then f o) P
and_then_all Q P f None q h = tt
and_then_all Q P f (Some x) q h = h x q

and_then_any : {A B : Type 0} (P : B → Type 0) (f : A → Option B) (o : Option A) → ((x : A) → IfSome (f x) P) → IfSome (option_and_then f o) P
and_then_any P f None h = tt
and_then_any P f (Some x) h = h x

map_any : {A B : Type 0} (P : B → Type 0) (f : A → B) (o : Option A) → ((x : A) → P (f x)) → IfSome (option_map f o) P
map_any P f None h = tt
map_any P f (Some x) h = h x

if_any : {A : Type 0} (P : A → Type 0) (test : Bool) (x y : Option A) → IfSome x P → IfSome y P → IfSome (if test then x else y) P
if_any P true x y p q = p
if_any P false x y p q = q

-- ## Lines of each kind

-- a line has this seat, and a change a place of its own
pub record Stands (seat : ℕ) (l : Line) : Type 0 where
  pub there : l.seat ≡ seat
  pub placed : is_change l ≡ true → 0 < l.place

above_none : (place number : ℕ) → ((place == 0) || (number == 0)) ≡ false → 0 < place
above_none place number e = let parts = or_parts (place == 0) (number == 0) e in grind (arith, nat_tests, parts.0)

change_stands : (place seat number : ℕ) (read : Change × List Text) → IfSome (change_line place seat number read) (Stands seat)
change_stands place seat number read =
    cond_both ((place == 0) || (number == 0)) None (option_map (line place seat (Made number read.0)) (recorded_where (is_outcome read.0) read.1)) (λ o. IfSome o (Stands seat)) (λ _. tt)
    (λ e. map_any (Stands seat) (line place seat (Made number read.0)) (recorded_where (is_outcome read.0) read.1) (λ r. record { there = refl; placed = λ _. above_none place number e }))

change_from_stands : (place seat : ℕ) (words : List Text) → IfSome (change_line_from place seat words) (Stands seat)
change_from_stands place seat [] = tt
change_from_stands place seat (number ∷ words) =
    and_then_any (Stands seat) (λ n. option_and_then (change_line place seat n) (change_from words)) (number_of number)
    (λ n. and_then_any (Stands seat) (change_line place seat n) (change_from words) (λ read. change_stands place seat n read))

query_stands : (place seat : ℕ) (words : List Text) → IfSome (query_line_from place seat words) (Stands seat)
query_stands place seat words =
    and_then_any (Stands seat) (λ (read : Query × List Text). option_map (line place seat (Asked read.0)) (recorded_where (is_answer_alone read.0) read.1)) (query_from words)
    (λ read. map_any (Stands seat) (line place seat (Asked read.0)) (recorded_where (is_answer_alone read.0) read.1) (λ r. record { there = refl; placed = λ e. absurd (cc e) }))

route_stands : (place seat : ℕ) (words : List Text) → IfSome (route_line_from place seat words) (Stands seat)
route_stands place seat words =
    and_then_any (Stands seat) (λ (read : Facts × List Text). option_map (line place seat (Routed read.0)) (recorded_where is_verdict read.1)) (route_from words)
    (λ read. map_any (Stands seat) (line place seat (Routed read.0)) (recorded_where is_verdict read.1) (λ r. record { there = refl; placed = λ e. absurd (cc e) }))

kind_stands : (kind : Text) (place seat : ℕ) (words : List Text) → IfSome (line_of_kind kind place seat words) (Stands seat)
kind_stands kind place seat words =
    if_any (Stands seat) (text_eq kind (codes "c")) _ _ (change_from_stands place seat words)
    (if_any (Stands seat) (text_eq kind (codes "q")) _ _ (query_stands place seat words)
    (if_any (Stands seat) (text_eq kind (codes "m")) _ _ (route_stands place seat words) tt))

-- ## Lines of a bus with so many routers

seat_within : (routers : ℕ) (word : Text) → IfSome (seat_of routers word) (λ seat. seat ≤ routers)
seat_within routers word =
    and_then_any (λ seat. seat ≤ routers) (λ seat. if nat_le seat routers then Some seat else None) (number_of word)
    (λ seat. cond_both (nat_le seat routers) (Some seat) None (λ o. IfSome o (λ seat. seat ≤ routers)) (λ e. grind (arith, nat_tests, e)) (λ _. tt))

seated : (routers seat : ℕ) (l : Line) → seat ≤ routers → Stands seat l → IsSeated routers l
seated routers seat l within stands = record { seated = subst (λ s. s ≤ routers) (sym stands.there) within; placed = stands.placed }

if_seated : (routers seat : ℕ) (o : Option Line) → seat ≤ routers → IfSome o (Stands seat) → IfSome o (IsSeated routers)
if_seated routers seat None within stands = tt
if_seated routers seat (Some l) within stands = seated routers seat l within stands

all_seated : (routers : ℕ) (words : List Text) → IfSome (line_from routers words) (IsSeated routers)
all_seated routers [] = tt
all_seated routers (kind ∷ []) = tt
all_seated routers (kind ∷ place ∷ []) = tt
all_seated routers (kind ∷ place ∷ seat ∷ words) =
    and_then_any (IsSeated routers) (λ p. option_and_then (λ s. line_of_kind kind p s words) (seat_of routers seat)) (number_of place)
    (λ p. and_then_all (λ s. s ≤ routers) (IsSeated routers) (λ s. line_of_kind kind p s words) (seat_of routers seat) (seat_within routers seat)
    (λ s within. if_seated routers s (line_of_kind kind p s words) within (kind_stands kind p s words)))

-- a line that is read stands at a seat that is there, and a change at a place of its own
pub line_seated : (routers : ℕ) (text : Text) (l : Line) → line_of routers text ≡ Some l → IsSeated routers l
line_seated routers text l e = subst (λ o. IfSome o (IsSeated routers)) e (all_seated routers (parts space text))

-- ## Routers

routers_in : (routers : ℕ) → IfSome (routers_within routers) (λ n. (1 ≤ n) × (n ≤ max_routers))
routers_in routers =
    cond_both (nat_le 1 routers && nat_le routers MAX_ROUTERS) (Some routers) None (λ o. IfSome o (λ n. (1 ≤ n) × (n ≤ max_routers)))
    (λ e. let both = and_parts (nat_le 1 routers) (nat_le routers MAX_ROUTERS) e in (grind (arith, nat_tests, both.0), grind (arith, nat_tests, both.1))) (λ _. tt)

routers_of_words : (words : List Text) → IfSome (routers_from words) (λ n. (1 ≤ n) × (n ≤ max_routers))
routers_of_words [] = tt
routers_of_words (word ∷ []) = tt
routers_of_words (word ∷ routers ∷ []) =
    if_any (λ n. (1 ≤ n) × (n ≤ max_routers)) (text_eq word (codes "routers")) (option_and_then routers_within (number_of routers)) None (and_then_any (λ n. (1 ≤ n) × (n ≤ max_routers)) routers_within (number_of routers) routers_in) tt
routers_of_words (word ∷ routers ∷ other ∷ words) = tt

-- a bus has 1 to 8 routers
pub few_routers : (text : Text) (routers : ℕ) → routers_of text ≡ Some routers → (1 ≤ routers) × (routers ≤ max_routers)
few_routers text routers e = subst (λ o. IfSome o (λ n. (1 ≤ n) × (n ≤ max_routers))) e (routers_of_words (parts space text))
