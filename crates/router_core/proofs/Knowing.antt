-- What calls of the bus leave of what is known.
use Rattle.std.proofs.Common.{◌≡◌, ℕ, ◌+◌, Bool, true, List, ◌∷◌, [], ◌++◌, length, refl, ap, ◌∙◌, Option}
use Rattle.match_rules.specs.Facts.{Facts}
use Rattle.seq_bus_core.specs.Answers.{Answer}
use Rattle.seq_bus_core.specs.Batches.{entries_of}
use Rattle.seq_bus_core.specs.Histories.{History}
use Rattle.seq_bus_core.specs.declared.change.Change.{Change}
use Rattle.seq_bus_core.specs.declared.outcome.Outcome.{Outcome}
use Rattle.seq_bus_core.specs.declared.query.Query.{Query}
use Rattle.seq_bus_core.specs.declared.verdict.Verdict.{Verdict}
use Rattle.bus_view.specs.Views.{Knowledge, AreChanged, IsChanged, IsRead, IsNoted, next_entry, having_made, having_changed}
use Rattle.router_core.specs.Answers.{Heard, Says, Refuses, NoMemory, Lost, HearsChange, HearsChanges, HearsAnswer, HearsVerdict, HearsPresent}

-- ## The registry and the seat stay

abbrev pub home : Knowledge → ℕ × ℕ
home k = (k.registry, k.seat)

pub registry_kept : (k m : Knowledge) → home m ≡ home k → m.registry ≡ k.registry
registry_kept k m e = ap (λ (h : ℕ × ℕ). h.0) e

pub seat_kept : (k m : Knowledge) → home m ≡ home k → m.seat ≡ k.seat
seat_kept k m e = ap (λ (h : ℕ × ℕ). h.1) e

home_of : (k m : Knowledge) → m ≡ k → home m ≡ home k
home_of k m e = ap (λ (n : Knowledge). home n) e

read_home : (alone : Bool) (k m : Knowledge) → IsRead alone k m → home m ≡ home k
read_home alone k m read = ap (λ (n : Knowledge). home n) read.kept

pub change_home : (alone : Bool) (change : Change) (heard : Heard Outcome) (k m : Knowledge) → HearsChange alone change k heard m → home m ≡ home k
change_home alone change (Says o) k m h = ap (λ (n : Knowledge). home n) h.added
change_home alone change (Refuses r) k m h = home_of k m h.0

pub changes_home : (alone : Bool) (changes : List Change) (heard : Heard (List Outcome)) (k m : Knowledge) → HearsChanges alone changes k heard m → home m ≡ home k
changes_home alone changes (Says os) k m h = ap (λ (n : Knowledge). home n) h.added
changes_home alone changes (Refuses r) k m h = home_of k m h.0

pub answer_home : (alone : Bool) (query : Query) (heard : Heard (Option Answer)) (k m : Knowledge) → HearsAnswer alone query k heard m → home m ≡ home k
answer_home alone query (Says told) k m h = read_home alone k m h.0
answer_home alone query (Refuses NoMemory) k m h = read_home alone k m h
answer_home alone query (Refuses Lost) k m h = home_of k m h.0

pub verdict_home : (alone : Bool) (from : ℕ) (facts : Facts) (heard : Heard Verdict) (k m : Knowledge) → HearsVerdict alone from facts k heard m → home m ≡ home k
verdict_home alone from facts (Says v) k m h = read_home alone k m h.0
verdict_home alone from facts (Refuses r) k m h = home_of k m h.0

pub present_home : (alone : Bool) (number : ℕ) (heard : Heard Bool) (k m : Knowledge) → HearsPresent alone number k heard m → home m ≡ home k
present_home alone number (Says there) k m h = read_home alone k m h.0
present_home alone number (Refuses r) k m h = home_of k m h.0

pub note_home : (alone : Bool) (told : History) (k m : Knowledge) → IsNoted alone k told m → home m ≡ home k
note_home alone told k m h = ap (λ (n : Knowledge). home n) h.kept

-- ## Where nobody else makes changes

pub read_alone : (k m : Knowledge) → IsRead true k m → m ≡ k
read_alone k m read = read.kept ∙ ap (λ seen. record k { seen = seen }) (read.reached.same refl)

pub added_alone : (change : Change) (outcome : Outcome) (k m : Knowledge) → IsChanged true k change outcome m → m ≡ having_changed k (k.seen ++ next_entry k change ∷ [])
added_alone change outcome k m h = h.added ∙ ap (λ point. having_changed k (point ++ next_entry k change ∷ [])) (h.reached.same refl)

pub all_added_alone : (changes : List Change) (outcomes : List Outcome) (k m : Knowledge) → AreChanged true k changes outcomes m →
    m ≡ having_made k (length changes) (k.seen ++ entries_of k.seat (k.made + 1) changes)
all_added_alone changes outcomes k m h =
    h.added ∙ ap (λ point. having_made k (length changes) (point ++ entries_of k.seat (k.made + 1) changes)) (h.reached.same refl)
