-- What a query was told, where its body is at hand.
use Rattle.std.proofs.Common.{◌≡◌, ◌≤◌, ℕ, Bool, is_some, Option, Some, None, option_map, List, [], length, drop, length-append, refl, sym, ap, subst, ◌∙◌, arith}
use Rattle.std.proofs.Math.Seq.{drop-append_seam, drop-length}
use Rattle.std.specs.List.{slice_range}
use Rattle.bus_trace.specs.Recordings.{Recording, Records}
use Rattle.bus_trace.proofs.Strings.{to_the_end}
use Rattle.names.specs.Texts.{Text}
use Rattle.seq_bus_core.specs.Answers.{Answer, OneName, HasOwner, NameList, answer, owner_name}
use Rattle.seq_bus_core.specs.BusState.{BusState}
use Rattle.seq_bus_core.specs.declared.query.Query.{Query}
use Rattle.seq_bus_core.specs.declared.query.Query.TheVariants.{GetNameOwner, NameHasOwner}
use Rattle.bus_view.specs.Bodies.{Answers, IsBody}
use Rattle.bus_view.specs.declared.answer.Asked.{Asked}
use Rattle.bus_view.specs.declared.answer.Asked.TheVariants.{Body, NameHasNoOwner}

pub no_owner : (asked : Asked) (told : Option Answer) (body : List ℕ) → asked ≡ NameHasNoOwner → Answers asked told [] body → told ≡ None
no_owner asked told body is answers = by_told told (subst (λ (a : Asked). Answers a told [] body) is answers)
  where
    by_told : (told : Option Answer) → Answers NameHasNoOwner told [] body → told ≡ None
    by_told None h = refl
    by_told (Some answer) h = absurd h

body_there : (answer : Answer) (body : List ℕ) → Answers Body (Some answer) [] body → IsBody answer body
body_there answer body h = subst (IsBody answer) (sym h.2) h.1

pub name_told : (name : Option Text) (body : List ℕ) → Answers Body (option_map OneName name) [] body →
    (text : Text) × (option_map OneName name ≡ Some (OneName text)) × IsBody (OneName text) body
name_told None body h = absurd h
name_told (Some text) body h = (text, refl, body_there (OneName text) body h)

pub names_told : (names : Option (List Text)) (body : List ℕ) → Answers Body (option_map NameList names) [] body →
    (texts : List Text) × (option_map NameList names ≡ Some (NameList texts)) × IsBody (NameList texts) body
names_told None body h = absurd h
names_told (Some texts) body h = (texts, refl, body_there (NameList texts) body h)

pub name_answered : (s : BusState) (query : Query) (name : Text) (body : List ℕ) → query ≡ GetNameOwner name → Answers Body (answer s query) [] body →
    (text : Text) × (answer s query ≡ Some (OneName text)) × IsBody (OneName text) body
name_answered s query name body is h =
    let told = name_told (owner_name s name) body (subst (λ (q : Query). Answers Body (answer s q) [] body) is h) in
    (told.0, ap (λ (q : Query). answer s q) is ∙ told.1, told.2)

pub whether_answered : (s : BusState) (query : Query) (name : Text) (body : List ℕ) → query ≡ NameHasOwner name → Answers Body (answer s query) [] body →
    (owned : Bool) × (answer s query ≡ Some (HasOwner owned)) × IsBody (HasOwner owned) body
whether_answered s query name body is h =
    let owned = is_some (owner_name s name) in
    (owned, ap (λ (q : Query). answer s q) is, body_there (HasOwner owned) body (subst (λ (q : Query). Answers Body (answer s q) [] body) is h))

pub names_answered : (s : BusState) (query : Query) (names : Option (List Text)) (body : List ℕ) → answer s query ≡ option_map NameList names → Answers Body (answer s query) [] body →
    (texts : List Text) × (answer s query ≡ Some (NameList texts)) × IsBody (NameList texts) body
names_answered s query names body is h =
    let told = names_told names body (subst (λ (a : Option Answer). Answers Body a [] body) is h) in
    (told.0, is ∙ told.1, told.2)

-- what was appended is the body
pub appended : (asked : Asked) (told : Option Answer) (before after : List ℕ) → Answers asked told before after →
    (length before ≤ length after) × Answers asked told [] (drop (length before) after)
appended Body (Some answer) before after h =
    let size = ap (λ (bs : List ℕ). length bs) h.2 ∙ length-append before h.0 in
    (omega (arith, size), (h.0, h.1, ap (λ (bs : List ℕ). drop (length before) bs) h.2 ∙ drop-append_seam before h.0))
appended Body None before after h = absurd h
appended NameHasNoOwner (Some answer) before after h = absurd h
appended NameHasNoOwner None before after h =
    let size = ap (λ (bs : List ℕ). length bs) h in
    (omega (arith, size), ap (λ (bs : List ℕ). drop (length before) bs) h ∙ drop-length before)

pub appended_behind : (asked : Asked) (told : Option Answer) (before after lent : List ℕ) (start : ℕ) → lent ≡ after → start ≡ length before → Answers asked told before after →
    Answers asked told [] (slice_range lent start (length lent))
appended_behind asked told before after lent start same at h =
    let there = appended asked told before after h in
    let e : slice_range lent start (length lent) ≡ drop (length before) after = (λ i. slice_range (same i) (at i) (length (same i))) ∙ to_the_end after (length before) there.0 in
    subst (λ (bs : List ℕ). Answers asked told [] bs) (sym e) there.1

-- the same kept, said of equal things
pub kept_so : (old now new : Recording) (lines others : Text) → old ≡ now → lines ≡ others → Records old lines new → Records now others new
kept_so old now new lines others same e h = subst (λ (r : Recording). Records r others new) same (subst (λ (t : Text). Records old t new) e h)
