-- What holds at each moment: each step keeps it.
use Rattle.std.proofs.Common.{◌≡◌, ◌≢◌, inl, inr, ℕ, ◌+◌, ◌<◌, ◌≤◌, ◌==◌, ltb, Bool, true, false, cond, ◌&&◌, ◌||◌, nat_le, is_some, Option, Some, None, List, [], ◌∷◌, ◌++◌, length, take, slice_get, slice_set, refl, ap, sym, ◌∙◌, subst, arith, length-append}
use Rattle.std.specs.List.{list_any, AllByRecursion as Each}
use Rattle.std.proofs.lemmas.Bool.{and_parts}
use Rattle.std.proofs.lemmas.Bool.Decides.{nat_tests}
use Rattle.std.proofs.lemmas.List.{append-nil}
use Rattle.std.proofs.lemmas.List.Elements.{filter-append}
use Rattle.seq_bus_core.specs.Answers.{answer}
use Rattle.seq_bus_core.specs.Batches.{entries_of}
use Rattle.seq_bus_core.specs.BusState.{connection_of}
use Rattle.seq_bus_core.specs.Recipients.{recipients}
use Rattle.seq_bus_core.specs.Consistency.{Pairwise}
use Rattle.seq_bus_core.specs.Histories.{History, IsLegal, Begins, ends_publication, numbers_of, longer}
use Rattle.seq_bus_core.specs.Tickets.{WholeBus, bus_after}
use Rattle.seq_bus_core.specs.declared.change.Change.{Change}
use Rattle.seq_bus_core.specs.declared.entry.Entry.{Entry}
use Rattle.seq_bus_core.proofs.Extending.{batches_are_legal, begins_trans, ends_more, entries_length}
use Rattle.seq_bus_core.proofs.HistoryLaws.{beginnings_are_legal}
use Rattle.seq_bus_core.proofs.Lists.{each_weaker, each_append, pairs_append, any_having}
use Rattle.interleave_core.specs.declared.step.Question.{Question}
use Rattle.interleave_core.specs.declared.step.Question.TheVariants.{Ask, Route, Present}
use Rattle.interleave_core.specs.declared.step.Step.{Step}
use Rattle.interleave_core.specs.declared.step.Step.TheVariants.{Read, Publish, TakeNote, Refused}
use Rattle.interleave_core.specs.Worlds.{Moment, Happened, Logged, first_moment, nothing_happened, is_end, having_seen, said_of, logged_read, after_read, is_batch, told_from, next_entries, having_published, after_publication, after_note, happens}
use Rattle.interleave_core.specs.Promises.{IsRight, is_change, Follows, GoesOn, changes_told, changes_from, entries_by, IsSound}
use Rattle.interleave_core.proofs.Beginnings.{begins_same, begins_more, begins_length, begins_shorter, take_begun, whole_ends}
use Rattle.interleave_core.proofs.SeenLists.{some_same, set_found, found_set, set_there, unseen}
use Rattle.interleave_core.proofs.ToldLemmas.{IsToldIn, right_more, told_in, follows_told, told_rise, told_right, told_more, changes_more, told_changes}

-- a publication ends at this place
pub record IsEndOf (published : History) (place : ℕ) : Type 0 where
  pub point : History
  pub begins : Begins point published
  pub place_is : length point ≡ place
  pub ends : ends_publication point ≡ true

-- what a seat has seen
pub record IsSeenAt (seat : ℕ) (published seen : History) : Type 0 where
  pub begins : Begins seen published
  pub ends : ends_publication seen ≡ true
  pub own : entries_by seat seen ≡ entries_by seat published

-- the seat of a line is there, and has seen as much as its place says
abbrev pub IsReached : List History → Logged → Type 0
IsReached seen l = (h : History) × (slice_get seen l.seat ≡ Some h) × (l.place ≤ length h)

pub record IsKept (m : Moment) (log : List Logged) : Type 0 where
  pub legal : IsLegal m.published
  pub ends : (place : ℕ) → is_end m place ≡ true → IsEndOf m.published place
  pub seats : (seat : ℕ) (seen : History) → slice_get m.seen seat ≡ Some seen → IsSeenAt seat m.published seen
  pub right : Each (IsRight m.opening m.published) log
  pub rising : Pairwise GoesOn log
  pub reached : Each (IsReached m.seen) log
  pub once : changes_told log ≡ changes_from 1 m.published

-- ## The first moment

pub kept_at_first : (opening : WholeBus) → IsKept (first_moment opening) []
kept_at_first opening = record {
  legal = record { numbered = λ seat. refl; whole = refl };
  ends = first_end;
  seats = λ seat seen found. let none = unseen (opening.state.routers + 1) seat seen found in
      subst (IsSeenAt seat []) (sym none) (record { begins = begins_same []; ends = refl; own = refl });
  right = tt;
  rising = tt;
  reached = tt;
  once = refl;
}
  where
    first_end : (place : ℕ) → list_any (λ e. e == place) (0 ∷ []) ≡ true → IsEndOf [] place
    first_end place is = any_having (λ e. e ≡ 0) (λ e. e == place) (IsEndOf [] place) at_zero (0 ∷ []) is (refl, tt)
      where
        at_zero : (e : ℕ) → (e == place) ≡ true → e ≡ 0 → IsEndOf [] place
        at_zero e same none = let is_zero : 0 ≡ place = grind (arith, nat_tests) in record { point = []; begins = begins_same []; place_is = is_zero; ends = refl }

-- ## A seat has seen more

own_more : (seat : ℕ) (seen point published : History) → Begins seen point → Begins point published → entries_by seat seen ≡ entries_by seat published → entries_by seat point ≡ entries_by seat published
own_more seat seen point published p q own =
    let by = λ (e : Entry). e.seat == seat in
    let first : entries_by seat seen ++ entries_by seat p.0 ≡ entries_by seat point = sym (filter-append by seen p.0) ∙ ap (entries_by seat) p.1 in
    let second : entries_by seat point ++ entries_by seat q.0 ≡ entries_by seat published = sym (filter-append by point q.0) ∙ ap (entries_by seat) q.1 in
    let count_first : length (entries_by seat seen) + length (entries_by seat p.0) ≡ length (entries_by seat point) = sym (length-append (entries_by seat seen) (entries_by seat p.0)) ∙ ap length first in
    let count_second : length (entries_by seat point) + length (entries_by seat q.0) ≡ length (entries_by seat published) = sym (length-append (entries_by seat point) (entries_by seat q.0)) ∙ ap length second in
    let same : length (entries_by seat seen) ≡ length (entries_by seat published) = ap length own in
    let none : entries_by seat q.0 ≡ [] = empty (entries_by seat q.0) (omega (arith, count_first, count_second, same)) in
    sym (append-nil (entries_by seat point)) ∙ ap (λ rest. entries_by seat point ++ rest) (sym none) ∙ second
  where
    empty : (h : History) → length h ≡ 0 → h ≡ []
    empty [] e = refl
    empty (x ∷ h) e = absurd (omega (arith, e))

reached_seen : (all : List History) (seat : ℕ) (seen point : History) → slice_get all seat ≡ Some seen → length seen ≤ length point → (l : Logged) → IsReached all l → IsReached (slice_set all seat point) l
reached_seen all seat seen point there le l reached = elim (found_set all seat l.seat point reached.0 reached.1) [
  | inl same ↦ (
      let as_seen : seen ≡ reached.0 = some_same seen reached.0 (sym there ∙ ap (slice_get all) same.0 ∙ reached.1) in
      let as_long : length seen ≡ length reached.0 = ap length as_seen in
      let low : l.place ≤ length reached.0 = reached.2 in
      (point, same.1, omega (arith, as_long, le, low))
      )
  | inr other ↦ (reached.0, other.1, reached.2)
]

pub kept_seen : (m : Moment) (log : List Logged) (seat : ℕ) (seen point : History) → IsKept m log → slice_get m.seen seat ≡ Some seen →
    Begins seen point → Begins point m.published → ends_publication point ≡ true → IsKept (having_seen m seat point) log
kept_seen m log seat seen point kept there more begins ends = record {
  legal = kept.legal;
  ends = kept.ends;
  seats = λ other now found. elim (set_found m.seen seat other point now found) [
    | inl same ↦ subst (IsSeenAt other m.published) (sym same.1) (subst (λ s. IsSeenAt s m.published point) same.0 here)
    | inr old ↦ kept.seats other now old.1
  ];
  right = kept.right;
  rising = kept.rising;
  reached = each_weaker (IsReached m.seen) (IsReached (slice_set m.seen seat point)) (reached_seen m.seen seat seen point there (begins_length seen point more)) log kept.reached;
  once = kept.once;
}
  where
    here : IsSeenAt seat m.published point
    here = record { begins = begins; ends = ends; own = own_more seat seen point m.published more begins (kept.seats seat seen there).own }

-- ## One more line, of a read

kept_line : (m : Moment) (log : List Logged) (l : Logged) → IsKept m log → IsRight m.opening m.published l → Each (λ earlier. GoesOn earlier l) log → IsReached m.seen l → changes_told (l ∷ []) ≡ [] → IsKept m (log ++ l ∷ [])
kept_line m log l kept right behind reached none = record {
  legal = kept.legal;
  ends = kept.ends;
  seats = kept.seats;
  right = each_append (IsRight m.opening m.published) log (l ∷ []) kept.right (right, tt);
  rising = pairs_append GoesOn log (l ∷ []) kept.rising (tt, tt) (each_weaker (λ earlier. GoesOn earlier l) (λ earlier. Each (GoesOn earlier) (l ∷ [])) (λ earlier goes. (goes, tt)) log behind);
  reached = each_append (IsReached m.seen) log (l ∷ []) kept.reached (reached, tt);
  once = told_more log (l ∷ []) ∙ ap (λ rest. changes_told log ++ rest) none ∙ append-nil (changes_told log) ∙ kept.once;
}

read_right : (opening : WholeBus) (published point : History) (seat place : ℕ) (question : Question) (b : WholeBus) → Begins point published → place ≡ length point → b ≡ bus_after opening point →
    IsRight opening published (record { seat = seat; place = place; said = said_of b question })
read_right opening published point seat place (Ask query) b begins place_is bus_is = (point, begins, place_is, ap (λ (w : WholeBus). answer w.state query) bus_is)
read_right opening published point seat place (Route from facts) b begins place_is bus_is = (point, begins, place_is, ap (λ (w : WholeBus). recipients w.state from facts) bus_is)
read_right opening published point seat place (Present number) b begins place_is bus_is = (point, begins, place_is, ap (λ (w : WholeBus). is_some (connection_of w.state number)) bus_is)

no_change : (b : WholeBus) (question : Question) → is_change (said_of b question) ≡ false
no_change b (Ask query) = refl
no_change b (Route from facts) = refl
no_change b (Present number) = refl

none_told : (seat place : ℕ) (b : WholeBus) (question : Question) → changes_told (record { seat = seat; place = place; said = said_of b question } ∷ []) ≡ []
none_told seat place b (Ask query) = refl
none_told seat place b (Route from facts) = refl
none_told seat place b (Present number) = refl

pub kept_read : (m : Moment) (log : List Logged) (seat place : ℕ) (question : Question) (seen : History) → IsKept m log → slice_get m.seen seat ≡ Some seen →
    is_end m place ≡ true → length seen ≤ place → IsKept (having_seen m seat (take place m.published)) (log ++ logged_read m seat place question ∷ [])
kept_read m log seat place question seen kept there is below =
    kept_line now log line (kept_seen m log seat seen point kept there more begins ends) right behind reached (none_told seat place (bus_after m.opening point) question)
  where
    end : IsEndOf m.published place
    end = kept.ends place is

    point : History
    point = take place m.published

    point_is : point ≡ end.point
    point_is = ap (λ n. take n m.published) (sym end.place_is) ∙ take_begun end.point m.published end.begins

    begins : Begins point m.published
    begins = subst (λ h. Begins h m.published) (sym point_is) end.begins

    ends : ends_publication point ≡ true
    ends = ap ends_publication point_is ∙ end.ends

    place_is : place ≡ length point
    place_is = sym end.place_is ∙ ap length (sym point_is)

    more : Begins seen point
    more = begins_shorter seen point m.published (kept.seats seat seen there).begins begins (subst (λ n. length seen ≤ n) place_is below)

    now : Moment
    now = having_seen m seat point

    line : Logged
    line = logged_read m seat place question

    right : IsRight m.opening m.published line
    right = read_right m.opening m.published point seat place question (bus_after m.opening point) begins place_is refl

    reached : IsReached now.seen line
    reached = (point, set_there m.seen seat point seen there, omega (arith, place_is))

    follows : (l : Logged) → IsReached m.seen l → GoesOn l line
    follows l at same =
        let as_seen : seen ≡ at.0 = some_same seen at.0 (sym there ∙ ap (slice_get m.seen) (sym same) ∙ at.1) in
        let as_long : length seen ≡ length at.0 = ap length as_seen in
        let low : l.place ≤ length at.0 = at.2 in
        let le : l.place ≤ place = omega (arith, as_long, low, below) in
        subst (Follows l.place place) (sym (no_change (bus_after m.opening point) question)) le

    behind : Each (λ earlier. GoesOn earlier line) log
    behind = each_weaker (IsReached m.seen) (λ earlier. GoesOn earlier line) follows log kept.reached

-- ## A note

pub kept_note : (m : Moment) (log : List Logged) (seat place : ℕ) (seen : History) → IsKept m log → slice_get m.seen seat ≡ Some seen → is_end m place ≡ true →
    IsKept (having_seen m seat (longer (Some seen) (take place m.published))) log
kept_note m log seat place seen kept there is = by_test (ltb (length seen) (length point)) refl
  where
    end : IsEndOf m.published place
    end = kept.ends place is

    point : History
    point = take place m.published

    point_is : point ≡ end.point
    point_is = ap (λ n. take n m.published) (sym end.place_is) ∙ take_begun end.point m.published end.begins

    begins : Begins point m.published
    begins = subst (λ h. Begins h m.published) (sym point_is) end.begins

    by_test : (b : Bool) → ltb (length seen) (length point) ≡ b → IsKept (having_seen m seat (cond b point seen)) log
    by_test true less =
        let le : length seen ≤ length point = grind (arith, nat_tests) in
        kept_seen m log seat seen point kept there (begins_shorter seen point m.published (kept.seats seat seen there).begins begins le) begins (ap ends_publication point_is ∙ end.ends)
    by_test false more = kept_seen m log seat seen seen kept there (begins_same seen) (kept.seats seat seen there).begins (kept.seats seat seen there).ends

-- ## A publication

own_none : (seat other number : ℕ) (changes : List Change) → (seat == other) ≡ false → entries_by other (entries_of seat number changes) ≡ []
own_none seat other number [] differ = refl
own_none seat other number (change ∷ changes) differ = rw differ (own_none seat other (number + 1) changes differ)

own_others : (seat other number : ℕ) (h : History) (changes : List Change) → seat ≢ other → entries_by other h ≡ entries_by other (h ++ entries_of seat number changes)
own_others seat other number h changes differ =
    let differs : (seat == other) ≡ false = grind (arith, nat_tests) in
    sym (filter-append (λ (e : Entry). e.seat == other) h (entries_of seat number changes) ∙ ap (λ rest. entries_by other h ++ rest) (own_none seat other number changes differs) ∙ append-nil (entries_by other h))

end_more : (published more : History) (place : ℕ) → IsEndOf published place → IsEndOf (published ++ more) place
end_more published more place end = record {
  point = end.point;
  begins = begins_trans end.point published (published ++ more) end.begins (begins_more published more);
  place_is = end.place_is;
  ends = end.ends;
}

ends_then : (P : ℕ → Type 0) (ends : List ℕ) (last place : ℕ) → list_any (λ e. e == place) (ends ++ last ∷ []) ≡ true → (list_any (λ e. e == place) ends ≡ true → P place) → P last → P place
ends_then P [] last place is old here = by_test (last == place) refl is
  where
    differs : (b : Bool) → b ≡ false → (b || false) ≡ true → ⊥
    differs true e is = cc e
    differs false e is = cc is

    by_test : (b : Bool) → (last == place) ≡ b → list_any (λ e. e == place) (last ∷ []) ≡ true → P place
    by_test true same is = let e : last ≡ place = grind (arith, nat_tests) in subst P e here
    by_test false differ is = absurd (differs (last == place) differ is)
ends_then P (first ∷ ends) last place is old here = by_test (first == place) refl (λ rest then. ends_then P ends last place rest then here)
  where
    by_test : (b : Bool) → (first == place) ≡ b →
        (list_any (λ e. e == place) (ends ++ last ∷ []) ≡ true → (list_any (λ e. e == place) ends ≡ true → P place) → P place) → P place
    by_test true same go = old (rw same refl)
    by_test false differ go = go (rw differ at is) (λ then. old (rw differ then))

pub kept_published : (m : Moment) (log : List Logged) (seat : ℕ) (changes : List Change) (seen : History) → IsKept m log → slice_get m.seen seat ≡ Some seen →
    IsKept (having_published m seat (m.published ++ next_entries m seat changes)) (log ++ told_from (bus_after m.opening m.published) seat (length m.published) changes)
kept_published m log seat changes seen kept there = record {
  legal = (batches_are_legal m.published seat changes kept.legal).0;
  ends = λ place is. ends_then (IsEndOf now) m.ends (length now) place is (λ old. end_more m.published more place (kept.ends place old)) here;
  seats = λ other h found. elim (set_found m.seen seat other now h found) [
    | inl same ↦ subst (IsSeenAt other now) (sym same.1) (record { begins = begins_same now; ends = ends; own = refl })
    | inr old ↦ (
        let was = kept.seats other h old.1 in
        record { begins = begins_trans h m.published now was.begins begun; ends = was.ends; own = was.own ∙ own_others seat other number m.published changes old.0 }
        )
  ];
  right = each_append (IsRight m.opening now) log told
      (each_weaker (IsRight m.opening m.published) (IsRight m.opening now) (right_more m.opening m.published now begun) log kept.right)
      (told_right m.opening now m.published (bus_after m.opening m.published) seat number (length m.published) changes refl refl (begins_same now));
  rising = pairs_append GoesOn log told kept.rising (told_rise (bus_after m.opening m.published) seat (length m.published) changes)
      (each_weaker (IsReached m.seen) (λ earlier. Each (GoesOn earlier) told) behind log kept.reached);
  reached = each_append (IsReached (slice_set m.seen seat now)) log told
      (each_weaker (IsReached m.seen) (IsReached (slice_set m.seen seat now)) (reached_seen m.seen seat seen now there longer_now) log kept.reached)
      (each_weaker (IsToldIn seat (length m.published) (length changes)) (IsReached (slice_set m.seen seat now)) within told in_told);
  once = told_more log told ∙ ap (λ front. front ++ changes_told told) kept.once
      ∙ ap (λ rest. changes_from 1 m.published ++ rest) (told_changes (bus_after m.opening m.published) seat number (length m.published) changes)
      ∙ ap (λ n. changes_from 1 m.published ++ changes_from n more) next_place ∙ sym (changes_more 1 m.published more);
}
  where
    number : ℕ
    number = length (numbers_of seat m.published) + 1

    more : History
    more = next_entries m seat changes

    now : History
    now = m.published ++ more

    told : List Logged
    told = told_from (bus_after m.opening m.published) seat (length m.published) changes

    begun : Begins m.published now
    begun = begins_more m.published more

    next_place : length m.published + 1 ≡ 1 + length m.published
    next_place = omega arith

    ends : ends_publication now ≡ true
    ends = ends_more m.published seat number changes (whole_ends m.published kept.legal.whole)

    here : IsEndOf now (length now)
    here = record { point = now; begins = begins_same now; place_is = refl; ends = ends }

    seen_begins : Begins seen m.published
    seen_begins = (kept.seats seat seen there).begins

    longer_now : length seen ≤ length now
    longer_now = begins_length seen now (begins_trans seen m.published now seen_begins begun)

    in_told : Each (IsToldIn seat (length m.published) (length changes)) told
    in_told = told_in (bus_after m.opening m.published) seat (length m.published) changes

    count : length now ≡ length m.published + length changes
    count = length-append m.published more ∙ ap (λ n. length m.published + n) (entries_length seat number changes)

    within : (l : Logged) → IsToldIn seat (length m.published) (length changes) l → IsReached (slice_set m.seen seat now) l
    within l t = (now, ap (slice_get (slice_set m.seen seat now)) t.seat_is ∙ set_there m.seen seat now seen there, subst (λ n. l.place ≤ n) (sym count) t.within)

    behind : (l : Logged) → IsReached m.seen l → Each (GoesOn l) told
    behind l at = each_weaker (IsToldIn seat (length m.published) (length changes)) (GoesOn l) (λ later t. follows l at later t) told in_told
      where
        follows : (l : Logged) → IsReached m.seen l → (later : Logged) → IsToldIn seat (length m.published) (length changes) later → GoesOn l later
        follows l at later t same =
            let seat_same : l.seat ≡ seat = same ∙ t.seat_is in
            let as_seen : seen ≡ at.0 = some_same seen at.0 (sym there ∙ ap (slice_get m.seen) (sym seat_same) ∙ at.1) in
            let as_long : length seen ≡ length at.0 = ap length as_seen in
            let low : l.place ≤ length at.0 = at.2 in
            let below : length seen ≤ length m.published = begins_length seen m.published seen_begins in
            let above : length m.published < later.place = t.behind in
            let less : l.place < later.place = omega (arith, as_long, low, below, above) in
            follows_told l later t.told less same

-- ## Each step

kept_none : (m : Moment) (log : List Logged) → IsKept m log → IsKept m (log ++ [])
kept_none m log kept = subst (IsKept m) (sym (append-nil log)) kept

read_keeps : (m : Moment) (log : List Logged) (seat place : ℕ) (question : Question) → IsKept m log → (o : Option History) → slice_get m.seen seat ≡ o → IsKept (after_read m seat place question o).0 (log ++ (after_read m seat place question o).1)
read_keeps m log seat place question kept None there = kept_none m log kept
read_keeps m log seat place question kept (Some seen) there = by_test (is_end m place && nat_le (length seen) place) refl
  where
    result : Bool → Happened
    result b = cond b (having_seen m seat (take place m.published), logged_read m seat place question ∷ []) (nothing_happened m)

    by_test : (b : Bool) → (is_end m place && nat_le (length seen) place) ≡ b → IsKept (result b).0 (log ++ (result b).1)
    by_test true is =
        let parts = and_parts (is_end m place) (nat_le (length seen) place) is in
        let le : length seen ≤ place = grind (arith, nat_tests, parts.1) in
        kept_read m log seat place question seen kept there parts.0 le
    by_test false is = kept_none m log kept

publication_keeps : (m : Moment) (log : List Logged) (seat : ℕ) (changes : List Change) → IsKept m log → (o : Option History) → slice_get m.seen seat ≡ o → IsKept (after_publication m seat changes o).0 (log ++ (after_publication m seat changes o).1)
publication_keeps m log seat changes kept None there = kept_none m log kept
publication_keeps m log seat changes kept (Some seen) there = by_test (is_batch changes)
  where
    result : Bool → Happened
    result b = cond b (having_published m seat (m.published ++ next_entries m seat changes), told_from (bus_after m.opening m.published) seat (length m.published) changes) (nothing_happened m)

    by_test : (b : Bool) → IsKept (result b).0 (log ++ (result b).1)
    by_test true = kept_published m log seat changes seen kept there
    by_test false = kept_none m log kept

note_keeps : (m : Moment) (log : List Logged) (seat place : ℕ) → IsKept m log → (o : Option History) → slice_get m.seen seat ≡ o → IsKept (after_note m seat place o).0 (log ++ (after_note m seat place o).1)
note_keeps m log seat place kept None there = kept_none m log kept
note_keeps m log seat place kept (Some seen) there = by_test (is_end m place) refl
  where
    result : Bool → Happened
    result b = cond b (nothing_happened (having_seen m seat (longer (Some seen) (take place m.published)))) (nothing_happened m)

    by_test : (b : Bool) → is_end m place ≡ b → IsKept (result b).0 (log ++ (result b).1)
    by_test true is = kept_none (having_seen m seat (longer (Some seen) (take place m.published))) log (kept_note m log seat place seen kept there is)
    by_test false is = kept_none m log kept

pub step_keeps : (m : Moment) (log : List Logged) (step : Step) → IsKept m log → IsKept (happens m step).0 (log ++ (happens m step).1)
step_keeps m log (Read seat place question) kept = read_keeps m log seat place question kept (slice_get m.seen seat) refl
step_keeps m log (Publish seat changes) kept = publication_keeps m log seat changes.items kept (slice_get m.seen seat) refl
step_keeps m log (TakeNote seat place) kept = note_keeps m log seat place kept (slice_get m.seen seat) refl
step_keeps m log (Refused seat changes) kept = kept_none m log kept

pub kept_sound : (m : Moment) (log : List Logged) → IsKept m log → IsSound m log
kept_sound m log kept = record {
  legal = kept.legal;
  seats = λ seat seen there. let at = kept.seats seat seen there in
      record { begins = at.begins; legal = beginnings_are_legal seen m.published at.begins at.ends kept.legal; own = at.own };
  right = kept.right;
  rising = kept.rising;
  once = kept.once;
}
