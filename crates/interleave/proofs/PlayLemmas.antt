-- What the play of a world keeps of it: each step of the code against the step of the world.
use Rattle.std.proofs.Common.{◌≡◌, ℕ, zero, suc, ◌+◌, ◌≤◌, ◌<◌, ◌==◌, ltb, Bool, true, false, cond, ◌&&◌, nat_le, Option, Some, None, option_map, List, [], ◌∷◌, ◌++◌, length, map, take, drop, slice_get, slice_set, refl, ap, sym, ◌∙◌, subst, arith, length-append}
use Rattle.std.specs.List.{list_any}
use Rattle.std.proofs.lemmas.Bool.{and_parts}
use Rattle.std.proofs.lemmas.Bool.Decides.{nat_tests}
use Rattle.std.proofs.lemmas.List.{append-nil, map-append}
use Rattle.std.proofs.lemmas.Option.{slice_get-map}
use Rattle.seq_bus_core.specs.Batches.{entries_of}
use Rattle.seq_bus_core.specs.Histories.{History, Begins, longer, numbers_of}
use Rattle.seq_bus_core.specs.Tickets.{WholeBus, bus_step, bus_after}
use Rattle.seq_bus_core.specs.declared.change.Change.{Change}
use Rattle.seq_bus_core.proofs.Extending.{after_more}
use Rattle.interleave.specs.declared.log.LogLine.{LogLine}
use Rattle.interleave.specs.declared.play.Play.{Play}
use Rattle.interleave.specs.declared.seat.Made.{Made}
use Rattle.interleave.specs.declared.seat.Seat.{Seat}
use Rattle.interleave_core.specs.declared.step.Question.{Question}
use Rattle.interleave.specs.Logs.{Says, AreLines}
use Rattle.interleave.specs.Playing.{Making, making, making_of, makings, bus_along, Sight, sight, sight_of, IsPlayed, Comes, AreBeginnings}
use Rattle.interleave_core.specs.Worlds.{Moment, Happened, Logged, nothing_happened, is_end, having_seen, said_of, logged_read, may_read, after_read, may_publish, told_from, next_entries, having_published, after_publication, after_note}
use Rattle.interleave_core.proofs.Beginnings.{begins_same, begins_length, begins_shorter, take_begun}
use Rattle.interleave_core.proofs.SeenLists.{some_same, none_some}

-- ## Lists

map_take : {X Y : Type 0} (f : X → Y) (n : ℕ) (xs : List X) → map f (take n xs) ≡ take n (map f xs)
map_take f zero xs = refl
map_take f (suc n) [] = refl
map_take f (suc n) (x ∷ xs) = ap (λ rest. f x ∷ rest) (map_take f n xs)

map_drop : {X Y : Type 0} (f : X → Y) (n : ℕ) (xs : List X) → map f (drop n xs) ≡ drop n (map f xs)
map_drop f zero xs = refl
map_drop f (suc n) [] = refl
map_drop f (suc n) (x ∷ xs) = map_drop f n xs

map_set : {X Y : Type 0} (f : X → Y) (xs : List X) (i : ℕ) (x : X) → map f (slice_set xs i x) ≡ slice_set (map f xs) i (f x)
map_set f [] i x = refl
map_set f (y ∷ xs) zero x = refl
map_set f (y ∷ xs) (suc i) x = ap (λ rest. f y ∷ rest) (map_set f xs i x)

set_same : {X : Type 0} (xs : List X) (i : ℕ) (x : X) → slice_get xs i ≡ Some x → slice_set xs i x ≡ xs
set_same [] i x e = refl
set_same (y ∷ xs) zero x e = ap (λ z. z ∷ xs) (sym (some_same y x e))
set_same (y ∷ xs) (suc i) x e = ap (λ rest. y ∷ rest) (set_same xs i x e)

set_twice : {X : Type 0} (xs : List X) (i : ℕ) (x y : X) → slice_set (slice_set xs i x) i y ≡ slice_set xs i y
set_twice [] i x y = refl
set_twice (z ∷ xs) zero x y = refl
set_twice (z ∷ xs) (suc i) x y = ap (λ rest. z ∷ rest) (set_twice xs i x y)

drop_front : {X : Type 0} (xs ys : List X) → drop (length xs) (xs ++ ys) ≡ ys
drop_front [] ys = refl
drop_front (x ∷ xs) ys = drop_front xs ys

pub length_map : {X Y : Type 0} (f : X → Y) (xs : List X) → length (map f xs) ≡ length xs
length_map f [] = refl
length_map f (x ∷ xs) = ap suc (length_map f xs)

take_length : {X : Type 0} (n : ℕ) (xs : List X) → n ≤ length xs → length (take n xs) ≡ n
take_length zero xs le = refl
take_length (suc n) [] le = absurd (omega (arith, le))
take_length (suc n) (x ∷ xs) le = ap suc (take_length n xs (omega (arith, le)))

take_begins : (n : ℕ) (h : History) → Begins (take n h) h
take_begins zero h = (h, refl)
take_begins (suc n) [] = ([], refl)
take_begins (suc n) (e ∷ es) = let r = take_begins n es in (r.0, ap (λ x. e ∷ x) r.1)

-- ## Along a history

pub along_history : (b : WholeBus) (h : History) → bus_along b (map making_of h) ≡ bus_after b h
along_history b [] = refl
along_history b (e ∷ h) = along_history (bus_step b e.seat e.change).0 h

pub along_more : (b : WholeBus) (xs ys : List Making) → bus_along b (xs ++ ys) ≡ bus_along (bus_along b xs) ys
along_more b [] ys = refl
along_more b (x ∷ xs) ys = along_more (bus_step b x.seat x.change).0 xs ys

pub makings_of : (seat number : ℕ) (changes : List Change) → map making_of (entries_of seat number changes) ≡ makings seat changes
makings_of seat number [] = refl
makings_of seat number (change ∷ changes) = ap (λ rest. record { seat = seat; change = change } ∷ rest) (makings_of seat (number + 1) changes)

pub makings_more : (seat : ℕ) (changes more : List Change) → makings seat (changes ++ more) ≡ makings seat changes ++ makings seat more
makings_more seat changes more = map-append (λ change. record { seat = seat; change = change }) changes more

-- from what a seat has seen to a place behind it
caught_up : (opening : WholeBus) (seen published : History) (codes : List Made) (place : ℕ) → map making codes ≡ map making_of published → Begins seen published →
    length seen ≤ place → place ≤ length published → bus_along (bus_after opening seen) (map making (drop (length seen) (take place codes))) ≡ bus_after opening (take place published)
caught_up opening seen published codes place same begun le within =
    let point = take place published in
    let point_length : length point ≡ place = take_length place published within in
    let less : length seen ≤ length point = omega (arith, le, point_length) in
    let front = begins_shorter seen point published begun (take_begins place published) less in
    let rest : drop (length seen) point ≡ front.0 = ap (drop (length seen)) (sym front.1) ∙ drop_front seen front.0 in
    let codes_is : map making (drop (length seen) (take place codes)) ≡ map making_of (drop (length seen) point) =
    map_drop making (length seen) (take place codes) ∙ ap (drop (length seen)) (map_take making place codes ∙ ap (take place) same ∙ sym (map_take making_of place published)) ∙ sym (map_drop making_of (length seen) point) in
    ap (bus_along (bus_after opening seen)) codes_is ∙ along_history (bus_after opening seen) (drop (length seen) point)
    ∙ ap (bus_after (bus_after opening seen)) rest ∙ sym (after_more opening seen front.0) ∙ ap (bus_after opening) front.1

-- ## Seats

published_length : (m : Moment) (log : List Logged) (play : Play) → IsPlayed m log play → length play.published.items ≡ length m.published
published_length m log play played = sym (length_map making play.published.items) ∙ ap length played.published ∙ length_map making_of m.published

seat_there : (m : Moment) (log : List Logged) (play : Play) (seat : ℕ) (s : Seat) → IsPlayed m log play → slice_get play.seats.items seat ≡ Some s →
    (seen : History) × (slice_get m.seen seat ≡ Some seen) × (sight s ≡ sight_of m.opening seen)
seat_there m log play seat s played there = by_found (slice_get m.seen seat) refl
  where
    both : Some (sight s) ≡ option_map (sight_of m.opening) (slice_get m.seen seat)
    both = ap (option_map sight) (sym there) ∙ sym (slice_get-map sight play.seats.items seat) ∙ ap (λ sights. slice_get sights seat) played.seats ∙ slice_get-map (sight_of m.opening) m.seen seat

    by_found : (o : Option History) → slice_get m.seen seat ≡ o → (seen : History) × (slice_get m.seen seat ≡ Some seen) × (sight s ≡ sight_of m.opening seen)
    by_found None is = absurd (none_some (sight s) (sym (both ∙ ap (option_map (sight_of m.opening)) is)))
    by_found (Some seen) is = (seen, is, some_same (sight s) (sight_of m.opening seen) (both ∙ ap (option_map (sight_of m.opening)) is))

pub seat_missing : (m : Moment) (log : List Logged) (play : Play) (seat : ℕ) → IsPlayed m log play → slice_get play.seats.items seat ≡ None → slice_get m.seen seat ≡ None
seat_missing m log play seat played missing = by_found (slice_get m.seen seat) refl
  where
    both : ◌≡◌ {A = Option Sight} None (option_map (sight_of m.opening) (slice_get m.seen seat))
    both = ap (option_map sight) (sym missing) ∙ sym (slice_get-map sight play.seats.items seat) ∙ ap (λ sights. slice_get sights seat) played.seats ∙ slice_get-map (sight_of m.opening) m.seen seat

    by_found : (o : Option History) → slice_get m.seen seat ≡ o → slice_get m.seen seat ≡ None
    by_found None is = is
    by_found (Some seen) is = absurd (none_some (sight_of m.opening seen) (both ∙ ap (option_map (sight_of m.opening)) is))

-- the test of a read
pub may_read_there : (m : Moment) (log : List Logged) (play : Play) (seat place : ℕ) (s : Seat) → IsPlayed m log play → slice_get play.seats.items seat ≡ Some s →
    (list_any (λ e. e == place) play.ends.items && nat_le s.seen place) ≡ may_read m place (slice_get m.seen seat)
may_read_there m log play seat place s played there =
    let found = seat_there m log play seat s played there in
    let seen_is : s.seen ≡ length found.0 = ap (λ (x : Sight). x.seen) found.2 in
    ap (λ ends. list_any (λ e. e == place) ends && nat_le s.seen place) played.ends ∙ ap (λ n. is_end m place && nat_le n place) seen_is ∙ ap (may_read m place) (sym found.1)

pub may_read_missing : (m : Moment) (log : List Logged) (play : Play) (seat place : ℕ) → IsPlayed m log play → slice_get play.seats.items seat ≡ None → false ≡ may_read m place (slice_get m.seen seat)
may_read_missing m log play seat place played missing = ap (may_read m place) (sym (seat_missing m log play seat played missing))

-- a seat that caught up
seat_caught_up : (m : Moment) (log : List Logged) (play : Play) (seat place : ℕ) (s now : Seat) (seen : History) → AreBeginnings m → IsPlayed m log play → slice_get play.seats.items seat ≡ Some s →
    slice_get m.seen seat ≡ Some seen → length seen ≤ place → place ≤ length m.published →
    (s.seen ≤ place → place ≤ length play.published.items → now ≡ record { seen = place; bus = bus_along s.bus (map making (drop s.seen (take place play.published.items))) }) →
    sight now ≡ sight_of m.opening (take place m.published)
seat_caught_up m log play seat place s now seen beginnings played there known le within caught =
    ap sight (caught (omega (arith, seen_is, le)) (omega (arith, codes_length, within)))
    ∙ (λ i. record { seen = sym (take_length place m.published within) i; bus = end_bus i })
  where
    found : (seen : History) × (slice_get m.seen seat ≡ Some seen) × (sight s ≡ sight_of m.opening seen)
    found = seat_there m log play seat s played there

    sight_is : sight s ≡ sight_of m.opening seen
    sight_is = found.2 ∙ ap (sight_of m.opening) (some_same found.0 seen (sym found.1 ∙ known))

    seen_is : s.seen ≡ length seen
    seen_is = ap (λ (x : Sight). x.seen) sight_is

    bus_is : s.bus ≡ bus_after m.opening seen
    bus_is = ap (λ (x : Sight). x.bus) sight_is

    codes_length : length play.published.items ≡ length m.published
    codes_length = published_length m log play played

    end_bus : bus_along s.bus (map making (drop s.seen (take place play.published.items))) ≡ bus_after m.opening (take place m.published)
    end_bus = (λ i. bus_along (bus_is i) (map making (drop (seen_is i) (take place play.published.items))))
        ∙ caught_up m.opening seen m.published play.published.items place played.published (beginnings.seats seat seen known) le within

-- a seat that now has seen this
seats_with : (m : Moment) (log : List Logged) (play : Play) (seat : ℕ) (now : Seat) (point : History) → IsPlayed m log play → sight now ≡ sight_of m.opening point →
    map sight (slice_set play.seats.items seat now) ≡ map (sight_of m.opening) (slice_set m.seen seat point)
seats_with m log play seat now point played is =
    map_set sight play.seats.items seat now ∙ (λ i. slice_set (played.seats i) seat (is i)) ∙ sym (map_set (sight_of m.opening) m.seen seat point)

-- ## Lines

pub lines_more : (xs ys : List LogLine) (log more : List Logged) → AreLines xs log → AreLines ys more → AreLines (xs ++ ys) (log ++ more)
lines_more [] ys [] more first then = then
lines_more [] ys (l ∷ log) more first then = absurd first
lines_more (x ∷ xs) ys [] more first then = absurd first
lines_more (x ∷ xs) ys (l ∷ log) more first then = (first.0, lines_more xs ys log more first.1 then)

played_on : (m : Moment) (log : List Logged) (play : Play) → IsPlayed m log play → Comes (nothing_happened m) log play
played_on m log play played = record { published = played.published; ends = played.ends; seats = played.seats; lines = subst (AreLines play.log.items) (sym (append-nil log)) played.lines }

-- ## Reads

pub no_read : (m : Moment) (log : List Logged) (play : Play) (seat place : ℕ) (question : Question) → IsPlayed m log play → (o : Option History) → may_read m place o ≡ false → Comes (after_read m seat place question o) log play
no_read m log play seat place question played None is = played_on m log play played
no_read m log play seat place question played (Some seen) is = subst (λ b. Comes (result b) log play) (sym is) (played_on m log play played)
  where
    result : Bool → Happened
    result b = cond b (having_seen m seat (take place m.published), logged_read m seat place question ∷ []) (nothing_happened m)

within_published : (m : Moment) (place : ℕ) → AreBeginnings m → is_end m place ≡ true → place ≤ length m.published
within_published m place beginnings is =
    let end = beginnings.ends place is in
    let le = begins_length end.0 m.published end.1 in
    let same : length end.0 ≡ place = end.2 in
    omega (arith, le, same)

pub one_read : (m : Moment) (log : List Logged) (play new : Play) (seat place : ℕ) (question : Question) (s now : Seat) (line : LogLine) → AreBeginnings m → IsPlayed m log play → slice_get play.seats.items seat ≡ Some s →
    (s.seen ≤ place → place ≤ length play.published.items → now ≡ record { seen = place; bus = bus_along s.bus (map making (drop s.seen (take place play.published.items))) }) →
    new.published.items ≡ play.published.items → new.ends.items ≡ play.ends.items → new.seats.items ≡ slice_set play.seats.items seat now → new.log.items ≡ play.log.items ++ line ∷ [] →
    line.seat ≡ seat → line.place ≡ place → Says line.exchange (said_of now.bus question) → (o : Option History) → slice_get m.seen seat ≡ o → may_read m place o ≡ true → Comes (after_read m seat place question o) log new
one_read m log play new seat place question s now line beginnings played there caught published ends seats lines line_seat line_place said None known is = absurd (cc is)
one_read m log play new seat place question s now line beginnings played there caught published ends seats lines line_seat line_place said (Some seen) known is =
    subst (λ b. Comes (result b) log new) (sym is) (record {
      published = ap (map making) published ∙ played.published;
      ends = ends ∙ played.ends;
      seats = ap (map sight) seats ∙ seats_with m log play seat now (take place m.published) played now_is;
      lines = subst (λ xs. AreLines xs (log ++ logged_read m seat place question ∷ [])) (sym lines)
          (lines_more play.log.items (line ∷ []) log (logged_read m seat place question ∷ []) played.lines (record { seat = line_seat; place = line_place; said = subst (λ b. Says line.exchange (said_of b question)) bus_is said }, tt));
    })
  where
    result : Bool → Happened
    result b = cond b (having_seen m seat (take place m.published), logged_read m seat place question ∷ []) (nothing_happened m)

    parts : (is_end m place ≡ true) × (nat_le (length seen) place ≡ true)
    parts = and_parts (is_end m place) (nat_le (length seen) place) is

    le : length seen ≤ place
    le = let below = parts.1 in grind (arith, nat_tests, below)

    within : place ≤ length m.published
    within = within_published m place beginnings parts.0

    now_is : sight now ≡ sight_of m.opening (take place m.published)
    now_is = seat_caught_up m log play seat place s now seen beginnings played there known le within caught

    bus_is : now.bus ≡ bus_after m.opening (take place m.published)
    bus_is = ap (λ (x : Sight). x.bus) now_is

-- ## Notes

pub no_note : (m : Moment) (log : List Logged) (play : Play) (seat place : ℕ) → AreBeginnings m → IsPlayed m log play → (o : Option History) → slice_get m.seen seat ≡ o → may_read m place o ≡ false → Comes (after_note m seat place o) log play
no_note m log play seat place beginnings played None known is = played_on m log play played
no_note m log play seat place beginnings played (Some seen) known is = by_test (is_end m place) refl
  where
    point : History
    point = take place m.published

    result : Bool → Happened
    result b = cond b (nothing_happened (having_seen m seat (longer (Some seen) point))) (nothing_happened m)

    by_test : (b : Bool) → is_end m place ≡ b → Comes (result b) log play
    by_test false not_end = played_on m log play played
    by_test true end = subst (λ all. Comes (nothing_happened (record m { seen = all })) log play) (sym same) (played_on m log play played)
      where
        above : nat_le (length seen) place ≡ false
        above = sym (ap (λ b. b && nat_le (length seen) place) end) ∙ is

        point_length : length point ≡ place
        point_length = take_length place m.published (within_published m place beginnings end)

        kept : (b : Bool) → ltb (length seen) (length point) ≡ b → cond b point seen ≡ seen
        kept false less = refl
        kept true less = let lt : length seen < length point = grind (arith, nat_tests) in let le : place < length seen = grind (arith, nat_tests, above) in absurd (omega (arith, lt, le, point_length))

        same : slice_set m.seen seat (longer (Some seen) point) ≡ m.seen
        same = ap (slice_set m.seen seat) (kept (ltb (length seen) (length point)) refl) ∙ set_same m.seen seat seen known

pub one_note : (m : Moment) (log : List Logged) (play new : Play) (seat place : ℕ) (s now : Seat) → AreBeginnings m → IsPlayed m log play → slice_get play.seats.items seat ≡ Some s →
    (s.seen ≤ place → place ≤ length play.published.items → now ≡ record { seen = place; bus = bus_along s.bus (map making (drop s.seen (take place play.published.items))) }) →
    new.published.items ≡ play.published.items → new.ends.items ≡ play.ends.items → new.seats.items ≡ slice_set play.seats.items seat now → new.log.items ≡ play.log.items →
    (o : Option History) → slice_get m.seen seat ≡ o → may_read m place o ≡ true → Comes (after_note m seat place o) log new
one_note m log play new seat place s now beginnings played there caught published ends seats lines None known is = absurd (cc is)
one_note m log play new seat place s now beginnings played there caught published ends seats lines (Some seen) known is =
    subst (λ b. Comes (result b) log new) (sym parts.0) (record {
      published = ap (map making) published ∙ played.published;
      ends = ends ∙ played.ends;
      seats = ap (map sight) seats ∙ seats_with m log play seat now point played (seat_caught_up m log play seat place s now seen beginnings played there known le within caught) ∙ ap (λ h. map (sight_of m.opening) (slice_set m.seen seat h)) (sym (long (ltb (length seen) (length point)) refl));
      lines = subst (λ xs. AreLines xs (log ++ [])) (sym lines) (subst (AreLines play.log.items) (sym (append-nil log)) played.lines);
    })
  where
    point : History
    point = take place m.published

    result : Bool → Happened
    result b = cond b (nothing_happened (having_seen m seat (longer (Some seen) point))) (nothing_happened m)

    parts : (is_end m place ≡ true) × (nat_le (length seen) place ≡ true)
    parts = and_parts (is_end m place) (nat_le (length seen) place) is

    le : length seen ≤ place
    le = let below = parts.1 in grind (arith, nat_tests, below)

    within : place ≤ length m.published
    within = within_published m place beginnings parts.0

    point_length : length point ≡ place
    point_length = take_length place m.published within

    long : (b : Bool) → ltb (length seen) (length point) ≡ b → cond b point seen ≡ point
    long true less = refl
    long false less =
        let ge : length point ≤ length seen = grind (arith, nat_tests) in
        let shorter : length seen ≤ length point = omega (arith, le, point_length) in
        let front = begins_shorter seen point m.published (beginnings.seats seat seen known) (take_begins place m.published) shorter in
        let count : length seen + length front.0 ≡ length point = sym (length-append seen front.0) ∙ ap length front.1 in
        sym (append-nil seen) ∙ ap (λ rest. seen ++ rest) (sym (empty front.0 (omega (arith, count, ge)))) ∙ front.1
      where
        empty : (h : History) → length h ≡ 0 → h ≡ []
        empty [] e = refl
        empty (x ∷ h) e = absurd (omega (arith, e))

-- ## Publications

pub no_publication : (m : Moment) (log : List Logged) (play : Play) (seat : ℕ) (changes : List Change) → IsPlayed m log play → (o : Option History) → may_publish changes o ≡ false → Comes (after_publication m seat changes o) log play
no_publication m log play seat changes played None is = played_on m log play played
no_publication m log play seat changes played (Some seen) is = subst (λ b. Comes (result b) log play) (sym is) (played_on m log play played)
  where
    result : Bool → Happened
    result b = cond b (having_published m seat (m.published ++ next_entries m seat changes), told_from (bus_after m.opening m.published) seat (length m.published) changes) (nothing_happened m)

-- a seat caught up with all that was published, and published more
pub one_publication : (m : Moment) (log : List Logged) (play new : Play) (seat : ℕ) (changes : List Change) (s now later : Seat) → AreBeginnings m → IsPlayed m log play → slice_get play.seats.items seat ≡ Some s →
    (s.seen ≤ length play.published.items → length play.published.items ≤ length play.published.items →
    now ≡ record { seen = length play.published.items; bus = bus_along s.bus (map making (drop s.seen (take (length play.published.items) play.published.items))) }) →
    later.bus ≡ bus_along now.bus (makings seat changes) → later.seen ≡ length new.published.items →
    map making new.published.items ≡ map making play.published.items ++ makings seat changes → new.ends.items ≡ play.ends.items ++ length new.published.items ∷ [] →
    new.seats.items ≡ slice_set (slice_set play.seats.items seat now) seat later →
    ((lines : List Logged) → AreLines play.log.items lines → AreLines new.log.items (lines ++ told_from now.bus seat (length play.published.items) changes)) →
    (o : Option History) → slice_get m.seen seat ≡ o → may_publish changes o ≡ true → Comes (after_publication m seat changes o) log new
one_publication m log play new seat changes s now later beginnings played there caught bus seen published ends seats logged None known is = absurd (cc is)
one_publication m log play new seat changes s now later beginnings played there caught bus seen published ends seats logged (Some was) known is =
    subst (λ b. Comes (result b) log new) (sym is) (record {
      published = codes;
      ends = ends ∙ (λ i. played.ends i ++ count i ∷ []);
      seats = ap (map sight) (seats ∙ set_twice play.seats.items seat now later) ∙ seats_with m log play seat later history played later_is;
      lines = subst (λ b. AreLines new.log.items (log ++ told_from b seat (length m.published) changes)) bus_is
          (subst (λ n. AreLines new.log.items (log ++ told_from now.bus seat n changes)) place_is (logged log played.lines));
    })
  where
    more : History
    more = next_entries m seat changes

    history : History
    history = m.published ++ more

    result : Bool → Happened
    result b = cond b (having_published m seat history, told_from (bus_after m.opening m.published) seat (length m.published) changes) (nothing_happened m)

    place_is : length play.published.items ≡ length m.published
    place_is = published_length m log play played

    codes : map making new.published.items ≡ map making_of history
    codes = published ∙ ap (λ front. front ++ makings seat changes) played.published
        ∙ ap (λ rest. map making_of m.published ++ rest) (sym (makings_of seat (length (numbers_of seat m.published) + 1) changes)) ∙ sym (map-append making_of m.published more)

    count : length new.published.items ≡ length history
    count = sym (length_map making new.published.items) ∙ ap length codes ∙ length_map making_of history

    all : take (length play.published.items) m.published ≡ m.published
    all = ap (λ n. take n m.published) place_is ∙ take_begun m.published m.published (begins_same m.published)

    within : length play.published.items ≤ length m.published
    within = omega (arith, place_is)

    below : length was ≤ length play.published.items
    below = let le = begins_length was m.published (beginnings.seats seat was known) in omega (arith, le, place_is)

    now_is : sight now ≡ sight_of m.opening m.published
    now_is = seat_caught_up m log play seat (length play.published.items) s now was beginnings played there known below within caught ∙ ap (sight_of m.opening) all

    bus_is : now.bus ≡ bus_after m.opening m.published
    bus_is = ap (λ (x : Sight). x.bus) now_is

    later_bus : later.bus ≡ bus_after m.opening history
    later_bus = bus ∙ ap (λ b. bus_along b (makings seat changes)) bus_is ∙ ap (bus_along (bus_after m.opening m.published)) (sym (makings_of seat (length (numbers_of seat m.published) + 1) changes))
        ∙ along_history (bus_after m.opening m.published) more ∙ sym (after_more m.opening m.published more)

    later_is : sight later ≡ sight_of m.opening history
    later_is = λ i. record { seen = (seen ∙ count) i; bus = later_bus i }
