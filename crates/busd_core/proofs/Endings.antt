-- How a run goes on, and how it ends.
use Rattle.std.proofs.Common.{◌≡◌, ◌⊎◌, ℕ, Bool, Option, None, List, [], ◌∷◌, ◌++◌, Result, Ok, Err, OnOk, refl, sym, ap, ◌∙◌, subst, append-nil, inl, inr}
use Rattle.std.specs.Io.KnownBytes.{Consumes, Appends}
use Rattle.std.proofs.KnownBytes.{Consumes-nil, Consumes-trans, Appends-nil, Appends-trans}
use Rattle.seq_bus_core.specs.Histories.{History}
use Rattle.router_core.specs.declared.event.Event.{Event}
use Rattle.router_core.specs.declared.event.Event.TheVariants.{Opened, Bytes, Closed}
use Rattle.router_core.specs.Acts.{IsNextKey, State}
use Rattle.router_core.specs.Deeds.{GatedCall}
use Rattle.router.specs.Upcoming.{HasNoNext}
use Rattle.busd_core.specs.declared.run_fault.RunFault.{RunFault}
use Rattle.busd_core.specs.declared.run_fault.RunFault.TheVariants as fault
use Rattle.busd_core.specs.Readings.{Reading, reading_of, Notes, IsRead}
use Rattle.busd_core.specs.Happenings.{IsTimely}
use Rattle.busd_core.specs.Sessions.{piece_of, IsServing, IsOf, readings_in, Serves, Ends, readings_until, Runs}
use Rattle.busd_core.specs.Parts.{LosesPiece, HappensSo, IsCarriedOut}
use Rattle.busd_core.proofs.Courses.{IsUnderWay, comes_first, goes_on, readings_then, serves_so}
use Rattle.busd_core.proofs.Noting.{notes_nothing, notes_so, notes_then}

pub on_ok_given : {A E : Type 0} (result : Result A E) (P : Type 0) → P → OnOk result P
on_ok_given (Ok x) P p = p
on_ok_given (Err e) P p = tt

module _ {N G : Type 0} (told : N → History) (passes : G → GatedCall → G → Type 0) (alone : Bool) (seat key : ℕ) where
  -- ## By what was read and written

  -- What an event brings is lost only where nothing else was left to be served.
  lost_so : (s : State G) (event : Event N) → IsTimely key s event → (piece_of event ≡ []) ⊎ HasNoNext s.standing key
  lost_so s (Bytes of piece) timely = inr timely
  lost_so s other timely = inl refl

  -- It ends so, and this was read until then.
  abbrev EndsBy : State G → State G → (read written : List ℕ) → Result (Unit {0}) RunFault → (List ℕ → List Reading) → Type 0
  EndsBy a c read written result readings =
      (ends : Ends told passes alone seat key a c read written result) × ((held : List ℕ) → readings_until told passes alone seat key held a c read written result ends ≡ readings held)

  -- what was read until an event, and for it
  abbrev read_until : {a b : State G} {events : List (Event N)} {fed first : List ℕ} → Serves told passes alone seat key a events fed first b → (piece held : List ℕ) → List Reading
  read_until {first = first} h piece held = readings_in told passes alone seat key held h ++ reading_of (held ++ first) piece

  ends_at : (a b c : State G) (events : List (Event N)) (event : Event N) (fed first last : List ℕ) (e : RunFault) (h : Serves told passes alone seat key a events fed first b) → IsOf key event → IsTimely key b event →
      HappensSo told passes alone seat key b event last c (Err e) → EndsBy a c (fed ++ piece_of event) (first ++ last) (Err e) (read_until h (piece_of event))
  ends_at a b c events event fed first last (fault.Closed cause) h is timely so =
      (record { events = events; event = event; between = b; fed = fed; first = first; last = last; serves = h; is_of = is; timely = timely; ends = so; reads = refl; writes = refl }, λ held. refl)
  ends_at a b c events event fed first last fault.Output h is timely so =
      (record { events = events; event = event; between = b; fed = fed; first = first; last = last; serves = h; is_of = is; timely = timely; ends = so; reads = refl; writes = refl }, λ held. refl)
  ends_at a b c events event fed first last fault.Memory h is timely (inl nothing) =
      let here : EndsBy a b (fed ++ piece_of event) first (Err fault.Memory) (read_until h (piece_of event)) =
      (inl (events, fed, piece_of event, h, refl, lost_so b event timely), λ held. refl) in
      let same : first ≡ first ++ last = sym (append-nil first) ∙ ap (λ (l : List ℕ). first ++ l) (sym nothing.1) in
      subst (λ (s : State G). EndsBy a s (fed ++ piece_of event) (first ++ last) (Err fault.Memory) (read_until h (piece_of event))) (sym nothing.0)
      (subst (λ (w : List ℕ). EndsBy a b (fed ++ piece_of event) w (Err fault.Memory) (read_until h (piece_of event))) same here)
  ends_at a b c events event fed first last fault.Memory h is timely (inr breaks) =
      (inr (record { events = events; event = event; between = b; fed = fed; first = first; last = last; serves = h; is_of = is; timely = timely; ends = breaks; reads = refl; writes = refl }), λ held. refl)
  ends_at a b c events event fed first last fault.Input h is timely so = absurd so

  goes : (a b c : State G) (later : List (Event N)) (read first last : List ℕ) (result : Result (Unit {0}) RunFault) (h : Serves told passes alone seat key a (Opened key None ∷ later) read first b) →
      HasNoNext b.standing key → HappensSo told passes alone seat key b (Closed key) last c result → EndsBy a c (read ++ []) (first ++ last) result (λ held. readings_in told passes alone seat key held h)
  goes a b c later read first last (Ok u) h quiet so =
      let here : Serves told passes alone seat key a (Opened key None ∷ later) (read ++ []) first b =
      record { life = h.life; happen = h.happen; timely = h.timely; reads = append-nil read ∙ h.reads; one_thread = h.one_thread } in
      (record { later = later; between = b; first = first; last = last; serves = here; quiet = quiet; goes = so; writes = refl }, λ held. refl)
  goes a b c later read first last (Err e) h quiet so =
      let ends = ends_at a b c (Opened key None ∷ later) (Closed key) read first last e h refl quiet so in
      (ends.0, λ held. ends.1 held ∙ append-nil (readings_in told passes alone seat key held h))

  -- ## By what is known of the reader and the writer

  -- What was read is r before and q now, as noted n and m; what was written is w and v.
  pub record HasServed (a : State G) (r q : Option (List ℕ)) (n m : Option (List Reading)) (w v : Option (List ℕ)) (b : State G) : Type 0 where
    pub read : List ℕ
    pub written : List ℕ
    pub consumed : Consumes r q read
    pub appended : Appends w v written
    pub under_way : IsUnderWay told passes alone seat key a b read written
    pub noted : Notes w n m (λ held. readings_in told passes alone seat key held under_way.serves)

  -- all turns are over
  pub rests : (a b : State G) (r q : Option (List ℕ)) (n m : Option (List Reading)) (w v : Option (List ℕ)) → IsNextKey a key → HasServed a r q n m w v b → Runs told passes alone seat a b r q n m w v (Err fault.Memory)
  rests a b r q n m w v free h = (
    key,
    h.read,
    h.written,
    free,
    h.consumed,
    h.appended,
    inl (Opened key None ∷ h.under_way.later, h.read, [], h.under_way.serves, sym (append-nil h.read), inl refl),
    notes_so w n m (λ held. readings_in told passes alone seat key held h.under_way.serves) (read_until h.under_way.serves [])
        (λ held. sym (append-nil (readings_in told passes alone seat key held h.under_way.serves))) h.noted,
  )

  pub begins : (a b : State G) (r : Option (List ℕ)) (n : Option (List Reading)) (w v : Option (List ℕ)) → IsCarriedOut told passes alone seat key a (Opened key None) w v b (Ok tt) → HasServed a r r n n w v b
  begins a b r n w v h =
      record { read = []; written = h.0; consumed = Consumes-nil r; appended = h.1; under_way = comes_first told passes alone seat key a b h.0 h.2; noted = notes_nothing w n }

  pub begins_not : (a b : State G) (r : Option (List ℕ)) (n : Option (List Reading)) (w v : Option (List ℕ)) (e : RunFault) → IsNextKey a key → IsCarriedOut told passes alone seat key a (Opened key None) w v b (Err e) →
      Runs told passes alone seat a b r r n n w v (Err e)
  begins_not a b r n w v e free h =
      let none : Serves told passes alone seat key a [] [] [] a = serves_so told passes alone seat key a [] [] [] a tt (refl, refl) tt refl in
      let ends = ends_at a a b [] (Opened key None) [] [] h.0 e none (refl, refl) tt h.2 in
      let noted = notes_so w n n (λ held. []) (λ held. readings_until told passes alone seat key held a b [] h.0 (Err e) ends.0) (λ held. sym (ends.1 held)) (notes_nothing w n) in
      (key, [], h.0, free, Consumes-nil r, h.1, ends.0, noted)

  -- It did nothing.
  pub never_begins : (a : State G) (r : Option (List ℕ)) (n : Option (List Reading)) (w : Option (List ℕ)) → IsNextKey a key → Runs told passes alone seat a a r r n n w w (Err fault.Memory)
  never_begins a r n w free =
      let none : Serves told passes alone seat key a [] [] [] a = serves_so told passes alone seat key a [] [] [] a tt (refl, refl) tt refl in
      (key, [], [], free, Consumes-nil r, Appends-nil w, inl ([], [], [], none, refl, inl refl), notes_nothing w n)

  pub serves_on : (a b c : State G) (r q p : Option (List ℕ)) (n m l : Option (List Reading)) (w v u : Option (List ℕ)) (event : Event N) → HasServed a r q n m w v b → IsServing key event → IsTimely key b event →
      IsRead v q p m l (piece_of event) → IsCarriedOut told passes alone seat key b event v u c (Ok tt) → HasServed a r p n l w u c
  serves_on a b c r q p n m l w v u event h is timely got so =
      let under_way : IsUnderWay told passes alone seat key a c (h.read ++ piece_of event) (h.written ++ so.0) =
      goes_on told passes alone seat key a b c event h.read h.written so.0 h.under_way is timely so.2 in
      let noted = notes_then w v n m l (λ held. readings_in told passes alone seat key held h.under_way.serves) h.written (piece_of event) h.appended h.noted got.1 in
      record {
        read = h.read ++ piece_of event;
        written = h.written ++ so.0;
        consumed = Consumes-trans r q p h.read (piece_of event) h.consumed got.0;
        appended = Appends-trans w v u h.written so.0 h.appended so.1;
        under_way = under_way;
        noted = notes_so w n l (read_until h.under_way.serves (piece_of event)) (λ held. readings_in told passes alone seat key held under_way.serves)
            (λ held. sym (readings_then told passes alone seat key held a b c (Opened key None ∷ h.under_way.later) event h.written so.0 h.under_way.serves.happen so.2)) noted;
      }

  pub stops : (a b c : State G) (r q p : Option (List ℕ)) (n m l : Option (List Reading)) (w v u : Option (List ℕ)) (event : Event N) (e : RunFault) → IsNextKey a key → HasServed a r q n m w v b → IsOf key event → IsTimely key b event →
      IsRead v q p m l (piece_of event) → IsCarriedOut told passes alone seat key b event v u c (Err e) → Runs told passes alone seat a c r p n l w u (Err e)
  stops a b c r q p n m l w v u event e free h is timely got so =
      let ends = ends_at a b c (Opened key None ∷ h.under_way.later) event h.read h.written so.0 e h.under_way.serves is timely so.2 in
      let noted = notes_then w v n m l (λ held. readings_in told passes alone seat key held h.under_way.serves) h.written (piece_of event) h.appended h.noted got.1 in (
        key,
        h.read ++ piece_of event,
        h.written ++ so.0,
        free,
        Consumes-trans r q p h.read (piece_of event) h.consumed got.0,
        Appends-trans w v u h.written so.0 h.appended so.1,
        ends.0,
        notes_so w n l (read_until h.under_way.serves (piece_of event)) (λ held. readings_until told passes alone seat key held a c (h.read ++ piece_of event) (h.written ++ so.0) (Err e) ends.0)
            (λ held. sym (ends.1 held)) noted,
      )

  pub is_gone : (a b c : State G) (r q p : Option (List ℕ)) (n m l : Option (List Reading)) (w v u : Option (List ℕ)) (result : Result (Unit {0}) RunFault) → IsNextKey a key → HasServed a r q n m w v b → HasNoNext b.standing key →
      IsRead v q p m l [] → IsCarriedOut told passes alone seat key b (Closed key) v u c result → Runs told passes alone seat a c r p n l w u result
  is_gone a b c r q p n m l w v u result free h quiet got so =
      let ends = goes a b c h.under_way.later h.read h.written so.0 result h.under_way.serves quiet so.2 in
      let noted = notes_then w v n m l (λ held. readings_in told passes alone seat key held h.under_way.serves) h.written [] h.appended h.noted got.1 in (
        key,
        h.read ++ [],
        h.written ++ so.0,
        free,
        Consumes-trans r q p h.read [] h.consumed got.0,
        Appends-trans w v u h.written so.0 h.appended so.1,
        ends.0,
        notes_so w n l (read_until h.under_way.serves []) (λ held. readings_until told passes alone seat key held a c (h.read ++ []) (h.written ++ so.0) result ends.0)
            (λ held. append-nil (readings_in told passes alone seat key held h.under_way.serves) ∙ sym (ends.1 held)) noted,
      )

  pub loses : (a b : State G) (r q p : Option (List ℕ)) (n m l : Option (List Reading)) (w v : Option (List ℕ)) (e : RunFault) → IsNextKey a key → HasServed a r q n m w v b → HasNoNext b.standing key → LosesPiece v q p m l e →
      Runs told passes alone seat a b r p n l w v (Err e)
  loses a b r q p n m l w v fault.Input free h quiet got =
      let all : Consumes r p h.read = subst (Consumes r p) (append-nil h.read) (Consumes-trans r q p h.read [] h.consumed got.0) in
      let noted = notes_then w v n m l (λ held. readings_in told passes alone seat key held h.under_way.serves) h.written [] h.appended h.noted got.1 in (
        key,
        h.read,
        h.written,
        free,
        all,
        h.appended,
        (h.under_way.later, h.under_way.serves, quiet),
        notes_so w n l (read_until h.under_way.serves []) (λ held. readings_in told passes alone seat key held h.under_way.serves)
            (λ held. append-nil (readings_in told passes alone seat key held h.under_way.serves)) noted,
      )
  loses a b r q p n m l w v fault.Memory free h quiet lost = (
    key,
    h.read ++ lost.0,
    h.written,
    free,
    Consumes-trans r q p h.read lost.0 h.consumed lost.1.0,
    h.appended,
    inl (Opened key None ∷ h.under_way.later, h.read, lost.0, h.under_way.serves, refl, inr quiet),
    notes_then w v n m l (λ held. readings_in told passes alone seat key held h.under_way.serves) h.written lost.0 h.appended h.noted lost.1.1,
  )
  loses a b r q p n m l w v fault.Output free h quiet lost = absurd lost
  loses a b r q p n m l w v (fault.Closed cause) free h quiet lost = absurd lost
