-- Events, one after the other.
use Rattle.std.proofs.Common.{◌≡◌, ℕ, Bool, Option, Some, None, List, [], ◌∷◌, ◌++◌, Result, Ok, Err, refl, sym, ap, ◌∙◌, subst, append_assoc, append-nil, inl, inr}
use Rattle.std.specs.List.{flat_map, AllByRecursion}
use Rattle.std.proofs.KnownBytes.{Appends-trans}
use Rattle.std.proofs.lemmas.Grind.{flat_map-append}
use Rattle.seq_bus_core.specs.Histories.{History}
use Rattle.router_core.specs.declared.action.Action.{Action}
use Rattle.router_core.specs.declared.cause.CloseCause.{CloseCause}
use Rattle.router_core.specs.declared.event.Event.{Event}
use Rattle.router_core.specs.declared.event.Event.TheVariants.{Opened}
use Rattle.router_core.specs.Acts.{State}
use Rattle.router_core.specs.Deeds.{GatedCall}
use Rattle.busd_core.specs.declared.run_fault.RunFault.{RunFault}
use Rattle.busd_core.specs.declared.run_fault.RunFault.TheVariants as fault
use Rattle.busd_core.specs.Happenings.{written_to, mails_of, closed_by, Happens, AllHappen, IsTimely, AreTimely}
use Rattle.busd_core.specs.Readings.{Reading, reading_of}
use Rattle.busd_core.specs.Sessions.{piece_of, IsLife, IsServing, readings_for, Serves}
use Rattle.busd_core.specs.Parts.{IsBrought, IsCutShort, AreMailedSo, Delivers, HappensSo, IsCarriedOut}
use Rattle.busd_core.proofs.OneThread.{happen_alike}

module _ {N G : Type 0} (told : N → History) (passes : G → GatedCall → G → Type 0) (alone : Bool) (seat key : ℕ) where
  -- ## One event

  carried_so : (registry_of : N → ℕ) (a b c : State G) (event : Event N) (actions : List (Action N)) (o p : Option (List ℕ)) (later : List ℕ) (result : Result (Unit {0}) RunFault) →
      IsBrought told registry_of passes alone key a event actions o p b → closed_by key actions ≡ None → AreMailedSo told passes alone seat key b (mails_of seat actions) later c result →
      HappensSo told passes alone seat key a event (written_to key actions ++ later) c result
  carried_so registry_of a b c event actions o p later (Ok u) first unclosed rest =
      record { actions = actions; between = b; later = later; serves = first.serves; is_open = unclosed; mailed = rest; writes = refl }
  carried_so registry_of a b c event actions o p later (Err fault.Output) first unclosed rest =
      (rest.0, record { actions = actions; between = b; come = rest.1.0; left = rest.1.1; later = later ++ rest.0; serves = first.serves; put = rest.1.2; mailed = rest.1.3; writes = append_assoc (written_to key actions) later rest.0 })
  carried_so registry_of a b c event actions o p later (Err fault.Memory) first unclosed rest =
      inr (record { actions = actions; between = b; come = rest.0; left = rest.1; later = later ++ []; serves = first.serves; put = rest.2; mailed = rest.3; writes = append_assoc (written_to key actions) later [] })
  carried_so registry_of a b c event actions o p later (Err fault.Input) first unclosed rest = absurd rest
  carried_so registry_of a b c event actions o p later (Err (fault.Closed cause)) first unclosed rest = absurd rest

  pub carried_out : (registry_of : N → ℕ) (a b c : State G) (event : Event N) (actions : List (Action N)) (o p q : Option (List ℕ)) (result : Result (Unit {0}) RunFault) → IsBrought told registry_of passes alone key a event actions o p b →
      closed_by key actions ≡ None → Delivers told passes alone seat key b (mails_of seat actions) p q c result → IsCarriedOut told passes alone seat key a event o q c result
  carried_out registry_of a b c event actions o p q result first unclosed rest =
      (written_to key actions ++ rest.0, Appends-trans o p q (written_to key actions) rest.0 first.appends rest.1, carried_so registry_of a b c event actions o p rest.0 result first unclosed rest.2)

  pub closes : (registry_of : N → ℕ) (a b : State G) (event : Event N) (actions : List (Action N)) (cause : CloseCause) (o p : Option (List ℕ)) → IsBrought told registry_of passes alone key a event actions o p b →
      closed_by key actions ≡ Some cause → IsCarriedOut told passes alone seat key a event o p b (Err (fault.Closed cause))
  closes registry_of a b event actions cause o p first is =
      (written_to key actions, first.appends, record { actions = actions; serves = first.serves; closes = is; writes = refl })

  pub cut_short : (registry_of : N → ℕ) (a b : State G) (event : Event N) (o p : Option (List ℕ)) (e : RunFault) → IsCutShort told registry_of passes alone key a event o p b e → IsCarriedOut told passes alone seat key a event o p b (Err e)
  cut_short registry_of a b event o p fault.Memory h = ([], h.1, inl (h.0, refl))
  cut_short registry_of a b event o p fault.Output h =
      (h.1, h.6, (h.2, record { actions = h.0; between = b; come = []; left = mails_of seat h.0; later = []; serves = h.4; put = refl; mailed = (refl, refl); writes = sym h.5 ∙ sym (append-nil (written_to key h.0)) }))
  cut_short registry_of a b event o p fault.Input h = absurd h
  cut_short registry_of a b event o p (fault.Closed cause) h = absurd h

  -- ## Events so far

  abbrev pub all_then : (a b c : State G) (events : List (Event N)) (event : Event N) (first last : List ℕ) → AllHappen told passes alone seat key a events first b → Happens told passes alone seat key b event last c →
      AllHappen told passes alone seat key a (events ++ event ∷ []) (first ++ last) c
  all_then a b c [] event first last f g =
      let here : Happens told passes alone seat key a event last c = subst (λ (s : State G). Happens told passes alone seat key s event last c) f.0 g in
      (c, last, [], here, (refl, refl), ap (λ (w : List ℕ). w ++ last) f.1 ∙ sym (append-nil last))
  all_then a b c (e ∷ events) event first last f g =
      (f.0, f.1, f.2 ++ last, f.3, all_then f.0 b c events event f.2 last f.4 g, ap (λ (w : List ℕ). w ++ last) f.5 ∙ append_assoc f.1 f.2 last)

  pub timely_then : (a b c : State G) (events : List (Event N)) (event : Event N) (first last : List ℕ) (f : AllHappen told passes alone seat key a events first b) (g : Happens told passes alone seat key b event last c) →
      AreTimely told passes alone seat key a events first b f → IsTimely key b event →
      AreTimely told passes alone seat key a (events ++ event ∷ []) (first ++ last) c (all_then a b c events event first last f g)
  timely_then a b c [] event first last f g all now = (subst (λ (s : State G). IsTimely key s event) f.0 now, tt)
  timely_then a b c (e ∷ events) event first last f g all now = (all.0, timely_then f.0 b c events event f.2 last f.4 g all.1 now)

  pub readings_then : (held : List ℕ) (a b c : State G) (events : List (Event N)) (event : Event N) (first last : List ℕ) (f : AllHappen told passes alone seat key a events first b) (g : Happens told passes alone seat key b event last c) →
      readings_for told passes alone seat key held a (events ++ event ∷ []) (first ++ last) c (all_then a b c events event first last f g)
      ≡ readings_for told passes alone seat key held a events first b f ++ reading_of (held ++ first) (piece_of event)
  readings_then held a b c [] event first last f g =
      append-nil (reading_of held (piece_of event))
      ∙ ap (λ (bytes : List ℕ). reading_of bytes (piece_of event)) (sym (append-nil held) ∙ ap (λ (bytes : List ℕ). held ++ bytes) (sym f.1))
  readings_then held a b c (e ∷ events) event first last f g =
      let here : List Reading = reading_of held (piece_of e) in
      let more : List Reading = readings_for told passes alone seat key (held ++ f.1) f.0 events f.2 b f.4 in
      ap (λ (l : List Reading). here ++ l) (readings_then (held ++ f.1) f.0 b c events event f.2 last f.4 g)
      ∙ sym (append_assoc here more (reading_of ((held ++ f.1) ++ f.2) (piece_of event)))
      ∙ ap (λ (bytes : List ℕ). (here ++ more) ++ reading_of bytes (piece_of event)) (append_assoc held f.1 f.2 ∙ ap (λ (bytes : List ℕ). held ++ bytes) (sym f.5))

  pub all_serving : (events : List (Event N)) (event : Event N) → AllByRecursion (IsServing key) events → IsServing key event → AllByRecursion (IsServing key) (events ++ event ∷ [])
  all_serving [] event h is = (is, tt)
  all_serving (e ∷ events) event h is = (h.0, all_serving events event h.1 is)

  abbrev pub serves_so : (before : State G) (events : List (Event N)) (read written : List ℕ) (after : State G) → IsLife key events → (happen : AllHappen told passes alone seat key before events written after) →
      AreTimely told passes alone seat key before events written after happen → read ≡ flat_map piece_of events → Serves told passes alone seat key before events read written after
  serves_so before events read written after life happen timely reads =
      record { life = life; happen = happen; timely = timely; reads = reads; one_thread = λ is granted start end others again same also. happen_alike told passes alone seat key before after start end events written others happen again is same granted also }

  -- what was read and written since the connection came
  pub record IsUnderWay (before after : State G) (read written : List ℕ) : Type 0 where
    pub later : List (Event N)
    pub serves : Serves told passes alone seat key before (Opened key None ∷ later) read written after

  abbrev pub comes_first : (before after : State G) (written : List ℕ) → Happens told passes alone seat key before (Opened key None) written after → IsUnderWay before after [] written
  comes_first before after written h =
      record { later = []; serves = serves_so before (Opened key None ∷ []) [] written after (refl, tt) (after, written, [], h, (refl, refl), sym (append-nil written)) (tt, tt) refl }

  abbrev pub goes_on : (before between after : State G) (event : Event N) (read written more : List ℕ) → IsUnderWay before between read written → IsServing key event → IsTimely key between event →
      Happens told passes alone seat key between event more after → IsUnderWay before after (read ++ piece_of event) (written ++ more)
  goes_on before between after event read written more h is timely happens =
      record {
        later = h.later ++ event ∷ [];
        serves = serves_so before (Opened key None ∷ (h.later ++ event ∷ [])) (read ++ piece_of event) (written ++ more) after
            (h.serves.life.0, all_serving h.later event h.serves.life.1 is)
            (all_then before between after (Opened key None ∷ h.later) event written more h.serves.happen happens)
            (timely_then before between after (Opened key None ∷ h.later) event written more h.serves.happen happens h.serves.timely timely)
            (ap (λ (l : List ℕ). l ++ piece_of event) h.serves.reads
            ∙ ap (λ (l : List ℕ). flat_map piece_of (Opened key None ∷ h.later) ++ l) (sym (append-nil (piece_of event)))
            ∙ sym (flat_map-append piece_of (Opened key None ∷ h.later) (event ∷ [])));
      }
