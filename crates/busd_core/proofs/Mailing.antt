-- Deliveries, one after the other.
use Rattle.std.proofs.Common.{◌≡◌, ℕ, ◌+◌, ◌<◌, Bool, Option, List, [], ◌∷◌, ◌++◌, length, get_or, take, drop, Result, Ok, Err, sym, ap, ◌∙◌, subst, append_assoc, append-nil}
use Rattle.std.specs.List.{flat_map}
use Rattle.std.proofs.KnownBytes.{Appends-trans}
use Rattle.std.proofs.lemmas.Grind.{flat_map-append}
use Rattle.seq_bus_core.specs.Histories.{History}
use Rattle.router_core.specs.Acts.{State}
use Rattle.router_core.specs.Deeds.{GatedCall}
use Rattle.busd_core.specs.declared.run_fault.RunFault.{RunFault}
use Rattle.busd_core.specs.declared.run_fault.RunFault.TheVariants as fault
use Rattle.busd_core.specs.Happenings.{Delivery, AreMailed}
use Rattle.busd_core.specs.Parts.{AreMailedInPart, AreMailedSo, Delivers}
use Rattle.busd_core.proofs.Each.{one_more, split_at}

module _ {N G : Type 0} (told : N → History) (passes : G → GatedCall → G → Type 0) (alone : Bool) (seat key : ℕ) where
  abbrev Mailed : State G → List Delivery → List ℕ → State G → Type 0
  Mailed before deliveries written after = AreMailed told passes alone seat key before deliveries written after

  pub mailed_then : (a b c : State G) (ds es : List Delivery) (first later : List ℕ) → Mailed a ds first b → Mailed b es later c → Mailed a (ds ++ es) (first ++ later) c
  mailed_then a b c [] es first later f g =
      subst (λ (w : List ℕ). Mailed a es (w ++ later) c) (sym f.1) (subst (λ (s : State G). Mailed s es later c) f.0 g)
  mailed_then a b c (d ∷ ds) es first later f g =
      (f.0, f.1, f.2 ++ later, f.3, mailed_then f.0 b c ds es f.2 later f.4 g, ap (λ (w : List ℕ). w ++ later) f.5 ∙ append_assoc f.1 f.2 later)

  -- ## With a fault, perhaps

  in_part_then : (a b c : State G) (ds es : List Delivery) (first later missing : List ℕ) → Mailed a ds first b → AreMailedInPart told passes alone seat key b es later missing c →
      AreMailedInPart told passes alone seat key a (ds ++ es) (first ++ later) missing c
  in_part_then a b c ds es first later missing f g = (
    ds ++ g.0,
    g.1,
    ap (λ (l : List Delivery). ds ++ l) g.2 ∙ sym (append_assoc ds g.0 g.1),
    subst (λ (w : List ℕ). Mailed a (ds ++ g.0) w c) (sym (append_assoc first later missing)) (mailed_then a b c ds g.0 first (later ++ missing) f g.3),
  )

  in_part_front : (a b : State G) (ds es : List Delivery) (written missing : List ℕ) → AreMailedInPart told passes alone seat key a ds written missing b →
      AreMailedInPart told passes alone seat key a (ds ++ es) written missing b
  in_part_front a b ds es written missing f = (f.0, f.1 ++ es, ap (λ (l : List Delivery). l ++ es) f.2 ∙ append_assoc f.0 f.1 es, f.3)

  mailed_so_then : (a b c : State G) (ds es : List Delivery) (first later : List ℕ) (result : Result (Unit {0}) RunFault) → Mailed a ds first b → AreMailedSo told passes alone seat key b es later c result →
      AreMailedSo told passes alone seat key a (ds ++ es) (first ++ later) c result
  mailed_so_then a b c ds es first later (Ok u) f g = mailed_then a b c ds es first later f g
  mailed_so_then a b c ds es first later (Err fault.Output) f g = (g.0, in_part_then a b c ds es first later g.0 f g.1)
  mailed_so_then a b c ds es first later (Err fault.Memory) f g = in_part_then a b c ds es first later [] f g
  mailed_so_then a b c ds es first later (Err fault.Input) f g = absurd g
  mailed_so_then a b c ds es first later (Err (fault.Closed cause)) f g = absurd g

  mailed_so_front : (a b : State G) (ds es : List Delivery) (written : List ℕ) (e : RunFault) → AreMailedSo told passes alone seat key a ds written b (Err e) → AreMailedSo told passes alone seat key a (ds ++ es) written b (Err e)
  mailed_so_front a b ds es written fault.Output f = (f.0, in_part_front a b ds es written f.0 f.1)
  mailed_so_front a b ds es written fault.Memory f = in_part_front a b ds es written [] f
  mailed_so_front a b ds es written fault.Input f = absurd f
  mailed_so_front a b ds es written (fault.Closed cause) f = absurd f

  -- ## With a writer

  pub delivers_then : (a b c : State G) (ds es : List Delivery) (o p q : Option (List ℕ)) (result : Result (Unit {0}) RunFault) → Delivers told passes alone seat key a ds o p b (Ok tt) →
      Delivers told passes alone seat key b es p q c result → Delivers told passes alone seat key a (ds ++ es) o q c result
  delivers_then a b c ds es o p q result f g =
      (f.0 ++ g.0, Appends-trans o p q f.0 g.0 f.1 g.1, mailed_so_then a b c ds es f.0 g.0 result f.2 g.2)

  pub delivers_front : (a b : State G) (ds es : List Delivery) (o p : Option (List ℕ)) (e : RunFault) → Delivers told passes alone seat key a ds o p b (Err e) → Delivers told passes alone seat key a (ds ++ es) o p b (Err e)
  delivers_front a b ds es o p e f = (f.0, f.1, mailed_so_front a b ds es f.0 e f.2)

  -- ## For each of several

  module _ {X : Type 0} (f : X → List Delivery) (xs : List X) (i : ℕ) where
    -- what the first bring
    abbrev pub front : List Delivery
    front = flat_map f (take i xs)

    pub each_more : (x d : X) → i < length xs → x ≡ get_or xs i d → (a b c : State G) (o p q : Option (List ℕ)) → Delivers told passes alone seat key a front o p b (Ok tt) →
        Delivers told passes alone seat key b (f x) p q c (Ok tt) → Delivers told passes alone seat key a (flat_map f (take (i + 1) xs)) o q c (Ok tt)
    each_more x d inside is a b c o p q g h =
        subst (λ (ds : List Delivery). Delivers told passes alone seat key a ds o q c (Ok tt)) (sym (one_more f xs i x d inside is)) (delivers_then a b c front (f x) o p q (Ok tt) g h)

    pub each_stops : (x d : X) → i < length xs → x ≡ get_or xs i d → (a b c : State G) (o p q : Option (List ℕ)) (e : RunFault) → Delivers told passes alone seat key a front o p b (Ok tt) →
        Delivers told passes alone seat key b (f x) p q c (Err e) → Delivers told passes alone seat key a (flat_map f xs) o q c (Err e)
    each_stops x d inside is a b c o p q e g h =
        subst (λ (ds : List Delivery). Delivers told passes alone seat key a ds o q c (Err e)) (sym (split_at f xs i x d inside is))
        (delivers_front a c (front ++ f x) (flat_map f (drop (i + 1) xs)) o q e (delivers_then a b c front (f x) o p q (Err e) g h))

  -- ## For each that an iterator gives

  module _ {X : Type 0} (f : X → List Delivery) (given : List X) (x : X) where
    pub given_more : (a b c : State G) (o p q : Option (List ℕ)) → Delivers told passes alone seat key a (flat_map f given) o p b (Ok tt) → Delivers told passes alone seat key b (f x) p q c (Ok tt) →
        Delivers told passes alone seat key a (flat_map f (given ++ x ∷ [])) o q c (Ok tt)
    given_more a b c o p q g h =
        subst (λ (ds : List Delivery). Delivers told passes alone seat key a ds o q c (Ok tt))
        (sym (flat_map-append f given (x ∷ []) ∙ ap (λ (ds : List Delivery). flat_map f given ++ ds) (append-nil (f x))))
        (delivers_then a b c (flat_map f given) (f x) o p q (Ok tt) g h)

    pub given_stops : (left all : List X) → all ≡ given ++ x ∷ left → (a b c : State G) (o p q : Option (List ℕ)) (e : RunFault) → Delivers told passes alone seat key a (flat_map f given) o p b (Ok tt) →
        Delivers told passes alone seat key b (f x) p q c (Err e) → Delivers told passes alone seat key a (flat_map f all) o q c (Err e)
    given_stops left all is a b c o p q e g h =
        subst (λ (ds : List Delivery). Delivers told passes alone seat key a ds o q c (Err e))
        (sym (ap (λ (xs : List X). flat_map f xs) is ∙ flat_map-append f given (x ∷ left)))
        (delivers_then a b c (flat_map f given) (f x ++ flat_map f left) o p q (Err e) g (delivers_front b c (f x) (flat_map f left) p q e h))
