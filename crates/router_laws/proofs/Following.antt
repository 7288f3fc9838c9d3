-- Scripts that do the same where other bytes are read.
use Rattle.std.proofs.Common.{◌≡◌, Bool, true, false, List, [], ◌∷◌, ◌++◌, refl, sym, ap, ◌∙◌, subst, append_assoc}
use Rattle.bus_view.specs.Views.{Knowledge}
use Rattle.driver.specs.declared.call.Call.{Call}
use Rattle.driver.specs.Calls.{Reading}
use Rattle.message_core.specs.Messages.{Message}
use Rattle.router_core.specs.Acts.{Exchange, Changed, ChangedAll, Asked, Routed, AskedPresence, Noted, Framed, Called, Gated, Wanted, Goes, IsGranted, IsLawful}
use Rattle.router_core.specs.Deeds.{Deed, puts_of_signals}
use Rattle.router_core.specs.Scripts.{Script, Gives, Changing, ChangingAll, Asking, Routing, AskingPresence, Noting, Framing, Calling, Gating, Wanting, Requiring, Doing, Announcing, and_then}
use Rattle.router_core.proofs.Grants.{granted_parts}
use Rattle.router.proofs.Feeding.{seen_as}
use Rattle.router_laws.proofs.Joining.{granted_append}
use Rattle.router_laws.proofs.Results.{Always, of_result}

-- ## One script behind another

-- what is asked and done first, and what later
pub record Split {X Y : Type 0} (s : Script X) (next : X → Script Y) (asked : List Exchange) (deeds : List Deed) (y : Y) : Type 0 where
  pub first : List Exchange
  pub later : List Exchange
  pub did : List Deed
  pub does : List Deed
  pub between : X
  pub goes : Goes s first did between
  pub goes_on : Goes (next between) later does y
  pub asked_is : asked ≡ first ++ later
  pub deeds_is : deeds ≡ did ++ does

module _ {X Y : Type 0} (next : X → Script Y) where
  asked_before : {asked : List Exchange} {deeds : List Deed} {y : Y} (e : Exchange) (s t : Script X) (later : List Exchange) → asked ≡ e ∷ later → Split s next later deeds y →
      ((first : List Exchange) (did : List Deed) (x : X) → Goes s first did x → Goes t (e ∷ first) did x) → Split t next asked deeds y
  asked_before e s t later is a goes = record {
    first = e ∷ a.first;
    later = a.later;
    did = a.did;
    does = a.does;
    between = a.between;
    goes = goes a.first a.did a.between a.goes;
    goes_on = a.goes_on;
    asked_is = is ∙ ap (λ (l : List Exchange). e ∷ l) a.asked_is;
    deeds_is = a.deeds_is;
  }

  pub split : (s : Script X) (asked : List Exchange) (deeds : List Deed) (y : Y) → Goes (and_then s next) asked deeds y → Split s next asked deeds y
  split (Gives x) asked deeds y h = record { first = []; later = asked; did = []; does = deeds; between = x; goes = (refl, refl, refl); goes_on = h; asked_is = refl; deeds_is = refl }
  split (Changing change goes_on) asked deeds y h =
      asked_before (Changed change h.0) (goes_on h.0) (Changing change goes_on) h.1 h.2 (split (goes_on h.0) h.1 deeds y h.3) (λ first did x g. (h.0, first, refl, g))
  split (ChangingAll changes goes_on) asked deeds y h =
      asked_before (ChangedAll changes h.0) (goes_on h.0) (ChangingAll changes goes_on) h.1 h.2 (split (goes_on h.0) h.1 deeds y h.3) (λ first did x g. (h.0, first, refl, g))
  split (Asking query goes_on) asked deeds y h =
      asked_before (Asked query h.0) (goes_on h.0) (Asking query goes_on) h.1 h.2 (split (goes_on h.0) h.1 deeds y h.3) (λ first did x g. (h.0, first, refl, g))
  split (Routing from facts goes_on) asked deeds y h =
      asked_before (Routed from facts h.0) (goes_on h.0) (Routing from facts goes_on) h.1 h.2 (split (goes_on h.0) h.1 deeds y h.3) (λ first did x g. (h.0, first, refl, g))
  split (AskingPresence number goes_on) asked deeds y h =
      asked_before (AskedPresence number h.0) (goes_on h.0) (AskingPresence number goes_on) h.1 h.2 (split (goes_on h.0) h.1 deeds y h.3) (λ first did x g. (h.0, first, refl, g))
  split (Noting told s) asked deeds y h = asked_before (Noted told) s (Noting told s) h.0 h.1 (split s h.0 deeds y h.2) (λ first did x g. (first, refl, g))
  split (Framing bytes goes_on) asked deeds y h =
      asked_before (Framed bytes h.0) (goes_on h.0) (Framing bytes goes_on) h.1 h.2 (split (goes_on h.0) h.1 deeds y h.3) (λ first did x g. (h.0, first, refl, g))
  split (Calling m goes_on) asked deeds y h =
      asked_before (Called m h.0) (goes_on h.0) (Calling m goes_on) h.1 h.2 (split (goes_on h.0) h.1 deeds y h.3) (λ first did x g. (h.0, first, refl, g))
  split (Gating call s) asked deeds y h = asked_before (Gated h.0 call) s (Gating call s) h.1 h.2 (split s h.1 deeds y h.3) (λ first did x g. (h.0, first, refl, g))
  split (Wanting goes_on) asked deeds y h =
      asked_before (Wanted h.0) (goes_on h.0) (Wanting goes_on) h.1 h.2 (split (goes_on h.0) h.1 deeds y h.3) (λ first did x g. (h.0, first, refl, g))
  split (Requiring holds s) asked deeds y h =
      let a = split s asked deeds y h.1 in
      record {
        first = a.first;
        later = a.later;
        did = a.did;
        does = a.does;
        between = a.between;
        goes = (h.0, a.goes);
        goes_on = a.goes_on;
        asked_is = a.asked_is;
        deeds_is = a.deeds_is;
      }
  split (Doing deed s) asked deeds y h =
      let a = split s asked h.0 y h.2 in
      record {
        first = a.first;
        later = a.later;
        did = deed ∷ a.did;
        does = a.does;
        between = a.between;
        goes = (a.did, refl, a.goes);
        goes_on = a.goes_on;
        asked_is = a.asked_is;
        deeds_is = h.1 ∙ ap (λ (l : List Deed). deed ∷ l) a.deeds_is;
      }
  split (Announcing signals s) asked deeds y h =
      let a = split s asked h.0 y h.2 in
      record {
        first = a.first;
        later = a.later;
        did = puts_of_signals signals ++ a.did;
        does = a.does;
        between = a.between;
        goes = (a.did, refl, a.goes);
        goes_on = a.goes_on;
        asked_is = a.asked_is;
        deeds_is = h.1 ∙ ap (λ (l : List Deed). puts_of_signals signals ++ l) a.deeds_is ∙ sym (append_assoc (puts_of_signals signals) a.did a.does);
      }

  module _ (later : List Exchange) (does : List Deed) (y : Y) (x : X) where
    joined : (s : Script X) (first : List Exchange) (did : List Deed) → Goes s first did x → Goes (next x) later does y → Goes (and_then s next) (first ++ later) (did ++ does) y
    joined (Gives z) first did h g =
        subst (λ (f : List Exchange). Goes (next z) (f ++ later) (did ++ does) y) (sym h.0)
        (subst (λ (d : List Deed). Goes (next z) later (d ++ does) y) (sym h.1) (subst (λ (w : X). Goes (next w) later does y) h.2 g))
    joined (Changing change goes_on) first did h g = (h.0, h.1 ++ later, ap (λ (l : List Exchange). l ++ later) h.2, joined (goes_on h.0) h.1 did h.3 g)
    joined (ChangingAll changes goes_on) first did h g = (h.0, h.1 ++ later, ap (λ (l : List Exchange). l ++ later) h.2, joined (goes_on h.0) h.1 did h.3 g)
    joined (Asking query goes_on) first did h g = (h.0, h.1 ++ later, ap (λ (l : List Exchange). l ++ later) h.2, joined (goes_on h.0) h.1 did h.3 g)
    joined (Routing from facts goes_on) first did h g = (h.0, h.1 ++ later, ap (λ (l : List Exchange). l ++ later) h.2, joined (goes_on h.0) h.1 did h.3 g)
    joined (AskingPresence number goes_on) first did h g = (h.0, h.1 ++ later, ap (λ (l : List Exchange). l ++ later) h.2, joined (goes_on h.0) h.1 did h.3 g)
    joined (Noting told s) first did h g = (h.0 ++ later, ap (λ (l : List Exchange). l ++ later) h.1, joined s h.0 did h.2 g)
    joined (Framing bytes goes_on) first did h g = (h.0, h.1 ++ later, ap (λ (l : List Exchange). l ++ later) h.2, joined (goes_on h.0) h.1 did h.3 g)
    joined (Calling m goes_on) first did h g = (h.0, h.1 ++ later, ap (λ (l : List Exchange). l ++ later) h.2, joined (goes_on h.0) h.1 did h.3 g)
    joined (Gating call s) first did h g = (h.0, h.1 ++ later, ap (λ (l : List Exchange). l ++ later) h.2, joined s h.1 did h.3 g)
    joined (Wanting goes_on) first did h g = (h.0, h.1 ++ later, ap (λ (l : List Exchange). l ++ later) h.2, joined (goes_on h.0) h.1 did h.3 g)
    joined (Requiring holds s) first did h g = (h.0, joined s first did h.1 g)
    joined (Doing deed s) first did h g = (h.0 ++ does, ap (λ (l : List Deed). l ++ does) h.1, joined s first h.0 h.2 g)
    joined (Announcing signals s) first did h g =
        (h.0 ++ does, ap (λ (l : List Deed). l ++ does) h.1 ∙ append_assoc (puts_of_signals signals) h.0 does, joined s first h.0 h.2 g)

-- ## Answers, one after the other

pub lawful_parts : (first later : List Exchange) (k m : Knowledge) → IsLawful true k (first ++ later) m → (n : Knowledge) × IsLawful true k first n × IsLawful true n later m
lawful_parts [] later k m h = (k, refl, h)
lawful_parts (Changed change heard ∷ first) later k m h = let a = lawful_parts first later h.0 m h.2 in (a.0, (h.0, h.1, a.1), a.2)
lawful_parts (ChangedAll changes heard ∷ first) later k m h = let a = lawful_parts first later h.0 m h.2 in (a.0, (h.0, h.1, a.1), a.2)
lawful_parts (Asked query heard ∷ first) later k m h = let a = lawful_parts first later h.0 m h.2 in (a.0, (h.0, h.1, a.1), a.2)
lawful_parts (Routed from facts heard ∷ first) later k m h = let a = lawful_parts first later h.0 m h.2 in (a.0, (h.0, h.1, a.1), a.2)
lawful_parts (AskedPresence number heard ∷ first) later k m h = let a = lawful_parts first later h.0 m h.2 in (a.0, (h.0, h.1, a.1), a.2)
lawful_parts (Noted told ∷ first) later k m h = let a = lawful_parts first later h.0 m h.2 in (a.0, (h.0, h.1, a.1), a.2)
lawful_parts (Framed bytes incoming ∷ first) later k m h = let a = lawful_parts first later k m h.1 in (a.0, (h.0, a.1), a.2)
lawful_parts (Called c reading ∷ first) later k m h = let a = lawful_parts first later k m h.1 in (a.0, (h.0, a.1), a.2)
lawful_parts (Gated seen call ∷ first) later k m h = let a = lawful_parts first later k m h.1 in (a.0, (h.0, a.1), a.2)
lawful_parts (Wanted granted ∷ first) later k m h = lawful_parts first later k m h

lawful_joined : (first later : List Exchange) (k n m : Knowledge) → IsLawful true k first n → IsLawful true n later m → IsLawful true k (first ++ later) m
lawful_joined [] later k n m h g = subst (λ (x : Knowledge). IsLawful true x later m) h g
lawful_joined (Changed change heard ∷ first) later k n m h g = (h.0, h.1, lawful_joined first later h.0 n m h.2 g)
lawful_joined (ChangedAll changes heard ∷ first) later k n m h g = (h.0, h.1, lawful_joined first later h.0 n m h.2 g)
lawful_joined (Asked query heard ∷ first) later k n m h g = (h.0, h.1, lawful_joined first later h.0 n m h.2 g)
lawful_joined (Routed from facts heard ∷ first) later k n m h g = (h.0, h.1, lawful_joined first later h.0 n m h.2 g)
lawful_joined (AskedPresence number heard ∷ first) later k n m h g = (h.0, h.1, lawful_joined first later h.0 n m h.2 g)
lawful_joined (Noted told ∷ first) later k n m h g = (h.0, h.1, lawful_joined first later h.0 n m h.2 g)
lawful_joined (Framed bytes incoming ∷ first) later k n m h g = (h.0, lawful_joined first later k n m h.1 g)
lawful_joined (Called c reading ∷ first) later k n m h g = (h.0, lawful_joined first later k n m h.1 g)
lawful_joined (Gated seen call ∷ first) later k n m h g = (h.0, lawful_joined first later k n m h.1 g)
lawful_joined (Wanted granted ∷ first) later k n m h g = lawful_joined first later k n m h g

-- ## The same by other answers

-- The script may be answered so that it does these deeds and comes to this, and nothing is refused.
pub record Again {X : Type 0} (now : Script X) (k m : Knowledge) (deeds : List Deed) (x : X) : Type 0 where
  pub again : List Exchange
  pub goes : Goes now again deeds x
  pub lawful : IsLawful true k again m
  pub granted : IsGranted again

-- Whatever the one comes to where nothing is refused, which has this, the other comes to it, seen in another way.
abbrev pub Follows : {X : Type 0} → (P : X → Type 0) (f : X → X) → (now before : Script X) → Type 0
Follows {X = X} P f now before = (k m : Knowledge) (asked : List Exchange) (deeds : List Deed) (x : X) → Goes before asked deeds x → IsLawful true k asked m → IsGranted asked →
    P x × Again now k m deeds (f x)

pub goes_seen : {X Y : Type 0} (f : X → Y) (s : Script X) (asked : List Exchange) (deeds : List Deed) (x : X) → Goes s asked deeds x → Goes (seen_as f s) asked deeds (f x)
goes_seen f (Gives y) asked deeds x h = (h.0, h.1, ap f h.2)
goes_seen f (Changing change goes_on) asked deeds x h = (h.0, h.1, h.2, goes_seen f (goes_on h.0) h.1 deeds x h.3)
goes_seen f (ChangingAll changes goes_on) asked deeds x h = (h.0, h.1, h.2, goes_seen f (goes_on h.0) h.1 deeds x h.3)
goes_seen f (Asking query goes_on) asked deeds x h = (h.0, h.1, h.2, goes_seen f (goes_on h.0) h.1 deeds x h.3)
goes_seen f (Routing from facts goes_on) asked deeds x h = (h.0, h.1, h.2, goes_seen f (goes_on h.0) h.1 deeds x h.3)
goes_seen f (AskingPresence number goes_on) asked deeds x h = (h.0, h.1, h.2, goes_seen f (goes_on h.0) h.1 deeds x h.3)
goes_seen f (Noting told s) asked deeds x h = (h.0, h.1, goes_seen f s h.0 deeds x h.2)
goes_seen f (Framing bytes goes_on) asked deeds x h = (h.0, h.1, h.2, goes_seen f (goes_on h.0) h.1 deeds x h.3)
goes_seen f (Calling m goes_on) asked deeds x h = (h.0, h.1, h.2, goes_seen f (goes_on h.0) h.1 deeds x h.3)
goes_seen f (Gating call s) asked deeds x h = (h.0, h.1, h.2, goes_seen f s h.1 deeds x h.3)
goes_seen f (Wanting goes_on) asked deeds x h = (h.0, h.1, h.2, goes_seen f (goes_on h.0) h.1 deeds x h.3)
goes_seen f (Requiring holds s) asked deeds x h = (h.0, goes_seen f s asked deeds x h.1)
goes_seen f (Doing deed s) asked deeds x h = (h.0, h.1, goes_seen f s asked h.0 x h.2)
goes_seen f (Announcing signals s) asked deeds x h = (h.0, h.1, goes_seen f s asked h.0 x h.2)

module _ {X : Type 0} (P : X → Type 0) (f : X → X) where
  pub follows_same : (now before : Script X) → now ≡ seen_as f before → Always P before → Follows P f now before
  follows_same now before same always k m asked deeds x goes lawful granted = (
    of_result P before asked deeds x goes always,
    record {
      again = asked;
      goes = subst (λ (s : Script X). Goes s asked deeds (f x)) (sym same) (goes_seen f before asked deeds x goes);
      lawful = lawful;
      granted = granted;
    },
  )

module _ {X Y : Type 0} (P : X → Type 0) (Q : Y → Type 0) (f : X → X) (g : Y → Y) (now before : Script X) (next later : X → Script Y) where
  pub follows_then : Follows P f now before → ((x : X) → P x → Follows Q g (later (f x)) (next x)) → Follows Q g (and_then now later) (and_then before next)
  follows_then first each k m asked deeds y goes lawful granted =
      let a = split next before asked deeds y goes in
      let l = lawful_parts a.first a.later k m (subst (λ (e : List Exchange). IsLawful true k e m) a.asked_is lawful) in
      let grants = granted_parts a.first a.later (subst (λ (e : List Exchange). IsGranted e) a.asked_is granted) in
      let one = first k l.0 a.first a.did a.between a.goes l.1 grants.0 in
      let two = each a.between one.0 l.0 m a.later a.does y a.goes_on l.2 grants.1 in (
        two.0,
        record {
          again = one.1.again ++ two.1.again;
          goes = subst (λ (d : List Deed). Goes (and_then now later) (one.1.again ++ two.1.again) d (g y)) (sym a.deeds_is)
              (joined later two.1.again a.does (g y) (f a.between) now one.1.again a.did one.1.goes two.1.goes);
          lawful = lawful_joined one.1.again two.1.again k l.0 m one.1.lawful two.1.lawful;
          granted = granted_append one.1.again two.1.again one.1.granted two.1.granted;
        },
      )

-- a script follows itself
pub follows_itself : {X : Type 0} (P : X → Type 0) (s : Script X) → Always P s → Follows P (λ x. x) s s
follows_itself P s always k m asked deeds x goes lawful granted = (
  of_result P s asked deeds x goes always,
  record { again = asked; goes = goes; lawful = lawful; granted = granted },
)

-- nothing is refused
pub is_granted : (granted : Bool) (asked : List Exchange) → IsGranted (Wanted granted ∷ asked) → (granted ≡ true) × IsGranted asked
is_granted true asked h = (refl, h)
is_granted false asked h = absurd h

module _ {X : Type 0} (P : X → Type 0) (f : X → X) where
  pub wanting_follows : (now before : Bool → Script X) → Follows P f (now true) (before true) → Follows P f (Wanting now) (Wanting before)
  wanting_follows now before each k m asked deeds x goes lawful granted =
      let got = is_granted goes.0 goes.1 (subst (λ (a : List Exchange). IsGranted a) goes.2 granted) in
      let went = subst (λ (b : Bool). Goes (before b) goes.1 deeds x) got.0 goes.3 in
      let r = each k m goes.1 deeds x went (subst (λ (a : List Exchange). IsLawful true k a m) goes.2 lawful) got.1 in
      (r.0, record { again = Wanted true ∷ r.1.again; goes = (true, r.1.again, refl, r.1.goes); lawful = r.1.lawful; granted = r.1.granted })

  pub calling_follows : (c : Message) (now before : Reading Call → Script X) → ((reading : Reading Call) → Follows P f (now reading) (before reading)) → Follows P f (Calling c now) (Calling c before)
  calling_follows c now before each k m asked deeds x goes lawful granted =
      let there = subst (λ (a : List Exchange). IsLawful true k a m) goes.2 lawful in
      let r = each goes.0 k m goes.1 deeds x goes.3 there.1 (subst (λ (a : List Exchange). IsGranted a) goes.2 granted) in (
        r.0,
        record {
          again = Called c goes.0 ∷ r.1.again;
          goes = (goes.0, r.1.again, refl, r.1.goes);
          lawful = (there.0, r.1.lawful);
          granted = r.1.granted;
        },
      )
