-- A turn may leave out a connection that has no whole message.
use Rattle.std.proofs.Common.{◌≡◌, ◌≢◌, ℕ, Bool, true, false, Option, Some, None, List, [], ◌∷◌, ◌++◌, inl, inr, if◌then◌else◌, refl, sym, ap, ◌∙◌, subst}
use Rattle.std.proofs.lemmas.Bool.Decides.{eqb_tells}
use Rattle.bus_view.specs.Views.{Knowledge}
use Rattle.router_core.specs.declared.joint.Joint.{Joint}
use Rattle.router_core.specs.Acts.{Exchange, Goes, IsGranted, IsLawful}
use Rattle.router_core.specs.Deeds.{Deed}
use Rattle.router_core.specs.Events as ev
use Rattle.router_core.specs.Events.{Stands}
use Rattle.router_core.specs.Incoming.{Incoming, Waits, IsIncoming}
use Rattle.router_core.specs.Scripts.{Script, Framing, Wanting, and_then}
use Rattle.router_core.specs.Standing.{Stage, Authenticating, Unnamed, Named, Closing, Peer, Standing, SpeaksDBus, peer_at}
use Rattle.router_core.proofs.Grants.{granted_parts}
use Rattle.router_core.proofs.Incoming.{incoming_is_one}
use Rattle.router_laws.specs.Cuts.{without_key}
use Rattle.router_laws.proofs.Following.{Again, Follows, follows_itself, follows_then, is_granted, lawful_parts, split, wanting_follows}
use Rattle.router_laws.proofs.Leaving.{Gathers, HasOf, gathering_kept}
use Rattle.router_laws.proofs.Results.{weaker, whatever}
use Rattle.router_laws.proofs.Stages.{MaySpeak}

abbrev Any : Standing → Type 0
Any t = Unit {0}

abbrev none_gathered : List Joint → Standing → ev.Gathered
none_gathered joints s = record { joints = joints; standing = s; served = false }

abbrev IsShort : List ℕ → Type 0
IsShort bytes = IsIncoming bytes Waits

module _ (key : ℕ) where
  -- it has no whole message, if it may send any
  abbrev Short : Standing → Type 0
  Short s = HasOf IsShort (peer_at s key)

  module _ (joints : List Joint) (s : Standing) where
    -- nothing is asked of the bus, nothing done, and nothing gathered
    abbrev IsNothing : (k m : Knowledge) → List Deed → ev.Gathered → Type 0
    IsNothing k m deeds g = (g ≡ none_gathered joints s) × (deeds ≡ []) × (m ≡ k)

    is_nothing : (k m : Knowledge) (asked : List Exchange) (deeds : List Deed) (g : ev.Gathered) → Goes (ev.gathering_of_none joints s) asked deeds g → IsLawful true k asked m → IsNothing k m deeds g
    is_nothing k m asked deeds g goes lawful = (goes.2, goes.1, subst (λ (a : List Exchange). IsLawful true k a m) goes.0 lawful)

    framed : (p : Peer) (next : Incoming → Script ev.Gathered) → IsShort p.unread → next Waits ≡ ev.gathering_of_none joints s →
        (k m : Knowledge) (asked : List Exchange) (deeds : List Deed) (g : ev.Gathered) → Goes (Framing p.unread next) asked deeds g → IsLawful true k asked m → IsNothing k m deeds g
    framed p next short none k m asked deeds g goes lawful =
        let there = subst (λ (a : List Exchange). IsLawful true k a m) goes.2 lawful in
        let so = subst (λ (f : Incoming). Goes (next f) goes.1 deeds g) (incoming_is_one p.unread goes.0 Waits there.0 short) goes.3 in
        is_nothing k m goes.1 deeds g (subst (λ (x : Script ev.Gathered). Goes x goes.1 deeds g) none so) there.1

    by_stage : (p : Peer) (stage : Stage) → (MaySpeak stage → IsShort p.unread) → (k m : Knowledge) (asked : List Exchange) (deeds : List Deed) (g : ev.Gathered) → Goes (ev.gathering_at joints s key p stage) asked deeds g →
        IsLawful true k asked m → IsNothing k m deeds g
    by_stage p (Authenticating setting state) short = is_nothing
    by_stage p (Closing conn) short = is_nothing
    by_stage p (Unnamed privileged) short = framed p (λ incoming. ev.serving_incoming_apart joints s key incoming) (short tt) refl
    by_stage p (Named conn) short = framed p (λ incoming. ev.gathering_incoming joints s key p conn incoming) (short tt) refl

    by_peer : (o : Option Peer) → HasOf IsShort o → (k m : Knowledge) (asked : List Exchange) (deeds : List Deed) (g : ev.Gathered) → Goes (ev.gathering joints s key o) asked deeds g → IsLawful true k asked m → IsNothing k m deeds g
    by_peer None short = is_nothing
    by_peer (Some p) short = by_stage p p.stage short

    -- what comes behind it follows
    skipped : Short s → (next : ev.Gathered → Stands) (now : Stands) → Follows Any (λ t. t) now (next (none_gathered joints s)) →
        Follows Any (λ t. t) now (and_then (ev.gathering joints s key (peer_at s key)) next)
    skipped short next now follows k m asked deeds x goes lawful granted =
        let a = split next (ev.gathering joints s key (peer_at s key)) asked deeds x goes in
        let l = lawful_parts a.first a.later k m (subst (λ (e : List Exchange). IsLawful true k e m) a.asked_is lawful) in
        let grants = granted_parts a.first a.later (subst (λ (e : List Exchange). IsGranted e) a.asked_is granted) in
        let n = by_peer (peer_at s key) short k l.0 a.first a.did a.between a.goes l.1 in
        let on = subst (λ (g : ev.Gathered). Goes (next g) a.later a.does x) n.0 a.goes_on in
        let lawful_on = subst (λ (q : Knowledge). IsLawful true q a.later m) n.2 l.2 in
        let h = follows k m a.later a.does x on lawful_on grants.1 in (
          tt,
          record {
            again = h.1.again;
            goes = subst (λ (d : List Deed). Goes now h.1.again d x) (sym (a.deeds_is ∙ ap (λ (d : List Deed). d ++ a.does) n.1)) h.1.goes;
            lawful = h.1.lawful;
            granted = h.1.granted;
          },
        )

    -- memory is not wanted for it
    unwanted : (now goes_on : Stands) → Follows Any (λ t. t) now goes_on → Follows Any (λ t. t) now (Wanting (λ granted. ev.turning_if joints s goes_on granted))
    unwanted now goes_on follows k m asked deeds x goes lawful granted =
        let got = is_granted goes.0 goes.1 (subst (λ (a : List Exchange). IsGranted a) goes.2 granted) in
        follows k m goes.1 deeds x (subst (λ (b : Bool). Goes (ev.turning_if joints s goes_on b) goes.1 deeds x) got.0 goes.3)
        (subst (λ (a : List Exchange). IsLawful true k a m) goes.2 lawful) got.1

  -- a turn of these keys is followed by one of those
  abbrev Turns : (joints : List Joint) (begun : Bool) (s : Standing) → (these those : List ℕ) → Type 0
  Turns joints begun s these those = Follows Any (λ t. t) (ev.turning joints those begun s) (ev.turning joints these begun s)

  module _ (keys : List ℕ) (rest : (joints : List Joint) (begun : Bool) (s : Standing) → Short s → Turns joints begun s keys (without_key key keys)) where
    left_out : (joints : List Joint) (begun : Bool) (s : Standing) → Short s → Turns joints begun s (key ∷ keys) (without_key key keys)
    left_out joints false s short =
        skipped joints s short (λ g. ev.turning g.joints keys g.served g.standing) (ev.turning joints (without_key key keys) false s) (rest joints false s short)
    left_out joints true s short =
        unwanted joints s (ev.turning joints (without_key key keys) true s) (and_then (ev.gathering joints s key (peer_at s key)) (λ g. ev.turning g.joints keys true g.standing))
        (skipped joints s short (λ g. ev.turning g.joints keys true g.standing) (ev.turning joints (without_key key keys) true s) (rest joints true s short))

    kept_in : (k : ℕ) → k ≢ key → (joints : List Joint) (begun : Bool) (s : Standing) → Short s → Turns joints begun s (k ∷ keys) (k ∷ without_key key keys)
    kept_in k apart joints begun s short = by_begun begun
      where
        first : Follows (λ (g : ev.Gathered). Short g.standing) (λ g. g) (ev.gathering joints s k (peer_at s k)) (ev.gathering joints s k (peer_at s k))
        first =
            follows_itself (λ (g : ev.Gathered). Short g.standing) (ev.gathering joints s k (peer_at s k))
            (weaker (Gathers IsShort key s) (λ (g : ev.Gathered). Short g.standing) (λ g kept. kept short) (ev.gathering joints s k (peer_at s k)) (gathering_kept IsShort key k apart joints s (peer_at s k)))

        by_begun : (b : Bool) → Turns joints b s (k ∷ keys) (k ∷ without_key key keys)
        by_begun false =
            follows_then (λ (g : ev.Gathered). Short g.standing) Any (λ g. g) (λ t. t) (ev.gathering joints s k (peer_at s k)) (ev.gathering joints s k (peer_at s k))
            (λ g. ev.turning g.joints keys g.served g.standing) (λ g. ev.turning g.joints (without_key key keys) g.served g.standing) first
            (λ g still. rest g.joints g.served g.standing still)
        by_begun true =
            wanting_follows Any (λ t. t) (λ granted. ev.turning_if joints s (and_then (ev.gathering joints s k (peer_at s k)) (λ g. ev.turning g.joints (without_key key keys) true g.standing)) granted)
            (λ granted. ev.turning_if joints s (and_then (ev.gathering joints s k (peer_at s k)) (λ g. ev.turning g.joints keys true g.standing)) granted)
            (follows_then (λ (g : ev.Gathered). Short g.standing) Any (λ g. g) (λ t. t) (ev.gathering joints s k (peer_at s k)) (ev.gathering joints s k (peer_at s k))
            (λ g. ev.turning g.joints keys true g.standing) (λ g. ev.turning g.joints (without_key key keys) true g.standing) first
            (λ g still. rest g.joints true g.standing still))

    one : (k : ℕ) (joints : List Joint) (begun : Bool) (s : Standing) → Short s → Turns joints begun s (k ∷ keys) (without_key key (k ∷ keys))
    one k joints begun s short =
        elim (eqb_tells k key) [
          | inl h ↦
              subst (λ (b : Bool). Turns joints begun s (k ∷ keys) (if b then without_key key keys else k ∷ without_key key keys)) (sym h.0)
              (subst (λ (n : ℕ). Turns joints begun s (n ∷ keys) (without_key key keys)) (sym h.1) (left_out joints begun s short))
          | inr h ↦
              subst (λ (b : Bool). Turns joints begun s (k ∷ keys) (if b then without_key key keys else k ∷ without_key key keys)) (sym h.0) (kept_in k h.1 joints begun s short)
        ]

  turns_without : (keys : List ℕ) (joints : List Joint) (begun : Bool) (s : Standing) → Short s → Turns joints begun s keys (without_key key keys)
  turns_without [] joints begun s short = follows_itself Any (ev.making_all joints s) (whatever Any (λ t. tt) (ev.making_all joints s))
  turns_without (k ∷ keys) joints begun s short = one keys (λ j b t still. turns_without keys j b t still) k joints begun s short

  speaks_so : (stage : Stage) → MaySpeak stage → SpeaksDBus stage
  speaks_so (Authenticating setting state) may = absurd may
  speaks_so (Unnamed privileged) may = tt
  speaks_so (Named conn) may = tt
  speaks_so (Closing conn) may = absurd may

  -- where the connection is left out of a turn, the same is done
  pub without_it : (keys : List ℕ) (s : Standing) (p : Peer) → peer_at s key ≡ Some p → (SpeaksDBus p.stage → IsIncoming p.unread Waits) →
      (k m : Knowledge) (asked : List Exchange) (deeds : List Deed) (t : Standing) → Goes (ev.turning [] keys false s) asked deeds t → IsLawful true k asked m → IsGranted asked →
      Again (ev.turning [] (without_key key keys) false s) k m deeds t
  without_it keys s p here short k m asked deeds t goes lawful granted =
      let still : Short s = subst (λ (o : Option Peer). HasOf IsShort o) (sym here) (λ may. short (speaks_so p.stage may)) in
      (turns_without keys [] false s still k m asked deeds t goes lawful granted).1
