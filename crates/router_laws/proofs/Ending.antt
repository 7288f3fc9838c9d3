-- Streams over the same input end alike.
use Rattle.std.proofs.Common.{◌≡◌, ℕ, ◌+◌, ◌≤◌, Bool, true, Option, Some, None, List, [], ◌∷◌, ◌++◌, length, map, refl, sym, ap, ◌∙◌, subst, arith}
use Rattle.std.specs.List.{flat_map}
use Rattle.std.specs.Prelude.{IfSome}
use Rattle.seq_bus_core.specs.Histories.{History}
use Rattle.router_core.specs.declared.event.Event.{Event}
use Rattle.router_core.specs.declared.event.Event.TheVariants as event
use Rattle.router_core.specs.Acts.{Exchange, Framed, IsGranted, State}
use Rattle.router_core.specs.Deeds.{GatedCall}
use Rattle.router_core.specs.Events.{Closed, Next, Occasion, occasion_of}
use Rattle.router_core.specs.Incoming.{Waits}
use Rattle.router_core.specs.OneThread.{Rest}
use Rattle.router_core.proofs.Alone.{AreReadBy, Readers, effect}
use Rattle.router_core.specs.Standing.{Peer, Stage, Authenticating, Unnamed, Named, Closing, peer_at}
use Rattle.router_steps.specs.Quiet.{IsQuiet, IsQuietAt}
use Rattle.router.specs.OneEvent.{rest_in}
use Rattle.router.proofs.Feeding.{authenticating_given, none_given, closing_given, waiting_given}
use Rattle.router_core.proofs.Grants.{granted_parts, read_parts}
use Rattle.busd_core.specs.Happenings.{asked_all}
use Rattle.busd_core.proofs.Alone.{happened}
use Rattle.busd_core.specs.Sessions.{Goes, piece_of, asked_in}
use Rattle.router_core.proofs.Readers.{AreRight, read_so, readers_of, right_append}
use Rattle.bus_view.specs.declared.view.BusView.{Ghosts as BusView}
use Rattle.router_core.specs.declared.gate.Gate.{Ghosts as Gate}
use Rattle.router_laws.specs.Streams.{StreamsAgree, exchanges_at, exchanges_until_gone}
use Rattle.router_laws.proofs.AtOnce.{AllSettled, all_at_once, arrived, served}
use Rattle.busd_core.proofs.OneThread.{all_happened_so, all_right, happens_right}
use Rattle.router_laws.proofs.Extending.{all_settled, asked_of, bytes_are, extended, extended_all, extended_all_right, one_so, serving_is}

-- ## Where nothing is left

-- the bytes of a connection that are not served, where there is one that has begun its messages and was not closed
abbrev left_of : Option Peer → List Exchange
left_of None = []
left_of (Some p) = at_stage p.stage
  where
    at_stage : Stage → List Exchange
    at_stage (Authenticating setting state) = []
    at_stage (Closing conn) = []
    at_stage stage = Framed p.unread Waits ∷ []

left_right : (o : Option Peer) → IfSome o IsQuiet → AreRight (left_of o)
left_right None quiet = tt
left_right (Some p) quiet = by_stage p.stage refl quiet
  where
    by_stage : (stage : Stage) → p.stage ≡ stage → IsQuietAt p stage → AreRight (left_of (Some p))
    by_stage (Authenticating setting state) is waits = rw is tt
    by_stage (Unnamed privileged) is waits = rw is (waits, tt)
    by_stage (Named conn) is waits = rw is (waits, tt)
    by_stage (Closing conn) is waits = rw is tt

quiet_given : (readers : Readers) (key : ℕ) (r : Rest) → AreReadBy readers (left_of (peer_at r.standing key)) → effect readers r (Next key) ≡ ([], r)
quiet_given readers key r read = by_peer (peer_at r.standing key) refl read
  where
    by_stage : (p : Peer) → peer_at r.standing key ≡ Some p → (stage : Stage) → p.stage ≡ stage → AreReadBy readers (left_of (Some p)) → effect readers r (Next key) ≡ ([], r)
    by_stage p here (Authenticating setting state) is so = authenticating_given readers key r p setting state here is
    by_stage p here (Unnamed privileged) is so = let waits : AreReadBy readers (Framed p.unread Waits ∷ []) = rw is at so in waiting_given readers key r p here (sym waits.0)
    by_stage p here (Named conn) is so = let waits : AreReadBy readers (Framed p.unread Waits ∷ []) = rw is at so in waiting_given readers key r p here (sym waits.0)
    by_stage p here (Closing conn) is so = closing_given readers key r p conn here is

    by_peer : (o : Option Peer) → peer_at r.standing key ≡ o → AreReadBy readers (left_of o) → effect readers r (Next key) ≡ ([], r)
    by_peer None here so = none_given readers key r here
    by_peer (Some p) here so = by_stage p here p.stage refl so

-- ## One stream

module _ {N G : Type 0} (told : N → History) (passes : G → GatedCall → G → Type 0) (alone : Bool) (seat key : ℕ) (before after : State G) (read written : List ℕ)
    (g : Goes told passes alone seat key before read written after) where
  -- all that it read, and what that is with the rest of the stream behind it
  abbrev pub besides : List Exchange
  besides = extended_all told passes alone seat key before (event.Opened key None ∷ g.later) g.first g.between g.serves.happen ++ left_of (peer_at g.between.standing key)

  pub besides_right : AreRight besides
  besides_right =
      right_append (extended_all told passes alone seat key before (event.Opened key None ∷ g.later) g.first g.between g.serves.happen) (left_of (peer_at g.between.standing key))
      (extended_all_right told passes alone seat key before (event.Opened key None ∷ g.later) g.first g.between g.serves.happen)
      (left_right (peer_at g.between.standing key) g.quiet)

  pub asked_right : AreRight (exchanges_until_gone told passes alone seat key g)
  asked_right =
      right_append (asked_in told passes alone seat key g.serves) (exchanges_at told passes alone seat key g.goes)
      (all_right told passes alone seat key before (event.Opened key None ∷ g.later) g.first g.between g.serves.happen)
      (happens_right told passes alone seat key g.between (event.Closed key) g.last after g.goes)

  -- It is what comes of all bytes at once, and then of the end.
  pub record IsAtOnce (readers : Readers) : Type 0 where
    pub turns : ℕ
    pub served_so : (n : ℕ) → turns ≤ n → served readers seat key n (arrived readers seat key (rest_in before) read) ≡ (g.first, rest_in g.between)
    pub written_last : g.last ≡ (happened readers seat key (rest_in g.between) (Closed key)).0
    pub left : rest_in after ≡ (happened readers seat key (rest_in g.between) (Closed key)).1

  pub at_once : alone ≡ true → (readers : Readers) → IsGranted (exchanges_until_gone told passes alone seat key g) → AreReadBy readers (exchanges_until_gone told passes alone seat key g) → AreReadBy readers besides → IsAtOnce readers
  at_once is readers granted reads more =
      let events : List (Event N) = event.Opened key None ∷ g.later in
      let occasions : List Occasion = map (occasion_of told) g.later in
      let happen = g.serves.happen in
      let asked : List Exchange = asked_in told passes alone seat key g.serves in
      let grants = granted_parts asked (exchanges_at told passes alone seat key g.goes) granted in
      let read_of = read_parts readers asked (exchanges_at told passes alone seat key g.goes) reads in
      let mores = read_parts readers (extended_all told passes alone seat key before events g.first g.between happen) (left_of (peer_at g.between.standing key)) more in
      let so = all_happened_so told passes alone seat key is readers before events g.first g.between happen grants.0 read_of.0 in
      let gone = one_so told passes alone seat key is readers g.between (event.Closed key) g.last after g.goes grants.1 read_of.1 in
      let here = granted_parts (asked_of told passes alone seat key before (event.Opened key None) happen.1 happen.0 happen.3) (asked_all told passes alone seat key happen.0 g.later happen.2 g.between happen.4) grants.0 in
      let there = read_parts readers (asked_of told passes alone seat key before (event.Opened key None) happen.1 happen.0 happen.3) (asked_all told passes alone seat key happen.0 g.later happen.2 g.between happen.4) read_of.0 in
      let behind = read_parts readers (extended (flat_map piece_of g.later) happen.3.serves.served.asked) (extended_all told passes alone seat key happen.0 g.later happen.2 g.between happen.4) mores.0 in
      let came = one_so told passes alone seat key is readers before (event.Opened key None) happen.1 happen.0 happen.3 here.0 there.0 in
      let settled = subst (λ (r : Rest). AllSettled readers seat key occasions r) came.1
      (all_settled told passes alone seat key is readers happen.0 g.later happen.2 g.between happen.4 g.serves.life.1 here.1 there.1 behind.1) in
      let quiet = subst (λ (r : Rest). effect readers r (Next key) ≡ ([], r)) so.1 (quiet_given readers key (rest_in g.between) mores.1) in
      record {
        turns = length occasions;
        served_so = λ n many.
            all_at_once readers seat key occasions (rest_in before) read (serving_is told passes alone seat key g.later g.serves.life.1) (g.serves.reads ∙ sym (bytes_are told passes alone seat key g.later)) settled quiet n many
            ∙ (λ i. (sym so.0 i, sym so.1 i));
        written_last = gone.0;
        left = gone.1;
      }

-- ## Two streams

module _ {N G H : Type 0} (told : N → History) (passes : G → GatedCall → G → Type 0) (others_pass : H → GatedCall → H → Type 0) (alone : Bool) (seat key : ℕ)
    (before after : State G) (start end : State H) (read written others : List ℕ)
    (one : Goes told passes alone seat key before read written after) (other : Goes told others_pass alone seat key start read others end) where
  -- by readers who read so
  both_at_once : (readers : Readers) → rest_in before ≡ rest_in start → IsAtOnce told passes alone seat key before after read written one readers →
      IsAtOnce told others_pass alone seat key start end read others other readers → (written ≡ others) × (rest_in after ≡ rest_in end)
  both_at_once readers same a b =
      let n : ℕ = a.turns + b.turns in
      let ends : (one.first, rest_in one.between) ≡ (other.first, rest_in other.between) =
      sym (a.served_so n (omega arith)) ∙ ap (λ (r : Rest). served readers seat key n (arrived readers seat key r read)) same ∙ b.served_so n (omega arith) in
      let first : one.first ≡ other.first = ap (λ (end : List ℕ × Rest). end.0) ends in
      let between : rest_in one.between ≡ rest_in other.between = ap (λ (end : List ℕ × Rest). end.1) ends in
      let last : one.last ≡ other.last = a.written_last ∙ ap (λ (r : Rest). (happened readers seat key r (Closed key)).0) between ∙ sym b.written_last in (
        one.writes ∙ ap (λ (w : List ℕ). w ++ one.last) first ∙ ap (λ (w : List ℕ). other.first ++ w) last ∙ sym other.writes,
        a.left ∙ ap (λ (r : Rest). (happened readers seat key r (Closed key)).1) between ∙ sym b.left,
      )

-- all that a stream asked, and what is besides
abbrev all_of : {N G : Type 0} (told : N → History) (passes : G → GatedCall → G → Type 0) (alone : Bool) (seat key : ℕ) (before after : State G) (read written : List ℕ) →
    Goes told passes alone seat key before read written after → List Exchange
all_of told passes alone seat key before after read written g = exchanges_until_gone told passes alone seat key g ++ besides told passes alone seat key before after read written g

all_of_right : {N G : Type 0} (told : N → History) (passes : G → GatedCall → G → Type 0) (alone : Bool) (seat key : ℕ) (before after : State G) (read written : List ℕ)
    (g : Goes told passes alone seat key before read written after) → AreRight (all_of told passes alone seat key before after read written g)
all_of_right told passes alone seat key before after read written g =
    right_append (exchanges_until_gone told passes alone seat key g) (besides told passes alone seat key before after read written g)
    (asked_right told passes alone seat key before after read written g) (besides_right told passes alone seat key before after read written g)

-- by readers who read all of it so
read_both : {N G H : Type 0} (told : N → History) (passes : G → GatedCall → G → Type 0) (others_pass : H → GatedCall → H → Type 0) (alone : Bool) (seat key : ℕ)
    (before after : State G) (start end : State H) (read written others : List ℕ)
    (one : Goes told passes alone seat key before read written after) (other : Goes told others_pass alone seat key start read others end) →
    alone ≡ true → rest_in before ≡ rest_in start →
    IsGranted (exchanges_until_gone told passes alone seat key one) → IsGranted (exchanges_until_gone told others_pass alone seat key other) → (readers : Readers) →
    AreReadBy readers (all_of told passes alone seat key before after read written one ++ all_of told others_pass alone seat key start end read others other) →
    (written ≡ others) × (rest_in after ≡ rest_in end)
read_both told passes others_pass alone seat key before after start end read written others one other is same granted also readers all =
    let both = read_parts readers (all_of told passes alone seat key before after read written one) (all_of told others_pass alone seat key start end read others other) all in
    let reads = read_parts readers (exchanges_until_gone told passes alone seat key one) (besides told passes alone seat key before after read written one) both.0 in
    let reads_too = read_parts readers (exchanges_until_gone told others_pass alone seat key other) (besides told others_pass alone seat key start end read others other) both.1 in
    both_at_once told passes others_pass alone seat key before after start end read written others one other readers same
    (at_once told passes alone seat key before after read written one is readers granted reads.0 reads.1)
    (at_once told others_pass alone seat key start end read others other is readers also reads_too.0 reads_too.1)

pub streams_agree : {V N R G H : Type 0} (view : BusView V N R) (gate : Gate G) (others : Gate H) → StreamsAgree view gate others
streams_agree view gate others seat key before after start end read written wrote one other is same granted also =
    let one_all : List Exchange = all_of view.told gate.passes view.alone seat key before after read written one in
    let other_all : List Exchange = all_of view.told others.passes view.alone seat key start end read wrote other in
    let right = right_append one_all other_all (all_of_right view.told gate.passes view.alone seat key before after read written one) (all_of_right view.told others.passes view.alone seat key start end read wrote other) in
    read_both view.told gate.passes others.passes view.alone seat key before after start end read written wrote one other is same granted also (readers_of (one_all ++ other_all)) (read_so (one_all ++ other_all) right)
