-- What was read is read so also with more bytes behind it.
use Rattle.std.proofs.Common.{◌≡◌, ◌≢◌, ℕ, Bool, true, Option, Some, List, [], ◌∷◌, ◌++◌, map, refl, sym, ap, ◌∙◌, subst}
use Rattle.std.specs.List.{flat_map, AllByRecursion}
use mathlib.Core.List.{append-nil}
use Rattle.seq_bus_core.specs.Histories.{History}
use Rattle.message_core.specs.declared.fault.FrameFault.{FrameFault}
use Rattle.router_core.specs.declared.event.Event.{Event}
use Rattle.router_core.specs.declared.event.Event.TheVariants as event
use Rattle.router_core.specs.Acts.{Exchange, Changed, ChangedAll, Asked, Routed, AskedPresence, Noted, Framed, Called, Gated, Wanted, Goes, IsGranted, State}
use Rattle.router_core.specs.Deeds.{Deed, GatedCall}
use Rattle.router_core.specs.Events.{Next, serving_next, next_at, occasion_of, script}
use Rattle.router_core.specs.Incoming.{Incoming, Waits, Whole, Faulty, IsIncoming}
use Rattle.router_core.specs.OneThread.{Rest}
use Rattle.router_core.proofs.Alone.{AreReadBy, Readers}
use Rattle.router_core.specs.Standing.{Peer, Stage, Standing, Authenticating, Unnamed, Named, Closing, peer_at}
use Rattle.router.specs.OneEvent.{rest_in}
use Rattle.router.proofs.Feeding.{TakesBytes}
use Rattle.router_core.proofs.Grants.{granted_parts, read_parts}
use Rattle.busd_core.specs.Happenings.{mails_of, Happens, AllHappen, asked_mailed, asked_all}
use Rattle.busd_core.proofs.Alone.{happened}
use Rattle.busd_core.specs.Sessions.{IsServing, piece_of}
use Rattle.busd_core.proofs.OneThread.{all_happened_so}
use Rattle.router_core.specs.Readings.{with_behind}
use Rattle.router_core.proofs.Incoming.{incoming_stays}
use Rattle.router_core.proofs.Readers.{AreRight, right_append, right_lawful}
use Rattle.router_laws.proofs.AtOnce.{AllSettled, Serving, Settled, bytes_in}

-- ## More bytes behind what was read

abbrev behind : List ℕ → List ℕ → Incoming → List Exchange
behind later bytes Waits = []
behind later bytes incoming = Framed (bytes ++ later) (with_behind later incoming) ∷ []

-- what was read, with these bytes behind it
abbrev pub extended : List ℕ → List Exchange → List Exchange
extended later [] = []
extended later (Framed bytes incoming ∷ asked) = behind later bytes incoming ++ extended later asked
extended later (other ∷ asked) = extended later asked

whole_not : (message rest : List ℕ) → Whole message rest ≢ Waits
whole_not message rest e = cc

faulty_not : (fault : FrameFault) → Faulty fault ≢ Waits
faulty_not fault e = cc

behind_right : (later bytes : List ℕ) (incoming : Incoming) → IsIncoming bytes incoming → AreRight (behind later bytes incoming)
behind_right later bytes Waits is = tt
behind_right later bytes (Whole message rest) is = (incoming_stays bytes later (Whole message rest) (whole_not message rest) is, tt)
behind_right later bytes (Faulty fault) is = (incoming_stays bytes later (Faulty fault) (faulty_not fault) is, tt)

extended_right : (later : List ℕ) (asked : List Exchange) → AreRight asked → AreRight (extended later asked)
extended_right later [] right = tt
extended_right later (Changed change heard ∷ asked) right = extended_right later asked right
extended_right later (ChangedAll changes heard ∷ asked) right = extended_right later asked right
extended_right later (Asked query heard ∷ asked) right = extended_right later asked right
extended_right later (Routed from facts heard ∷ asked) right = extended_right later asked right
extended_right later (AskedPresence number heard ∷ asked) right = extended_right later asked right
extended_right later (Noted told ∷ asked) right = extended_right later asked right
extended_right later (Framed bytes incoming ∷ asked) right = right_append (behind later bytes incoming) (extended later asked) (behind_right later bytes incoming right.0) (extended_right later asked right.1)
extended_right later (Called m reading ∷ asked) right = extended_right later asked right.1
extended_right later (Gated seen call ∷ asked) right = extended_right later asked right
extended_right later (Wanted granted ∷ asked) right = extended_right later asked right

behind_read : (readers : Readers) (later bytes : List ℕ) (incoming : Incoming) → incoming ≢ Waits → AreReadBy readers (behind later bytes incoming) → readers.incoming (bytes ++ later) ≡ with_behind later incoming
behind_read readers later bytes Waits not_so read = absurd (not_so refl)
behind_read readers later bytes (Whole message rest) not_so read = sym read.0
behind_read readers later bytes (Faulty fault) not_so read = sym read.0

module _ (readers : Readers) (key : ℕ) (later : List ℕ) where
  -- what stands at the front, where it was read
  incoming_read : (bytes : List ℕ) (incoming : Incoming) (asked : List Exchange) → AreReadBy readers (Framed bytes incoming ∷ asked) → AreReadBy readers (extended later (Framed bytes incoming ∷ asked)) →
      readers.incoming bytes ≢ Waits → readers.incoming (bytes ++ later) ≡ with_behind later (readers.incoming bytes)
  incoming_read bytes incoming asked read more not_so =
      behind_read readers later bytes incoming (λ waits. not_so (sym read.0 ∙ waits)) (read_parts readers (behind later bytes incoming) (extended later asked) more).0
      ∙ ap (λ (f : Incoming). with_behind later f) read.0

  next_settled : (s : Standing) (asked : List Exchange) (deeds : List Deed) (x : Standing) (p : Peer) → peer_at s key ≡ Some p → TakesBytes p.stage → Goes (script s (Next key)) asked deeds x →
      AreReadBy readers asked → AreReadBy readers (extended later asked) → readers.incoming p.unread ≢ Waits → readers.incoming (p.unread ++ later) ≡ with_behind later (readers.incoming p.unread)
  next_settled s asked deeds x p here takes goes read more not_so =
      by_stage p.stage takes (subst (λ (o : Option Peer). Goes (serving_next s key o) asked deeds x) here goes)
    where
      read_first : (incoming : Incoming) (others : List Exchange) → asked ≡ Framed p.unread incoming ∷ others → readers.incoming (p.unread ++ later) ≡ with_behind later (readers.incoming p.unread)
      read_first incoming others is =
          incoming_read p.unread incoming others (subst (λ (a : List Exchange). AreReadBy readers a) is read) (subst (λ (a : List Exchange). AreReadBy readers (extended later a)) is more) not_so

      by_stage : (stage : Stage) → TakesBytes stage → Goes (next_at s key p stage) asked deeds x → readers.incoming (p.unread ++ later) ≡ with_behind later (readers.incoming p.unread)
      by_stage (Authenticating setting state) takes so = absurd takes
      by_stage (Unnamed privileged) takes so = read_first so.0 so.1 so.2
      by_stage (Named conn) takes so = read_first so.0 so.1 so.2
      by_stage (Closing conn) takes so = absurd takes

-- ## Whole runs

module _ {N G : Type 0} (told : N → History) (passes : G → GatedCall → G → Type 0) (alone : Bool) (seat key : ℕ) where
  abbrev pub asked_of : (before : State G) (event : Event N) (written : List ℕ) (after : State G) → Happens told passes alone seat key before event written after → List Exchange
  asked_of before event written after h = h.serves.served.asked ++ asked_mailed told passes alone seat key h.between (mails_of seat h.actions) h.later after h.mailed

  -- what was read, with the bytes behind it that came afterwards
  abbrev pub extended_all : (before : State G) (events : List (Event N)) (written : List ℕ) (after : State G) → AllHappen told passes alone seat key before events written after → List Exchange
  extended_all before [] written after h = []
  extended_all before (event ∷ events) written after h = extended (flat_map piece_of events) h.3.serves.served.asked ++ extended_all h.0 events h.2 after h.4

  pub extended_all_right : (before : State G) (events : List (Event N)) (written : List ℕ) (after : State G) (h : AllHappen told passes alone seat key before events written after) →
      AreRight (extended_all before events written after h)
  extended_all_right before [] written after h = tt
  extended_all_right before (event ∷ events) written after h =
      let one = h.3.serves.served in
      right_append (extended (flat_map piece_of events) one.asked) (extended_all h.0 events h.2 after h.4)
      (extended_right (flat_map piece_of events) one.asked (right_lawful alone one.asked before.view h.3.between.view one.served.lawful))
      (extended_all_right h.0 events h.2 after h.4)

  pub serving_is : (events : List (Event N)) → AllByRecursion (IsServing key) events → AllByRecursion (Serving key) (map (occasion_of told) events)
  serving_is [] all = tt
  serving_is (event.Bytes of piece ∷ events) all = (all.0, serving_is events all.1)
  serving_is (event.Next of ∷ events) all = (all.0, serving_is events all.1)
  serving_is (other ∷ events) all = absurd all.0

  pub bytes_are : (events : List (Event N)) → flat_map bytes_in (map (occasion_of told) events) ≡ flat_map piece_of events
  bytes_are [] = refl
  bytes_are (event.Bytes of piece ∷ events) = ap (λ (bytes : List ℕ). piece.items ++ bytes) (bytes_are events)
  bytes_are (other ∷ events) = bytes_are events

  module _ (is : alone ≡ true) (readers : Readers) where
    -- one event, by readers who read so
    pub one_so : (before : State G) (event : Event N) (written : List ℕ) (after : State G) (h : Happens told passes alone seat key before event written after) →
        IsGranted (asked_of before event written after h) → AreReadBy readers (asked_of before event written after h) →
        (written ≡ (happened readers seat key (rest_in before) (occasion_of told event)).0) × (rest_in after ≡ (happened readers seat key (rest_in before) (occasion_of told event)).1)
    one_so before event written after h granted read =
        let asked : List Exchange = asked_of before event written after h in
        let all : AllHappen told passes alone seat key before (event ∷ []) written after = (after, written, [], h, (refl, refl), sym (append-nil written)) in
        let so = all_happened_so told passes alone seat key is readers before (event ∷ []) written after all (subst (λ (a : List Exchange). IsGranted a) (sym (append-nil asked)) granted)
        (subst (λ (a : List Exchange). AreReadBy readers a) (sym (append-nil asked)) read) in
        (so.0 ∙ append-nil (happened readers seat key (rest_in before) (occasion_of told event)).0, so.1)

    settled_next : (before : State G) (of : ℕ) (events : List (Event N)) (written : List ℕ) (after : State G) (h : Happens told passes alone seat key before (event.Next of) written after) → of ≡ key →
        AreReadBy readers h.serves.served.asked → AreReadBy readers (extended (flat_map piece_of events) h.serves.served.asked) → Settled readers seat key (flat_map bytes_in (map (occasion_of told) events)) (rest_in before)
    settled_next before of events written after h same read more =
        let one = h.serves.served in
        let goes = subst (λ (k : ℕ). Goes (script before.standing (Next k)) one.asked one.deeds h.between.standing) same one.served.goes in
        let now : Settled readers seat key (flat_map piece_of events) (rest_in before) =
        λ p here takes not_so. next_settled readers key (flat_map piece_of events) before.standing one.asked one.deeds h.between.standing p here takes goes read more not_so in
        subst (λ (later : List ℕ). Settled readers seat key later (rest_in before)) (sym (bytes_are events)) now

    pub all_settled : (before : State G) (events : List (Event N)) (written : List ℕ) (after : State G) (h : AllHappen told passes alone seat key before events written after) → AllByRecursion (IsServing key) events →
        IsGranted (asked_all told passes alone seat key before events written after h) → AreReadBy readers (asked_all told passes alone seat key before events written after h) →
        AreReadBy readers (extended_all before events written after h) → AllSettled readers seat key (map (occasion_of told) events) (rest_in before)
    all_settled before [] written after h all granted read more = tt
    all_settled before (event.Bytes of piece ∷ events) written after h all granted read more =
        let asked : List Exchange = asked_of before (event.Bytes of piece) h.1 h.0 h.3 in
        let later : List Exchange = asked_all told passes alone seat key h.0 events h.2 after h.4 in
        let grants = granted_parts asked later granted in
        let reads = read_parts readers asked later read in
        let mores = read_parts readers (extended (flat_map piece_of events) h.3.serves.served.asked) (extended_all h.0 events h.2 after h.4) more in
        subst (λ (r : Rest). AllSettled readers seat key (map (occasion_of told) events) r) (one_so before (event.Bytes of piece) h.1 h.0 h.3 grants.0 reads.0).1
        (all_settled h.0 events h.2 after h.4 all.1 grants.1 reads.1 mores.1)
    all_settled before (event.Next of ∷ events) written after h all granted read more =
        let asked : List Exchange = asked_of before (event.Next of) h.1 h.0 h.3 in
        let later : List Exchange = asked_all told passes alone seat key h.0 events h.2 after h.4 in
        let grants = granted_parts asked later granted in
        let reads = read_parts readers asked later read in
        let mores = read_parts readers (extended (flat_map piece_of events) h.3.serves.served.asked) (extended_all h.0 events h.2 after h.4) more in
        let own = read_parts readers h.3.serves.served.asked (asked_mailed told passes alone seat key h.3.between (mails_of seat h.3.actions) h.3.later h.0 h.3.mailed) reads.0 in (
          settled_next before of events h.1 h.0 h.3 all.0 own.0 mores.0,
          subst (λ (r : Rest). AllSettled readers seat key (map (occasion_of told) events) r) (one_so before (event.Next of) h.1 h.0 h.3 grants.0 reads.0).1
              (all_settled h.0 events h.2 after h.4 all.1 grants.1 reads.1 mores.1),
        )
    all_settled before (other ∷ events) written after h all granted read more = absurd all.0
