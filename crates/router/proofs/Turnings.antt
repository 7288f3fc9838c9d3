-- Several messages, one after the other.
use Rattle.std.proofs.Common.{◌≡◌, ◌≢◌, ℕ, ◌+◌, ◌<◌, ◌≤◌, Bool, true, false, ◌||◌, Option, Some, None, Result, Ok, Err, OnOk, OnErr, List, [], ◌∷◌, length, map, get_or, drop, refl, sym, ap, ◌∙◌, subst, if◌then◌else◌, arith, length-drop}
use Rattle.std.specs.List.{AllByRecursion}
use Rattle.std.proofs.lemmas.Bool.{false≢true}
use Rattle.std.proofs.lemmas.List.{drop_more}
use Rattle.seq_bus_core.specs.Batches.{outcomes_of}
use Rattle.seq_bus_core.specs.Histories.{History}
use Rattle.seq_bus_core.specs.Tickets.{WholeBus}
use Rattle.seq_bus_core.specs.declared.change.Change.{Change}
use Rattle.seq_bus_core.specs.declared.connection.Conn.{Conn}
use Rattle.seq_bus_core.specs.declared.outcome.Outcome.{Outcome}
use Rattle.message_core.specs.Said.{said}
use Rattle.driver.specs.declared.call.Call.{Call}
use Rattle.driver.specs.Calls.{IsCall}
use Rattle.router_core.specs.declared.fate.PeerFate.{PeerFate}
use Rattle.router_core.specs.declared.fate.PeerFate.TheVariants as fate
use Rattle.router_core.specs.declared.joint.Joint.{Joint}
use Rattle.router_core.specs.declared.joint.RuleCall.{RuleCall}
use Rattle.bus_view.specs.declared.view.BusView.{Ghosts as BusView}
use Rattle.router_core.specs.declared.gate.Gate.{Ghosts as Gate}
use Rattle.router_core.specs.Answers.{Says}
use Rattle.router_core.specs.Deeds.{GatedCall}
use Rattle.router_core.specs.Events.{Gathered, Stands, answering_each, serving_apart, work_at, work_for, work_in, after_serving, gathering, gathering_at, serving_incoming_apart, gathering_incoming, gathering_message, gathering_of_one, joining_call, joining_if, joining_reading, making_all, making_each, making_if, serving_next, after_joints, turning}
use Rattle.router_core.specs.Incoming.{Incoming, Waits, Whole, Faulty, IsIncoming}
use Rattle.router_core.specs.Scripts.{Changing, Wanting, World, Comes, and_then}
use Rattle.router_core.specs.Serving.{OfFate, after_change}
use Rattle.router_core.specs.Standing.{Stage, Authenticating, Unnamed, Named, Closing, Peer, Standing, peer_at, with_peer}
use Rattle.router_core.specs.Together.{change_of_joint, may_join, rule_call}
use Rattle.router_steps.specs.Quiet.{IsQuiet, IsQuietAt}
use Rattle.router_steps.specs.Reading.{IsRest}
use Rattle.router_steps.proofs.Nexts.{for_some}
use Rattle.router_steps.proofs.Sequels.{comes_then}
use Rattle.router.specs.Joinings.{RepliesAlone}
use Rattle.router.proofs.Rules.{rules_bring_none}
use Rattle.router.specs.Dues.{IsApart}
use Rattle.router.specs.Named.{is_named}
use Rattle.router.proofs.Endings.{AllGive, given}
use Rattle.router.proofs.Indexing.{Keeps}

module _ {N G : Type 0} (told : N → History) (registry_of : N → ℕ) (passes : G → GatedCall → G → Type 0) (alone : Bool) where
  -- ---- one connection

  -- nothing is done for one that has no name
  pub does_nothing : (s : Standing) (key : ℕ) (work : OfFate) (w : World N G) → is_named (peer_at s key) ≡ false → Comes told registry_of passes alone (work_for s key work) w s w
  does_nothing s key work w isnt = in_slot (peer_at s key) isnt
    where
      in_stage : (p : Peer) (stage : Stage) → is_named (Some (record p { stage = stage })) ≡ false → Comes told registry_of passes alone (work_in s key p stage work) w s w
      in_stage p (Named conn) isnt = absurd (false≢true (sym isnt))
      in_stage p (Authenticating setting state) isnt = (refl, refl)
      in_stage p (Unnamed privileged) isnt = (refl, refl)
      in_stage p (Closing conn) isnt = (refl, refl)

      in_slot : (o : Option Peer) → is_named o ≡ false → Comes told registry_of passes alone (work_at s key o work) w s w
      in_slot None isnt = (refl, refl)
      in_slot (Some p) isnt = in_stage p p.stage isnt

  -- ---- the calls that joined

  -- the change of the next, then those of the rest
  pub makes_more : (joints : List Joint) (i : ℕ) (j : Joint) → i < length joints → j ≡ get_or joints i j → (before after end : Standing) (w m v : World N G) →
      Comes told registry_of passes alone (work_for before j.key (Changing (change_of_joint j) (λ heard. after_change (said j.message) j.caller heard))) w after m →
      Comes told registry_of passes alone (making_each (drop (i + 1) joints) after) m end v → Comes told registry_of passes alone (making_each (drop i joints) before) w end v
  makes_more joints i j inside is before after end w m v this later =
      subst (λ (js : List Joint). Comes told registry_of passes alone (making_each js before) w end v) (sym (drop_more joints i j inside ∙ ap (λ (x : Joint). x ∷ drop (i + 1) joints) (sym is)))
      (comes_then told registry_of passes alone (λ (t : Standing). making_each (drop (i + 1) joints) t) after m end v later (work_for before j.key (Changing (change_of_joint j) (λ heard. after_change (said j.message) j.caller heard))) w this)

  -- the next is answered, then the rest
  pub answers_more : (joints : List Joint) (i : ℕ) (j : Joint) (outcomes rest : List Outcome) (o : Outcome) → i < length joints → j ≡ get_or joints i j → outcomes ≡ o ∷ rest → (before after end : Standing) (w m v : World N G) →
      Comes told registry_of passes alone (work_for before j.key (after_change (said j.message) j.caller (Says o))) w after m →
      Comes told registry_of passes alone (answering_each (drop (i + 1) joints) rest after) m end v → Comes told registry_of passes alone (answering_each (drop i joints) outcomes before) w end v
  answers_more joints i j outcomes rest o inside is steps before after end w m v this later =
      subst (λ (os : List Outcome). Comes told registry_of passes alone (answering_each (drop i joints) os before) w end v) (sym steps)
      (subst (λ (js : List Joint). Comes told registry_of passes alone (answering_each js (o ∷ rest) before) w end v) (sym (drop_more joints i j inside ∙ ap (λ (x : Joint). x ∷ drop (i + 1) joints) (sym is)))
      (comes_then told registry_of passes alone (λ (t : Standing). answering_each (drop (i + 1) joints) rest t) after m end v later (work_for before j.key (after_change (said j.message) j.caller (Says o))) w this))

  -- nobody is left to be answered, or nothing to be told
  pub answers_past : (joints : List Joint) (i : ℕ) (outcomes rest : List Outcome) → length joints ≤ i → (s end : Standing) (w v : World N G) →
      Comes told registry_of passes alone (answering_each (drop i joints) rest s) w end v → Comes told registry_of passes alone (answering_each (drop i joints) outcomes s) w end v
  answers_past joints i outcomes rest past s end w v later = by_rest (drop i joints) (omega (arith, past, length-drop i joints)) later
    where
      by_rest : (js : List Joint) → length js ≡ 0 → Comes told registry_of passes alone (answering_each js rest s) w end v → Comes told registry_of passes alone (answering_each js outcomes s) w end v
      by_rest [] none later = later
      by_rest (j ∷ js) none later = absurd (omega (arith, none))

  pub answers_none : (joints : List Joint) (s : Standing) (w : World N G) → Comes told registry_of passes alone (answering_each joints [] s) w s w
  answers_none [] s w = (refl, refl)
  answers_none (j ∷ joints) s w = (refl, refl)

  module _ (s t : Standing) (w v : World N G) where
    -- one alone, or none
    pub makes_few : (joints : List Joint) → length joints < 2 → Comes told registry_of passes alone (making_each joints s) w t v → Comes told registry_of passes alone (making_all joints s) w t v
    makes_few [] few done = done
    makes_few (j ∷ []) few done = done
    makes_few (j ∷ k ∷ joints) few done = absurd (omega (arith, few))

    -- several
    pub makes_many : (joints : List Joint) (granted : Bool) → 2 ≤ length joints → Comes told registry_of passes alone (making_if joints s granted) w t v → Comes told registry_of passes alone (making_all joints s) w t v
    makes_many [] granted many done = absurd (omega (arith, many))
    makes_many (j ∷ []) granted many done = absurd (omega (arith, many))
    makes_many (j ∷ k ∷ joints) granted many done = (granted, done)

  -- ---- the next message

  -- the changes before it are made first
  pub parts_from : (joints : List Joint) (s t u : Standing) (work : Standing → Stands) (w m v : World N G) → Comes told registry_of passes alone (making_all joints s) w t m → Comes told registry_of passes alone (work t) m u v →
      Comes told registry_of passes alone (after_joints joints s work) w (record { joints = []; standing = u; served = true }) v
  parts_from joints s t u work w m v making later =
      let end : Gathered = record { joints = []; standing = u; served = true } in
      comes_then told registry_of passes alone (λ (x : Standing). and_then (work x) (λ (y : Standing). gathering_of_one [] y)) t m end v
      (comes_then told registry_of passes alone (λ (y : Standing). gathering_of_one [] y) u v end v (refl, refl) (work t) m later)
      (making_all joints s) w making

  pub serves_apart : {T E : Type 0} (r : Result T E) (joints left : List Joint) (key : ℕ) (s t u : Standing) (w m v : World N G) → left ≡ [] → Comes told registry_of passes alone (making_all joints s) w t m →
      OnOk r (Comes told registry_of passes alone (serving_next t key (peer_at t key)) m u v) → OnOk r (Comes told registry_of passes alone (serving_apart joints s key) w (record { joints = left; standing = u; served = true }) v)
  serves_apart (Err e) joints left key s t u w m v none making served = tt
  serves_apart (Ok x) joints left key s t u w m v none making served =
      subst (λ (js : List Joint). let end : Gathered = record { joints = js; standing = u; served = true } in Comes told registry_of passes alone (serving_apart joints s key) w end v) (sym none)
      (parts_from joints s t u (λ (y : Standing). serving_next y key (peer_at y key)) w m v making served)

  -- nothing is next
  pub gathers_none : (joints : List Joint) (s : Standing) (key : ℕ) (p : Peer) (w : World N G) → IsQuiet p → Comes told registry_of passes alone (gathering joints s key (Some p)) w (record { joints = joints; standing = s; served = false }) w
  gathers_none joints s key p w quiet = in_stage p.stage quiet
    where
      in_stage : (stage : Stage) → IsQuietAt p stage → Comes told registry_of passes alone (gathering_at joints s key p stage) w (record { joints = joints; standing = s; served = false }) w
      in_stage (Authenticating setting state) quiet = (refl, refl)
      in_stage (Unnamed privileged) quiet = (Waits, quiet, (refl, refl))
      in_stage (Named conn) quiet = (Waits, quiet, (refl, refl))
      in_stage (Closing conn) quiet = (refl, refl)

  -- it does not join
  pub gathers_apart : (joints : List Joint) (s : Standing) (key : ℕ) (p : Peer) (w v : World N G) (end : Gathered) → IsApart p p.stage → Comes told registry_of passes alone (serving_apart joints s key) w end v →
      Comes told registry_of passes alone (gathering joints s key (Some p)) w end v
  gathers_apart joints s key p w v end due served = in_stage p.stage due
    where
      if_joins : (message : List ℕ) (q : Peer) (conn : Conn) (b : Bool) → Comes told registry_of passes alone (if b then Wanting (λ granted. joining_if joints s key message q conn granted) else serving_apart joints s key) w end v
      if_joins message q conn true = (false, served)
      if_joins message q conn false = served

      if_watches : (message : List ℕ) (q : Peer) (conn : Conn) (watches : Bool) → Comes told registry_of passes alone (gathering_message joints s key message q conn watches) w end v
      if_watches message q conn true = served
      if_watches message q conn false = if_joins message q conn (may_join (said message))

      at_incoming : (conn : Conn) (incoming : Incoming) → incoming ≢ Waits → Comes told registry_of passes alone (gathering_incoming joints s key p conn incoming) w end v
      at_incoming conn Waits other = absurd (other refl)
      at_incoming conn (Faulty fault) other = served
      at_incoming conn (Whole message rest) other = if_watches message (record p { unread = rest }) conn p.watches

      apart_at : (incoming : Incoming) → incoming ≢ Waits → Comes told registry_of passes alone (serving_incoming_apart joints s key incoming) w end v
      apart_at Waits other = absurd (other refl)
      apart_at (Faulty fault) other = served
      apart_at (Whole message rest) other = served

      in_stage : (stage : Stage) → IsApart p stage → Comes told registry_of passes alone (gathering_at joints s key p stage) w end v
      in_stage (Authenticating setting state) due = absurd due
      in_stage (Unnamed privileged) due = (due.0, due.1, apart_at due.0 due.2)
      in_stage (Named conn) due = (due.0, due.1, at_incoming conn due.0 due.2)
      in_stage (Closing conn) due = absurd due

  -- it is a call that adds or removes a rule, and reads well
  pub gathers_rule : (joints : List Joint) (s : Standing) (key : ℕ) (old new : Peer) (conn : Conn) (message : List ℕ) (call : Call) (c : RuleCall) (w v : World N G) (end : Gathered) →
      old.stage ≡ Named conn → IsIncoming old.unread (Whole message new.unread) → IsRest old new → old.watches ≡ false → may_join (said message) ≡ true → IsCall (said message) (Ok call) → rule_call (Ok call) ≡ Some c →
      Comes told registry_of passes alone (joining_call joints s key message new conn c) w end v → Comes told registry_of passes alone (gathering joints s key (Some old)) w end v
  gathers_rule joints s key old new conn message call c w v end named incoming rest speaks joins reads is served =
      let left : Peer = record old { unread = new.unread } in
      let of_left = subst (λ (q : Peer). Comes told registry_of passes alone (joining_call joints s key message q conn c) w end v) rest served in
      let of_call = subst (λ (o : Option RuleCall). Comes told registry_of passes alone (joining_reading joints s key message left conn o) w end v) (sym is) of_left in
      let wanted : Comes told registry_of passes alone (Wanting (λ granted. joining_if joints s key message left conn granted)) w end v = (true, (Ok call, reads, of_call)) in
      let of_header = subst (λ (b : Bool). Comes told registry_of passes alone (if b then Wanting (λ granted. joining_if joints s key message left conn granted) else serving_apart joints s key) w end v) (sym joins) wanted in
      let of_client = subst (λ (b : Bool). Comes told registry_of passes alone (gathering_message joints s key message left conn b) w end v) (sym speaks) of_header in
      subst (λ (stage : Stage). Comes told registry_of passes alone (gathering_at joints s key old stage) w end v) (sym named) (Whole message new.unread, incoming, of_client)

  -- the next message, then the rest; memory is there
  pub turns_more : (keys : List ℕ) (i : ℕ) → i < length keys → (begun : Bool) (js : List Joint) (before end : Standing) (after : Gathered) (w m v : World N G) →
      Comes told registry_of passes alone (gathering js before (get_or keys i 0) (peer_at before (get_or keys i 0))) w after m →
      Comes told registry_of passes alone (turning after.joints (drop (i + 1) keys) (begun || after.served) after.standing) m end v → Comes told registry_of passes alone (turning js (drop i keys) begun before) w end v
  turns_more keys i inside begun js before end after w m v this later =
      subst (λ ks. Comes told registry_of passes alone (turning js ks begun before) w end v) (sym (drop_more keys i 0 inside)) (by_begun begun later)
    where
      by_begun : (b : Bool) → Comes told registry_of passes alone (turning after.joints (drop (i + 1) keys) (b || after.served) after.standing) m end v →
          Comes told registry_of passes alone (turning js (get_or keys i 0 ∷ drop (i + 1) keys) b before) w end v
      by_begun false rest =
          comes_then told registry_of passes alone (λ (g : Gathered). turning g.joints (drop (i + 1) keys) g.served g.standing) after m end v rest (gathering js before (get_or keys i 0) (peer_at before (get_or keys i 0))) w this
      by_begun true rest =
          (true, comes_then told registry_of passes alone (λ (g : Gathered). turning g.joints (drop (i + 1) keys) true g.standing) after m end v rest (gathering js before (get_or keys i 0) (peer_at before (get_or keys i 0))) w this)

  -- memory is refused before a later message: the turn ends
  pub turns_end : (keys : List ℕ) (i : ℕ) → i < length keys → (js : List Joint) (before end : Standing) (w v : World N G) → Comes told registry_of passes alone (making_all js before) w end v →
      Comes told registry_of passes alone (turning js (drop i keys) true before) w end v
  turns_end keys i inside js before end w v making =
      subst (λ ks. Comes told registry_of passes alone (turning js ks true before) w end v) (sym (drop_more keys i 0 inside)) (false, making)

-- neither of two is
pub neither : (a b : Bool) → (a || b) ≡ false → (a ≡ false) × (b ≡ false)
neither true b is = absurd (false≢true (sym is))
neither false b is = (refl, is)

-- what holds is said of a result, or is not
pub on_ok : {T E X : Type 0} (r : Result T E) → X → OnOk r X
on_ok (Ok x) holds = holds
on_ok (Err e) holds = tt

pub on_err : {T E X : Type 0} (r : Result T E) → X → OnErr r X
on_err (Ok x) holds = tt
on_err (Err e) holds = holds

-- calls that add and remove rules are told a reply alone
pub replies_alone : (b : WholeBus) (seat : ℕ) (joints : List Joint) (changes : List Change) (outcomes : List Outcome) → changes ≡ map change_of_joint joints → outcomes ≡ outcomes_of b seat changes → AllByRecursion RepliesAlone outcomes
replies_alone b seat joints changes outcomes are told =
    subst (AllByRecursion RepliesAlone) (sym (told ∙ ap (outcomes_of b seat) are)) (rules_bring_none b seat joints)

-- whoever has a name is there
pub named_peer : (o : Option Peer) → is_named o ≡ true → (p : Peer) × (o ≡ Some p)
named_peer None is = absurd (false≢true is)
named_peer (Some p) is = (p, refl)

module _ {V N R G : Type 0} (view : BusView V N R) (gate : Gate G) where
  -- what is done for one that has a name
  pub settles : (s : Standing) (key : ℕ) (work : OfFate) (becomes : PeerFate) (old new : Peer) (w m v : World N G) → is_named (Some old) ≡ true → peer_at s key ≡ Some old → Comes view.told view.registry_of gate.passes view.alone work w becomes m →
      Comes view.told view.registry_of gate.passes view.alone (after_serving key becomes old) m new v → Comes view.told view.registry_of gate.passes view.alone (work_for s key work) w (with_peer s key (Some new)) v
  settles s key work becomes old new w m v named there served settled =
      subst (λ (o : Option Peer). Comes view.told view.registry_of gate.passes view.alone (work_at s key o work) w (with_peer s key (Some new)) v) (sym there) (in_stage old.stage named)
    where
      done : Comes view.told view.registry_of gate.passes view.alone (and_then work (λ (f : PeerFate). after_serving key f old)) w new v
      done = comes_then view.told view.registry_of gate.passes view.alone (λ (f : PeerFate). after_serving key f old) becomes m new v settled work w served

      in_stage : (stage : Stage) → is_named (Some (record old { stage = stage })) ≡ true → Comes view.told view.registry_of gate.passes view.alone (work_in s key old stage work) w (with_peer s key (Some new)) v
      in_stage (Named conn) is = for_some view.told view.registry_of gate.passes view.alone s key old new (λ (x : Peer). and_then work (λ (f : PeerFate). after_serving key f x)) w v done
      in_stage (Authenticating setting state) is = absurd (false≢true is)
      in_stage (Unnamed privileged) is = absurd (false≢true is)
      in_stage (Closing conn) is = absurd (false≢true is)

  -- it gets no slot by that
  pub settled_keeps : (key : ℕ) (becomes : PeerFate) (old new : Peer) (w v : World N G) → Comes view.told view.registry_of gate.passes view.alone (after_serving key becomes old) w new v → Keeps (Some old) (Some new)
  settled_keeps key becomes old new w v settled = given view.told view.registry_of gate.passes view.alone (λ (q : Peer). Keeps (Some old) (Some q)) new v (after_serving key becomes old) w (by_fate becomes) settled
    where
      by_fate : (f : PeerFate) → AllGive (λ (q : Peer). Keeps (Some old) (Some q)) (after_serving key f old)
      by_fate fate.Stays = λ slot has. has
      by_fate fate.Watches = λ slot has. has
      by_fate (fate.Closes why) = λ slot has. absurd (false≢true has)
