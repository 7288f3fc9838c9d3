-- What holds of every result that a script may come to.
use Rattle.std.proofs.Common.{Bool, true, false, List, [], ◌∷◌, sym, subst}
use Rattle.std.specs.Prelude.{Option, if◌then◌else◌}
use Rattle.seq_bus_core.specs.Answers.{Answer}
use Rattle.seq_bus_core.specs.declared.connection.Conn.{Conn}
use Rattle.seq_bus_core.specs.declared.outcome.Outcome.{Outcome}
use Rattle.seq_bus_core.specs.declared.verdict.Verdict.{Verdict}
use Rattle.driver.specs.Calls.{Reading}
use Rattle.driver.specs.declared.call.Call.{Call}
use Rattle.outbox_core.specs.Contents.{Said}
use Rattle.router_core.specs.Acts.{Exchange, Goes}
use Rattle.router_core.specs.Answers.{Heard}
use Rattle.router_core.specs.Deeds.{Deed}
use Rattle.router_core.specs.Incoming.{Incoming}
use Rattle.router_core.specs.Scripts.{Script, Gives, Changing, ChangingAll, Asking, Routing, AskingPresence, Noting, Framing, Calling, Gating, Wanting, Requiring, Doing, Announcing, and_then, putting}

-- Whatever is answered, this holds of the result.
abbrev pub Always : {X : Type 0} → (X → Type 0) → Script X → Type 0
Always P (Gives x) = P x
Always P (Changing change goes_on) = (heard : Heard Outcome) → Always P (goes_on heard)
Always P (ChangingAll changes goes_on) = (heard : Heard (List Outcome)) → Always P (goes_on heard)
Always P (Asking query goes_on) = (heard : Heard (Option Answer)) → Always P (goes_on heard)
Always P (Routing from facts goes_on) = (heard : Heard Verdict) → Always P (goes_on heard)
Always P (AskingPresence number goes_on) = (heard : Heard Bool) → Always P (goes_on heard)
Always P (Noting told s) = Always P s
Always P (Framing bytes goes_on) = (incoming : Incoming) → Always P (goes_on incoming)
Always P (Calling m goes_on) = (reading : Reading Call) → Always P (goes_on reading)
Always P (Gating call s) = Always P s
Always P (Wanting goes_on) = (granted : Bool) → Always P (goes_on granted)
Always P (Requiring holds s) = Always P s
Always P (Doing deed s) = Always P s
Always P (Announcing signals s) = Always P s

module _ {X : Type 0} (P : X → Type 0) where
  pub of_result : (s : Script X) (asked : List Exchange) (deeds : List Deed) (x : X) → Goes s asked deeds x → Always P s → P x
  of_result (Gives y) asked deeds x g a = subst P (sym g.2) a
  of_result (Changing change goes_on) asked deeds x g a = of_result (goes_on g.0) g.1 deeds x g.3 (a g.0)
  of_result (ChangingAll changes goes_on) asked deeds x g a = of_result (goes_on g.0) g.1 deeds x g.3 (a g.0)
  of_result (Asking query goes_on) asked deeds x g a = of_result (goes_on g.0) g.1 deeds x g.3 (a g.0)
  of_result (Routing from facts goes_on) asked deeds x g a = of_result (goes_on g.0) g.1 deeds x g.3 (a g.0)
  of_result (AskingPresence number goes_on) asked deeds x g a = of_result (goes_on g.0) g.1 deeds x g.3 (a g.0)
  of_result (Noting told s) asked deeds x g a = of_result s g.0 deeds x g.2 a
  of_result (Framing bytes goes_on) asked deeds x g a = of_result (goes_on g.0) g.1 deeds x g.3 (a g.0)
  of_result (Calling m goes_on) asked deeds x g a = of_result (goes_on g.0) g.1 deeds x g.3 (a g.0)
  of_result (Gating call s) asked deeds x g a = of_result s g.1 deeds x g.3 a
  of_result (Wanting goes_on) asked deeds x g a = of_result (goes_on g.0) g.1 deeds x g.3 (a g.0)
  of_result (Requiring holds s) asked deeds x g a = of_result s asked deeds x g.1 a
  of_result (Doing deed s) asked deeds x g a = of_result s asked g.0 x g.2 a
  of_result (Announcing signals s) asked deeds x g a = of_result s asked g.0 x g.2 a

  pub whatever : ((x : X) → P x) → (s : Script X) → Always P s
  whatever all (Gives x) = all x
  whatever all (Changing change goes_on) = λ heard. whatever all (goes_on heard)
  whatever all (ChangingAll changes goes_on) = λ heard. whatever all (goes_on heard)
  whatever all (Asking query goes_on) = λ heard. whatever all (goes_on heard)
  whatever all (Routing from facts goes_on) = λ heard. whatever all (goes_on heard)
  whatever all (AskingPresence number goes_on) = λ heard. whatever all (goes_on heard)
  whatever all (Noting told s) = whatever all s
  whatever all (Framing bytes goes_on) = λ incoming. whatever all (goes_on incoming)
  whatever all (Calling m goes_on) = λ reading. whatever all (goes_on reading)
  whatever all (Gating call s) = whatever all s
  whatever all (Wanting goes_on) = λ granted. whatever all (goes_on granted)
  whatever all (Requiring holds s) = whatever all s
  whatever all (Doing deed s) = whatever all s
  whatever all (Announcing signals s) = whatever all s

  pub by_test : (b : Bool) (s t : Script X) → Always P s → Always P t → Always P (if b then s else t)
  by_test true s t h k = h
  by_test false s t h k = k

  pub put_before : (conns : List Conn) (said : Said) (s : Script X) → Always P s → Always P (putting conns said s)
  put_before [] said s h = h
  put_before (conn ∷ conns) said s h = h

module _ {X Y : Type 0} (P : X → Type 0) (Q : Y → Type 0) (next : X → Script Y) (each : (x : X) → P x → Always Q (next x)) where
  pub one_then : (s : Script X) → Always P s → Always Q (and_then s next)
  one_then (Gives x) h = each x h
  one_then (Changing change goes_on) h = λ heard. one_then (goes_on heard) (h heard)
  one_then (ChangingAll changes goes_on) h = λ heard. one_then (goes_on heard) (h heard)
  one_then (Asking query goes_on) h = λ heard. one_then (goes_on heard) (h heard)
  one_then (Routing from facts goes_on) h = λ heard. one_then (goes_on heard) (h heard)
  one_then (AskingPresence number goes_on) h = λ heard. one_then (goes_on heard) (h heard)
  one_then (Noting told s) h = one_then s h
  one_then (Framing bytes goes_on) h = λ incoming. one_then (goes_on incoming) (h incoming)
  one_then (Calling m goes_on) h = λ reading. one_then (goes_on reading) (h reading)
  one_then (Gating call s) h = one_then s h
  one_then (Wanting goes_on) h = λ granted. one_then (goes_on granted) (h granted)
  one_then (Requiring holds s) h = one_then s h
  one_then (Doing deed s) h = one_then s h
  one_then (Announcing signals s) h = one_then s h

module _ {X : Type 0} (P Q : X → Type 0) (more : (x : X) → P x → Q x) where
  pub weaker : (s : Script X) → Always P s → Always Q s
  weaker (Gives x) h = more x h
  weaker (Changing change goes_on) h = λ heard. weaker (goes_on heard) (h heard)
  weaker (ChangingAll changes goes_on) h = λ heard. weaker (goes_on heard) (h heard)
  weaker (Asking query goes_on) h = λ heard. weaker (goes_on heard) (h heard)
  weaker (Routing from facts goes_on) h = λ heard. weaker (goes_on heard) (h heard)
  weaker (AskingPresence number goes_on) h = λ heard. weaker (goes_on heard) (h heard)
  weaker (Noting told s) h = weaker s h
  weaker (Framing bytes goes_on) h = λ incoming. weaker (goes_on incoming) (h incoming)
  weaker (Calling m goes_on) h = λ reading. weaker (goes_on reading) (h reading)
  weaker (Gating call s) h = weaker s h
  weaker (Wanting goes_on) h = λ granted. weaker (goes_on granted) (h granted)
  weaker (Requiring holds s) h = weaker s h
  weaker (Doing deed s) h = weaker s h
  weaker (Announcing signals s) h = weaker s h

-- what is done first makes no difference
pub then_whatever : {X Y : Type 0} (Q : Y → Type 0) (s : Script X) (next : X → Script Y) → ((x : X) → Always Q (next x)) → Always Q (and_then s next)
then_whatever {X = X} Q s next each = one_then (λ (x : X). Unit {0}) Q next (λ x h. each x) s (whatever (λ (x : X). Unit {0}) (λ x. tt) s)
