-- Messages that are pending: the first goes first, and one more stands behind the others.
use Rattle.std.proofs.Common.{◌≡◌, ◌≢◌, ℕ, ◌<◌, Bool, List, [], ◌∷◌, ◌++◌, length, drop, Option, Some, None, refl, sym, ap, subst, ◌∙◌, append_assoc, arith}
use Rattle.std.proofs.lemmas.List.{append-nil}
use Rattle.std.specs.Option.{option_to_list}
use Rattle.message_core.specs.declared.fault.FrameFault.{FrameFault}
use Rattle.router_core.specs.Incoming.{Incoming, Waits, Whole, Faulty, IsIncoming}
use Rattle.router_core.specs.Standing.{Peer, SpeaksDBus}
use Rattle.router_steps.specs.declared.peer.Stage.{Stage}
use Rattle.router_steps.specs.Pending.{AreWithin, pending_bytes}
use Rattle.router_steps.specs.Stages.{stage_of, unread_at}
use Rattle.router_steps.proofs.Stages.{messages_unread}

bytes_behind : (pending : List (List ℕ)) (message : List ℕ) → pending_bytes (pending ++ message ∷ []) ≡ pending_bytes pending ++ message
bytes_behind [] message = append-nil message
bytes_behind (first ∷ messages) message =
    ap (λ (l : List ℕ). first ++ l) (bytes_behind messages message) ∙ sym (append_assoc first (pending_bytes messages) message)

-- one more, off the unread bytes
pub bytes_read : (old room new : List (List ℕ)) (message unread rest : List ℕ) → room ≡ old → new ≡ room ++ message ∷ [] → unread ≡ message ++ rest → pending_bytes new ++ rest ≡ pending_bytes old ++ unread
bytes_read old room new message unread rest same pushed taken =
    ap (λ (p : List (List ℕ)). pending_bytes p ++ rest) (pushed ∙ ap (λ (p : List (List ℕ)). p ++ message ∷ []) same) ∙ ap (λ (l : List ℕ). l ++ rest) (bytes_behind old message)
    ∙ append_assoc (pending_bytes old) message rest ∙ ap (λ (l : List ℕ). pending_bytes old ++ l) (sym taken)

-- The first is taken off.
pub record Taken (old new : List (List ℕ)) (message rest : List ℕ) : Type 0 where
  pub incoming : IsIncoming (pending_bytes old ++ rest) (Whole message (pending_bytes new ++ rest))
  pub within : AreWithin new

pub taken : (old new : List (List ℕ)) (message rest : List ℕ) → old ≡ message ∷ new → AreWithin old → Taken old new message rest
taken old new message rest split within =
    let both : AreWithin (message ∷ new) = subst AreWithin split within in
    record {
      incoming = (both.0.is_message, both.0.within, ap (λ (p : List (List ℕ)). pending_bytes p ++ rest) split ∙ append_assoc message (pending_bytes new) rest);
      within = both.1;
    }

-- There was none.
pub none_taken : (old new : List (List ℕ)) (r : Option (List ℕ)) → ((x : List ℕ) → r ≡ Some x → ⊥) → old ≡ option_to_list r ++ new → new ≡ drop 1 old → (old ≡ []) × (new ≡ [])
none_taken old new (Some x) never split rest = absurd (never x refl)
none_taken [] new None never split rest = (refl, sym split)
none_taken (x ∷ xs) new None never split rest = absurd (omega (arith, ap length split, ap length rest))

pub whole_is_there : (message rest : List ℕ) → Whole message rest ≡ Waits → ⊥
whole_is_there message rest e = cc

pub fault_is_there : (fault : FrameFault) → Faulty fault ≡ Waits → ⊥
fault_is_there fault e = cc

abbrev seen : Stage → ℕ → Bool → List ℕ → Peer
seen at serial watches bytes = record { stage = stage_of at; unread = unread_at at bytes; serial = serial; watches = watches }

-- Of a connection that has begun its messages.
module _ (at : Stage) (bytes : List ℕ) (serial : ℕ) (watches : Bool) (p : Peer) (is : seen at serial watches bytes ≡ p) (begun : SpeaksDBus p.stage) where
  pub begun_at : SpeaksDBus (stage_of at)
  begun_at = subst (λ s. SpeaksDBus s) (sym (ap (λ (x : Peer). x.stage) is)) begun

  all_unread : p.unread ≡ bytes
  all_unread = sym (ap (λ (x : Peer). x.unread) is) ∙ messages_unread at bytes begun_at

  pub incoming_is : (now : List ℕ) (incoming : Incoming) → now ≡ bytes → IsIncoming now incoming → IsIncoming p.unread incoming
  incoming_is now incoming same h = subst (λ (l : List ℕ). IsIncoming l incoming) (same ∙ sym all_unread) h

  pub incoming_taken : (old new : List (List ℕ)) (message rest : List ℕ) → pending_bytes old ++ rest ≡ bytes → old ≡ message ∷ new → AreWithin old → IsIncoming p.unread (Whole message (unread_at at (pending_bytes new ++ rest)))
  incoming_taken old new message rest same split within =
      let left : List ℕ = pending_bytes new ++ rest in
      incoming_is (pending_bytes old ++ rest) (Whole message (unread_at at left)) same
      (subst (λ (l : List ℕ). IsIncoming (pending_bytes old ++ rest) (Whole message l)) (sym (messages_unread at left begun_at)) (taken old new message rest split within).incoming)

  -- some are pending
  pub incoming_pending : (pending : List (List ℕ)) (rest : List ℕ) → pending_bytes pending ++ rest ≡ bytes → AreWithin pending → 0 < length pending → (incoming : Incoming) × IsIncoming p.unread incoming × (incoming ≢ Waits)
  incoming_pending [] rest same within some = absurd (omega (arith, some))
  incoming_pending (message ∷ messages) rest same within some =
      let behind : List ℕ = unread_at at (pending_bytes messages ++ rest) in
      (Whole message behind, incoming_taken (message ∷ messages) messages message rest same refl within, whole_is_there message behind)

  pub rest_is : (left : List ℕ) → record { stage = stage_of at; unread = left; serial = serial; watches = watches } ≡ record p { unread = left }
  rest_is left = ap (λ (x : Peer). record x { unread = left }) is

  pub kept_is : (now : List ℕ) → now ≡ bytes → seen at serial watches now ≡ p
  kept_is now same = ap (λ (l : List ℕ). seen at serial watches l) same ∙ is
