-- Events that are served one after the other.
use Rattle.std.specs.Prelude.{◌≡◌, ℕ, Bool, List, [], ◌∷◌, ◌++◌}
use Rattle.router_core.specs.Acts.{Exchange, IsServedBy}
use Rattle.router_core.specs.Deeds.{Deed}
use Rattle.router_core.specs.Events.{Occasion}
use Rattle.router_core.specs.OneThread.{Rest, keys_after, bytes_to}

-- what was asked and answered while one event was served, and what was done
pub record Turn : Type 0 where
  pub asked : List Exchange
  pub deeds : List Deed

-- The occasions come one after the other, and each is served so.
abbrev pub AreServedBy : Bool → Rest → List Occasion → List Turn → Rest → Type 0
AreServedBy alone before [] [] after = after ≡ before
AreServedBy alone before (occasion ∷ occasions) (turn ∷ turns) after =
    (between : Rest) × IsServedBy alone before.standing before.view occasion turn.asked turn.deeds between.standing between.view × AreServedBy alone between occasions turns after
AreServedBy alone before occasions turns after = ⊥

-- all that was asked and answered, in order
abbrev pub exchanges_of : List Turn → List Exchange
exchanges_of [] = []
exchanges_of (turn ∷ turns) = turn.asked ++ exchanges_of turns

-- the keys of all the connections that came, the last first
abbrev pub keys_of : List Occasion → List ℕ → List ℕ
keys_of [] keys = keys
keys_of (occasion ∷ occasions) keys = keys_of occasions (keys_after occasion keys)

-- the bytes that the deeds write to the connection of this opening
abbrev pub run_bytes : ℕ → List ℕ → List Occasion → List Turn → List ℕ
run_bytes opening keys (occasion ∷ occasions) (turn ∷ turns) = bytes_to opening (keys_after occasion keys) turn.deeds ++ run_bytes opening (keys_after occasion keys) occasions turns
run_bytes opening keys occasions turns = []
