-- Connections that had no name in time, one after the other.
use Rattle.std.proofs.Common.{ℕ, [], ◌∷◌, ◌++◌, refl}
use Rattle.router_host_core.proofs.Steps.{each_then}
use Rattle.router_host.specs.Expiring.{IsExpired, LoginTimeEnds}
use Rattle.router_host.specs.States.{Hosted}

module _ {P G N : Type 0} where
  pub expires_none : {a : Hosted P G N} → LoginTimeEnds a a
  expires_none {a = a} = record { keys = []; expired = refl }

  pub expires_one : {a b : Hosted P G N} (key : ℕ) → IsExpired key a b → LoginTimeEnds a b
  expires_one {b = b} key f = record { keys = key ∷ []; expired = (b, f, refl) }

  pub expires_then : {a b c : Hosted P G N} → LoginTimeEnds a b → LoginTimeEnds b c → LoginTimeEnds a c
  expires_then {a = a} {b = b} {c = c} f g =
      record { keys = f.keys ++ g.keys; expired = each_then IsExpired f.keys g.keys a b c f.expired g.expired }
