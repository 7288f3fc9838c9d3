-- Readers who read what was asked.
use Rattle.std.proofs.Common.{◌≡◌, ℕ, Bool, true, false, List, [], ◌∷◌, ◌++◌, refl, ap, ◌∙◌, subst, arith}
use Rattle.std.proofs.lemmas.Bool.Decides.{nat_tests}
use Rattle.std.specs.Prelude.{◌==◌, ◌&&◌, if◌then◌else◌}
use Rattle.marshal_core.proofs.Results.{both_true, eqb-yes}
use Rattle.bus_view.specs.Views.{Knowledge}
use Rattle.driver.specs.Calls.{IsCall}
use Rattle.router_core.specs.Acts.{Exchange, Changed, ChangedAll, Asked, Routed, AskedPresence, Noted, Framed, Called, Gated, Wanted, IsLawful}
use Rattle.router_core.specs.Incoming.{Incoming, Waits, IsIncoming}
use Rattle.router_core.proofs.Alone.{Readers, AreReadBy}
use Rattle.router_core.proofs.Calls.{calls_are_one, calls_are_read}
use Rattle.router_core.proofs.Incoming.{incoming_is_one}

-- ## What is read rightly

abbrev pub AreRight : List Exchange → Type 0
AreRight [] = Unit {0}
AreRight (Framed bytes incoming ∷ later) = IsIncoming bytes incoming × AreRight later
AreRight (Called m reading ∷ later) = IsCall m reading × AreRight later
AreRight (other ∷ later) = AreRight later

pub right_lawful : (alone : Bool) (asked : List Exchange) (before after : Knowledge) → IsLawful alone before asked after → AreRight asked
right_lawful alone [] before after h = tt
right_lawful alone (Changed change heard ∷ later) before after h = right_lawful alone later h.0 after h.2
right_lawful alone (ChangedAll changes heard ∷ later) before after h = right_lawful alone later h.0 after h.2
right_lawful alone (Asked query heard ∷ later) before after h = right_lawful alone later h.0 after h.2
right_lawful alone (Routed from facts heard ∷ later) before after h = right_lawful alone later h.0 after h.2
right_lawful alone (AskedPresence number heard ∷ later) before after h = right_lawful alone later h.0 after h.2
right_lawful alone (Noted told ∷ later) before after h = right_lawful alone later h.0 after h.2
right_lawful alone (Framed bytes incoming ∷ later) before after h = (h.0, right_lawful alone later before after h.1)
right_lawful alone (Called m reading ∷ later) before after h = (h.0, right_lawful alone later before after h.1)
right_lawful alone (Gated seen call ∷ later) before after h = right_lawful alone later before after h.1
right_lawful alone (Wanted granted ∷ later) before after h = right_lawful alone later before after h

pub right_append : (first later : List Exchange) → AreRight first → AreRight later → AreRight (first ++ later)
right_append [] later h k = k
right_append (Changed change heard ∷ first) later h k = right_append first later h k
right_append (ChangedAll changes heard ∷ first) later h k = right_append first later h k
right_append (Asked query heard ∷ first) later h k = right_append first later h k
right_append (Routed from facts heard ∷ first) later h k = right_append first later h k
right_append (AskedPresence number heard ∷ first) later h k = right_append first later h k
right_append (Noted told ∷ first) later h k = right_append first later h k
right_append (Framed bytes incoming ∷ first) later h k = (h.0, right_append first later h.1 k)
right_append (Called m reading ∷ first) later h k = (h.0, right_append first later h.1 k)
right_append (Gated seen call ∷ first) later h k = right_append first later h k
right_append (Wanted granted ∷ first) later h k = right_append first later h k

-- ## Readers

abbrev same_bytes : List ℕ → List ℕ → Bool
same_bytes [] [] = true
same_bytes (a ∷ later) (b ∷ others) = (a == b) && same_bytes later others
same_bytes a b = false

are_same : (a b : List ℕ) → same_bytes a b ≡ true → a ≡ b
are_same [] [] e = refl
are_same (a ∷ later) (b ∷ others) e =
    let h = both_true (a == b) (same_bytes later others) e in
    ap (λ (n : ℕ). n ∷ later) (eqb-yes a b h.0) ∙ ap (λ (bs : List ℕ). b ∷ bs) (are_same later others h.1)
are_same [] (b ∷ others) e = absurd cc
are_same (a ∷ later) [] e = absurd cc

eqb-same : (n : ℕ) → (n == n) ≡ true
eqb-same n = grind (arith, nat_tests)

same_is : (a : List ℕ) → same_bytes a a ≡ true
same_is [] = refl
same_is (a ∷ later) = rw (eqb-same a) (same_is later)

-- these bytes are read so, and others as before
abbrev incoming_or : List ℕ → Incoming → (List ℕ → Incoming) → List ℕ → Incoming
incoming_or bytes incoming others other = if same_bytes bytes other then incoming else others other

abbrev incoming_of : List Exchange → List ℕ → Incoming
incoming_of [] = λ bytes. Waits
incoming_of (Framed bytes incoming ∷ later) = incoming_or bytes incoming (incoming_of later)
incoming_of (other ∷ later) = incoming_of later

abbrev reading_by : (List ℕ → Incoming) → Readers
reading_by incoming = record { incoming = incoming; call = λ m. (calls_are_read m).0 }

-- readers who read all that was asked
abbrev pub readers_of : List Exchange → Readers
readers_of asked = reading_by (incoming_of asked)

module _ (bytes : List ℕ) (incoming : Incoming) (is : IsIncoming bytes incoming) (others : List ℕ → Incoming) where
  still_read : (other : List ℕ) (so : Incoming) → IsIncoming other so → so ≡ others other → so ≡ incoming_or bytes incoming others other
  still_read other so right e = by_test (same_bytes bytes other) refl
    where
      by_test : (b : Bool) → same_bytes bytes other ≡ b → so ≡ incoming_or bytes incoming others other
      by_test true same =
          rw same (incoming_is_one other so incoming right (subst (λ (bs : List ℕ). IsIncoming bs incoming) (are_same bytes other same) is))
      by_test false same = rw same e

  still : (asked : List Exchange) → AreRight asked → AreReadBy (reading_by others) asked → AreReadBy (reading_by (incoming_or bytes incoming others)) asked
  still [] right read = tt
  still (Changed change heard ∷ later) right read = still later right read
  still (ChangedAll changes heard ∷ later) right read = still later right read
  still (Asked query heard ∷ later) right read = still later right read
  still (Routed from facts heard ∷ later) right read = still later right read
  still (AskedPresence number heard ∷ later) right read = still later right read
  still (Noted told ∷ later) right read = still later right read
  still (Framed other so ∷ later) right read = (still_read other so right.0 read.0, still later right.1 read.1)
  still (Called m reading ∷ later) right read = (read.0, still later right.1 read.1)
  still (Gated seen call ∷ later) right read = still later right read
  still (Wanted granted ∷ later) right read = still later right read

-- they do
pub read_so : (asked : List Exchange) → AreRight asked → AreReadBy (readers_of asked) asked
read_so [] right = tt
read_so (Changed change heard ∷ later) right = read_so later right
read_so (ChangedAll changes heard ∷ later) right = read_so later right
read_so (Asked query heard ∷ later) right = read_so later right
read_so (Routed from facts heard ∷ later) right = read_so later right
read_so (AskedPresence number heard ∷ later) right = read_so later right
read_so (Noted told ∷ later) right = read_so later right
read_so (Framed bytes incoming ∷ later) right = (rw (same_is bytes) refl, still bytes incoming right.0 (incoming_of later) later right.1 (read_so later right.1))
read_so (Called m reading ∷ later) right =
    let found = calls_are_read m in
    (calls_are_one m reading found.0 right.0 found.1, read_so later right.1)
read_so (Gated seen call ∷ later) right = read_so later right
read_so (Wanted granted ∷ later) right = read_so later right
