-- What a place gives.
use Rattle.std.proofs.Common.{◌≡◌, ℕ, Option, Some, None, List, [], refl, inl, inr}
use Rattle.std.specs.Prelude.{MatchOption}
use Rattle.outbox.specs.Lanes.{End, WasEmpty}
use Rattle.routers_core.specs.declared.slot_mail.Kept.{Kept}
use Rattle.routers_core.specs.Posts.{SlotMail, HasNone, IsFirst, Takes}

module _ {E : Type 0} where
  abbrev pub place : End E → (taken : ℕ) → List (Kept E) → SlotMail E
  place tap taken own = record { tap = tap; own = own; taken = taken }

  -- nothing of others is there
  pub took_own : (p : SlotMail E) (left : List (Kept E)) (taken : Option E) → WasEmpty p.tap
      → MatchOption taken ((left ≡ p.own) × (p.own ≡ [])) (λ item. IsFirst item p.own left)
      → MatchOption taken ((record p { own = left } ≡ p) × HasNone p) (λ item. Takes p item (record p { own = left }))
  took_own p left None empty told = ((λ i. record p { own = told.0 i }), (told.1, empty))
  took_own p left (Some item) empty told = inl (told, inr empty, refl)
