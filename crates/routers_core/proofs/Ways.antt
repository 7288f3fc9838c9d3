-- What a lane puts, and what a place keeps.
use Rattle.std.proofs.Common.{◌≡◌, ◌+◌, ◌<◌, ℕ, List, length, get_or, inl, inr, refl, sym, ap, ◌∙◌, subst, arith}
use Rattle.std.specs.Prelude.{Some, slice_get, slice_set}
use Rattle.std.proofs.lemmas.Option.{slice_get_cases, slice_get_read}
use Rattle.outbox.specs.Lanes.{End, sent, with}
use Rattle.routers_core.specs.Posts.{SlotMail, Puts, Sends, HasRoom, IsFull, IsFullFor, Waited, Ways, kept}

module _ {E : Type 0} where
  pub is_put : (ends : List (End E)) (slot : ℕ) (item : E) (after : List (End E)) → slot < length ends
      → ((e : End E) → slice_get ends slot ≡ Some e → after ≡ slice_set ends slot (with e (sent e.hand item)))
      → Puts ends slot item after
  is_put ends slot item after within put = elim (slice_get_cases ends slot).1 [
    | inl found ↦ (found.0, found.2, put found.0 found.2)
    | inr past ↦ absurd (omega (arith, within, past.0))
  ]

module _ {E S : Type 0} (ways : Ways E S) (slot place : ℕ) (p : SlotMail E) (is : slot ≡ ways.first + place) (within : place < length ways.places) (at : p ≡ get_or ways.places place p) where
  stands : slice_get ways.places place ≡ Some p
  stands = slice_get_read ways.places (length ways.places) place p refl within at

  pub is_kept : (q : SlotMail E) (waiting : ℕ) (item : E) → HasRoom p → Waited ways slot waiting → q ≡ kept p item waiting
      → Sends ways slot item (record ways { places = slice_set ways.places place q })
  is_kept q waiting item room waited keeps =
      inl (place, waiting, p, (is, stands), room, waited, ap (λ (r : SlotMail E). record ways { places = slice_set ways.places place r }) keeps)

  pub is_full : IsFull p → IsFullFor ways slot
  is_full full = (
    (λ other q there.
        let same : other ≡ place = omega (arith, there.0, is) in
        let gives : Some q ≡ Some p = sym there.1 ∙ ap (λ i. slice_get ways.places i) same ∙ stands in
        let one : q ≡ p = cc in
        subst IsFull (sym one) full),
    (λ none e lane. absurd (none (place, p, (is, stands)))),
  )
