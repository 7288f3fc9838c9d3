-- How routers reach one another, and whoever runs the programs of services.
use Rattle.std.specs.Prelude.{◌≡◌, ◌+◌, ◌-◌, ◌^◌, ◌<◌, ◌≤◌, ◌/◌, ◌⊎◌, max, min, ℕ, Bool, true, false, nat_le, List, [], ◌∷◌, ◌++◌, length, map, Some, slice_get, slice_set}
use Rattle.seq_bus_core.specs.BusState.{max_connections}
use Rattle.outbox.specs.declared.ends.TheConstants.{ROOM}
use Rattle.outbox.specs.declared.hand.Hand.{Hand}
use Rattle.outbox.specs.Lanes.{End, HadItems, Took, WasEmpty, WasFull, sent, with}
use Rattle.router_core.specs.declared.limits.TheConstants.{MAX_EFFECTS}
use Rattle.routers_core.specs.declared.slot_mail.Kept.{Kept}

-- how many places for connections each of so many routers has
abbrev pub places_of : ℕ → ℕ
places_of routers = max_connections / max routers 1

-- Where fewer envelopes wait that a router put for a place of its own than an outbox holds, it has room
-- for one more.
abbrev pub own_soft_limit : ℕ
own_soft_limit = ROOM

-- how many wait there at most, where an event brings many at once
abbrev pub own_hard_limit : ℕ
own_hard_limit = own_soft_limit + MAX_EFFECTS

-- A count of what was taken stops here.
abbrev pub counted : ℕ → ℕ
counted n = min n (2 ^ 64 - 1)

-- The mail for a slot of a router: the end that takes what others put for it; what its own router
-- put for it and has not taken yet, the oldest first, each with how many of what others put come
-- before it; and how many of these were taken.
pub record SlotMail (E : Type 0) : Type 0 where
  pub tap : End E
  pub own : List (Kept E)
  pub taken : ℕ

module _ {E : Type 0} where
  -- The item stands behind what the lane put for this slot before, and nothing else is put.
  abbrev pub Puts : List (End E) → ℕ → E → List (End E) → Type 0
  Puts before slot item after =
      (e : End E) × (slice_get before slot ≡ Some e)
      × (after ≡ slice_set before slot (with e (sent e.hand item)))

  -- the mail for a slot before anything was put
  abbrev pub new_slot_mail : End E → SlotMail E
  new_slot_mail tap = record { tap = tap; own = []; taken = 0 }

  abbrev pub kept_behind : List (Kept E) → E → ℕ → List (Kept E)
  kept_behind own item others = own ++ record { item = item; others = others } ∷ []

  -- The item stands behind what the router put for its place before, and behind so many of what
  -- others put, which wait there.
  abbrev pub kept : SlotMail E → E → (waiting : ℕ) → SlotMail E
  kept p item waiting = record p { own = kept_behind p.own item (counted (p.taken + waiting)) }

  -- All of what others put that comes before the oldest was taken, where it is so many.
  abbrev pub is_due : (taken : ℕ) → List (Kept E) → Bool
  is_due taken [] = false
  is_due taken (oldest ∷ own) = nat_le oldest.others taken

  abbrev pub IsFirst : E → List (Kept E) → List (Kept E) → Type 0
  IsFirst item before after = (oldest : Kept E) × (oldest.item ≡ item) × (before ≡ oldest ∷ after)

  -- the oldest that the router itself put, once it is due, or nothing else was there
  abbrev pub TakesOfOwn : SlotMail E → E → SlotMail E → Type 0
  TakesOfOwn before item after =
      IsFirst item before.own after.own
      × ((is_due before.taken before.own ≡ true) ⊎ WasEmpty before.tap)
      × (after ≡ record before { own = after.own })

  -- what the tap takes next
  abbrev pub TakesOfOthers : SlotMail E → E → SlotMail E → Type 0
  TakesOfOthers before item after =
      (hand : Hand E) × Took before.tap.hand item hand
      × (after ≡ record before { tap = with before.tap hand; taken = counted (before.taken + 1) })

  -- An item is taken: of those of others only where none of its own is due.
  abbrev pub Takes : SlotMail E → E → SlotMail E → Type 0
  Takes before item after =
      TakesOfOwn before item after
      ⊎ ((is_due before.taken before.own ≡ false) × TakesOfOthers before item after)

  -- Nothing of its own router waits, and what others put was empty at some moment.
  abbrev pub HasNone : SlotMail E → Type 0
  HasNone p = (p.own ≡ []) × WasEmpty p.tap

  abbrev pub HasRoom : SlotMail E → Type 0
  HasRoom p = length p.own < own_hard_limit

  abbrev pub IsFull : SlotMail E → Type 0
  IsFull p = own_soft_limit ≤ length p.own

-- What a router has: the ends of its lane into all outboxes, by slots; its places, of which the
-- first has this slot; and its lane to whoever runs programs.
pub record Ways (E S : Type 0) : Type 0 where
  pub lane : List (End E)
  pub places : List (SlotMail E)
  pub first : ℕ
  pub starts : List (End S)

module _ {E S : Type 0} where
  -- The slot is that of this place of its own.
  abbrev pub IsAt : Ways E S → ℕ → ℕ → SlotMail E → Type 0
  IsAt ways slot place p = (slot ≡ ways.first + place) × (slice_get ways.places place ≡ Some p)

  abbrev pub IsOwn : Ways E S → ℕ → Type 0
  IsOwn ways slot = (place : ℕ) × (p : SlotMail E) × IsAt ways slot place p

  -- So many envelopes waited in the outbox of a slot at some moment.
  abbrev pub Waited : Ways E S → ℕ → ℕ → Type 0
  Waited ways slot count = (e : End E) → slice_get ways.lane slot ≡ Some e → HadItems count e

  -- An envelope is put for a slot: where it is one of its own, which has room, it waits there
  -- behind what others put, else it goes into the outbox of the slot.
  abbrev pub Sends : Ways E S → ℕ → E → Ways E S → Type 0
  Sends before slot envelope after =
      ((place waiting : ℕ) × (p : SlotMail E) × IsAt before slot place p × HasRoom p
      × Waited before slot waiting
      × (after ≡ record before { places = slice_set before.places place (kept p envelope waiting) }))
      ⊎ ((IsOwn before slot → ⊥) × (lane : List (End E)) × Puts before.lane slot envelope lane
      × (after ≡ record before { lane = lane }))

  -- An envelope is taken that waits for a slot, which is one of its own.
  abbrev pub Receives : Ways E S → ℕ → E → Ways E S → Type 0
  Receives before slot envelope after =
      (place : ℕ) × (p q : SlotMail E) × IsAt before slot place p × Takes p envelope q
      × (after ≡ record before { places = slice_set before.places place q })

  -- So many wait that the router itself put, where the slot is one of its own; else its outbox,
  -- where there is one, was full at some moment.
  abbrev pub IsFullFor : Ways E S → ℕ → Type 0
  IsFullFor ways slot =
      ((place : ℕ) (p : SlotMail E) → IsAt ways slot place p → IsFull p)
      × ((IsOwn ways slot → ⊥) → (e : End E) → slice_get ways.lane slot ≡ Some e → WasFull e)

  -- Nothing waits for a slot, where it is one of its own.
  abbrev pub HasNoneFor : Ways E S → ℕ → Type 0
  HasNoneFor ways slot = (place : ℕ) (p : SlotMail E) → IsAt ways slot place p → HasNone p

  -- A start is asked for.
  abbrev pub AsksFor : Ways E S → S → Ways E S → Type 0
  AsksFor before start after =
      (starts : List (End S)) × Puts before.starts 0 start starts
      × (after ≡ record before { starts = starts })
