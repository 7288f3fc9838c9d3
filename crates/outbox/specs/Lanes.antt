-- The rule of a queue: what was put into it, by lanes, what was taken from it, and what each hand knows of both.
use Rattle.std.specs.Prelude.{◌≡◌, ℕ, zero, suc, ◌+◌, ◌<◌, ◌≤◌, Bool, true, false, List, [], ◌∷◌, ◌++◌, length, map, cond, slice_set, flat_map, All, Vec}
use mathlib.Core.Option.{some}
use lib.ListN.{get_elem?}
use Rattle.std.proofs.Common.{eqb, not}
use Rattle.outbox.specs.declared.ends.TheConstants.{ROOM}
use Rattle.outbox.specs.declared.hand.Entry.{Entry}
use Rattle.outbox.specs.declared.hand.Hand.{Hand}
use Rattle.atomic_table.specs.Seated.{TableId}
use Rattle.crossbeam_queue.specs.Fifo.{Held}
use Rattle.crossbeam_queue.specs.Passes.{Pass, view}
use Rattle.seq_bus_core.specs.Histories.{max_routers}

-- the lanes of each queue: one for each router, and one for the main thread
abbrev pub lane_count : ℕ
lane_count = max_routers + 1

-- which queue it is of, and what its holder knows
pub record End (E : Type 0) : Type 0 where
  pub queue : TableId
  pub hand : Hand E

module _ {E : Type 0} where
  abbrev pub entry : ℕ → ℕ → E → Entry E
  entry lane number e = record { lane = lane; number = number; item = e }

  -- the end of a queue that holds this pass
  abbrev pub end_of : Pass E (Hand E) → End E
  end_of p = record { queue = p.table_id; hand = view p }

  abbrev pub hand : ℕ → ℕ → Bool → List (Entry E) → List (Entry E) → Hand E
  hand from to takes put taken = record { from = from; to = to; takes = takes; put = put; taken = taken }

  -- the entries whose lane passes the test, in their order
  abbrev pub pick : (ℕ → Bool) → List (Entry E) → List (Entry E)
  pick p [] = []
  pick p (x ∷ xs) = cond (p x.lane) (x ∷ pick p xs) (pick p xs)

  -- the entries of lane l, in their order
  abbrev pub of : ℕ → List (Entry E) → List (Entry E)
  of l xs = pick (λ k. eqb k l) xs

  -- the numbers go on from n by ones
  abbrev pub Counts : ℕ → List (Entry E) → Type 0
  Counts n [] = Unit {0}
  Counts n (x ∷ xs) = (x.number ≡ n + 1) × Counts (n + 1) xs

  -- each lane's entries have the numbers 1, 2, 3 and so on, in this order
  abbrev pub Marked : List (Entry E) → Type 0
  Marked xs = (l : ℕ) → Counts 0 (of l xs)

  -- what was put, by lanes below the count, is what was taken and then what the queue holds
  abbrev pub Legal : List (Entry E) → List (Entry E) → List E → Type 0
  Legal put taken items = (left : List (Entry E)) × (put ≡ taken ++ left) × (map (λ x. x.item) left ≡ items) × Marked put × ((l : ℕ) → lane_count ≤ l → of l put ≡ [])

  -- what a hand knows of it: all that its own lanes put, and all that was taken where it takes
  abbrev pub Knows : Hand E → List (Entry E) → List (Entry E) → Type 0
  Knows v put taken = (v.takes ≡ true → v.taken ≡ taken) × ((l : ℕ) → v.from ≤ l → l < v.to → of l v.put ≡ of l put) × ((l : ℕ) → ¬ ((v.from ≤ l) × (l < v.to)) → of l v.put ≡ []) × (v.to ≤ lane_count)

  -- one hand at most takes, and one at most puts for a lane
  abbrev pub Alone : ℕ → (ℕ → ℕ) → ℕ → Hand E → Type 0
  Alone reader seat port v = (v.takes ≡ true → port ≡ reader) × ((l : ℕ) → v.from ≤ l → l < v.to → port ≡ seat l)

  -- the rule
  abbrev pub Kept : List E → List (Hand E) → Type 0
  Kept items views = (reader : ℕ) × (seat : ℕ → ℕ) × (put : List (Entry E)) × (taken : List (Entry E)) × Legal put taken items
      × ((port : ℕ) (v : Hand E) → get_elem? views port ≡ some v → Alone reader seat port v × Knows v put taken)

  -- what a hand learns of the queue at one moment
  abbrev pub Shows : Hand E → List E → Type 0
  Shows v items = (put : List (Entry E)) × (taken : List (Entry E)) × Legal put taken items × Knows v put taken

  -- The queue of this end held so many items at some moment.
  abbrev pub HadItems : ℕ → End E → Type 0
  HadItems count e = Held count (Shows e.hand)

  -- The queue of this end was full at some moment.
  abbrev pub WasFull : End E → Type 0
  WasFull e = Held ROOM (Shows e.hand)

  -- It was empty at some moment.
  abbrev pub WasEmpty : End E → Type 0
  WasEmpty e = Held 0 (Shows e.hand)

  abbrev pub whole : Hand E
  whole = hand 0 lane_count true [] []

  abbrev pub spent : Hand E
  spent = hand 0 0 false [] []

  -- a hand puts for its first lane
  abbrev pub sent : Hand E → E → Hand E
  sent v e = hand v.from v.to v.takes (v.put ++ entry v.from (length (of v.from v.put) + 1) e ∷ []) v.taken

  abbrev pub got : Hand E → Entry E → Hand E
  got v x = hand v.from v.to v.takes v.put (v.taken ++ x ∷ [])

  -- what is taken is marked, and each lane's come in that lane's order
  abbrev pub Took : Hand E → E → Hand E → Type 0
  Took v e w = (x : Entry E) × (x.item ≡ e) × (w ≡ got v x) × Marked w.taken

  abbrev pub without_first : Hand E → Hand E
  without_first v = hand (v.from + 1) v.to v.takes (pick (λ k. not (eqb k v.from)) v.put) v.taken

  abbrev pub only_first : Hand E → Hand E
  only_first v = hand v.from (v.from + 1) false (of v.from v.put) []

  abbrev pub adopted : Hand E → Hand E → Hand E
  adopted v w = hand w.from w.to v.takes w.put v.taken

  -- this end with another hand
  abbrev pub with : End E → Hand E → End E
  with e v = record { queue = e.queue; hand = v }

  abbrev pub keeps_rest : End E → End E
  keeps_rest e = with e (without_first e.hand)

  abbrev pub gives : End E → End E
  gives e = with e (only_first e.hand)

  -- what is got of lane l is a beginning of what was put for it
  abbrev pub Begins : ℕ → List (Entry E) → List (Entry E) → Type 0
  Begins l taken put = (more : List (Entry E)) × (of l put ≡ of l taken ++ more)

  -- The lane after its end of a slot was compared. The end knows what it knew.
  abbrev pub IsCompared : List (End E) → ℕ → End E → List (End E) → Type 0
  IsCompared ends slot e new =
      (f : End E) × (new ≡ slice_set ends slot f) × (f.queue ≡ e.queue) × (f.hand.from ≡ e.hand.from) × (f.hand.to ≡ e.hand.to)
      × (of e.hand.from f.hand.put ≡ of e.hand.from e.hand.put)

  abbrev pub MayPut : End E → Type 0
  MayPut e = e.hand.from < e.hand.to

  -- what is left to the end that takes, once n lanes were given away
  abbrev pub tap_hand : ℕ → Hand E
  tap_hand n = hand n lane_count true [] []

  -- the end of lane l of the same queue, before anything was put
  abbrev pub lane_end : ℕ → End E → End E
  lane_end l e = with e (hand l (l + 1) false [] [])

  -- the first n lanes, each with an end of each queue
  abbrev pub lanes_of : ℕ → List (End E) → List (List (End E))
  lanes_of zero taps = []
  lanes_of (suc n) taps = lanes_of n taps ++ map (lane_end n) taps ∷ []

  abbrev pub HasGiven : ℕ → End E → Type 0
  HasGiven n e = e.hand ≡ tap_hand n

-- The taps of all groups, one behind the other.
abbrev pub all_of : {E Z : Type 0} → List (Vec (End E) Z) → List (End E)
all_of groups = flat_map (λ group. group.items) groups

-- So many groups, of so many places each.
pub record AreGrouped {E Z : Type 0} (groups places : ℕ) (rows : List (Vec (End E) Z)) : Type 0 where
  pub many : length rows ≡ groups
  pub each : All (λ row. length row.items ≡ places) rows
