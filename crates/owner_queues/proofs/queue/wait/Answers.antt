use Rattle.std.proofs.Common.{◌≡◌, ◌<◌, ◌==◌, ℕ, Option, Some, None, Bool, false, length, slice_set, sym, ap, ◌∙◌, arith, length-set}
use Rattle.std.specs.List.{position}
use Rattle.owner_queues.specs.declared.owner.QueuedOwner.{QueuedOwner}
use Rattle.owner_queues.specs.Queues.{is_in}
use Rattle.owner_queues.proofs.PlaceLemmas.{place, place_some, place_none, no_place, set_at_place}
use Rattle.arrayvec.proofs.ArrayVecLemmas.{items-with_items}
use Rattle.owner_queues.proofs.queue.wait.Goals as goal

pub push-requires : goal.push-requires
push-requires c =
    let e = c.args.entry in
    let queue = c.args.places.now.items in
    let has : QueuedOwner → Bool = λ o. o.connection == e.connection in
    let none : ◌≡◌ {A = Option ℕ} (position has queue) None = ap (position has) (sym c.as_slice.ensures.value) ∙ sym c.place_of.ensures ∙ c.in-None.is in
    let absent : is_in e.connection queue ≡ false = no_place e.connection queue (place_none e.connection queue none) in
    let room = c.requires.room absent in
    (omega arith, room)

pub returns-in-Some : goal.returns-in-Some
returns-in-Some c =
    let e = c.args.entry in
    let queue = c.args.places.now.items in
    let has : QueuedOwner → Bool = λ o. o.connection == e.connection in
    let is : ◌≡◌ {A = Option ℕ} (position has queue) (Some c.in-Some.place) = ap (position has) (sym c.as_slice.ensures.value) ∙ sym c.place_of.ensures ∙ c.in-Some.is in
    let at = place_some e.connection queue c.in-Some.place is in
    let within : place e.connection queue < length queue = omega (arith, at.0, at.1) in
    let placed = set_at_place e queue c.requires.once within in
    let written : slice_set c.deref_mut.result.now c.in-Some.place e ≡ slice_set queue (place e.connection queue) e =
    ap (λ q. slice_set q c.in-Some.place e) c.deref_mut.ensures.value ∙ ap (λ i. slice_set queue i e) at.0 in
    rw written (items-with_items (record { items = queue }) (slice_set queue (place e.connection queue) e) (length-set queue (place e.connection queue) e) ∙ rw placed.1 placed.0)

pub returns-in-None : goal.returns-in-None
returns-in-None c =
    let e = c.args.entry in
    let queue = c.args.places.now.items in
    let has : QueuedOwner → Bool = λ o. o.connection == e.connection in
    let none : ◌≡◌ {A = Option ℕ} (position has queue) None = ap (position has) (sym c.as_slice.ensures.value) ∙ sym c.place_of.ensures ∙ c.in-None.is in
    let absent : is_in e.connection queue ≡ false = no_place e.connection queue (place_none e.connection queue none) in
    rw absent c.push.ensures.items
