use Rattle.std.proofs.Common.{◌≡◌, map}
use Rattle.routers_core.specs.Posts.{new_slot_mail}
use Rattle.routers_core.proofs.post.places_over.Given as goal

abbrev pub invariant-loop-tap : goal.invariant-loop-tap
invariant-loop-tap g l = l.places.items ≡ map new_slot_mail l.yielded
