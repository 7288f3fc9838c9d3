-- What a step looks at.
use Rattle.std.proofs.Common.{refl}
use Rattle.seq_bus_core.specs.Changes.{StepsSeeNoMore}
use Rattle.seq_bus_core.specs.declared.change.Change.TheVariants.{Hello, Leave, Request, Release, AddMatch, RemoveMatch, BecomeMonitor, Start, Hold, ChildEnded, StartTimedOut}

pub steps_see_no_more : StepsSeeNoMore
steps_see_no_more s seat (Hello privileged) = refl
steps_see_no_more s seat (Leave number) = refl
steps_see_no_more s seat (Request number name flags) = refl
steps_see_no_more s seat (Release number name) = refl
steps_see_no_more s seat (AddMatch number rule) = refl
steps_see_no_more s seat (RemoveMatch number rule) = refl
steps_see_no_more s seat (BecomeMonitor number rules) = refl
steps_see_no_more s seat (Start number name call) = refl
steps_see_no_more s seat (Hold number name call message) = refl
steps_see_no_more s seat (ChildEnded name number how) = refl
steps_see_no_more s seat (StartTimedOut name number) = refl
