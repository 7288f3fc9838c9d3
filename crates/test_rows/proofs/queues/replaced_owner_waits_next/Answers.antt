use Rattle.std.specs.Prelude.{refl}
use Rattle.std.specs.Fmt.{digits}
use Rattle.owner_queues.specs.declared.request.Profile.TheVariants.{One, Two}
use Rattle.test_rows.proofs.queues.replaced_owner_waits_next.Goals as goal

pub returns : goal.returns
unfolding digits
returns c One = refl
returns c Two = refl
