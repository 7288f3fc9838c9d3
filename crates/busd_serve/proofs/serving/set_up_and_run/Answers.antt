use mathlib.Core.List.{not-mem-nil}
use Rattle.busd_serve.proofs.serving.set_up_and_run.Goals as goal

-- The naming of a registry borrows nothing.
pub run_threads-requires-lives-C-Chores-2 : goal.run_threads-requires-lives-C-Chores-2
run_threads-requires-lives-C-Chores-2 g c κs within a there = absurd (not-mem-nil (c.type_bounds.static-J a there))

pub run_threads-requires-lives-C-Destruct-2 : goal.run_threads-requires-lives-C-Destruct-2
run_threads-requires-lives-C-Destruct-2 g c κs within a there = absurd (not-mem-nil (c.type_bounds.static-J a there))
