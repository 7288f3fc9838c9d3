-- In what order deeds are due.
use Rattle.std.proofs.Common.{◌≡◌, ◌⊎◌, ℕ, Bool, true, false, Result, Ok, Err, OnOk, IsOk, List, [], ◌∷◌, Option, Some, None, filter, map, max, refl, sym, ap, subst, inl, inr, true≢false}
use Rattle.seq_bus_core.specs.declared.change.Ending.{Ending}
use Rattle.seq_bus_core.specs.declared.change.Ending.TheVariants as ending
use Rattle.supervisor.specs.Supervising.{Kept, decide, ended_as, is_late, report_late, start_of}
use Rattle.supervisor.specs.declared.deed.Deed.{Deed}
use Rattle.supervisor.specs.declared.deed.Deed.TheVariants.{Run}
use Rattle.supervisor.specs.declared.event.Event.{Event}
use Rattle.supervisor.specs.declared.event.Event.TheVariants.{Asked, Ran, NotRun, Exited, Killed, Tick}
use Rattle.supervisor.specs.declared.start.Start.{Start}
use Rattle.starter.specs.Starting.{IsAnswered}
use Rattle.starter.specs.States.{AreInOrder, AreReports, IsNotRun, IsReport}

-- ## What the supervisor decides

end_is_reported : (kept : Kept) (number : ℕ) (how : Ending) (found : Option Start) → AreReports (ended_as kept number how found).deeds
end_is_reported kept number how None = tt
end_is_reported kept number how (Some start) = (tt, tt)

late_are_reported : (starts : List Start) → AreReports (map report_late starts)
late_are_reported [] = tt
late_are_reported (start ∷ starts) = (tt, late_are_reported starts)

-- At one event programs are run, or ends are reported, and not both.
pub decided_in_order : (kept : Kept) (happened : Event) → AreInOrder (decide kept happened).deeds None
decided_in_order kept (Asked name start) = inr (Run name start, refl, refl)
decided_in_order kept (Ran start) = inl tt
decided_in_order kept (NotRun start) = inl (end_is_reported kept start ending.NotRun (start_of start kept.starts))
decided_in_order kept (Exited start status) = inl (end_is_reported kept start (ending.Exit status) (start_of start kept.starts))
decided_in_order kept (Killed start) = inl (end_is_reported kept start ending.Killed (start_of start kept.starts))
decided_in_order kept (Tick now) = inl (late_are_reported (filter (is_late (max now kept.now)) kept.starts))

-- That a program could not be run makes none run.
pub not_run_is_reported : (kept : Kept) (happened : Event) → IsNotRun (Some happened) → AreReports (decide kept happened).deeds
not_run_is_reported kept (NotRun start) r = end_is_reported kept start ending.NotRun (start_of start kept.starts)
not_run_is_reported kept (Asked name start) r = absurd r
not_run_is_reported kept (Ran start) r = absurd r
not_run_is_reported kept (Exited start status) r = absurd r
not_run_is_reported kept (Killed start) r = absurd r
not_run_is_reported kept (Tick now) r = absurd r

-- ## The first, and the rest

behind_first : List Deed → List Deed
behind_first [] = []
behind_first (deed ∷ rest) = rest

pub first_may : (deed : Deed) (rest : List Deed) (untold : Option Event) → AreInOrder (deed ∷ rest) untold → IsReport deed ⊎ (untold ≡ None)
first_may deed rest untold (inl reports) = inl reports.0
first_may deed rest untold (inr one) = inr one.2

pub rest_are_reports : (deed : Deed) (rest : List Deed) (untold : Option Event) → AreInOrder (deed ∷ rest) untold → AreReports rest
unfolding behind_first
rest_are_reports deed rest untold (inl reports) = reports.1
rest_are_reports deed rest untold (inr one) =
    let none : rest ≡ [] = ap behind_first one.1 in subst AreReports (sym none) tt

pub all_are_reports : (deed : Deed) (rest : List Deed) (untold : Option Event) → AreInOrder (deed ∷ rest) untold → IsReport deed → AreReports (deed ∷ rest)
all_are_reports deed rest untold order report = (report, rest_are_reports deed rest untold order)

-- ## What is not told yet

pub not_run_after : (can : Bool) (start : ℕ) (before after : Option Event) → IsAnswered can start before after → IsNotRun before → IsNotRun after
not_run_after true start before after is r = subst IsNotRun (sym is) r
not_run_after false start before after is r = subst IsNotRun (sym is.1) tt

pub not_run_none : (untold : Option Event) → untold ≡ None → IsNotRun untold
not_run_none untold is = subst IsNotRun (sym is) tt

-- ## Where a call did not fail

pub on_ok : {A E X : Type 0} (r : Result A E) → X → OnOk r X
on_ok (Ok value) x = x
on_ok (Err why) x = tt

pub on_ok_both : {A E : Type 0} (X Y Z : Type 0) (r : Result A E) → OnOk r X → OnOk r (Y → Z) → Y → OnOk r (X × Z)
on_ok_both X Y Z (Ok value) x f y = (x, f y)
on_ok_both X Y Z (Err why) x f y = tt

pub on_ok_then : {A B E F X Y : Type 0} (r : Result A E) (s : Result B F) → OnOk r (IsOk s) → OnOk s X → (X → Y) → OnOk r Y
on_ok_then (Ok value) (Ok other) is x f = f x
on_ok_then (Ok value) (Err why) is x f = absurd (true≢false (sym is))
on_ok_then (Err why) s is x f = tt
