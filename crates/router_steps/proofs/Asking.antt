-- What a bus appends to nothing is the body of its answer.
use Rattle.std.proofs.Common.{◌≡◌, ℕ, Bool, true, List, [], Option, Some, None, Result, Ok, Err, ◌++◌, refl, sym, ap, subst, ◌∙◌, IfOk, IfErr, OnOk, OnErr}
use Rattle.seq_bus_core.specs.Answers.{Answer, answer}
use Rattle.seq_bus_core.specs.declared.query.Query.{Query}
use Rattle.bus_view.specs.Bodies.{Answers, IsBody}
use Rattle.bus_view.specs.declared.answer.Asked.{Asked}
use Rattle.bus_view.specs.declared.answer.Asked.TheVariants.{Body, NameHasNoOwner}
use Rattle.bus_view.specs.declared.answer.AskFault.{AskFault}
use Rattle.bus_view.specs.declared.answer.AskFault.TheVariants as fault
use Rattle.bus_view.specs.Views.{bus_seen, IsRead}
use Rattle.router_core.specs.Answers.{Heard, Says, Refuses, NoMemory, Lost}
use Rattle.router_core.specs.Scripts.{World, knowing, Asks}
use Rattle.router_steps.specs.Hearing.{IsTold}

some_told : (o : Option Answer) (before after : List ℕ) → before ≡ [] → Answers Body o before after → (told : Answer) × (o ≡ Some told) × IsBody told after
some_told None before after none answered = absurd answered
some_told (Some told) before after none answered =
    (told, refl, subst (IsBody told) (sym (answered.2 ∙ ap (λ bytes. bytes ++ answered.0) none)) answered.1)

none_told : (o : Option Answer) (before after : List ℕ) → before ≡ [] → Answers NameHasNoOwner o before after → (o ≡ None) × (after ≡ [])
none_told None before after none answered = (refl, answered ∙ none)
none_told (Some told) before after none answered = absurd answered

module _ {N G : Type 0} (alone : Bool) (query : Query) (w m : World N G) (rest : m ≡ knowing w m.view) (before after : List ℕ) (none : before ≡ []) where
  pub asks_told : (r : Result Asked AskFault) →
      IfOk r (λ asked. Answers asked (answer (bus_seen m.view).state query) before after) → OnOk r (IsRead alone w.view m.view) →
      OnErr r (after ≡ before) → IfErr r (λ why. why ≡ fault.NoMemory → IsRead alone w.view m.view) →
      IfErr r (λ why. why ≡ fault.Gone → m.view ≡ w.view) →
      (alone ≡ true → IfErr r (λ why. why ≡ fault.Gone → ⊥)) →
      (heard : Heard (Option Answer)) × Asks alone query w heard m × IsTold r heard after
  asks_told (Ok Body) answered read unanswered no_less gone there =
      let is = some_told (answer (bus_seen m.view).state query) before after none answered in
      (Says (Some is.0), record { hears = (read, sym is.1); rest = rest }, (is.0, refl, is.2))
  asks_told (Ok NameHasNoOwner) answered read unanswered no_less gone there =
      let is = none_told (answer (bus_seen m.view).state query) before after none answered in
      (Says None, record { hears = (read, sym is.0); rest = rest }, (refl, is.1))
  asks_told (Err fault.NoMemory) answered read unanswered no_less gone there =
      (Refuses NoMemory, record { hears = no_less refl; rest = rest }, (refl, unanswered ∙ none))
  asks_told (Err fault.Gone) answered read unanswered no_less gone there =
      (Refuses Lost, record { hears = (gone refl, λ e. there e refl); rest = rest }, (refl, unanswered ∙ none))
