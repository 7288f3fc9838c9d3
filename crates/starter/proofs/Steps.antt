-- Steps of a starter, one after the other.
use Rattle.std.proofs.Common.{◌≡◌, ◌⊎◌, ℕ, Bool, Result, Ok, Err, OnOk, OnErr, List, [], ◌∷◌, ◌++◌, Option, Some, None, reverse, refl, sym, ap, ◌∙◌, subst, inl, inr}
use Rattle.names.specs.Texts.{Text}
use Rattle.seq_bus_core.specs.Histories.{History}
use Rattle.seq_bus_core.specs.declared.connection.Conn.{Conn}
use Rattle.outbox_core.specs.declared.envelope.Envelope.{Envelope}
use Rattle.router_core.specs.Deeds.{GatedCall}
use Rattle.router_core.specs.declared.event.Event.TheVariants as event
use Rattle.router_host_core.specs.declared.post.StartRequest.{StartRequest}
use Rattle.router_host_core.proofs.Steps.{each_then, last_first}
use Rattle.router_host.specs.Doing.{Does}
use Rattle.router_host.specs.Happening.{CatchesUp, Happens}
use Rattle.supervisor.specs.Supervising.{Kept, decide}
use Rattle.supervisor.specs.declared.deed.Deed.{Deed}
use Rattle.supervisor.specs.declared.deed.Deed.TheVariants.{Run, Report}
use Rattle.supervisor.specs.declared.event.Event.{Event}
use Rattle.supervisor.specs.declared.event.Event.TheVariants.{Tick}
use Rattle.starter.specs.Ends.{MayCatchUp}
use Rattle.starter.specs.Starting.{Step, LearnsTime, Learns, Hears, Acts, GoesOn, Ticks, Turns, IsDone, IsStep, MakesSteps, heard}
use Rattle.starter.specs.States.{AreInOrder, AreReports, IsIdle, IsNotRun, IsReport, StarterState}
use Rattle.starter.proofs.Orders.{first_may, not_run_after, rest_are_reports}

-- What is done leaves what is due, and tells of no more than a program that can't be run.
module _ {Q P N G : Type 0} (runs : Q → Text → ℕ → Bool → Q → Type 0)
    (gives : Q → Option Event → Q → Type 0) (told : N → History) (registry_of : N → ℕ)
    (passes : G → GatedCall → G → Type 0) (alone : Bool)
    (puts : P → Conn → Envelope N → P → Type 0)
    (refuses : P → Conn → Type 0) (starts : P → StartRequest → P → Type 0) where
  pub done_at : (deed : Deed) (a b : StarterState Q P G N) (due : List Deed) → IsDone runs gives told registry_of passes alone puts refuses starts deed a b →
      IsDone runs gives told registry_of passes alone puts refuses starts deed (record a { due = due }) (record b { due = due })
  done_at (Run name start) a b due f = (f.0, f.1, f.2, ap (λ (s : StarterState Q P G N). record s { due = due }) f.3)
  done_at (Report change) a b due f = (f.0, ap (λ (s : StarterState Q P G N). record s { due = due }) f.1)

  pub done_due : (deed : Deed) (a b : StarterState Q P G N) → IsDone runs gives told registry_of passes alone puts refuses starts deed a b → b.due ≡ a.due
  done_due (Run name start) a b f = ap (λ (s : StarterState Q P G N). s.due) f.3
  done_due (Report change) a b f = ap (λ (s : StarterState Q P G N). s.due) f.1

  pub done_untold : (deed : Deed) (a b : StarterState Q P G N) → IsDone runs gives told registry_of passes alone puts refuses starts deed a b → IsReport deed →
      b.untold ≡ a.untold
  done_untold (Run name start) a b f r = absurd r
  done_untold (Report change) a b f r = ap (λ (s : StarterState Q P G N). s.untold) f.1

  pub done_not_run : (deed : Deed) (a b : StarterState Q P G N) → IsDone runs gives told registry_of passes alone puts refuses starts deed a b → IsNotRun a.untold →
      IsNotRun b.untold
  done_not_run (Run name start) a b f r = not_run_after f.0 start a.untold b.untold f.2 r
  done_not_run (Report change) a b f r =
      subst IsNotRun (sym (ap (λ (s : StarterState Q P G N). s.untold) f.1)) r

module _ {Q P N G : Type 0} {runs : Q → Text → ℕ → Bool → Q → Type 0}
    {gives : Q → Option Event → Q → Type 0} {told : N → History} {registry_of : N → ℕ}
    {passes : G → GatedCall → G → Type 0} {alone : Bool}
    {puts : P → Conn → Envelope N → P → Type 0}
    {refuses : P → Conn → Type 0} {starts : P → StartRequest → P → Type 0}
    {takes : P → ℕ → Envelope N → P → Type 0} {now : ℕ} where
  pub makes_none : {a b : StarterState Q P G N} → b ≡ a → MakesSteps runs gives told registry_of passes alone puts refuses starts takes now a b
  makes_none is = record { steps = []; made = is }

  pub makes_one : {a b : StarterState Q P G N} (s : Step) → IsStep runs gives told registry_of passes alone puts refuses starts takes now s a b → MakesSteps runs gives told registry_of passes alone puts refuses starts takes now a b
  makes_one {b = b} s f = record { steps = s ∷ []; made = (b, f, refl) }

  pub makes_then : {a b c : StarterState Q P G N} → MakesSteps runs gives told registry_of passes alone puts refuses starts takes now a b → MakesSteps runs gives told registry_of passes alone puts refuses starts takes now b c → MakesSteps runs gives told registry_of passes alone puts refuses starts takes now a c
  makes_then {a = a} {b = b} {c = c} f g = record {
    steps = f.steps ++ g.steps;
    made = each_then (IsStep runs gives told registry_of passes alone puts refuses starts takes now) f.steps g.steps a b c f.made g.made;
  }

  pub learns_time : {a b : StarterState Q P G N} → IsIdle a → MakesSteps runs gives told registry_of passes alone puts refuses starts takes now (record a { untold = Some (Tick now) }) b →
      MakesSteps runs gives told registry_of passes alone puts refuses starts takes now a b
  learns_time {a = a} {b = b} idle f =
      makes_then {a = a} {b = record a { untold = Some (Tick now) }} {c = b} (makes_one LearnsTime (idle.1, refl)) f

  pub learns : {a b : StarterState Q P G N} (happened : Event) (programs : Q) → IsIdle a → gives a.programs (Some happened) programs →
      MakesSteps runs gives told registry_of passes alone puts refuses starts takes now (record a { untold = Some happened; programs = programs }) b →
      MakesSteps runs gives told registry_of passes alone puts refuses starts takes now a b
  learns {a = a} {b = b} happened programs idle given f =
      makes_then {a = a} {b = record a { untold = Some happened; programs = programs }} {c = b} (makes_one (Learns (Some happened)) (idle.1, given, refl)) f

  pub learns_nothing : {a : StarterState Q P G N} (programs : Q) → IsIdle a → gives a.programs None programs →
      MakesSteps runs gives told registry_of passes alone puts refuses starts takes now a (record a { programs = programs })
  learns_nothing {a = a} programs idle given =
      makes_one {a = a} {b = record a { programs = programs }} (Learns None) (idle.1, given, ap (λ (u : Option Event). record a { untold = u; programs = programs }) idle.1)

  pub hears : {a b : StarterState Q P G N} (happened : Event) (kept : Kept) (due : List Deed) → a.untold ≡ Some happened → a.due ≡ [] →
      kept ≡ (decide a.kept happened).kept → due ≡ (decide a.kept happened).deeds →
      MakesSteps runs gives told registry_of passes alone puts refuses starts takes now (record a { kept = kept; due = due; untold = None }) b →
      MakesSteps runs gives told registry_of passes alone puts refuses starts takes now a b
  hears {a = a} {b = b} happened kept due untold none is_kept is_due f =
      let is : record a { kept = kept; due = due; untold = None } ≡ heard a (decide a.kept happened) =
      ap (λ (k : Kept). record a { kept = k; due = due; untold = None }) is_kept
      ∙ ap (λ (d : List Deed). record a { kept = (decide a.kept happened).kept; due = d; untold = None }) is_due in
      makes_then {a = a} {b = record a { kept = kept; due = due; untold = None }} {c = b} (makes_one (Hears happened) (untold, none, is)) f

  pub goes_on : {a b : StarterState Q P G N} → MayCatchUp told registry_of passes alone puts refuses starts a.host b.host → b ≡ record a { host = b.host } →
      MakesSteps runs gives told registry_of passes alone puts refuses starts takes now a b
  goes_on f is = makes_one GoesOn (f, is)

  pub ticks : {A E : Type 0} {a b : StarterState Q P G N} (r : Result A E) → OnOk r (Happens told registry_of passes alone puts refuses starts a.host event.Tick b.host) →
      OnErr r (CatchesUp puts refuses starts a.host b.host) → b ≡ record a { host = b.host } →
      MakesSteps runs gives told registry_of passes alone puts refuses starts takes now a b
  ticks (Ok done) f g is = makes_one Ticks (inl f, is)
  ticks (Err why) f g is = makes_one Ticks (inr g, is)

  pub turns : {a b : StarterState Q P G N} → Does told registry_of passes alone puts refuses starts takes a.host b.host → b ≡ record a { host = b.host } →
      MakesSteps runs gives told registry_of passes alone puts refuses starts takes now a b
  turns f is = makes_one Turns (f, is)

-- ## What is due, one after the other

module _ {Q P N G : Type 0} (runs : Q → Text → ℕ → Bool → Q → Type 0)
    (gives : Q → Option Event → Q → Type 0) (told : N → History) (registry_of : N → ℕ)
    (passes : G → GatedCall → G → Type 0) (alone : Bool)
    (puts : P → Conn → Envelope N → P → Type 0)
    (refuses : P → Conn → Type 0) (starts : P → StartRequest → P → Type 0)
    (takes : P → ℕ → Envelope N → P → Type 0) where
  -- Of what was due some is done, and the rest is left. Neither is in the state: it is being done.
  pub record DoneSoFar (all left : List Deed) (before after : StarterState Q P G N) : Type 0 where
    pub steps : (now : ℕ) → MakesSteps runs gives told registry_of passes alone puts refuses starts takes now (record before { due = all }) (record after { due = left })
    pub idle : after.due ≡ []
    pub order : AreInOrder left after.untold
    pub reports : AreReports all → AreReports left × (after.untold ≡ before.untold)
    pub not_run : IsNotRun before.untold → IsNotRun after.untold

  pub none_done : (all : List Deed) (a : StarterState Q P G N) → a.due ≡ [] → AreInOrder all a.untold → DoneSoFar all all a a
  none_done all a idle order = record {
    steps = λ now. makes_none refl;
    idle = idle;
    order = order;
    reports = λ all. (all, refl);
    not_run = λ f. f;
  }

  pub one_more_done : (all older rest : List Deed) (deed : Deed) → older ≡ rest ++ deed ∷ [] → (a b before : StarterState Q P G N) →
      DoneSoFar all (reverse older) before a → IsDone runs gives told registry_of passes alone puts refuses starts deed a b → DoneSoFar all (reverse rest) before b
  one_more_done all older rest deed is a b before f done =
      let due : reverse older ≡ deed ∷ reverse rest = last_first older rest deed is in
      record {
        steps = λ now. makes_then (f.steps now) (makes_one {a = record a { due = reverse older }} {b = record b { due = reverse rest }} (Acts deed) (due, done_at runs gives told registry_of passes alone puts refuses starts deed a b (reverse rest) done));
        idle = done_due runs gives told registry_of passes alone puts refuses starts deed a b done ∙ f.idle;
        order = inl (rest_are_reports deed (reverse rest) a.untold (subst (λ (l : List Deed). AreInOrder l a.untold) due f.order));
        reports = λ were. let left : AreReports (deed ∷ reverse rest) = subst AreReports due (f.reports were).0 in
            (left.1, done_untold runs gives told registry_of passes alone puts refuses starts deed a b done left.0 ∙ (f.reports were).1);
        not_run = λ r. done_not_run runs gives told registry_of passes alone puts refuses starts deed a b done (f.not_run r);
      }

  -- The first of what is left may be done.
  pub may_be_done : (all older rest : List Deed) (deed : Deed) → older ≡ rest ++ deed ∷ [] → (a before : StarterState Q P G N) →
      DoneSoFar all (reverse older) before a → IsReport deed ⊎ (a.untold ≡ None)
  may_be_done all older rest deed is a before f =
      first_may deed (reverse rest) a.untold (subst (λ (l : List Deed). AreInOrder l a.untold) (last_first older rest deed is) f.order)

  -- There was no memory for one of them: it is the first of what is left.
  pub left_undone : (all older : List Deed) (a b c before : StarterState Q P G N) → DoneSoFar all older before a →
      MayCatchUp told registry_of passes alone puts refuses starts a.host b.host → b ≡ record a { host = b.host } → c ≡ b →
      (now : ℕ) → MakesSteps runs gives told registry_of passes alone puts refuses starts takes now (record before { due = all }) (record c { due = older })
  left_undone all older a b c before f may is same now =
      makes_then {b = record b { due = older }} (makes_then (f.steps now) (goes_on {a = record a { due = older }} {b = record b { due = older }} may (ap (λ (s : StarterState Q P G N). record s { due = older }) is)))
      (makes_none (ap (λ (s : StarterState Q P G N). record s { due = older }) same))

  pub all_done : (all left : List Deed) (a before : StarterState Q P G N) → DoneSoFar all left before a → left ≡ [] →
      (now : ℕ) → MakesSteps runs gives told registry_of passes alone puts refuses starts takes now (record before { due = all }) a
  all_done all left a before f none now =
      makes_then {b = record a { due = left }} {c = a} (f.steps now) (makes_none (ap (λ (l : List Deed). record a { due = l }) (f.idle ∙ sym none)))
