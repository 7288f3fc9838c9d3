-- Where a message goes is asked first.
use Rattle.std.proofs.Common.{◌≡◌, ◌<◌, ◌≤◌, ◌==◌, ◌⊎◌, inl, inr, ℕ, Bool, false, Option, Some, None, List, length, map, take, option_map, sym, ap, ◌∙◌, subst, arith, if◌then◌else◌}
use Rattle.std.proofs.lemmas.Bool.{cases_lt, eqb-false}
use Rattle.std.proofs.lemmas.List.{length-map, length-take-le, take_all}
use Rattle.std.specs.Borrow.{Bor}
use Rattle.names.specs.Texts.{Text}
use Rattle.match_rules.specs.Facts.{Argument, Facts}
use Rattle.match_rules.specs.FactsView.{argument_of}
use Rattle.match_rules.specs.declared.facts.Argument.{Argument as Lent}
use Rattle.match_rules.specs.Kinds.{kind_of}
use Rattle.seq_bus_core.specs.Histories.{History}
use Rattle.seq_bus_core.specs.declared.connection.Conn.{Conn}
use Rattle.seq_bus_core.specs.declared.verdict.Verdict.{Verdict}
use Rattle.message_core.specs.Messages.{Message}
use Rattle.message_core.specs.Whole.{Lends}
use Rattle.match_rules.specs.Keys.{max_arguments}
use Rattle.message.specs.FactsOf.{facts_of}
use Rattle.router_core.specs.declared.fate.PeerFate.{PeerFate}
use Rattle.bus_view.specs.Views.{Knowledge}
use Rattle.router_core.specs.Answers.{Heard, Says, Refuses, HearsVerdict}
use Rattle.router_core.specs.Deeds.{GatedCall}
use Rattle.router_core.specs.Scripts.{Routing, World, Routes, Comes}
use Rattle.router_core.specs.Serving.{staying_open, is_unknown, routing, serving}

-- Whatever sender its facts name, a message goes where one of its own sender goes.
hears_own : (alone : Bool) (from sender : ℕ) (facts : Facts) (before after : Knowledge) (heard : Heard Verdict) → HearsVerdict alone from (record facts { sender = sender }) before heard after → HearsVerdict alone from facts before heard after
hears_own alone from sender facts before after (Says verdict) hears = hears
hears_own alone from sender facts before after (Refuses refusal) hears = hears

-- a text that is lent
pub lent : (o : Option (Bor (List ℕ))) (text : Option Text) → Lends o text → option_map (λ t. t.now) o ≡ text
lent None text is = sym is
lent (Some x) text is = sym is

module _ {N G : Type 0} (alone : Bool) (m : Message) (sender : Conn) (w r : World N G) (heard : Heard Verdict) where
  -- what was looked at: the arguments were put, and the sender
  pub routes_seen : (seen : List Argument) → seen ≡ (facts_of m).arguments → Routes alone sender.number (record (facts_of m) { sender = sender.number; arguments = seen }) w heard r → Routes alone sender.number (facts_of m) w heard r
  routes_seen seen are routes =
      let own : Routes alone sender.number (record (facts_of m) { sender = sender.number }) w heard r = subst (λ (xs : List Argument). Routes alone sender.number (record (facts_of m) { sender = sender.number; arguments = xs }) w heard r) are routes in
      record { hears = hears_own alone sender.number sender.number (facts_of m) w.view r.view heard own.hears; rest = own.rest }

-- a message that has fewer than eight arguments has no others
few_or_more : (lent : List Lent) (all : List Argument) → map argument_of lent ≡ take 8 all → (length lent == 8) ≡ false → (length all < 8) ⊎ (8 ≤ length all) → map argument_of lent ≡ take max_arguments all
few_or_more lent all put few (inl within) = put ∙ take_all 8 all (omega (within, arith)) ∙ sym (take_all max_arguments all (omega (within, arith)))
few_or_more lent all put few (inr beyond) = absurd (eqb-false (length lent) 8 few (sym (length-map lent argument_of) ∙ ap length put ∙ length-take-le 8 all beyond))

pub few_are_first : (lent : List Lent) (all : List Argument) → map argument_of lent ≡ take 8 all → (length lent == 8) ≡ false → map argument_of lent ≡ take max_arguments all
few_are_first lent all put few = few_or_more lent all put few (cases_lt (length all) 8)

module _ {N G : Type 0} (told : N → History) (registry_of : N → ℕ) (passes : G → GatedCall → G → Type 0) (alone : Bool) (m : Message) (sender : Conn) (fate : PeerFate) (w r v : World N G) where
  pub serves : (heard : Heard Verdict) → is_unknown (kind_of m.kind) ≡ false → Routes alone sender.number (facts_of m) w heard r →
      Comes told registry_of passes alone (routing m sender heard) r fate v → Comes told registry_of passes alone (serving m sender) w fate v
  serves heard known routes done =
      subst (λ (b : Bool). Comes told registry_of passes alone (if b then staying_open else Routing sender.number (facts_of m) (λ h. routing m sender h)) w fate v) (sym known)
      (heard, r, routes, done)
