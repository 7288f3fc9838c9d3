-- Lists of what is lent, as they are written.
use Rattle.std.proofs.Common.{◌≡◌, List, [], ◌∷◌, ◌++◌, map, refl, sym, ap, ◌∙◌, codes}
use Rattle.std.specs.Borrow.{Bor}
use Rattle.std.proofs.lemmas.List.Folds.{flat_map-map}
use Rattle.names.specs.Texts.{Text}
use Rattle.match_rules.specs.FactsView.{argument_of}
use Rattle.match_rules.specs.declared.facts.Argument.{Argument}
use Rattle.seq_bus_core.specs.declared.outcome.Outcome.{Outcome}
use Rattle.seq_bus_core.specs.declared.ticket.SettledTicket.{SettledTicket}
use Rattle.trace_lines.specs.Texts.{listed, separated, argument_text, arguments_text, number_or_dash, outcome_text, reply_text, signal_text, ticket_text}
use Rattle.trace_lines.specs.TextViews.{lent_text, lent_arguments_text, numbered, settled_number, settled_ticket_text}

separated_map : {A B : Type 0} (separator : Text) (f : A → B) (text : B → Text) (xs : List A) → separated separator text (map f xs) ≡ separated separator (λ x. text (f x)) xs
separated_map separator f text [] = refl
separated_map separator f text (x ∷ xs) = ap (λ (t : Text). text (f x) ++ t) (flat_map-map (λ other. separator ++ text other) f xs)

pub lent_arguments : (arguments : List Argument) → arguments_text (map argument_of arguments) ≡ lent_arguments_text arguments
lent_arguments [] = refl
lent_arguments (first ∷ others) = separated_map (codes ",") argument_of argument_text (first ∷ others)

pub lent_names : (names : List (Bor Text)) → separated (codes ",") (λ name. name) (map lent_text names) ≡ separated (codes ",") lent_text names
lent_names names = separated_map (codes ",") lent_text (λ name. name) names

numbered_tickets : (tickets : List SettledTicket) → listed (codes ",") ticket_text (map settled_number tickets) ≡ listed (codes ",") settled_ticket_text tickets
numbered_tickets [] = refl
numbered_tickets (first ∷ others) = separated_map (codes ",") settled_number ticket_text (first ∷ others)

-- what a change is told, where its tickets were written as they are
pub outcome_told : (before after : Text) (o : Outcome) (tickets : List SettledTicket) → tickets ≡ o.tickets →
    after ≡ before ++ (codes "r=" ++ reply_text o.reply ++ codes " g=" ++ listed (codes ",") signal_text o.signals
    ++ codes " t=" ++ listed (codes ",") settled_ticket_text tickets ++ codes " b=" ++ number_or_dash o.start) →
    after ≡ before ++ outcome_text (numbered o)
outcome_told before after o tickets same e =
    e ∙ ap
    (λ (told : Text). before ++ (codes "r=" ++ reply_text o.reply ++ codes " g=" ++ listed (codes ",") signal_text o.signals
    ++ codes " t=" ++ told ++ codes " b=" ++ number_or_dash o.start))
    (ap (λ (ts : List SettledTicket). listed (codes ",") settled_ticket_text ts) same ∙ sym (numbered_tickets o.tickets))
