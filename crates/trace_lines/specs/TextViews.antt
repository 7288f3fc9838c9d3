-- How contracts see what is lent to be written.
use Rattle.std.specs.Prelude.{Option, Some, None, List, [], ◌∷◌, map, codes}
use Rattle.std.specs.Borrow.{Bor}
use Rattle.names.specs.Texts.{Text}
use Rattle.match_rules.specs.FactsView.{argument_of}
use Rattle.match_rules.specs.declared.facts.Argument.{Argument}
use Rattle.seq_bus_core.specs.Answers.{Answer, OneName as GivenName, HasOwner as GivenOwner, NameList as GivenNames}
use Rattle.seq_bus_core.specs.declared.outcome.NumberedOutcome.{NumberedOutcome}
use Rattle.seq_bus_core.specs.declared.outcome.Outcome.{Outcome}
use Rattle.seq_bus_core.specs.declared.ticket.SettledNumber.{SettledNumber}
use Rattle.seq_bus_core.specs.declared.ticket.SettledTicket.{SettledTicket}
use Rattle.trace_lines.specs.declared.answer_words.AnswerWords.{AnswerWords}
use Rattle.trace_lines.specs.declared.answer_words.AnswerWords.TheVariants.{OneName, HasOwner, NameList}
use Rattle.trace_lines.specs.Texts.{argument_text, separated, ticket_text}

abbrev pub lent_text : Bor Text → Text
lent_text text = text.now

abbrev pub lent_argument_text : Argument → Text
lent_argument_text argument = argument_text (argument_of argument)

abbrev pub lent_arguments_text : List Argument → Text
lent_arguments_text [] = codes "."
lent_arguments_text (first ∷ others) = separated (codes ",") lent_argument_text (first ∷ others)

abbrev pub answer_given : AnswerWords → Answer
answer_given (OneName name) = GivenName name.now
answer_given (HasOwner has) = GivenOwner has
answer_given (NameList names) = GivenNames (map lent_text names.now)

abbrev pub given_answer : Option AnswerWords → Option Answer
given_answer None = None
given_answer (Some answer) = Some (answer_given answer)

-- a settled ticket by its number alone
abbrev pub settled_number : SettledTicket → SettledNumber
settled_number t = record { fate = t.fate; number = t.ticket.number }

abbrev pub settled_ticket_text : SettledTicket → Text
settled_ticket_text t = ticket_text (settled_number t)

-- what a change is told, its tickets by number alone
abbrev pub numbered : Outcome → NumberedOutcome
numbered o = record { reply = o.reply; signals = o.signals; tickets = map settled_number o.tickets; start = o.start }
