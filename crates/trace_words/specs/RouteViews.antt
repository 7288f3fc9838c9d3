-- How contracts see a route.
use Rattle.std.specs.Prelude.{List, ◌∷◌, map}
use Rattle.std.specs.Option.{option_copied}
use Rattle.names.specs.Texts.{Text}
use Rattle.match_rules.specs.Facts.{Facts}
use Rattle.trace_words.specs.declared.route.Route.{Route}
use Rattle.trace_words.specs.declared.routes.RouteWords.{RouteWords}
use Rattle.trace_words.specs.Cutting.{parts_left}
use Rattle.trace_words.specs.KeptArguments.{kept_argument}

abbrev pub route_facts : Route → Facts
route_facts r = record {
  kind = r.kind;
  auto_start = r.auto_start;
  sender = r.sender;
  path = option_copied r.path;
  interface = option_copied r.interface;
  member = option_copied r.member;
  destination = option_copied r.destination;
  arguments = map kept_argument r.arguments.items;
}

-- the words of a message, and those behind them
abbrev pub route_words : RouteWords → List Text
route_words w =
    w.sender.now ∷ w.kind.now ∷ w.auto_start.now ∷ w.path.now ∷ w.interface.now ∷ w.member.now ∷ w.destination.now
    ∷ w.arguments.now ∷ parts_left w.behind
