-- The head of a trace, each of its lines ended by a line feed.
use Rattle.std.specs.Prelude.{ℕ, List, [], ◌∷◌, ◌++◌}
use Rattle.std.specs.List.{flat_map}
use Rattle.names.specs.Texts.{Text}
use Rattle.owner_queues.specs.declared.request.Profile.TheVariants.{Two}
use Rattle.trace_lines.specs.Texts.{profile_line_text, routers_line_text, service_line_text}

abbrev pub ended : Text → Text
ended line = line ++ 10 ∷ []

abbrev pub head_text : ℕ → List Text → Text
head_text routers services =
    ended (profile_line_text Two) ++ ended (routers_line_text routers)
    ++ flat_map (λ service. ended (service_line_text service)) services
