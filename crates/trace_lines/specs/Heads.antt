-- The lines of a trace's head.
use Rattle.std.specs.Prelude.{ℕ, nat_le, Bool, ◌&&◌, not, Option, Some, None, is_none, option_and_then, List, [], ◌∷◌, codes, if◌then◌else◌}
use Rattle.names.specs.Texts.{Text, text_eq}
use Rattle.names.specs.BusName.{is_bus}
use Rattle.names.specs.WellKnown.{well_known_fault}
use Rattle.owner_queues.specs.declared.request.Profile.{Profile}
use Rattle.owner_queues.specs.declared.request.Profile.TheVariants.{One, Two}
use Rattle.seq_bus_core.specs.declared.limits.TheConstants.{MAX_ROUTERS}
use Rattle.trace_words.specs.Words.{space, parts, number_of}

-- The first line names the profile of the queues.
abbrev pub profile_of : Text → Option Profile
profile_of line =
    if text_eq line (codes "dbus-trace 1") then Some One
    else if text_eq line (codes "dbus-trace 2") then Some Two
    else None

abbrev pub routers_within : ℕ → Option ℕ
routers_within routers = if nat_le 1 routers && nat_le routers MAX_ROUTERS then Some routers else None

abbrev pub routers_from : List Text → Option ℕ
routers_from (word ∷ routers ∷ []) = if text_eq word (codes "routers") then option_and_then routers_within (number_of routers) else None
routers_from other = None

-- The second has the number of routers.
abbrev pub routers_of : Text → Option ℕ
routers_of line = routers_from (parts space line)

-- a well-known name that is not the bus's
abbrev pub is_service_name : Text → Bool
is_service_name name = is_none (well_known_fault name) && not (is_bus name)

abbrev pub service_from : List Text → Option Text
service_from (word ∷ name ∷ []) = if text_eq word (codes "service") && is_service_name name then Some name else None
service_from other = None

-- Then there is a line for each service.
abbrev pub service_of : Text → Option Text
service_of line = service_from (parts space line)
