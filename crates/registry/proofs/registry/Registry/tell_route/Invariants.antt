use Rattle.registry.proofs.registry.Registry.tell_route.Given as goal

abbrev pub ghosts-route_with : goal.ghosts-route_with
ghosts-route_with a = record { name = a.blank.name; parts = a.blank.parts }
