-- How contracts see what has been read.
use Rattle.std.specs.Prelude.{option_map}
use Rattle.service_files.specs.declared.reading.Reading.{Reading}
use Rattle.service_files.specs.ServiceFiles.{Above}

abbrev pub above_of : Reading → Above
above_of r = record { group = r.group; has_service = r.has_service; name = r.name; exec = option_map (λ command. command.now) r.exec }
