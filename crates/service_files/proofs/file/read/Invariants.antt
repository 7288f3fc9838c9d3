use Rattle.std.proofs.Common.{◌≡◌, ◌+◌, ◌≤◌}
use Rattle.service_files.specs.ServiceFiles.{nothing_above, service_from}
use Rattle.service_files.specs.Lines.{lines_left}
use Rattle.service_files.specs.Readings.{above_of}
use Rattle.service_files.proofs.FileLines.{bytes_left}
use Rattle.service_files.proofs.file.read.Given as goal

abbrev pub invariant-loop-rest : goal.invariant-loop-rest
invariant-loop-rest l = record {
  described : service_from (above_of l.reading) (l.number + 1) (lines_left l.rest) ≡ service_from nothing_above 1 (lines_left l.initial.rest);
  few : l.number + bytes_left l.rest ≤ bytes_left l.initial.rest;
}

abbrev pub decreases-loop-rest : goal.decreases-loop-rest
decreases-loop-rest l = bytes_left l.rest
