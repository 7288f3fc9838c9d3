use Rattle.std.proofs.Common.{◌≡◌, take}
use Rattle.std.specs.List.{fold}
use Rattle.match_index.specs.Buckets.{mixed}
use Rattle.match_index.proofs.buckets.text_part.Given as goal

-- the code of the bytes before this one
abbrev pub invariant-loop-byte : goal.invariant-loop-byte
invariant-loop-byte l = l.code ≡ fold mixed 14695981039346656037 (take l.byte-index l.text)
