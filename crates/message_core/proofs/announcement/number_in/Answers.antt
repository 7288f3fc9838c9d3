use Rattle.std.proofs.Common.{◌∙◌, ◌+◌, ◌-◌, take, drop}
use Rattle.std.specs.Int.{w32}
use Rattle.message_core.proofs.Announced.{number_is}
use Rattle.message_core.proofs.announcement.number_in.Goals as goal

pub returns-clause-value : goal.returns-clause-value
returns-clause-value g c =
    let place = c.args.place in
    let bytes = c.args.bytes.now in
    c.read_u32.ensures ∙ g.met.E.Endian.reads w32 (take (place + 4 - place) (drop place bytes)) ∙ number_is g.E.Endian.order place bytes
