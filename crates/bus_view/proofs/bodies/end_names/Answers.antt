use Rattle.std.proofs.Common.{◌≡◌, ◌-◌, ◌+◌, ◌∙◌, ◌++◌, ℕ, length, take, drop, ap, rules}
use Rattle.std.specs.Int.{w32, to_le_bytes}
use Rattle.bus_view.proofs.BodyLemmas.{ended_names, length_written}
use Rattle.bus_view.proofs.bodies.end_names.Goals as goal

pub returns : goal.returns
returns c before names at listed few =
    let start = c.args.start in
    let written = c.as_mut_slice.result.now in
    let count : c.len.result ≡ length c.args.body.now.items = search rules in
    ended_names before c.args.body.now.items _ start names at listed few
    (length_written c.args.body.now.len start (length c.args.body.now.items - start - 4) c.args.body.now.items c.write_count.new.body written c.as_mut_slice.ensures.value c.as_mut_slice.ensures.len c.requires.begun
    (c.write_count.ensures
    ∙ ap (λ (n : ℕ). take start written ++ to_le_bytes w32 (n - start - 4) ++ drop (start + 4) written) count))
