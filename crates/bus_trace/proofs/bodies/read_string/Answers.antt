use Rattle.std.proofs.Common.{◌∙◌, List, ℕ, ap, drop, refl, rules, take}
use Rattle.bus_trace.proofs.Strings.{string_read, to_the_end}
use Rattle.bus_trace.proofs.bodies.read_string.Goals as goal

pub returns-in-Ok-clause-read : goal.returns-in-Ok-clause-read
returns-in-Ok-clause-read c text rest few e =
    let looked = c.in-Some.ensures.lookup in
    let split = c.in-Some-split_first_chunk.ensures.cases in
    let behind = looked.0.2 ∙ to_the_end c.args.body.now _ looked.0.0 in
    string_read c.args.body.now c.in-Some-split_first_chunk.length.now c.in-Some-split_first_chunk.rest.now c.in-Ok.text.now text rest c.args.at _ c.read_u32-length.result few e refl
    (split.0 ∙ ap (λ (bs : List ℕ). take 4 bs) behind) (split.1 ∙ ap (λ (bs : List ℕ). drop 4 bs) behind)
    (search rules) c.in-Ok.ensures.cases.0
