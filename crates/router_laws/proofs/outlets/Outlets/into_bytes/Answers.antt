use Rattle.std.proofs.Common.{◌≡◌, ℕ, List, Vec, Global, map, rules, ap, ◌∙◌}
use Rattle.std.proofs.lemmas.Iterator.{YieldsList-from_map, items_from_collect}
use Rattle.std.proofs.lemmas.Iterator.Adapters.{YieldsList-from_vec}
use Rattle.std.proofs.lemmas.Result.{IfOk-weaker}
use Rattle.router_laws.specs.declared.outlets.Outlet.{Outlet}
use Rattle.router_laws.specs.Outputs.{Output}
use Rattle.router_laws.proofs.Places.{mapped_twice}
use Rattle.router_laws.proofs.outlets.Outlets.into_bytes.Goals as goal

pub returns : goal.returns
returns c =
    let outlets : List Outlet = c.self.inside.outlets.items in
    let bytes_of : Outlet → Vec ℕ Global = λ outlet. outlet.bytes in
    let written : map (λ outlet. outlet.bytes.items) outlets ≡ c.args.self.written = ap (λ (out : Output). out.written) c.self.view_is in
    IfOk-weaker c.collect.result (λ all. all.items ≡ map bytes_of outlets) (λ all. map (λ bytes. bytes.items) all.items ≡ c.args.self.written)
    (λ all is. ap (λ (bs : List (Vec ℕ Global)). map (λ bytes. bytes.items) bs) is ∙ mapped_twice (λ bytes. bytes.items) bytes_of outlets ∙ written)
    (items_from_collect c.collect.result c.collect.ensures.ran
    (YieldsList-from_map _ bytes_of (YieldsList-from_vec outlets (search rules) (search rules)) c.map.ensures.closure (λ x r q k. search rules)))
