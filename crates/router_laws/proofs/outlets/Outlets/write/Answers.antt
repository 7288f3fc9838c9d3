use Rattle.std.proofs.Common.{◌≡◌, ℕ, ◌+◌, ◌-◌, ◌<◌, List, length, map, reverse, set, sym, ap, ◌∙◌, subst, arith}
use Rattle.std.proofs.lemmas.Result.{on_ok_weaker}
use Rattle.router_core.specs.OneThread.{bytes_if, opening_of as opening_in}
use Rattle.router_laws.specs.declared.outlets.Outlet.{Outlet}
use Rattle.router_laws.specs.Outputs.{Adds, Output}
use Rattle.router_laws.proofs.Places.{adds_at, opening_inside, output_of}
use Rattle.router_laws.proofs.outlets.Outlets.write.Goals as goal

abbrev key_of : Outlet → ℕ
key_of outlet = outlet.key

abbrev bytes_of : Outlet → List ℕ
bytes_of outlet = outlet.bytes.items

pub index_mut-requires : goal.index_mut-requires
index_mut-requires c =
    let keys : reverse (map key_of c.self.inside.outlets.items) ≡ c.args.self.now.keys = ap (λ (out : Output). out.keys) c.self.view_is in
    let within = opening_inside key_of bytes_of c.self.inside.outlets.items c.args.key c.args.self.now.keys keys in
    omega (arith, within, c.opening_of-opening.ensures, c.self.inside.outlets.ok.0)

pub returns : goal.returns
returns c =
    let outlets : List Outlet = c.self.inside.outlets.items in
    let opening : ℕ = c.opening_of-opening.result in
    let place : ℕ = opening - 1 in
    let keys : reverse (map key_of outlets) ≡ c.args.self.now.keys = ap (λ (out : Output). out.keys) c.self.view_is in
    let within = opening_inside key_of bytes_of outlets c.args.key c.args.self.now.keys keys in
    let inside : place < length outlets = omega (arith, within, c.opening_of-opening.ensures) in
    let next : opening ≡ place + 1 = omega arith in
    let there : opening_in c.args.key (reverse (map key_of outlets)) ≡ place + 1 = ap (λ (ks : List ℕ). opening_in c.args.key ks) keys ∙ sym c.opening_of-opening.ensures ∙ next in
    on_ok_weaker c.add.result
    (λ longer.
    subst
    (λ (out : Output). Adds out (λ opening. bytes_if opening (opening_in c.args.key out.keys) c.args.bytes.now) (output_of key_of bytes_of (set outlets place c.add.new.self)))
    c.self.view_is
    (adds_at key_of bytes_of outlets place c.index_mut.result.now c.add.new.self c.args.key c.args.bytes.now inside (sym c.index_mut.ensures.value) c.add.ensures.key longer there))
    c.add.ensures.bytes
