use Rattle.std.proofs.Common.{◌≡◌, ◌≤◌, ◌+◌, Option, Some, None, List, [], length, get_or, take, drop, refl, sym, ap, ◌∙◌, subst, arith}
use Rattle.std.specs.Option.{option_copied_mut}
use Rattle.std.proofs.lemmas.List.{drop_all, length-set, take_all}
use Rattle.slab.specs.Slab.{get}
use Rattle.router_core.specs.Events.{for_entry, checking_presence, checking_each}
use Rattle.router_core.specs.Scripts.{Comes}
use Rattle.router_core.specs.Standing.{Peer, trimmed}
use Rattle.router_core.proofs.Trimmed.{get-trimmed, trimmed-set}
use Rattle.router.proofs.Slabs.{for_one, length-trimmed, there_within}
use Rattle.router.proofs.Ticks.{checks_more, checks_none}
use Rattle.router.proofs.tick.check_all.Goals as goal

pub loop-key-preserved : goal.loop-key-preserved
loop-key-preserved g c =
    let told = g.V.BusView.told in
    let registry_of = g.V.BusView.registry_of in
    let passes = g.G.Gate.passes in
    let alone = g.V.BusView.alone in
    let at = c.loop-key in
    let key = at.key in
    let slots = at.peers.slots in
    let xs = trimmed slots in
    let p = c.in-Some.peer.now in
    let q = c.check_presence.new.peer in
    let w = at.context.world in
    let m = c.check_presence.new.self.world in
    let there : get at.peers key ≡ Some p = sym c.get_mut.ensures.value ∙ ap option_copied_mut c.in-Some.is in
    let here : get_or xs key None ≡ Some p = get-trimmed slots key ∙ there in
    let work = λ (x : Peer). checking_presence key x x.stage in
    let this = subst (λ (o : Option Peer). Comes told registry_of passes alone (for_entry o work) w (Some q) m) (sym here) (for_one told registry_of passes alone p q work w m c.check_presence.ensures.comes) in
    record {
      room = omega (arith, at.invariant.room, c.check_presence.ensures.room);
      places = length-set slots key (Some q) ∙ at.invariant.places;
      vacant_key = at.invariant.vacant_key;
      capacity = at.invariant.capacity;
      comes = λ ys v later.
          at.invariant.comes ys v
          (checks_more told registry_of passes alone w m v xs key (there_within xs key p here) (Some q) ys this
          (subst (λ (os : List (Option Peer)). Comes told registry_of passes alone (checking_each (take (key + 1) os) (drop (key + 1) os)) m ys v) (trimmed-set slots key q p there) later));
    }

pub loop-key-preserved-in_default : goal.loop-key-preserved-in_default
loop-key-preserved-in_default g c =
    let at = c.loop-key in
    let none : get_or (trimmed at.peers.slots) at.key None ≡ None = get-trimmed at.peers.slots at.key ∙ sym c.get_mut.ensures.value ∙ ap option_copied_mut c.in_default.is in
    record {
      room = omega (arith, at.invariant.room);
      places = at.invariant.places;
      vacant_key = at.invariant.vacant_key;
      capacity = at.invariant.capacity;
      comes = λ ys v later. at.invariant.comes ys v (checks_none g.V.BusView.told g.V.BusView.registry_of g.G.Gate.passes g.V.BusView.alone at.context.world v (trimmed at.peers.slots) at.key ys none later);
    }

pub returns-clause-comes : goal.returns-clause-comes
returns-clause-comes g c =
    let told = g.V.BusView.told in
    let registry_of = g.V.BusView.registry_of in
    let passes = g.G.Gate.passes in
    let alone = g.V.BusView.alone in
    let at = c.loop-key in
    let xs = trimmed at.peers.slots in
    let w = at.context.world in
    let past : length xs ≤ at.key = omega (arith, length-trimmed at.peers.slots, at.invariant.places, c.capacity-key-end.ensures.slots) in
    let all = subst (λ (os : List (Option Peer)). Comes told registry_of passes alone (checking_each os []) w xs w) (sym (take_all at.key xs past)) (refl, refl) in
    at.invariant.comes xs w (subst (λ (os : List (Option Peer)). Comes told registry_of passes alone (checking_each (take at.key xs) os) w xs w) (sym (drop_all at.key xs past)) all)
