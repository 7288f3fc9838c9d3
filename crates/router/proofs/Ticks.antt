-- What is done as time passes.
use Rattle.std.proofs.Common.{◌≡◌, ℕ, ◌+◌, ◌<◌, ◌≤◌, Bool, Option, None, List, [], ◌∷◌, ◌++◌, length, get_or, set, take, drop, refl, sym, ap, ◌∙◌, subst, inl, inr, arith}
use Rattle.std.proofs.lemmas.Bool.{cases_lt}
use Rattle.std.proofs.lemmas.List.{drop_more, drop_all, length-take-le, take_all, take_more, take_more_set, drop-set-lt}
use Rattle.seq_bus_core.specs.Histories.{History}
use Rattle.router_core.specs.Deeds.{GatedCall}
use Rattle.router_core.specs.Events.{leaving_all, for_entry, checking_presence, checking_each, checking_all, ticking}
use Rattle.router_core.specs.Scripts.{Gives, World, Comes}
use Rattle.router_core.specs.Standing.{Peer, Standing}
use Rattle.router_steps.proofs.Sequels.{comes_then}

module _ {N G : Type 0} (told : N → History) (registry_of : N → ℕ) (passes : G → GatedCall → G → Type 0) (alone : Bool) (w m v : World N G) where
  -- the Leaves, then the connections
  pub ticks : (s : Standing) (kept : List ℕ) (ys : List (Option Peer)) →
      Comes told registry_of passes alone (leaving_all s.due_leaves (record s { due_leaves = [] })) w (record s { due_leaves = kept }) m → Comes told registry_of passes alone (checking_each [] s.peers) m ys v →
      Comes told registry_of passes alone (ticking s) w (record s { peers = ys; due_leaves = kept }) v
  ticks s kept ys made checked =
      let between : Standing = record s { due_leaves = kept } in
      let end : Standing = record s { peers = ys; due_leaves = kept } in
      comes_then told registry_of passes alone checking_all between m end v
      (comes_then told registry_of passes alone (λ peers. Gives (record between { peers = peers })) ys v end v (refl, refl) (checking_each [] s.peers) m checked)
      (leaving_all s.due_leaves (record s { due_leaves = [] })) w made

module _ {N G : Type 0} (told : N → History) (registry_of : N → ℕ) (passes : G → GatedCall → G → Type 0) (alone : Bool) (w m v : World N G) where
  -- the next connection is asked for, then the rest
  pub checks_more : (xs : List (Option Peer)) (k : ℕ) → k < length xs → (q : Option Peer) (ys : List (Option Peer)) →
      Comes told registry_of passes alone (for_entry (get_or xs k None) (λ p. checking_presence k p p.stage)) w q m →
      Comes told registry_of passes alone (checking_each (take (k + 1) (set xs k q)) (drop (k + 1) (set xs k q))) m ys v →
      Comes told registry_of passes alone (checking_each (take k xs) (drop k xs)) w ys v
  checks_more xs k inside q ys this later =
      let within : k ≤ length xs = omega arith in
      let next : k < k + 1 = omega arith in
      let here = subst (λ n. Comes told registry_of passes alone (for_entry (get_or xs k None) (λ p. checking_presence n p p.stage)) w q m) (sym (length-take-le k xs within)) this in
      let done = subst (λ ds. Comes told registry_of passes alone (checking_each ds (drop (k + 1) (set xs k q))) m ys v) (take_more_set xs k q inside) later in
      let rest = subst (λ ds. Comes told registry_of passes alone (checking_each (take k xs ++ q ∷ []) ds) m ys v) (drop-set-lt (k + 1) xs k q next) done in
      subst (λ ds. Comes told registry_of passes alone (checking_each (take k xs) ds) w ys v) (sym (drop_more xs k None inside))
      (comes_then told registry_of passes alone (λ o. checking_each (take k xs ++ o ∷ []) (drop (k + 1) xs)) q m ys v rest (for_entry (get_or xs k None) (λ p. checking_presence (length (take k xs)) p p.stage)) w here)

module _ {N G : Type 0} (told : N → History) (registry_of : N → ℕ) (passes : G → GatedCall → G → Type 0) (alone : Bool) (w v : World N G) where
  -- nobody has the next key
  pub checks_none : (xs : List (Option Peer)) (k : ℕ) (ys : List (Option Peer)) → get_or xs k None ≡ None →
      Comes told registry_of passes alone (checking_each (take (k + 1) xs) (drop (k + 1) xs)) w ys v → Comes told registry_of passes alone (checking_each (take k xs) (drop k xs)) w ys v
  checks_none xs k ys none later =
      elim (cases_lt k (length xs)) [
        | inl inside ↦
            let within : k ≤ length xs = omega (arith, inside) in
            let done = subst (λ ds. Comes told registry_of passes alone (checking_each ds (drop (k + 1) xs)) w ys v) (take_more xs k None inside ∙ ap (λ o. take k xs ++ o ∷ []) none) later in
            subst (λ ds. Comes told registry_of passes alone (checking_each (take k xs) ds) w ys v) (sym (drop_more xs k None inside ∙ ap (λ o. o ∷ drop (k + 1) xs) none)) done
        | inr past ↦
            let whole : take (k + 1) xs ≡ take k xs = take_all (k + 1) xs (omega (arith, past)) ∙ sym (take_all k xs past) in
            let rest : drop (k + 1) xs ≡ drop k xs = drop_all (k + 1) xs (omega (arith, past)) ∙ sym (drop_all k xs past) in
            subst (λ ds. Comes told registry_of passes alone (checking_each ds (drop k xs)) w ys v) whole (subst (λ ds. Comes told registry_of passes alone (checking_each (take (k + 1) xs) ds) w ys v) rest later)
      ]
