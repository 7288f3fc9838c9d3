-- Which action closes the connection first.
use Rattle.std.proofs.Common.{◌≡◌, ℕ, ◌+◌, ◌<◌, ◌≤◌, Option, Some, None, List, length, get_or, drop, sym, ap, ◌∙◌}
use Rattle.std.specs.Option.{option_or}
use Rattle.std.proofs.lemmas.List.{at_drop_more, at_drop_all}
use Rattle.router_core.specs.declared.action.Action.{Action}
use Rattle.router_core.specs.declared.cause.CloseCause.{CloseCause}
use Rattle.busd_core.specs.Happenings.{close_of, closed_by}

module _ {N : Type 0} (key : ℕ) (xs : List (Action N)) (i : ℕ) where
  next_closes : (x : Action N) (found : Option CloseCause) → i < length xs → x ≡ get_or xs i x → found ≡ close_of key x → closed_by key (drop i xs) ≡ option_or found (closed_by key (drop (i + 1) xs))
  next_closes x found inside is same =
      at_drop_more (closed_by key) xs i x inside ∙ ap (λ (o : Option CloseCause). option_or o (closed_by key (drop (i + 1) xs))) (sym (same ∙ ap (close_of key) is))

  pub closes_now : (x : Action N) (cause : CloseCause) → i < length xs → x ≡ get_or xs i x → Some cause ≡ close_of key x → closed_by key (drop i xs) ≡ closed_by key xs → Some cause ≡ closed_by key xs
  closes_now x cause inside is same begun = sym (next_closes x (Some cause) inside is same) ∙ begun

  pub closes_later : (x : Action N) → i < length xs → x ≡ get_or xs i x → None ≡ close_of key x → closed_by key (drop i xs) ≡ closed_by key xs → closed_by key (drop (i + 1) xs) ≡ closed_by key xs
  closes_later x inside is same begun = sym (next_closes x None inside is same) ∙ begun

  pub closes_never : length xs ≤ i → closed_by key (drop i xs) ≡ closed_by key xs → None ≡ closed_by key xs
  closes_never over begun = sym (at_drop_all (closed_by key) xs i over) ∙ begun
