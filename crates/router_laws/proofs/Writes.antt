-- What actions write is what their deeds write.
use Rattle.std.proofs.Common.{◌≡◌, ℕ, List, [], ◌∷◌, ◌++◌, refl, sym, ap, ◌∙◌, append_assoc}
use mathlib.Core.List.{append-nil}
use Rattle.message.specs.MessageBytes.{message_bytes}
use Rattle.router_core.specs.declared.action.Action.{Action}
use Rattle.router_core.specs.declared.action.Action.TheVariants.{Write, Put, Close, Run}
use Rattle.router_core.specs.Deeds.{Deed, Writes, Sends, Puts, Closes, Runs, IsDoneBy, IsWriting, AreDoneBy}
use Rattle.router_core.specs.OneThread.{bytes_if, opening_of, bytes_to}
use Rattle.router_laws.specs.Outputs.{bytes_by, bytes_by_all}
use Rattle.router.proofs.Writings.{written_once}

module _ (opening : ℕ) (keys : List ℕ) where
  append_written : (first later : List Deed) → bytes_to opening keys (first ++ later) ≡ bytes_to opening keys first ++ bytes_to opening keys later
  append_written [] later = refl
  append_written (Writes key bytes ∷ first) later =
      let here : List ℕ = bytes_if opening (opening_of key keys) bytes in
      ap (λ (bs : List ℕ). here ++ bs) (append_written first later) ∙ sym (append_assoc here (bytes_to opening keys first) (bytes_to opening keys later))
  append_written (Sends key message ∷ first) later =
      let here : List ℕ = bytes_if opening (opening_of key keys) (message_bytes message) in
      ap (λ (bs : List ℕ). here ++ bs) (append_written first later) ∙ sym (append_assoc here (bytes_to opening keys first) (bytes_to opening keys later))
  append_written (Puts to said ∷ first) later = append_written first later
  append_written (Closes key cause ∷ first) later = append_written first later
  append_written (Runs name start ∷ first) later = append_written first later

  -- a message of the bus is written in one way
  write_is : (key : ℕ) (bytes : List ℕ) (deed : Deed) → IsWriting key bytes deed → bytes_to opening keys (deed ∷ []) ≡ bytes_if opening (opening_of key keys) bytes
  write_is key bytes (Writes k written) d =
      append-nil (bytes_if opening (opening_of k keys) written)
      ∙ ap (λ (n : ℕ). bytes_if opening (opening_of n keys) written) d.0
      ∙ ap (λ (bs : List ℕ). bytes_if opening (opening_of key keys) bs) d.1
  write_is key bytes (Sends k message) d =
      append-nil (bytes_if opening (opening_of k keys) (message_bytes message))
      ∙ ap (λ (n : ℕ). bytes_if opening (opening_of n keys) (message_bytes message)) d.0
      ∙ ap (λ (bs : List ℕ). bytes_if opening (opening_of key keys) bs) (sym (written_once bytes message d.1))
  write_is key bytes (Puts to said) d = absurd d
  write_is key bytes (Closes k cause) d = absurd d
  write_is key bytes (Runs name start) d = absurd d

  action_is : {N : Type 0} (action : Action N) (deed : Deed) → IsDoneBy action deed → bytes_to opening keys (deed ∷ []) ≡ bytes_by opening keys action
  action_is (Write key bytes) deed d = write_is key bytes deed d
  action_is (Put to carried content) deed d = ap (λ (one : Deed). bytes_to opening keys (one ∷ [])) d
  action_is (Close key cause) deed d = ap (λ (one : Deed). bytes_to opening keys (one ∷ [])) d
  action_is (Run name start) deed d = ap (λ (one : Deed). bytes_to opening keys (one ∷ [])) d

  pub actions_are : {N : Type 0} (actions : List (Action N)) (deeds : List Deed) → AreDoneBy actions deeds → bytes_to opening keys deeds ≡ bytes_by_all opening keys actions
  actions_are [] deeds d = ap (λ (ds : List Deed). bytes_to opening keys ds) d
  actions_are (action ∷ actions) deeds d =
      ap (λ (ds : List Deed). bytes_to opening keys ds) d.4
      ∙ append_written (d.0 ∷ []) d.1
      ∙ ap (λ (bs : List ℕ). bs ++ bytes_to opening keys d.1) (action_is action d.0 d.2)
      ∙ ap (λ (bs : List ℕ). bytes_by opening keys action ++ bs) (actions_are actions d.1 d.3)

  pub bytes_more : {N : Type 0} (actions : List (Action N)) (action : Action N) → bytes_by_all opening keys (actions ++ action ∷ []) ≡ bytes_by_all opening keys actions ++ bytes_by opening keys action
  bytes_more [] action = append-nil (bytes_by opening keys action)
  bytes_more (a ∷ actions) action =
      ap (λ (bs : List ℕ). bytes_by opening keys a ++ bs) (bytes_more actions action) ∙ sym (append_assoc (bytes_by opening keys a) (bytes_by_all opening keys actions) (bytes_by opening keys action))
