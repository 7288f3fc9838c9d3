-- What events bring over a bus of one thread where nothing is refused, as a function of them and of what is read.
use Rattle.std.specs.Prelude.{ℕ, ◌==◌, None, List, [], ◌∷◌, ◌++◌, if◌then◌else◌}
use Rattle.message.specs.MessageBytes.{message_bytes}
use Rattle.router_core.specs.Deeds.{Deed, Writes, Sends, Puts}
use Rattle.router_core.specs.Events.{Occasion, Mail}
use Rattle.router_core.specs.OneThread.{Rest}
use Rattle.router_core.proofs.Alone.{Readers, effect}
use Rattle.busd_core.specs.Happenings.{Delivery, mail_to_all}

-- what deeds write to the connection of a key
abbrev pub bytes_done : ℕ → List Deed → List ℕ
bytes_done key [] = []
bytes_done key (Writes to bytes ∷ deeds) = (if to == key then bytes else []) ++ bytes_done key deeds
bytes_done key (Sends to message ∷ deeds) = (if to == key then message_bytes message else []) ++ bytes_done key deeds
bytes_done key (other ∷ deeds) = bytes_done key deeds

-- what they put to connections of the router of a seat
abbrev pub mail_done : ℕ → List Deed → List Delivery
mail_done seat [] = []
mail_done seat (Puts to said ∷ deeds) = mail_to_all seat said to ++ mail_done seat deeds
mail_done seat (other ∷ deeds) = mail_done seat deeds

module _ (readers : Readers) (seat key : ℕ) where
  -- the bytes that deliveries bring as mail, one after the other, and what is left
  abbrev pub mailed : Rest → List Delivery → List ℕ × Rest
  mailed r [] = ([], r)
  mailed r (delivery ∷ deliveries) =
      let brought = effect readers r (Mail delivery.slot delivery.number None delivery.said) in
      let later = mailed brought.1 deliveries in
      (bytes_done key brought.0 ++ later.0, later.1)

  -- the bytes that an occasion brings, with those of the mail that it brings
  abbrev pub happened : Rest → Occasion → List ℕ × Rest
  happened r occasion =
      let brought = effect readers r occasion in
      let later = mailed brought.1 (mail_done seat brought.0) in
      (bytes_done key brought.0 ++ later.0, later.1)

  abbrev pub all_happened : Rest → List Occasion → List ℕ × Rest
  all_happened r [] = ([], r)
  all_happened r (occasion ∷ occasions) =
      let first = happened r occasion in
      let later = all_happened first.1 occasions in
      (first.0 ++ later.0, later.1)
