-- Over a bus of one thread, where nothing is refused, what events bring is a function of them.
use Rattle.std.proofs.Common.{◌≡◌, ℕ, Bool, true, ◌==◌, Option, None, option_map, List, [], ◌∷◌, ◌++◌, map, if◌then◌else◌, refl, sym, ap, ◌∙◌, append_assoc}
use mathlib.Core.List.{append-nil}
use Rattle.seq_bus_core.specs.Histories.{History}
use Rattle.message.specs.MessageBytes.{message_bytes}
use Rattle.outbox_core.specs.Contents.{Said, said_of}
use Rattle.outbox_core.specs.Deliveries.{deliveries_of}
use Rattle.outbox_core.specs.declared.envelope.Envelope.{Envelope}
use Rattle.router_core.specs.declared.action.Action.{Action}
use Rattle.router_core.specs.declared.action.Action.TheVariants.{Write, Put, Close, Run}
use Rattle.router_core.specs.declared.event.Event.{Event}
use Rattle.router_core.specs.declared.event.Event.TheVariants as event
use Rattle.router_core.specs.Acts.{Exchange, IsGranted, State}
use Rattle.router_core.specs.Deeds.{Deed, Writes, Sends, Puts, Closes, Runs, GatedCall, IsDoneBy, IsWriting, AreDoneBy}
use Rattle.router_core.specs.Events.{Occasion, Mail, occasion_of}
use Rattle.router_core.specs.OneThread.{Rest}
use Rattle.router_core.proofs.Alone.{AreReadBy, Readers, effect}
use Rattle.router_core.proofs.Readers.{AreRight, read_so, readers_of, right_append, right_lawful}
use Rattle.router.specs.OneEvent.{rest_in}
use Rattle.router.proofs.OneEvent.{brought_so}
use Rattle.router_core.proofs.Grants.{granted_parts, read_parts}
use Rattle.router.proofs.Writings.{written_once}
use Rattle.busd_core.specs.Happenings.{bytes_for, written_to, Delivery, mail_to_all, mail_of, mails_of, Carries, AreMailed, Happens, AllHappen, asked_mailed, asked_all}
use Rattle.busd_core.proofs.Alone.{bytes_done, mail_done, mailed, happened, all_happened}

-- ## Bytes

module _ (key : ℕ) where
  append_bytes : (first later : List Deed) → bytes_done key (first ++ later) ≡ bytes_done key first ++ bytes_done key later
  append_bytes [] later = refl
  append_bytes (Writes to bytes ∷ first) later =
      let here : List ℕ = if to == key then bytes else [] in
      ap (λ (bs : List ℕ). here ++ bs) (append_bytes first later) ∙ sym (append_assoc here (bytes_done key first) (bytes_done key later))
  append_bytes (Sends to message ∷ first) later =
      let here : List ℕ = if to == key then message_bytes message else [] in
      ap (λ (bs : List ℕ). here ++ bs) (append_bytes first later) ∙ sym (append_assoc here (bytes_done key first) (bytes_done key later))
  append_bytes (Puts to said ∷ first) later = append_bytes first later
  append_bytes (Closes to cause ∷ first) later = append_bytes first later
  append_bytes (Runs name start ∷ first) later = append_bytes first later

  -- a message of the bus is written in one way
  write_is : (to : ℕ) (bytes : List ℕ) (deed : Deed) → IsWriting to bytes deed → bytes_done key (deed ∷ []) ≡ (if to == key then bytes else [])
  write_is to bytes (Writes k written) d =
      append-nil (if k == key then written else [])
      ∙ ap (λ (n : ℕ). if n == key then written else []) d.0
      ∙ ap (λ (bs : List ℕ). if to == key then bs else []) d.1
  write_is to bytes (Sends k message) d =
      append-nil (if k == key then message_bytes message else [])
      ∙ ap (λ (n : ℕ). if n == key then message_bytes message else []) d.0
      ∙ ap (λ (bs : List ℕ). if to == key then bs else []) (sym (written_once bytes message d.1))
  write_is to bytes (Puts conns said) d = absurd d
  write_is to bytes (Closes k cause) d = absurd d
  write_is to bytes (Runs name start) d = absurd d

  action_bytes : {N : Type 0} (action : Action N) (deed : Deed) → IsDoneBy action deed → bytes_done key (deed ∷ []) ≡ bytes_for key action
  action_bytes (Write to bytes) deed d = write_is to bytes deed d
  action_bytes (Put to carried content) deed d = ap (λ (one : Deed). bytes_done key (one ∷ [])) d
  action_bytes (Close to cause) deed d = ap (λ (one : Deed). bytes_done key (one ∷ [])) d
  action_bytes (Run name start) deed d = ap (λ (one : Deed). bytes_done key (one ∷ [])) d

  bytes_are : {N : Type 0} (actions : List (Action N)) (deeds : List Deed) → AreDoneBy actions deeds → bytes_done key deeds ≡ written_to key actions
  bytes_are [] deeds d = ap (λ (ds : List Deed). bytes_done key ds) d
  bytes_are (action ∷ actions) deeds d =
      ap (λ (ds : List Deed). bytes_done key ds) d.4
      ∙ append_bytes (d.0 ∷ []) d.1
      ∙ ap (λ (bs : List ℕ). bs ++ bytes_done key d.1) (action_bytes action d.0 d.2)
      ∙ ap (λ (bs : List ℕ). bytes_for key action ++ bs) (bytes_are actions d.1 d.3)

-- ## Mail

module _ (seat : ℕ) where
  append_mail : (first later : List Deed) → mail_done seat (first ++ later) ≡ mail_done seat first ++ mail_done seat later
  append_mail [] later = refl
  append_mail (Puts to said ∷ first) later =
      ap (λ (ds : List Delivery). mail_to_all seat said to ++ ds) (append_mail first later) ∙ sym (append_assoc (mail_to_all seat said to) (mail_done seat first) (mail_done seat later))
  append_mail (Writes to bytes ∷ first) later = append_mail first later
  append_mail (Sends to message ∷ first) later = append_mail first later
  append_mail (Closes to cause ∷ first) later = append_mail first later
  append_mail (Runs name start ∷ first) later = append_mail first later

  -- a message of the bus that is written is put to nobody
  no_mail : (to : ℕ) (bytes : List ℕ) (deed : Deed) → IsWriting to bytes deed → mail_done seat (deed ∷ []) ≡ []
  no_mail to bytes (Writes k written) d = refl
  no_mail to bytes (Sends k message) d = refl
  no_mail to bytes (Puts conns said) d = absurd d
  no_mail to bytes (Closes k cause) d = absurd d
  no_mail to bytes (Runs name start) d = absurd d

  action_mail : {N : Type 0} (action : Action N) (deed : Deed) → IsDoneBy action deed → mail_done seat (deed ∷ []) ≡ mail_of seat action
  action_mail (Write to bytes) deed d = no_mail to bytes deed d
  action_mail (Put to carried content) deed d =
      ap (λ (one : Deed). mail_done seat (one ∷ [])) d
      ∙ append-nil (mail_to_all seat (said_of content) (deliveries_of to.to to.monitors))
  action_mail (Close to cause) deed d = ap (λ (one : Deed). mail_done seat (one ∷ [])) d
  action_mail (Run name start) deed d = ap (λ (one : Deed). mail_done seat (one ∷ [])) d

  mails_are : {N : Type 0} (actions : List (Action N)) (deeds : List Deed) → AreDoneBy actions deeds → mail_done seat deeds ≡ mails_of seat actions
  mails_are [] deeds d = ap (λ (ds : List Deed). mail_done seat ds) d
  mails_are (action ∷ actions) deeds d =
      ap (λ (ds : List Deed). mail_done seat ds) d.4
      ∙ append_mail (d.0 ∷ []) d.1
      ∙ ap (λ (ds : List Delivery). ds ++ mail_done seat d.1) (action_mail action d.0 d.2)
      ∙ ap (λ (ds : List Delivery). mail_of seat action ++ ds) (mails_are actions d.1 d.3)

-- ## Events

module _ {N G : Type 0} (told : N → History) (passes : G → GatedCall → G → Type 0) (alone : Bool) (seat key : ℕ) (is : alone ≡ true) (readers : Readers) where
  as_mail : (envelope : Envelope N) (delivery : Delivery) → Carries envelope delivery →
      occasion_of told (event.Mail delivery.slot envelope) ≡ Mail delivery.slot delivery.number None delivery.said
  as_mail envelope delivery c =
      ap (λ (n : ℕ). Mail delivery.slot n (option_map told envelope.note) (said_of envelope.content)) c.number
      ∙ ap (λ (note : Option N). Mail delivery.slot delivery.number (option_map told note) (said_of envelope.content)) c.note
      ∙ ap (λ (said : Said). Mail delivery.slot delivery.number None said) c.said

  mailed_so : (before : State G) (deliveries : List Delivery) (written : List ℕ) (after : State G) (m : AreMailed told passes alone seat key before deliveries written after) →
      IsGranted (asked_mailed told passes alone seat key before deliveries written after m) → AreReadBy readers (asked_mailed told passes alone seat key before deliveries written after m) →
      (written ≡ (mailed readers seat key (rest_in before) deliveries).0) × (rest_in after ≡ (mailed readers seat key (rest_in before) deliveries).1)
  mailed_so before [] written after m granted read = (m.1, ap (λ (s : State G). rest_in s) m.0)
  mailed_so before (delivery ∷ deliveries) written after m granted read =
      let between : State G = m.0 in
      let one = m.3 in
      let asked = one.serves.served.asked in
      let later = asked_mailed told passes alone seat key between deliveries m.2 after m.4 in
      let grants = granted_parts asked later granted in
      let reads = read_parts readers asked later read in
      let brought : List Deed × Rest = effect readers (rest_in before) (Mail delivery.slot delivery.number None delivery.said) in
      let same = ap (λ (o : Occasion). effect readers (rest_in before) o) (as_mail one.envelope delivery one.carries) in
      let given_so = brought_so told passes alone before between (event.Mail delivery.slot one.envelope) one.actions one.serves.served is grants.0 readers reads.0 in
      let bytes : m.1 ≡ bytes_done key brought.0 =
      one.writes ∙ sym (bytes_are key one.actions one.serves.served.deeds one.serves.served.done)
      ∙ ap (λ (ds : List Deed). bytes_done key ds) (given_so.0 ∙ ap (λ (end : List Deed × Rest). end.0) same) in
      let left : rest_in between ≡ brought.1 = given_so.1 ∙ ap (λ (end : List Deed × Rest). end.1) same in
      let others = mailed_so between deliveries m.2 after m.4 grants.1 reads.1 in (
        m.5 ∙ ap (λ (bs : List ℕ). bs ++ m.2) bytes ∙ ap (λ (bs : List ℕ). bytes_done key brought.0 ++ bs) (others.0 ∙ ap (λ (r : Rest). (mailed readers seat key r deliveries).0) left),
        others.1 ∙ ap (λ (r : Rest). (mailed readers seat key r deliveries).1) left,
      )

  happened_so : (before : State G) (event : Event N) (written : List ℕ) (after : State G) (h : Happens told passes alone seat key before event written after) →
      IsGranted (h.serves.served.asked ++ asked_mailed told passes alone seat key h.between (mails_of seat h.actions) h.later after h.mailed) →
      AreReadBy readers (h.serves.served.asked ++ asked_mailed told passes alone seat key h.between (mails_of seat h.actions) h.later after h.mailed) →
      (written ≡ (happened readers seat key (rest_in before) (occasion_of told event)).0) × (rest_in after ≡ (happened readers seat key (rest_in before) (occasion_of told event)).1)
  happened_so before event written after h granted read =
      let asked = h.serves.served.asked in
      let later = asked_mailed told passes alone seat key h.between (mails_of seat h.actions) h.later after h.mailed in
      let grants = granted_parts asked later granted in
      let reads = read_parts readers asked later read in
      let brought : List Deed × Rest = effect readers (rest_in before) (occasion_of told event) in
      let deeds = h.serves.served.deeds in
      let given_so = brought_so told passes alone before h.between event h.actions h.serves.served is grants.0 readers reads.0 in
      let bytes : written_to key h.actions ≡ bytes_done key brought.0 =
      sym (bytes_are key h.actions deeds h.serves.served.done) ∙ ap (λ (ds : List Deed). bytes_done key ds) given_so.0 in
      let mails : mails_of seat h.actions ≡ mail_done seat brought.0 =
      sym (mails_are seat h.actions deeds h.serves.served.done) ∙ ap (λ (ds : List Deed). mail_done seat ds) given_so.0 in
      let others = mailed_so h.between (mails_of seat h.actions) h.later after h.mailed grants.1 reads.1 in
      let same : mailed readers seat key (rest_in h.between) (mails_of seat h.actions) ≡ mailed readers seat key brought.1 (mail_done seat brought.0) =
      ap (λ (r : Rest). mailed readers seat key r (mails_of seat h.actions)) given_so.1 ∙ ap (λ (ds : List Delivery). mailed readers seat key brought.1 ds) mails in (
        h.writes ∙ ap (λ (bs : List ℕ). bs ++ h.later) bytes ∙ ap (λ (bs : List ℕ). bytes_done key brought.0 ++ bs) (others.0 ∙ ap (λ (end : List ℕ × Rest). end.0) same),
        others.1 ∙ ap (λ (end : List ℕ × Rest). end.1) same,
      )

  pub all_happened_so : (before : State G) (events : List (Event N)) (written : List ℕ) (after : State G) (h : AllHappen told passes alone seat key before events written after) →
      IsGranted (asked_all told passes alone seat key before events written after h) → AreReadBy readers (asked_all told passes alone seat key before events written after h) →
      (written ≡ (all_happened readers seat key (rest_in before) (map (occasion_of told) events)).0) × (rest_in after ≡ (all_happened readers seat key (rest_in before) (map (occasion_of told) events)).1)
  all_happened_so before [] written after h granted read = (h.1, ap (λ (s : State G). rest_in s) h.0)
  all_happened_so before (event ∷ events) written after h granted read =
      let one = h.3 in
      let asked = one.serves.served.asked ++ asked_mailed told passes alone seat key one.between (mails_of seat one.actions) one.later h.0 one.mailed in
      let later = asked_all told passes alone seat key h.0 events h.2 after h.4 in
      let grants = granted_parts asked later granted in
      let reads = read_parts readers asked later read in
      let first = happened_so before event h.1 h.0 one grants.0 reads.0 in
      let brought : List ℕ × Rest = happened readers seat key (rest_in before) (occasion_of told event) in
      let occasions : List Occasion = map (occasion_of told) events in
      let others = all_happened_so h.0 events h.2 after h.4 grants.1 reads.1 in (
        h.5 ∙ ap (λ (bs : List ℕ). bs ++ h.2) first.0 ∙ ap (λ (bs : List ℕ). brought.0 ++ bs) (others.0 ∙ ap (λ (r : Rest). (all_happened readers seat key r occasions).0) first.1),
        others.1 ∙ ap (λ (r : Rest). (all_happened readers seat key r occasions).1) first.1,
      )

-- ## What was read

module _ {N G : Type 0} (told : N → History) (passes : G → GatedCall → G → Type 0) (alone : Bool) (seat key : ℕ) where
  mailed_right : (before : State G) (deliveries : List Delivery) (written : List ℕ) (after : State G) (m : AreMailed told passes alone seat key before deliveries written after) →
      AreRight (asked_mailed told passes alone seat key before deliveries written after m)
  mailed_right before [] written after m = tt
  mailed_right before (delivery ∷ deliveries) written after m =
      let one = m.3.serves.served in
      right_append one.asked (asked_mailed told passes alone seat key m.0 deliveries m.2 after m.4) (right_lawful alone one.asked before.view m.0.view one.served.lawful) (mailed_right m.0 deliveries m.2 after m.4)

  pub happens_right : (before : State G) (event : Event N) (written : List ℕ) (after : State G) (h : Happens told passes alone seat key before event written after) → AreRight (h.serves.served.asked ++ asked_mailed told passes alone seat key h.between (mails_of seat h.actions) h.later after h.mailed)
  happens_right before event written after h =
      let one = h.serves.served in
      right_append one.asked (asked_mailed told passes alone seat key h.between (mails_of seat h.actions) h.later after h.mailed) (right_lawful alone one.asked before.view h.between.view one.served.lawful)
      (mailed_right h.between (mails_of seat h.actions) h.later after h.mailed)

  pub all_right : (before : State G) (events : List (Event N)) (written : List ℕ) (after : State G) (h : AllHappen told passes alone seat key before events written after) →
      AreRight (asked_all told passes alone seat key before events written after h)
  all_right before [] written after h = tt
  all_right before (event ∷ events) written after h =
      let one = h.3 in
      right_append (one.serves.served.asked ++ asked_mailed told passes alone seat key one.between (mails_of seat one.actions) one.later h.0 one.mailed) (asked_all told passes alone seat key h.0 events h.2 after h.4) (happens_right before event h.1 h.0 h.3) (all_right h.0 events h.2 after h.4)

  -- whatever happens again brings the same
  pub happen_alike : (before after start end : State G) (events : List (Event N)) (written others : List ℕ) (h : AllHappen told passes alone seat key before events written after) (again : AllHappen told passes alone seat key start events others end) →
      alone ≡ true → rest_in start ≡ rest_in before → IsGranted (asked_all told passes alone seat key before events written after h) → IsGranted (asked_all told passes alone seat key start events others end again) →
      (others ≡ written) × (rest_in end ≡ rest_in after)
  happen_alike before after start end events written others h again is same granted also =
      let these : List Exchange = asked_all told passes alone seat key before events written after h in
      let those : List Exchange = asked_all told passes alone seat key start events others end again in
      let readers : Readers = readers_of (these ++ those) in
      let right = right_append these those (all_right before events written after h) (all_right start events others end again) in
      let reads = read_parts readers these those (read_so (these ++ those) right) in
      let first = all_happened_so told passes alone seat key is readers before events written after h granted reads.0 in
      let later = all_happened_so told passes alone seat key is readers start events others end again also reads.1 in
      let occasions : List Occasion = map (occasion_of told) events in (
        later.0 ∙ ap (λ (r : Rest). (all_happened readers seat key r occasions).0) same ∙ sym first.0,
        later.1 ∙ ap (λ (r : Rest). (all_happened readers seat key r occasions).1) same ∙ sym first.1,
      )
