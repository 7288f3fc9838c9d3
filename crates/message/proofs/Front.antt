-- Taking a message off the front.
use Rattle.std.proofs.Common.{◌≡◌, ◌≢◌, ℕ, ◌+◌, ◌-◌, ◌≤◌, List, [], ◌∷◌, ◌++◌, length, take, drop, Option, Some, None, Result, Ok, Err, IfOk, IfErr, OnOk, refl, sym, ap, subst, ◌∙◌, arith, inr}
use Rattle.std.proofs.lemmas.List.{take-append-drop, length-take-le, drop-drop, take_at, length-append}
use mathlib.Core.List.{append-nil}
use Rattle.message_core.specs.declared.fault.FrameFault.{FrameFault}
use Rattle.message_core.specs.declared.fault.FrameFault.TheVariants as fault
use Rattle.message_core.specs.Announcements.{announced}
use Rattle.message_core.specs.Messages.{Message, IsMessage}
use Rattle.message_core.specs.Refusals.{IsRefused, IsNoMessage}
use Rattle.message_core.specs.Said.{said}
use Rattle.message_core.specs.Streams.{BeginsNoMessage}
use Rattle.message_core.proofs.NoMessages.{announced_message}
use Rattle.message.specs.Framing.{Unread, IsFound, IsTaken, IsJudged, IsKept, FaultIs}

abbrev ok : ℕ → Result ℕ FrameFault
ok n = Ok n

pub announced_append : (limit : ℕ) (front more : List ℕ) → 16 ≤ length front → announced limit (front ++ more) ≡ announced limit front
unfolding announced
announced_append limit (a ∷ b ∷ c ∷ d ∷ e ∷ f ∷ g ∷ h ∷ i ∷ j ∷ k ∷ l ∷ m ∷ n ∷ o ∷ p ∷ front) more long = refl
announced_append limit front more long = absurd (omega arith)

pub none_of : (o : Option FrameFault) → ((x : FrameFault) → o ≡ Some x → ⊥) → o ≡ None
none_of None h = refl
none_of (Some x) h = absurd (h x refl)

pub kept : (limit : ℕ) (f : FrameFault) (old new : Unread) → f ≢ fault.NoMemory → IsKept limit f old new → FaultIs limit f old new
kept limit fault.NoMemory old new ne h = absurd (ne refl)
kept limit fault.Order old new ne h = h
kept limit fault.Version old new ne h = h
kept limit fault.Kind old new ne h = h
kept limit fault.Serial old new ne h = h
kept limit (fault.Field c) old new ne h = h
kept limit (fault.Missing c) old new ne h = h
kept limit fault.TooLong old new ne h = h
kept limit fault.BodyLength old new ne h = h
kept limit (fault.Body g) old new ne h = h

pub record Taken (limit : ℕ) (items whole : List ℕ) (from len : ℕ) : Type 0 where
  pub announced_whole : announced limit whole ≡ Ok (length whole)
  pub split : drop from items ≡ whole ++ drop (from + len) items
  pub size : length whole ≡ len

pub taken : (limit : ℕ) (items whole : List ℕ) (from len : ℕ) → whole ≡ take (from + len - from) (drop from items) → IsFound limit len (drop from items) → Taken limit items whole from len
taken limit items whole from len ranged found =
    let unread : List ℕ = drop from items in
    let count : from + len - from ≡ len = omega arith in
    let w : whole ≡ take len unread = ranged ∙ ap (λ (n : ℕ). take n unread) count in
    let size : length whole ≡ len = ap length w ∙ length-take-le len unread found.1 in
    let split : unread ≡ whole ++ drop len unread = sym (take-append-drop len unread) ∙ ap (λ (x : List ℕ). x ++ drop len unread) (sym w) in
    record {
      announced_whole = sym (announced_append limit whole (drop len unread) (omega (arith, size, found.0))) ∙ ap (announced limit) (sym split) ∙ found.2 ∙ ap (λ (n : ℕ). ok n) (sym size);
      split = split ∙ ap (λ (x : List ℕ). whole ++ x) (drop-drop len from items);
      size = size;
    }

-- the unread bytes are all that is there, and just a message
pub all_there : (limit : ℕ) (items : List ℕ) (from size : ℕ) → from ≡ 0 → size ≡ length items → IsFound limit size (drop from items) → (drop from items ≡ items) × (announced limit items ≡ Ok (length items)) × (16 ≤ length items)
all_there limit items from size none long found =
    let all : drop from items ≡ items = ap (λ (n : ℕ). drop n items) none in
    (all, ap (announced limit) (sym all) ∙ found.2 ∙ ap (λ (n : ℕ). ok n) long, omega (arith, long, found.0))

-- ---- where no message begins

abbrev good : ℕ → Result ℕ FrameFault
good n = Ok n

abbrev bad : FrameFault → Result ℕ FrameFault
bad f = Err f

not_both : (n : ℕ) (f : FrameFault) → good n ≡ bad f → ⊥
not_both n f e = cc

same_number : (m n : ℕ) → good m ≡ good n → m ≡ n
same_number m n e = cc

-- what a message that begins the bytes makes them announce
announced_front : (limit : ℕ) (bytes front rest : List ℕ) (m : Message) → bytes ≡ front ++ rest → length front ≤ limit → IsMessage front m → announced limit bytes ≡ Ok (length front)
announced_front limit bytes front rest m e within h =
    let a = announced_message limit front m h within in
    ap (announced limit) e ∙ announced_append limit front rest a.0 ∙ a.1

pub none_announced : (limit : ℕ) (bytes : List ℕ) (f : FrameFault) → announced limit bytes ≡ Err f → BeginsNoMessage limit bytes
none_announced limit bytes f wrong = λ m front rest e within h. not_both (length front) f (sym (announced_front limit bytes front rest m e within h) ∙ wrong)

pub none_begins : (limit : ℕ) (bytes whole behind : List ℕ) → bytes ≡ whole ++ behind → announced limit whole ≡ Ok (length whole) → 16 ≤ length whole → IsNoMessage whole → BeginsNoMessage limit bytes
none_begins limit bytes whole behind split told long none = λ m front rest e within h.
    let all : announced limit bytes ≡ Ok (length whole) = ap (announced limit) split ∙ announced_append limit whole behind long ∙ told in
    let same : length front ≡ length whole = same_number (length front) (length whole) (sym (announced_front limit bytes front rest m e within h) ∙ all) in
    let both : front ≡ whole = sym (take_at front rest (length whole) same) ∙ ap (take (length whole)) (sym e ∙ split) ∙ take_at whole behind (length whole) refl in
    none m (subst (λ (x : List ℕ). IsMessage x m) both h)

-- ---- the whole that was refused

pub judged : (limit : ℕ) (bytes whole behind : List ℕ) (f : FrameFault) → bytes ≡ whole ++ behind → announced limit whole ≡ Ok (length whole) → 16 ≤ length whole → IsRefused whole f → IsJudged limit f bytes
judged limit bytes whole behind f split told long refused =
    let size : length whole ≤ length bytes = omega (arith, ap length split, length-append whole behind) in (
      omega (arith, size, long),
      inr (
        length whole,
        ap (announced limit) split ∙ announced_append limit whole behind long ∙ told,
        size,
        subst (λ (x : List ℕ). IsRefused x f) (sym (ap (take (length whole)) split ∙ take_at whole behind (length whole) refl)) refused,
      ),
    )

-- ---- a message that is all that is there

module _ (limit : ℕ) (items : List ℕ) (old : Unread) (is : old.bytes ≡ items) (told : announced limit items ≡ Ok (length items)) (long : 16 ≤ length items) where
  pub all_taken : (r : Result (List ℕ) FrameFault) (left : List ℕ) (from : ℕ) (told : Option FrameFault) → from ≡ 0 → told ≡ None → old.fault ≡ None → length items ≤ limit → IfOk r (λ m. m ≡ items) → IfOk r (λ m. IsMessage m (said m)) → OnOk r (left ≡ []) →
      IfOk r (λ m. IsTaken limit m old (record { bytes = drop from left; fault = told }))
  all_taken (Ok m) left from told first none fine within bytes message emptied = record {
    fine = fine;
    is_message = message;
    within = omega (arith, within, ap length bytes);
    taken = is ∙ sym bytes ∙ sym (append-nil m) ∙ ap (λ (x : List ℕ). m ++ x) (sym emptied ∙ ap (λ (n : ℕ). drop n left) (sym first));
    still_fine = none;
  }
  all_taken (Err f) left from told first none fine within bytes message emptied = tt

  behind : old.bytes ≡ items ++ []
  behind = is ∙ sym (append-nil items)

  pub all_judged : (r : Result (List ℕ) FrameFault) → IfErr r (λ f. f ≢ fault.NoMemory → IsRefused items f) → IfErr r (λ f. f ≢ fault.NoMemory → IsJudged limit f old.bytes)
  all_judged (Ok m) refused = tt
  all_judged (Err f) refused = λ other. judged limit old.bytes items [] f behind told long (refused other)

  pub all_none : (r : Result (List ℕ) FrameFault) → IfErr r (λ f. f ≢ fault.NoMemory → IsNoMessage items) → IfErr r (λ f. f ≢ fault.NoMemory → BeginsNoMessage limit old.bytes)
  all_none (Ok m) none = tt
  all_none (Err f) none = λ other. none_begins limit old.bytes items [] behind told long (none other)
