-- Bytes have one front.
use Rattle.std.proofs.Common.{◌≡◌, ◌⊎◌, ℕ, ◌≤◌, List, ◌++◌, length, take, Ok, Err, inl, inr, refl, sym, ap, ◌∙◌, subst, append_assoc, arith}
use Rattle.std.proofs.lemmas.List.{length-append, take_at, take-append-le}
use Rattle.message_core.specs.declared.fault.FrameFault.{FrameFault}
use Rattle.message_core.specs.declared.announcement.TheConstants.{MAXIMUM_LENGTH}
use Rattle.message_core.specs.Announcements.{announced, fixed_length}
use Rattle.message_core.specs.Messages.{IsMessage}
use Rattle.message_core.specs.Refusals.{IsRefused}
use Rattle.message_core.specs.Said.{said}
use Rattle.message_core.proofs.NoMessages.{announced_message, refused_none}
use Rattle.message.specs.Framing.{IsWaiting, IsJudged}
use Rattle.message.proofs.Front.{announced_append}
use Rattle.message.proofs.Once.{one_message}
use Rattle.router_core.specs.Incoming.{Waits, Whole, Faulty, IsIncoming}
use Rattle.router_core.specs.Readings.{IncomingIsOne, IncomingStays}
use Rattle.router_core.proofs.Faults.{one_judgement, same_number, not_both}

-- what bytes that announce no message, or one that is refused, are refused for
abbrev Why : ℕ → FrameFault → List ℕ → Type 0
Why limit fault bytes = (announced limit bytes ≡ Err fault) ⊎ ((n : ℕ) × (announced limit bytes ≡ Ok n) × (n ≤ length bytes) × IsRefused (take n bytes) fault)

-- ## A message

-- a message that begins the bytes is what they announce
message_first : (limit : ℕ) (message rest : List ℕ) → IsMessage message (said message) → length message ≤ limit → (16 ≤ length message) × (announced limit (message ++ rest) ≡ Ok (length message))
message_first limit message rest is within =
    let a = announced_message limit message (said message) is within in
    (a.0, announced_append limit message rest a.0 ∙ a.1)

-- it waits for nothing
not_short : (limit : ℕ) (message rest : List ℕ) → IsMessage message (said message) → length message ≤ limit → IsWaiting limit (message ++ rest) → ⊥
not_short limit message rest is within (inl short) = omega (arith, (message_first limit message rest is within).0, short, length-append message rest)
not_short limit message rest is within (inr waits) =
    let a = message_first limit message rest is within in
    omega (arith, same_number (announced limit (message ++ rest)) (length message) waits.0 a.1 waits.1, waits.2, length-append message rest)

-- and is not refused
not_refused : (limit : ℕ) (fault : FrameFault) (message rest : List ℕ) → IsMessage message (said message) → length message ≤ limit → Why limit fault (message ++ rest) → ⊥
not_refused limit fault message rest is within (inl wrong) =
    not_both (announced limit (message ++ rest)) (length message) fault (message_first limit message rest is within).1 wrong
not_refused limit fault message rest is within (inr why) =
    let size : length message ≡ why.0 = same_number (announced limit (message ++ rest)) (length message) why.0 (message_first limit message rest is within).1 why.1 in
    let same : take why.0 (message ++ rest) ≡ message = take_at message rest why.0 size in
    refused_none message fault (subst (λ (bytes : List ℕ). IsRefused bytes fault) same why.3) (said message) is

-- what is refused waits for nothing
not_waiting : (limit : ℕ) (fault : FrameFault) (bytes : List ℕ) → fixed_length ≤ length bytes → Why limit fault bytes → IsWaiting limit bytes → ⊥
not_waiting limit fault bytes long why (inl short) = omega (arith, long, short)
not_waiting limit fault bytes long (inl wrong) (inr waits) = not_both (announced limit bytes) waits.0 fault waits.1 wrong
not_waiting limit fault bytes long (inr why) (inr waits) =
    omega (arith, same_number (announced limit bytes) why.0 waits.0 why.1 waits.1, why.2, waits.2)

-- ## One front

whole_waits : (bytes message rest : List ℕ) → IsIncoming bytes (Whole message rest) → IsIncoming bytes Waits → ⊥
whole_waits bytes message rest is waits = not_short MAXIMUM_LENGTH message rest is.0 is.1 (subst (λ (b : List ℕ). IsWaiting MAXIMUM_LENGTH b) is.2 waits)

faulty_waits : (bytes : List ℕ) (fault : FrameFault) → IsIncoming bytes (Faulty fault) → IsIncoming bytes Waits → ⊥
faulty_waits bytes fault is waits = not_waiting MAXIMUM_LENGTH fault bytes is.0.0 is.0.1 waits

whole_faulty : (bytes message rest : List ℕ) (fault : FrameFault) → IsIncoming bytes (Whole message rest) → IsIncoming bytes (Faulty fault) → ⊥
whole_faulty bytes message rest fault is wrong =
    not_refused MAXIMUM_LENGTH fault message rest is.0 is.1 (subst (λ (b : List ℕ). IsJudged MAXIMUM_LENGTH fault b) is.2 wrong.0).1

pub incoming_is_one : IncomingIsOne
incoming_is_one bytes Waits Waits is so = refl
incoming_is_one bytes Waits (Whole message rest) is so = absurd (whole_waits bytes message rest so is)
incoming_is_one bytes Waits (Faulty fault) is so = absurd (faulty_waits bytes fault so is)
incoming_is_one bytes (Whole message rest) Waits is so = absurd (whole_waits bytes message rest is so)
incoming_is_one bytes (Whole message rest) (Whole other later) is so =
    let one = one_message message other rest later (said message) (said other) is.0 so.0 (sym is.2 ∙ so.2) in
    ap (λ (m : List ℕ). Whole m rest) one.0 ∙ ap (λ (r : List ℕ). Whole other r) one.2
incoming_is_one bytes (Whole message rest) (Faulty fault) is so = absurd (whole_faulty bytes message rest fault is so)
incoming_is_one bytes (Faulty fault) Waits is so = absurd (faulty_waits bytes fault is so)
incoming_is_one bytes (Faulty fault) (Whole message rest) is so = absurd (whole_faulty bytes message rest fault so is)
incoming_is_one bytes (Faulty fault) (Faulty other) is so = ap (λ (f : FrameFault). Faulty f) (one_judgement MAXIMUM_LENGTH bytes fault other is.0 so.0)

-- ## More bytes

refused_more : (limit : ℕ) (fault : FrameFault) (bytes more : List ℕ) → fixed_length ≤ length bytes → Why limit fault bytes → Why limit fault (bytes ++ more)
refused_more limit fault bytes more long (inl wrong) = inl (announced_append limit bytes more long ∙ wrong)
refused_more limit fault bytes more long (inr why) =
    inr (
      why.0,
      announced_append limit bytes more long ∙ why.1,
      omega (arith, why.2, length-append bytes more),
      subst (λ (whole : List ℕ). IsRefused whole fault) (sym (take-append-le why.0 bytes more why.2)) why.3,
    )

pub incoming_stays : IncomingStays
incoming_stays bytes piece Waits not_so is = absurd (not_so refl)
incoming_stays bytes piece (Whole message rest) not_so is = (is.0, is.1, ap (λ (b : List ℕ). b ++ piece) is.2 ∙ append_assoc message rest piece)
incoming_stays bytes piece (Faulty fault) not_so is =
    ((omega (arith, is.0.0, length-append bytes piece), refused_more MAXIMUM_LENGTH fault bytes piece is.0.0 is.0.1), is.1)
