-- A stream is cut in one way.
use Rattle.std.proofs.Common.{◌≡◌, ℕ, ◌+◌, ◌-◌, ◌%◌, ◌≤◌, List, [], ◌∷◌, ◌++◌, length, take, drop, refl, sym, ap, subst, ◌∙◌, arith}
use Rattle.std.proofs.lemmas.List.{take_at, drop_at}
use Rattle.marshal_core.specs.declared.order.Order.{Order}
use Rattle.marshal_core.specs.declared.order.Order.TheVariants.{Little, Big}
use Rattle.message_core.specs.Announcements.{whole_length, number, fields_place, body_length_place}
use Rattle.message_core.specs.Messages.{Message, IsMessage}
use Rattle.message_core.specs.Said.{order_of, said}
use Rattle.message_core.specs.Streams.{IsStream}
use Rattle.message_core.proofs.Said.{parts, said_is}

abbrev total : List ℕ → ℕ
total bytes = whole_length (order_of bytes) bytes

abbrev total_in : Order → List ℕ → ℕ
total_in order bytes = whole_length order bytes

total_in_append : (order : Order) (front more : List ℕ) → 16 ≤ length front → total_in order (front ++ more) ≡ total_in order front
total_in_append Little (a ∷ b ∷ c ∷ d ∷ e ∷ f ∷ g ∷ h ∷ i ∷ j ∷ k ∷ l ∷ m ∷ n ∷ o ∷ p ∷ front) more long = refl
total_in_append Big (a ∷ b ∷ c ∷ d ∷ e ∷ f ∷ g ∷ h ∷ i ∷ j ∷ k ∷ l ∷ m ∷ n ∷ o ∷ p ∷ front) more long = refl
total_in_append order front more long = absurd (omega arith)

order_append : (front more : List ℕ) → 16 ≤ length front → order_of (front ++ more) ≡ order_of front
order_append [] more long = absurd (omega arith)
order_append (a ∷ front) more long = refl

total_append : (front more : List ℕ) → 16 ≤ length front → total (front ++ more) ≡ total front
total_append front more long = ap (λ (o : Order). whole_length o (front ++ more)) (order_append front more long) ∙ total_in_append (order_of front) front more long

-- a message is as long as its first bytes say
pub total_is : (bytes : List ℕ) (m : Message) → IsMessage bytes m → (16 ≤ length bytes) × (total bytes ≡ length bytes)
total_is bytes m h =
    let p = parts h.sent bytes m h.is_sent in
    let fields : number (order_of bytes) fields_place bytes ≡ length h.is_sent.array_spelled.2 = ap (λ (o : Order). number o fields_place bytes) p.order ∙ p.fields in
    let body : number (order_of bytes) body_length_place bytes ≡ length h.is_sent.body_bytes = ap (λ (o : Order). number o body_length_place bytes) p.order ∙ p.body_length in (
      omega (arith, p.long),
      ap (λ (n : ℕ). 16 + (n + (8 - n % 8) % 8) + number (order_of bytes) body_length_place bytes) fields
          ∙ ap (λ (n : ℕ). 16 + (length h.is_sent.array_spelled.2 + (8 - length h.is_sent.array_spelled.2 % 8) % 8) + n) body ∙ sym p.long,
    )

-- no message begins another
pub one_message : (a b x y : List ℕ) (m n : Message) → IsMessage a m → IsMessage b n → a ++ x ≡ b ++ y → (a ≡ b) × (m ≡ n) × (x ≡ y)
one_message a b x y m n h k e =
    let f = total_is a m h in
    let g = total_is b n k in
    let len : length a ≡ length b = sym f.1 ∙ sym (total_append a x f.0) ∙ ap total e ∙ total_append b y g.0 ∙ g.1 in
    let same : a ≡ b = sym (take_at a x (length a) refl) ∙ ap (take (length a)) e ∙ take_at b y (length a) (sym len) in
    (same, sym (said_is a m h) ∙ ap said same ∙ said_is b n k, sym (drop_at a x (length a) refl) ∙ ap (drop (length a)) e ∙ drop_at b y (length a) (sym len))

pub one_stream : (limit : ℕ) (bytes : List ℕ) (ms ns : List Message) (rest left : List ℕ) → IsStream limit bytes ms rest → IsStream limit bytes ns left → (ms ≡ ns) × (rest ≡ left)
one_stream limit bytes [] [] rest left h k = (refl, sym h.0 ∙ k.0)
one_stream limit bytes [] (n ∷ ns) rest left h k = absurd (h.1 n k.0 k.1 (sym h.0 ∙ k.5) k.3 k.2)
one_stream limit bytes (m ∷ ms) [] rest left h k = absurd (k.1 m h.0 h.1 (sym k.0 ∙ h.5) h.3 h.2)
one_stream limit bytes (m ∷ ms) (n ∷ ns) rest left h k =
    let one = one_message h.0 k.0 h.1 k.1 m n h.2 k.2 (sym h.5 ∙ k.5) in
    let others = one_stream limit k.1 ms ns rest left (subst (λ (x : List ℕ). IsStream limit x ms rest) one.2 h.4) k.4 in
    (ap (λ (x : Message). x ∷ ms) one.1 ∙ ap (λ (x : List Message). n ∷ x) others.0, others.1)
