-- Messages of one's own that cannot be written.
use Rattle.std.proofs.Common.{◌≡◌, ℕ, ◌+◌, ◌≤◌, ◌^◌, List, [], ◌∷◌, ◌++◌, length, Result, Ok, Err, refl, sym, ap, subst, ◌∙◌, append_assoc, arith, inl, inr}
use Rattle.std.specs.Prelude.{◌⊎◌, map}
use Rattle.std.specs.Int.{w32}
use Rattle.std.proofs.lemmas.List.{append-nil, length-append}
use Rattle.marshal_core.specs.declared.order.Order.{Order}
use Rattle.marshal_core.specs.Types.{Ty, one_type}
use Rattle.marshal_core.specs.Values.{Val, a_basic, a_variant, an_array, an_entry, a_struct, values, no_values, more_values}
use Rattle.marshal_core.specs.Spelling.{number_bytes, pads, SpellValue, SpellElements, Spells}
use Rattle.marshal.specs.Writing.{encode_at}
use Rattle.marshal.proofs.Once.{one_fields}
use Rattle.marshal.proofs.WrittenAgain.{is_written}
use Rattle.marshal_core.specs.declared.fault.MarshalFault.{MarshalFault}
use Rattle.message_core.specs.declared.fault.FrameFault.{FrameFault}
use Rattle.message_core.specs.Announcements.{announced, fields_place, max_message_length, order_byte, protocol_version}
use Rattle.message_core.specs.HeaderFields.{Field, field_type, field_value}
use Rattle.message_core.specs.Messages.{Message, IsMessage, IsWritten}
use Rattle.message_core.specs.Places.{SpellField, field_depth}
use Rattle.message_core.specs.Headers.{AreWritten, AreKnownValues, HasNoWriting, IsKnownValue, IsLaidOut}
use Rattle.message_core.specs.Refusals.{IsNoMessage}
use Rattle.message_core.proofs.Shape.{basic_inside}
use Rattle.message_core.proofs.Strings.{length-number}
use Rattle.message_core.proofs.NoMessages.{announced_message}

front : (xs ys : List Field) → AreKnownValues (xs ++ ys) → AreKnownValues xs
front [] ys h = tt
front (x ∷ xs) ys h = (h.0, front xs ys h.1)

back : (xs ys : List Field) → AreKnownValues (xs ++ ys) → AreKnownValues ys
back [] ys h = h
back (x ∷ xs) ys h = back xs ys h.1

pub sixth : (a b c d e f g h : List Field) → AreKnownValues (a ++ b ++ c ++ d ++ e ++ f ++ g ++ h) → AreKnownValues f
sixth a b c d e f g h all = back (a ++ b ++ c ++ d ++ e) f (front (a ++ b ++ c ++ d ++ e ++ f) g (front (a ++ b ++ c ++ d ++ e ++ f ++ g) h all))

pub seventh : (a b c d e f g h : List Field) → AreKnownValues (a ++ b ++ c ++ d ++ e ++ f ++ g ++ h) → AreKnownValues g
seventh a b c d e f g h all = back (a ++ b ++ c ++ d ++ e ++ f) g (front (a ++ b ++ c ++ d ++ e ++ f ++ g) h all)

-- what is spelled has values of its types
value_known : (v : Val) (d : ℕ) (order : Order) (at : ℕ) (t : Ty) (bytes : List ℕ) → SpellValue v d order at t bytes → IsKnownValue v
value_known (a_basic b) d order at t bytes h = (basic_inside b t d order at bytes h).1
value_known (a_variant v) d order at t bytes h = tt
value_known (an_array u vs) d order at t bytes h = tt
value_known (an_entry k v) d order at t bytes h = tt
value_known (a_struct vs) d order at t bytes h = tt

field_known : (order : Order) (at : ℕ) (f : Field) (bytes : List ℕ) → SpellField order at f bytes → IsKnownValue f.value
field_known order at f bytes h = let boxed = h.3.3.2 in value_known f.value _ order _ boxed.1 boxed.2 boxed.4

pub known : (order : Order) (at : ℕ) (fs : List Field) (bytes : List ℕ) → SpellElements (values (map field_value fs)) field_depth order at field_type bytes → AreKnownValues fs
known order at [] bytes h = tt
known order at (f ∷ fs) bytes h = (field_known order at f h.0 h.2, known order (at + length h.0) fs h.1 h.3)

-- fields have one spelling
pub one_spelling : (order : Order) (at : ℕ) (fs : List Field) (a b : List ℕ) → SpellElements (values (map field_value fs)) field_depth order at field_type a → SpellElements (values (map field_value fs)) field_depth order at field_type b → a ≡ b
one_spelling order at [] a b h k = h ∙ sym k
one_spelling order at (f ∷ fs) a b h k =
    let first : h.0 ≡ k.0 = one_fields (more_values (field_value f) no_values) field_depth order at (one_type field_type) h.0 k.0 (h.0, [], h.2, refl, sym (append-nil h.0)) (k.0, [], k.2, refl, sym (append-nil k.0)) in
    let others : h.1 ≡ k.1 = one_spelling order (at + length h.0) fs h.1 k.1 h.3 (subst (λ (x : List ℕ). SpellElements (values (map field_value fs)) field_depth order (at + length x) field_type k.1) (sym first) k.3) in
    h.4 ∙ ap (λ (x : List ℕ). x ++ h.1) first ∙ ap (λ (x : List ℕ). k.0 ++ x) others ∙ sym k.4

-- ---- why there are no bytes

pub none_of_kind : (m : Message) → m.kind ≡ 0 → HasNoWriting m
none_of_kind m none = λ bytes within w. omega (arith, none, w.is_sent.kind.0)

abbrev written : List ℕ → Result (List ℕ) MarshalFault
written bytes = Ok bytes

abbrev unwritten : MarshalFault → Result (List ℕ) MarshalFault
unwritten e = Err e

not_written : (bytes : List ℕ) (e : MarshalFault) → written bytes ≡ unwritten e → ⊥
not_written bytes e h = cc

-- values that cannot be written
pub none_encoded : (m : Message) (e : MarshalFault) → encode_at m.order 0 m.body ≡ Err e → HasNoWriting m
none_encoded m e h = λ bytes within w. not_written w.is_sent.body_bytes e (sym (is_written m.order 0 m.types m.body w.is_sent.body_bytes w.is_sent.body_spelled) ∙ h)

pub none_of_serial : (m : Message) → m.serial ≡ 0 → HasNoWriting m
none_of_serial m none = λ bytes within w. omega (arith, none, w.is_sent.serial.0)

pub none_of_values : (m : Message) → (AreKnownValues m.fields → ⊥) → HasNoWriting m
none_of_values m wrong = λ bytes within w. wrong (known m.order 16 m.fields w.is_sent.array_spelled.2 w.is_sent.array_spelled.4)

too_long : (m : Message) (array body bytes : List ℕ) → AreWritten m.order m.fields array → Spells m.order 0 m.types m.body body → (2 ^ 32 ≤ length array) ⊎ (2 ^ 32 ≤ length body) → IsWritten bytes m → ⊥
too_long m array body bytes written spelled (inl long) w =
    let s = w.is_sent in
    omega (arith, long, s.array_spelled.3, ap length (one_spelling m.order 16 m.fields array s.array_spelled.2 written s.array_spelled.4))
too_long m array body bytes written spelled (inr long) w =
    let s = w.is_sent in
    omega (arith, long, s.fits, ap length (one_fields m.body 64 m.order 0 m.types body s.body_bytes spelled.1 s.body_spelled.1))

pub none_so_long : (m : Message) (array body : List ℕ) → AreWritten m.order m.fields array → Spells m.order 0 m.types m.body body → (2 ^ 32 ≤ length array) ⊎ (2 ^ 32 ≤ length body) → HasNoWriting m
none_so_long m array body written spelled long = λ bytes within w. too_long m array body bytes written spelled long w

place_of_array : (order : Order) (array : List ℕ) → fields_place + length (number_bytes order w32 (length array) ++ array) ≡ 16 + length array
place_of_array order array = omega (arith, length-append (number_bytes order w32 (length array)) array, length-number order (length array))

-- the bytes that were laid out are the only ones
laid_is : (m : Message) (array body bytes b : List ℕ) → AreWritten m.order m.fields array → Spells m.order 0 m.types m.body body → IsLaidOut m array body bytes → IsWritten b m → b ≡ bytes
laid_is m array body bytes b written spelled laid w =
    let s = w.is_sent in
    let inside : s.array_spelled.2 ≡ array = one_spelling m.order 16 m.fields s.array_spelled.2 array s.array_spelled.4 written in
    let bodies : s.body_bytes ≡ body = one_fields m.body 64 m.order 0 m.types s.body_bytes body s.body_spelled.1 spelled.1 in
    let A : List ℕ = number_bytes m.order w32 (length array) ++ array in
    let arrays : s.array_bytes ≡ A = s.array_spelled.5 ∙ ap (λ (x : List ℕ). number_bytes m.order w32 (length x) ++ x) inside in
    let start : List ℕ = order_byte m.order ∷ m.kind ∷ m.flags ∷ protocol_version ∷ [] in
    let place : fields_place + length A ≡ 16 + length array = place_of_array m.order array in
    s.whole
    ∙ ap (λ (x : List ℕ). start ++ (number_bytes m.order w32 (length s.body_bytes) ++ (number_bytes m.order w32 m.serial ++ (x ++ (pads 8 (fields_place + length x) ++ s.body_bytes))))) arrays
    ∙ ap (λ (x : List ℕ). start ++ (number_bytes m.order w32 (length x) ++ (number_bytes m.order w32 m.serial ++ (A ++ (pads 8 (fields_place + length A) ++ x))))) bodies
    ∙ ap (λ (n : ℕ). start ++ (number_bytes m.order w32 (length body) ++ (number_bytes m.order w32 m.serial ++ (A ++ (pads 8 n ++ body))))) place
    ∙ ap (λ (x : List ℕ). start ++ (number_bytes m.order w32 (length body) ++ (number_bytes m.order w32 m.serial ++ x))) (append_assoc (number_bytes m.order w32 (length array)) array (pads 8 (16 + length array) ++ body))
    ∙ sym laid.whole

is_message : (bytes : List ℕ) (m : Message) → IsWritten bytes m → IsMessage bytes m
is_message bytes m w = record { sent = m.fields; is_sent = w.is_sent; sorted = w.sorted }

abbrev good : ℕ → Result ℕ FrameFault
good n = Ok n

abbrev bad : FrameFault → Result ℕ FrameFault
bad f = Err f

not_both : (n : ℕ) (f : FrameFault) → good n ≡ bad f → ⊥
not_both n f e = cc

pub none_announced : (m : Message) (array body bytes : List ℕ) (f : FrameFault) → AreWritten m.order m.fields array → Spells m.order 0 m.types m.body body → IsLaidOut m array body bytes → announced max_message_length bytes ≡ Err f → HasNoWriting m
none_announced m array body bytes f written spelled laid wrong = λ b within w.
    let same : b ≡ bytes = laid_is m array body bytes b written spelled laid w in
    not_both (length b) f (sym (announced_message max_message_length b m (is_message b m w) within).1 ∙ ap (announced max_message_length) same ∙ wrong)

pub none_read : (m : Message) (array body bytes : List ℕ) → AreWritten m.order m.fields array → Spells m.order 0 m.types m.body body → IsLaidOut m array body bytes → IsNoMessage bytes → HasNoWriting m
none_read m array body bytes written spelled laid none = λ b within w.
    none m (subst (λ (x : List ℕ). IsMessage x m) (laid_is m array body bytes b written spelled laid w) (is_message b m w))
