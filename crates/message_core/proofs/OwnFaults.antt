-- Which fault a message of one's own has.
use Rattle.std.proofs.Common.{◌≡◌, ℕ, ◌+◌, ◌≤◌, ◌<◌, ◌^◌, List, [], ◌∷◌, ◌++◌, length, get_or, Result, Ok, Err, refl, sym, ap, subst, ◌∙◌, arith, inl, inr}
use Rattle.std.specs.Prelude.{◌⊎◌}
use Rattle.std.specs.Int.{w32}
use Rattle.std.proofs.lemmas.List.{length-append, length-replicate}
use Rattle.marshal_core.specs.declared.order.Order.{Order}
use Rattle.marshal_core.specs.Spelling.{number_bytes, pad_len, pads, Spells}
use Rattle.marshal.proofs.Once.{one_fields}
use Rattle.match_rules.specs.Kinds.{kind_of}
use Rattle.message_core.specs.declared.fault.FrameFault.{FrameFault}
use Rattle.message_core.specs.declared.fault.FrameFault.TheVariants as fault
use Rattle.message_core.specs.Announcements.{announced, fields_place, fixed_length, max_fields_length, max_message_length, number, order_byte, serial_place}
use Rattle.message_core.specs.Kinds.{required}
use Rattle.message_core.specs.HeaderFields.{Field, AreFields, missing, body_types}
use Rattle.message_core.specs.Headers.{AreWritten, AreKnownValues, IsLaidOut, laid_out}
use Rattle.message_core.specs.Messages.{Message}
use Rattle.message_core.specs.OwnFaults.{IsShort, HasWrongField, LacksRequired, HasStart, IsOwnFault}
use Rattle.message_core.specs.Places.{part, all_zero, code_at, BeginsNoFollower, FaultyFields}
use Rattle.message_core.specs.Refusals.{behind_fields, LacksField, IsRefused}
use Rattle.message_core.specs.Said.{order_of}
use Rattle.message_core.specs.Whole.{fields_end}
use Rattle.message_core.proofs.Announced.{Starts, announced_facts, announced_from, only_too_long}
use Rattle.message_core.proofs.FieldReading.{length_part}
use Rattle.message_core.proofs.NoMessages.{AreElements, Stand, stands_of, fields_behind, same_fields, body_stands}
use Rattle.message_core.proofs.Own.{laid_long, laid_parts}
use Rattle.message_core.proofs.OwnRefused.{known, one_spelling}
use Rattle.message_core.proofs.Strings.{length-number}
use Rattle.message_core.proofs.Unread.{not_so, spelled_code}

-- ---- too long

-- the bytes of the fields and of the body are the only ones
same_fields_bytes : (m : Message) (array : List ℕ) → AreWritten m.order m.fields array → (s : IsShort m) → s.fields ≡ array
same_fields_bytes m array written s = one_spelling m.order fixed_length m.fields s.fields array s.written written

same_body : (m : Message) (body : List ℕ) → Spells m.order 0 m.types m.body body → (s : IsShort m) → s.body ≡ body
same_body m body spelled s = one_fields m.body 64 m.order 0 m.types s.body body s.spelled.1 spelled.1

-- no bytes
pub long_values : (m : Message) → HasStart m → (AreKnownValues m.fields → ⊥) → IsOwnFault m fault.TooLong
long_values m start wrong = (start, λ s. wrong (known m.order fixed_length m.fields s.fields s.written))

-- how long a message is that is laid out
laid_length : (m : Message) (fields body : List ℕ) → length (laid_out m fields body) ≡ 16 + (length fields + (pad_len 8 (16 + length fields) + length body))
laid_length m fields body =
    let wb : List ℕ = number_bytes m.order w32 (length body) in
    let ws : List ℕ = number_bytes m.order w32 m.serial in
    let wf : List ℕ = number_bytes m.order w32 (length fields) in
    let gap : List ℕ = pads 8 (16 + length fields) in
    omega (arith, length-append wb (ws ++ (wf ++ (fields ++ (gap ++ body)))), length-append ws (wf ++ (fields ++ (gap ++ body))), length-append wf (fields ++ (gap ++ body)), length-append fields (gap ++ body), length-append gap body, length-number m.order (length body), length-number m.order m.serial, length-number m.order (length fields), length-replicate {A = ℕ} (pad_len 8 (16 + length fields)) 0)

-- longer than the four bytes of a length tell
pub long_parts : (m : Message) (array body : List ℕ) → HasStart m → AreWritten m.order m.fields array → Spells m.order 0 m.types m.body body → (2 ^ 32 ≤ length array) ⊎ (2 ^ 32 ≤ length body) → IsOwnFault m fault.TooLong
long_parts m array body start written spelled h = (start, λ s. at s h) where
  at : (s : IsShort m) → (2 ^ 32 ≤ length array) ⊎ (2 ^ 32 ≤ length body) → ⊥
  at s (inl long) = omega (arith, long, s.fields_fit, ap length (same_fields_bytes m array written s))
  at s (inr long) = omega (arith, long, s.whole_fits, laid_length m s.fields s.body, ap length (same_body m body spelled s))

-- ---- what is announced of a message that is laid out

starts : (m : Message) (array body bytes : List ℕ) → HasStart m → IsLaidOut m array body bytes → Starts (order_of bytes) bytes
starts m array body bytes start laid =
    let p = laid_parts m array body bytes laid in
    record {
      first = ap (λ (x : List ℕ). get_or x 0 0) laid.whole ∙ ap order_byte (sym p.order);
      kind = omega (arith, p.kind, start.0);
      version = ap (λ (x : List ℕ). get_or x 3 0) laid.whole;
      serial = omega (arith, ap (λ (o : Order). number o serial_place bytes) p.order, p.serial, start.1);
    }

abbrev good : ℕ → Result ℕ FrameFault
good n = Ok n

abbrev bad : FrameFault → Result ℕ FrameFault
bad f = Err f

not_both : (n : ℕ) (f : FrameFault) → good n ≡ bad f → ⊥
not_both n f e = cc

-- a message that is short enough is announced
short_announced : (m : Message) (array body bytes : List ℕ) → HasStart m → IsLaidOut m array body bytes → length array ≤ max_fields_length → length bytes ≤ max_message_length → announced max_message_length bytes ≡ Ok (length bytes)
short_announced m array body bytes start laid fields whole =
    let p = laid_parts m array body bytes laid in
    let s = starts m array body bytes start laid in
    announced_from max_message_length bytes (length bytes)
    record {
      first = s.first;
      kind = s.kind;
      version = s.version;
      serial = s.serial;
      fields = omega (arith, ap (λ (o : Order). number o fields_place bytes) p.order, p.fields, fields);
      length = sym (laid_long m array body bytes laid).1;
      within = whole;
    }

pub long_announced : (m : Message) (array body bytes : List ℕ) (f : FrameFault) → HasStart m → AreWritten m.order m.fields array → Spells m.order 0 m.types m.body body → IsLaidOut m array body bytes
    → announced max_message_length bytes ≡ Err f → IsOwnFault m f
long_announced m array body bytes f start written spelled laid wrong =
    subst (IsOwnFault m) (sym (only_too_long max_message_length bytes f (starts m array body bytes start laid) wrong)) (start, λ s. never s)
  where
    never : IsShort m → ⊥
    never s =
        let fields : s.fields ≡ array = same_fields_bytes m array written s in
        let content : s.body ≡ body = same_body m body spelled s in
        let whole : laid_out m s.fields s.body ≡ bytes = ap (λ (x : List ℕ). laid_out m x s.body) fields ∙ ap (laid_out m array) content ∙ sym laid.whole in
        not_both (length bytes) f (sym (short_announced m array body bytes start laid (omega (arith, s.fields_fit, ap length fields)) (omega (arith, s.whole_fits, ap length whole))) ∙ wrong)

pub short_of : (m : Message) (array body bytes : List ℕ) → AreWritten m.order m.fields array → Spells m.order 0 m.types m.body body → IsLaidOut m array body bytes → announced max_message_length bytes ≡ Ok (length bytes) → IsShort m
short_of m array body bytes written spelled laid e =
    let p = laid_parts m array body bytes laid in
    let a = announced_facts max_message_length bytes (length bytes) e in
    record {
      fields = array;
      body = body;
      written = written;
      spelled = spelled;
      fields_fit = omega (arith, a.fields, ap (λ (o : Order). number o fields_place bytes) p.order, p.fields);
      whole_fits = omega (arith, a.within, ap length laid.whole);
    }

-- ---- what is read of it

wrong_among : (order : Order) (bytes : List ℕ) (at end code : ℕ) (fs sent zs : List Field) → fixed_length ≤ at → at < end → end ≤ length bytes → BeginsNoFollower order sent at (part at end bytes) → code ≡ code_at at (part at end bytes)
    → AreFields [] sent → fs ≡ sent ++ zs → AreElements order at zs (part at end bytes) → HasWrongField fs code
wrong_among order bytes at end code fs sent [] begins before ends none told permitted split h =
    absurd (omega (arith, before, ap length h, length_part bytes at end (omega (arith, before)) ends))
wrong_among order bytes at end code fs sent (f ∷ zs) begins before ends none told permitted split h = record {
  before = sent;
  wrong = f;
  after = zs;
  split = split;
  permitted = permitted;
  not_permitted = none f h.0 h.1 h.4 h.2;
  told = told ∙ sym (spelled_code order at f (part at end bytes) h.0 h.1 h.4 h.2);
}

wrong_field : (bytes : List ℕ) (m : Message) (content : List ℕ) (code : ℕ) → Stand bytes m m.fields content → FaultyFields (order_of bytes) bytes (fields_end bytes) code → HasWrongField m.fields code
wrong_field bytes m content code s f =
    let behind = fields_behind bytes m m.fields content code s f in
    wrong_among (order_of bytes) bytes f.at (fields_end bytes) code m.fields f.sent behind.0 f.within.0 f.within.1 s.ends f.none f.told f.before.permitted behind.1 behind.2

lacks_required : (bytes : List ℕ) (m : Message) (content : List ℕ) (code : ℕ) → Stand bytes m m.fields content → LacksField bytes code → LacksRequired m code
lacks_required bytes m content code s lacks =
    let same : m.fields ≡ lacks.sent = same_fields (order_of bytes) 16 lacks.sent m.fields (part 16 (fields_end bytes) bytes) lacks.stand.spelled.spelled s.spelled in
    record {
      permitted = subst (AreFields []) (sym same) lacks.stand.spelled.permitted;
      lacking = lacks.lacking;
      first = ap (missing (required (kind_of m.kind))) same ∙ ap (λ (n : ℕ). missing (required (kind_of n)) lacks.sent) (sym s.kind) ∙ lacks.first;
      told = lacks.told;
    }

field_refused : (bytes : List ℕ) (m : Message) (content : List ℕ) (code : ℕ) → HasStart m → IsShort m → Stand bytes m m.fields content → IsRefused bytes (fault.Field code) → IsOwnFault m (fault.Field code)
field_refused bytes m content code start short s (inl f) = (start, short, wrong_field bytes m content code s f)
field_refused bytes m content code start short s (inr f) = absurd (not_so (all_zero (behind_fields bytes)) s.gap f.1.loose)

refused_so : (bytes : List ℕ) (m : Message) (content : List ℕ) (f : FrameFault) → HasStart m → IsShort m → m.types ≡ body_types m.fields → Spells m.order 0 m.types m.body content → Stand bytes m m.fields content → IsRefused bytes f → IsOwnFault m f
refused_so bytes m content (fault.Field code) start short signed spelled s r = field_refused bytes m content code start short s r
refused_so bytes m content (fault.Missing code) start short signed spelled s r = (start, short, lacks_required bytes m content code s r)
refused_so bytes m content f start short signed spelled s r = absurd (body_stands bytes m m.fields content f s signed spelled r)

pub refused_own : (m : Message) (array body bytes : List ℕ) (f : FrameFault) → HasStart m → m.types ≡ body_types m.fields → AreWritten m.order m.fields array → Spells m.order 0 m.types m.body body → IsLaidOut m array body bytes
    → announced max_message_length bytes ≡ Ok (length bytes) → IsRefused bytes f → IsOwnFault m f
refused_own m array body bytes f start signed written spelled laid e r =
    let s = stands_of bytes m m.fields (number_bytes m.order w32 (length array) ++ array) array body (laid_parts m array body bytes laid) refl written in
    refused_so bytes m body f start (short_of m array body bytes written spelled laid e) signed spelled s r
