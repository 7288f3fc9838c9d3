-- The parts of a message, as they lie in its bytes and as they are written again.
use Rattle.std.proofs.Common.{◌≡◌, ℕ, ◌+◌, ◌-◌, ◌≤◌, ◌<◌, ◌^◌, Bool, true, false, leb, List, [], ◌∷◌, ◌++◌, length, map, take, refl, sym, ap, subst, ◌∙◌, append_assoc, arith, inl, inr}
use Rattle.std.specs.Prelude.{◌⊎◌, ◌||◌, nat_lt, IsUtf8}
use Rattle.std.specs.Int.{w32}
use Rattle.std.proofs.lemmas.List.{length-append, length-take-le, take_at}
use Rattle.std.proofs.lemmas.Bool.{ne_eqb, lt-ltb, le-ltb}
use Rattle.names.specs.Texts.{Text}
use Rattle.names.specs.UniqueName.{IsUniqueName}
use Rattle.marshal_core.specs.declared.order.Order.{Order}
use Rattle.marshal_core.specs.Spelling.{number_bytes, pad_len, pads}
use Rattle.marshal_core.proofs.Results.{leb_true, leb_false, leb-yes, leb-no}
use Rattle.message_core.specs.declared.field_place.FieldPlace.{FieldPlace}
use Rattle.message_core.specs.Announcements.{order_byte, protocol_version, fixed_length, max_fields_length}
use Rattle.message_core.specs.HeaderFields.{Field, insert_field}
use Rattle.message_core.specs.Messages.{Message}
use Rattle.message_core.specs.Said.{said}
use Rattle.message_core.specs.Places.{ArePlaced}
use Rattle.message_core.proofs.Strings.{length-number}
use Rattle.message_core.proofs.Said.{parts}
use Rattle.message.specs.MessageBytes.{field_bytes, lined_up, fields_bytes, body_bytes, message_bytes, is_too_long}
use Rattle.message_core.specs.Announcements.{max_message_length}
use Rattle.message_core.specs.Headers.{laid_out}
use Rattle.message.specs.Senders.{sender_field, without_sender, known_fields, sent_by}
use Rattle.message.specs.Parts.{Lies}
use Rattle.message.specs.Layout.{AreWithin, count_below, behind, fields_end, text_at, copied, sender_bytes, sender_length, known_places, before_sender, after_sender, before_end, sender_end, sent_end, last_end}
use Rattle.message.proofs.Lines.{length-pads, lined_append, copied_end, within_more, within_take, within_drop}
use Rattle.message.proofs.Spelled.{placed_bytes, placed_map, are_within}
use Rattle.message.proofs.Rising.{Rises}
use Rattle.message.proofs.Known.{rises_known, placed_known, within_known}
use Rattle.message.proofs.Ready.{IsReady, body_is, ready_said, ready_sent, sender_written, same_body}

-- ---- the fields with SENDER

none_below : (c low : ℕ) (order : Order) (bytes : List ℕ) (ps : List FieldPlace) (fs : List Field) → c ≤ low → Rises low fs → ArePlaced order bytes ps fs → count_below c ps ≡ 0
none_below c low order bytes [] [] le h k = refl
none_below c low order bytes [] (f ∷ fs) le h k = absurd k
none_below c low order bytes (p ∷ ps) [] le h k = absurd k
none_below c low order bytes (p ∷ ps) (f ∷ fs) le h k = rw (leb_true c p.code (omega (arith, k.0.code, h.0))) refl

all_above : (low : ℕ) (fs : List Field) → 7 < low → Rises low fs → without_sender fs ≡ fs
all_above low [] le h = refl
all_above low (f ∷ fs) le h = rw (ne_eqb f.code 7 (λ e. omega (arith, e, h.0))) (ap (λ (x : List Field). f ∷ x) (all_above f.code fs (omega (arith, h.0)) h.1))

below_or : (n : ℕ) → (n < 7) ⊎ ((n ≡ 7) ⊎ (7 < n))
below_or n = told (leb n 6) (leb n 7) refl refl where
  told : (a b : Bool) → leb n 6 ≡ a → leb n 7 ≡ b → (n < 7) ⊎ ((n ≡ 7) ⊎ (7 < n))
  told true b e f = inl (omega (arith, leb-yes n 6 e))
  told false true e f = inr (inl (omega (arith, leb-no n 6 e, leb-yes n 7 f)))
  told false false e f = inr (inr (omega (arith, leb-no n 7 f)))

pub sent_map : (order : Order) (bytes : List ℕ) (name : Text) (x : List ℕ) (low : ℕ) (ps : List FieldPlace) (fs : List Field) → field_bytes order (sender_field name) ≡ x → Rises low fs → ArePlaced order bytes ps fs
    → map (field_bytes order) (insert_field (sender_field name) (without_sender fs)) ≡ map (text_at bytes) (before_sender ps) ++ x ∷ map (text_at bytes) (after_sender ps)
sent_map order bytes name x low [] [] e h k = ap (λ (y : List ℕ). y ∷ []) e
sent_map order bytes name x low [] (f ∷ fs) e h k = absurd k
sent_map order bytes name x low (p ∷ ps) [] e h k = absurd k
sent_map order bytes name x low (p ∷ ps) (f ∷ fs) e h k = at (below_or f.code) (sent_map order bytes name x f.code ps fs e h.1 k.1) where
  at : (f.code < 7) ⊎ ((f.code ≡ 7) ⊎ (7 < f.code)) → map (field_bytes order) (insert_field (sender_field name) (without_sender fs)) ≡ map (text_at bytes) (before_sender ps) ++ x ∷ map (text_at bytes) (after_sender ps)
      → map (field_bytes order) (insert_field (sender_field name) (without_sender (f ∷ fs))) ≡ map (text_at bytes) (before_sender (p ∷ ps)) ++ x ∷ map (text_at bytes) (after_sender (p ∷ ps))
  at (inl less) ih =
      rw (ne_eqb f.code 7 (λ s. omega (arith, s, less)), leb_false 7 f.code less, leb_false 7 p.code (omega (arith, k.0.code, less)), leb_false 8 p.code (omega (arith, k.0.code, less)))
      (ap (λ (y : List ℕ). y ∷ map (field_bytes order) (insert_field (sender_field name) (without_sender fs))) (placed_bytes order bytes p f k.0) ∙ ap (λ (ys : List (List ℕ)). text_at bytes p ∷ ys) ih)
  at (inr (inl same)) ih =
      let none : count_below 7 ps ≡ 0 = none_below 7 f.code order bytes ps fs (omega (arith, same)) h.1 k.1 in
      rw (same, leb_true 7 p.code (omega (arith, k.0.code, same)), leb_false 8 p.code (omega (arith, k.0.code, same)))
      (ih ∙ ap (λ (n : ℕ). map (text_at bytes) (take n ps) ++ x ∷ map (text_at bytes) (after_sender ps)) none)
  at (inr (inr more)) ih =
      rw (ne_eqb f.code 7 (λ s. omega (arith, s, more)), leb_true 7 f.code (omega arith), leb_true 7 p.code (omega (arith, k.0.code, more)), leb_true 8 p.code (omega (arith, k.0.code, more)))
      (ap (λ (y : List ℕ). y ∷ field_bytes order f ∷ map (field_bytes order) (without_sender fs)) e ∙ ap (λ (gs : List Field). x ∷ field_bytes order f ∷ map (field_bytes order) gs) (all_above f.code fs more h.1)
      ∙ ap (λ (ys : List (List ℕ)). x ∷ ys) (placed_map order bytes (p ∷ ps) (f ∷ fs) k))

-- ---- the parts as they lie in the bytes

pub ready : (bytes body : List ℕ) (ps : List FieldPlace) → Lies bytes body ps → IsReady (said bytes)
ready bytes body ps h = ready_said bytes ps h.is_message h.placed

-- the bytes before the length of the field array
abbrev start : Message → List ℕ → List ℕ
start m body = (order_byte m.order ∷ m.kind ∷ m.flags ∷ protocol_version ∷ []) ++ (number_bytes m.order w32 (length body) ++ number_bytes m.order w32 m.serial)

pub record Facts (bytes body : List ℕ) (ps : List FieldPlace) : Type 0 where
  pub short : length bytes < 2 ^ 33
  pub long : 12 ≤ length bytes
  pub inside : AreWithin (length bytes) ps
  pub within : AreWithin (2 ^ 33) ps
  pub body_is : body_bytes (said bytes) ≡ body
  pub body_short : length body < 2 ^ 32
  pub start_is : take 12 bytes ≡ start (said bytes) body
  pub fields : copied bytes fixed_length ps ≡ fields_bytes (said bytes)

start_first : (m : Message) (body rest bytes : List ℕ) → bytes ≡ (order_byte m.order ∷ m.kind ∷ m.flags ∷ protocol_version ∷ []) ++ (number_bytes m.order w32 (length body) ++ (number_bytes m.order w32 m.serial ++ rest)) → take 12 bytes ≡ start m body
start_first m body rest bytes e =
    let words : List ℕ = number_bytes m.order w32 (length body) ++ number_bytes m.order w32 m.serial in
    let size : length (start m body) ≡ 12 = omega (arith, length-append (number_bytes m.order w32 (length body)) (number_bytes m.order w32 m.serial), length-number m.order (length body), length-number m.order m.serial) in
    let whole : bytes ≡ start m body ++ rest = e ∙ ap (λ (x : List ℕ). (order_byte m.order ∷ m.kind ∷ m.flags ∷ protocol_version ∷ []) ++ x) (sym (append_assoc (number_bytes m.order w32 (length body)) (number_bytes m.order w32 m.serial) rest)) in
    ap (take 12) whole ∙ take_at (start m body) rest 12 size

pub facts : (bytes body : List ℕ) (ps : List FieldPlace) → Lies bytes body ps → Facts bytes body ps
unfolding fields_bytes
facts bytes body ps h =
    let m : Message = said bytes in
    let s = h.is_message.is_sent in
    let p = parts h.is_message.sent bytes m s in
    let same : s.body_bytes ≡ body = sym (body_is m s.body_bytes s.body_spelled) ∙ body_is m body h.spelled in
    let size : length bytes < 2 ^ 33 = omega (arith, p.long, s.array_spelled.3, s.fits) in
    let inside : AreWithin (length bytes) ps = are_within m.order bytes ps m.fields h.placed in
    record {
      short = size;
      long = omega (arith, p.long);
      inside = inside;
      within = within_more (length bytes) (2 ^ 33) ps (omega arith) inside;
      body_is = body_is m body h.spelled;
      body_short = subst (λ (x : List ℕ). length x < 2 ^ 32) same s.fits;
      start_is = start_first m s.body_bytes (s.array_bytes ++ (pads 8 (12 + length s.array_bytes) ++ s.body_bytes)) bytes s.whole ∙ ap (start m) same;
      fields = ap (lined_up fixed_length) (sym (placed_map m.order bytes ps m.fields h.placed));
    }

-- ---- the parts as they are written

pub length_is : (m : Message) (body : List ℕ) (end : ℕ) → body_bytes m ≡ body → end ≡ fixed_length + length (fields_bytes m) → length (message_bytes m) ≡ behind end (length body)
unfolding message_bytes
length_is m body end same e =
    let F : List ℕ = fields_bytes m in
    let B : List ℕ = body_bytes m in
    let P : List ℕ = pads 8 (fixed_length + length F) in
    let wb : List ℕ = number_bytes m.order w32 (length B) in
    let ws : List ℕ = number_bytes m.order w32 m.serial in
    let wf : List ℕ = number_bytes m.order w32 (length F) in
    let gap : length P ≡ pad_len 8 end = length-pads (fixed_length + length F) ∙ ap (pad_len 8) (sym e) in
    omega (arith, length-append wb (ws ++ (wf ++ (F ++ (P ++ B)))), length-append ws (wf ++ (F ++ (P ++ B))), length-append wf (F ++ (P ++ B)), length-append F (P ++ B), length-append P B, length-number m.order (length B), length-number m.order m.serial, length-number m.order (length F), ap length same, gap, e)

five : (a b c d e : List ℕ) → ((a ++ (b ++ c)) ++ d) ++ e ≡ a ++ (b ++ (c ++ (d ++ e)))
five a b c d e = simp append_assoc

four : (a b c d : List ℕ) → (a ++ (b ++ c)) ++ d ≡ a ++ (b ++ (c ++ d))
four a b c d = simp append_assoc

-- what is put one after the other is the message
pub put_together : (m : Message) (bytes body old F out : List ℕ) (end : ℕ) → take 12 bytes ≡ start m body → body_bytes m ≡ body → F ≡ fields_bytes m → end ≡ fixed_length + length (fields_bytes m)
    → out ≡ ((old ++ (take 12 bytes ++ number_bytes m.order w32 (end - 16))) ++ F) ++ (pads 8 end ++ body) → out ≡ old ++ message_bytes m
unfolding message_bytes
put_together m bytes body old F out end first same fields e put =
    let word : List ℕ = number_bytes m.order w32 (end - 16) in
    let G : List ℕ = fields_bytes m in
    let tail : List ℕ = number_bytes m.order w32 (length G) ++ (G ++ (pads 8 (fixed_length + length G) ++ body)) in
    let behind_word : word ++ (F ++ (pads 8 end ++ body)) ≡ tail =
    ap (λ (n : ℕ). number_bytes m.order w32 n ++ (F ++ (pads 8 end ++ body))) (omega (arith, e)) ∙ ap (λ (x : List ℕ). number_bytes m.order w32 (length G) ++ (x ++ (pads 8 end ++ body))) fields
    ∙ ap (λ (n : ℕ). number_bytes m.order w32 (length G) ++ (G ++ (pads 8 n ++ body))) e in
    let laid : start m body ++ tail ≡ laid_out m G body = four (order_byte m.order ∷ m.kind ∷ m.flags ∷ protocol_version ∷ []) (number_bytes m.order w32 (length body)) (number_bytes m.order w32 m.serial) tail in
    put ∙ five old (take 12 bytes) word F (pads 8 end ++ body)
    ∙ ap (λ (x : List ℕ). old ++ x) (ap (λ (x : List ℕ). take 12 bytes ++ x) behind_word ∙ ap (λ (x : List ℕ). x ++ tail) first ∙ laid ∙ ap (laid_out m G) (sym same))

-- ---- which messages are too long

or_yes : (a b : Bool) → (a ≡ true) ⊎ (b ≡ true) → (a || b) ≡ true
or_yes true b h = refl
or_yes false b (inl h) = absurd cc
or_yes false b (inr h) = h

pub is_long : (m : Message) (end : ℕ) → end ≡ fixed_length + length (fields_bytes m) → last_end < end → is_too_long m ≡ true
unfolding is_too_long
is_long m end e h = or_yes (nat_lt max_fields_length (length (fields_bytes m))) (nat_lt max_message_length (length (message_bytes m))) (inl (lt-ltb max_fields_length (length (fields_bytes m)) (omega (arith, e, h))))

pub is_longer : (m : Message) (n : ℕ) → n ≡ length (message_bytes m) → max_message_length < n → is_too_long m ≡ true
unfolding is_too_long
is_longer m n e h = or_yes (nat_lt max_fields_length (length (fields_bytes m))) (nat_lt max_message_length (length (message_bytes m))) (inr (lt-ltb max_message_length (length (message_bytes m)) (omega (arith, e, h))))

pub is_not_long : (m : Message) (end n : ℕ) → end ≡ fixed_length + length (fields_bytes m) → n ≡ length (message_bytes m) → end ≤ last_end → n ≤ max_message_length → is_too_long m ≡ false
unfolding is_too_long
is_not_long m end n e f h k = rw (le-ltb max_fields_length (length (fields_bytes m)) (omega (arith, e, h)), le-ltb max_message_length (length (message_bytes m)) (omega (arith, f, k))) refl

-- ---- with another sender

pub length-sender : (order : Order) (name : Text) → length (sender_bytes order name) ≡ sender_length name
length-sender order name = omega (arith, length-append (number_bytes order w32 (length name)) (name ++ 0 ∷ []), length-append name (0 ∷ []), length-number order (length name))

-- the fields around SENDER
pub record SentFacts (bytes : List ℕ) (name : Text) (ps : List FieldPlace) : Type 0 where
  pub before : fields_end fixed_length (before_sender ps) ≡ fixed_length + length (copied bytes fixed_length (before_sender ps))
  pub after : sent_end name ps ≡ sender_end name ps + length (copied bytes (sender_end name ps) (after_sender ps))
  pub fields : copied bytes fixed_length (before_sender ps) ++ ((pads 8 (before_end ps) ++ sender_bytes (said bytes).order name) ++ copied bytes (sender_end name ps) (after_sender ps)) ≡ fields_bytes (sent_by name (said bytes))
  pub end : sent_end name ps ≡ fixed_length + length (fields_bytes (sent_by name (said bytes)))
  pub body : body_bytes (sent_by name (said bytes)) ≡ body_bytes (said bytes)
  pub ready : IsReady (sent_by name (said bytes))

pub sent_facts : (bytes body : List ℕ) (name : Text) (ps : List FieldPlace) → IsUniqueName name → IsUtf8 name → Lies bytes body ps → SentFacts bytes name (known_places ps)
unfolding fields_bytes
sent_facts bytes body name ps unique utf8 h =
    let m : Message = said bytes in
    let order : Order = m.order in
    let r = ready bytes body ps h in
    let qs : List FieldPlace = known_places ps in
    let inside : AreWithin (length bytes) qs = within_known (length bytes) ps (are_within order bytes ps m.fields h.placed) in
    let front : AreWithin (length bytes) (before_sender qs) = within_take (length bytes) (count_below 7 qs) qs inside in
    let back : AreWithin (length bytes) (after_sender qs) = within_drop (length bytes) (count_below 8 qs) qs inside in
    let s : List ℕ = sender_bytes order name in
    let size : length s ≡ sender_length name = length-sender order name in
    let A : List ℕ = copied bytes fixed_length (before_sender qs) in
    let before : before_end qs ≡ fixed_length + length A = copied_end bytes fixed_length (before_sender qs) front in
    let next : sender_end name qs ≡ before_end qs + pad_len 8 (before_end qs) + length s = ap (λ (n : ℕ). before_end qs + pad_len 8 (before_end qs) + n) (sym size) in
    let C : List ℕ = copied bytes (sender_end name qs) (after_sender qs) in
    let after : sent_end name qs ≡ sender_end name qs + length C = copied_end bytes (sender_end name qs) (after_sender qs) back in
    let P : List ℕ = pads 8 (before_end qs) in
    let texts : fields_bytes (sent_by name m) ≡ lined_up fixed_length (map (text_at bytes) (before_sender qs) ++ s ∷ map (text_at bytes) (after_sender qs)) =
    ap (lined_up fixed_length) (sent_map order bytes name s 0 qs (known_fields m.fields) (sender_written order name unique utf8) (rises_known 0 m.fields r.rises) (placed_known order bytes 0 ps m.fields r.rises h.placed)) in
    let middle : lined_up (fixed_length + length A) (s ∷ map (text_at bytes) (after_sender qs)) ≡ P ++ (s ++ C) =
    ap (λ (n : ℕ). lined_up n (s ∷ map (text_at bytes) (after_sender qs))) (sym before) ∙ ap (λ (n : ℕ). P ++ (s ++ copied bytes n (after_sender qs))) (sym next) in
    let fields : A ++ ((P ++ s) ++ C) ≡ fields_bytes (sent_by name m) =
    ap (λ (x : List ℕ). A ++ x) (append_assoc P s C ∙ sym middle) ∙ sym (lined_append fixed_length (map (text_at bytes) (before_sender qs)) (s ∷ map (text_at bytes) (after_sender qs))) ∙ sym texts in
    record {
      before = before;
      after = after;
      fields = fields;
      end = omega (arith, ap length (sym fields), length-append A ((P ++ s) ++ C), length-append (P ++ s) C, length-append P s, length-pads (before_end qs), size, before, after);
      body = same_body name m;
      ready = ready_sent name m unique utf8 r;
    }

-- ---- how long the output is

pub started : (order : Order) (bytes old out : List ℕ) (n : ℕ) → 12 ≤ length bytes → out ≡ old ++ (take 12 bytes ++ number_bytes order w32 n) → length out ≡ length old + 16
started order bytes old out n long e =
    omega (arith, ap length e, length-append old (take 12 bytes ++ number_bytes order w32 n), length-append (take 12 bytes) (number_bytes order w32 n), length-take-le 12 bytes long, length-number order n)

-- SENDER among the fields, where all is put as it was laid out
pub sent_fields_are : (bytes seen_bytes name seen : List ℕ) (ps before after : List FieldPlace) (sender next : ℕ) (order : Order) → seen_bytes ≡ bytes → seen ≡ name → before ≡ before_sender ps → after ≡ after_sender ps → sender ≡ before_end ps → next ≡ sender_end seen ps
    → order ≡ (said bytes).order → SentFacts bytes name ps → copied seen_bytes 16 before ++ ((pads 8 sender ++ sender_bytes order seen) ++ copied seen_bytes next after) ≡ fields_bytes (sent_by name (said bytes))
sent_fields_are bytes seen_bytes name seen ps before after sender next order e1 e2 e3 e4 e5 e6 e7 s =
    rw (e6, e5, e4, e3, e2, e1, e7) s.fields
