-- What a message announces that is long enough.
use Rattle.std.proofs.Common.{◌≡◌, ℕ, zero, suc, ◌+◌, ◌-◌, ◌≤◌, ◌<◌, Bool, true, false, cond, List, take, drop, get_or, Result, Ok, Err, refl, sym, ap, subst, ◌∙◌, arith, inl, inr}
use Rattle.std.specs.Prelude.{◌⊎◌, ◌==◌, nat_lt, if◌then◌else◌}
use Rattle.std.specs.Int.{w32}
use Rattle.std.proofs.lemmas.Bool.{ltb-false, le-ltb}
use Rattle.std.proofs.lemmas.Bool.Decides.{nat_tests}
use Rattle.marshal_core.specs.declared.order.Order.{Order}
use Rattle.marshal_core.specs.declared.order.Order.TheVariants.{Little, Big}
use Rattle.marshal_core.specs.Reading.{number as number_of}
use Rattle.marshal_core.proofs.Results.{chosen, eqb-yes}
use Rattle.message_core.specs.declared.fault.FrameFault.{FrameFault}
use Rattle.message_core.specs.declared.fault.FrameFault.TheVariants as fault
use Rattle.message_core.specs.Announcements.{announced, announced_in, order_byte, protocol_version, serial_place, fields_place, max_fields_length, number, whole_length}
use Rattle.message_core.specs.Said.{order_of}

four_bytes : (place : ℕ) → place + 4 - place ≡ 4
four_bytes place = omega arith

-- the number in the four bytes at a place, in the words of the wire format
pub number_is : (order : Order) (place : ℕ) (bytes : List ℕ) → number_of order w32 (take (place + 4 - place) (drop place bytes)) ≡ number order place bytes
number_is Little place bytes = ap (λ (n : ℕ). number_of Little w32 (take n (drop place bytes))) (four_bytes place)
number_is Big place bytes = ap (λ (n : ℕ). number_of Big w32 (take n (drop place bytes))) (four_bytes place)

pub record IsAnnounced (limit : ℕ) (order : Order) (bytes : List ℕ) (n : ℕ) : Type 0 where
  pub first : get_or bytes 0 0 ≡ order_byte order
  pub kind : 0 < get_or bytes 1 0
  pub version : get_or bytes 3 0 ≡ protocol_version
  pub serial : 0 < number order serial_place bytes
  pub fields : number order fields_place bytes ≤ max_fields_length
  pub length : n ≡ whole_length order bytes
  pub within : n ≤ limit

abbrev good : ℕ → Result ℕ FrameFault
good n = Ok n

abbrev bad : FrameFault → Result ℕ FrameFault
bad f = Err f

not_good : {A : Type 0} (f : FrameFault) (n : ℕ) → bad f ≡ good n → A
not_good f n e = absurd cc

good_is : (m n : ℕ) → good m ≡ good n → m ≡ n
good_is m n e = cc

pub not_zero : (n : ℕ) → (n == 0) ≡ false → 0 < n
not_zero n e = at n refl e where
  at : (m : ℕ) → n ≡ m → (n == 0) ≡ false → 0 < n
  at zero f g = absurd (let h : true ≡ false = ap (λ (k : ℕ). k == 0) (sym f) ∙ g in cc)
  at (suc m) f g = omega (arith, f)

not_zero_is : (n : ℕ) → 0 < n → (n == 0) ≡ false
not_zero_is n h = grind (arith, nat_tests)

unless : (b : Bool) (f : FrameFault) (x : Result ℕ FrameFault) (n : ℕ) → cond b (bad f) x ≡ good n → (b ≡ false) × (x ≡ good n)
unless true f x n e = not_good f n e
unless false f x n e = (refl, e)

provided : (b : Bool) (f : FrameFault) (x : Result ℕ FrameFault) (n : ℕ) → cond b x (bad f) ≡ good n → (b ≡ true) × (x ≡ good n)
provided true f x n e = (refl, e)
provided false f x n e = not_good f n e

in_order : (limit : ℕ) (order : Order) (bytes : List ℕ) (n : ℕ) → get_or bytes 0 0 ≡ order_byte order → announced_in limit order bytes ≡ good n → IsAnnounced limit order bytes n
in_order limit order bytes n first e =
    let kind : ℕ = get_or bytes 1 0 in
    let serial : ℕ = number order serial_place bytes in
    let fields : ℕ = number order fields_place bytes in
    let whole : ℕ = whole_length order bytes in
    let sized : Result ℕ FrameFault = if nat_lt limit whole then bad fault.TooLong else good whole in
    let serials : Result ℕ FrameFault = if serial == 0 then bad fault.Serial else if nat_lt max_fields_length fields then bad fault.TooLong else sized in
    let a = unless (kind == 0) fault.Kind (if get_or bytes 3 0 == protocol_version then serials else bad fault.Version) n e in
    let b = provided (get_or bytes 3 0 == protocol_version) fault.Version serials n a.1 in
    let c = unless (serial == 0) fault.Serial (if nat_lt max_fields_length fields then bad fault.TooLong else sized) n b.1 in
    let d = unless (nat_lt max_fields_length fields) fault.TooLong sized n c.1 in
    let f = unless (nat_lt limit whole) fault.TooLong (good whole) n d.1 in
    let same : whole ≡ n = good_is whole n f.1 in
    record {
      first = first;
      kind = not_zero kind a.0;
      version = eqb-yes (get_or bytes 3 0) protocol_version b.0;
      serial = not_zero serial c.0;
      fields = ltb-false max_fields_length fields d.0;
      length = sym same;
      within = omega (arith, same, ltb-false limit whole f.0);
    }

pub announced_facts : (limit : ℕ) (bytes : List ℕ) (n : ℕ) → announced limit bytes ≡ Ok n → IsAnnounced limit (order_of bytes) bytes n
unfolding announced
announced_facts limit bytes n e = at (chosen (get_or bytes 0 0 == order_byte Little) (announced_in limit Little bytes) (if get_or bytes 0 0 == order_byte Big then announced_in limit Big bytes else bad fault.Order) (good n) e) where
  at_big : ((get_or bytes 0 0 == order_byte Big) ≡ true) × (announced_in limit Big bytes ≡ good n) ⊎ ((get_or bytes 0 0 == order_byte Big) ≡ false) × (bad fault.Order ≡ good n) → IsAnnounced limit (order_of bytes) bytes n
  at_big (inl h) =
      let first : get_or bytes 0 0 ≡ order_byte Big = eqb-yes (get_or bytes 0 0) (order_byte Big) h.0 in
      let order : order_of bytes ≡ Big = ap (λ (b : ℕ). if b == order_byte Big then Big else Little) first in
      subst (λ (o : Order). IsAnnounced limit o bytes n) (sym order) (in_order limit Big bytes n first h.1)
  at_big (inr h) = not_good fault.Order n h.1

  at : ((get_or bytes 0 0 == order_byte Little) ≡ true) × (announced_in limit Little bytes ≡ good n) ⊎ ((get_or bytes 0 0 == order_byte Little) ≡ false) × ((if get_or bytes 0 0 == order_byte Big then announced_in limit Big bytes else bad fault.Order) ≡ good n) → IsAnnounced limit (order_of bytes) bytes n
  at (inl h) =
      let first : get_or bytes 0 0 ≡ order_byte Little = eqb-yes (get_or bytes 0 0) (order_byte Little) h.0 in
      let order : order_of bytes ≡ Little = ap (λ (b : ℕ). if b == order_byte Big then Big else Little) first in
      subst (λ (o : Order). IsAnnounced limit o bytes n) (sym order) (in_order limit Little bytes n first h.1)
  at (inr h) = at_big (chosen (get_or bytes 0 0 == order_byte Big) (announced_in limit Big bytes) (bad fault.Order) (good n) h.1)

-- a message that a larger limit allows is announced in the same way
again_in : (limit : ℕ) (order : Order) (bytes : List ℕ) (n : ℕ) → n ≤ limit → (old : ℕ) → IsAnnounced old order bytes n → announced_in limit order bytes ≡ good n
again_in limit order bytes n le old a =
    rw (not_zero_is (get_or bytes 1 0) a.kind, a.version, not_zero_is (number order serial_place bytes) a.serial, le-ltb max_fields_length (number order fields_place bytes) a.fields, le-ltb limit (whole_length order bytes) (omega (arith, a.length)))
    (ap (λ (k : ℕ). good k) (sym a.length))

-- what is announced follows from these facts
pub announced_from : (limit : ℕ) (bytes : List ℕ) (n : ℕ) → IsAnnounced limit (order_of bytes) bytes n → announced limit bytes ≡ Ok n
unfolding announced
announced_from limit bytes n e = at (order_of bytes) e where
  at : (order : Order) → IsAnnounced limit order bytes n → announced limit bytes ≡ Ok n
  at Little a = rw a.first (again_in limit Little bytes n (omega (arith, a.within)) limit a)
  at Big a = rw a.first (again_in limit Big bytes n (omega (arith, a.within)) limit a)

-- ---- only the length is at fault where all else is as it must be

pub record Starts (order : Order) (bytes : List ℕ) : Type 0 where
  pub first : get_or bytes 0 0 ≡ order_byte order
  pub kind : 0 < get_or bytes 1 0
  pub version : get_or bytes 3 0 ≡ protocol_version
  pub serial : 0 < number order serial_place bytes

abbrev fit : ℕ → Order → List ℕ → Result ℕ FrameFault
fit limit order bytes =
    if nat_lt max_fields_length (number order fields_place bytes) then bad fault.TooLong
    else if nat_lt limit (whole_length order bytes) then bad fault.TooLong
    else good (whole_length order bytes)

starts_in : (limit : ℕ) (order : Order) (bytes : List ℕ) → Starts order bytes → announced_in limit order bytes ≡ fit limit order bytes
starts_in limit order bytes s = rw (not_zero_is (get_or bytes 1 0) s.kind, s.version, not_zero_is (number order serial_place bytes) s.serial) refl

bad_is : (f g : FrameFault) → bad f ≡ bad g → g ≡ f
bad_is f g e = cc

good_bad : {A : Type 0} (n : ℕ) (f : FrameFault) → good n ≡ bad f → A
good_bad n f e = absurd cc

only_fit : (b c : Bool) (n : ℕ) (f : FrameFault) → cond b (bad fault.TooLong) (cond c (bad fault.TooLong) (good n)) ≡ bad f → f ≡ fault.TooLong
only_fit true c n f e = bad_is fault.TooLong f e
only_fit false true n f e = bad_is fault.TooLong f e
only_fit false false n f e = good_bad n f e

pub only_too_long : (limit : ℕ) (bytes : List ℕ) (f : FrameFault) → Starts (order_of bytes) bytes → announced limit bytes ≡ Err f → f ≡ fault.TooLong
unfolding announced
only_too_long limit bytes f s e = at (order_of bytes) s where
  told : (order : Order) → announced_in limit order bytes ≡ bad f → Starts order bytes → f ≡ fault.TooLong
  told order h t = only_fit (nat_lt max_fields_length (number order fields_place bytes)) (nat_lt limit (whole_length order bytes)) (whole_length order bytes) f (sym (starts_in limit order bytes t) ∙ h)

  at : (order : Order) → Starts order bytes → f ≡ fault.TooLong
  at Little t = told Little (sym (rw t.first refl) ∙ e) t
  at Big t = told Big (sym (rw t.first refl) ∙ e) t
