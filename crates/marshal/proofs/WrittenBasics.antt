-- A basic value has no fault exactly where it is one that its type has.
use Rattle.std.proofs.Common.{◌≡◌, ℕ, ℤ, pos, negsuc, ◌<◌, ◌^◌, Bool, true, false, cond, Option, Some, None, List, length, refl}
use Rattle.std.specs.Prelude.{FitsSigned}
use Rattle.std.specs.Int.{w16, w32, w64}
use Rattle.std.proofs.lemmas.Bool.{ltb-true, lt-ltb}
use Rattle.std.proofs.lemmas.Str.{IsUtf8-from_is_utf8}
use Rattle.names.specs.declared.fault.NameFault.{NameFault}
use Rattle.names.specs.ObjectPath.{object_path_fault}
use Rattle.names.proofs.Faults.{none_object_path, object_path_none}
use Rattle.marshal_core.specs.declared.fault.MarshalFault.{MarshalFault}
use Rattle.marshal_core.specs.Values.{BasicVal, a_byte, a_boolean, an_int16, a_uint16, an_int32, a_uint32, an_int64, a_uint64, a_double, a_string, an_object_path, a_signature}
use Rattle.marshal_core.specs.Spelling.{IsString, IsBasicValue}
use Rattle.marshal_core.proofs.Results.{eqb-yes, leb-no}
use Rattle.marshal_core.proofs.StringFaults.{string_none}
use Rattle.marshal.specs.Writing.{number_fault, signed_fault, string_fault, path_named, path_fault_after, basic_fault}

passed : (b : Bool) (e : MarshalFault) → cond b None (Some e) ≡ None → b ≡ true
passed true e h = refl
passed false e h = absurd cc

skipped : (b : Bool) (e : MarshalFault) (x : Option MarshalFault) → cond b (Some e) x ≡ None → (b ≡ false) × (x ≡ None)
skipped true e x h = absurd cc
skipped false e x h = (refl, h)

below : (limit n : ℕ) → number_fault limit n ≡ None → n < limit
below limit n h = ltb-true n limit (passed _ _ h)

pub is_below : (limit n : ℕ) → n < limit → number_fault limit n ≡ None
is_below limit n h = rw (lt-ltb n limit h) refl

fits_16 : (z : ℤ) → signed_fault (2 ^ 15) z ≡ None → FitsSigned w16 z
fits_16 (pos n) h = record { sfits = below (2 ^ 15) n h }
fits_16 (negsuc n) h = record { sfits = below (2 ^ 15) n h }

fits_32 : (z : ℤ) → signed_fault (2 ^ 31) z ≡ None → FitsSigned w32 z
fits_32 (pos n) h = record { sfits = below (2 ^ 31) n h }
fits_32 (negsuc n) h = record { sfits = below (2 ^ 31) n h }

fits_64 : (z : ℤ) → signed_fault (2 ^ 63) z ≡ None → FitsSigned w64 z
fits_64 (pos n) h = record { sfits = below (2 ^ 63) n h }
fits_64 (negsuc n) h = record { sfits = below (2 ^ 63) n h }

pub fitting_16 : (z : ℤ) → FitsSigned w16 z → signed_fault (2 ^ 15) z ≡ None
fitting_16 (pos n) h = is_below (2 ^ 15) n h.sfits
fitting_16 (negsuc n) h = is_below (2 ^ 15) n h.sfits

pub fitting_32 : (z : ℤ) → FitsSigned w32 z → signed_fault (2 ^ 31) z ≡ None
fitting_32 (pos n) h = is_below (2 ^ 31) n h.sfits
fitting_32 (negsuc n) h = is_below (2 ^ 31) n h.sfits

pub fitting_64 : (z : ℤ) → FitsSigned w64 z → signed_fault (2 ^ 63) z ≡ None
fitting_64 (pos n) h = is_below (2 ^ 63) n h.sfits
fitting_64 (negsuc n) h = is_below (2 ^ 63) n h.sfits

string_is : (text : List ℕ) → string_fault text ≡ None → IsString text
string_is text h =
    let a = skipped _ _ _ h in
    let b = skipped _ _ _ a.1 in
    (leb-no _ _ a.0, IsUtf8-from_is_utf8 text (passed _ _ b.1), b.0)

named_none : (f : Option NameFault) → path_named f ≡ None → f ≡ None
named_none None h = refl
named_none (Some fault) h = absurd cc

path_is : (f : Option MarshalFault) (text : List ℕ) → path_fault_after f text ≡ None → (f ≡ None) × (object_path_fault text ≡ None)
path_is None text h = (refl, named_none (object_path_fault text) h)
path_is (Some fault) text h = absurd cc

pub basic_is : (v : BasicVal) → basic_fault v ≡ None → IsBasicValue v
basic_is (a_byte n) h = below (2 ^ 8) n h
basic_is (a_boolean b) h = tt
basic_is (an_int16 z) h = fits_16 z h
basic_is (a_uint16 n) h = below (2 ^ 16) n h
basic_is (an_int32 z) h = fits_32 z h
basic_is (a_uint32 n) h = below (2 ^ 32) n h
basic_is (an_int64 z) h = fits_64 z h
basic_is (a_uint64 n) h = below (2 ^ 64) n h
basic_is (a_double eight) h = eqb-yes (length eight) 8 (passed _ _ h)
basic_is (a_string text) h = string_is text h
basic_is (an_object_path text) h = let a = path_is (string_fault text) text h in (string_is text a.0, none_object_path text a.1)
basic_is (a_signature ts) h = passed _ _ h

pub basic_none : (v : BasicVal) → IsBasicValue v → basic_fault v ≡ None
basic_none (a_byte n) h = is_below (2 ^ 8) n h
basic_none (a_boolean b) h = refl
basic_none (an_int16 z) h = fitting_16 z h
basic_none (a_uint16 n) h = is_below (2 ^ 16) n h
basic_none (an_int32 z) h = fitting_32 z h
basic_none (a_uint32 n) h = is_below (2 ^ 32) n h
basic_none (an_int64 z) h = fitting_64 z h
basic_none (a_uint64 n) h = is_below (2 ^ 64) n h
basic_none (a_double eight) h = rw h refl
basic_none (a_string text) h = string_none text h
basic_none (an_object_path text) h = rw (string_none text h.0, object_path_none text h.1) refl
basic_none (a_signature ts) h = rw h refl
