-- The one argument of a body, by the arguments that are lent out of it.
use Rattle.std.proofs.Common.{◌≡◌, Bool, true, false, List, [], ◌∷◌, Some, None, refl, sym, ap, ◌∙◌}
use Rattle.names.specs.Texts.{Text}
use Rattle.marshal_core.specs.Values.{a_byte, a_boolean, an_int16, a_uint16, an_int32, a_uint32, an_int64, a_uint64, a_double, a_string, an_object_path, a_signature, Val, a_basic, a_variant, an_array, an_entry, a_struct, Vals, no_values, more_values}
use Rattle.marshal_check.specs.Arguments.{BodyArgument, string_argument, path_argument, other_argument, argument_of, arguments}
use Rattle.driver.specs.Arguments.{text_of, only_text}

text_seen : (v : Val) (text : Text) → string_argument text ≡ argument_of v → Some text ≡ text_of v
text_seen (a_basic (a_string found)) text e = cc
text_seen (a_basic (a_byte n)) text e = cc
text_seen (a_basic (a_boolean b)) text e = cc
text_seen (a_basic (an_int16 z)) text e = cc
text_seen (a_basic (a_uint16 n)) text e = cc
text_seen (a_basic (an_int32 z)) text e = cc
text_seen (a_basic (a_uint32 n)) text e = cc
text_seen (a_basic (an_int64 z)) text e = cc
text_seen (a_basic (a_uint64 n)) text e = cc
text_seen (a_basic (a_double eight)) text e = cc
text_seen (a_basic (an_object_path path)) text e = cc
text_seen (a_basic (a_signature ts)) text e = cc
text_seen (a_variant w) text e = cc
text_seen (an_array t vs) text e = cc
text_seen (an_entry k w) text e = cc
text_seen (a_struct vs) text e = cc

abbrev is_text : BodyArgument → Bool
is_text (string_argument text) = true
is_text (path_argument text) = false
is_text other_argument = false

no_text_seen : (v : Val) (first : BodyArgument) → is_text first ≡ false → first ≡ argument_of v → None ≡ text_of v
no_text_seen (a_basic (a_string found)) first other e = let f : true ≡ false = ap is_text (sym e) ∙ other in cc
no_text_seen (a_basic (a_byte n)) first other e = refl
no_text_seen (a_basic (a_boolean b)) first other e = refl
no_text_seen (a_basic (an_int16 z)) first other e = refl
no_text_seen (a_basic (a_uint16 n)) first other e = refl
no_text_seen (a_basic (an_int32 z)) first other e = refl
no_text_seen (a_basic (a_uint32 n)) first other e = refl
no_text_seen (a_basic (an_int64 z)) first other e = refl
no_text_seen (a_basic (a_uint64 n)) first other e = refl
no_text_seen (a_basic (a_double eight)) first other e = refl
no_text_seen (a_basic (an_object_path path)) first other e = refl
no_text_seen (a_basic (a_signature ts)) first other e = refl
no_text_seen (a_variant w) first other e = refl
no_text_seen (an_array t vs) first other e = refl
no_text_seen (an_entry k w) first other e = refl
no_text_seen (a_struct vs) first other e = refl

pub no_argument : (vs : Vals) → [] ≡ arguments vs → None ≡ only_text vs
no_argument no_values e = refl
no_argument (more_values v vs) e = cc

pub one_text : (vs : Vals) (text : Text) → string_argument text ∷ [] ≡ arguments vs → Some text ≡ only_text vs
one_text no_values text e = cc
one_text (more_values v no_values) text e = let first : string_argument text ≡ argument_of v = cc in text_seen v text first
one_text (more_values v (more_values w vs)) text e = cc

pub more_arguments : (vs : Vals) (first second : BodyArgument) (others : List BodyArgument) → first ∷ second ∷ others ≡ arguments vs → None ≡ only_text vs
more_arguments no_values first second others e = cc
more_arguments (more_values v no_values) first second others e = cc
more_arguments (more_values v (more_values w vs)) first second others e = refl

no_text_first : (vs : Vals) (first : BodyArgument) (others : List BodyArgument) → is_text first ≡ false → first ∷ others ≡ arguments vs → None ≡ only_text vs
no_text_first no_values first others other e = cc
no_text_first (more_values v no_values) first others other e = let same : first ≡ argument_of v = cc in no_text_seen v first other same
no_text_first (more_values v (more_values w vs)) first others other e = refl

pub path_first : (vs : Vals) (path : Text) (others : List BodyArgument) → path_argument path ∷ others ≡ arguments vs → None ≡ only_text vs
path_first vs path others e = no_text_first vs (path_argument path) others refl e

pub other_first : (vs : Vals) (others : List BodyArgument) → other_argument ∷ others ≡ arguments vs → None ≡ only_text vs
other_first vs others e = no_text_first vs other_argument others refl e
