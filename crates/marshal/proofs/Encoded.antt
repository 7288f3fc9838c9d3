-- What encode answers.
use Rattle.std.proofs.Common.{◌≡◌, ℕ, List, ◌++◌, Result, Ok, Err}
use Rattle.std.specs.Prelude.{◌≢◌}
use Rattle.marshal_core.specs.declared.fault.MarshalFault.{MarshalFault}
use Rattle.marshal_core.specs.declared.fault.MarshalFault.TheVariants.{NoMemory}
use Rattle.marshal_core.specs.declared.order.Order.{Order}
use Rattle.marshal_core.specs.Types.{Tys}
use Rattle.marshal_core.specs.Values.{Vals}
use Rattle.marshal_core.specs.Faults.{Fails}
use Rattle.marshal_core.specs.Spelling.{Spells}
use Rattle.marshal.specs.Writing.{types_of_values, encode_at}
use Rattle.marshal.proofs.WrittenLaws.{is_spelling}
use Rattle.marshal.proofs.WrittenAgain.{is_written}

not_both : (e : MarshalFault) (bytes : List ℕ) (r : Result (List ℕ) MarshalFault) → r ≡ Err e → r ≡ Ok bytes → ⊥
not_both e bytes r h k = absurd cc

pub refused : (e : MarshalFault) (order : Order) (offset : ℕ) (vs : Vals) → Fails e (encode_at order offset vs) → e ≢ NoMemory → (ts : Tys) (bytes : List ℕ) → Spells order offset ts vs bytes → ⊥
refused e order offset vs h known ts bytes s = not_both e bytes (encode_at order offset vs) (h known) (is_written order offset ts vs bytes s)

pub appended : (order : Order) (offset : ℕ) (vs : Vals) (old new bytes : List ℕ) → encode_at order offset vs ≡ Ok bytes → new ≡ old ++ bytes → (b : List ℕ) × (new ≡ old ++ b) × Spells order offset (types_of_values vs) vs b
appended order offset vs old new bytes e put = (bytes, put, is_spelling order offset vs bytes e)
