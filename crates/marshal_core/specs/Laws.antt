-- What reading a signature means.
use Rattle.std.specs.Prelude.{◌≡◌, ◌↔◌, List, ℕ, Ok}
use Rattle.marshal_core.specs.Types.{Tys}
use Rattle.marshal_core.specs.Signatures.{codes, IsSignature, signature_of}

-- The texts that are read are the codes of valid signatures, each as the types whose codes it is.
abbrev pub SignaturesAreExact : Type 0
SignaturesAreExact = (text : List ℕ) (ts : Tys) → (signature_of text ≡ Ok ts) ↔ (IsSignature ts × (text ≡ codes ts))
