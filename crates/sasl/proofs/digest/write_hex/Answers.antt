use Rattle.std.proofs.Common.{Result, Ok, Err}
use Rattle.std.specs.Prelude.{IsOk, OnOk}
use Rattle.std.proofs.lemmas.Bool.{false≢true}
use Rattle.sasl.proofs.digest.write_hex.Goals as goal

on_ok : {T E P : Type 0} (r : Result T E) → IsOk r → OnOk r P → P
on_ok (Ok x) ok h = h
on_ok (Err e) ok h = absurd (false≢true ok)

pub returns : goal.returns
returns c = on_ok c.encode_to_slice.result (c.encode_to_slice.ensures.fits.1 c.requires) c.encode_to_slice.ensures.written
