use Rattle.std.proofs.Common.{◌≡◌, ℕ, List, take, refl, ap, ◌∙◌, arith}
use Rattle.std.specs.Int.{w32}
use Rattle.marshal_core.specs.Reading.{number as number_in}
use Rattle.marshal_check.proofs.CheckedSteps.{behind_gap, its_number, text_at}
use Rattle.marshal_check.proofs.checked_text.text_in.Goals as goal

pub split_at-requires : goal.split_at-requires
split_at-requires g c = (text_at g.O.Endian.order c.args.at (its_number g.O.Endian.order c.args.at c.args.bytes.now) c.args.bytes.now c.requires.there refl).gap

pub split_at-requires-2 : goal.split_at-requires-2
split_at-requires-2 g c = rw c.split_at.ensures.back (text_at g.O.Endian.order c.args.at (its_number g.O.Endian.order c.args.at c.args.bytes.now) c.args.bytes.now c.requires.there refl).four

-- the number that was read is that of the text
is_its : (n at : ℕ) (bytes rest four : List ℕ) (read : List ℕ → ℕ) → rest ≡ behind_gap at bytes → four ≡ take 4 rest → n ≡ read four → n ≡ read (take 4 (behind_gap at bytes))
is_its n at bytes rest four read r f e = e ∙ ap read (f ∙ ap (take 4) r)

pub split_at-requires-3 : goal.split_at-requires-3
split_at-requires-3 g c =
    let n : c.read_u32-length.result ≡ its_number g.O.Endian.order c.args.at c.args.bytes.now =
    is_its c.read_u32-length.result c.args.at c.args.bytes.now c.split_at.result.1.now c.split_at-2.result.0.now (number_in g.O.Endian.order w32) c.split_at.ensures.back c.split_at-2.ensures.front (c.read_u32-length.ensures ∙ g.met.O.Endian.reads w32 c.split_at-2.result.0.now) in
    let t = text_at g.O.Endian.order c.args.at c.read_u32-length.result c.args.bytes.now c.requires.there n in
    rw (c.split_at-2.ensures.back, c.split_at.ensures.back) (omega (arith, t.within))

pub split_at-requires-4 : goal.split_at-requires-4
split_at-requires-4 g c =
    let n : c.read_u32-length.result ≡ its_number g.O.Endian.order c.args.at c.args.bytes.now =
    is_its c.read_u32-length.result c.args.at c.args.bytes.now c.split_at.result.1.now c.split_at-2.result.0.now (number_in g.O.Endian.order w32) c.split_at.ensures.back c.split_at-2.ensures.front (c.read_u32-length.ensures ∙ g.met.O.Endian.reads w32 c.split_at-2.result.0.now) in
    let t = text_at g.O.Endian.order c.args.at c.read_u32-length.result c.args.bytes.now c.requires.there n in
    rw (c.split_at-2.ensures.back, c.split_at.ensures.back) (omega (arith, t.within))

pub from_utf8_unchecked-text-requires : goal.from_utf8_unchecked-text-requires
from_utf8_unchecked-text-requires g c =
    let n : c.read_u32-length.result ≡ its_number g.O.Endian.order c.args.at c.args.bytes.now =
    is_its c.read_u32-length.result c.args.at c.args.bytes.now c.split_at.result.1.now c.split_at-2.result.0.now (number_in g.O.Endian.order w32) c.split_at.ensures.back c.split_at-2.ensures.front (c.read_u32-length.ensures ∙ g.met.O.Endian.reads w32 c.split_at-2.result.0.now) in
    let t = text_at g.O.Endian.order c.args.at c.read_u32-length.result c.args.bytes.now c.requires.there n in
    rw (c.split_at-3.ensures.front, c.split_at-2.ensures.back, c.split_at.ensures.back) t.utf8

pub returns-clause-reads : goal.returns-clause-reads
returns-clause-reads g c =
    let n : c.read_u32-length.result ≡ its_number g.O.Endian.order c.args.at c.args.bytes.now =
    is_its c.read_u32-length.result c.args.at c.args.bytes.now c.split_at.result.1.now c.split_at-2.result.0.now (number_in g.O.Endian.order w32) c.split_at.ensures.back c.split_at-2.ensures.front (c.read_u32-length.ensures ∙ g.met.O.Endian.reads w32 c.split_at-2.result.0.now) in
    let t = text_at g.O.Endian.order c.args.at c.read_u32-length.result c.args.bytes.now c.requires.there n in
    rw (c.from_utf8_unchecked-text.ensures, c.split_at-3.ensures.front, c.split_at-4.ensures.back, c.split_at-2.ensures.back, c.split_at.ensures.back) t.reads
