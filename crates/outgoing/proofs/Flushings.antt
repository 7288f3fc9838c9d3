-- What several writes come to.
use Rattle.std.proofs.Common.{◌≡◌, ℕ, ◌<◌, List, [], ◌∷◌, ◌++◌, length, take, drop, Option, Result, Ok, Err, sym, refl, ap, ◌∙◌, subst, append_assoc, arith}
use Rattle.std.proofs.KnownBytes.{Appends-nil, Appends-trans, Appends-kept}
use Rattle.std.proofs.lemmas.List.{length-append, take-append-le, take-append-drop}
use Rattle.std.specs.Io.{WritesAtMost}
use Rattle.std.specs.Io.KnownBytes.{Appends, Keeps, WriteAppends}
use Rattle.outgoing.specs.Flushing.{Flushes, flushed_of}
use Rattle.outgoing.specs.declared.flushed.Flushed.TheVariants.{All, Waits}

pub begun : (waits : List ℕ) (taken : Option (List ℕ)) → Flushes waits waits taken taken
begun waits taken = record { reached = []; splits = refl; takes = Appends-nil taken }

pub kept : (old new : List ℕ) (before between after : Option (List ℕ)) → Flushes old new before between → Keeps between after → Flushes old new before after
kept old new before between after f h = record { reached = f.reached; splits = f.splits; takes = Appends-kept before between after f.reached f.takes h }

pub more : (old waits new : List ℕ) (before between after : Option (List ℕ)) (count : ℕ)
    → Flushes old waits before between → Appends between after (take count waits) → new ≡ drop count waits → Flushes old new before after
more old waits new before between after count f h is = record {
  reached = f.reached ++ take count waits;
  splits =
      f.splits ∙ ap (λ (t : List ℕ). f.reached ++ t) (sym (take-append-drop count waits) ∙ ap (λ (t : List ℕ). take count waits ++ t) (sym is))
      ∙ sym (append_assoc f.reached (take count waits) new);
  takes = Appends-trans before between after f.reached (take count waits) f.takes h;
}

pub all-flushed : (waits : List ℕ) → length waits ≡ 0 → All ≡ flushed_of waits
all-flushed [] none = refl
all-flushed (byte ∷ bytes) none = absurd (omega (arith, none))

pub rest-waits : (waits : List ℕ) → 0 < length waits → Waits ≡ flushed_of waits
rest-waits [] some = absurd (omega (arith, some))
rest-waits (byte ∷ bytes) some = refl

-- what is written of a front is written of all
pub writes-front : {E : Type 0} (result : Result ℕ E) (old new : Option (List ℕ)) (front rest all : List ℕ)
    → all ≡ front ++ rest → WritesAtMost result front → WriteAppends old new result front → WriteAppends old new result all
writes-front (Ok count) old new front rest all is bound h =
    subst (λ (t : List ℕ). Appends old new t) (sym (ap (λ (t : List ℕ). take count t) is ∙ take-append-le count front rest bound)) h
writes-front (Err e) old new front rest all is bound h = h

pub bound-front : {E : Type 0} (result : Result ℕ E) (front rest all : List ℕ) → all ≡ front ++ rest → WritesAtMost result front → WritesAtMost result all
bound-front (Ok count) front rest all is bound = omega (arith, bound, ap length is, length-append front rest)
bound-front (Err e) front rest all is bound = tt
