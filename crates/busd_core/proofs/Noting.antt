-- What was read, one after the other.
use Rattle.std.proofs.Common.{◌≡◌, ℕ, Option, Some, None, List, [], ◌++◌, sym, ap, ◌∙◌, append_assoc, append-nil}
use Rattle.std.specs.Io.KnownBytes.{Appends}
use Rattle.std.proofs.KnownBytes.{Consumes-nil}
use Rattle.busd_core.specs.Readings.{Reading, reading_of, Notes, IsRead}

pub notes_nothing : (w : Option (List ℕ)) (n : Option (List Reading)) → Notes w n n (λ held. [])
notes_nothing None n = tt
notes_nothing (Some held) None = tt
notes_nothing (Some held) (Some xs) = sym (append-nil xs)

pub reads_nothing : (w r : Option (List ℕ)) (n : Option (List Reading)) → IsRead w r r n n []
reads_nothing w r n = (Consumes-nil r, notes_nothing w n)

pub notes_so : (w : Option (List ℕ)) (n m : Option (List Reading)) (f g : List ℕ → List Reading) → ((held : List ℕ) → f held ≡ g held) → Notes w n m f → Notes w n m g
notes_so None n m f g same notes = tt
notes_so (Some held) None m f g same notes = tt
notes_so (Some held) (Some xs) None f g same notes = absurd notes
notes_so (Some held) (Some xs) (Some ys) f g same notes = notes ∙ ap (λ (l : List Reading). xs ++ l) (same held)

pub notes_then : (w v : Option (List ℕ)) (n m l : Option (List Reading)) (f : List ℕ → List Reading) (written piece : List ℕ) → Appends w v written → Notes w n m f → Notes v m l (λ held. reading_of held piece) →
    Notes w n l (λ held. f held ++ reading_of (held ++ written) piece)
notes_then None v n m l f written piece appended notes more = tt
notes_then (Some h) v None m l f written piece appended notes more = tt
notes_then (Some h) v (Some xs) None l f written piece appended notes more = absurd notes
notes_then (Some h) None (Some xs) (Some ys) l f written piece appended notes more = absurd appended
notes_then (Some h) (Some k) (Some xs) (Some ys) None f written piece appended notes more = absurd more
notes_then (Some h) (Some k) (Some xs) (Some ys) (Some zs) f written piece appended notes more =
    more ∙ ap (λ (l : List Reading). l ++ reading_of k piece) notes
    ∙ append_assoc xs (f h) (reading_of k piece)
    ∙ ap (λ (bytes : List ℕ). xs ++ (f h ++ reading_of bytes piece)) appended
