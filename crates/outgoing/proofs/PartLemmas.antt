-- The bytes of parts, one behind the other.
use Rattle.std.proofs.Common.{◌≡◌, ℕ, zero, suc, ◌+◌, ◌<◌, ◌≤◌, List, [], ◌∷◌, ◌++◌, length, drop, get_or, Result, Ok, Err, OnOk, is_ok, if◌then◌else◌, sym, refl, ap, ◌∙◌, subst, ⊎_elim, append_assoc, append-nil, arith}
use Rattle.std.proofs.lemmas.Bool.{cases_lt}
use Rattle.std.proofs.lemmas.List.{length-append, drop-append-le}
use Rattle.outgoing.specs.declared.parts.Part.{Part}
use Rattle.outgoing.specs.Parts.{part_bytes, bytes_of, part_at, AreFilled, IsWithin}

module _ {C : Type 0} (bytes : C → List ℕ) where
  -- a part that is found at its place
  pub found : (parts : List (Part C)) (last : List ℕ) (place : ℕ) (part : Part C) → place < length parts → part ≡ get_or parts place part → part_bytes bytes part ≡ part_at bytes parts last place
  found [] last place part less is = absurd (omega arith)
  found (p ∷ parts) last zero part less is = ap (part_bytes bytes) is
  found (p ∷ parts) last (suc place) part less is = found parts last place part (omega arith) is

  pub found_last : (parts : List (Part C)) (last : List ℕ) → last ≡ part_at bytes parts last (length parts)
  found_last [] last = refl
  found_last (p ∷ parts) last = found_last parts last

  pub found_none : (parts : List (Part C)) (last : List ℕ) (place : ℕ) → length parts < place → [] ≡ part_at bytes parts last place
  found_none parts last zero less = absurd (omega arith)
  found_none [] last (suc place) less = refl
  found_none (p ∷ parts) last (suc place) less = found_none parts last place (omega arith)

  -- one part more, or a longer last one
  pub bytes_of-snoc : (parts : List (Part C)) (part : Part C) (last : List ℕ) → bytes_of bytes (parts ++ part ∷ []) last ≡ bytes_of bytes parts (part_bytes bytes part ++ last)
  bytes_of-snoc [] part last = refl
  bytes_of-snoc (p ∷ parts) part last = ap (λ (t : List ℕ). part_bytes bytes p ++ t) (bytes_of-snoc parts part last)

  pub bytes_of-append : (parts : List (Part C)) (last more : List ℕ) → bytes_of bytes parts (last ++ more) ≡ bytes_of bytes parts last ++ more
  bytes_of-append [] last more = refl
  bytes_of-append (p ∷ parts) last more = ap (λ (t : List ℕ). part_bytes bytes p ++ t) (bytes_of-append parts last more) ∙ sym (append_assoc (part_bytes bytes p) (bytes_of bytes parts last) more)

  -- what was written is of the first part
  pub within-first : (written : ℕ) (parts : List (Part C)) (last : List ℕ) → IsWithin bytes written parts last → written ≤ length (part_at bytes parts last 0)
  within-first written [] last h = ⊎_elim
      (λ (less : written < length last). omega (arith, less))
      (λ (all : length last ≤ written). let none : written + length last ≡ 0 = h all in omega (arith, none))
      (cases_lt written (length last))
  within-first written (p ∷ parts) last h = omega (arith, h.0)

  within-all : (written : ℕ) (parts : List (Part C)) (last : List ℕ) → IsWithin bytes written parts last → written ≤ length (bytes_of bytes parts last)
  within-all written [] last h = within-first written [] last h
  within-all written (p ∷ parts) last h = omega (arith, h.0, length-append (part_bytes bytes p) (bytes_of bytes parts last))

  pub within-append : (written : ℕ) (parts : List (Part C)) (last more : List ℕ) → IsWithin bytes written parts last → IsWithin bytes written parts (last ++ more)
  within-append written [] last more h = λ short. let longer = length-append last more in let none : written + length last ≡ 0 = h (omega (arith, longer, short)) in omega (arith, none, short, longer)
  within-append written (p ∷ parts) last more h = h

  filled-snoc : (parts : List (Part C)) (part : Part C) → AreFilled bytes parts → 0 < length (part_bytes bytes part) → AreFilled bytes (parts ++ part ∷ [])
  filled-snoc [] part h is = (is, tt)
  filled-snoc (p ∷ parts) part h is = (h.0, filled-snoc parts part h.1 is)

  -- The first four parts lie before what else there is.
  pub bytes_of-four : (parts : List (Part C)) (last : List ℕ) → (rest : List ℕ) × (bytes_of bytes parts last ≡ part_at bytes parts last 0 ++ (part_at bytes parts last 1 ++ (part_at bytes parts last 2 ++ (part_at bytes parts last 3 ++ rest))))
  bytes_of-four [] last = ([], sym (append-nil last))
  bytes_of-four (a ∷ []) last = ([], ap (λ (t : List ℕ). part_bytes bytes a ++ t) (sym (append-nil last)))
  bytes_of-four (a ∷ b ∷ []) last = ([], ap (λ (t : List ℕ). part_bytes bytes a ++ (part_bytes bytes b ++ t)) (sym (append-nil last)))
  bytes_of-four (a ∷ b ∷ c ∷ []) last = ([], ap (λ (t : List ℕ). part_bytes bytes a ++ (part_bytes bytes b ++ (part_bytes bytes c ++ t))) (sym (append-nil last)))
  bytes_of-four (a ∷ b ∷ c ∷ d ∷ parts) last = (bytes_of bytes parts last, refl)

  -- a part more, that is no shorter than the last one was
  pub within-snoc : (written : ℕ) (parts : List (Part C)) (last : List ℕ) (part : Part C) → IsWithin bytes written parts last → length last ≤ length (part_bytes bytes part) → 0 < length (part_bytes bytes part) → IsWithin bytes written (parts ++ part ∷ []) []
  within-snoc written [] last part h long is = (
    ⊎_elim
        (λ (less : written < length last). omega (arith, less, long))
        (λ (all : length last ≤ written). let none : written + length last ≡ 0 = h all in omega (arith, none, is))
        (cases_lt written (length last)),
    tt,
  )
  within-snoc written (p ∷ parts) last part h long is = (h.0, filled-snoc parts part h.1 is)

  -- nothing of the first part was written
  pub within-none : (parts : List (Part C)) (last : List ℕ) → AreFilled bytes parts → IsWithin bytes 0 parts last
  within-none [] last h = λ short. omega (arith, short)
  within-none (p ∷ parts) last h = (h.0, h.1)

  -- what waits grows by what is put behind
  pub grows : (written : ℕ) (parts : List (Part C)) (last more : List ℕ) → IsWithin bytes written parts last → drop written (bytes_of bytes parts (last ++ more)) ≡ drop written (bytes_of bytes parts last) ++ more
  grows written parts last more h = ap (λ (t : List ℕ). drop written t) (bytes_of-append parts last more) ∙ drop-append-le written (bytes_of bytes parts last) more (within-all written parts last h)

  pub grows-by_part : (written : ℕ) (parts : List (Part C)) (last : List ℕ) (part : Part C) → last ≡ [] → IsWithin bytes written parts last → drop written (bytes_of bytes (parts ++ part ∷ []) last) ≡ drop written (bytes_of bytes parts last) ++ part_bytes bytes part
  grows-by_part written parts last part none h =
      ap (λ (t : List ℕ). drop written (bytes_of bytes (parts ++ part ∷ []) t)) none
      ∙ ap (λ (t : List ℕ). drop written t) (bytes_of-snoc parts part [] ∙ ap (λ (t : List ℕ). bytes_of bytes parts t) (append-nil (part_bytes bytes part) ∙ ap (λ (t : List ℕ). t ++ part_bytes bytes part) (sym none)))
      ∙ grows written parts last (part_bytes bytes part) h

module _ {C : Type 0} (bytes : C → List ℕ) where
  -- what a part more does, where the last one is empty afterwards
  pub bytes-more : (parts between new : List (Part C)) (part : Part C) (last now : List ℕ)
      → new ≡ between ++ part ∷ [] → between ≡ parts → part_bytes bytes part ≡ last → now ≡ [] → bytes_of bytes new now ≡ bytes_of bytes parts last
  bytes-more parts between new part last now more same is none =
      ap (λ (p : List (Part C)). bytes_of bytes p now) (more ∙ ap (λ (p : List (Part C)). p ++ part ∷ []) same)
      ∙ ap (λ (l : List ℕ). bytes_of bytes (parts ++ part ∷ []) l) none
      ∙ bytes_of-snoc bytes parts part []
      ∙ ap (λ (l : List ℕ). bytes_of bytes parts l) (append-nil (part_bytes bytes part) ∙ is)

  pub within-more : (written : ℕ) (parts between new : List (Part C)) (part : Part C) (last now : List ℕ)
      → new ≡ between ++ part ∷ [] → between ≡ parts → now ≡ [] → length last ≤ length (part_bytes bytes part) → 0 < length (part_bytes bytes part)
      → IsWithin bytes written parts last → IsWithin bytes written new now
  within-more written parts between new part last now more same none long is h =
      subst (λ (l : List ℕ). IsWithin bytes written new l) (sym none)
      (subst (λ (p : List (Part C)). IsWithin bytes written p []) (sym (more ∙ ap (λ (p : List (Part C)). p ++ part ∷ []) same)) (within-snoc bytes written parts last part h long is))

  pub view-more : (written : ℕ) (parts between new : List (Part C)) (part : Part C) (last all : List ℕ)
      → new ≡ between ++ part ∷ [] → between ≡ parts → last ≡ [] → IsWithin bytes written parts last
      → drop written (bytes_of bytes parts last) ≡ all → drop written (bytes_of bytes new last) ≡ all ++ part_bytes bytes part
  view-more written parts between new part last all more same none h is =
      ap (λ (p : List (Part C)). drop written (bytes_of bytes p last)) (more ∙ ap (λ (p : List (Part C)). p ++ part ∷ []) same)
      ∙ grows-by_part bytes written parts last part none h
      ∙ ap (λ (t : List ℕ). t ++ part_bytes bytes part) is

  -- what a longer last part does
  pub view-longer : {R F : Type 0} (result : Result R F) (written : ℕ) (parts : List (Part C)) (last new more all : List ℕ)
      → new ≡ (if is_ok result then last ++ more else last) → IsWithin bytes written parts last
      → drop written (bytes_of bytes parts last) ≡ all → OnOk result (drop written (bytes_of bytes parts new) ≡ all ++ more)
  view-longer (Ok x) written parts last new more all longer h is =
      ap (λ (l : List ℕ). drop written (bytes_of bytes parts l)) longer ∙ grows bytes written parts last more h ∙ ap (λ (t : List ℕ). t ++ more) is
  view-longer (Err e) written parts last new more all longer h is = tt

  -- what is lent is a front of what waits
  pub lends : (written : ℕ) (parts : List (Part C)) (last a b c d all : List ℕ)
      → a ≡ drop written (part_at bytes parts last 0) → b ≡ part_at bytes parts last 1 → c ≡ part_at bytes parts last 2 → d ≡ part_at bytes parts last 3
      → IsWithin bytes written parts last → drop written (bytes_of bytes parts last) ≡ all
      → (rest : List ℕ) × (all ≡ (a ++ (b ++ (c ++ (d ++ [])))) ++ rest)
  lends written parts last a b c d all first second third fourth h is =
      let r = bytes_of-four bytes parts last in
      let p = part_at bytes parts last in
      let rest : List ℕ = r.0 in
      let behind : List ℕ = p 1 ++ (p 2 ++ (p 3 ++ rest)) in
      let flat : (a ++ (b ++ (c ++ (d ++ [])))) ++ rest ≡ a ++ (b ++ (c ++ (d ++ rest))) = simp append_assoc in
      let same : a ++ (b ++ (c ++ (d ++ rest))) ≡ drop written (p 0) ++ behind = λ i. first i ++ (second i ++ (third i ++ (fourth i ++ rest))) in (
        rest,
        sym is ∙ ap (λ (t : List ℕ). drop written t) r.1 ∙ drop-append-le written (p 0) behind (within-first bytes written parts last h) ∙ sym same ∙ sym flat,
      )
