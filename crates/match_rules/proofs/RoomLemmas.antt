-- Writes to a part of the bytes in fixed room.
use Rattle.std.proofs.Common.{◌≡◌, ℕ, ◌+◌, ◌-◌, ◌≤◌, ◌++◌, length, take, drop, sym, ap, ◌∙◌, arith, length-append, length-drop}
use Rattle.std.proofs.Math.ListN.{replicate}
use Rattle.std.proofs.lemmas.List.{drop-replicate, drop-take, length-take-le, take-take}
use Rattle.std.proofs.lemmas.Slice.{drop-put_mid, take-put_mid}
use Rattle.std.proofs.Math.Seq.{drop-drop}
use borrow.Rule.Slice.PartMut.{put_mid, mid_of}
use Rattle.names.specs.Texts.{Text}

-- What lies behind the bytes stays zero.
pub zero_behind :
    (bytes part : Text) (at count n : ℕ) → at + count ≤ n → n ≤ 1024 → length bytes ≡ 1024 → length part ≡ count → drop n bytes ≡ replicate (1024 - n) 0 →
    (n ≤ 1024) × (length (put_mid at count bytes part) ≡ 1024) × (drop n (put_mid at count bytes part) ≡ replicate (1024 - n) 0)
zero_behind bytes part at count n within fits size same zeros =
    let front : length (take at bytes) ≡ at = length-take-le at bytes (omega (arith, within, fits, size)) in
    let back : length (drop count (drop at bytes)) ≡ 1024 - at - count = omega (arith, length-drop count (drop at bytes), length-drop at bytes, size) in
    let behind : length (part ++ drop count (drop at bytes)) ≡ length part + length (drop count (drop at bytes)) = length-append part (drop count (drop at bytes)) in
    let whole : length (put_mid at count bytes part) ≡ length (take at bytes) + length (part ++ drop count (drop at bytes)) = length-append (take at bytes) (part ++ drop count (drop at bytes)) in
    (fits, omega (arith, front, back, behind, whole, same, within, fits), drop-put_mid at count bytes part n within (omega (arith, within, fits, size)) same ∙ zeros)

pub zero_further : (bytes : Text) (n more : ℕ) → drop n bytes ≡ replicate (1024 - n) 0 → drop (n + more) bytes ≡ replicate (1024 - (n + more)) 0
zero_further bytes n more zeros =
    let left : 1024 - n - more ≡ 1024 - (n + more) = omega arith in
    sym (drop-drop more n bytes) ∙ ap (λ rest. drop more rest) zeros ∙ drop-replicate more (1024 - n) 0 ∙ ap (λ k. replicate k 0) left

pub part_moved :
    (bytes part self : Text) (at count n size : ℕ) → at + count ≤ n → n ≤ length bytes → take n bytes ≡ self → size ≡ n - at →
    part ≡ drop (length (mid_of at size bytes) - count) (mid_of at size bytes) ++ take (length (mid_of at size bytes) - count) (mid_of at size bytes) →
    take n (put_mid at size bytes part) ≡ take at self ++ (drop (length self - count) self ++ take (length self - count - at) (drop at self))
part_moved bytes part self at count n size within fits is sized turned =
    let span : n ≡ at + size = omega (arith, sized, within) in
    let middle : mid_of at size bytes ≡ drop at self = sym (drop-take at size bytes) ∙ ap (λ k. drop at (take k bytes)) (sym span) ∙ ap (λ t. drop at t) is in
    let long : length self ≡ n = ap (λ t. length t) (sym is) ∙ length-take-le n bytes fits in
    let rest : length (drop at self) ≡ size = omega (arith, length-drop at self, long, sized) in
    let parts : part ≡ drop (size - count) (drop at self) ++ take (size - count) (drop at self) =
    turned ∙ ap (λ t. drop (length t - count) t ++ take (length t - count) t) middle ∙ ap (λ k. drop (k - count) (drop at self) ++ take (k - count) (drop at self)) rest
    in
    let turned_length : length part ≡ size = omega (arith, ap (λ t. length t) parts, length-append (drop (size - count) (drop at self)) (take (size - count) (drop at self)), length-drop (size - count) (drop at self), length-take-le (size - count) (drop at self) (omega (arith, rest)), rest, within, sized) in
    let front : take at bytes ≡ take at self = sym (take-take at n bytes (omega (arith, within))) ∙ ap (λ t. take at t) is in
    let last : drop (size - count) (drop at self) ≡ drop (length self - count) self = drop-drop (size - count) at self ∙ ap (λ k. drop k self) (omega (arith, long, span, within)) in
    let between : size - count ≡ length self - count - at = omega (arith, long, span, within) in
    take-put_mid at size bytes part n (omega (arith, turned_length, span)) (omega (arith, within, fits))
    ∙ ap (λ t. t ++ part) front ∙ ap (λ t. take at self ++ t) parts ∙ ap (λ t. take at self ++ (t ++ take (size - count) (drop at self))) last
    ∙ ap (λ k. take at self ++ (drop (length self - count) self ++ take k (drop at self))) between
