use Rattle.std.proofs.Common.{◌≡◌, ◌≤◌, ◌-◌, ◌+◌, ℕ, length, drop, take, List, ◌++◌, length-append, zero-add, refl, arith, ap, sym, ◌∙◌}
use Rattle.std.proofs.Math.ListN.{replicate}
use Rattle.std.proofs.Math.Seq.{take-append_seam, drop-append_seam, drop-append-add, drop-drop}
use Rattle.std.proofs.lemmas.Grind.{merely}
use Rattle.std.proofs.lemmas.List.{length-replicate, drop-replicate}
use Rattle.std.proofs.lemmas.Str.{IsUtf8-append}
use Rattle.std.specs.Str.{IsUtf8}
use Rattle.names.proofs.short_text.FixedText.joined.Goals as goal

abbrev Filled : ℕ → ℕ → List ℕ → Type 0
Filled most n room = (n ≤ most) × (length room ≡ most) × (drop n room ≡ replicate (most - n) 0) × ∥ IsUtf8 (take n room) ∥₁

filled : (most : ℕ) (text zeros : List ℕ) (n : ℕ) → n ≡ length text → length text ≤ most → IsUtf8 text → zeros ≡ replicate (most - length text) 0 → Filled most n (text ++ zeros)
filled most text zeros n is fits utf8 e =
    let long : length zeros ≡ most - length text = ap length e ∙ length-replicate (most - length text) 0 in
    rw is (fits, omega (arith, length-append text zeros), drop-append_seam text zeros ∙ e, merely (rw take-append_seam utf8))

both : (front back zeros : List ℕ) → take (length front) (front ++ drop (length front) zeros) ++ back ++ drop (length front + length back) (front ++ drop (length front) zeros) ≡ (front ++ back) ++ drop (length front + length back) zeros
both front back zeros = rw (take-append_seam, drop-append-add, drop-drop) refl

pub invariant_of-result : goal.invariant_of-result
invariant_of-result g c =
    let room : c.write_at-2.new.room ≡ take (length c.args.front.now) c.write_at.new.room ++ c.args.back.now ++ drop (length c.args.front.now + length c.args.back.now) c.write_at.new.room = rw c.as_bytes-2.ensures.value at c.write_at-2.ensures in
    let first : c.write_at.new.room ≡ c.args.front.now ++ drop (length c.args.front.now) (replicate g.row.ROOM 0) = rw (c.as_bytes.ensures.value, zero-add) at c.write_at.ensures in
    let whole : c.write_at-2.new.room ≡ (c.args.front.now ++ c.args.back.now) ++ drop (length c.args.front.now + length c.args.back.now) (replicate g.row.ROOM 0) = rw first at room ∙ both c.args.front.now c.args.back.now (replicate g.row.ROOM 0) in
    let long : length c.args.front.now + length c.args.back.now ≡ length (c.args.front.now ++ c.args.back.now) = sym (length-append c.args.front.now c.args.back.now) in
    let utf8 : IsUtf8 (c.args.front.now ++ c.args.back.now) = IsUtf8-append c.args.front.now c.args.back.now c.utf8.front c.utf8.back in
    rw whole (filled g.row.ROOM (c.args.front.now ++ c.args.back.now) (drop (length c.args.front.now + length c.args.back.now) (replicate g.row.ROOM 0)) (length c.args.front.now + length c.args.back.now) long (omega (arith, length-append c.args.front.now c.args.back.now)) utf8 (drop-replicate (length c.args.front.now + length c.args.back.now) g.row.ROOM 0 ∙ ap (λ (n : ℕ). replicate (g.row.ROOM - n) 0) long))
