use Rattle.std.proofs.Common.{◌≡◌, ◌+◌, ◌++◌, ◌∷◌, [], ◌%◌, ◌/◌, refl, length, take, drop, ap, ◌∙◌, arith, length-append}
use Rattle.match_rules.specs.Keys.{key_place}
use Rattle.match_rules.specs.Reading.{bytes_before}
use Rattle.match_rules.specs.RuleBytes.{rule_bytes, entry_bytes}
use Rattle.match_rules.proofs.Putting.{bytes_before-within, put_kept, moved_in}
use Rattle.match_rules.proofs.entry_map.EntryMap.put.Goals as goal

pub move_last-requires : goal.move_last-requires
move_last-requires c =
    let kept : length c.self.inside.bytes ≡ length (rule_bytes c.args.self.now) = ap (λ bytes. length bytes) (c.self.invariant.1 ∙ ap (λ rule. rule_bytes rule) c.self.view_is) in
    let head : length c.append.new.self ≡ length c.self.inside.bytes + 3 = ap (λ bytes. length bytes) c.append.ensures ∙ length-append c.self.inside.bytes (c.place-place.result ∷ length c.args.value.now % 256 ∷ length c.args.value.now / 256 ∷ []) in
    let whole : length c.append-2.new.self ≡ length c.append.new.self + length c.args.value.now = ap (λ bytes. length bytes) c.append-2.ensures ∙ length-append c.append.new.self c.args.value.now in
    omega (arith, kept, head, whole, c.bytes_before-at.ensures, bytes_before-within c.place-place.result c.args.self.now)

pub invariant_of-self : goal.invariant_of-self
invariant_of-self c =
    let kept : length c.self.inside.bytes ≡ length (rule_bytes c.args.self.now) = ap (λ bytes. length bytes) (c.self.invariant.1 ∙ ap (λ rule. rule_bytes rule) c.self.view_is) in
    let at : c.bytes_before-at.result ≡ bytes_before (key_place c.args.key) c.args.self.now = c.bytes_before-at.ensures ∙ ap (λ place. bytes_before place c.args.self.now) c.place-place.ensures in
    let headed = c.append.ensures ∙ ap (λ place. c.self.inside.bytes ++ (place ∷ length c.args.value.now % 256 ∷ length c.args.value.now / 256 ∷ [])) c.place-place.ensures in
    let moved =
    moved_in c.self.inside.bytes c.append.new.self c.append-2.new.self c.move_last.new.self c.args.value.now c.bytes_before-at.result (c.args.key, c.args.value.now)
    (omega (arith, kept, at, bytes_before-within (key_place c.args.key) c.args.self.now)) refl headed c.append-2.ensures c.move_last.ensures
    in
    let bytes =
    put_kept c.self.inside.bytes c.move_last.new.self c.args.self.now (c.args.key, c.args.value.now) c.self.view_is c.self.invariant.0 c.self.invariant.1 c.requires.is_key c.requires.taken
    c.requires.new c.requires.not_excluded (moved ∙ ap (λ n. take n c.self.inside.bytes ++ entry_bytes (c.args.key, c.args.value.now) ++ drop n c.self.inside.bytes) at)
    in (bytes.0, bytes.1)

pub returns : goal.returns
returns c =
    let kept : length c.self.inside.bytes ≡ length (rule_bytes c.args.self.now) = ap (λ bytes. length bytes) (c.self.invariant.1 ∙ ap (λ rule. rule_bytes rule) c.self.view_is) in
    let at : c.bytes_before-at.result ≡ bytes_before (key_place c.args.key) c.args.self.now = c.bytes_before-at.ensures ∙ ap (λ place. bytes_before place c.args.self.now) c.place-place.ensures in
    let headed = c.append.ensures ∙ ap (λ place. c.self.inside.bytes ++ (place ∷ length c.args.value.now % 256 ∷ length c.args.value.now / 256 ∷ [])) c.place-place.ensures in
    let moved =
    moved_in c.self.inside.bytes c.append.new.self c.append-2.new.self c.move_last.new.self c.args.value.now c.bytes_before-at.result (c.args.key, c.args.value.now)
    (omega (arith, kept, at, bytes_before-within (key_place c.args.key) c.args.self.now)) refl headed c.append-2.ensures c.move_last.ensures
    in
    let bytes =
    put_kept c.self.inside.bytes c.move_last.new.self c.args.self.now (c.args.key, c.args.value.now) c.self.view_is c.self.invariant.0 c.self.invariant.1 c.requires.is_key c.requires.taken
    c.requires.new c.requires.not_excluded (moved ∙ ap (λ n. take n c.self.inside.bytes ++ entry_bytes (c.args.key, c.args.value.now) ++ drop n c.self.inside.bytes) at)
    in bytes.2
