use Rattle.std.proofs.Common.{◌≡◌, ◌<◌, ◌-◌, ℕ, Bool, true, false, length, take, drop, arith, refl, ap, ◌∙◌}
use Rattle.std.specs.Prelude.{Ok, Err, nat_lt, if◌then◌else◌}
use Rattle.std.proofs.lemmas.Result.{err_from_is_err_and}
use Rattle.std.proofs.lemmas.Bool.{ltb-true}
use Rattle.message.specs.declared.fault.RelayFault.{RelayFault}
use Rattle.message.specs.declared.fault.RelayFault.TheVariants.{TooLong}
use Rattle.message.specs.Layout.{count_below, fields_end, known_places, before_end, last_end}
use Rattle.message.proofs.Lines.{within_take, within_drop, sent_after}
use Rattle.message.proofs.Known.{within_known}
use Rattle.message.proofs.layout.layout_of.Goals as goal

refused : (n : ℕ) (x : RelayFault) → Err x ≡ (if nat_lt last_end n then Err TooLong else Ok n) → (x ≡ TooLong) × (last_end < n)
refused n x e = at (nat_lt last_end n) refl e where
  at : (b : Bool) → nat_lt last_end n ≡ b → Err x ≡ (if b then Err TooLong else Ok n) → (x ≡ TooLong) × (last_end < n)
  at true t f = (let g : x ≡ TooLong = cc in g, ltb-true last_end n t)
  at false t f = absurd cc

pub fields_end-requires-clause-within : goal.fields_end-requires-clause-within
fields_end-requires-clause-within c =
    let known = c.known_fields-known.result.now in
    within_take 8589934592 c.count_below.result known (rw c.known_fields-known.ensures (within_known 8589934592 c.args.fields.now c.requires.within))

pub fields_end-requires-2-clause-within : goal.fields_end-requires-2-clause-within
fields_end-requires-2-clause-within c =
    let known = c.known_fields-known.result.now in
    within_take 8589934592 (length known - c.count_below-2.result) (drop c.count_below-2.result known)
    (within_drop 8589934592 c.count_below-2.result known (rw c.known_fields-known.ensures (within_known 8589934592 c.args.fields.now c.requires.within)))

pub returns-in_err-sender-clause-too_long : goal.returns-in_err-sender-clause-too_long
returns-in_err-sender-clause-too_long c =
    let p = err_from_is_err_and c.from_residual.result c.from_residual.ensures.1 in
    let known = c.known_fields-known.result.now in
    let code : c.count_below.result ≡ count_below 7 known = c.count_below.ensures.value ∙ ap (λ (n : ℕ). count_below n known) c.code-code.ensures in
    let same : fields_end 16 (take c.count_below.result known) ≡ before_end (known_places c.args.fields.now) =
    ap (λ (n : ℕ). fields_end 16 (take n known)) code ∙ ap before_end c.known_fields-known.ensures in
    let r = refused (fields_end 16 (take c.count_below.result known)) c.in_err-sender.field-0.0 c.in_err-sender.ensures in
    rw (p.1, p.2) (r.0, omega (arith, r.1, same, sent_after c.args.name.now (known_places c.args.fields.now)))
