use Rattle.std.proofs.Common.{◌≡◌, ℕ, List, [], ◌∷◌, ◌++◌, ap, ◌∙◌}
use Rattle.std.proofs.lemmas.List.{append_assoc}
use Rattle.hex.specs.Hex.{encode_lower}
use Rattle.sha1.specs.Sha1.{sha1}
use Rattle.sasl.specs.Settings.{cookie_digest}
use Rattle.sasl.proofs.digest.cookie_digest.Goals as goal

pub returns : goal.returns
unfolding cookie_digest
returns c =
    let challenge = c.args.challenge.now in
    let client = c.args.client.now in
    let cookie = c.args.cookie.now in
    let colon : List ℕ = 58 ∷ [] in
    let all = c.update-5.ensures _ (c.update-4.ensures _ (c.update-3.ensures _ (c.update-2.ensures _ (c.update.ensures [] c.new-hasher.ensures)))) in
    let joined : challenge ++ colon ++ client ++ colon ++ cookie ≡ challenge ++ 58 ∷ client ++ 58 ∷ cookie =
    ap (λ (x : List ℕ). x ++ colon ++ cookie) (append_assoc challenge colon client) ∙ append_assoc (challenge ++ 58 ∷ client) colon cookie in
    c.write_hex.ensures ∙ ap encode_lower (c.finalize.ensures _ all ∙ ap sha1 joined)
