use Rattle.std.proofs.Common.{◌+◌, ◌<◌, ◌++◌, ◌∷◌, [], length, take, drop, ap, ◌∙◌, arith, length-append, append_assoc}
use Rattle.match_rules.specs.RuleTexts.{apostrophe, backslash}
use Rattle.match_rules.specs.CanonicalTexts.{piece_text, value_text}
use Rattle.match_rules.proofs.CanonicalTextLaws.{last_piece_text, next_piece_text, piece_within}
use Rattle.match_rules.proofs.canonical.append_value.Goals as goal

pub append_piece-requires : goal.append_piece-requires
append_piece-requires c =
    let whole = ap (λ t. length t) c.pieces.invariant in
    omega (arith, whole, length-append c.pieces.text (value_text c.pieces.rest.now), length-append c.args.text.now (value_text c.args.value.now), c.requires, piece_within c.pieces.rest.now c.piece_length-end.result c.piece_length-end.ensures.piece c.piece_length-end.ensures.within)

pub returns-then-end-rest : goal.returns-then-end-rest
returns-then-end-rest c =
    c.append_piece.ensures ∙ ap (λ t. c.pieces.text ++ t) (last_piece_text c.pieces.rest.now c.piece_length-end.result c.piece_length-end.ensures.piece c.if-end-rest.true) ∙ c.pieces.invariant

pub append-requires : goal.append-requires
append-requires c =
    let whole = ap (λ t. length t) c.pieces.invariant in
    let less : c.piece_length-end.result < length c.pieces.rest.now = omega (arith, c.piece_length-end.ensures.within, c.if-end-rest.false) in
    let next = ap (λ t. length t) (next_piece_text c.pieces.rest.now c.piece_length-end.result c.piece_length-end.ensures.piece less) in
    let piece = piece_text (take c.piece_length-end.result c.pieces.rest.now) in
    omega (
      arith,
      whole,
      next,
      length-append c.pieces.text (value_text c.pieces.rest.now),
      length-append c.args.text.now (value_text c.args.value.now),
      length-append piece (backslash ∷ apostrophe ∷ value_text (drop (c.piece_length-end.result + 1) c.pieces.rest.now)),
      ap (λ t. length t) c.append_piece.ensures,
      length-append c.pieces.text piece,
      c.requires,
    )

pub pieces-preserved : goal.pieces-preserved
pieces-preserved c =
    let less : c.piece_length-end.result < length c.pieces.rest.now = omega (arith, c.piece_length-end.ensures.within, c.if-end-rest.false) in
    let rest = drop (c.piece_length-end.result + 1) c.pieces.rest.now in
    let piece = piece_text (take c.piece_length-end.result c.pieces.rest.now) in
    ap (λ t. c.append.new.self ++ value_text t) c.behind-rest.ensures
    ∙ ap (λ t. t ++ value_text rest) (c.append.ensures ∙ ap (λ t. t ++ backslash ∷ apostrophe ∷ []) c.append_piece.ensures)
    ∙ append_assoc (c.pieces.text ++ piece) (backslash ∷ apostrophe ∷ []) (value_text rest)
    ∙ append_assoc c.pieces.text piece (backslash ∷ apostrophe ∷ value_text rest)
    ∙ ap (λ t. c.pieces.text ++ t) (next_piece_text c.pieces.rest.now c.piece_length-end.result c.piece_length-end.ensures.piece less)
    ∙ c.pieces.invariant
