use Rattle.std.proofs.Common.{◌≡◌, true, false, sym, ◌∙◌, arith}
use Rattle.bus_view.proofs.OpeningLemmas.{all_ownable}
use Rattle.bus_view.proofs.opening.can_open.Goals as goal

pub returns-then-not-are_ownable : goal.returns-then-not-are_ownable
returns-then-not-are_ownable c = (
  λ never. absurd cc,
  λ h. let all : true ≡ false = sym ((all_ownable c.args.services.now).1 h.ownable) ∙ sym c.if-not-are_ownable.ensures in absurd cc,
)

pub returns : goal.returns
returns c = (
  λ distinct. record {
    routed = (omega arith, c.if-routers-gt-MAX_ROUTERS.false);
    few = c.if-services-gt-MAX_SERVICES.false;
    distinct = c.are_distinct.ensures.0 distinct;
    ownable = (all_ownable c.args.services.now).0 (sym c.if-not-are_ownable.ensures);
  },
  λ h. c.are_distinct.ensures.1 h.distinct,
)
