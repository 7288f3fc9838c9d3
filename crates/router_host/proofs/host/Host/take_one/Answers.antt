use Rattle.std.proofs.Common.{sym, ◌∙◌}
use Rattle.std.proofs.lemmas.Bool.{false≢true}
use Rattle.router_host.specs.Doing.{Takes}
use Rattle.router_host.proofs.Doings.{does_one}
use Rattle.router_host.proofs.host.Host.take_one.Goals as goal

pub returns-in_err-serve-clause-does : goal.returns-in_err-serve-clause-does
returns-in_err-serve-clause-does g c =
    does_one (Takes c.args.slot c.in-Some.envelope) (
      c.requires.none,
      (λ blocked. false≢true (sym (c.may_take.ensures.blocked blocked) ∙ c.if-not-may_take.false)),
      (
        c.take.new.self,
        rw (← c.may_take.ensures.same, ← c.self.view_is, ← c.self-inside.view_is) c.in-Some.ensures.taken,
        rw (← c.may_take.ensures.same, ← c.self.view_is, ← c.self-inside.view_is) c.serve.ensures.brought,
      ),
    )

pub returns-clause-does : goal.returns-clause-does
returns-clause-does g c =
    does_one (Takes c.args.slot c.in-Some.envelope) (
      c.requires.none,
      (λ blocked. false≢true (sym (c.may_take.ensures.blocked blocked) ∙ c.if-not-may_take.false)),
      (
        c.take.new.self,
        rw (← c.may_take.ensures.same, ← c.self.view_is, ← c.self-inside.view_is) c.in-Some.ensures.taken,
        rw (← c.may_take.ensures.same, ← c.self.view_is, ← c.self-inside.view_is) c.serve.ensures.brought,
      ),
    )
