use Rattle.std.specs.Prelude.{◌↔◌, IsOk}
use Rattle.names.specs.Texts.{Text}
use Rattle.names.specs.WellKnown.{IsNamespace, namespace_fault}
use Rattle.std.proofs.Common.{sym, subst, ◌∙◌}
use Rattle.names.proofs.Faults.{namespace_none, none_namespace, ok_where}
use Rattle.names.proofs.well_known_name.WellKnown.is_namespace.Goals as goal

pub returns : goal.returns
returns c =
    let same = c.as_bytes.ensures.value in
    let told = subst (λ (t : Text). IsOk c.check.result ↔ IsNamespace t) same (ok_where (namespace_fault c.as_bytes.result.now) (none_namespace c.as_bytes.result.now) (namespace_none c.as_bytes.result.now) c.check.result c.check.ensures.fault) in
    (λ ok. told.0 (sym c.is_ok.ensures.value ∙ ok), λ is. c.is_ok.ensures.value ∙ told.1 is)
