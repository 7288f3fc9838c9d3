use Rattle.std.proofs.Common.{subst, IsTrue, ◌↔◌}
use Rattle.names.specs.WellKnown.{IsNamespace}
use Rattle.match_rules.specs.declared.key.Key.TheVariants.{Sender, Interface, Member, Path, PathNamespace, Destination, Argument0Namespace}
use Rattle.match_rules.proofs.NameBytes.{names_not_taken, namespace_taken}
use Rattle.match_rules.proofs.reading.takes.Goals as goal

pub returns-in-Err : goal.returns-in-Err
returns-in-Err c = rw c.in-Sender.is (names_not_taken Sender c.args.value.now tt c.in-Err.ensures.cases.0)

pub returns-in-Err-from_utf8 : goal.returns-in-Err-from_utf8
returns-in-Err-from_utf8 c = rw c.in-Interface.is (names_not_taken Interface c.args.value.now tt c.in-Err-from_utf8.ensures.cases.0)

pub returns-in-Err-from_utf8-2 : goal.returns-in-Err-from_utf8-2
returns-in-Err-from_utf8-2 c = rw c.in-Member.is (names_not_taken Member c.args.value.now tt c.in-Err-from_utf8-2.ensures.cases.0)

pub returns-in-Err-from_utf8-3 : goal.returns-in-Err-from_utf8-3
returns-in-Err-from_utf8-3 c = rw c.in-Path.is (names_not_taken Path c.args.value.now tt c.in-Err-from_utf8-3.ensures.cases.0)

pub returns-in-Err-from_utf8-4 : goal.returns-in-Err-from_utf8-4
returns-in-Err-from_utf8-4 c = rw c.in-PathNamespace.is (names_not_taken PathNamespace c.args.value.now tt c.in-Err-from_utf8-4.ensures.cases.0)

pub returns-in-Err-from_utf8-5 : goal.returns-in-Err-from_utf8-5
returns-in-Err-from_utf8-5 c = rw c.in-Destination.is (names_not_taken Destination c.args.value.now tt c.in-Err-from_utf8-5.ensures.cases.0)

pub returns-in-Ok-from_utf8-6 : goal.returns-in-Ok-from_utf8-6
returns-in-Ok-from_utf8-6 c = rw c.in-Argument0Namespace.is (namespace_taken c.is_namespace.result c.args.value.now (subst (λ text. IsTrue c.is_namespace.result ↔ IsNamespace text) c.in-Ok-from_utf8-6.ensures.cases.0 c.is_namespace.ensures))

pub returns-in-Err-from_utf8-6 : goal.returns-in-Err-from_utf8-6
returns-in-Err-from_utf8-6 c = rw c.in-Argument0Namespace.is (names_not_taken Argument0Namespace c.args.value.now tt c.in-Err-from_utf8-6.ensures.cases.0)
