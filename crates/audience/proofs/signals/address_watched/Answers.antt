use Rattle.std.proofs.Common.{◌≡◌, List, filter, map, not, IfOk, ap, subst, ◌∙◌}
use Rattle.match_rules.specs.Facts.{Argument, Facts}
use Rattle.match_rules.specs.FactsView.{argument_of}
use Rattle.seq_bus_core.specs.Recipients.{addressed_to, monitors_shown}
use Rattle.seq_bus_core.specs.Steps.{facts_of, is_among, recipients_of}
use Rattle.seq_bus_core.specs.declared.connection.Conn.{Conn}
use Rattle.seq_bus_core.specs.declared.signal.AddressedSignal.{AddressedSignal}
use Rattle.seq_bus_core.specs.declared.signal.BusSignal.{BusSignal}
use Rattle.audience.proofs.signals.address_watched.Goals as goal

abbrev with_arguments : List Argument → Facts → Facts
with_arguments seen facts = record facts { arguments = seen }

abbrev others : List Conn → List Conn → List Conn
others to shown = filter (λ m. not (is_among to m)) shown

pub returns : goal.returns
returns g c =
    let bus = g.A.Audience.state c.args.audience.now in
    let signal = c.args.signal in
    let slice = map argument_of c.as_slice.result.now in
    let seen : slice ≡ (facts_of signal).arguments =
    ap (map argument_of) c.as_slice.ensures.value ∙ c.arguments-arguments.ensures ∙ ap (λ (s : BusSignal). (facts_of s).arguments) c.get-2.ensures in
    let lent : c.facts-facts.result ≡ facts_of signal =
    c.facts-facts.ensures ∙ ap (λ (s : BusSignal). with_arguments slice (facts_of s)) c.get-3.ensures ∙ ap (λ (xs : List Argument). with_arguments xs (facts_of signal)) seen in
    let shown : c.as_slice-3.result.now ≡ monitors_shown bus (facts_of signal) =
    c.as_slice-3.ensures ∙ c.add_shown.ensures.value ∙ ap (monitors_shown bus) lent in
    let added : c.add_recipients.new.to ≡ recipients_of bus signal = c.add_recipients.ensures ∙ ap (recipients_of bus) c.get-4.ensures in
    let to : c.as_slice-5.result.now ≡ recipients_of bus signal = c.as_slice-5.ensures ∙ added in
    let monitors : c.as_slice-6.result.now ≡ others (recipients_of bus signal) (monitors_shown bus (facts_of signal)) =
    c.as_slice-6.ensures ∙ c.push_others.ensures ∙ ap (λ (xs : List Conn). others xs c.as_slice-3.result.now) (c.as_slice-4.ensures ∙ added)
    ∙ ap (others (recipients_of bus signal)) shown in
    subst (λ (told : AddressedSignal). IfOk c.addressed_to-2.result (λ x. x ≡ told))
    (ap (λ (xs : List Conn). addressed_to signal xs c.as_slice-6.result.now) to ∙ ap (addressed_to signal (recipients_of bus signal)) monitors)
    c.addressed_to-2.ensures
