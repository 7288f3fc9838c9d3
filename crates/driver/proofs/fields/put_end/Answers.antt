use Rattle.std.proofs.Common.{subst, List, ◌++◌, append_assoc, ap, ◌∙◌, Some}
use Rattle.std.specs.Prelude.{option_map}
use Rattle.names.specs.BusName.{bus_text}
use Rattle.names.specs.UniqueName.{unique_text}
use Rattle.marshal_core.specs.declared.order.Order.TheVariants.{Little}
use Rattle.marshal_core.specs.Values.{a_string}
use Rattle.message_core.specs.HeaderFields.{Field}
use Rattle.message_core.specs.Headers.{AreWritten, optional_field, signature_field}
use Rattle.message_core.specs.declared.header_field.HeaderField.TheVariants as field
use Rattle.driver.proofs.fields.put_end.Goals as goal

pub returns-clause-put : goal.returns-clause-put
returns-clause-put c = λ types sent e valid h.
    let d : List Field = optional_field field.Destination a_string (option_map unique_text c.args.destination) in
    let s : List Field = optional_field field.Sender a_string (Some bus_text) in
    let g : List Field = signature_field types in
    let whole = c.put_signature.ensures.put Little types ((sent ++ d) ++ s) (c.as_bytes.ensures.value ∙ e) valid (c.put_string.ensures.put (sent ++ d) (c.put_destination.ensures.put sent h)) in
    subst (λ (fs : List Field). AreWritten Little fs c.put_signature.new.fields.items) (ap (λ (fs : List Field). fs ++ g) (append_assoc sent d s) ∙ append_assoc sent (d ++ s) g) whole
